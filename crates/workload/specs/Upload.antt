-- The body of an upload: ten nodes, and a way over them.
use Rattle.std.specs.Prelude.{ℕ, zero, suc, ◌+◌, List, [], ◌++◌, codes, decimal}
use Rattle.workload.specs.Numbers.{next_number, lat7_of, lon7_of}

-- the node with the id -k, where its number puts it
unfoldable pub node_text : ℕ → ℕ → List ℕ
node_text k number =
    codes "{\"type\":\"node\",\"id\":-" ++ decimal k ++ codes ",\"lat7\":" ++ decimal (lat7_of number)
    ++ codes ",\"lon7\":" ++ decimal (lon7_of number) ++ codes "},"

-- so many nodes from the one with the id -k on, each with the number after the one before it
unfoldable pub nodes_text : ℕ → ℕ → ℕ → List ℕ
nodes_text zero k number = []
nodes_text (suc left) k number = node_text k (next_number number) ++ nodes_text left (k + 1) (next_number number)

-- the body of the upload after a number
unfoldable pub body : ℕ → List ℕ
body number =
    codes "{\"osmChange\":[{\"create\":[" ++ nodes_text 10 1 number
    ++ codes "{\"type\":\"way\",\"id\":-1,\"nodes\":[-1,-2,-3,-4,-5,-6,-7,-8,-9,-10]}]}]}"
