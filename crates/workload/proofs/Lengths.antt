-- How many bytes a body has.
use Rattle.std.proofs.Common.{◌≡◌, ℕ, zero, suc, ◌+◌, ◌*◌, ◌/◌, ◌%◌, ◌<◌, ◌≤◌, List, [], ◌∷◌, ◌++◌, length, sym, ap, ◌∙◌, arith, length-append}
use Rattle.std.specs.Prelude.{decimal}
use Rattle.std.proofs.lemmas.Fmt.{decimal_digit, decimal_step}
use Rattle.workload.specs.Numbers.{next_number, lat7_of, lon7_of}
use Rattle.workload.specs.Upload.{node_text, nodes_text, body}
use Rattle.workload.specs.Request.{upload_head, upload_bytes}
use Rattle.workload.proofs.NodeLemmas.{nodes_text-zero, nodes_text-suc}

-- the numbers from one on, below another, have so many digits
abbrev HaveDigits : ℕ → ℕ → ℕ → Type 0
HaveDigits k low high = (n : ℕ) → low ≤ n → n < high → length (decimal n) ≡ k

one_digit : HaveDigits 1 1 10
one_digit n low small = ap length (decimal_digit n small)

digit_more : (k low high : ℕ) → 1 ≤ low → high * 10 ≤ 10000000000 → HaveDigits k low high → HaveDigits (k + 1) (low * 10) (high * 10)
digit_more k low high some fits less n above below =
    let front : length (decimal (n / 10)) ≡ k = less (n / 10) (omega arith) (omega arith) in
    ap length (decimal_step n (omega arith) (omega arith))
    ∙ omega (arith, length-append (decimal (n / 10)) ((48 + n % 10) ∷ []), front)

two_digits : HaveDigits 2 10 100
two_digits = digit_more 1 1 10 (omega arith) (omega arith) one_digit

nine_digits : HaveDigits 9 100000000 1000000000
nine_digits =
    let three : HaveDigits 3 100 1000 = digit_more 2 10 100 (omega arith) (omega arith) two_digits in
    let four : HaveDigits 4 1000 10000 = digit_more 3 100 1000 (omega arith) (omega arith) three in
    let five : HaveDigits 5 10000 100000 = digit_more 4 1000 10000 (omega arith) (omega arith) four in
    let six : HaveDigits 6 100000 1000000 = digit_more 5 10000 100000 (omega arith) (omega arith) five in
    let seven : HaveDigits 7 1000000 10000000 = digit_more 6 100000 1000000 (omega arith) (omega arith) six in
    let eight : HaveDigits 8 10000000 100000000 = digit_more 7 1000000 10000000 (omega arith) (omega arith) seven in
    digit_more 8 10000000 100000000 (omega arith) (omega arith) eight

length_lat7 : (number : ℕ) → length (decimal (lat7_of number)) ≡ 9
length_lat7 number = nine_digits (lat7_of number) (omega arith) (omega arith)

length_lon7 : (number : ℕ) → length (decimal (lon7_of number)) ≡ 9
length_lon7 number = nine_digits (lon7_of number) (omega arith) (omega arith)

length_node : (k number : ℕ) → length (node_text k number) ≡ 57 + length (decimal k)
unfolding node_text
length_node k number = simp length-append (omega (arith, length_lat7 number, length_lon7 number))

-- nodes up to the tenth, which has a digit more than the others
length_nodes : (left k number : ℕ) → 1 ≤ k → k + left ≡ 10 → length (nodes_text (suc left) k number) ≡ left * 58 + 59
length_nodes zero k number some ten =
    let digits : length (decimal k) ≡ 2 = two_digits k (omega arith) (omega arith) in
    ap length (nodes_text-suc zero k number)
    ∙ length-append (node_text k (next_number number)) (nodes_text zero (k + 1) (next_number number))
    ∙ omega (arith, length_node k (next_number number), digits, ap length (nodes_text-zero (k + 1) (next_number number)))
length_nodes (suc left) k number some ten =
    let digits : length (decimal k) ≡ 1 = one_digit k some (omega arith) in
    let more = length_nodes left (k + 1) (next_number number) (omega arith) (omega arith) in
    ap length (nodes_text-suc (suc left) k number)
    ∙ length-append (node_text k (next_number number)) (nodes_text (suc left) (k + 1) (next_number number))
    ∙ omega (arith, length_node k (next_number number), digits, more)

pub length_body : (number : ℕ) → length (body number) ≡ 673
unfolding body
length_body number = simp length-append (omega (arith, length_nodes 9 1 number (omega arith) (omega arith)))

-- the head of an upload and its body are put
pub upload_made :
    (session number : ℕ) (start head whole : List ℕ)
    → start ≡ []
    → head ≡ start ++ upload_head (session + 1) (session + 1) 673
    → whole ≡ head ++ body number
    → whole ≡ upload_bytes (session + 1) (session + 1) (body number)
upload_made session number start head whole none head_put body_put =
    body_put
    ∙ ap (λ before. before ++ body number) (head_put ∙ ap (λ before. before ++ upload_head (session + 1) (session + 1) 673) none)
    ∙ ap (λ size. upload_head (session + 1) (session + 1) size ++ body number) (sym (length_body number))
