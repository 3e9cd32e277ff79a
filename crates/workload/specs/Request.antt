-- The requests of a load, as the bytes of HTTP/1.1 messages (RFC 9112, section 2.1). The server asks for no Host field, so none is sent.
use Rattle.std.specs.Prelude.{ℕ, zero, suc, ◌+◌, ◌%◌, List, [], ◌∷◌, ◌++◌, length, map, codes, decimal}
use Rattle.std.specs.List.{range_with_len}
use Rattle.workload.specs.declared.sent.Sent.{Sent}
use Rattle.workload.specs.Numbers.{number_after}
use Rattle.workload.specs.Upload.{body}

-- the creation of a changeset, without tags
unfoldable pub creation_bytes : ℕ → List ℕ
creation_bytes user =
    codes "PUT /api/0.6/changeset/create HTTP/1.1\r\nAuthorization: Bearer t" ++ decimal user ++ codes "\r\n\r\n"

-- the head of an upload to a changeset, with a body of so many bytes
unfoldable pub upload_head : ℕ → ℕ → ℕ → List ℕ
upload_head user changeset size =
    codes "POST /api/0.6/changeset/" ++ decimal changeset ++ codes "/upload HTTP/1.1\r\nAuthorization: Bearer t"
    ++ decimal user ++ codes "\r\nContent-Length: " ++ decimal size ++ codes "\r\n\r\n"

abbrev pub upload_bytes : ℕ → ℕ → List ℕ → List ℕ
upload_bytes user changeset body = upload_head user changeset (length body) ++ body

-- session s sends as user s + 1
abbrev pub creation : ℕ → Sent
creation session = record { session = session; bytes = creation_bytes (session + 1) }

-- and the sessions create in order, so its changeset is s + 1 too
abbrev pub upload : ℕ → ℕ → Sent
upload session number = record { session = session; bytes = upload_bytes (session + 1) (session + 1) (body number) }

-- so many uploads from that place on: they go round the sessions, and each has the next ten numbers
unfoldable pub uploads : ℕ → ℕ → ℕ → ℕ → List Sent
uploads zero place sessions number = []
uploads (suc left) place sessions number =
    upload (place % sessions) number ∷ uploads left (place + 1) sessions (number_after 10 number)

-- the creations of the sessions from one on, so many of them
abbrev pub creations : ℕ → ℕ → List Sent
creations left session = map creation (range_with_len session left)

-- the requests of a load, in the order in which they are sent
unfoldable pub requests : ℕ → ℕ → ℕ → List Sent
requests seed sessions count = creations sessions 0 ++ uploads count 0 sessions seed
