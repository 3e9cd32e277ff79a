-- Worked rows: the definitions compute what they should.
use Rattle.std.proofs.Common.{◌≡◌, codes, [], ◌∷◌, refl}
use Rattle.std.specs.Fmt.{digits}
use Rattle.workload.specs.Numbers.{next_number, number_after, lat7_of, lon7_of}
use Rattle.workload.specs.Upload.{nodes_text, node_text}
use Rattle.workload.specs.Request.{creation, creation_bytes, upload_head, upload, uploads, requests}
use Rattle.workload.specs.Users.{users_text, user_line}

first_number : next_number 1 ≡ 7806831264735756412
first_number = refl

first_lat7 : lat7_of (next_number 1) ≡ 480100271
first_lat7 = refl

first_lon7 : lon7_of (next_number 1) ≡ 110469695
first_lon7 = refl

first_creation : creation_bytes 1 ≡ codes "PUT /api/0.6/changeset/create HTTP/1.1\r\nAuthorization: Bearer t1\r\n\r\n"
unfolding creation_bytes digits
first_creation = refl

head_of_ten : upload_head 10 10 673 ≡ codes "POST /api/0.6/changeset/10/upload HTTP/1.1\r\nAuthorization: Bearer t10\r\nContent-Length: 673\r\n\r\n"
unfolding upload_head digits
head_of_ten = refl

first_node : nodes_text 1 1 1 ≡ codes "{\"type\":\"node\",\"id\":-1,\"lat7\":480100271,\"lon7\":110469695},"
unfolding nodes_text node_text digits
first_node = refl

two_users : users_text 2 ≡ codes "1 t1 user m1\n2 t2 user m2\n"
unfolding users_text user_line digits
two_users = refl

-- the uploads go round the sessions, and each goes on where the one before it ended
three_requests : requests 1 1 2 ≡ creation 0 ∷ upload 0 1 ∷ upload 0 (number_after 10 1) ∷ []
unfolding requests uploads
three_requests = refl
