-- Pieces put behind one another.
use Rattle.std.proofs.Common.{◌≡◌, ℕ, List, ◌++◌, Result, Ok, Err, OnOk, ap, ◌∙◌, append_assoc}
use Rattle.std.specs.Prelude.{codes, decimal}
use Rattle.osm_base.specs.declared.memory.Memory.{Memory}
use Rattle.workload.specs.Numbers.{lat7_of, lon7_of}
use Rattle.workload.specs.Upload.{node_text}
use Rattle.workload.specs.Request.{upload_head}

pub three_put : (old first second third a b c : List ℕ) → a ≡ old ++ first → b ≡ a ++ second → c ≡ b ++ third → c ≡ old ++ (first ++ second ++ third)
three_put old first second third a b c first_put second_put third_put =
    third_put
    ∙ ap (λ before. before ++ third) (second_put ∙ ap (λ before. before ++ second) first_put ∙ append_assoc old first second)
    ∙ append_assoc old (first ++ second) third

-- what holds of a call that may want memory, where the rest follows
pub on_ok : {P Q : Type 0} (result : Result (Unit {0}) Memory) → (P → Q) → OnOk result P → OnOk result Q
on_ok (Ok done) follows holds = follows holds
on_ok (Err memory) follows holds = holds

-- three pieces with a number behind each, and a last one
four_put :
    (old first one second two third three last a b c d : List ℕ)
    → a ≡ old ++ (first ++ one) → b ≡ a ++ (second ++ two) → c ≡ b ++ (third ++ three) → d ≡ c ++ last
    → d ≡ old ++ (first ++ one ++ second ++ two ++ third ++ three ++ last)
four_put old first one second two third three last a b c d first_put second_put third_put last_put =
    let joined : d ≡ (((old ++ (first ++ one)) ++ (second ++ two)) ++ (third ++ three)) ++ last = cc in
    joined ∙ regrouped
  where
    regrouped : (((old ++ (first ++ one)) ++ (second ++ two)) ++ (third ++ three)) ++ last ≡ old ++ (first ++ one ++ second ++ two ++ third ++ three ++ last)
    regrouped = simp append_assoc

pub node_put :
    (k number lat lon : ℕ) (old a b c d : List ℕ)
    → lat ≡ lat7_of number → lon ≡ lon7_of number
    → a ≡ old ++ (codes "{\"type\":\"node\",\"id\":-" ++ decimal k)
    → b ≡ a ++ (codes ",\"lat7\":" ++ decimal lat)
    → c ≡ b ++ (codes ",\"lon7\":" ++ decimal lon)
    → d ≡ c ++ codes "},"
    → d ≡ old ++ node_text k number
unfolding node_text
node_put k number lat lon old a b c d is_lat is_lon first_put second_put third_put last_put =
    four_put old (codes "{\"type\":\"node\",\"id\":-") (decimal k) (codes ",\"lat7\":") (decimal (lat7_of number))
    (codes ",\"lon7\":") (decimal (lon7_of number)) (codes "},") a b c d first_put
    (second_put ∙ ap (λ n. a ++ (codes ",\"lat7\":" ++ decimal n)) is_lat)
    (third_put ∙ ap (λ n. b ++ (codes ",\"lon7\":" ++ decimal n)) is_lon)
    last_put

pub head_put :
    (user size : ℕ) (old a b c d : List ℕ)
    → a ≡ old ++ (codes "POST /api/0.6/changeset/" ++ decimal user)
    → b ≡ a ++ (codes "/upload HTTP/1.1\r\nAuthorization: Bearer t" ++ decimal user)
    → c ≡ b ++ (codes "\r\nContent-Length: " ++ decimal size)
    → d ≡ c ++ codes "\r\n\r\n"
    → d ≡ old ++ upload_head user user size
unfolding upload_head
head_put user size old a b c d first_put second_put third_put last_put =
    four_put old (codes "POST /api/0.6/changeset/") (decimal user) (codes "/upload HTTP/1.1\r\nAuthorization: Bearer t") (decimal user)
    (codes "\r\nContent-Length: ") (decimal size) (codes "\r\n\r\n") a b c d first_put second_put third_put last_put
