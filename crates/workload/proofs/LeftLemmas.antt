-- The next request of a load.
use Rattle.std.proofs.Common.{◌≡◌, ℕ, zero, suc, ◌+◌, ◌-◌, ◌%◌, ◌<◌, ◌≤◌, [], ◌∷◌, ◌++◌, length, refl, sym, ap, ◌∙◌, arith, length-append}
use Rattle.std.proofs.lemmas.List.FromFn.{length-map-range_with_len}
use Rattle.workload.specs.declared.sent.Sent.{Sent}
use Rattle.workload.specs.Numbers.{number_after}
use Rattle.workload.specs.Request.{creation, creations, upload, uploads, requests}
use Rattle.workload.specs.Left.{left_after}

one_less : (done all : ℕ) → done < all → all - done ≡ suc (all - (done + 1))
one_less done all below = omega arith

uploads-suc :
    (left place sessions number : ℕ)
    → uploads (suc left) place sessions number ≡ upload (place % sessions) number ∷ uploads left (place + 1) sessions (number_after 10 number)
unfolding uploads
uploads-suc left place sessions number = refl

uploads-zero : (place sessions number : ℕ) → uploads 0 place sessions number ≡ []
unfolding uploads
uploads-zero place sessions number = refl

length-uploads : (left place sessions number : ℕ) → length (uploads left place sessions number) ≡ left
unfolding uploads
length-uploads zero place sessions number = refl
length-uploads (suc left) place sessions number = ap suc (length-uploads left (place + 1) sessions (number_after 10 number))

-- before the first request all are left
pub left_at_first : (seed sessions count : ℕ) → left_after sessions count 0 0 seed ≡ requests seed sessions count
unfolding requests
left_at_first seed sessions count =
    let all_sessions : sessions - 0 ≡ sessions = omega arith in
    let all_uploads : count - 0 ≡ count = omega arith in
    ap (λ left. creations left 0 ++ uploads (count - 0) 0 sessions seed) all_sessions
    ∙ ap (λ left. creations sessions 0 ++ uploads left 0 sessions seed) all_uploads

pub creation_next :
    (sessions count created sent number : ℕ) (made : Sent) → created < sessions → made ≡ creation created
    → left_after sessions count created sent number ≡ made ∷ left_after sessions count (created + 1) sent number
creation_next sessions count created sent number made below is_made =
    ap (λ left. creations left created ++ uploads (count - sent) sent sessions number) (one_less created sessions below)
    ∙ ap (λ first. first ∷ left_after sessions count (created + 1) sent number) (sym is_made)

pub upload_next :
    (sessions count created sent number last : ℕ) (made : Sent) → sessions ≤ created → sent < count
    → made ≡ upload (sent % sessions) number → last ≡ number_after 10 number
    → left_after sessions count created sent number ≡ made ∷ left_after sessions count created (sent + 1) last
upload_next sessions count created sent number last made done below is_made is_last =
    let none : sessions - created ≡ 0 = omega arith in
    ap (λ left. creations left created ++ uploads (count - sent) sent sessions number) none
    ∙ ap (λ left. uploads left sent sessions number) (one_less sent count below)
    ∙ uploads-suc (count - (sent + 1)) sent sessions number
    ∙ (λ i. sym is_made i ∷ uploads (count - (sent + 1)) (sent + 1) sessions (sym is_last i))
    ∙ ap (λ left. made ∷ (creations left created ++ uploads (count - (sent + 1)) (sent + 1) sessions last)) (sym none)

pub none_next :
    (sessions count created sent number : ℕ) → sessions ≤ created → count ≤ sent
    → left_after sessions count created sent number ≡ []
none_next sessions count created sent number created_all sent_all =
    let no_creation : sessions - created ≡ 0 = omega arith in
    let no_upload : count - sent ≡ 0 = omega arith in
    ap (λ left. creations left created ++ uploads (count - sent) sent sessions number) no_creation
    ∙ ap (λ left. uploads left sent sessions number) no_upload
    ∙ uploads-zero sent sessions number

pub length_left :
    (sessions count created sent number : ℕ)
    → length (left_after sessions count created sent number) ≡ (sessions - created) + (count - sent)
length_left sessions count created sent number =
    length-append (creations (sessions - created) created) (uploads (count - sent) sent sessions number)
    ∙ omega (arith, length-map-range_with_len creation created (sessions - created), length-uploads (count - sent) sent sessions number)
