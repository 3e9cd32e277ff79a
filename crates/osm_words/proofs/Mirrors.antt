-- A mirror that listens, by its options.
use Rattle.std.proofs.Common.{◌≡◌, ℕ, Bool, true, false, List, Option, Some, None, codes, refl, ap, ◌∙◌}
use Rattle.std.specs.Option.{option_and_then}
use Rattle.clap.specs.Words.{Row, Text, first_of}
use Rattle.osm_words.specs.Values.{is_set, text_of}
use Rattle.osm_words.specs.Words.{MirrorReading, level_by, mirror_by, mirror_until, mirror_with, mirror_of}

-- what listens may be told to end with its input
until_either : (b : Bool) (until_level : Option ℕ) (users address count : Text) (journal : Option Text)
    → mirror_until b until_level users None (Some address) (Some count) journal ≡ mirror_by until_level users None (Some address) (Some count) journal
until_either true until_level users address count journal = refl
until_either false until_level users address count journal = refl

pub listening : (rows : List Row) (users address count : Text) (journal : Option Text) (until_level : Option ℕ)
    → option_and_then text_of (first_of (codes "users") rows) ≡ Some users → level_by (first_of (codes "until-level") rows) ≡ Some until_level
    → first_of (codes "at") rows ≡ None
    → first_of (codes "listen") rows ≡ Some address → first_of (codes "workers") rows ≡ Some count → first_of (codes "journal") rows ≡ journal
    → mirror_of rows ≡ mirror_by until_level users None (Some address) (Some count) journal
listening rows users address count journal until_level user_is level_is at_is listen_is count_is journal_is =
    let flag : Bool = is_set (first_of (codes "until-input-ends") rows) in
    ap (option_and_then (λ (u : Text). option_and_then (λ (l : Option ℕ). mirror_with rows l u) (level_by (first_of (codes "until-level") rows)))) user_is
    ∙ ap (option_and_then (λ (l : Option ℕ). mirror_with rows l users)) level_is
    ∙ ap (λ (a : Option Text). mirror_until flag until_level users a (first_of (codes "listen") rows) (first_of (codes "workers") rows) (first_of (codes "journal") rows)) at_is
    ∙ ap (λ (l : Option Text). mirror_until flag until_level users None l (first_of (codes "workers") rows) (first_of (codes "journal") rows)) listen_is
    ∙ ap (λ (w : Option Text). mirror_until flag until_level users None (Some address) w (first_of (codes "journal") rows)) count_is
    ∙ ap (λ (j : Option Text). mirror_until flag until_level users None (Some address) (Some count) j) journal_is
    ∙ until_either flag until_level users address count journal
