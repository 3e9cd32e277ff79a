-- A member that was found, needed or allowed.
use Rattle.std.proofs.Common.{◌≡◌, Option, Some, None, option_map, refl, ap, ◌∙◌}
use Rattle.serde_json.specs.Data.{Data}
use Rattle.osm_json.specs.Reading.{◌>>=◌, if_there}
use Rattle.osm_json.specs.Found.{given, allowed}

pub given_is : {A : Type 0} (reading : Data → Option A) (o : Option Data) → given (option_map reading o) ≡ (o >>= reading)
given_is reading None = refl
given_is reading (Some d) = refl

pub allowed_is : {A : Type 0} (reading : Data → Option A) (o : Option Data) → allowed (option_map reading o) ≡ if_there reading o
allowed_is reading None = refl
allowed_is reading (Some d) = refl

pub bind_same : {A B : Type 0} (o p : Option A) (f g : A → Option B) → o ≡ p → ((x : A) → f x ≡ g x) → (o >>= f) ≡ (p >>= g)
bind_same None p f g e h = ap (λ q. q >>= g) e
bind_same (Some x) p f g e h = h x ∙ ap (λ q. q >>= g) e
