-- Placeholders that are bound in turn: the third bind changes nothing.
use Rattle.std.proofs.Common.{◌≡◌, negsuc, true, false, Some, None, refl}
use Rattle.osm_base.specs.declared.keys.Kind.TheVariants.{Node, Way}
use Rattle.placeholder_map.specs.Placeholders.{Placeholders, no_placeholders, look_of, is_bound, bound}

abbrev one : Placeholders
one = bound no_placeholders Node (negsuc 0) 0

abbrev two : Placeholders
two = bound one Way (negsuc 0) 1

first-new : is_bound no_placeholders Node (negsuc 0) ≡ false
first-new = refl

second-new : is_bound one Way (negsuc 0) ≡ false
second-new = refl

third-bound : is_bound two Node (negsuc 0) ≡ true
third-bound = refl

first-stays : look_of (bound two Node (negsuc 0) 2) Node (negsuc 0) ≡ Some 0
first-stays = refl

never-bound : look_of (bound two Node (negsuc 0) 2) Node (negsuc 1) ≡ None
never-bound = refl
