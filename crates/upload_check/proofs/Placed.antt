-- What the creation or a move of a node comes to: it lists nothing before it and nothing after it, and
-- touches its places alone.
use Rattle.std.proofs.Common.{◌≡◌, ℕ, ◌+◌, List, [], ◌++◌, length, Some, None, refl, sym, ap, ◌∙◌, arith}
use Rattle.std.specs.Prelude.{Option, if◌then◌else◌, filter_map, option_to_list}
use Rattle.std.specs.List.{cons_option}
use Rattle.osm_base.specs.Place.{Area, Position}
use Rattle.osm_base.specs.Key.{key_eq}
use Rattle.osm_base.specs.declared.keys.Key.{Key}
use Rattle.osm_element.specs.Elements.{refs_in}
use Rattle.osm_element.specs.declared.contents.Content.{Content}
use Rattle.osm_element.specs.declared.contents.Content.TheVariants as content
use Rattle.osm_change.specs.declared.operations.Op.{Op}
use Rattle.changeset_core.specs.Changeset.{join_areas, new_position, widen_all}
use Rattle.osm_world.specs.Beds.{content_of_op}
use Rattle.upload_check.specs.Overlay.{Notes, Sight, content_now, position_now, standing, touched_now}
use Rattle.upload_check.specs.Effects.{holds_of, user_counts, IsApplied, IsRevised}
use Rattle.upload_check.specs.Users.{one_if, others}
use Rattle.upload_check.specs.declared.standings.Holds.{Holds}

pub applied_placed :
    (s : Sight) (o : Op) (k : Key) (at : Position) (holds : Holds) (new : Notes)
    → refs_in (content_now s k) ≡ []
    → content_of_op s.over.keys o ≡ Some (content.Node at)
    → holds ≡ holds_of (length s.over.keys) o
    → IsRevised s.before k holds s.over.notes new
    → IsApplied s o k new
applied_placed s o k at holds new listed given held revised = record {
  counts = user_counts s.before s.over.notes;
  lowered = λ b. ap (λ (ks : List Key). user_counts s.before s.over.notes b + one_if (others k ks b)) listed ∙ none (user_counts s.before s.over.notes b);
  raised = λ b. revised.users b ∙ sym (ap (λ (c : Option (Content ℕ)). user_counts s.before s.over.notes b + one_if (others k (refs_in c) b)) given ∙ none (user_counts s.before s.over.notes b));
  versions = revised.versions;
  holds = λ b. revised.held b ∙ ap (λ (h : Holds). if key_eq b k then h else (standing s b).holds) held;
}
  where
    none : (n : ℕ) → n + 0 ≡ n
    none n = omega arith

-- the box of both places
pub touched_placed :
    (s : Sight) (o : Op) (k : Key) (from : Option Position) (to : Position) (area joined : Option Area)
    → refs_in (content_now s k) ≡ []
    → from ≡ position_now s k
    → content_of_op s.over.keys o ≡ Some (content.Node to)
    → area ≡ widen_all (widen_all None (option_to_list from)) (option_to_list (Some to))
    → joined ≡ join_areas s.over.touched area
    → joined ≡ join_areas s.over.touched (touched_now s k (content_of_op s.over.keys o))
touched_placed s o k from to area joined listed lay given boxed is =
    is ∙ ap (join_areas s.over.touched) (boxed ∙ sides from ∙ ap (box [] (Some (content.Node to))) lay ∙ ap (λ (d : Option (Content ℕ)). box [] d (position_now s k)) (sym given) ∙ ap (λ (ks : List Key). box ks (content_of_op s.over.keys o) (position_now s k)) (sym listed))
  where
    box : List Key → Option (Content ℕ) → Option Position → Option Area
    box ks d p = widen_all None (cons_option p (filter_map (position_now s) (ks ++ refs_in d)) ++ option_to_list (new_position d))

    sides : (p : Option Position) → widen_all (widen_all None (option_to_list p)) (option_to_list (Some to)) ≡ box [] (Some (content.Node to)) p
    sides None = refl
    sides (Some p) = refl

-- a content with a place is a node's
pub node_there : (c : Option (Content ℕ)) (at : Position) → new_position c ≡ Some at → c ≡ Some (content.Node at)
node_there None at e = cc
node_there (Some (content.Node p)) at e = cc
node_there (Some (content.Way nodes)) at e = cc
node_there (Some (content.Relation members)) at e = cc
