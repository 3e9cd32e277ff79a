use Rattle.std.proofs.Common.{◌≡◌, ◌∷◌, [], ◌++◌, List, length, rules, ap, ◌∙◌}
use Rattle.std.specs.String.{string_bytes}
use Rattle.osm_element.specs.Tags.{Tag}
use Rattle.osm_element.proofs.Cut.{Grown, grown}
use Rattle.osm_element.proofs.labels.Table.with.Goals as goal

abbrev Kept : goal.In_ok-push → Type 0
Kept c = Grown (string_bytes c.self.inside.text) c.self.inside.ends.items c.args.key.now c.args.value.now (string_bytes c.push_str-2.new.self) c.push.new.self.items

kept : (c : goal.In_ok-push) → Kept c
kept c =
    let one : string_bytes c.push_str.new.self ≡ string_bytes c.self.inside.text ++ c.args.key.now = c.in_ok-push_str.ensures.bytes in
    let two : string_bytes c.push_str-2.new.self ≡ string_bytes c.push_str.new.self ++ c.args.value.now = c.in_ok-push_str-2.ensures.bytes in
    let first : c.len-key.result ≡ length (string_bytes c.push_str.new.self) = search rules in
    let second : c.len-value.result ≡ length (string_bytes c.push_str-2.new.self) = search rules in
    grown _ _ _ _ _ _ _ _ c.utf8.key c.utf8.value c.self.invariant one two first second c.in_ok-push.ensures.items

pub returns : goal.returns
returns c = (kept c).tags ∙ ap (λ (tags : List Tag). tags ++ (c.args.key.now, c.args.value.now) ∷ []) c.self.view_is

pub invariant_of-result : goal.invariant_of-result
invariant_of-result c = (kept c).ends
