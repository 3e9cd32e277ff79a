use Rattle.std.proofs.Common.{◌∙◌, ℕ, ap, get_or, subst}
use Rattle.osm_base.specs.declared.keys.Key.{Key}
use Rattle.osm_element.specs.Elements.{key_of_member}
use Rattle.osm_element.specs.declared.contents.Member.{Member}
use Rattle.indexed_map.proofs.UseSteps.{Ends, ends_next}
use Rattle.indexed_map.proofs.PastSteps.{Leaves, left_next}
use Rattle.indexed_map.proofs.usage.end_member_uses.Goals as goal

pub loop-member-preserved : goal.loop-member-preserved
loop-member-preserved c =
    let m : Member ℕ = c.member-item.result in
    let ends : Ends c.loop-member.users c.end_use.new.users c.args.user (key_of_member (get_or c.args.members.now c.loop-member.member-index m)) c.args.listed.now
    = subst (λ (k : Key). Ends c.loop-member.users c.end_use.new.users c.args.user k c.args.listed.now) (c.key.ensures ∙ ap key_of_member c.member-item.is) c.end_use.ensures.users in
    let leaves : Leaves c.loop-member.users c.end_use.new.users c.args.user (key_of_member (get_or c.args.members.now c.loop-member.member-index m)) c.args.listed.now
    = subst (λ (k : Key). Leaves c.loop-member.users c.end_use.new.users c.args.user k c.args.listed.now) (c.key.ensures ∙ ap key_of_member c.member-item.is) c.end_use.ensures.past in
    record {
      users = ends_next key_of_member c.args.members.now c.loop-member.member-index m c.args.users.now c.loop-member.users c.end_use.new.users c.args.user c.args.listed.now
          c.loop-member-test.true
          c.loop-member.invariant.users
          ends;
      past = left_next key_of_member c.args.members.now c.loop-member.member-index m c.args.users.now c.loop-member.users c.end_use.new.users c.args.user c.args.listed.now
          c.loop-member-test.true
          c.loop-member.invariant.users
          c.loop-member.invariant.past
          leaves;
      room = λ b. c.end_use.ensures.room b ∙ c.loop-member.invariant.room b;
    }
