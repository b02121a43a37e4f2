use Rattle.std.proofs.Common.{◌≡◌, sym, ◌∙◌}
use Rattle.std.specs.Prelude.{Some, None}
use Rattle.serde_json.specs.View.{view}
use Rattle.web_json.proofs.MemberLemmas.{left_none, members_next}
use Rattle.web_json.proofs.members.put_members.Goals as goal

pub returns-in_err-put_member : goal.returns-in_err-put_member
returns-in_err-put_member c =
    let next = members_next c.args.parts.now c.loop-part.part-index _ (view c.args.value.now) c.loop-part.draft (view c.in_ok-get.field-0.now) None
    c.loop-part-test.true c.in_ok-get.ensures c.in_err-put_member.ensures in
    left_none _ _ _ c.from_residual-in_err-put_member.ensures (sym c.loop-part.invariant ∙ next)

pub loop-part-preserved : goal.loop-part-preserved
loop-part-preserved c =
    let next = members_next c.args.parts.now c.loop-part.part-index _ (view c.args.value.now) c.loop-part.draft (view c.in_ok-get.field-0.now) (Some c.put_member.new.draft)
    c.loop-part-test.true c.in_ok-get.ensures c.in_ok-put_member.ensures in
    sym next ∙ c.loop-part.invariant
