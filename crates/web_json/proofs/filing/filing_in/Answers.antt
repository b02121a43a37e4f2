use Rattle.std.proofs.Common.{◌≡◌, sym, ◌∙◌}
use Rattle.serde_json.specs.View.{view}
use Rattle.web_json.proofs.MemberLemmas2.{many_keys, no_bodies, right_keys, wrong_keys}
use Rattle.web_json.proofs.filing.filing_in.Goals as goal
use Rattle.web_json.proofs.filing.filing_in.Goals.{else-has_body-via-then-has_body+else-has_members, else-has_body-via-else-has_body}

pub returns-then-has_members : goal.returns-then-has_members
returns-then-has_members c =
    let many = many_keys c.in_ok-kind.kind c.table_row.result.parts.now c.table_row.ensures.parts in
    c.filing_of_kind.ensures
    ∙ sym (right_keys c.args.school (view c.args.value.now) c.in_ok-kind.kind _ c.in_ok-kind.ensures (sym c.has_body.ensures ∙ c.if-has_body.true) many (sym c.has_members.ensures ∙ c.if-has_members.true))

pub returns-else-has_body : goal.returns-else-has_body
returns-else-has_body c =
    elim c.else-has_body.branch [
      | else-has_body-via-then-has_body+else-has_members w ↦
          sym (wrong_keys c.args.school (view c.args.value.now) c.in_ok-kind.kind _ c.in_ok-kind.ensures (many_keys c.in_ok-kind.kind w.table_row.result.parts.now w.table_row.ensures.parts)
          (sym w.has_members.ensures ∙ w.if-has_members.false))
      | else-has_body-via-else-has_body w ↦ sym (no_bodies c.args.school (view c.args.value.now) c.in_ok-kind.kind c.in_ok-kind.ensures (sym c.has_body.ensures ∙ w.if-has_body.false))
    ]
