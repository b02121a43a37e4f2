use Rattle.std.proofs.Common.{◌≡◌, sym, ap, ◌∙◌}
use Rattle.std.proofs.Common.{not}
use Rattle.serde_json.specs.View.{view}
use Rattle.format_table.specs.Parts.{line_of}
use Rattle.web_json.proofs.MemberLemmas2.{has_filing, has_none, next_done, not_put}
use Rattle.web_json.proofs.MemberLemmas.{left_none}
use Rattle.web_json.proofs.filing.draft_of.Goals as goal

pub returns-in_err-put_filing : goal.returns-in_err-put_filing
returns-in_err-put_filing c =
    left_none _ _ _ c.from_residual.ensures
    (not_put c.args.kind c.args.school (view c.args.value.now) c.new_draft-draft.result c.new_draft-draft.ensures.to_come c.new_draft-draft.ensures.none c.in_err-put_filing.ensures)

pub returns-then-is_none : goal.returns-then-is_none
returns-then-is_none c =
    let done = next_done (λ field. line_of field.now) c.next.result c.put_filing.new.draft.slots c.next.ensures.field in
    has_filing c.args.kind c.args.school (view c.args.value.now) c.new_draft-draft.result c.put_filing.new.draft c.new_draft-draft.ensures.to_come c.new_draft-draft.ensures.none c.in_ok-put_filing.ensures
    (done ∙ ap (λ b. not b) c.if-is_none.ensures)

pub returns-else-is_none : goal.returns-else-is_none
returns-else-is_none c =
    let done = next_done (λ field. line_of field.now) c.next.result c.put_filing.new.draft.slots c.next.ensures.field in
    has_none c.args.kind c.args.school (view c.args.value.now) c.new_draft-draft.result c.put_filing.new.draft c.new_draft-draft.ensures.to_come c.new_draft-draft.ensures.none c.in_ok-put_filing.ensures
    (done ∙ ap (λ b. not b) c.if-is_none.ensures)
