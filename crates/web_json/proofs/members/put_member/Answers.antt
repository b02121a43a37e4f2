use Rattle.std.proofs.Common.{◌≡◌, sym, ap, ◌∙◌}
use Rattle.std.specs.Prelude.{Some}
use Rattle.serde_json.specs.View.{items_view, view}
use Rattle.web_json.specs.Drafts.{put_said}
use Rattle.web_json.proofs.MemberLemmas.{member_table}
use Rattle.web_json.proofs.members.put_member.Goals as goal

pub returns : goal.returns
returns c =
    let array = ap (λ vs. Some (items_view vs)) c.deref.ensures.value ∙ c.in_ok-rows.ensures in
    let table = member_table c.args.part.now.first.now c.args.part.now.field.form (view c.args.value.now) c.deref.result.now (sym c.is_empty.ensures ∙ c.if-is_empty.false) array in
    c.put_table.ensures ∙ ap (λ zs. put_said zs c.args.draft.now) (sym table)
