use Rattle.std.proofs.Common.{List, ap, append_assoc, codes, ℕ, ◌++◌, ◌∙◌}
use Rattle.std.proofs.lemmas.Result.{on_ok_weaker}
use Rattle.sheet_r2t4.specs.ReturnSheet.{return_sheet}
use Rattle.sheet_review.specs.ReviewSheet.{heading, withdrawal_part}
use Rattle.sheet_review.proofs.reviewed.put_worksheet.Goals as goal

pub returns : goal.returns
unfolding withdrawal_part
returns c =
    let old = c.args.out.now.items in
    let of = c.args.of.now in
    let part = return_sheet c.args.office.now.history c.args.key.now.school of.student of.year of.term in
    on_ok_weaker c.put_part.result
    (λ e. e ∙ ap (λ (text : List ℕ). old ++ heading (codes "Withdrawal") ++ text) (c.as_slice.ensures.value ∙ c.in_ok-part.ensures)
    ∙ append_assoc old (heading (codes "Withdrawal")) part)
    c.put_part.ensures
