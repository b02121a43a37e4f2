use Rattle.std.proofs.Common.{◌∷◌, [], codes}
use Rattle.std.proofs.lemmas.Result.{on_ok_weaker}
use Rattle.sheet_review.specs.BookText.{number_line, payroll_text}
use Rattle.sheet_review.proofs.Pieces.{appended}
use Rattle.sheet_review.proofs.sections.put_payroll.Goals as goal

pub returns : goal.returns
unfolding payroll_text
returns c =
    on_ok_weaker c.put_line-6.result
    (λ last. appended c.args.out.now.items
    (codes "\n[payroll]\n" ∷ number_line (codes "oasdi_cap") c.args.payroll.now.oasdi_cap ∷ number_line (codes "oasdi_rate") c.args.payroll.now.oasdi_rate ∷ number_line (codes "medicare_rate") c.args.payroll.now.medicare_rate ∷ number_line (codes "medicare_high") c.args.payroll.now.medicare_high ∷ number_line (codes "threshold_single") c.args.payroll.now.threshold_single ∷ number_line (codes "threshold_married") c.args.payroll.now.threshold_married ∷ []) _
    (_, c.in_ok-put_text.ensures, (_, c.in_ok-put_line.ensures, (_, c.in_ok-put_line-2.ensures, (_, c.in_ok-put_line-3.ensures, (_, c.in_ok-put_line-4.ensures, (_, c.in_ok-put_line-5.ensures, last)))))))
    c.put_line-6.ensures
