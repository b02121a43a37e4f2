use Rattle.std.proofs.Common.{◌∷◌, [], codes}
use Rattle.std.proofs.lemmas.Result.{on_ok_weaker}
use Rattle.sheet_review.specs.BookText.{number_line, schedule_text}
use Rattle.sheet_review.proofs.Pieces.{appended}
use Rattle.sheet_review.proofs.sections.put_schedule.Goals as goal

pub returns : goal.returns
unfolding schedule_text
returns c =
    on_ok_weaker c.put_line-5.result
    (λ last. appended c.args.out.now.items
    (codes "\n[schedule]\n" ∷ number_line (codes "low_at") c.args.schedule.now.low_at ∷ number_line (codes "low") c.args.schedule.now.low ∷ number_line (codes "first_rate") c.args.schedule.now.first_rate ∷ number_line (codes "student_rate") c.args.schedule.now.student_rate ∷ number_line (codes "lowest_student") c.args.schedule.now.lowest_student ∷ []) _
    (_, c.in_ok-put_text.ensures, (_, c.in_ok-put_line.ensures, (_, c.in_ok-put_line-2.ensures, (_, c.in_ok-put_line-3.ensures, (_, c.in_ok-put_line-4.ensures, last))))))
    c.put_line-5.ensures
