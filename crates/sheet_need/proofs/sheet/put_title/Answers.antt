use Rattle.std.proofs.lemmas.Result.{on_ok_weaker}
use Rattle.sheet_need.proofs.NeedPieces.{chained}
use Rattle.sheet_need.proofs.sheet.put_title.Goals as goal

pub returns : goal.returns
returns c =
    let formula = rw (c.as_bytes.ensures.value, c.formula_name.ensures.text) at c.in_ok-put_text-4.ensures in
    on_ok_weaker c.put_text-5.result
    (λ last. chained c.args.out.now.items _ _ c.put_text-4.new.out.items _ (chained c.args.out.now.items _ _ c.put_text-3.new.out.items _ (chained c.args.out.now.items _ _ c.put_year.new.out.items _ (chained c.args.out.now.items _ _ c.put_text-2.new.out.items _ (chained c.args.out.now.items _ _ c.put_student.new.out.items _ (chained c.args.out.now.items _ _ c.put_text.new.out.items _ c.in_ok-put_text.ensures c.in_ok-put_student.ensures) c.in_ok-put_text-2.ensures) c.in_ok-put_year.ensures) c.in_ok-put_text-3.ensures) formula) last)
    c.put_text-5.ensures
