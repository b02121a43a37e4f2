use Rattle.std.proofs.Common.{◌++◌, ap, sym, ◌∙◌}
use Rattle.std.proofs.lemmas.Result.{on_ok_weaker}
use Rattle.aid_types.specs.declared.award.Formula.{Formula}
use Rattle.sheet_need.specs.NeedSheet.{households}
use Rattle.sheet_need.proofs.sheet.put_households.Goals as goal

pub returns-in-A : goal.returns-in-A
returns-in-A c =
    on_ok_weaker c.put_both.result
    (λ e. e ∙ ap (λ (f : Formula). c.args.out.now.items ++ households f c.args.book.now c.args.a.now c.args.lines.now) (sym c.in-A.is))
    c.put_both.ensures

pub returns-in-B : goal.returns-in-B
returns-in-B c =
    on_ok_weaker c.put_alone.result
    (λ e. e ∙ ap (λ (f : Formula). c.args.out.now.items ++ households f c.args.book.now c.args.a.now c.args.lines.now) (sym c.in-B.is))
    c.put_alone.ensures

pub returns-in-C : goal.returns-in-C
returns-in-C c =
    on_ok_weaker c.put_with_family.result
    (λ e. e ∙ ap (λ (f : Formula). c.args.out.now.items ++ households f c.args.book.now c.args.a.now c.args.lines.now) (sym c.in-C.is))
    c.put_with_family.ensures
