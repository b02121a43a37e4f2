use Rattle.std.proofs.Common.{rules, ℕ, List, ◌++◌, ap, ◌∙◌, w32, FitsSigned}
use Rattle.std.proofs.lemmas.Int.{to_z-of_z}
use Rattle.std.proofs.lemmas.Result.{on_ok_weaker}
use Rattle.law_pell.specs.Award.{decision}
use Rattle.sheet_need.proofs.NeedPieces.{chained}
use Rattle.sheet_need.proofs.NeedSame.{same_title, same_work}
use Rattle.sheet_need.proofs.sheet.put_need.Goals as goal

pub returns : goal.returns
returns c =
    let book = c.args.book.now in
    let a = c.args.a.now in
    let fits : FitsSigned w32 c.index-lines.result.index = search rules in
    let decided = c.decide-decision.ensures.value ∙ ap (decision book a) (to_z-of_z w32 c.index-lines.result.index fits) ∙ ap (decision book a) c.index-lines.ensures.index in
    let title = same_title a _ _ c.args.out.now.items c.put_title.new.out.items c.formula_of-formula.ensures c.in_ok-put_title.ensures in
    let front = chained c.args.out.now.items _ _ c.put_title.new.out.items c.put_places.new.out.items title c.in_ok-put_places.ensures in
    let same = same_work book a _ _ _ c.formula_of-formula.ensures c.index-lines.ensures.value decided in
    on_ok_weaker c.put_worked.result
    (λ last. chained c.args.out.now.items _ _ c.put_places.new.out.items _ front (last ∙ ap (λ (t : List ℕ). c.put_places.new.out.items ++ t) same))
    c.put_worked.ensures
