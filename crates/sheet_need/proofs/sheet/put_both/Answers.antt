use Rattle.std.proofs.lemmas.Result.{on_ok_weaker}
use Rattle.sheet_need.proofs.NeedPieces.{chained}
use Rattle.sheet_need.proofs.sheet.put_both.Goals as goal

pub returns : goal.returns
returns c =
    on_ok_weaker c.put_dependent.result
    (λ last. chained c.args.out.now.items _ _ c.put_text-2.new.out.items _ (chained c.args.out.now.items _ _ c.put_parents.new.out.items _ (chained c.args.out.now.items _ _ c.put_text.new.out.items _ c.in_ok-put_text.ensures c.in_ok-put_parents.ensures) c.in_ok-put_text-2.ensures) last)
    c.put_dependent.ensures
