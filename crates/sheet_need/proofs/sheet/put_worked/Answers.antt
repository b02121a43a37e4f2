use Rattle.std.proofs.lemmas.Result.{on_ok_weaker}
use Rattle.sheet_need.specs.NeedSheet.{worked_by}
use Rattle.sheet_need.proofs.NeedPieces.{chained}
use Rattle.sheet_need.proofs.sheet.put_worked.Goals as goal

pub returns : goal.returns
unfolding worked_by
returns c =
    on_ok_weaker c.put_award.result
    (λ last. chained c.args.out.now.items _ _ c.put_text.new.out.items _ (chained c.args.out.now.items _ _ c.put_households.new.out.items _ c.in_ok-put_households.ensures c.in_ok-put_text.ensures) last)
    c.put_award.ensures
