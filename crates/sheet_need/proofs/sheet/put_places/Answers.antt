use Rattle.std.proofs.lemmas.Result.{on_ok_weaker}
use Rattle.sheet_need.proofs.NeedPieces.{chained}
use Rattle.sheet_need.proofs.sheet.put_places.Goals as goal

pub returns : goal.returns
returns c =
    let at = rw c.from.ensures at c.in_ok-put_digits.ensures in
    let transaction = rw c.from-2.ensures at c.in_ok-put_digits-2.ensures in
    let book_at = rw c.from-3.ensures at c.in_ok-put_digits-3.ensures in
    on_ok_weaker c.put_text-4.result
    (λ last. chained c.args.out.now.items _ _ c.put_digits-3.new.out.items _ (chained c.args.out.now.items _ _ c.put_text-3.new.out.items _ (chained c.args.out.now.items _ _ c.put_digits-2.new.out.items _ (chained c.args.out.now.items _ _ c.put_text-2.new.out.items _ (chained c.args.out.now.items _ _ c.put_digits.new.out.items _ (chained c.args.out.now.items _ _ c.put_text.new.out.items _ c.in_ok-put_text.ensures at) c.in_ok-put_text-2.ensures) transaction) c.in_ok-put_text-3.ensures) book_at) last)
    c.put_text-4.ensures
