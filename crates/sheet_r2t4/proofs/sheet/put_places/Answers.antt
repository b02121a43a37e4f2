use Rattle.std.proofs.lemmas.Result.{on_ok_weaker}
use Rattle.sheet_r2t4.proofs.ReturnPieces.{chained}
use Rattle.sheet_r2t4.proofs.sheet.put_places.Goals as goal

pub returns : goal.returns
returns c =
    let t1 = chained c.args.out.now.items _ _ c.put_text.new.out.items c.put_position.new.out.items c.in_ok-put_text.ensures c.in_ok-put_position.ensures in
    let t2 = chained c.args.out.now.items _ _ c.put_position.new.out.items c.put_text-2.new.out.items t1 c.in_ok-put_text-2.ensures in
    let t3 = chained c.args.out.now.items _ _ c.put_text-2.new.out.items c.put_digits.new.out.items t2 c.in_ok-put_digits.ensures in
    let t4 = chained c.args.out.now.items _ _ c.put_digits.new.out.items c.put_text-3.new.out.items t3 c.in_ok-put_text-3.ensures in
    let t5 = chained c.args.out.now.items _ _ c.put_text-3.new.out.items c.put_day.new.out.items t4 c.in_ok-put_day.ensures.text in
    let t6 = chained c.args.out.now.items _ _ c.put_day.new.out.items c.put_text-4.new.out.items t5 c.in_ok-put_text-4.ensures in
    let t7 = chained c.args.out.now.items _ _ c.put_text-4.new.out.items c.put_day-2.new.out.items t6 c.in_ok-put_day-2.ensures.text in
    let t8 = chained c.args.out.now.items _ _ c.put_day-2.new.out.items c.put_due.new.out.items t7 c.in_ok-put_due.ensures in
    on_ok_weaker c.put_text-5.result (λ last. chained c.args.out.now.items _ _ c.put_due.new.out.items _ t8 last) c.put_text-5.ensures
