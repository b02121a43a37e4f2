use Rattle.std.proofs.lemmas.Result.{on_ok_weaker}
use Rattle.sheet_r2t4.proofs.ReturnPieces.{joined, pushed}
use Rattle.sheet_r2t4.proofs.sheet.put_figures.Goals as goal

pub returns : goal.returns
returns c =
    let old = c.args.out.now.items in
    let t1 = pushed _ _ old c.put_lines.new.out.items c.disbursed.ensures c.in_ok-put_lines.ensures in
    let t2 = joined _ _ old c.put_lines.new.out.items c.put_lines-2.new.out.items t1 (pushed _ _ c.put_lines.new.out.items c.put_lines-2.new.out.items c.days_of_term.ensures c.in_ok-put_lines-2.ensures) in
    let t3 = joined _ _ old c.put_lines-2.new.out.items c.put_lines-3.new.out.items t2 (pushed _ _ c.put_lines-2.new.out.items c.put_lines-3.new.out.items c.earned.ensures c.in_ok-put_lines-3.ensures) in
    let t4 = joined _ _ old c.put_lines-3.new.out.items c.put_lines-4.new.out.items t3 (pushed _ _ c.put_lines-3.new.out.items c.put_lines-4.new.out.items c.charges.ensures c.in_ok-put_lines-4.ensures) in
    let t5 = joined _ _ old c.put_lines-4.new.out.items c.put_lines-5.new.out.items t4 (pushed _ _ c.put_lines-4.new.out.items c.put_lines-5.new.out.items c.returned.ensures c.in_ok-put_lines-5.ensures) in
    let t6 = joined _ _ old c.put_lines-5.new.out.items c.put_lines-6.new.out.items t5 (pushed _ _ c.put_lines-5.new.out.items c.put_lines-6.new.out.items c.since.ensures c.in_ok-put_lines-6.ensures) in
    on_ok_weaker c.put_sent.result (λ last. joined _ _ old c.put_lines-6.new.out.items _ t6 last) c.put_sent.ensures
