use Rattle.std.proofs.lemmas.Result.{on_ok_weaker}
use Rattle.sheet_need.proofs.NeedPieces.{joined, pushed}
use Rattle.sheet_need.proofs.award.put_award.Goals as goal

pub returns : goal.returns
returns c =
    let f1 = pushed _ _ c.args.out.now.items c.put_entries.new.out.items c.index_lines.ensures c.in_ok-put_entries.ensures in
    let f2 = pushed _ _ c.put_entries.new.out.items c.put_entries-2.new.out.items c.guideline_lines.ensures c.in_ok-put_entries-2.ensures in
    on_ok_weaker c.put_entries-3.result
    (λ last. joined _ _ c.args.out.now.items c.put_entries.new.out.items _ f1
    (joined _ _ c.put_entries.new.out.items c.put_entries-2.new.out.items _ f2
    (pushed _ _ c.put_entries-2.new.out.items c.put_entries-3.new.out.items c.decision_lines.ensures last)))
    c.put_entries-3.ensures
