use Rattle.std.proofs.Common.{List, ◌++◌, take, take_all, subst, arith}
use Rattle.office_amends.specs.Amended.{recorded, records}
use Rattle.office_amends.specs.Stood.{Makes}
use Rattle.office_amends.specs.Texts.{no_line, told_put}
use Rattle.office_amends.specs.declared.correction.Correction.{Correction}
use Rattle.office_amends.proofs.Steps.{put_more}
use Rattle.office_amends.proofs.list.put_records.Goals as goal

pub loop-correction-preserved : goal.loop-correction-preserved
loop-correction-preserved c =
    let run = c.args.run.now in
    let cs = c.args.corrections.now in
    let i = c.loop-correction.correction-index in (
      omega (arith, c.in_ok-put_record.ensures.position, c.loop-correction.invariant.0),
      λ list text made.
          put_more no_line (λ (d : Correction). recorded run d.record d.change) list text cs i c.correction-item.result _ c.loop-correction-test.true c.correction-item.is
          (c.in_ok-put_record.ensures.makes (records run (take i cs) ++ list) (text ++ told_put no_line list (records run (take i cs))) (c.loop-correction.invariant.1 list text made)),
    )

pub returns : goal.returns
returns c =
    let run = c.args.run.now in
    record {
      makes = λ list text made.
          subst (λ (cs : List Correction). Makes (records run cs ++ list) (text ++ told_put no_line list (records run cs)) c.loop-correction.made)
          (take_all _ _ c.loop-correction-test.false) (c.loop-correction.invariant.1 list text made);
    }
