use Rattle.std.proofs.Common.{List, ◌++◌, take, take_all, subst, arith}
use Rattle.office_amends.specs.Amended.{before, inserted}
use Rattle.office_amends.specs.Lines.{inserted_line}
use Rattle.office_amends.specs.Stood.{Makes}
use Rattle.office_amends.specs.Texts.{told_put}
use Rattle.office_amends.specs.declared.correction.Correction.{Correction}
use Rattle.office_amends.proofs.Steps.{put_more}
use Rattle.office_amends.proofs.list.put_insertions.Goals as goal

pub loop-correction-preserved : goal.loop-correction-preserved
loop-correction-preserved c =
    let run = c.args.run.now in
    let key = c.args.key.now in
    let cs = c.args.corrections.now in
    let i = c.loop-correction.correction-index in (
      omega (arith, c.in_ok-put_insertion.ensures.position, c.loop-correction.invariant.0),
      λ list text made.
          put_more inserted_line (λ (d : Correction). inserted run d.change key) list text cs i c.correction-item.result _ c.loop-correction-test.true c.correction-item.is
          (c.in_ok-put_insertion.ensures.makes (before run (take i cs) key ++ list) (text ++ told_put inserted_line list (before run (take i cs) key)) (c.loop-correction.invariant.1 list text made)),
    )

pub returns-clause-makes : goal.returns-clause-makes
returns-clause-makes c list text made =
    let run = c.args.run.now in
    let key = c.args.key.now in
    subst (λ (cs : List Correction). Makes (before run cs key ++ list) (text ++ told_put inserted_line list (before run cs key)) c.loop-correction.made)
    (take_all _ _ c.loop-correction-test.false) (c.loop-correction.invariant.1 list text made)
