use Rattle.std.proofs.Common.{◌+◌, length, ◌∷◌, ◌++◌, Some, None, subst, sym, ◌∙◌}
use Rattle.std.proofs.lemmas.Result.{on_ok_weaker}
use Rattle.log_stamps.specs.Entries.{with_stamp}
use Rattle.office_amends.specs.Amended.{put_of}
use Rattle.office_amends.specs.Stood.{Makes}
use Rattle.office_amends.specs.Lines.{replaced_line, voided_line}
use Rattle.office_amends.specs.Texts.{told_behind, told_change}
use Rattle.office_amends.specs.declared.correction.Change.{Change}
use Rattle.office_amends.proofs.Steps.{told_as_one}
use Rattle.office_amends.proofs.list.put_change.Goals as goal

pub returns-in_ok-copy_filing-in-Replace-clause-makes : goal.returns-in_ok-copy_filing-in-Replace-clause-makes
returns-in_ok-copy_filing-in-Replace-clause-makes c list text made =
    let old = c.args.filing.now in
    let new = c.in-Replace.new in
    let mark = c.args.correction.now.record in
    let line = replaced_line (length list + 1) old new in
    on_ok_weaker c.file.result
    (λ m. subst (λ (change : Change). Makes (with_stamp c.args.run.now (put_of mark change) ∷ list) (text ++ told_change list old c.args.was mark change) c.file.new.self) (sym c.in-Replace.is)
    (told_as_one (with_stamp c.args.run.now new ∷ list) text line (told_behind list new (Some c.args.was)) c.file.new.self (rw c.in_ok-copy_filing-in-Replace.ensures at m)))
    (c.file.ensures.makes list (text ++ line) (record {
      office = made.office;
      stamps = made.stamps;
      told = c.in_ok-put_replaced-in-Replace.ensures ∙ (λ i. made.told i ++ replaced_line (made.position i + 1) old new);
      position = made.position;
    }))

pub returns-in_ok-copy_filing-in-Void-clause-makes : goal.returns-in_ok-copy_filing-in-Void-clause-makes
returns-in_ok-copy_filing-in-Void-clause-makes c list text made =
    let old = c.args.filing.now in
    let mark = c.args.correction.now.record in
    let line = voided_line (length list + 1) old in
    on_ok_weaker c.file-in-Void.result
    (λ m. subst (λ (change : Change). Makes (with_stamp c.args.run.now (put_of mark change) ∷ list) (text ++ told_change list old c.args.was mark change) c.file-in-Void.new.self) (sym c.in-Void.is)
    (told_as_one (with_stamp c.args.run.now mark ∷ list) text line (told_behind list mark None) c.file-in-Void.new.self (rw c.in_ok-copy_filing-in-Void.ensures at m)))
    (c.file-in-Void.ensures.makes list (text ++ line) (record {
      office = made.office;
      stamps = made.stamps;
      told = c.in_ok-put_voided-in-Void.ensures ∙ (λ i. made.told i ++ voided_line (made.position i + 1) old);
      position = made.position;
    }))
