use Rattle.std.proofs.Common.{◌≡◌, ◌+◌, length, Bool, true, List, [], ◌∷◌, ◌++◌, None, ap, sym, subst, ◌∙◌}
use Rattle.std.specs.Prelude.{if◌then◌else◌}
use Rattle.std.proofs.lemmas.Result.{on_ok_weaker}
use Rattle.aid_filings.specs.declared.filing.Filing.{Filing}
use Rattle.log_stamps.specs.Entries.{with_stamp}
use Rattle.log_stamps.specs.declared.entry.StampedEntry.{StampedEntry}
use Rattle.office_history.specs.Past.{same_key}
use Rattle.office_amends.specs.Amended.{inserted}
use Rattle.office_amends.specs.Lines.{inserted_line}
use Rattle.office_amends.specs.Stood.{Makes}
use Rattle.office_amends.specs.Texts.{told_behind, told_put}
use Rattle.office_amends.specs.declared.correction.Change.{Change}
use Rattle.office_amends.proofs.Steps.{told_as_one}
use Rattle.office_amends.proofs.list.put_insertion.Goals as goal

pub returns-clause-makes : goal.returns-clause-makes
returns-clause-makes c list text made =
    let run = c.args.run.now in
    let key = c.args.key.now in
    let f = c.in-Insert.filing in
    let e = with_stamp run f in
    let line = inserted_line (length list + 1) f in
    let same : same_key c.in-Insert.before key ≡ true = sym c.is_same_key.ensures ∙ c.if-not-is_same_key.false in
    let is : inserted run c.args.change.now key ≡ e ∷ [] =
    ap (λ (change : Change). inserted run change key) c.in-Insert.is ∙ ap (λ (b : Bool). if b then e ∷ [] else []) same in
    on_ok_weaker c.file.result
    (λ m. subst (λ (ins : List (StampedEntry Filing)). Makes (ins ++ list) (text ++ told_put inserted_line list ins) c.file.new.self) (sym is)
    (told_as_one (e ∷ list) text line (told_behind list f None) c.file.new.self (rw c.in_ok-copy_filing.ensures at m)))
    (c.file.ensures.makes list (text ++ line) (record {
      office = made.office;
      stamps = made.stamps;
      told = c.in_ok-put_inserted.ensures ∙ (λ i. made.told i ++ inserted_line (made.position i + 1) f);
      position = made.position;
    }))
