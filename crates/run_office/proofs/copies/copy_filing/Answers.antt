use Rattle.std.proofs.Common.{rules, ◌≡◌, Some, None}
use Rattle.run_office.specs.Copies.{kept_what}
use Rattle.run_office.proofs.Copying.{copied_none, copied_some}
use Rattle.run_office.proofs.copies.copy_filing.Goals as goal

pub returns-in_err-what : goal.returns-in_err-what
returns-in_err-what c =
    let none : kept_what c.args.filing.now.what ≡ None = search rules in
    rw (← copied_none c.args.filing.now none) (search rules)

pub returns : goal.returns
returns c =
    let some : kept_what c.args.filing.now.what ≡ Some c.in_ok-what.what = search rules in
    copied_some c.args.filing.now c.in_ok-what.what some
