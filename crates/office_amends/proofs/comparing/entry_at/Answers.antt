use Rattle.std.proofs.Common.{◌∙◌, ap, sym}
use Rattle.std.specs.Option.{option_copied}
use Rattle.office_amends.proofs.Places.{entry_nowhere, entry_there}
use Rattle.office_amends.proofs.comparing.entry_at.Goals as goal

pub returns-in_err-filing : goal.returns-in_err-filing
returns-in_err-filing c =
    rw c.from_residual.ensures (entry_nowhere c.args.office.now.history c.args.stamps.now c.requires c.args.position (sym c.filing.ensures.value ∙ ap option_copied c.in_err-filing.was))

pub returns : goal.returns
returns c =
    entry_there c.args.office.now.history c.args.stamps.now c.requires c.args.position c.in_ok-filing.filing.now c.index-stamps-position.result
    (sym c.filing.ensures.value ∙ ap option_copied c.in_ok-filing.was) c.index-stamps-position.is
