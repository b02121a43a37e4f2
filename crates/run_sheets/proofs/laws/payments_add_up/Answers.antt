use Rattle.std.proofs.Common.{◌∙◌, sym, reverse}
use Rattle.log_stamps.specs.Entries.{entries, stamps_of}
use Rattle.log_stamps.specs.StampedLaws.{length-entries}
use Rattle.office_sheets.proofs.PaymentLaws.{last_is_net}
use Rattle.run_sheets.proofs.Firsts.{length-stamps}
use Rattle.run_sheets.proofs.RunningTotals.{rows_add_up}
use Rattle.run_sheets.proofs.laws.payments_add_up.Goals as goal

pub returns-clause-rows : goal.returns-clause-rows
returns-clause-rows c of =
    let past = reverse c.args.list.now in
    rows_add_up of.school of.year of.term (entries past) (stamps_of past) (length-stamps past ∙ sym (length-entries past)) c.requires

pub returns-clause-last : goal.returns-clause-last
returns-clause-last c of program =
    let past = reverse c.args.list.now in
    last_is_net of.school of.year of.term program (entries past) (stamps_of past) (length-stamps past ∙ sym (length-entries past))
