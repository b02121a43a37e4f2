use Rattle.std.proofs.Common.{ap, arith, length, sym, subst}
use Rattle.std.proofs.lemmas.List.{length-reverse}
use Rattle.office_history.specs.Answer.{IsLegal}
use Rattle.run_builds.proofs.Built.{all_plain, entries-plain}
use Rattle.run_builds.specs.Targets.{under_plain}
use Rattle.run_builds.proofs.upgrading.copy.Goals as goal

pub build_office-requires : goal.build_office-requires
build_office-requires g c = omega (arith, length-reverse c.into_filings.result.items, ap length c.into_filings.ensures, c.front-few.ensures.value, c.front-few.ensures.few)

pub returns-clause-builds : goal.returns-clause-builds
returns-clause-builds g c =
    let history = c.args.office.office.history in
    c.build_office.ensures.builds (under_plain history) (all_plain c.into_filings.result.items history c.new.result.items c.new.ensures.items c.into_filings.ensures)
    (subst IsLegal (sym (entries-plain history)) c.requires.legal)
