use Rattle.std.proofs.Common.{ap, refl, reverse, ◌∙◌}
use Rattle.std.specs.Vec.Iter.{into_iter_items}
use Rattle.log_stamps.specs.Entries.{stamped}
use Rattle.run_builds.proofs.Built.{all_built, few, none_built}
use Rattle.run_builds.specs.Targets.{starved}
use Rattle.run_builds.proofs.target.build_office.Goals as goal

pub returns-in_default-clause-builds : goal.returns-in_default-clause-builds
returns-in_default-clause-builds g c list same legal = starved refl

pub build-requires : goal.build-requires
build-requires g c = record {
  few = few (stamped (into_iter_items c.new-entries.result.filings) (into_iter_items c.new-entries.result.stamps)) c.args.filings.items c.args.stamps.items c.new-entries.ensures c.requires.few;
}

pub returns-in-Ok-build-clause-builds : goal.returns-in-Ok-build-clause-builds
returns-in-Ok-build-clause-builds g c list same legal =
    let is = c.in-Ok-build.ensures in
    all_built c.header.result c.header.ensures (stamped (into_iter_items c.new-entries.result.filings) (into_iter_items c.new-entries.result.stamps)) list (ap reverse c.new-entries.ensures ∙ same) legal
    g.B.Disk c.args.target c.in-Ok-build.target is.honest is.moments is.unborn is.built

pub returns-clause-builds : goal.returns-clause-builds
returns-clause-builds g c list same legal =
    let is = c.in-Err.ensures in
    none_built c.header.result c.header.ensures (stamped (into_iter_items c.new-entries.result.filings) (into_iter_items c.new-entries.result.stamps)) list (ap reverse c.new-entries.ensures ∙ same) legal
    g.B.Disk c.args.target c.in-Err.target is.honest_err is.moments_err c.in-Err.error is.exists is.foreign is.untouched
