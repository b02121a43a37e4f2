use Rattle.std.proofs.Common.{[], ◌∷◌, IsTrue, map, sym, subst}
use Rattle.io_traits.proofs.Moments.{join, weaken}
use Rattle.io_traits.specs.DiskState.{After, IsKept, Torn, overwrite}
use Rattle.log_journal.proofs.Exits.{on_ok_map}
use Rattle.log_builds.proofs.Steps.{all_laid, closed, place_inside, shut_torn}
use Rattle.log_builds.specs.Laid.{IsReady, IsShut}
use Rattle.log_builds.proofs.building.lay.Goals as goal

pub returns-clause-ready : goal.returns-clause-ready
returns-clause-ready g c honest =
    let E = g.E.Entries in
    let all = E.left c.args.entries.now in
    let mid = g.D.Disk.tells c.write_records.new.disk in
    let new = g.D.Disk.tells c.write_kept.new.disk in
    let place = c.in_ok-place.place in
    let laid = all_laid c.args.header E.spelling E.IsEntry all place mid.reads (c.in_ok-place.ensures.laid honest) in
    on_ok_map c.write_kept.result (IsKept (overwrite place (0 ∷ []) mid.reads) new) (IsReady c.args.header (map E.spelling all) new.reads)
    (λ kept. closed c.args.header (map E.spelling all) mid.reads new.reads place laid.1.0 laid.0 kept.reads)
    (c.write_kept.ensures.done (subst IsTrue (sym c.write_records.ensures.honest) honest))

pub returns-clause-moments : goal.returns-clause-moments
returns-clause-moments g c honest =
    let E = g.E.Entries in
    let old = g.D.Disk.tells c.args.disk.now in
    let mid = g.D.Disk.tells c.write_records.new.disk in
    let new = g.D.Disk.tells c.write_kept.new.disk in
    let place = c.in_ok-place.place in
    let inside = place_inside c.args.header E.spelling E.IsEntry (E.left c.args.entries.now) [] place mid.reads (c.in_ok-place.ensures.laid honest) in
    join old mid new IsShut (c.write_records.ensures.moments honest)
    (weaken mid new (After (Torn place 1) mid.image) IsShut (λ x from. shut_torn from.0 x place 1 inside.0 (c.write_records.ensures.shut honest from.0 from.1) from.2)
    (c.write_kept.ensures.told (subst IsTrue (sym c.write_records.ensures.honest) honest)).moments)
