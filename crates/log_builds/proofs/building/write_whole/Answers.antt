use Rattle.std.proofs.Common.{◌⊎◌, inl, inr, ⊎_elim, List, ℕ, IsTrue, sym, subst}
use Rattle.io_traits.proofs.Moments.{join, weaken}
use Rattle.io_traits.specs.DiskState.{After, Torn}
use Rattle.log_journal.specs.Stands.{IsUnborn}
use Rattle.log_builds.proofs.Steps.{opened_torn, shut_none}
use Rattle.log_builds.specs.Built.{NoneOrWhole}
use Rattle.log_builds.specs.Laid.{IsShut}
use Rattle.log_builds.proofs.building.write_whole.Goals as goal

pub returns-clause-moments : goal.returns-clause-moments
returns-clause-moments g c honest =
    let E = g.E.Entries in
    let all = E.left c.args.entries.now in
    let old = g.D.Disk.tells c.args.disk.now in
    let shut = g.D.Disk.tells c.shut.new.disk in
    let laid = g.D.Disk.tells c.lay.new.disk in
    let new = g.D.Disk.tells c.write_kept.new.disk in
    let after = subst IsTrue (sym c.shut.ensures.honest) honest in
    let P : List ℕ → Type 0 = λ file. old.image file ⊎ NoneOrWhole c.args.header E.spelling E.IsEntry all file in
    join old laid new P
    (join old shut laid P
    (weaken old shut (λ file. old.image file ⊎ IsUnborn file) P (λ file. ⊎_elim (λ was. inl was) (λ unborn. inr (inl (inl unborn)))) (c.shut.ensures.moments honest))
    (weaken shut laid IsShut P (λ file is. inr (inl (shut_none c.args.header file is))) (c.lay.ensures.moments after)))
    (weaken laid new (After (Torn 0 1) laid.image) P
    (λ file from. inr (opened_torn c.args.header E.spelling E.IsEntry all laid.reads file (c.in_ok-lay.ensures.ready after) (c.in_ok-lay.ensures.in_range after)
    (subst (λ (d : List ℕ). Torn 0 1 d file) (c.in_ok-lay.ensures.quiet after from.0 from.1) from.2)))
    (c.write_kept.ensures.told (subst IsTrue (sym c.lay.ensures.honest) after)).moments)
