use Rattle.std.proofs.Common.{List, ℕ, sym, subst}
use Rattle.run_builds.specs.Comparisons.{Compares, new_refused, old_refused, starved, told}
use Rattle.run_builds.specs.declared.ending.ChangesEnd.TheVariants.{Old, New, NoMemory}
use Rattle.run_builds.proofs.comparing.read_and_compare.Goals as goal

pub returns-in-Err-clause-compares : goal.returns-in-Err-clause-compares
returns-in-Err-clause-compares g c =
    subst (λ (text : List ℕ). Compares g.A.Disk g.B.Disk c.args.old c.args.new (Old c.in-Err.fault) text) (sym c.new.ensures.items) (old_refused c.in-Err.fault c.in-Err.ensures.refuses)

pub returns-in-Err-read_list-clause-compares : goal.returns-in-Err-read_list-clause-compares
returns-in-Err-read_list-clause-compares g c =
    subst (λ (text : List ℕ). Compares g.A.Disk g.B.Disk c.args.old c.args.new (New c.in-Err-read_list.fault) text) (sym c.new-in-Err-read_list.ensures.items)
    (new_refused _ c.in-Err-read_list.fault (record { recovers = c.in-Ok.ensures.recovers; legal = c.in-Ok.ensures.legal }) c.in-Err-read_list.ensures.refuses)

pub returns-in-Ok-told-clause-compares : goal.returns-in-Ok-told-clause-compares
returns-in-Ok-told-clause-compares g c =
    told _ _ c.in-Ok-told.text.items (record { recovers = c.in-Ok.ensures.recovers; legal = c.in-Ok.ensures.legal })
    (record { recovers = c.in-Ok-read_list.ensures.recovers; legal = c.in-Ok-read_list.ensures.legal }) c.in-Ok-told.ensures

pub returns-clause-compares : goal.returns-clause-compares
returns-clause-compares g c =
    subst (λ (text : List ℕ). Compares g.A.Disk g.B.Disk c.args.old c.args.new NoMemory text) (sym c.new-in-Err-told.ensures.items)
    (starved _ _ (record { recovers = c.in-Ok.ensures.recovers; legal = c.in-Ok.ensures.legal }) (record { recovers = c.in-Ok-read_list.ensures.recovers; legal = c.in-Ok-read_list.ensures.legal }))
