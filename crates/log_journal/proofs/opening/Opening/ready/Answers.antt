use Rattle.std.proofs.Common.{◌≡◌, ◌+◌, ◌≤◌, List, ℕ, length, take, sym, ◌∙◌, ap, subst, arith}
use Rattle.io_traits.specs.DiskState.{Cut, After, IsKept, EachMoment}
use Rattle.io_traits.proofs.Moments.{weaken}
use Rattle.log_journal.specs.Stands.{StandsFor}
use Rattle.log_journal.proofs.Bytes.{length-take_le}
use Rattle.log_journal.proofs.Gates.{gate_in, cut_keeps, cut_done}
use Rattle.log_journal.proofs.opening.Opening.ready.Goals as goal

pub returns-in-Ok-clause-kept : goal.returns-in-Ok-clause-kept
returns-in-Ok-clause-kept g c honest header h all =
    let old = g.D.Disk.tells c.args.self.disk in
    let new = g.D.Disk.tells c.trim.new.disk in
    let kept : IsKept (take (c.args.self.gate + 1) old.reads) new = c.in-Ok.ensures.done honest in
    let at = c.at.ensures in
    let stands : (x : List ℕ) → new.image x → StandsFor header x h = λ x now. subst (λ l. StandsFor header l h) (sym (kept.quiet x now ∙ kept.reads ∙ ap (λ (k : ℕ). take (k + 1) old.reads) all.gate)) (cut_done header old.reads h all.stands) in
    record { each = subst (λ d. (x : List ℕ) → (g.D.Disk.tells d).image x → StandsFor header x h) (sym at.disk) stands; ahead = λ some. absurd (omega (arith, some, ap length at.ahead)); decided = at.decided; gate = at.gate ∙ all.gate; count = at.count ∙ all.count }

pub returns-in-Ok-clause-quiet : goal.returns-in-Ok-clause-quiet
returns-in-Ok-clause-quiet g c honest =
    let old = g.D.Disk.tells c.args.self.disk in
    let kept : IsKept (take (c.args.self.gate + 1) old.reads) (g.D.Disk.tells c.trim.new.disk) = c.in-Ok.ensures.done honest in
    subst (λ d. (x : List ℕ) → (g.D.Disk.tells d).image x → x ≡ (g.D.Disk.tells d).reads) (sym c.at.ensures.disk) kept.quiet

pub returns-in-Ok-clause-elapsed : goal.returns-in-Ok-clause-elapsed
returns-in-Ok-clause-elapsed g c honest =
    let old = g.D.Disk.tells c.args.self.disk in
    subst (λ d. old.moment ≤ (g.D.Disk.tells d).moment) (sym c.at.ensures.disk) (c.in-Ok.ensures.told honest).moments.later

pub returns-in-Ok-clause-moments : goal.returns-in-Ok-clause-moments
returns-in-Ok-clause-moments g c honest header h all each =
    let old = g.D.Disk.tells c.args.self.disk in
    subst (λ d. EachMoment old (g.D.Disk.tells d) (λ x. StandsFor header x h)) (sym c.at.ensures.disk)
    (weaken old (g.D.Disk.tells c.trim.new.disk) (After (Cut (c.args.self.gate + 1)) old.image) (λ x. StandsFor header x h)
    (λ x from. cut_keeps header from.0 x h (each from.0 from.1) (subst (λ k. Cut (k + 1) from.0 x) all.gate from.2)) (c.in-Ok.ensures.told honest).moments)

pub returns-in-Err-clause-moments_err : goal.returns-in-Err-clause-moments_err
returns-in-Err-clause-moments_err g c honest header h all each =
    let old = g.D.Disk.tells c.args.self.disk in
    weaken old (g.D.Disk.tells c.trim.new.disk) (After (Cut (c.args.self.gate + 1)) old.image) (λ x. StandsFor header x h)
    (λ x from. cut_keeps header from.0 x h (each from.0 from.1) (subst (λ k. Cut (k + 1) from.0 x) all.gate from.2)) (c.trim.ensures.told honest).moments

pub returns-in-Ok-clause-trimmed : goal.returns-in-Ok-clause-trimmed
returns-in-Ok-clause-trimmed g c honest header h all =
    let old = g.D.Disk.tells c.args.self.disk in
    let kept : IsKept (take (c.args.self.gate + 1) old.reads) (g.D.Disk.tells c.trim.new.disk) = c.in-Ok.ensures.done honest in
    let inside = gate_in header old.reads h all.stands in
    let place = all.gate in
    ap (λ d. length (g.D.Disk.tells d).reads) c.at.ensures.disk ∙ ap length kept.reads
    ∙ length-take_le (c.args.self.gate + 1) old.reads (omega arith) ∙ ap (λ (k : ℕ). k + 1) all.gate
