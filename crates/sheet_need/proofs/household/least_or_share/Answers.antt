use Rattle.std.proofs.Common.{◌≡◌, refl, sym, ap, ◌∙◌, ℤ, w64, of_z, to_z, Bool, true, false}
use Rattle.std.specs.Ordering.{int_eq}
use Rattle.std.proofs.lemmas.Int.{to_z-of_z}
use Rattle.std.proofs.lemmas.Bool.Decides.{Decides-int_eq}
use Rattle.sheet_need.proofs.household.least_or_share.Goals as goal

-- a test that isn't met
refuted : (x y : ℤ) → (x ≡ y → ⊥) → (b : Bool) → int_eq x y ≡ b → int_eq x y ≡ false
refuted x y off true e = absurd (off ((Decides-int_eq x y).0 e))
refuted x y off false e = e

pub returns-then-taken-lowest : goal.returns-then-taken-lowest
returns-then-taken-lowest c =
    let x = c.args.taken in
    let y = c.args.lowest in
    let x_is = to_z-of_z w64 x c.ranges.taken in
    let same : x ≡ y = sym x_is ∙ ap (λ n. to_z w64 n) c.if-taken-lowest.true ∙ to_z-of_z w64 y c.ranges.lowest in
    let least : int_eq x y ≡ true = (Decides-int_eq x y).1 same in
    let value = rw x_is at c.worked.ensures in
    rw (least) value

pub returns-else-taken-lowest : goal.returns-else-taken-lowest
returns-else-taken-lowest c =
    let x = c.args.taken in
    let y = c.args.lowest in
    let x_is = to_z-of_z w64 x c.ranges.taken in
    let rate_is = to_z-of_z w64 c.args.rate c.ranges.rate in
    let more : int_eq x y ≡ false = refuted x y (λ e. c.if-taken-lowest.false (ap (λ z. of_z w64 z) e)) (int_eq x y) refl in
    let value = rw (x_is, rate_is) at c.worked_with.ensures in
    rw (more) value
