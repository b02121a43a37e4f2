-- Whether a student withdrew, with a filing more.
use Rattle.std.proofs.Common.{◌≡◌, refl, true, false, Option, Some, None, is_some}
use Rattle.office_history.specs.Past.{earlier}

-- once a filing told something, it stays told
pub told_before : {A : Type 0} (here before : Option A) → is_some before ≡ true → true ≡ is_some (earlier here before)
told_before here None h = absurd cc
told_before None (Some b) h = refl
told_before (Some a) (Some b) h = refl

-- where nothing was told before, the filing tells it or nothing does
pub told_here : {A : Type 0} (here before : Option A) → is_some before ≡ false → is_some here ≡ is_some (earlier here before)
told_here here (Some b) h = absurd cc
told_here None None h = refl
told_here (Some a) None h = refl
