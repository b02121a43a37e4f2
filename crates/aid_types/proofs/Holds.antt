-- What it means that no line of a list is broken.
use Rattle.std.proofs.Common.{◌≡◌, cond, ℕ, zero, suc, ◌≤◌, ◌<◌, refl, arith, Bool, true, false, List, [], ◌∷◌, ◌++◌, Option, Some, None, ltb-false, le-ltb}
use Rattle.aid_types.specs.declared.award.Refusal.{Refusal}
use Rattle.aid_types.specs.declared.line.RuleLine.{RuleLine}
use Rattle.aid_types.specs.RuleLines.{over, stands, lacks, only, first_broken, told, told_by}

-- each line holds
abbrev pub AllHold : List RuleLine → Type 0
AllHold [] = Unit {0}
AllHold (c ∷ cs) = (c.is_broken ≡ false) × AllHold cs

cons_of : (b : Bool) (r : Refusal) (rest : Option Refusal) → cond b (Some r) rest ≡ None → (b ≡ false) × (rest ≡ None)
cons_of true r rest h = cc
cons_of false r rest h = (refl, h)

pub all_hold : (cs : List RuleLine) → first_broken cs ≡ None → AllHold cs
all_hold [] h = tt
all_hold (c ∷ cs) h =
    let p : (c.is_broken ≡ false) × (first_broken cs ≡ None) = cons_of c.is_broken (told_by c) (first_broken cs) h in
    (p.0, all_hold cs p.1)

pub none_broken : (cs : List RuleLine) → AllHold cs → first_broken cs ≡ None
none_broken [] h = refl
none_broken (c ∷ cs) h = rw h.0 (none_broken cs h.1)

pub hold_front : (xs ys : List RuleLine) → AllHold (xs ++ ys) → AllHold xs
hold_front [] ys h = tt
hold_front (x ∷ xs) ys h = (h.0, hold_front xs ys h.1)

pub hold_back : (xs ys : List RuleLine) → AllHold (xs ++ ys) → AllHold ys
hold_back [] ys h = h
hold_back (x ∷ xs) ys h = hold_back xs ys h.1

pub hold_both : (xs ys : List RuleLine) → AllHold xs → AllHold ys → AllHold (xs ++ ys)
hold_both [] ys h k = k
hold_both (x ∷ xs) ys h k = (h.0, hold_both xs ys h.1 k)

pub hold_only : (b : Bool) (cs : List RuleLine) → b ≡ true → AllHold (only b cs) → AllHold cs
hold_only true cs e h = h
hold_only false cs e h = cc

pub only_holds : (b : Bool) (cs : List RuleLine) → (b ≡ true → AllHold cs) → AllHold (only b cs)
only_holds true cs h = h refl
only_holds false cs h = tt

-- a line that holds
pub over_holds : (rule kept bound : ℕ) → (over rule kept bound).is_broken ≡ false → kept ≤ bound
over_holds rule kept bound h = ltb-false bound kept h

pub holds_over : (rule kept bound : ℕ) → kept ≤ bound → (over rule kept bound).is_broken ≡ false
holds_over rule kept bound h = le-ltb bound kept h

pub stands_holds : (rule at bound : ℕ) → (stands rule at bound).is_broken ≡ false → at ≡ 0
stands_holds rule at bound h = let k : at ≤ 0 = ltb-false 0 at h in omega arith

pub lacks_holds : (rule at kept bound : ℕ) → (lacks rule at kept bound).is_broken ≡ false → 0 < at
lacks_holds rule zero kept bound h = cc
lacks_holds rule (suc at) kept bound h = omega arith

pub told_holds : (r : Option Refusal) → AllHold (told r) → r ≡ None
told_holds None h = refl
told_holds (Some r) h = let e = h.0 in cc
