-- The first broken line of lists that are put together: that of the first list, or else that of the second.
use Rattle.std.proofs.Common.{◌≡◌, cond, refl, ap, ◌∙◌, Bool, true, false, List, [], ◌∷◌, ◌++◌, Option, Some, None}
use Rattle.aid_types.specs.declared.award.Refusal.{Refusal}
use Rattle.aid_types.specs.RuleLines.{first_broken, told_by}
use Rattle.aid_types.specs.declared.line.RuleLine.{RuleLine}

-- the first refusal, or else the second
abbrev pub first_of : Option Refusal → Option Refusal → Option Refusal
first_of None r = r
first_of (Some r) s = Some r

pub first_broken_append : (xs ys : List RuleLine) → first_broken (xs ++ ys) ≡ first_of (first_broken xs) (first_broken ys)
first_broken_append [] ys = refl
first_broken_append (x ∷ xs) ys = go x.is_broken (first_broken_append xs ys)
  where
    go : (b : Bool) → first_broken (xs ++ ys) ≡ first_of (first_broken xs) (first_broken ys) →
        cond b (Some (told_by x)) (first_broken (xs ++ ys)) ≡ first_of (cond b (Some (told_by x)) (first_broken xs)) (first_broken ys)
    go true e = refl
    go false e = e

-- the same of three lists
pub three_groups : (xs ys zs : List RuleLine) →
    first_broken (xs ++ (ys ++ zs)) ≡ first_of (first_broken xs) (first_of (first_broken ys) (first_broken zs))
three_groups xs ys zs = first_broken_append xs (ys ++ zs) ∙ ap (first_of (first_broken xs)) (first_broken_append ys zs)
