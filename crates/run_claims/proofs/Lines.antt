-- The lines of a list that are all kept, as one test.
use Rattle.std.proofs.Common.{◌≡◌, Bool, true, false, not, ◌&&◌, ◌||◌, List, [], ◌∷◌, ◌++◌, Option, Some, None, refl, sym, ◌∙◌, cond}
use Rattle.std.specs.Prelude.{is_none}
use Rattle.aid_types.specs.declared.award.Refusal.{Refusal}
use Rattle.aid_types.specs.declared.line.RuleLine.{RuleLine}
use Rattle.aid_types.specs.RuleLines.{first_broken, only, told, told_by}
use Rattle.run_claims.proofs.Tests.{and_both, and_three}

-- no line is broken
abbrev pub all_keep : List RuleLine → Bool
all_keep [] = true
all_keep (line ∷ lines) = not line.is_broken && all_keep lines

-- no line of a list is the first that is broken exactly where all are kept
pub none_broken_is : (lines : List RuleLine) → is_none (first_broken lines) ≡ all_keep lines
none_broken_is [] = refl
none_broken_is (line ∷ lines) = go line.is_broken (told_by line) (none_broken_is lines)
  where
    go : (b : Bool) (r : Refusal) → is_none (first_broken lines) ≡ all_keep lines →
        is_none (cond b (Some r) (first_broken lines)) ≡ (not b && all_keep lines)
    go true r h = refl
    go false r h = h

-- two groups of lines
pub keep_both : (xs ys : List RuleLine) → all_keep (xs ++ ys) ≡ (all_keep xs && all_keep ys)
keep_both [] ys = refl
keep_both (x ∷ xs) ys = go (not x.is_broken) (keep_both xs ys)
  where
    go : (b : Bool) → all_keep (xs ++ ys) ≡ (all_keep xs && all_keep ys) → (b && all_keep (xs ++ ys)) ≡ (b && all_keep xs && all_keep ys)
    go true h = h
    go false h = refl

-- three groups of lines
pub three_groups : (xs ys zs : List RuleLine) {x y z : Bool} → x ≡ all_keep xs → y ≡ all_keep ys → z ≡ all_keep zs → (x && y && z) ≡ all_keep (xs ++ (ys ++ zs))
three_groups xs ys zs {x} {y} {z} p q r = and_three p q r ∙ sym (keep_both xs (ys ++ zs) ∙ and_both refl (keep_both ys zs))

-- lines that are tried only where a test holds, and a refusal that was found elsewhere
pub keep_only : (b : Bool) (lines : List RuleLine) → all_keep (only b lines) ≡ (not b || all_keep lines)
keep_only true lines = refl
keep_only false lines = refl

pub keep_told : (r : Option Refusal) → all_keep (told r) ≡ is_none r
keep_told None = refl
keep_told (Some r) = refl
