-- What holds of marks as rules.
use Rattle.std.proofs.Common.{◌≡◌, ◌+◌, ◌<◌, ◌≤◌, ℕ, ℤ, pos, refl, ap, arith, Bool, true, false, List, [], ◌∷◌, length, None}
use Rattle.std.specs.Prelude.{nat_le, slice_index_or, unsigned_abs}
use Rattle.std.specs.Coded.{le_prop}
use Rattle.std.proofs.lemmas.Bool.Decides.{nat_tests}
use Rattle.aid_types.specs.Ranges.{IsBetween}
use Rattle.aid_types.proofs.Same.{same_with_fact}
use Rattle.log_rules.specs.RowLaws.{rows_by}
use Rattle.log_rules.specs.Rows.{SpellsRows}
use Rattle.log_rules.specs.Ruled.{IsLegal}
use Rattle.desk_tests.specs.declared.mark.Mark.{Mark}
use Rattle.desk_tests.specs.Marks.{IsFew, breaks, code_of, key_of, mark_key, mark_kinds, marking, numbers_of, outcome, total, unless_few}

at : {xs ys : List ℤ} → xs ≡ ys → (k : ℕ) → unsigned_abs (slice_index_or xs k (pos 0)) ≡ unsigned_abs (slice_index_or ys k (pos 0))
at e k = ap (λ (zs : List ℤ). unsigned_abs (slice_index_or zs k (pos 0))) e

-- a mark is told by its numbers
pub one_mark : (x y : Mark) → code_of x ≡ code_of y → numbers_of x ≡ numbers_of y → x ≡ y
one_mark x y c e =
    let P : ℕ × ℕ → Type 0 = λ b. IsBetween 1 999999 b.0 × (b.1 ≤ 200) in
    let make : (b : ℕ × ℕ) → P b → Mark = λ b p. record { number = b.0; amount = b.1; numbered = p.0; in_range = p.1 } in
    let parts : (x.number, x.amount) ≡ (y.number, y.amount) = λ i. (at e 0 i, at e 1 i) in
    same_with_fact P make (λ b. hlevel (le_prop)) (x.number, x.amount) (y.number, y.amount) (x.numbered, x.in_range) (y.numbered, y.in_range) parts

pub mark_rows : SpellsRows marking mark_key mark_kinds code_of numbers_of
mark_rows = rows_by mark_key mark_kinds code_of numbers_of key_of breaks outcome one_mark

-- a mark that breaks no rule leaves at most 1,000 points
pub allowed : (past : List Mark) (m : Mark) → breaks past m ≡ None → total past + m.amount + 1 ≤ 1000
allowed past m is = go (nat_le (total past + m.amount + 1) 1000) refl is
  where
    go : (b : Bool) → nat_le (total past + m.amount + 1) 1000 ≡ b → unless_few b (total past) ≡ None → total past + m.amount + 1 ≤ 1000
    go true le told = grind (arith, nat_tests)
    go false le told = absurd (let bad : ⊥ = cc in bad)

-- each mark has a point
length-le : (past : List Mark) → length past ≤ total past
length-le [] = omega arith
length-le (m ∷ past) = omega (arith, length-le past)

pub full : (past : List Mark) (m : Mark) → breaks past m ≡ None → length past < 200000
full past m is = omega (arith, allowed past m is, length-le past)

pub legal_within : (past : List Mark) → IsLegal marking past → IsFew past
legal_within [] legal = omega arith
legal_within (m ∷ past) legal = allowed past m legal.2
