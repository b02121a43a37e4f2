-- The test of the order of candidates.
use Rattle.std.proofs.Common.{◌≡◌, ◌+◌, Bool, true, false, List, [], ◌∷◌, IsTrue, ◌↔◌, sym, refl, arith, slice_index_or}
use Rattle.std.specs.List.{IsAllAdjacentAnswer}
use Rattle.law_funds.specs.Order.{comes_before, IsInOrder}
use Rattle.law_funds.specs.declared.candidate.Candidate.{Candidate}

-- a test can't tell both
not-both : (b : Bool) → false ≡ b → b ≡ true → ⊥
not-both b f t = cc

-- the answer of a test of all neighbours tells the order
pub told_in_order : (list : List Candidate) (r : Bool) → IsAllAdjacentAnswer (λ x y b. b ≡ comes_before x y) list r → IsTrue r ↔ IsInOrder list
told_in_order list true h = ((λ t k none lt. sym (h k none lt)), λ o. refl)
told_in_order [] false h = ((λ f. absurd (not-both false refl f)), λ o. absurd (omega (arith, h.1)))
told_in_order (c ∷ cs) false h = (
  (λ f. absurd (not-both false refl f)),
  λ o. absurd (not-both (comes_before (slice_index_or (c ∷ cs) h.0 c) (slice_index_or (c ∷ cs) (h.0 + 1) c)) (h.2 c) (o h.0 c h.1)),
)
