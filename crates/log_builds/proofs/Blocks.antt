-- What is copied into a block.
use Rattle.std.proofs.Common.{◌≡◌, ℕ, ◌+◌, ◌-◌, ◌≤◌, List, [], ◌∷◌, ◌++◌, length, take, drop, sym, ◌∙◌, ap, arith, append_assoc, length-drop}
use Rattle.std.proofs.lemmas.List.{append-nil, take_at, drop_at, drop_all}
use Rattle.std.specs.Prelude.{replicate, slice_set}
use borrow.Rule.Slice.PartMut.{put_mid}

-- a name and a version before three zeros
pub named : (x y : List ℕ) → length x ≡ 8 → put_mid 8 4 (x ++ replicate 7 0) y ≡ (x ++ y) ++ 0 ∷ 0 ∷ 0 ∷ []
named x y eight =
    let zeros = replicate 7 0 in
    let front : take 8 (x ++ zeros) ≡ x = take_at x zeros 8 eight in
    let behind : drop 4 (drop 8 (x ++ zeros)) ≡ replicate 3 0 = ap (λ (l : List ℕ). drop 4 l) (drop_at x zeros 8 eight) in
    ap (λ (l : List ℕ). l ++ (y ++ drop 4 (drop 8 (x ++ zeros)))) front ∙ ap (λ (l : List ℕ). x ++ (y ++ l)) behind ∙ sym (append_assoc x y (0 ∷ 0 ∷ 0 ∷ []))

-- an open gate, four bytes, and all the rest
pub filled : (block x y : List ℕ) → 5 ≤ length block → length x ≡ 4
    → put_mid 5 (length (put_mid 1 4 (slice_set block 0 1) x) - 5) (put_mid 1 4 (slice_set block 0 1) x) y ≡ 1 ∷ (x ++ y)
filled [] x y some four = absurd (omega arith)
filled (b ∷ block) x y some four =
    let z = put_mid 1 4 (1 ∷ block) x in
    let rest = drop 4 block in
    let front : take 4 (x ++ rest) ≡ x = take_at x rest 4 four in
    let none : drop (length z - 5) (drop 5 z) ≡ [] = drop_all (length z - 5) (drop 5 z) (omega (arith, length-drop 5 z)) in
    ap (λ (l : List ℕ). (1 ∷ l) ++ (y ++ drop (length z - 5) (drop 5 z))) front ∙ ap (λ (l : List ℕ). (1 ∷ x) ++ (y ++ l)) none ∙ ap (λ (l : List ℕ). 1 ∷ (x ++ l)) (append-nil y)
