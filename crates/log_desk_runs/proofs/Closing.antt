-- The rows that filed the newest filings, the oldest first.
use Rattle.std.proofs.Common.{◌≡◌, ◌⊎◌, inl, inr, ℕ, zero, suc, ◌-◌, ◌≤◌, List, ◌++◌, length, take, drop, reverse, sym, ap, ◌∙◌, arith}
use Rattle.std.proofs.lemmas.List.{reverse-append, reverse-reverse, length-reverse, length-drop, take-append-drop, take-append-le, take_all}

either : (m n : ℕ) → (m ≤ n) ⊎ (n ≤ m)
either zero n = inl (omega arith)
either (suc m) zero = inr (omega arith)
either (suc m) (suc n) = step (either m n)
  where
    step : (m ≤ n) ⊎ (n ≤ m) → (suc m ≤ suc n) ⊎ (suc n ≤ suc m)
    step (inl le) = inl (omega (arith, le))
    step (inr le) = inr (omega (arith, le))

front_taken : {X : Type 0} (xs ys : List X) (n : ℕ) → length xs ≡ n → take n (xs ++ ys) ≡ xs
front_taken xs ys n is = take-append-le n xs ys (omega (arith, is)) ∙ take_all n xs (omega (arith, is))

-- the last n of a list, by the first n of it reversed
pub last_rows : {X : Type 0} (items log : List X) (n : ℕ) → reverse items ≡ log → drop (length items - n) items ≡ reverse (take n log)
last_rows items log n is = cases (either n (length items))
  where
    all : reverse items ≡ reverse (drop (length items - n) items) ++ reverse (take (length items - n) items)
    all = ap reverse (sym (take-append-drop (length items - n) items)) ∙ reverse-append (take (length items - n) items) (drop (length items - n) items)

    size : n ≤ length items → length (reverse (drop (length items - n) items)) ≡ n
    size le = let behind : length (drop (length items - n) items) ≡ length items - (length items - n) = length-drop (length items - n) items in
        length-reverse (drop (length items - n) items) ∙ omega (arith, behind, le)

    cases : (n ≤ length items) ⊎ (length items ≤ n) → drop (length items - n) items ≡ reverse (take n log)
    cases (inl le) = sym (reverse-reverse (drop (length items - n) items))
        ∙ ap reverse (sym (ap (take n) (sym is ∙ all) ∙ front_taken (reverse (drop (length items - n) items)) (reverse (take (length items - n) items)) n (size le)))
    cases (inr le) =
        let none : length items - n ≡ 0 = omega (arith, le) in
        let same : length log ≡ length items = ap length (sym is) ∙ length-reverse items in
        ap (λ (m : ℕ). drop m items) none ∙ (sym (reverse-reverse items) ∙ ap reverse (is ∙ sym (take_all n log (omega (arith, same, le)))))
