-- Two parts and a last byte fill a block.
use Rattle.std.proofs.Common.{◌≡◌, ℕ, ◌+◌, ◌-◌, List, [], ◌∷◌, ◌++◌, length, take, drop, ◌∙◌, ap, arith, append_assoc, length-append, length-drop}
use Rattle.std.proofs.lemmas.List.{take_at, drop_all}
use Rattle.std.proofs.lemmas.Slice.{take-put_mid, drop-put_mid}
use Rattle.std.specs.Prelude.{slice_set}
use borrow.Rule.Slice.PartMut.{put_mid}
use Rattle.log_journal.proofs.Bytes.{set_split}

pub filled : (block x y : List ℕ) (n : ℕ) → length block ≡ n + 5 → length x ≡ 4 → length y ≡ n → slice_set (put_mid 4 (n + 4 - 4) (x ++ drop 4 block) y) (n + 4) 0 ≡ x ++ (y ++ 0 ∷ [])
filled block x y n size four is =
    let xs = x ++ drop 4 block in
    let z = put_mid 4 (n + 4 - 4) xs y in
    let long : length xs ≡ n + 5 = omega (arith, length-append x (drop 4 block), length-drop 4 block) in
    let front : take (n + 4) z ≡ x ++ y = take-put_mid 4 (n + 4 - 4) xs y (n + 4) (omega arith) (omega arith) ∙ ap (λ (l : List ℕ). l ++ y) (take_at x (drop 4 block) 4 four) in
    let same : drop (n + 4) z ≡ drop (n + 4) xs = drop-put_mid 4 (n + 4 - 4) xs y (n + 4) (omega arith) (omega arith) (omega arith) in
    let back : drop (n + 4 + 1) z ≡ [] = drop-put_mid 4 (n + 4 - 4) xs y (n + 4 + 1) (omega arith) (omega arith) (omega arith) ∙ drop_all (n + 4 + 1) xs (omega arith) in
    set_split z (n + 4) 0 (omega (arith, ap length same, length-drop (n + 4) z, length-drop (n + 4) xs))
    ∙ ap (λ (l : List ℕ). l ++ 0 ∷ drop (n + 4 + 1) z) front
    ∙ ap (λ (l : List ℕ). (x ++ y) ++ 0 ∷ l) back
    ∙ append_assoc x y (0 ∷ [])
