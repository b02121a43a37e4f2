-- The walk to the end of a head block.
use Rattle.std.proofs.Common.{rules, arith, ◌≡◌, ◌∙◌, sym, ap, subst, refl, ℕ, suc, zero, Bool, true, false, ◌+◌, ◌-◌, ◌≤◌, if◌then◌else◌, get_or, List, [], ◌∷◌, ◌++◌, length, take, drop, None, Some, append_assoc, length-append}
use Rattle.std.proofs.lemmas.List.{drop-append-le}
use Rattle.web_session.specs.Ends.{next_state, ends_at, end_from, head_end, IsScanned}
use Rattle.web_session.specs.declared.head_state.HeadState.{HeadState}
use Rattle.web_session.specs.declared.head_state.HeadState.TheVariants.{Before}

pub append_nil : (xs : List ℕ) → xs ++ [] ≡ xs
append_nil [] = refl
append_nil (x ∷ xs) = ap (λ (l : List ℕ). x ∷ l) (append_nil xs)

-- a head block that has come stays the first, whatever comes behind it
pub end_from-append : (state : HeadState) (n : ℕ) (bytes more : List ℕ) (k : ℕ) → end_from state n bytes ≡ Some k → end_from state n (bytes ++ more) ≡ Some k
end_from-append state n [] more k is = absurd (let bad : ⊥ = cc in bad)
end_from-append state n (b ∷ rest) more k is =
    elim (ends_at state b) as (λ e. (if e then Some (n + 1) else end_from (next_state state b) (n + 1) rest) ≡ Some k → (if e then Some (n + 1) else end_from (next_state state b) (n + 1) (rest ++ more)) ≡ Some k)
    [ true ↦ λ h. h | false ↦ λ h. end_from-append (next_state state b) (n + 1) rest more k h ] is

pub end_from-le : (state : HeadState) (n : ℕ) (bytes : List ℕ) (k : ℕ) → end_from state n bytes ≡ Some k → k ≤ n + length bytes
end_from-le state n [] k is = absurd (let bad : ⊥ = cc in bad)
end_from-le state n (b ∷ rest) k is =
    elim (ends_at state b) as (λ e. (if e then Some (n + 1) else end_from (next_state state b) (n + 1) rest) ≡ Some k → k ≤ n + length (b ∷ rest))
    [ true ↦ λ h. (let same : n + 1 ≡ k = search rules in omega (arith, same)) | false ↦ λ h. (let le : k ≤ (n + 1) + length rest = end_from-le (next_state state b) (n + 1) rest k h in omega (arith, le)) ] is

-- no byte was looked at
pub scanned_none : (bytes : List ℕ) → IsScanned Before 0 bytes
scanned_none bytes = record { within = omega arith; goes_on = λ more. refl }

-- more bytes came
pub scanned_append : (state : HeadState) (n : ℕ) (bytes more : List ℕ) → IsScanned state n bytes → IsScanned state n (bytes ++ more)
scanned_append state n bytes more scanned = record {
  within = omega (arith, scanned.within, length-append bytes more);
  goes_on = λ later.
      ap head_end (append_assoc bytes more later)
      ∙ scanned.goes_on (more ++ later)
      ∙ ap (end_from state n) (sym (append_assoc (drop n bytes) more later) ∙ ap (λ (l : List ℕ). l ++ later) (sym (drop-append-le n bytes more scanned.within)));
}

-- the end of the bytes themselves
pub scanned_end : (state : HeadState) (n : ℕ) (bytes : List ℕ) → IsScanned state n bytes → head_end bytes ≡ end_from state n (drop n bytes)
scanned_end state n bytes scanned = ap head_end (sym (append_nil bytes)) ∙ scanned.goes_on [] ∙ ap (end_from state n) (append_nil (drop n bytes))

-- a head block ends with it
pub walk_end : (state : HeadState) (n : ℕ) (bytes rest : List ℕ) → 1 ≤ length rest → ends_at state (get_or rest 0 0) ≡ true
    → ((more : List ℕ) → head_end (bytes ++ more) ≡ end_from state n (rest ++ more))
    → Some (n + 1) ≡ head_end bytes
walk_end state n bytes [] some stops on = absurd (omega (arith, some))
walk_end state n bytes (b ∷ rest) some stops on = sym (
    ap head_end (sym (append_nil bytes)) ∙ on [] ∙ ap (λ (e : Bool). if e then Some (n + 1) else end_from (next_state state b) (n + 1) (rest ++ [])) stops)

-- all bytes were looked at
pub walk_none : (state : HeadState) (n : ℕ) (bytes rest : List ℕ) → length rest ≡ 0
    → ((more : List ℕ) → head_end (bytes ++ more) ≡ end_from state n (rest ++ more))
    → None ≡ head_end bytes
walk_none state n bytes [] none on = sym (ap head_end (sym (append_nil bytes)) ∙ on [])
walk_none state n bytes (x ∷ rest) none on = absurd (omega (arith, none))

take_append : (n : ℕ) (xs ys : List ℕ) → take n (xs ++ ys) ≡ take n xs ++ take (n - length xs) ys
take_append zero xs ys = let none : 0 - length xs ≡ 0 = omega arith in sym (ap (λ (m : ℕ). take m ys) none)
take_append (suc n) [] ys = let all : suc n - 0 ≡ suc n = omega arith in sym (ap (λ (m : ℕ). take m ys) all)
take_append (suc n) (x ∷ xs) ys =
    let e : suc n - length (x ∷ xs) ≡ n - length xs = omega arith in
    ap (λ (l : List ℕ). x ∷ l) (take_append n xs ys) ∙ ap (λ (m : ℕ). x ∷ (take n xs ++ take m ys)) (sym e)

pub take_le : (n : ℕ) (xs : List ℕ) → length (take n xs) ≤ length xs
take_le zero xs = omega arith
take_le (suc n) [] = omega arith
take_le (suc n) (x ∷ xs) = omega (arith, take_le n xs)

-- more bytes came, and no more than a room of them are looked at
pub scanned_room : (state : HeadState) (n room : ℕ) (bytes more all : List ℕ) → all ≡ bytes ++ more → IsScanned state n (take room bytes) → IsScanned state n (take room all)
scanned_room state n room bytes more all is scanned =
    subst (λ (l : List ℕ). IsScanned state n l) (sym (ap (take room) is ∙ take_append room bytes more)) (scanned_append state n (take room bytes) (take (room - length bytes) more) scanned)

-- the head block of a front of the bytes is that of all
pub end_room : (room : ℕ) (bytes more : List ℕ) (k : ℕ) → head_end (take room bytes) ≡ Some k → head_end (take room (bytes ++ more)) ≡ Some k
end_room room bytes more k is = ap head_end (take_append room bytes more) ∙ end_from-append Before 0 (take room bytes) (take (room - length bytes) more) k is
