-- The least code, and the first position of a term, are least numbers.
use Rattle.std.proofs.Common.{subst, ◌≡◌, ℕ, zero, suc, ◌<◌, ◌≤◌, refl, arith, Bool, true, false, ◌⊎◌, inl, inr, List, [], ◌∷◌}
use Rattle.std.specs.Prelude.{nat_lt, min}
use Rattle.std.specs.List.{All}
use Rattle.std.proofs.lemmas.Bool.Decides.{nat_tests}
use Rattle.std.proofs.lemmas.List.Elements.{All-nil, All-cons, All-head, All-tail, All-weaker, All-contains}
use Rattle.office_history.specs.Past.{FiledTerm, first_of_two}
use Rattle.office_history.specs.Positions.{lesser_code, least_code, first_term_at}
use Rattle.office_history.specs.Least.{NonePasses, IsLeastNumber}
use Rattle.office_history.proofs.Among.{among_head, among_rest}

-- 0 where none passes, and otherwise the least number
abbrev pub Tells : (FiledTerm → ℕ) → (FiledTerm → Bool) → List FiledTerm → ℕ → Type 0
Tells number p ts n = ((n ≡ 0) × NonePasses p ts) ⊎ ((0 < n) × IsLeastNumber number p ts n)

not_less : (n m : ℕ) → m ≤ n → nat_lt n m ≡ false
not_less n m h = grind (arith, nat_tests)

at_least : (n m : ℕ) → nat_lt n m ≡ false → m ≤ n
at_least n m h = grind (arith, nat_tests)

-- the head's number, where none of the rest is less
own_number : (number : FiledTerm → ℕ) (p : FiledTerm → Bool) (t : FiledTerm) (ts : List FiledTerm) → p t ≡ true →
    All (λ u. p u ≡ true → nat_lt (number u) (number t) ≡ false) ts → IsLeastNumber number p (t ∷ ts) (number t)
own_number number p t ts e rest = record {
  thing = t;
  least = record {
    among = among_head t ts;
    accepted = e;
    least = All-cons (λ u. p u ≡ true → nat_lt (number u) (number t) ≡ false) t ts (λ k. not_less (number t) (number t) (omega arith)) rest;
  };
  own = refl;
}

-- the number of the rest, where the head has none that is less
older_number : (number : FiledTerm → ℕ) (p : FiledTerm → Bool) (t : FiledTerm) (ts : List FiledTerm) (n : ℕ) → IsLeastNumber number p ts n →
    (p t ≡ true → n ≤ number t) → IsLeastNumber number p (t ∷ ts) n
older_number number p t ts n k above = record {
  thing = k.thing;
  least = record {
    among = among_rest t ts k.thing k.least.among;
    accepted = k.least.accepted;
    least = All-cons (λ u. p u ≡ true → nat_lt (number u) (number k.thing) ≡ false) t ts
        (λ e. not_less (number t) (number k.thing) (let a = above e in let b = k.own in omega arith)) k.least.least;
  };
  own = k.own;
}

-- a head that doesn't pass
skips : (number : FiledTerm → ℕ) (p : FiledTerm → Bool) (t : FiledTerm) (ts : List FiledTerm) (n : ℕ) → p t ≡ false → Tells number p ts n → Tells number p (t ∷ ts) n
skips number p t ts n e (inl k) = inl (k.0, All-cons (λ u. p u ≡ false) t ts e k.1)
skips number p t ts n e (inr k) = inr (k.0, older_number number p t ts n k.1 (λ d. absurd (cc)))

-- a head that passes where none of the rest does
alone : (number : FiledTerm → ℕ) (p : FiledTerm → Bool) (t : FiledTerm) (ts : List FiledTerm) → p t ≡ true → 0 < number t → NonePasses p ts → Tells number p (t ∷ ts) (number t)
alone number p t ts e pos none =
    inr (
      pos,
      own_number number p t ts e
          (All-weaker (λ u. p u ≡ false) (λ u. p u ≡ true → nat_lt (number u) (number t) ≡ false) (λ u k d. absurd (cc)) ts none),
    )

-- a head whose number is less
leads : (number : FiledTerm → ℕ) (p : FiledTerm → Bool) (t : FiledTerm) (ts : List FiledTerm) (n : ℕ) → p t ≡ true → 0 < number t → number t ≤ n →
    IsLeastNumber number p ts n → Tells number p (t ∷ ts) (number t)
leads number p t ts n e pos below k =
    inr (
      pos,
      own_number number p t ts e
          (All-weaker (λ u. p u ≡ true → nat_lt (number u) (number k.thing) ≡ false) (λ u. p u ≡ true → nat_lt (number u) (number t) ≡ false)
          (λ u h d. not_less (number u) (number t) (let a = at_least (number u) (number k.thing) (h d) in let b = k.own in omega arith)) ts k.least.least),
    )

-- the least code of the terms that pass, where codes are above 0
pub code_tells : (p : FiledTerm → Bool) (ts : List FiledTerm) → All (λ t. 0 < t.school) ts → Tells (λ t. t.school) p ts (least_code p ts)
code_tells p [] pos = inl (refl, All-nil (λ u. p u ≡ false))
code_tells p (t ∷ ts) pos =
    go (p t) refl (least_code p ts) (code_tells p ts (All-tail (λ t. 0 < t.school) t ts pos))
  where
    head : 0 < t.school
    head = All-head (λ t. 0 < t.school) t ts pos

    go : (b : Bool) → p t ≡ b → (n : ℕ) → Tells (λ t. t.school) p ts n → Tells (λ t. t.school) p (t ∷ ts) (lesser_code b t.school n)
    go false e n k = skips (λ t. t.school) p t ts n e k
    go true e zero (inl k) = alone (λ t. t.school) p t ts e head k.1
    go true e zero (inr k) = absurd (omega arith)
    go true e (suc n) (inl k) = absurd (omega arith)
    go true e (suc n) (inr k) = by_size (nat_lt (suc n) t.school) refl
      where
        by_size : (b : Bool) → nat_lt (suc n) t.school ≡ b → Tells (λ t. t.school) p (t ∷ ts) (min t.school (suc n))
        by_size true d =
            let e1 : min t.school (suc n) ≡ suc n = grind (arith, nat_tests) in
            rw e1 (inr (k.0, older_number (λ t. t.school) p t ts (suc n) k.1 (λ q. grind (arith, nat_tests))))
        by_size false d =
            let e1 : min t.school (suc n) ≡ t.school = let l = at_least (suc n) t.school d in omega arith in
            rw e1 (leads (λ t. t.school) p t ts (suc n) e head (at_least (suc n) t.school d) k.1)

-- each position is above 0, and the newer a term the higher it stands
abbrev pub Falls : List FiledTerm → Type 0
Falls [] = Unit {0}
Falls (t ∷ ts) = (0 < t.position) × All (λ u. u.position < t.position) ts × Falls ts

-- the first position of the terms that pass
pub position_tells : (p : FiledTerm → Bool) (ts : List FiledTerm) → Falls ts → Tells (λ t. t.position) p ts (first_term_at p ts)
position_tells p [] h = inl (refl, All-nil (λ u. p u ≡ false))
position_tells p (t ∷ ts) h = go (p t) refl (first_term_at p ts) (position_tells p ts h.2)
  where
    go : (b : Bool) → p t ≡ b → (n : ℕ) → Tells (λ t. t.position) p ts n → Tells (λ t. t.position) p (t ∷ ts) (first_of_two b n t.position)
    go false e n k = skips (λ t. t.position) p t ts n e k
    go true e zero (inl k) = alone (λ t. t.position) p t ts e h.0 k.1
    go true e zero (inr k) = absurd (omega arith)
    go true e (suc n) (inl k) = absurd (omega arith)
    go true e (suc n) (inr k) =
        let below : k.1.thing.position < t.position = All-contains (λ u. u.position < t.position) ts k.1.thing h.1 k.1.least.among in
        let own = k.1.own in
        inr (k.0, older_number (λ t. t.position) p t ts (suc n) k.1 (λ q. omega arith))

-- there is one least number
one_number : (number : FiledTerm → ℕ) (p : FiledTerm → Bool) (ts : List FiledTerm) (n m : ℕ) → IsLeastNumber number p ts n → IsLeastNumber number p ts m → n ≡ m
one_number number p ts n m a b =
    let x = at_least (number b.thing) (number a.thing)
    (All-contains (λ u. p u ≡ true → nat_lt (number u) (number a.thing) ≡ false) ts b.thing a.least.least b.least.among b.least.accepted) in
    let y = at_least (number a.thing) (number b.thing)
    (All-contains (λ u. p u ≡ true → nat_lt (number u) (number b.thing) ≡ false) ts a.thing b.least.least a.least.among a.least.accepted) in
    let e = a.own in
    let d = b.own in
    omega arith

none_least : (number : FiledTerm → ℕ) (p : FiledTerm → Bool) (ts : List FiledTerm) (n : ℕ) → NonePasses p ts → IsLeastNumber number p ts n → ⊥
none_least number p ts n none k =
    let e : p k.thing ≡ false = All-contains (λ u. p u ≡ false) ts k.thing none k.least.among in
    let d : p k.thing ≡ true = k.least.accepted in cc

-- what is told is the least number, and there is none where none passes
pub told_least : (number : FiledTerm → ℕ) (p : FiledTerm → Bool) (ts : List FiledTerm) (n m : ℕ) → Tells number p ts n → 0 < m → (n ≡ m → IsLeastNumber number p ts m) × (IsLeastNumber number p ts m → n ≡ m)
told_least number p ts n m (inl k) pos = (λ e. absurd (omega (arith, k.0)), λ l. absurd (none_least number p ts m k.1 l))
told_least number p ts n m (inr k) pos = (λ e. subst (IsLeastNumber number p ts) e k.1, one_number number p ts n m k.1)

pub told_none : (number : FiledTerm → ℕ) (p : FiledTerm → Bool) (ts : List FiledTerm) (n : ℕ) → Tells number p ts n → (n ≡ 0 → NonePasses p ts) × (NonePasses p ts → n ≡ 0)
told_none number p ts n (inl k) = (λ e. k.1, λ none. k.0)
told_none number p ts n (inr k) = (λ e. absurd (omega (arith, k.0)), λ none. absurd (none_least number p ts n none k.1))
