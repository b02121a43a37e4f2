-- Elements of a list by its head and its rest, and what a filter keeps.
use Rattle.std.proofs.Common.{◌≡◌, zero, suc, refl, sym, subst, arith, cond, Bool, true, false, ◌||◌, ◌⊎◌, inl, inr, List, [], ◌∷◌, ◌++◌, reverse}
use Rattle.std.specs.List.{All, Contains, filter, list_any}
use Rattle.std.proofs.lemmas.List.Elements.{All-nil, All-cons, All-head, All-tail, All-weaker, All-contains, All-contains_itself, All-filter, Contains-append_right, Contains-append_left, Contains-push}
use Rattle.std.proofs.lemmas.List.{reverse-append, reverse-reverse}
use Rattle.office_history.specs.Least.{NonePasses}

pub among_head : {X : Type 0} (x : X) (xs : List X) → Contains (x ∷ xs) x
among_head {X} x xs = (zero, omega arith, refl)

pub among_rest : {X : Type 0} (y : X) (xs : List X) (x : X) → Contains xs x → Contains (y ∷ xs) x
among_rest {X} y xs x h = Contains-append_right (y ∷ []) xs x h

pub among_cases : {X : Type 0} (y : X) (xs : List X) (x : X) → Contains (y ∷ xs) x → (y ≡ x) ⊎ Contains xs x
among_cases {X} y xs x (zero, lt, e) = inl e
among_cases {X} y xs x (suc k, lt, e) = inr (k, omega arith, e)

-- what a filter keeps is in the list
pub among_kept : {X : Type 0} (p : X → Bool) (xs : List X) (x : X) → Contains (filter p xs) x → Contains xs x
among_kept {X} p xs x h = All-contains (Contains xs) (filter p xs) x (kept xs) h
  where
    kept : (xs : List X) → All (Contains xs) (filter p xs)
    kept xs = All-filter p (Contains xs) xs (All-contains_itself xs)

-- and what is in the list and passes is kept
pub kept_among : {X : Type 0} (p : X → Bool) (xs : List X) (x : X) → Contains xs x → p x ≡ true → Contains (filter p xs) x
kept_among {X} p [] x h e = absurd (omega (arith, h.1))
kept_among {X} p (y ∷ ys) x h e = go (p y) refl (among_cases y ys x h) (λ k. kept_among p ys x k e)
  where
    go : (b : Bool) → p y ≡ b → (y ≡ x) ⊎ Contains ys x → (Contains ys x → Contains (filter p ys) x) → Contains (cond b (y ∷ filter p ys) (filter p ys)) x
    go true d (inl same) ih = subst (Contains (y ∷ filter p ys)) same (among_head y (filter p ys))
    go true d (inr k) ih = among_rest y (filter p ys) x (ih k)
    go false d (inl same) ih = let t : p x ≡ false = subst (λ (z : X). p z ≡ false) same d in absurd (cc)
    go false d (inr k) ih = ih k

-- a fact of all that a filter keeps is one of all that pass
pub all_that_pass : {X : Type 0} (p : X → Bool) (P : X → Type 0) (xs : List X) → All P (filter p xs) → All (λ x. p x ≡ true → P x) xs
all_that_pass {X} p P [] h = All-nil (λ x. p x ≡ true → P x)
all_that_pass {X} p P (x ∷ xs) h = go (p x) refl h (all_that_pass p P xs)
  where
    go : (b : Bool) → p x ≡ b → All P (cond b (x ∷ filter p xs) (filter p xs)) → (All P (filter p xs) → All (λ x. p x ≡ true → P x) xs) →
        All (λ x. p x ≡ true → P x) (x ∷ xs)
    go true e h ih = All-cons (λ x. p x ≡ true → P x) x xs (λ k. All-head P x (filter p xs) h) (ih (All-tail P x (filter p xs) h))
    go false e h ih = All-cons (λ x. p x ≡ true → P x) x xs (λ k. absurd (cc)) (ih h)

-- a filter keeps nothing exactly where nothing passes
pub none_kept : {X : Type 0} (p : X → Bool) (xs : List X) → filter p xs ≡ [] → NonePasses p xs
none_kept {X} p [] h = All-nil (λ x. p x ≡ false)
none_kept {X} p (x ∷ xs) h = go (p x) refl h (none_kept p xs)
  where
    go : (b : Bool) → p x ≡ b → cond b (x ∷ filter p xs) (filter p xs) ≡ [] → (filter p xs ≡ [] → NonePasses p xs) → NonePasses p (x ∷ xs)
    go true e h ih = absurd (cc)
    go false e h ih = All-cons (λ x. p x ≡ false) x xs e (ih h)

pub nothing_kept : {X : Type 0} (p : X → Bool) (xs : List X) → NonePasses p xs → filter p xs ≡ []
nothing_kept {X} p [] h = refl
nothing_kept {X} p (x ∷ xs) h =
    let e : p x ≡ false = All-head (λ x. p x ≡ false) x xs h in
    rw e (nothing_kept p xs (All-tail (λ x. p x ≡ false) x xs h))

-- where no test of the list is true, each is false
pub none_any : {X : Type 0} (p : X → Bool) (xs : List X) → list_any p xs ≡ false → NonePasses p xs
none_any {X} p [] h = All-nil (λ x. p x ≡ false)
none_any {X} p (x ∷ xs) h = go (p x) refl h (none_any p xs)
  where
    go : (b : Bool) → p x ≡ b → (b || list_any p xs) ≡ false → (list_any p xs ≡ false → NonePasses p xs) → NonePasses p (x ∷ xs)
    go true e h ih = absurd (cc)
    go false e h ih = All-cons (λ x. p x ≡ false) x xs e (ih h)

-- a list in the other order has the same elements
pub among_reverse : {X : Type 0} (xs : List X) (x : X) → Contains xs x → Contains (reverse xs) x
among_reverse {X} [] x h = h
among_reverse {X} (y ∷ ys) x h =
    subst (λ (l : List X). Contains l x) (sym (reverse-append (y ∷ []) ys))
    (go (among_cases y ys x h) (among_reverse ys x))
  where
    go : (y ≡ x) ⊎ Contains ys x → (Contains ys x → Contains (reverse ys) x) → Contains (reverse ys ++ y ∷ []) x
    go (inl e) ih = subst (Contains (reverse ys ++ y ∷ [])) e (Contains-push (reverse ys) y)
    go (inr k) ih = Contains-append_left (reverse ys) (y ∷ []) x (ih k)

pub among_reversed : {X : Type 0} (xs : List X) (x : X) → Contains (reverse xs) x → Contains xs x
among_reversed {X} xs x h = subst (λ (l : List X). Contains l x) (reverse-reverse xs) (among_reverse (reverse xs) x h)

pub all_reverse : {X : Type 0} (P : X → Type 0) (xs : List X) → All P xs → All P (reverse xs)
all_reverse {X} P xs h = All-weaker (Contains (reverse xs)) P (λ x k. All-contains P xs x h (among_reversed xs x k)) (reverse xs) (All-contains_itself (reverse xs))

pub all_reversed : {X : Type 0} (P : X → Type 0) (xs : List X) → All P (reverse xs) → All P xs
all_reversed {X} P xs h = All-weaker (Contains xs) P (λ x k. All-contains P (reverse xs) x h (among_reverse xs x k)) xs (All-contains_itself xs)
