-- The walk finds the first place at which bytes end as a head block does.
use Rattle.std.proofs.Common.{rules, arith, ◌≡◌, ◌∙◌, sym, ap, subst, refl, ℕ, suc, Bool, true, false, ◌+◌, ◌≤◌, inl, inr, ◌==◌, ◌||◌, if◌then◌else◌, List, [], ◌∷◌, ◌++◌, length, take, drop, None, Some, append_assoc, length-append}
use Rattle.std.proofs.lemmas.List.{take-append-drop, length-take-le}
use Rattle.web_session.specs.Ends.{has_begun, IsEnded, IsFirstEnd, next_state, ends_at, end_from, head_end}
use Rattle.web_session.specs.declared.head_state.HeadState.{HeadState}
use Rattle.web_session.specs.declared.head_state.HeadState.TheVariants.{Before, Within, AfterFeed, AfterReturn}
use Rattle.web_session.proofs.EndWalk.{append_nil}

-- the state after bytes
abbrev state_after : HeadState → List ℕ → HeadState
state_after state [] = state
state_after state (b ∷ rest) = state_after (next_state state b) rest

after-append : (state : HeadState) (a b : List ℕ) → state_after state (a ++ b) ≡ state_after (state_after state a) b
after-append state [] b = refl
after-append state (x ∷ a) b = after-append (next_state state x) a b

-- the bytes end with one at which the walk stops
record Stops (state : HeadState) (bytes : List ℕ) : Type 0 where
  pub front : List ℕ
  pub last : ℕ
  pub split : bytes ≡ front ++ (last ∷ [])
  pub stops : ends_at (state_after state front) last ≡ true

-- where the walk stops, the bytes up to there end so, and no fewer do
found_stops : (state : HeadState) (n : ℕ) (bytes : List ℕ) (k : ℕ) → end_from state n bytes ≡ Some k → (m : ℕ) × (k ≡ n + m) × (m ≤ length bytes) × Stops state (take m bytes)
found_stops state n [] k is = absurd (let bad : ⊥ = cc in bad)
found_stops state n (b ∷ rest) k is = go (ends_at state b) refl (λ h. found_stops (next_state state b) (n + 1) rest k h) is
  where
    later : (m : ℕ) × (k ≡ (n + 1) + m) × (m ≤ length rest) × Stops (next_state state b) (take m rest) → (m : ℕ) × (k ≡ n + m) × (m ≤ length (b ∷ rest)) × Stops state (take m (b ∷ rest))
    later (m, at, le, stops) = (suc m, omega (arith, at), omega (arith, le), record { front = b ∷ stops.front; last = stops.last; split = ap (λ (l : List ℕ). b ∷ l) stops.split; stops = stops.stops })

    here : k ≡ n + 1 → ends_at state b ≡ true → (m : ℕ) × (k ≡ n + m) × (m ≤ length (b ∷ rest)) × Stops state (take m (b ∷ rest))
    here at stops = (1, at, omega arith, record { front = []; last = b; split = refl; stops = stops })

    go : (e : Bool) → ends_at state b ≡ e
        → (end_from (next_state state b) (n + 1) rest ≡ Some k → (m : ℕ) × (k ≡ (n + 1) + m) × (m ≤ length rest) × Stops (next_state state b) (take m rest))
        → (if e then Some (n + 1) else end_from (next_state state b) (n + 1) rest) ≡ Some k → (m : ℕ) × (k ≡ n + m) × (m ≤ length (b ∷ rest)) × Stops state (take m (b ∷ rest))
    go true stops below h = here (let same : n + 1 ≡ k = search rules in sym same) stops
    go false goes below h = later (below h)

-- and whatever ends so among the bytes isn't before it
stops_not_before : (state : HeadState) (n : ℕ) (front : List ℕ) (last : ℕ) (rest : List ℕ) → ends_at (state_after state front) last ≡ true
    → (k : ℕ) × (end_from state n (front ++ (last ∷ rest)) ≡ Some k) × (k ≤ n + length front + 1)
stops_not_before state n [] last rest stops = (n + 1, ap (λ (e : Bool). if e then Some (n + 1) else end_from (next_state state last) (n + 1) rest) stops, omega arith)
stops_not_before state n (b ∷ front) last rest stops = go (ends_at state b) (stops_not_before (next_state state b) (n + 1) front last rest stops)
  where
    go : (e : Bool) → (k : ℕ) × (end_from (next_state state b) (n + 1) (front ++ (last ∷ rest)) ≡ Some k) × (k ≤ (n + 1) + length front + 1) → (k : ℕ) × ((if e then Some (n + 1) else end_from (next_state state b) (n + 1) (front ++ (last ∷ rest))) ≡ Some k) × (k ≤ n + length (b ∷ front) + 1)
    go true later = (n + 1, refl, omega arith)
    go false later = (later.0, later.1, omega (arith, later.2))

same_byte : (a b : ℕ) → (a == b) ≡ true → a ≡ b
same_byte a b is = search rules

-- a byte that is neither CR nor LF stands among the bytes
begun-append : (a b : List ℕ) → has_begun a ≡ true → has_begun (a ++ b) ≡ true
begun-append [] b begun = absurd (let bad : ⊥ = cc in bad)
begun-append (x ∷ a) b begun = go ((x == 13) || (x == 10)) (begun-append a b) begun
  where
    go : (e : Bool) → (has_begun a ≡ true → has_begun (a ++ b) ≡ true) → (if e then has_begun a else true) ≡ true → (if e then has_begun (a ++ b) else true) ≡ true
    go true below h = below h
    go false below h = refl

begun-last : (a : List ℕ) (x : ℕ) → ((x == 13) || (x == 10)) ≡ false → has_begun (a ++ (x ∷ [])) ≡ true
begun-last [] x is = ap (λ (e : Bool). if e then false else true) is
begun-last (y ∷ a) x is = go ((y == 13) || (y == 10)) (begun-last a x is)
  where
    go : (e : Bool) → has_begun (a ++ (x ∷ [])) ≡ true → (if e then has_begun (a ++ (x ∷ [])) else true) ≡ true
    go true below = below
    go false below = refl

-- what the bytes up to a state are
abbrev Shape : HeadState → List ℕ → Type 0
Shape Before done = Unit {0}
Shape Within done = has_begun done ≡ true
Shape AfterFeed done = (front : List ℕ) × (done ≡ front ++ (10 ∷ [])) × (has_begun front ≡ true)
Shape AfterReturn done = (front : List ℕ) × (done ≡ front ++ (10 ∷ 13 ∷ [])) × (has_begun front ≡ true)

begun_feed : (done : List ℕ) → Shape AfterFeed done → has_begun done ≡ true
begun_feed done (front, is, begun) = ap has_begun is ∙ begun-append front (10 ∷ []) begun

begun_return : (done : List ℕ) → Shape AfterReturn done → has_begun done ≡ true
begun_return done (front, is, begun) = ap has_begun is ∙ begun-append front (10 ∷ 13 ∷ []) begun

after_feed : (done : List ℕ) (b : ℕ) → b ≡ 10 → has_begun done ≡ true → Shape AfterFeed (done ++ (b ∷ []))
after_feed done b is begun = (done, ap (λ (x : ℕ). done ++ (x ∷ [])) is, begun)

shape_next : (state : HeadState) (done : List ℕ) (b : ℕ) → Shape state done → Shape (next_state state b) (done ++ (b ∷ []))
shape_next Before done b shape = go ((b == 13) || (b == 10)) refl
  where
    go : (e : Bool) → ((b == 13) || (b == 10)) ≡ e → Shape (if e then Before else Within) (done ++ (b ∷ []))
    go true is = tt
    go false is = begun-last done b is
shape_next Within done b shape = go (b == 10) refl
  where
    go : (e : Bool) → (b == 10) ≡ e → Shape (if e then AfterFeed else Within) (done ++ (b ∷ []))
    go true is = after_feed done b (same_byte b 10 is) shape
    go false is = begun-append done (b ∷ []) shape
shape_next AfterFeed done b shape = go (b == 13) refl
  where
    feed : (e : Bool) → (b == 10) ≡ e → Shape (if e then AfterFeed else Within) (done ++ (b ∷ []))
    feed true is = after_feed done b (same_byte b 10 is) (begun_feed done shape)
    feed false is = begun-append done (b ∷ []) (begun_feed done shape)

    go : (e : Bool) → (b == 13) ≡ e → Shape (if e then AfterReturn else (if b == 10 then AfterFeed else Within)) (done ++ (b ∷ []))
    go true is = (shape.0, ap (λ (l : List ℕ). l ++ (b ∷ [])) shape.1 ∙ append_assoc shape.0 (10 ∷ []) (b ∷ []) ∙ ap (λ (x : ℕ). shape.0 ++ (10 ∷ x ∷ [])) (same_byte b 13 is), shape.2)
    go false is = feed (b == 10) refl
shape_next AfterReturn done b shape = go (b == 10) refl
  where
    go : (e : Bool) → (b == 10) ≡ e → Shape (if e then AfterFeed else Within) (done ++ (b ∷ []))
    go true is = after_feed done b (same_byte b 10 is) (begun_return done shape)
    go false is = begun-append done (b ∷ []) (begun_return done shape)

shape_after : (state : HeadState) (done bytes : List ℕ) → Shape state done → Shape (state_after state bytes) (done ++ bytes)
shape_after state done [] shape = subst (Shape state) (sym (append_nil done)) shape
shape_after state done (b ∷ bytes) shape =
    subst (Shape (state_after (next_state state b) bytes)) (append_assoc done (b ∷ []) bytes) (shape_after (next_state state b) (done ++ (b ∷ [])) bytes (shape_next state done b shape))

-- where the walk stops, the bytes end as a head block does
stop_ends : (state : HeadState) (done : List ℕ) (b : ℕ) → Shape state done → ends_at state b ≡ true → IsEnded (done ++ (b ∷ []))
stop_ends Before done b shape stops = absurd (let bad : ⊥ = cc in bad)
stop_ends Within done b shape stops = absurd (let bad : ⊥ = cc in bad)
stop_ends AfterFeed done b (front, is, begun) stops =
    (front, begun, inl (ap (λ (l : List ℕ). l ++ (b ∷ [])) is ∙ append_assoc front (10 ∷ []) (b ∷ []) ∙ ap (λ (x : ℕ). front ++ (10 ∷ x ∷ [])) (same_byte b 10 stops)))
stop_ends AfterReturn done b (front, is, begun) stops =
    (front, begun, inr (ap (λ (l : List ℕ). l ++ (b ∷ [])) is ∙ append_assoc front (10 ∷ 13 ∷ []) (b ∷ []) ∙ ap (λ (x : ℕ). front ++ (10 ∷ 13 ∷ x ∷ [])) (same_byte b 10 stops)))

stops_ended : (bytes : List ℕ) → Stops Before bytes → IsEnded bytes
stops_ended bytes stops =
    subst IsEnded (sym stops.split) (stop_ends (state_after Before stops.front) stops.front stops.last (shape_after Before [] stops.front tt) stops.stops)

-- a request that has begun goes on
abbrev started : HeadState → Bool
started Before = false
started Within = true
started AfterFeed = true
started AfterReturn = true

started_next : (state : HeadState) (b : ℕ) → started state ≡ true → started (next_state state b) ≡ true
started_next Before b is = absurd (let bad : ⊥ = cc in bad)
started_next Within b is = elim (b == 10) as (λ e. started (if e then AfterFeed else Within) ≡ true) [ true ↦ refl | false ↦ refl ]
started_next AfterFeed b is =
    elim (b == 13) as (λ e. started (if e then AfterReturn else (if b == 10 then AfterFeed else Within)) ≡ true)
    [ true ↦ refl | false ↦ elim (b == 10) as (λ e. started (if e then AfterFeed else Within) ≡ true) [ true ↦ refl | false ↦ refl ] ]
started_next AfterReturn b is = elim (b == 10) as (λ e. started (if e then AfterFeed else Within) ≡ true) [ true ↦ refl | false ↦ refl ]

started_after : (state : HeadState) (bytes : List ℕ) → started state ≡ true → started (state_after state bytes) ≡ true
started_after state [] is = is
started_after state (b ∷ bytes) is = started_after (next_state state b) bytes (started_next state b is)

begun_after : (bytes : List ℕ) → has_begun bytes ≡ true → started (state_after Before bytes) ≡ true
begun_after [] begun = absurd (let bad : ⊥ = cc in bad)
begun_after (b ∷ bytes) begun = go ((b == 13) || (b == 10)) (begun_after bytes) begun
  where
    go : (e : Bool) → (has_begun bytes ≡ true → started (state_after Before bytes) ≡ true) → (if e then has_begun bytes else true) ≡ true → started (state_after (if e then Before else Within) bytes) ≡ true
    go true below h = below h
    go false below h = started_after Within bytes refl

fed : (state : HeadState) → started state ≡ true → next_state state 10 ≡ AfterFeed
fed Before is = absurd (let bad : ⊥ = cc in bad)
fed Within is = refl
fed AfterFeed is = refl
fed AfterReturn is = refl

-- bytes that end as a head block does end where the walk stops
ended_stops : (bytes : List ℕ) → IsEnded bytes → Stops Before bytes
ended_stops bytes (front, begun, inl is) = record {
  front = front ++ (10 ∷ []);
  last = 10;
  split = is ∙ sym (append_assoc front (10 ∷ []) (10 ∷ []));
  stops = ap (λ (p : HeadState). ends_at p 10) (after-append Before front (10 ∷ []) ∙ fed (state_after Before front) (begun_after front begun));
}
ended_stops bytes (front, begun, inr is) = record {
  front = front ++ (10 ∷ 13 ∷ []);
  last = 10;
  split = is ∙ sym (append_assoc front (10 ∷ 13 ∷ []) (10 ∷ []));
  stops = ap (λ (p : HeadState). ends_at p 10) (after-append Before front (10 ∷ 13 ∷ []) ∙ ap (λ (p : HeadState). next_state p 13) (fed (state_after Before front) (begun_after front begun)));
}

-- bytes that end so are not before the end that the walk finds
ended_found : (bytes : List ℕ) (j : ℕ) → j ≤ length bytes → IsEnded (take j bytes) → (k : ℕ) × (head_end bytes ≡ Some k) × (k ≤ j)
ended_found bytes j le ended =
    let s = ended_stops (take j bytes) ended in
    let all : bytes ≡ s.front ++ (s.last ∷ drop j bytes) = sym (take-append-drop j bytes) ∙ ap (λ (l : List ℕ). l ++ drop j bytes) s.split ∙ append_assoc s.front (s.last ∷ []) (drop j bytes) in
    let at = stops_not_before Before 0 s.front s.last (drop j bytes) s.stops in
    let size : length s.front + 1 ≡ j = omega (arith, ap (λ (l : List ℕ). length l) s.split, length-append s.front (s.last ∷ []), length-take-le j bytes le) in
    (at.0, ap head_end all ∙ at.1, omega (arith, at.2, size))

pub head_end-first : (bytes : List ℕ) (k : ℕ) → head_end bytes ≡ Some k → IsFirstEnd bytes k
head_end-first bytes k is =
    let f = found_stops Before 0 bytes k is in
    let same : f.0 ≡ k = omega (arith, f.1) in
    record {
      within = omega (arith, f.2, same);
      ended = subst (λ (m : ℕ). IsEnded (take m bytes)) same (stops_ended (take f.0 bytes) f.3);
      first = λ j lt ended.
          let e = ended_found bytes j (omega (arith, lt, f.2, same)) ended in
          let found : k ≡ e.0 = search rules in
          omega (arith, found, e.2, lt);
    }

pub head_end-none : (bytes : List ℕ) → head_end bytes ≡ None → (j : ℕ) → j ≤ length bytes → ¬ IsEnded (take j bytes)
head_end-none bytes is j le ended = let e = ended_found bytes j le ended in let both = sym is ∙ e.1 in let bad : ⊥ = cc in bad
