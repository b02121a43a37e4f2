-- Rows that stay at their slots, and the table of these slots by key.
use Rattle.std.proofs.Common.{◌≡◌, ℕ, zero, suc, ◌+◌, ◌<◌, Bool, true, false, cond, arith, refl, sym, ap, subst, ◌∙◌, List, [], ◌∷◌, ◌++◌, length, Option, Some, None, get_or, set, ◌⊎◌, inl, inr, true≢false, length-append}
use Rattle.std.specs.List.{slice_get}
use Rattle.std.specs.Map.{lookup}
use Rattle.std.specs.BTreeMap.{is_at}
use Rattle.std.specs.Cmp.{IsTotalOrder}
use Rattle.std.specs.Option.{is_none}
use Rattle.std.specs.Ordering.{is_eq}
use Rattle.std.specs.declared.cmp.Ordering.{Ordering}
use Rattle.std.specs.declared.cmp.Ordering.TheVariants.{Less, Equal, Greater}
use Rattle.std.proofs.lemmas.Cmp.{eq_by_cmp_equiv}
use Rattle.std.proofs.lemmas.List.{length-set}
use Rattle.std.proofs.lemmas.Map.{lookup-set_value}
use Rattle.std.proofs.lemmas.Option.{slice_get_read, slice_get_within, none-some}
use Rattle.sorted_rows.specs.Places.{ArePlaced, AreStaying, IsHere, IsWritten}
use Rattle.sorted_rows.proofs.Apart.{either, alike, first, first_none, lookup_append, second_of_cond}
use Rattle.sorted_rows.proofs.Sorted.{NoneBefore, lookup_here, set_here, some_is, some_same}

-- where no row passes, the look-up finds none
lookup_nowhere : {K V : Type 0} (test : K → Bool) (rows : List (K × V)) → ((i : ℕ) (e : K × V) → slice_get rows i ≡ Some e → test e.0 ≡ false) → lookup test rows ≡ None
lookup_nowhere test [] fails = refl
lookup_nowhere test (x ∷ rows) fails =
    ap (λ t. cond t (Some x.1) (lookup test rows)) (fails 0 x refl) ∙ lookup_nowhere test rows (λ i e at. fails (suc i) e at)

-- a row whose value is written over keeps its key, and each other row stays as it was
pub stay_set : {K V : Type 0} (rows : List (K × V)) (i : ℕ) (e : K × V) (w : V) → slice_get rows i ≡ Some e → AreStaying rows (set rows i (e.0, w))
stay_set [] i e w at j f at_f = absurd (none-some e at)
stay_set (x ∷ rows) zero e w at zero f at_f =
    (w, ap (λ y. Some (y.0, w)) (sym (some_same x e at) ∙ some_same x f at_f))
stay_set (x ∷ rows) zero e w at (suc j) f at_f = (f.1, at_f)
stay_set (x ∷ rows) (suc i) e w at zero f at_f = (f.1, at_f)
stay_set (x ∷ rows) (suc i) e w at (suc j) f at_f = stay_set rows i e w at j f at_f

-- the same the other way: each row had its slot and its key before
stood : {K V : Type 0} (rows : List (K × V)) (i : ℕ) (e : K × V) (w : V) → slice_get rows i ≡ Some e → AreStaying (set rows i (e.0, w)) rows
stood [] i e w at j f at_f = absurd (none-some e at)
stood (x ∷ rows) zero e w at zero f at_f =
    (x.1, ap (λ y. Some (y, x.1)) (ap (λ y. y.0) (some_same x e at) ∙ ap (λ y. y.0) (some_same (e.0, w) f at_f)))
stood (x ∷ rows) zero e w at (suc j) f at_f = (f.1, at_f)
stood (x ∷ rows) (suc i) e w at zero f at_f = (f.1, at_f)
stood (x ∷ rows) (suc i) e w at (suc j) f at_f = stood rows i e w at j f at_f

-- a row put behind the others leaves each where it is
pub at_before : {X : Type 0} (xs : List X) (x e : X) (i : ℕ) → slice_get xs i ≡ Some e → slice_get (xs ++ x ∷ []) i ≡ Some e
at_before [] x e i at = absurd (none-some e at)
at_before (y ∷ xs) x e zero at = at
at_before (y ∷ xs) x e (suc i) at = at_before xs x e i at

-- it is the last, and any other stood before
at_pushed : {X : Type 0} (xs : List X) (x e : X) (i : ℕ) → slice_get (xs ++ x ∷ []) i ≡ Some e → (slice_get xs i ≡ Some e) ⊎ ((i ≡ length xs) × (e ≡ x))
at_pushed [] x e zero at = inr (refl, sym (some_same x e at))
at_pushed [] x e (suc i) at = absurd (none-some e at)
at_pushed (y ∷ xs) x e zero at = inl at
at_pushed (y ∷ xs) x e (suc i) at =
    elim (at_pushed xs x e i at) [
      | inl before ↦ inl before
      | inr last ↦ inr (ap suc last.0, last.1)
    ]

pub stay_pushed : {K V : Type 0} (rows : List (K × V)) (row : K × V) → AreStaying rows (rows ++ row ∷ [])
stay_pushed rows row i e at = (e.1, at_before rows row e i at)

-- the row of a slot that there is
pub row_of : {X : Type 0} (rows : List X) (i : ℕ) → i < length rows → (e : X) × (slice_get rows i ≡ Some e)
row_of [] i lt = absurd (omega arith)
row_of (x ∷ rows) zero lt = (x, refl)
row_of (x ∷ rows) (suc i) lt = row_of rows i (omega arith)

-- the row that is read from a Vec
read_at : {X : Type 0} (rows now : List X) (i : ℕ) (e : X) → rows ≡ now → i < length now → e ≡ get_or rows i e → slice_get rows i ≡ Some e
read_at {X} rows now i e same lt read = slice_get_read rows (length rows) i e refl (subst (λ (xs : List X). i < length xs) (sym same) lt) read

none_or : {X : Type 0} (a : Option X) → ((x : X) → a ≡ Some x → ⊥) → a ≡ None
none_or None some = refl
none_or (Some x) some = absurd (some x refl)

-- a key that is found is not new
pub known : {V : Type 0} (a : Option V) (v : V) → a ≡ Some v → ◌≡◌ {A = ℕ} (cond (is_none a) 1 0) 0
known a v h = ap (λ b. cond {A = ℕ} (is_none b) 1 0) h

pub unknown : {V : Type 0} (a : Option V) → a ≡ None → ◌≡◌ {A = ℕ} (cond (is_none a) 1 0) 1
unknown a h = ap (λ b. cond {A = ℕ} (is_none b) 1 0) h

equal_of : (a : Ordering) → is_eq a ≡ true → a ≡ Equal
equal_of Less h = absurd (true≢false (sym h))
equal_of Equal h = refl
equal_of Greater h = absurd (true≢false (sym h))

module _ {K V : Type 0} {R : K → K → Ordering} (o : IsTotalOrder R) where
  -- the place of a row is the slot of each key that equals its own
  slot_for : (k : K) (slots : List (K × ℕ)) (rows : List (K × V)) (i : ℕ) (e : K × V) → ArePlaced R slots rows → slice_get rows i ≡ Some e → is_eq (R k e.0) ≡ true → lookup (is_at (R k)) slots ≡ Some i
  slot_for k slots rows i e placed at same = alike o k e.0 slots same ∙ placed.once i e at

  only_here : (k : K) (slots : List (K × ℕ)) (rows : List (K × V)) (i : ℕ) (e : K × V) → ArePlaced R slots rows → slice_get rows i ≡ Some e → is_eq (R k e.0) ≡ true → NoneBefore (is_at (R k)) rows i
  only_here k slots rows i e placed at same j f before at_f =
      elim (either (is_eq (R k f.0))) [
        | inl h ↦
            let met : j ≡ i = some_same j i (sym (slot_for k slots rows j f placed at_f h) ∙ slot_for k slots rows i e placed at same) in
            absurd (omega arith)
        | inr h ↦ h
      ]

  -- the row with a key tells its value
  pub value_here : (k : K) (slots : List (K × ℕ)) (rows : List (K × V)) (i : ℕ) (e : K × V) → ArePlaced R slots rows → slice_get rows i ≡ Some e → is_eq (R k e.0) ≡ true → lookup (is_at (R k)) rows ≡ Some e.1
  value_here k slots rows i e placed at same = lookup_here (is_at (R k)) rows i e at same (only_here k slots rows i e placed at same)

  -- a key with no slot has no row
  pub no_value : (k : K) (slots : List (K × ℕ)) (rows : List (K × V)) → ArePlaced R slots rows → lookup (is_at (R k)) slots ≡ None → lookup (is_at (R k)) rows ≡ None
  no_value k slots rows placed none =
      lookup_nowhere (is_at (R k)) rows
      (λ i e at.
      elim (either (is_eq (R k e.0))) [
        | inl h ↦ absurd (none-some i (sym none ∙ slot_for k slots rows i e placed at h))
        | inr h ↦ h
      ])

  -- a key with no row has no slot
  pub no_slot : (k : K) (slots : List (K × ℕ)) (rows : List (K × V)) → ArePlaced R slots rows → lookup (is_at (R k)) rows ≡ None → lookup (is_at (R k)) slots ≡ None
  no_slot k slots rows placed none =
      none_or (lookup (is_at (R k)) slots)
      (λ i found.
      let here : IsHere R k rows i = placed.here k i found in
      let row = row_of rows i here.in_range in
      none-some (row.0).1 (sym none ∙ value_here k slots rows i row.0 placed row.1 (ap is_eq (here.same row.0 row.1))))

  -- the value of the row at a key's slot
  pub value_at_slot : (k : K) (slots : List (K × ℕ)) (rows : List (K × V)) (i : ℕ) (e : K × V) → ArePlaced R slots rows → lookup (is_at (R k)) slots ≡ Some i → slice_get rows i ≡ Some e → lookup (is_at (R k)) rows ≡ Some e.1
  value_at_slot k slots rows i e placed found at = value_here k slots rows i e placed at (ap is_eq ((placed.here k i found).same e at))

  -- a key that equals another's is written by the same write
  pub written_alike : (k q : K) (w : V) (old new : List (K × V)) → R k q ≡ Equal → IsWritten R q w old new → IsWritten R k w old new
  written_alike k q w old new same written p =
      written p ∙ ap (λ b. cond b (Some w) (lookup (is_at (R p)) old)) (sym ((eq_by_cmp_equiv o).congr k q p (ap is_eq same)))

  pub here_stays : (k : K) (old new : List (K × V)) (i : ℕ) → IsHere R k old i → AreStaying old new → length new ≡ length old → IsHere R k new i
  here_stays k old new i here stays same = record {
    in_range = omega (arith, here.in_range);
    same = λ e at.
        let row = row_of old i here.in_range in
        let now = stays i row.0 row.1 in
        ap (λ (y : K × V). R k y.0) (some_same e ((row.0).0, now.0) (sym at ∙ now.1)) ∙ here.same row.0 row.1;
  }

  pub written_set : (slots : List (K × ℕ)) (rows : List (K × V)) (i : ℕ) (e : K × V) (w : V) → ArePlaced R slots rows → slice_get rows i ≡ Some e → IsWritten R e.0 w rows (set rows i (e.0, w))
  written_set slots rows i e w placed at q =
      let itself : is_eq (R e.0 e.0) ≡ true = (eq_by_cmp_equiv o).refl e.0 in
      ap (lookup (is_at (R q))) (set_here (is_at (R e.0)) rows i e w at itself (only_here e.0 slots rows i e placed at itself))
      ∙ lookup-set_value (eq_by_cmp_equiv o) (is_at (R e.0)) (λ x y same. (eq_by_cmp_equiv o).congr e.0 x y same) q w rows (some_is o rows (is_at (R e.0)) e.1 (sym (value_here e.0 slots rows i e placed at itself)))

  pub placed_set : (slots : List (K × ℕ)) (rows : List (K × V)) (i : ℕ) (e : K × V) (w : V) → ArePlaced R slots rows → slice_get rows i ≡ Some e → ArePlaced R slots (set rows i (e.0, w))
  placed_set slots rows i e w placed at = record {
    count = placed.count ∙ sym (length-set rows i (e.0, w));
    here = λ q slot found.
        let here : IsHere R q rows slot = placed.here q slot found in
        record {
          in_range = subst (λ (n : ℕ). slot < n) (sym (length-set rows i (e.0, w))) here.in_range;
          same = λ f at_f. let old = stood rows i e w at slot f at_f in here.same (f.0, old.0) old.1;
        };
    once = λ slot f at_f. let old = stood rows i e w at slot f at_f in placed.once slot (f.0, old.0) old.1;
  }

  -- the row that is read at a slot tells the value of its own key
  pub own_value : (slots : List (K × ℕ)) (rows now : List (K × V)) (i : ℕ) (e : K × V) → ArePlaced R slots rows → rows ≡ now → i < length now → e ≡ get_or rows i e → lookup (is_at (R e.0)) now ≡ Some e.1
  own_value slots rows now i e placed same lt read =
      subst (λ (xs : List (K × V)). lookup (is_at (R e.0)) xs ≡ Some e.1) same
      (value_here e.0 slots rows i e placed (read_at rows now i e same lt read) ((eq_by_cmp_equiv o).refl e.0))

  -- a key's value is written by the write at its slot
  pub written_at_slot : (k : K) (w : V) (old new : List (K × V)) (i : ℕ) → IsHere R k old i → ((key : K) (before : V) → slice_get old i ≡ Some (key, before) → IsWritten R key w old new) → IsWritten R k w old new
  written_at_slot k w old new i here written =
      let row = row_of old i here.in_range in
      written_alike k (row.0).0 w old new (here.same row.0 row.1) (written (row.0).0 (row.0).1 row.1)

  -- what the write of a value at a slot does to the rows, which are read from a Vec
  pub record IsSetAt (slots : List (K × ℕ)) (rows old new : List (K × V)) (i : ℕ) (w : V) : Type 0 where
    pub placed : ArePlaced R slots new
    pub written : (key : K) (before : V) → slice_get old i ≡ Some (key, before) → IsWritten R key w old new
    pub stays : AreStaying old new

  pub set_at : (slots : List (K × ℕ)) (rows old : List (K × V)) (i : ℕ) (e : K × V) (w : V) → ArePlaced R slots rows → rows ≡ old → i < length old → e ≡ get_or rows i e → IsSetAt slots rows old (set rows i (e.0, w)) i w
  set_at slots rows old i e w placed same lt read =
      let at : slice_get rows i ≡ Some e = read_at rows old i e same lt read in
      record {
        placed = placed_set slots rows i e w placed at;
        written = λ key before is.
            let met : e ≡ (key, before) = some_same e (key, before) (sym at ∙ ap (λ xs. slice_get xs i) same ∙ is) in
            subst (λ (y : K × V). IsWritten R y.0 w old (set rows i (e.0, w))) met
            (subst (λ (xs : List (K × V)). IsWritten R e.0 w xs (set rows i (e.0, w))) same (written_set slots rows i e w placed at));
        stays = subst (λ (xs : List (K × V)). AreStaying xs (set rows i (e.0, w))) same (stay_set rows i e w at);
      }

  pub written_pushed : (k : K) (w : V) (rows : List (K × V)) → lookup (is_at (R k)) rows ≡ None → IsWritten R k w rows (rows ++ (k, w) ∷ [])
  written_pushed k w rows none q =
      lookup_append (is_at (R q)) rows ((k, w) ∷ [])
      ∙ ap (λ b. first (lookup (is_at (R q)) rows) (cond b (Some w) None)) ((eq_by_cmp_equiv o).symm q k)
      ∙ second_of_cond (is_eq (R k q)) w (lookup (is_at (R q)) rows) None (λ same. sym (alike o k q rows same) ∙ none)
      ∙ ap (λ r. cond (is_eq (R k q)) (Some w) r) (first_none (lookup (is_at (R q)) rows))

  pub there_last : (k : K) (w : V) (rows : List (K × V)) (q : K) (slot : ℕ) → R q k ≡ Equal → slot ≡ length rows → IsHere R q (rows ++ (k, w) ∷ []) slot
  there_last k w rows q slot same last = record {
    in_range = omega (arith, length-append rows ((k, w) ∷ []));
    same = λ e at.
        elim (at_pushed rows (k, w) e slot at) [
          | inl before ↦ let lt : slot < length rows = slice_get_within rows slot e before in absurd (omega arith)
          | inr here ↦ ap (λ (y : K × V). R q y.0) here.1 ∙ same
        ];
  }

  there_before : (k : K) (w : V) (rows : List (K × V)) (q : K) (slot : ℕ) → IsHere R q rows slot → IsHere R q (rows ++ (k, w) ∷ []) slot
  there_before k w rows q slot here = record {
    in_range = omega (arith, here.in_range, length-append rows ((k, w) ∷ []));
    same = λ e at.
        elim (at_pushed rows (k, w) e slot at) [
          | inl before ↦ here.same e before
          | inr last ↦ absurd (omega (arith, here.in_range, last.0))
        ];
  }

  placed_there : (k : K) (w : V) (slots new : List (K × ℕ)) (rows : List (K × V)) → ArePlaced R slots rows → IsWritten R k (length rows) slots new → (q : K) (slot : ℕ) → lookup (is_at (R q)) new ≡ Some slot → IsHere R q (rows ++ (k, w) ∷ []) slot
  placed_there k w slots new rows placed written q slot found =
      elim (either (is_eq (R k q))) [
        | inl same ↦
            let last : length rows ≡ slot = some_same (length rows) slot (sym (ap (λ b. cond b (Some (length rows)) (lookup (is_at (R q)) slots)) same) ∙ sym (written q) ∙ found) in
            there_last k w rows q slot (equal_of (R q k) ((eq_by_cmp_equiv o).symm q k ∙ same)) (sym last)
        | inr other ↦
            let before : lookup (is_at (R q)) slots ≡ Some slot = sym (ap (λ b. cond b (Some (length rows)) (lookup (is_at (R q)) slots)) other) ∙ sym (written q) ∙ found in
            there_before k w rows q slot (placed.here q slot before)
      ]

  placed_once : (k : K) (w : V) (slots new : List (K × ℕ)) (rows : List (K × V)) → ArePlaced R slots rows → lookup (is_at (R k)) slots ≡ None → IsWritten R k (length rows) slots new → (slot : ℕ) (e : K × V) → slice_get (rows ++ (k, w) ∷ []) slot ≡ Some e → lookup (is_at (R e.0)) new ≡ Some slot
  placed_once k w slots new rows placed none written slot e at =
      elim (at_pushed rows (k, w) e slot at) [
        | inl before ↦
            elim (either (is_eq (R k e.0))) [
              | inl same ↦ absurd (none-some slot (sym none ∙ slot_for k slots rows slot e placed before same))
              | inr other ↦ written e.0 ∙ ap (λ b. cond b (Some (length rows)) (lookup (is_at (R e.0)) slots)) other ∙ placed.once slot e before
            ]
        | inr last ↦
            let itself : is_eq (R k e.0) ≡ true = ap (λ (y : K × V). is_eq (R k y.0)) last.1 ∙ (eq_by_cmp_equiv o).refl k in
            written e.0 ∙ ap (λ b. cond b (Some (length rows)) (lookup (is_at (R e.0)) slots)) itself ∙ ap (λ (n : ℕ). Some n) (sym last.0)
      ]

  -- a row put behind the others, at the next slot
  pub placed_pushed : (k : K) (w : V) (slots new : List (K × ℕ)) (rows : List (K × V)) (next : ℕ) → ArePlaced R slots rows → lookup (is_at (R k)) slots ≡ None → next ≡ length rows → IsWritten R k next slots new → length new ≡ length slots + 1 → ArePlaced R new (rows ++ (k, w) ∷ [])
  placed_pushed k w slots new rows next placed none last put more =
      let written : IsWritten R k (length rows) slots new = subst (λ (n : ℕ). IsWritten R k n slots new) last put in
      record {
        count = omega (arith, placed.count, more, length-append rows ((k, w) ∷ []));
        here = placed_there k w slots new rows placed written;
        once = placed_once k w slots new rows placed none written;
      }
