-- The inputs of desks are read one after the other.
use Rattle.std.proofs.Common.{◌≡◌, ◌≢◌, ℕ, zero, suc, ◌+◌, ◌<◌, ◌≤◌, List, [], ◌∷◌, ◌++◌, length, set, get_or, refl, sym, ap, ◌∙◌, subst, arith, IsTrue, length-append, get_or-set_same, get_or-set_other}
use Rattle.std.proofs.lemmas.List.{get_or_append_left, get_or_at, get_or_default}
use mathlib.Core.Logic.{dite}
use native.Mathlib.Decide.{ℕ_discrete}
use Rattle.io_traits.specs.Faults.{Rose}
use Rattle.log_session.specs.Edges.{Input, IsReadWhole}
use Rattle.log_session.specs.Sessions.{IsUnread}
use Rattle.log_session.specs.declared.stop.ReadStop.{ReadStop}
use Rattle.log_session.specs.declared.stop.ReadStop.TheVariants as reading
use Rattle.std.specs.Prelude.{None}
use Rattle.log_desks.specs.Desks.{DeskView}
use Rattle.log_desks.specs.declared.stop.DeskEnd.TheVariants.{Open}
use Rattle.log_desk_runs.specs.DeskTexts.{desk_prefix}
use Rattle.log_desk_runs.specs.RanDesksOn.{AreRead, HasStood, IsDeskOf, IsUnreadAt, Joins, input_at, rows_at}
use Rattle.log_desk_runs.specs.Reads.{Reads}

-- a place of a list has an item
pub some_of : {X : Type 0} (xs : List X) (k : ℕ) → k < length xs → X
some_of [] k lt = absurd (omega (arith, lt))
some_of (x ∷ xs) zero lt = x
some_of (x ∷ xs) (suc k) lt = some_of xs k (omega (arith, lt))

module _ {I RowFormat Meaning : Type 0} (rows_of : RowFormat → List ℕ → List Meaning) (reads : Reads I RowFormat) where
  -- what is known of an input, before and after
  abbrev of : I → I → Input
  of was now = record { honest = reads.honest was; before = reads.left was; after = reads.left now }

  pub read_none : {Entry Lines : Type 0} (untaken : Lines → List Meaning) (old : List I) → AreRead {Entry = Entry} untaken rows_of reads 0 old old []
  read_none untaken old = record { count = refl; unmoved = λ k i lt. absurd (omega (arith, lt)); each = λ k i d lt. absurd (omega (arith, lt)) }

  module _ (old mid : List I) (n : ℕ) (was now : I) (lt : n < length old) (size : length mid ≡ length old)
      (same : (k : ℕ) (i : I) → n ≤ k → k < length old → get_or mid k i ≡ get_or old k i) (is : was ≡ get_or mid n was) where
    inside : n < length mid
    inside = omega (arith, lt, size)

    -- the input at the place is that which was read
    here : (i : I) → of was now ≡ input_at reads old (set mid n now) n i
    here i =
        let old_is : was ≡ get_or old n i = is ∙ (same n was (omega arith) lt ∙ get_or_default old n was i lt) in
        let new_is : now ≡ get_or (set mid n now) n i = sym (get_or-set_same mid n now i inside) in
        ap (λ w. of w now) old_is ∙ ap (λ w. of (get_or old n i) w) new_is

    -- and so is what its rows say
    rows_is : (i : I) → rows_of (reads.forms was) (reads.left was) ≡ rows_at rows_of reads old n i
    rows_is i = ap (λ (w : I). rows_of (reads.forms w) (reads.left w)) (is ∙ (same n was (omega arith) lt ∙ get_or_default old n was i lt))

    -- the others are as they were
    other : (k : ℕ) (i : I) → (k ≡ n → ⊥) → input_at reads old mid k i ≡ input_at reads old (set mid n now) k i
    other k i ne = ap (λ w. of (get_or old k i) w) (sym (get_or-set_other mid n k now i ne))

    -- the count at the place, and those before it
    count_here : (X : ℕ → ℕ → Type 0) → X (reads.faults was) (reads.faults now) → (i : I) → X (reads.faults (get_or old n i)) (reads.faults (get_or (set mid n now) n i))
    count_here X has i =
        let old_is : was ≡ get_or old n i = is ∙ (same n was (omega arith) lt ∙ get_or_default old n was i lt) in
        let new_is : now ≡ get_or (set mid n now) n i = sym (get_or-set_same mid n now i inside) in
        subst (λ w. X (reads.faults (get_or old n i)) (reads.faults w)) new_is (subst (λ w. X (reads.faults w) (reads.faults now)) old_is has)

    stood_other : (k : ℕ) (i : I) → (k ≡ n → ⊥) → HasStood reads old mid k i → HasStood reads old (set mid n now) k i
    stood_other k i ne = subst (λ (w : I). reads.faults w ≡ reads.faults (get_or old k i)) (sym (get_or-set_other mid n k now i ne))

    pub read_behind : (k : ℕ) (i : I) → n + 1 ≤ k → k < length old → get_or (set mid n now) k i ≡ get_or old k i
    read_behind k i le less = get_or-set_other mid n k now i (λ (e : k ≡ n). omega (arith, e, le)) ∙ same k i (omega (arith, le)) less

    pub read_more : {Entry Lines : Type 0} (untaken : Lines → List Meaning) (desks desks' : List (DeskView Entry Lines)) → AreRead untaken rows_of reads n old mid desks → Joins untaken (n + 1) (rows_of (reads.forms was) (reads.left was)) (of was now) desks desks' → reads.faults now ≡ reads.faults was
        → AreRead untaken rows_of reads (n + 1) old (set mid n now) desks'
    read_more {Entry} {Lines} untaken desks desks' read joined still = record { count = count; unmoved = unmoved; each = each }
      where
        count : length desks' ≡ n + 1
        count = ap length joined.behind ∙ (let sizes : length (desks ++ joined.desk ∷ []) ≡ length desks + 1 = length-append desks (joined.desk ∷ []) in omega (arith, sizes, read.count))

        unmoved : (k : ℕ) (i : I) → k < n + 1 → HasStood reads old (set mid n now) k i
        unmoved k i less =
            dite (ℕ_discrete k n)
            (λ (e : k ≡ n). subst (λ m. HasStood reads old (set mid n now) m i) (sym e) (count_here (λ a b. b ≡ a) still i))
            (λ (ne : ¬ (k ≡ n)). stood_other k i ne (read.unmoved k i (omega (arith, less, ne))))

        each : (k : ℕ) (i : I) (d : DeskView Entry Lines) → k < n + 1 → IsDeskOf untaken (k + 1) (rows_at rows_of reads old k i) (input_at reads old (set mid n now) k i) (get_or desks' k d)
        each k i d less =
            dite (ℕ_discrete k n)
            (λ (e : k ≡ n).
            let desk_is : joined.desk ≡ get_or desks' n d = sym (ap (λ ds. get_or ds n d) joined.behind ∙ get_or_at desks joined.desk [] d n read.count) in
            subst (λ m. IsDeskOf untaken (m + 1) (rows_at rows_of reads old m i) (input_at reads old (set mid n now) m i) (get_or desks' m d)) (sym e)
            (subst (λ (rows : List Meaning). IsDeskOf untaken (n + 1) rows (input_at reads old (set mid n now) n i) (get_or desks' n d)) (rows_is i)
            (subst (λ input. IsDeskOf untaken (n + 1) (rows_of (reads.forms was) (reads.left was)) input (get_or desks' n d)) (here i) (subst (λ desk. IsDeskOf untaken (n + 1) (rows_of (reads.forms was) (reads.left was)) (of was now) desk) desk_is joined.of))))
            (λ (ne : ¬ (k ≡ n)).
            let less_n : k < n = omega (arith, less, ne) in
            let desk_is : get_or desks k d ≡ get_or desks' k d = sym (ap (λ ds. get_or ds k d) joined.behind ∙ get_or_append_left desks (joined.desk ∷ []) d k (omega (arith, less_n, read.count))) in
            subst (λ input. IsDeskOf untaken (k + 1) (rows_at rows_of reads old k i) input (get_or desks' k d)) (other k i ne)
            (subst (λ desk. IsDeskOf untaken (k + 1) (rows_at rows_of reads old k i) (input_at reads old mid k i) desk) desk_is (read.each k i d less_n)))

    pub unread_here : {Entry Lines : Type 0} (untaken : Lines → List Meaning) (desks : List (DeskView Entry Lines)) (stop : ReadStop) → AreRead untaken rows_of reads n old mid desks → IsUnread stop 16777216 (of was now)
        → (stop ≡ reading.Read → Rose (reads.faults was) (reads.faults now)) → (stop ≢ reading.Read → reads.faults now ≡ reads.faults was)
        → IsUnreadAt reads stop old (set mid n now)
    unread_here untaken desks stop read unread fault still = record {
      place = n;
      inside = lt;
      before = λ k i less. subst (IsReadWhole 16777216) (other k i (λ (e : k ≡ n). omega (arith, e, less))) (read.each k i (some_of desks k (omega (arith, less, read.count))) less).whole;
      here = λ i. subst (IsUnread stop 16777216) (here i) unread;
      behind = λ k i less inside. read_behind k i (omega (arith, less)) inside;
      fault = λ i is_read. count_here Rose (fault is_read) i;
      unmoved = λ k i less. stood_other k i (λ (e : k ≡ n). omega (arith, e, less)) (read.unmoved k i less);
      still = λ i other. count_here (λ a b. b ≡ a) (still other) i;
    }

-- of an input that was read whole at most so many bytes were read
pub whole_within : (input : Input) → IsReadWhole 16777216 input → IsUnread reading.NoMemory 16777216 input
whole_within input whole = λ honest. let short = whole.short honest in omega (arith, short)

-- a new desk with the rows of an input that was read
pub joins_of : {Entry Lines Meaning : Type 0} (untaken : Lines → List Meaning) (number : ℕ) (meanings : List Meaning) (input : Input) (rows : Lines) (prefix : List ℕ) (desk : DeskView Entry Lines) (before after : List (DeskView Entry Lines))
    → desk ≡ record { number = number; prefix = prefix; rows = rows; text = []; answered = 0; ended = Open; last = None; handle = None } → prefix ≡ desk_prefix number
    → IsReadWhole 16777216 input → (IsTrue input.honest → untaken rows ≡ meanings) → after ≡ before ++ desk ∷ [] → Joins untaken number meanings input before after
joins_of {Entry} {Lines} untaken number meanings input rows prefix desk before after is prefix_is whole said behind = record {
  desk = desk;
  of = record {
    numbered = ap (λ (v : DeskView Entry Lines). v.number) is;
    prefix = ap (λ (v : DeskView Entry Lines). v.prefix) is ∙ prefix_is;
    unbegun = ap (λ (v : DeskView Entry Lines). v.ended) is;
    whole = whole;
    rows = λ honest. ap (λ (v : DeskView Entry Lines). untaken v.rows) is ∙ said honest;
  };
  behind = behind;
}
