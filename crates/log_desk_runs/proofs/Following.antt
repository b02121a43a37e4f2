-- Faults of desks are counted, and the lists that a desk's rows were answered on go on from one another.
use Rattle.std.proofs.Common.{◌≡◌, ◌≢◌, ◌⊎◌, inl, inr, ℕ, zero, suc, ◌+◌, ◌<◌, ◌≤◌, Bool, true, false, List, [], ◌∷◌, ◌++◌, length, get_or, Option, Some, None, Result, Ok, Err, refl, sym, ap, ◌∙◌, arith, append_assoc, length-append}
use Rattle.std.proofs.lemmas.Bool.{false≢true, true≢false}
use Rattle.std.proofs.lemmas.List.Sums.{sum_by-cons}
use Rattle.std.specs.Prelude.{◌||◌, sum_by, if◌then◌else◌}
use Rattle.std.specs.List.{list_any}
use Rattle.io_traits.specs.Faults.{Rose}
use Rattle.log_machine.specs.Scheme.{Semantics}
use Rattle.log_machine.specs.Submits.{with_entry}
use Rattle.log_machine.specs.Texts.{after_row}
use Rattle.log_lock.specs.Passes.{IsOlder, Known}
use Rattle.log_lock.specs.Turning.{RoseBy}
use Rattle.log_desks.specs.Answered.{Answer, Ends, Follows}
use Rattle.log_desks.specs.Desks.{DeskView, all_shown, shown_of}
use Rattle.log_machine.specs.Names.{entries_of}
use Rattle.log_machine.specs.declared.names.Filed.{Filed}
use Rattle.log_machine.specs.declared.names.RowName.{RowName}
use Rattle.log_desks.specs.declared.stop.DeskEnd.{DeskEnd}
use Rattle.log_desks.specs.declared.stop.DeskEnd.TheVariants.{Open, Done, Stopped}
use Rattle.log_desks.specs.declared.stop.DeskStop.TheVariants.{DiskFault, NoMemory}
use Rattle.log_desk_runs.specs.DeskTexts.{desks_status, had_disk_fault, had_no_memory}
use Rattle.log_desk_runs.specs.DesksDone.{MovedAt, disk_faults, faulted_in}

-- a count that rose by so many rose by fewer
pub fewer_rose : (n m a b : ℕ) → m ≤ n → RoseBy n a b → RoseBy m a b
fewer_rose n m a b le (inl more) = inl (omega (arith, le, more))
fewer_rose n m a b le (inr last) = inr last

pub rose_once : (a b : ℕ) → Rose a b → RoseBy 1 a b
rose_once a b (inl more) = inl (omega (arith, more))
rose_once a b (inr last) = inr (omega (arith, last))

-- a count that stood still, at a status other than 5
pub stood : (status a b : ℕ) → status ≢ 5 → b ≡ a → MovedAt status a b
stood status a b other same = record { rose = λ is. absurd (other is); still = λ four five. same }

-- what a desk's pass was told of faults is what its end says
pub faults_told : {Entry Operation Error Meaning : Type 0} (own : Operation → Option Entry) (by : RowName) (ended : DeskEnd) (taken : List (Result Operation Error)) (rest : List Meaning) (known : Known (Filed Entry))
    → Ends own by ended taken rest known → known.faults ≡ disk_faults ended
faults_told own by Open taken rest known ends = ends.1.1
faults_told own by Done taken rest known ends = ends.2.1
faults_told own by (Stopped (DiskFault undecided)) taken rest known ends = ends.faults
faults_told own by (Stopped NoMemory) taken rest known ends = ends.1

-- sums whose terms are equal
pub same_sums : {X : Type 0} (f g : X → ℕ) (xs : List X) → ((k : ℕ) (d : X) → k < length xs → f (get_or xs k d) ≡ g (get_or xs k d)) → sum_by f xs ≡ sum_by g xs
same_sums f g [] each = refl
same_sums f g (x ∷ xs) each =
    let first : f x ≡ g x = each 0 x (omega arith) in
    let more : sum_by f xs ≡ sum_by g xs = same_sums f g xs (λ k d lt. each (suc k) d (omega (arith, lt))) in
    let left : sum_by f (x ∷ xs) ≡ f x + sum_by f xs = sum_by-cons f x xs in
    let right : sum_by g (x ∷ xs) ≡ g x + sum_by g xs = sum_by-cons g x xs in
    omega (arith, first, more, left, right)

-- a desk that had a fault of the disk, or a later one
first_or_later : (ended : DeskEnd) (later : Bool) (n : ℕ) → (had_disk_fault ended || later) ≡ true → (later ≡ true → 1 ≤ n) → 1 ≤ disk_faults ended + n
first_or_later Open later n is more = let le = more is in omega (arith, le)
first_or_later Done later n is more = let le = more is in omega (arith, le)
first_or_later (Stopped (DiskFault undecided)) later n is more = omega arith
first_or_later (Stopped NoMemory) later n is more = let le = more is in omega (arith, le)

-- no desk had one
none_or_later : (ended : DeskEnd) (later : Bool) (n : ℕ) → (had_disk_fault ended || later) ≡ false → (later ≡ false → n ≡ 0) → disk_faults ended + n ≡ 0
none_or_later Open later n is none = let zero_is = none is in omega (arith, zero_is)
none_or_later Done later n is none = let zero_is = none is in omega (arith, zero_is)
none_or_later (Stopped (DiskFault undecided)) later n is none = absurd (true≢false is)
none_or_later (Stopped NoMemory) later n is none = let zero_is = none is in omega (arith, zero_is)

module _ {Entry Lines : Type 0} where
  -- the faults of desks are seen in what is shown of them
  faulted_as_shown : (desks : List (DeskView Entry Lines)) → faulted_in desks ≡ sum_by (λ s. disk_faults s.5) (all_shown desks)
  faulted_as_shown [] = refl
  faulted_as_shown (x ∷ desks) =
      let more : faulted_in desks ≡ sum_by (λ s. disk_faults s.5) (all_shown desks) = faulted_as_shown desks in
      let left : faulted_in (x ∷ desks) ≡ disk_faults x.ended + faulted_in desks = sum_by-cons (λ (d : DeskView Entry Lines). disk_faults d.ended) x desks in
      let right : sum_by (λ s. disk_faults s.5) (all_shown (x ∷ desks)) ≡ disk_faults x.ended + sum_by (λ s. disk_faults s.5) (all_shown desks) = sum_by-cons (λ s. disk_faults s.5) (shown_of x) (all_shown desks) in
      omega (arith, more, left, right)

  pub faulted_shown : (one other : List (DeskView Entry Lines)) → all_shown one ≡ all_shown other → faulted_in one ≡ faulted_in other
  faulted_shown one other same = faulted_as_shown one ∙ (ap (λ l. sum_by (λ s. disk_faults s.5) l) same ∙ sym (faulted_as_shown other))

  some_faulted : (desks : List (DeskView Entry Lines)) → list_any (λ (d : DeskView Entry Lines). had_disk_fault d.ended) desks ≡ true → 1 ≤ faulted_in desks
  some_faulted [] is = absurd (false≢true is)
  some_faulted (x ∷ desks) is =
      let sum : faulted_in (x ∷ desks) ≡ disk_faults x.ended + faulted_in desks = sum_by-cons (λ (d : DeskView Entry Lines). disk_faults d.ended) x desks in
      let le : 1 ≤ disk_faults x.ended + faulted_in desks = first_or_later x.ended (list_any (λ (d : DeskView Entry Lines). had_disk_fault d.ended) desks) (faulted_in desks) is (some_faulted desks) in
      omega (arith, sum, le)

  none_faulted : (desks : List (DeskView Entry Lines)) → list_any (λ (d : DeskView Entry Lines). had_disk_fault d.ended) desks ≡ false → faulted_in desks ≡ 0
  none_faulted [] is = refl
  none_faulted (x ∷ desks) is =
      let sum : faulted_in (x ∷ desks) ≡ disk_faults x.ended + faulted_in desks = sum_by-cons (λ (d : DeskView Entry Lines). disk_faults d.ended) x desks in
      let none : disk_faults x.ended + faulted_in desks ≡ 0 = none_or_later x.ended (list_any (λ (d : DeskView Entry Lines). had_disk_fault d.ended) desks) (faulted_in desks) is (none_faulted desks) in
      omega (arith, sum, none)

  -- the count moved as the status says, where all was written
  pub moved_by_faults : (desks : List (DeskView Entry Lines)) (a b : ℕ) → RoseBy (faulted_in desks) a b → (faulted_in desks ≡ 0 → b ≡ a) → MovedAt (desks_status desks) a b
  moved_by_faults desks a b rose still = go (list_any (λ (d : DeskView Entry Lines). had_disk_fault d.ended) desks) (list_any (λ (d : DeskView Entry Lines). had_no_memory d.ended) desks) refl
    where
      status : Bool → Bool → ℕ
      status faulted starved = if faulted then 5 else if starved then 9 else 0

      go : (faulted starved : Bool) → list_any (λ (d : DeskView Entry Lines). had_disk_fault d.ended) desks ≡ faulted → MovedAt (status faulted starved) a b
      go true starved is = record { rose = λ five. fewer_rose (faulted_in desks) 1 a b (some_faulted desks is) rose; still = λ four other. absurd (other refl) }
      go false true is = stood 9 a b (λ e. omega (arith, e)) (still (none_faulted desks is))
      go false false is = stood 0 a b (λ e. omega (arith, e)) (still (none_faulted desks is))

  -- the status where all was written shows whether a desk had a fault of the disk
  pub status_by_faults : (desks : List (DeskView Entry Lines)) → ((desks_status desks ≡ 0) ⊎ (desks_status desks ≡ 9)) ⊎ (1 ≤ faulted_in desks)
  status_by_faults desks = go (list_any (λ (d : DeskView Entry Lines). had_disk_fault d.ended) desks) (list_any (λ (d : DeskView Entry Lines). had_no_memory d.ended) desks) refl
    where
      status : Bool → Bool → ℕ
      status faulted starved = if faulted then 5 else if starved then 9 else 0

      go : (faulted starved : Bool) → list_any (λ (d : DeskView Entry Lines). had_disk_fault d.ended) desks ≡ faulted → ((status faulted starved ≡ 0) ⊎ (status faulted starved ≡ 9)) ⊎ (1 ≤ faulted_in desks)
      go true starved is = inr (some_faulted desks is)
      go false true is = inl (inr refl)
      go false false is = inl (inl refl)

-- lists that go on from one another
pub older_refl : {E : Type 0} (list : List E) → IsOlder list list
older_refl list = ([], refl)

pub older_trans : {E : Type 0} (one two three : List E) → IsOlder one two → IsOlder two three → IsOlder one three
older_trans one two three (more, is) (most, was) = (most ++ more, was ∙ (ap (λ l. most ++ l) is ∙ sym (append_assoc most more one)))

pub older_length : {E : Type 0} (one two : List E) → IsOlder one two → length one ≤ length two
older_length one two (more, is) = let size : length two ≡ length more + length one = ap length is ∙ length-append more one in omega (arith, size)

module _ {Entry Operation Response Error : Type 0} (semantics : Semantics Entry Operation Response) where
  after_older : (past : List Entry) (row : Result Operation Error) → IsOlder past (after_row semantics past row)
  after_older past (Err error) = ([], refl)
  after_older past (Ok operation) = go (semantics.added past operation)
    where
      go : (o : Option Entry) → IsOlder past (with_entry o past)
      go None = ([], refl)
      go (Some e) = (e ∷ [], refl)

  pub follows_older : (before now : List Entry) (answers : List (Answer Entry Operation Error)) → Follows semantics before answers now → IsOlder before now
  follows_older before now [] follows = follows
  follows_older before now (a ∷ answers) follows =
      older_trans before a.past now follows.0
      (older_trans a.past (after_row semantics a.past a.row) now (after_older a.past a.row) (follows_older (after_row semantics a.past a.row) now answers follows.1))

  -- each answer's list is an older part of the list that was seen last
  pub answer_older : (before now : List Entry) (answers : List (Answer Entry Operation Error)) → Follows semantics before answers now → (k : ℕ) (a : Answer Entry Operation Error) → k < length answers → IsOlder (get_or answers k a).past now
  answer_older before now [] follows k a lt = absurd (omega (arith, lt))
  answer_older before now (x ∷ answers) follows zero a lt =
      older_trans x.past (after_row semantics x.past x.row) now (after_older x.past x.row) (follows_older (after_row semantics x.past x.row) now answers follows.1)
  answer_older before now (x ∷ answers) follows (suc k) a lt = answer_older (after_row semantics x.past x.row) now answers follows.1 k a (omega (arith, lt))

  -- and of that of each later answer
  pub answers_rise : (before now : List Entry) (answers : List (Answer Entry Operation Error)) → Follows semantics before answers now
      → (j k : ℕ) (a : Answer Entry Operation Error) → j ≤ k → k < length answers → IsOlder (get_or answers j a).past (get_or answers k a).past
  answers_rise before now [] follows j k a le lt = absurd (omega (arith, lt))
  answers_rise before now (x ∷ answers) follows zero zero a le lt = ([], refl)
  answers_rise before now (x ∷ answers) follows (suc j) zero a le lt = absurd (omega (arith, le))
  answers_rise before now (x ∷ answers) follows zero (suc k) a le lt =
      older_trans x.past (after_row semantics x.past x.row) (get_or answers k a).past (after_older x.past x.row) (first_older (after_row semantics x.past x.row) answers follows.1 k (omega (arith, lt)))
    where
      first_older : (from : List Entry) (rest : List (Answer Entry Operation Error)) → Follows semantics from rest now → (i : ℕ) → i < length rest → IsOlder from (get_or rest i a).past
      first_older from [] after i less = absurd (omega (arith, less))
      first_older from (y ∷ rest) after zero less = after.0
      first_older from (y ∷ rest) after (suc i) less =
          older_trans from y.past (get_or rest i a).past after.0
          (older_trans y.past (after_row semantics y.past y.row) (get_or rest i a).past (after_older y.past y.row) (first_older (after_row semantics y.past y.row) rest after.1 i (omega (arith, less))))
  answers_rise before now (x ∷ answers) follows (suc j) (suc k) a le lt = answers_rise (after_row semantics x.past x.row) now answers follows.1 j k a (omega (arith, le)) (omega (arith, lt))

module _ {E : Type 0} where
  pub length-entries : (list : List (Filed E)) → length (entries_of list) ≡ length list
  length-entries [] = refl
  length-entries (f ∷ list) = ap suc (length-entries list)

  pub entries_append : (one other : List (Filed E)) → entries_of (one ++ other) ≡ entries_of one ++ entries_of other
  entries_append [] other = refl
  entries_append (f ∷ one) other = ap (λ l. f.entry ∷ l) (entries_append one other)

  pub entries_older : (one other : List (Filed E)) → IsOlder one other → IsOlder (entries_of one) (entries_of other)
  entries_older one other (more, is) = (entries_of more, ap entries_of is ∙ entries_append more one)
