-- Rows that are taken one after the other.
use Rattle.std.proofs.Common.{◌≡◌, ◌≤◌, ◌+◌, ℕ, suc, List, [], ◌∷◌, length, Bool, true, false, refl, sym, ap, inl, arith, ◌∙◌}
use Rattle.std.specs.Prelude.{if◌then◌else◌, Option, Some}
use Rattle.csv.specs.Machine.{Read}
use Rattle.csv.specs.Reading.{ExplainsRead, Reached, ReadRecord, default_config, is_bom, records, source_of, stops_reader, strip_bom}
use Rattle.csv.specs.declared.error.ErrorKind.{ErrorKind}
use Rattle.csv.specs.declared.error.ErrorKind.TheVariants as kind
use Rattle.csv.specs.declared.parser.State.{State}
use Rattle.csv.specs.declared.reader.Reader.{Reader}
use Rattle.csv.proofs.ReadFacts.{rows-end, rows-more}
use Rattle.format_rows.specs.Left.{IsNumbered, IsReading, ended_lines, left_of, records_left}
use Rattle.format_rows.specs.Meanings.{meanings_from}
use Rattle.format_rows.proofs.RecordsLemmas.{first_record, no_fewer, no_record, text_few}

abbrev Records : Type 0
Records = List (List (List ℕ))

-- ---- how many rows there are
pub meanings_from-length : {A : Type 0} (meaning : ℕ → List (List ℕ) → A) (n : ℕ) (rows : Records) → length (meanings_from meaning n rows) ≡ length rows
meanings_from-length meaning n [] = refl
meanings_from-length meaning n (texts ∷ rows) = ap suc (meanings_from-length meaning (suc n) rows)

fewer : (b : Bool) (x y : List ℕ) (n : ℕ) → ended_lines x ≤ n → ended_lines y ≤ n → ended_lines (if b then x else y) ≤ n
fewer true x y n hx hy = hx
fewer false x y n hx hy = hy

-- a mark at the start is part of the text
strip_bom-few : (text : List ℕ) → ended_lines (strip_bom text) ≤ ended_lines text
unfolding strip_bom
strip_bom-few [] = omega arith
strip_bom-few (a ∷ []) = omega arith
strip_bom-few (a ∷ b ∷ []) = omega arith
strip_bom-few (a ∷ b ∷ c ∷ rest) =
    fewer (is_bom a b c) rest (a ∷ b ∷ c ∷ rest) (ended_lines (a ∷ b ∷ c ∷ rest))
    (omega (arith, no_fewer c rest, no_fewer b (c ∷ rest), no_fewer a (b ∷ c ∷ rest)))
    (omega arith)

-- a text has at most one row more than it has lines in which something stands and that have an end
pub rows_few : (text : List ℕ) → length (records default_config (strip_bom text)) ≤ ended_lines text + 1
rows_few text = omega (arith, text_few (length (strip_bom text) + 1) (strip_bom text), strip_bom-few text)

-- ---- one row
-- what is known of a reader behind a row
pub record IsTaken {R : Type 0} (rem : R → Option (List ℕ)) (old new : Reader R) (fields : List (List ℕ)) : Type 0 where
  pub left : records_left old.state (source_of rem old) ≡ fields ∷ records_left new.state (source_of rem new)
  pub reading : IsReading rem new

behind : (fields : List (List ℕ)) (p : Read) (s : State) (xs : List ℕ) → fields ≡ p.0 → p.1 ≡ s → p.2 ≡ xs
    → p.0 ∷ records_left p.1 (Some p.2) ≡ fields ∷ records_left s (Some xs)
behind fields p s xs is state rest = λ i. sym is i ∷ records_left (state i) (Some (rest i))

-- the record that comes next is the first of those that are left
pub is_taken : {R : Type 0} (rem : R → Option (List ℕ)) (old new : Reader R) (fields : List (List ℕ)) → IsReading rem old → ReadRecord rem old new true fields
    → new.first ≡ true → new.flexible ≡ old.flexible → IsTaken rem old new fields
unfolding Reached
is_taken {R = R} rem old new fields r read first flexible =
    let more = rows-more rem old new fields default_config old.state r.bytes r.bytes [] r.config r.known (refl, refl) read in
    let next = more.2 in
    let taken : records_left old.state (Some r.bytes) ≡ next.0.0 ∷ records_left next.0.1 (Some next.0.2) = first_record old.state r.bytes next.0 next.1 in
    record {
      left = ap (records_left old.state) r.known ∙ taken ∙ behind fields next.0 new.state more.0 next.2 next.3.0 next.3.1 ∙ ap (λ known. fields ∷ records_left new.state known) (sym more.1);
      reading = record { bytes = more.0; known = more.1; ready = inl first; config = read.2 ∙ r.config; trim = read.3 ∙ r.trim; flexible = flexible ∙ r.flexible };
    }

-- where there is none, none are left
pub none_left : {R : Type 0} (rem : R → Option (List ℕ)) (old new : Reader R) (fields : List (List ℕ)) → IsReading rem old → ReadRecord rem old new false fields
    → records_left old.state (source_of rem old) ≡ []
none_left rem old new fields r read =
    ap (records_left old.state) r.known ∙ no_record old.state r.bytes (rows-end rem old new fields default_config r.bytes r.config r.known read)

one_on : (n : ℕ) → suc n ≡ n + 1
one_on n = omega arith

-- what is left has numbers one further on
pub next_numbered : {R : Type 0} (rem : R → Option (List ℕ)) (ended : Bool) (old new : Reader R) (fields : List (List ℕ)) (number at_most : ℕ) → ended ≡ false → IsTaken rem old new fields
    → IsNumbered number (left_of rem ended old) at_most → IsNumbered (number + 1) (left_of rem ended new) at_most
next_numbered rem true old new fields number at_most before taken numbered = absurd cc
next_numbered rem false old new fields number at_most before taken numbered =
    record { first = omega (arith, numbered.first); few = omega (arith, ap length taken.left, numbered.few); bound = numbered.bound }

-- and means what it meant
pub next_means : {A R : Type 0} (meaning : ℕ → List (List ℕ) → A) (rem : R → Option (List ℕ)) (ended : Bool) (old new : Reader R) (fields : List (List ℕ)) (number : ℕ) (row : A)
    → ended ≡ false → IsTaken rem old new fields → row ≡ meaning number fields → meanings_from meaning number (left_of rem ended old) ≡ row ∷ meanings_from meaning (number + 1) (left_of rem ended new)
next_means meaning rem true old new fields number row before taken is = absurd cc
next_means meaning rem false old new fields number row before taken is =
    ap (meanings_from meaning number) taken.left ∙ (λ i. sym is i ∷ meanings_from meaning (one_on number i) (records_left new.state (source_of rem new)))

-- where none are left nothing is meant
pub none_mean : {A R : Type 0} (meaning : ℕ → List (List ℕ) → A) (rem : R → Option (List ℕ)) (ended : Bool) (old new : Reader R) (fields : List (List ℕ)) (number : ℕ)
    → ended ≡ false → IsReading rem old → ReadRecord rem old new false fields → meanings_from meaning number (left_of rem ended old) ≡ []
none_mean meaning rem true old new fields number before reading read = absurd cc
none_mean meaning rem false old new fields number before reading read = ap (meanings_from meaning number) (none_left rem old new fields reading read)

-- rows that are left mean no more than there is room for
pub means_few : {A : Type 0} (meaning : ℕ → List (List ℕ) → A) (number at_most : ℕ) (left : Records) → IsNumbered number left at_most → length (meanings_from meaning number left) ≤ at_most
means_few meaning number at_most left numbered = omega (arith, meanings_from-length meaning number left, numbered.first, numbered.few)

-- ---- errors
-- a flexible reader of bytes fails for the reader underneath or for memory alone
pub only_stops : {R : Type 0} (rem : R → Option (List ℕ)) (old new : Reader R) (why : ErrorKind) → old.flexible ≡ true → ExplainsRead rem old new false why → stops_reader why ≡ true
only_stops rem old new (kind.Io e) f h = refl
only_stops rem old new kind.OutOfMemory f h = refl
only_stops rem old new (kind.UnequalLengths pos expected len) f h = sym (rw f at h.0)
only_stops rem old new (kind.Utf8 pos err) f h = cc h.0
only_stops rem old new (kind.Serialize why) f h = absurd h
only_stops rem old new (kind.Deserialize pos err) f h = absurd h
