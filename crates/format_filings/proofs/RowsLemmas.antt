-- What a row of a kind means, by its parts, and that what rows say tells them.
use Rattle.std.proofs.Common.{◌≡◌, ◌≤◌, ℕ, length, arith, ℤ, List, [], ◌∷◌, drop, true, false, refl, ap, subst, ◌∙◌}
use Rattle.std.specs.Prelude.{Some, option_and_then, Result, Ok, Err, IfOk, if◌then◌else◌, map}
use Rattle.std.specs.Result.{result_map_both}
use Rattle.aid_filings.specs.declared.filing.Filing.{Filing}
use Rattle.csv.specs.Records.{field_at}
use Rattle.format_kinds.specs.Kinds.{kind_named, slots_of_kind, words_of_programs}
use Rattle.format_table.specs.Layout.{AreNumbers}
use Rattle.format_kinds.specs.Drafts.{numbers_of_kind}
use Rattle.format_kinds.specs.declared.kind.Kind.{Kind}
use Rattle.format_table.proofs.WalkLaws.{numbers_of_slots-are}
use Rattle.format_bytes.specs.Numbers.{kind_of}
use Rattle.format_bytes.proofs.Same.{same_filing}
use Rattle.format_rows.specs.Fields.{are_as_many}
use Rattle.format_rows.specs.Numbers.{refused, row_source}
use Rattle.format_filings.specs.Rows.{has_rows, row_of, row_of_kind, said}
use Rattle.format_rows.specs.declared.error.Cause.TheVariants.{UnknownKind, WrongCount}
use Rattle.format_rows.specs.declared.error.RowError.{RowError}

-- ---- a row of a kind
-- numbers with it
abbrev pub with_kind : Kind → Result (List ℤ) RowError → Result (Kind × List ℤ) RowError
with_kind kind read = result_map_both (λ zs. (kind, zs)) (λ e. e) read

-- one that has rows
pub of_kind : (row : ℕ) (texts : List (List ℕ)) (kind : Kind) → has_rows kind ≡ true → row_of row texts (Some kind) ≡ row_of_kind row kind (drop 1 texts)
of_kind row texts kind h = ap (λ b. if b then row_of_kind row kind (drop 1 texts) else Err (refused row 1 UnknownKind)) h

-- a wrong number of fields
pub wrong_count : (row : ℕ) (kind : Kind) (texts : List (List ℕ)) → are_as_many words_of_programs (slots_of_kind kind) texts ≡ false → row_of_kind row kind texts ≡ Err (refused row 0 WrongCount)
unfolding row_of_kind
wrong_count row kind texts many = ap (λ b. if b then with_kind kind (numbers_of_kind (row_source words_of_programs row) kind texts) else Err (refused row 0 WrongCount)) many

-- the right one
pub right_count : (row : ℕ) (kind : Kind) (texts : List (List ℕ)) (read : Result (List ℤ) RowError) → are_as_many words_of_programs (slots_of_kind kind) texts ≡ true → numbers_of_kind (row_source words_of_programs row) kind texts ≡ read
    → row_of_kind row kind texts ≡ with_kind kind read
unfolding row_of_kind
right_count row kind texts read many is =
    ap (λ b. if b then with_kind kind (numbers_of_kind (row_source words_of_programs row) kind texts) else Err (refused row 0 WrongCount)) many ∙ ap (with_kind kind) is

-- numbers that were read are those of a kind
pub read-are : (row : ℕ) (kind : Kind) (texts : List (List ℕ)) (zs : List ℤ) → numbers_of_kind (row_source words_of_programs row) kind texts ≡ Ok zs → AreNumbers (slots_of_kind kind) [] zs
read-are row kind texts zs r = subst (λ (x : Result (List ℤ) RowError). IfOk x (AreNumbers (slots_of_kind kind) [])) r (numbers_of_slots-are (row_source words_of_programs row) (slots_of_kind kind) texts)

-- ---- the texts and the parts
-- a row whose first text names a kind has a text
pub named_text : (texts : List (List ℕ)) (kind : Kind) → option_and_then kind_named (field_at texts 0) ≡ Some kind → 1 ≤ length texts
unfolding field_at
named_text [] kind e = absurd cc
named_text (text ∷ texts) kind e = omega arith

-- ---- what is said tells the row
kind_said : Kind → Result (Kind × List ℤ) RowError → Kind
kind_said other (Ok numbers) = numbers.0
kind_said other (Err e) = other

numbers_said : Result (Kind × List ℤ) RowError → List ℤ
numbers_said (Ok numbers) = numbers.1
numbers_said (Err e) = []

pub said_once : (one other : Result Filing RowError) → said one ≡ said other → one ≡ other
unfolding kind_said numbers_said
said_once (Ok f) (Ok g) h = ap Ok (same_filing f g (ap (kind_said (kind_of f.what)) h) (ap numbers_said h))
said_once (Ok f) (Err e) h = absurd cc
said_once (Err e) (Ok g) h = absurd cc
said_once (Err e) (Err d) h = let same : e ≡ d = cc in ap Err same

pub all_said_once : (one other : List (Result Filing RowError)) → map said one ≡ map said other → one ≡ other
all_said_once [] [] h = refl
all_said_once [] (y ∷ ys) h = absurd cc
all_said_once (x ∷ xs) [] h = absurd cc
all_said_once (x ∷ xs) (y ∷ ys) h =
    let first : said x ≡ said y = cc in
    let more : map said xs ≡ map said ys = cc in
    λ i. said_once x y first i ∷ all_said_once xs ys more i
