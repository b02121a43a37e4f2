-- Numbers of the fields of loan filings: those that stand first, and those behind them.
use Rattle.std.proofs.Common.{◌≡◌, ℕ, zero, suc, ◌≤◌, ℤ, pos, List, [], ◌∷◌, ◌++◌, true, length, take, drop, refl, sym, ap, subst, length-append, arith}
use Rattle.std.specs.Prelude.{IsSome, IsTrue, Option, Some, None, int_le, map, replicate}
use Rattle.std.specs.List.{list_all}
use Rattle.std.proofs.lemmas.Bool.{and_from, and_parts}
use Rattle.std.proofs.lemmas.Bool.Decides.{nat_tests}
use Rattle.std.proofs.lemmas.Int.{ints}
use Rattle.aid_types.proofs.SignedLemmas.{int_le-true}
use Rattle.aid_types.specs.Programs.{rank}
use Rattle.aid_types.specs.declared.number.Key.{Key}
use Rattle.aid_types.specs.declared.number.Program.{Program}
use Rattle.aid_types.specs.declared.number.Program.TheVariants.{Unsub, Sub, Plus, Pell, Fseog, Teach}
use Rattle.format_table.specs.Columns.{line, one, year}
use Rattle.format_table.specs.Layout.{AreNumbers, plain}
use Rattle.format_table.specs.Limits.{is_between}
use Rattle.format_table.specs.Parts.{Line, Slot}
use Rattle.format_table.specs.Tables.{IsRow, KindRow, kind_at, slots_in}
use Rattle.format_table.specs.declared.field.Form.TheVariants.{U32}
use Rattle.format_table.specs.declared.field.Limit.TheVariants.{Between}
use Rattle.format_kinds.specs.Kinds.{key_slots}
use Rattle.law_loans.specs.Ranges.{EachIsDollars, HaveLevels, is_dollars, is_loan}
use Rattle.law_loans.specs.declared.filing.LimitFacts.{LimitFacts}
use Rattle.law_loans.specs.declared.filing.LoanWhat.{LoanWhat}
use Rattle.law_loans.specs.declared.filing.LoanWhat.TheVariants.{Limits, Borrower, Before, Lend, Cancel}
use Rattle.loans.specs.Kinds.{limit_slots, limits_slots, loan_kinds}
use Rattle.loans.specs.Numbers.{code_of_what, dollar_numbers, key_numbers, limits_in, limits_numbers, what_numbers}
use Rattle.loans.specs.Parts.{FitAnywhere, FitSomewhere, dollar_slots, slots_of_what}

-- the test of a range
pub is_natural_within : (low high n : ℕ) → low ≤ n → n ≤ high → IsTrue (is_between (pos low) (pos high) (pos n))
is_natural_within low high n p q = and_from (int_le (pos low) (pos n)) (int_le (pos n) (pos high)) (int_le-true (pos low) (pos n) (grind (arith, ints))) (int_le-true (pos n) (pos high) (grind (arith, ints)))

-- a loan's program is at the first place or the second
pub program_fits : (p : Program) → IsTrue (is_loan p) → IsTrue (is_between (pos 0) (pos 1) (pos (rank p)))
program_fits Unsub h = refl
program_fits Sub h = refl
program_fits Plus h = absurd cc
program_fits Pell h = absurd cc
program_fits Fseog h = absurd cc
program_fits Teach h = absurd cc

-- ---- the limits of a year
dollars_fit_one : (n : ℕ) → is_dollars n ≡ true → IsTrue (is_between (pos 0) (pos 999999) (pos n))
dollars_fit_one n h = is_natural_within 0 999999 n (omega arith) (grind (arith, nat_tests))

dollars_fit : (words : List (List ℕ)) (amounts : List ℕ) (earlier : List ℤ) → length amounts ≡ length words → EachIsDollars amounts
    → AreNumbers (map (λ word. one word U32 (pos 0) (pos 999999)) words) earlier (dollar_numbers amounts)
dollars_fit [] [] earlier len h = tt
dollars_fit [] (n ∷ amounts) earlier len h = absurd (omega arith)
dollars_fit (word ∷ words) [] earlier len h = absurd (omega arith)
dollars_fit (word ∷ words) (n ∷ amounts) earlier len h =
    let both = and_parts (is_dollars n) (list_all is_dollars amounts) h in
    (dollars_fit_one n both.0, dollars_fit words amounts (pos n ∷ earlier) (omega arith) both.1)

abbrev limit_words : List (List ℕ)
limit_words = map (λ (slot : Slot). slot.line.name) limit_slots

pub levels_count : (a b c : List ℕ) (d : ℕ) (e f : List ℕ) → HaveLevels a b c e f → length (a ++ b ++ c ++ d ∷ e ++ f) ≡ 16
levels_count a b c d e f levels =
    omega (arith, length-append (a ++ b ++ c ++ d ∷ e) f, length-append (a ++ b ++ c) (d ∷ e), length-append (a ++ b) c, length-append a b)

pub limits_fit : (x : LimitFacts) → IsTrue (is_between (pos 2000) (pos 2099) (pos x.year)) → FitAnywhere limits_slots (limits_numbers x)
limits_fit x year earlier =
    (year, dollars_fit limit_words (limits_in x) (pos x.year ∷ earlier) (levels_count x.sub x.dependent x.independent x.graduate x.aggregate_sub x.aggregate x.levels) x.in_range)

-- ---- the first numbers, and those behind them
parted : (n : ℕ) (lines : List Line) (earlier zs : List ℤ) → AreNumbers (map plain lines) earlier zs
    → AreNumbers (map plain (take n lines)) earlier (take n zs) × FitSomewhere (map plain (drop n lines)) (drop n zs)
parted zero lines earlier zs h = (tt, (earlier, h))
parted (suc n) [] earlier [] h = (tt, (earlier, tt))
parted (suc n) [] earlier (z ∷ zs) h = absurd h
parted (suc n) (line ∷ lines) earlier [] h = absurd h
parted (suc n) (line ∷ lines) earlier (z ∷ zs) h = let k = parted n lines (z ∷ earlier) zs h.1 in ((h.0, k.0), k.1)

fit_parted : (n : ℕ) (lines : List Line) (zs : List ℤ) → FitSomewhere (map plain lines) zs
    → FitSomewhere (map plain (take n lines)) (take n zs) × FitSomewhere (map plain (drop n lines)) (drop n zs)
fit_parted n lines zs h = let k = parted n lines h.0 zs h.1 in ((h.0, k.0), k.1)

as_many : (lines : List Line) (earlier zs : List ℤ) → AreNumbers (map plain lines) earlier zs → length zs ≡ length lines
as_many [] earlier [] h = refl
as_many [] earlier (z ∷ zs) h = absurd h
as_many (line ∷ lines) earlier [] h = absurd h
as_many (line ∷ lines) earlier (z ∷ zs) h = ap suc (as_many lines (z ∷ earlier) zs h.1)

-- fields of dollars by no name
unnamed : (words : List (List ℕ)) (earlier zs : List ℤ) → AreNumbers (map (λ word. one word U32 (pos 0) (pos 999999)) words) earlier zs
    → AreNumbers (dollar_slots (length words)) earlier zs
unnamed [] earlier [] h = tt
unnamed [] earlier (z ∷ zs) h = absurd h
unnamed (word ∷ words) earlier [] h = absurd h
unnamed (word ∷ words) earlier (z ∷ zs) h = (h.0, unnamed words (z ∷ earlier) zs h.1)

abbrev dollar_lines : ℕ → List Line
dollar_lines n = replicate n (line [] U32 (Between (pos 0) (pos 999999)))

abbrev limits_lines : List Line
limits_lines = year.line ∷ dollar_lines 16

limits_unnamed : (zs : List ℤ) → FitSomewhere limits_slots zs → FitSomewhere (map plain limits_lines) zs
limits_unnamed [] h = absurd h.1
limits_unnamed (z ∷ zs) h = (h.0, (h.1.0, unnamed limit_words (z ∷ h.0) zs h.1.1))

-- the numbers of a year's limits, in three parts
pub record HasLimits (zs : List ℤ) : Type 0 where
  pub many : length zs ≡ 17
  pub front : FitSomewhere (year ∷ dollar_slots 4) (take 5 zs)
  pub middle : FitSomewhere (dollar_slots 7) (take 7 (drop 5 zs))
  pub last : FitSomewhere (dollar_slots 5) (drop 7 (drop 5 zs))

pub limits_parted : (zs : List ℤ) → FitSomewhere limits_slots zs → HasLimits zs
limits_parted zs h =
    let fit = limits_unnamed zs h in
    let first = fit_parted 5 limits_lines zs fit in
    let second = fit_parted 7 (drop 5 limits_lines) (drop 5 zs) first.1 in
    record { many = as_many limits_lines fit.0 zs fit.1; front = first.0; middle = second.0; last = second.1 }

-- ---- the numbers of a filing, by those of its key and of what is filed
pub what_fits : (x y : LoanWhat) → x ≡ y → FitAnywhere (slots_of_what y) (what_numbers y) → FitAnywhere (slots_of_what x) (what_numbers x)
what_fits x y e h = subst (λ (z : LoanWhat). FitAnywhere (slots_of_what z) (what_numbers z)) (sym e) h

pub row_of : (key : Key) (what : LoanWhat) → FitAnywhere key_slots (key_numbers key) → FitAnywhere (slots_of_what what) (what_numbers what)
    → IsRow key_slots loan_kinds (code_of_what what) (key_numbers key ++ what_numbers what)
row_of key what k h = row_by what h
  where
    row_by : (what : LoanWhat) → FitAnywhere (slots_of_what what) (what_numbers what) → IsRow key_slots loan_kinds (code_of_what what) (key_numbers key ++ what_numbers what)
    row_by (Limits x) h = record { known = refl; are = ((k []).0, ((k []).1.0, h (pos key.number ∷ pos key.school ∷ []))) }
    row_by (Borrower x) h = record { known = refl; are = ((k []).0, ((k []).1.0, h (pos key.number ∷ pos key.school ∷ []))) }
    row_by (Before x) h = record { known = refl; are = ((k []).0, ((k []).1.0, h (pos key.number ∷ pos key.school ∷ []))) }
    row_by (Lend x) h = record { known = refl; are = ((k []).0, ((k []).1.0, h (pos key.number ∷ pos key.school ∷ []))) }
    row_by (Cancel x) h = record { known = refl; are = ((k []).0, ((k []).1.0, h (pos key.number ∷ pos key.school ∷ []))) }

-- the numbers of the key, and those behind them
row_parted_by : (kind : Option KindRow) (zs : List ℤ) → IsSome kind → AreNumbers (slots_in key_slots kind) [] zs
    → (2 ≤ length zs) × FitSomewhere key_slots (take 2 zs) × FitSomewhere (slots_in [] kind) (drop 2 zs)
row_parted_by None zs known h = absurd cc
row_parted_by (Some kind) [] known h = absurd h
row_parted_by (Some kind) (a ∷ []) known h = absurd h.1
row_parted_by (Some kind) (a ∷ b ∷ zs) known h = (omega arith, ([], (h.0, (h.1.0, tt))), (b ∷ a ∷ [], h.1.1))

pub row_parted : (code : ℕ) (zs : List ℤ) → IsRow key_slots loan_kinds code zs
    → (2 ≤ length zs) × FitSomewhere key_slots (take 2 zs) × FitSomewhere (slots_in [] (kind_at loan_kinds code)) (drop 2 zs)
row_parted code zs h = row_parted_by (kind_at loan_kinds code) zs h.known h.are
