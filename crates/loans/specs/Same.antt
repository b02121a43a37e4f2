-- A loan filing is told by the code of its kind and its numbers.
use Rattle.std.proofs.Common.{◌≡◌, ℕ, ◌==◌, ℤ, pos, Bool, true, false, List, [], ◌∷◌, ◌++◌, take, drop, refl, sym, ap, ◌∙◌, arith}
use Rattle.std.specs.Prelude.{if◌then◌else◌, map, slice_index_or, unsigned_abs, IsTrue}
use Rattle.aid_types.specs.Programs.{rank}
use Rattle.aid_types.specs.declared.number.Key.{Key}
use Rattle.aid_types.specs.declared.number.Program.{Program}
use Rattle.aid_types.specs.declared.number.Program.TheVariants.{Unsub, Sub, Plus, Pell, Fseog, Teach}
use Rattle.aid_types.proofs.Same.{key_parts, key_whole}
use Rattle.law_loans.specs.Ranges.{HaveLevels, is_loan}
use Rattle.law_loans.specs.declared.filing.BeforeFacts.{BeforeFacts}
use Rattle.law_loans.specs.declared.filing.BorrowerFacts.{BorrowerFacts}
use Rattle.law_loans.specs.declared.filing.LimitFacts.{LimitFacts}
use Rattle.law_loans.specs.declared.filing.LoanAmount.{LoanAmount}
use Rattle.law_loans.specs.declared.filing.LoanFiling.{LoanFiling}
use Rattle.law_loans.specs.declared.filing.LoanWhat.{LoanWhat}
use Rattle.law_loans.specs.declared.filing.LoanWhat.TheVariants.{Limits, Borrower, Before, Lend, Cancel}
use Rattle.law_loans.proofs.SameLoan.{LimitParts, before_parts, before_whole, borrower_parts, borrower_whole, limit_parts, limit_whole, loan_parts, loan_whole}
use Rattle.loans.specs.Numbers.{before_numbers, borrower_numbers, code_of_loan, code_of_what, dollar_numbers, flag_number, key_numbers, limits_in, limits_numbers, loan_numbers, numbers_of_loan, what_numbers}

-- the numbers of equal lists, and what they are of
at : {xs ys : List ℤ} → xs ≡ ys → (k : ℕ) → slice_index_or xs k (pos 0) ≡ slice_index_or ys k (pos 0)
at e k = ap (λ (zs : List ℤ). slice_index_or zs k (pos 0)) e

natural_at : {xs ys : List ℤ} → xs ≡ ys → (k : ℕ) → unsigned_abs (slice_index_or xs k (pos 0)) ≡ unsigned_abs (slice_index_or ys k (pos 0))
natural_at e k = ap unsigned_abs (at e k)

flag_of : ℤ → Bool
flag_of z = unsigned_abs z == 1

flag_again : (b : Bool) → flag_of (flag_number b) ≡ b
unfolding flag_of
flag_again true = refl
flag_again false = refl

same_flag : (b c : Bool) → flag_number b ≡ flag_number c → b ≡ c
same_flag b c e = sym (flag_again b) ∙ ap flag_of e ∙ flag_again c

program_of : ℤ → Program
program_of z = if unsigned_abs z == 0 then Unsub else Sub

program_again : (p : Program) → IsTrue (is_loan p) → program_of (pos (rank p)) ≡ p
unfolding program_of
program_again Unsub h = refl
program_again Sub h = refl
program_again Plus h = absurd cc
program_again Pell h = absurd cc
program_again Fseog h = absurd cc
program_again Teach h = absurd cc

same_program : (p q : Program) → IsTrue (is_loan p) → IsTrue (is_loan q) → pos (rank p) ≡ pos (rank q) → p ≡ q
same_program p q h k e = sym (program_again p h) ∙ ap program_of e ∙ program_again q k

-- amounts that are read back
dollars_again : (amounts : List ℕ) → map unsigned_abs (dollar_numbers amounts) ≡ amounts
dollars_again [] = refl
dollars_again (n ∷ amounts) = ap (λ (ns : List ℕ). n ∷ ns) (dollars_again amounts)

same_dollars : (xs ys : List ℕ) → dollar_numbers xs ≡ dollar_numbers ys → xs ≡ ys
same_dollars xs ys e = sym (dollars_again xs) ∙ ap (map unsigned_abs) e ∙ dollars_again ys

-- the limits of a year out of one list of them
limits_from : ℕ → List ℕ → LimitParts
limits_from year all = (year, (take 4 all, (take 3 (drop 4 all), (take 3 (drop 7 all), (slice_index_or all 10 0, (take 2 (drop 11 all), drop 13 all))))))

again : (year : ℕ) (a b c : List ℕ) (d : ℕ) (e f : List ℕ) → HaveLevels a b c e f → limits_from year (a ++ b ++ c ++ d ∷ e ++ f) ≡ (year, (a, (b, (c, (d, (e, f))))))
unfolding limits_from
again year (a ∷ b ∷ c ∷ d ∷ []) (e ∷ f ∷ g ∷ []) (h ∷ i ∷ j ∷ []) k (l ∷ m ∷ []) (n ∷ o ∷ p ∷ []) levels = refl
again year a b c d e f levels = absurd (omega arith)

limits_again : (x : LimitFacts) → limits_from x.year (limits_in x) ≡ limit_parts x
unfolding limit_parts
limits_again x = again x.year x.sub x.dependent x.independent x.graduate x.aggregate_sub x.aggregate x.levels

-- ---- the facts of each kind
same_key : (x y : Key) → key_numbers x ≡ key_numbers y → x ≡ y
unfolding key_parts
same_key x y e = key_whole x y (λ i. (natural_at e 0 i, natural_at e 1 i))

same_limits : (x y : LimitFacts) → limits_numbers x ≡ limits_numbers y → x ≡ y
same_limits x y e =
    let year : x.year ≡ y.year = natural_at e 0 in
    let all : limits_in x ≡ limits_in y = same_dollars (limits_in x) (limits_in y) (ap (drop 1) e) in
    limit_whole x y (sym (limits_again x) ∙ (λ i. limits_from (year i) (all i)) ∙ limits_again y)

same_borrower : (x y : BorrowerFacts) → borrower_numbers x ≡ borrower_numbers y → x ≡ y
unfolding borrower_parts
same_borrower x y e =
    let independent = same_flag x.independent y.independent (at e 4) in
    borrower_whole x y (λ i. (natural_at e 0 i, (natural_at e 1 i, (natural_at e 2 i, (natural_at e 3 i, (independent i, (natural_at e 5 i, natural_at e 6 i)))))))

same_before : (x y : BeforeFacts) → before_numbers x ≡ before_numbers y → x ≡ y
unfolding before_parts
same_before x y e = before_whole x y (λ i. (natural_at e 0 i, (natural_at e 1 i, natural_at e 2 i)))

same_amount : (x y : LoanAmount) → loan_numbers x ≡ loan_numbers y → x ≡ y
unfolding loan_parts
same_amount x y e =
    let program = same_program x.program y.program x.in_range.0 y.in_range.0 (at e 2) in
    loan_whole x y (λ i. (natural_at e 0 i, (natural_at e 1 i, (program i, natural_at e 3 i))))

-- ---- what is filed, and the filing
same_what : (x y : LoanWhat) → code_of_what x ≡ code_of_what y → what_numbers x ≡ what_numbers y → x ≡ y
same_what (Limits x) (Limits y) k e = ap Limits (same_limits x y e)
same_what (Borrower x) (Borrower y) k e = ap Borrower (same_borrower x y e)
same_what (Before x) (Before y) k e = ap Before (same_before x y e)
same_what (Lend x) (Lend y) k e = ap Lend (same_amount x y e)
same_what (Cancel x) (Cancel y) k e = ap Cancel (same_amount x y e)
same_what _ _ k e = absurd (omega arith)

-- two loan filings of a kind are equal where their numbers are
pub same_loan : (x y : LoanFiling) → code_of_loan x ≡ code_of_loan y → numbers_of_loan x ≡ numbers_of_loan y → x ≡ y
same_loan x y k e =
    let key : x.key ≡ y.key = same_key x.key y.key (ap (take 2) e) in
    let what : x.what ≡ y.what = same_what x.what y.what k (ap (drop 2) e) in
    λ i. record { key = key i; what = what i }
