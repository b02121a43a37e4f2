-- The applicants of filings in range are students' numbers.
use Rattle.std.proofs.Common.{◌≡◌, ℕ, ◌≤◌, Bool, true, false, pos, List, [], ◌∷◌, Some, ◌⊎◌, inl, inr, subst, arith}
use Rattle.std.specs.Prelude.{IsTrue, ◌==◌}
use Rattle.std.specs.List.{AllByRecursion, Contains}
use Rattle.std.proofs.lemmas.Int.{ints}
use Rattle.std.proofs.lemmas.Option.{same_Some}
use Rattle.aid_filings.specs.declared.filing.Filing.{Filing}
use Rattle.aid_filings.specs.declared.filing.What.{What}
use Rattle.aid_filings.specs.declared.filing.What.TheVariants.{Book, School, Calendar, Prior, Apply, Enroll, Originate, Pay, Withdraw, Repay, Adjust, Cost, Sent, Amend}
use Rattle.aid_types.specs.declared.number.Key.{Key}
use Rattle.format_table.specs.Layout.{AreNumbers}
use Rattle.format_table.specs.Limits.{is_between}
use Rattle.format_kinds.specs.Kinds.{slots_of_kind, table_row_of}
use Rattle.format_bytes.specs.Numbers.{IsFiling, facts_of, kind_of}
use Rattle.format_bytes.proofs.Ranges.{within}
use Rattle.office_history.proofs.Among.{among_cases}
use Rattle.office_history.specs.Past.{given}
use Rattle.office_export.specs.Applicants.{applicant, applicants}
use Rattle.office_export.proofs.Exactly.{applicants_told}

abbrev IsStudent : ℕ → Type 0
IsStudent student = (1 ≤ student) × (student ≤ 999999999999)

between : (n : ℕ) → IsTrue (is_between (pos 1) (pos 999999999999) (pos n)) → IsStudent n
between n h = let range = within (pos 1) (pos 999999999999) (pos n) h in (omega (arith, ints, range), omega (arith, ints, range))

-- the student of an application is the third of its numbers, behind those of the key
third : {A B C D : Type 0} → A × (B × (C × D)) → C
third (a, (b, (c, d))) = c

applied : (year : ℕ) (key : Key) (what : What) (student : ℕ) → AreNumbers (slots_of_kind (kind_of what)) [] (pos key.school ∷ pos key.number ∷ facts_of what) → applicant year what ≡ Some student → IsStudent student
unfolding table_row_of facts_of
applied year key (Apply a) student numbers e = go (a.year == year) e (between a.student (third numbers))
  where
    go : (b : Bool) → given b a.student ≡ Some student → IsStudent a.student → IsStudent student
    go true e is = subst IsStudent (same_Some a.student student e) is
    go false e is = absurd cc
applied year key (Book x) student numbers e = absurd cc
applied year key (School x) student numbers e = absurd cc
applied year key (Calendar x) student numbers e = absurd cc
applied year key (Prior x) student numbers e = absurd cc
applied year key (Enroll x) student numbers e = absurd cc
applied year key (Originate x) student numbers e = absurd cc
applied year key (Pay x) student numbers e = absurd cc
applied year key (Withdraw x) student numbers e = absurd cc
applied year key (Repay x) student numbers e = absurd cc
applied year key (Adjust x) student numbers e = absurd cc
applied year key (Cost x) student numbers e = absurd cc
applied year key (Sent x) student numbers e = absurd cc
applied year key (Amend x) student numbers e = absurd cc

-- what is among filings in range is in range
pub is_among : (past : List Filing) (f : Filing) → AllByRecursion IsFiling past → Contains past f → IsFiling f
is_among [] f are among = absurd (omega (arith, among.1))
is_among (g ∷ past) f are among = go are.0 (is_among past f are.1) (among_cases g past f among)
  where
    go : IsFiling g → (Contains past f → IsFiling f) → (g ≡ f) ⊎ Contains past f → IsFiling f
    go is rest (inl same) = subst IsFiling same is
    go is rest (inr there) = rest there

pub applicants_between : (past : List Filing) (year student : ℕ) → AllByRecursion IsFiling past → Contains (applicants past year) student → (1 ≤ student) × (student ≤ 999999999999)
applicants_between past year student are there =
    let told = (applicants_told past year student).0 there in
    let f = told.0 in
    applied year f.key f.what student (is_among past f are told.1) told.2
