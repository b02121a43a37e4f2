-- What a filing changes of a school.
use Rattle.std.proofs.Common.{◌≡◌, ℕ, ◌+◌, ◌^◌, ◌<◌, arith, refl, sym, ap, ◌∙◌, subst, Bool, true, List, length, Option, Some, None, eqb-true}
use Rattle.std.specs.Prelude.{◌==◌, is_some}
use Rattle.std.specs.Cmp.{unsigned_tied}
use Rattle.std.specs.Ordering.{is_eq, nat_cmp}
use Rattle.aid_types.specs.declared.number.Key.{Key}
use Rattle.aid_filings.specs.declared.filing.Filing.{Filing}
use Rattle.aid_filings.specs.declared.filing.SchoolFacts.{SchoolFacts}
use Rattle.aid_filings.specs.declared.filing.What.{What}
use Rattle.aid_filings.specs.declared.filing.What.TheVariants.{School}
use Rattle.office_history.specs.Answer.{IsLegal, breaks}
use Rattle.office_history.specs.Rules.{rules_of}
use Rattle.office_history.specs.Positions.{full_of, school_at, terms_of}
use Rattle.office_history.specs.Past.{earlier, first_of_two, given, school_in, the_school}
use Rattle.office_history.proofs.Asked.{none_told}
use Rattle.aid_types.proofs.Holds.{all_hold, stands_holds}
use Rattle.office_history.proofs.Legal.{legal_is_short}
use Rattle.office_history.specs.Rows.{school_row}
use Rattle.office_history.specs.declared.rows.SchoolRow.{SchoolRow}
use Rattle.office_updates.specs.After.{IsSchoolAfter}
use Rattle.office_updates.proofs.RowNames.{picked}

-- a school that breaks no rule is filed for the first time
school_first : (past : List Filing) (key : Key) (s : SchoolFacts) → breaks past (record { key = key; what = School s }) ≡ None → school_at past s.code ≡ 0
school_first past key s h =
    let k = all_hold (rules_of past key (School s)) h in
    stands_holds 13 (school_at past s.code) s.code k.1.1.0

-- the position of what comes next is small
pub next_fits : (past : List Filing) → IsLegal past → length past + 1 < 2 ^ 32
next_fits past legal = omega (arith, legal_is_short past legal)

-- the row of a school that is filed
abbrev pub filed_school : List Filing → SchoolFacts → SchoolRow
filed_school past s = record { at = length past + 1; terms = s.terms; full = s.full }

abbrev told_school : List Filing → SchoolFacts → Bool → ℕ → Option SchoolFacts → SchoolRow
told_school past s b n o = record {
  at = first_of_two (is_some (given b s)) n (length past + 1);
  terms = terms_of (earlier (given b s) o);
  full = full_of (earlier (given b s) o);
}

first_told : (past : List Filing) (s : SchoolFacts) (b : Bool) (n : ℕ) (o : Option SchoolFacts) → b ≡ true → n ≡ 0 → o ≡ None → told_school past s b n o ≡ filed_school past s
first_told past s b n o e e0 e1 = rw (e, e0, e1) refl

written : (past : List Filing) (key : Key) (s : SchoolFacts) → breaks past (record { key = key; what = School s }) ≡ None →
    IsSchoolAfter past (record { key = key; what = School s }) (Some (s.code, filed_school past s))
written past key s rule code =
    picked (is_eq (nat_cmp s.code code)) (filed_school past s) (school_row past code) (told_school past s (s.code == code) (school_at past code) (the_school past code))
    (λ e.
    let same : (s.code == code) ≡ true = sym (unsigned_tied s.code code) ∙ e in
    let first = subst (λ (x : ℕ). school_at past x ≡ 0) (eqb-true s.code code same) (school_first past key s rule) in
    first_told past s (s.code == code) (school_at past code) (the_school past code) same first (none_told (λ g. school_in code g.what) past first))
    (λ e. ap (λ (b : Bool). told_school past s b (school_at past code) (the_school past code)) (sym (unsigned_tied s.code code) ∙ e))

pub school_filed : (past : List Filing) (f : Filing) (s : SchoolFacts) → f.what ≡ School s → breaks past f ≡ None →
    IsSchoolAfter past f (Some (s.code, filed_school past s))
school_filed past f s is rule =
    subst (λ (what : What). IsSchoolAfter past (record { key = f.key; what = what }) (Some (s.code, filed_school past s))) (sym is)
    (written past f.key s (subst (λ (what : What). breaks past (record { key = f.key; what = what }) ≡ None) is rule))
