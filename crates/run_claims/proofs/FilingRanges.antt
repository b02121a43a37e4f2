-- What can be filed is what has numbers within the limits of its kind's fields.
use Rattle.std.proofs.Common.{◌≡◌, ℕ, ℤ, pos, IsTrue, List, [], ◌∷◌, ◌++◌, drop, length, take, refl, subst, ◌∙◌, append-nil, arith}
use Rattle.std.specs.Prelude.{flat_map}
use Rattle.std.proofs.lemmas.List.{length-map}
use Rattle.aid_types.specs.Programs.{rank}
use Rattle.aid_types.specs.declared.application.Region.{Region}
use Rattle.aid_types.specs.declared.application.Region.TheVariants.{Contiguous, Alaska, Hawaii}
use Rattle.aid_types.specs.declared.number.Program.{Program}
use Rattle.aid_types.specs.declared.number.Program.TheVariants.{Unsub, Sub, Plus, Pell, Fseog, Teach}
use Rattle.aid_filings.specs.declared.filing.Amount.{Amount}
use Rattle.aid_filings.specs.declared.filing.CalendarFacts.{CalendarFacts}
use Rattle.aid_filings.specs.declared.filing.Filing.{Filing}
use Rattle.aid_filings.specs.declared.filing.What.{What}
use Rattle.aid_filings.specs.declared.filing.What.TheVariants.{Book, School, Calendar, Prior, Apply, Enroll, Originate, Pay, Withdraw, Repay, Adjust, Cost, Sent, Amend}
use Rattle.aid_filings.specs.declared.filing.WithdrawFacts.{WithdrawFacts}
use Rattle.format_kinds.specs.Kinds.{amount_slots, calendar_slots, first_and_last, withdraw_slots, table_row_of}
use Rattle.format_table.specs.Layout.{AreNumbers, rows, rows_again}
use Rattle.format_table.specs.Limits.{is_between}
use Rattle.format_table.specs.Parts.{Slot}
use Rattle.format_bytes.specs.Numbers.{IsFiling, amount_numbers, break_days, day_number, facts_of, flag_number, kind_of, region_number}
use Rattle.format_bytes.specs.Parts.{FitAnywhere, calendar_numbers, could_numbers, withdraw_numbers, withdrawal_numbers}
use Rattle.format_bytes.proofs.Applications.{application_fits}
use Rattle.format_bytes.proofs.Calendars.{calendar_fits}
use Rattle.format_bytes.proofs.Could.{could_fit}
use Rattle.format_bytes.proofs.Ranges.{is_natural_within}
use Rattle.format_bytes.proofs.Slots.{as_many, fit_joined, rows-again}
use Rattle.run_claims.specs.Written.{Number, numbers_of, written, CanBeFiled, HasLists, application_numbers as written_application}
use Rattle.run_claims.specs.Written.Number.{day}
use Rattle.run_claims.proofs.BookRanges.{book_fits, book_held}
use Rattle.run_claims.proofs.Ranges.{AreInRange, all_in_range, day_fits, day_is, each_in_range, fits_natural, free_in_range, money_in_range, natural}

region_fits : (r : Region) → IsTrue (is_between (pos 0) (pos 2) (region_number r))
region_fits Contiguous = refl
region_fits Alaska = refl
region_fits Hawaii = refl

program_fits : (p : Program) → IsTrue (is_between (pos 0) (pos 5) (pos (rank p)))
program_fits Unsub = refl
program_fits Sub = refl
program_fits Plus = refl
program_fits Pell = refl
program_fits Fseog = refl
program_fits Teach = refl

-- ---- breaks
abbrev break_numbers : List (ℕ × ℕ) → List Number
break_numbers breaks = flat_map (λ days. day days.0 ∷ day days.1 ∷ []) breaks

break_rows : (n : ℕ) → rows n first_and_last first_and_last ++ [] ≡ rows_again n first_and_last
break_rows n = append-nil (rows n first_and_last first_and_last) ∙ rows-again n first_and_last refl

breaks_in_range : (breaks : List (ℕ × ℕ)) (earlier : List ℤ) → AreNumbers (rows_again (length breaks) first_and_last) earlier (flat_map break_days breaks) → AreInRange (break_numbers breaks)
breaks_in_range [] earlier fit = tt
breaks_in_range (b ∷ breaks) earlier fit = (day_is b.0 fit.0, (day_is b.1 fit.1.0, breaks_in_range breaks (day_number b.1 ∷ day_number b.0 ∷ earlier) fit.1.1))

breaks_fit : (breaks : List (ℕ × ℕ)) → AreInRange (break_numbers breaks) → FitAnywhere (rows_again (length breaks) first_and_last) (flat_map break_days breaks)
breaks_fit [] are earlier = tt
breaks_fit (b ∷ breaks) are earlier = (day_fits b.0 are.0, (day_fits b.1 are.1.0, breaks_fit breaks are.1.1 (day_number b.1 ∷ day_number b.0 ∷ earlier)))

-- ---- what is filed
-- all that its type doesn't say of it
abbrev IsHeldWhat : What → Type 0
IsHeldWhat what = AreInRange (written what).2 × HasLists what

calendar_held : (x : CalendarFacts) (earlier : List ℤ) → AreNumbers calendar_slots earlier (calendar_numbers x) → IsHeldWhat (Calendar x)
calendar_held x earlier fit =
    let before = pos (length x.breaks) ∷ day_number x.last ∷ day_number x.first ∷ flag_number x.extra ∷ pos x.term ∷ pos x.year ∷ earlier in
    let rest = subst (λ (slots : List Slot). AreNumbers slots before (flat_map break_days x.breaks)) (break_rows (length x.breaks)) fit.1.1.1.1.1.1 in (
      (natural 2000 2099 x.year fit.0, (tt, (tt, (day_is x.first fit.1.1.1.0, (day_is x.last fit.1.1.1.1.0, (tt, breaks_in_range x.breaks before rest)))))),
      (natural 0 8 (length x.breaks) fit.1.1.1.1.1.0).1,
    )

withdraw_held : (x : WithdrawFacts) (earlier : List ℤ) → AreNumbers withdraw_slots earlier (withdraw_numbers x) → IsHeldWhat (Withdraw x)
withdraw_held x earlier fit =
    let many = as_many withdraw_slots earlier (withdraw_numbers x) refl fit in
    let each = length-map x.could (λ (cents : ℕ). pos cents) in (
      (
        natural 1 999999999999 x.student fit.0,
        (natural 2000 2099 x.year fit.1.0, (tt, (day_is x.last fit.1.1.1.0, (day_is x.determined fit.1.1.1.1.0, (tt, money_in_range x.could))))),
      ),
      omega (arith, many, each),
    )

amount_in_range : (x : Amount) (earlier : List ℤ) → AreNumbers amount_slots earlier (amount_numbers x) → IsHeldWhat (Pay x)
amount_in_range x earlier fit = ((natural 1 999999999999 x.student fit.0, (natural 2000 2099 x.year fit.1.0, (tt, (tt, (tt, tt))))), tt)

what_held : (what : What) (earlier : List ℤ) → AreNumbers (table_row_of (kind_of what)).slots earlier (facts_of what) → IsHeldWhat what
unfolding table_row_of facts_of
what_held (Book x) earlier fit = book_held x earlier fit
what_held (School x) earlier fit = ((tt, (tt, (tt, tt))), tt)
what_held (Calendar x) earlier fit = calendar_held x earlier fit
what_held (Prior x) earlier fit = ((natural 1 999999999999 x.student fit.0, (natural 0 4294967295 x.units fit.1.0, tt)), tt)
what_held (Apply x) earlier fit =
    ((natural 1 999999999999 x.student fit.0, (natural 2000 2099 x.year fit.1.0, free_in_range (drop 2 (written_application x)) refl)), tt)
what_held (Enroll x) earlier fit =
    ((natural 1 999999999999 x.student fit.0, (natural 2000 2099 x.year fit.1.0, (tt, (natural 0 255 x.credits fit.1.1.1.0, tt)))), tt)
what_held (Originate x) earlier fit = ((natural 1 999999999999 x.student fit.0, (natural 2000 2099 x.year fit.1.0, (tt, tt))), tt)
what_held (Pay x) earlier fit = amount_in_range x earlier fit
what_held (Withdraw x) earlier fit = withdraw_held x earlier fit
what_held (Repay x) earlier fit = amount_in_range x earlier fit
what_held (Adjust x) earlier fit = amount_in_range x earlier fit
what_held (Cost x) earlier fit = ((natural 1 999999999999 x.student fit.0, (natural 2000 2099 x.year fit.1.0, (tt, tt))), tt)
what_held (Sent x) earlier fit =
    ((natural 1 999999999999 x.student fit.0, (natural 2000 2099 x.year fit.1.0, (tt, (tt, (tt, (day_is x.day fit.1.1.1.1.1.0, (tt, tt))))))), tt)
what_held (Amend x) earlier fit = ((natural 0 999999 x.of.school fit.0, (tt, (tt, (tt, (tt, tt))))), tt)

amount_fits : (x : Amount) → AreInRange (written (Pay x)).2 → FitAnywhere amount_slots (amount_numbers x)
amount_fits x are earlier = (
  fits_natural 1 999999999999 x.student are.0,
  (
    fits_natural 2000 2099 x.year are.1.0,
    (fits_natural 1 8 x.term x.in_range.0, (program_fits x.program, (is_natural_within 0 99999999 x.cents (omega arith) x.in_range.1, tt))),
  ),
)

withdraw_fits : (x : WithdrawFacts) → AreInRange (written (Withdraw x)).2 → length x.could ≡ 6 → FitAnywhere withdraw_slots (withdraw_numbers x)
withdraw_fits x are six =
    fit_joined (take 6 withdraw_slots) (drop 6 withdraw_slots) (withdrawal_numbers x) (could_numbers x.could) refl
    (λ before. (
      fits_natural 1 999999999999 x.student are.0,
      (
        fits_natural 2000 2099 x.year are.1.0,
        (
          fits_natural 1 8 x.term x.in_range.0,
          (day_fits x.last are.1.1.1.0, (day_fits x.determined are.1.1.1.1.0, (is_natural_within 0 99999999 x.charges (omega arith) x.in_range.1, tt))),
        ),
      ),
    )) (could_fit x.could six x.could_in_range)

what_fits : (what : What) → IsHeldWhat what → FitAnywhere (table_row_of (kind_of what)).slots (facts_of what)
unfolding table_row_of facts_of
what_fits (Book x) held earlier = book_fits x held.0 held.1 earlier
what_fits (School x) held earlier =
    (fits_natural 1 999999 x.code x.in_range.0, (fits_natural 2 3 x.terms x.in_range.1, (fits_natural 1 40 x.full x.in_range.2, tt)))
what_fits (Calendar x) held earlier =
    let r = held.0.1.1.1 in
    calendar_fits x (fits_natural 2000 2099 x.year held.0.0) (day_fits x.first r.0) (day_fits x.last r.1.0) held.1 (breaks_fit x.breaks r.1.1.1) earlier
what_fits (Prior x) held earlier = (fits_natural 1 999999999999 x.student held.0.0, (fits_natural 0 4294967295 x.units held.0.1.0, tt))
what_fits (Apply x) held earlier =
    let r = x.in_range in
    application_fits x (λ before. (
      fits_natural 1 999999999999 x.student held.0.0,
      (
        fits_natural 2000 2099 x.year held.0.1.0,
        (fits_natural 1 99 x.transaction r.0, (fits_natural 1900 2099 x.birth_year r.1, (region_fits x.region, (fits_natural 1 30 x.family r.2, tt)))),
      ),
    )) earlier
what_fits (Enroll x) held earlier =
    let r = held.0 in
    (fits_natural 1 999999999999 x.student r.0, (fits_natural 2000 2099 x.year r.1.0, (fits_natural 1 8 x.term x.in_range, (fits_natural 0 255 x.credits r.1.1.1.0, tt))))
what_fits (Originate x) held earlier =
    (fits_natural 1 999999999999 x.student held.0.0, (fits_natural 2000 2099 x.year held.0.1.0, (is_natural_within 0 999999 x.cost (omega arith) x.in_range, tt)))
what_fits (Pay x) held earlier = amount_fits x held.0 earlier
what_fits (Withdraw x) held earlier = withdraw_fits x held.0 held.1 earlier
what_fits (Repay x) held earlier = amount_fits x held.0 earlier
what_fits (Adjust x) held earlier = amount_fits x held.0 earlier
what_fits (Cost x) held earlier =
    (fits_natural 1 999999999999 x.student held.0.0, (fits_natural 2000 2099 x.year held.0.1.0, (is_natural_within 0 999999 x.cost (omega arith) x.in_range, tt)))
what_fits (Sent x) held earlier =
    let r = held.0 in (
      fits_natural 1 999999999999 x.student r.0,
      (
        fits_natural 2000 2099 x.year r.1.0,
        (
          fits_natural 1 8 x.term x.in_range.0,
          (
            program_fits x.program,
            (
              is_natural_within 0 99999999 x.cents (omega arith) x.in_range.1,
              (day_fits x.day r.1.1.1.1.1.0, (is_natural_within 0 999999999999 x.reference (omega arith) x.in_range.2, tt)),
            ),
          ),
        ),
      ),
    )
what_fits (Amend x) held earlier = (
  fits_natural 0 999999 x.of.school held.0.0,
  (
    fits_natural 1 999999999999 x.of.number x.of.in_range,
    (
      fits_natural 1 3 x.change x.in_range.0,
      (fits_natural 1 7 x.reason x.in_range.1, (is_natural_within 0 999999999999 x.reference (omega arith) x.in_range.2, tt)),
    ),
  ),
)

-- ---- the filing
pub can_be_filed : (f : Filing) → IsFiling f → CanBeFiled f
can_be_filed f fit =
    let held = what_held f.what (pos f.key.number ∷ pos f.key.school ∷ []) fit.1.1 in
    (each_in_range (numbers_of f) (natural 0 999999 f.key.school fit.0, (tt, held.0)), held.1)

pub is_filing : (f : Filing) → CanBeFiled f → IsFiling f
is_filing f can =
    let are = all_in_range (numbers_of f) can.0 in
    (fits_natural 0 999999 f.key.school are.0, (fits_natural 1 999999999999 f.key.number f.key.in_range, what_fits f.what (are.1.1, can.1) (pos f.key.number ∷ pos f.key.school ∷ [])))
