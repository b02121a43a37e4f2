-- The numbers of a term: six, and the days of the breaks that the sixth counts.
use Rattle.std.proofs.Common.{◌≡◌, ℕ, zero, suc, ◌+◌, ◌<◌, ◌≤◌, ℤ, pos, Bool, true, false, List, [], ◌∷◌, ◌++◌, length, drop, take, get_or, refl, sym, ap, subst, ◌∙◌, arith}
use Rattle.std.specs.Prelude.{IsTrue, flat_map, map, slice_index_or, unsigned_abs}
use Rattle.std.proofs.lemmas.Int.{ints}
use Rattle.std.proofs.lemmas.List.{append-nil, take_more}
use Rattle.aid_filings.specs.declared.filing.CalendarFacts.{CalendarFacts}
use Rattle.format_kinds.specs.Kinds.{calendar_slots, first_and_last}
use Rattle.format_table.specs.Layout.{AreNumbers, plain, rows, rows_again}
use Rattle.format_table.specs.Limits.{is_between}
use Rattle.format_table.specs.Parts.{Slot}
use Rattle.format_bytes.specs.Numbers.{break_days, day_number, flag_number}
use Rattle.format_bytes.specs.Parts.{FitAnywhere, FitSomewhere, calendar_numbers}
use Rattle.format_bytes.proofs.Breaks.{IsDayNumber, flat_map-more}
use Rattle.format_bytes.proofs.Ranges.{is_natural_within, within}
use Rattle.format_bytes.proofs.Slots.{fit_joined, no_ends-rows_again, rows-again, rows_again-more}

pub flag_fits : (b : Bool) → IsTrue (is_between (pos 0) (pos 1) (flag_number b))
flag_fits true = refl
flag_fits false = refl

break_rows : (n : ℕ) → rows n first_and_last first_and_last ++ [] ≡ rows_again n first_and_last
break_rows n = append-nil (rows n first_and_last first_and_last) ∙ rows-again n first_and_last refl

pub calendar_fits : (x : CalendarFacts) → IsTrue (is_between (pos 2000) (pos 2099) (pos x.year)) → IsDayNumber (day_number x.first) → IsDayNumber (day_number x.last) → length x.breaks ≤ 8
    → FitAnywhere (rows_again (length x.breaks) first_and_last) (flat_map break_days x.breaks) → FitAnywhere calendar_slots (calendar_numbers x)
calendar_fits x year first last few fit earlier = (
  year,
  (
    is_natural_within 1 8 x.term x.in_range.0 x.in_range.1,
    (
      flag_fits x.extra,
      (
        first,
        (
          last,
          (
            is_natural_within 0 8 (length x.breaks) (omega arith) few,
            subst (λ (slots : List Slot). FitAnywhere slots (flat_map break_days x.breaks)) (sym (break_rows (length x.breaks))) fit (pos (length x.breaks) ∷ day_number x.last ∷ day_number x.first ∷ flag_number x.extra ∷ pos x.term ∷ pos x.year ∷ earlier),
          ),
        ),
      ),
    ),
  ),
)

-- one more break
pub record OneMore (breaks : List (ℕ × ℕ)) (i : ℕ) (d : ℕ × ℕ) : Type 0 where
  pub days : flat_map break_days (take (i + 1) breaks) ≡ flat_map break_days (take i breaks) ++ break_days d
  pub fit : FitAnywhere (rows_again (i + 1) first_and_last) (flat_map break_days (take (i + 1) breaks))

pub one_more : (breaks : List (ℕ × ℕ)) (i : ℕ) (d : ℕ × ℕ) → i < length breaks → d ≡ get_or breaks i d → IsDayNumber (day_number d.0) → IsDayNumber (day_number d.1)
    → FitAnywhere (rows_again i first_and_last) (flat_map break_days (take i breaks)) → OneMore breaks i d
one_more breaks i d lt is first last fit =
    let front = flat_map break_days (take i breaks) in
    let days : flat_map break_days (take (i + 1) breaks) ≡ front ++ break_days d =
    ap (flat_map break_days) (take_more breaks i d lt) ∙ flat_map-more (take i breaks) (get_or breaks i d) ∙ ap (λ (b : ℕ × ℕ). front ++ break_days b) (sym is) in
    let next : suc i ≡ i + 1 = omega arith in
    let both : FitAnywhere (rows_again i first_and_last ++ map plain first_and_last) (front ++ break_days d) = fit_joined (rows_again i first_and_last) (map plain first_and_last) front (break_days d) (no_ends-rows_again i first_and_last) fit (λ e. (first, (last, tt))) in
    let more : FitAnywhere (rows_again (i + 1) first_and_last) (front ++ break_days d) =
    subst (λ (n : ℕ). FitAnywhere (rows_again n first_and_last) (front ++ break_days d)) next (subst (λ (slots : List Slot). FitAnywhere slots (front ++ break_days d)) (rows_again-more i first_and_last) both) in
    record { days = days; fit = subst (λ (zs : List ℤ). FitAnywhere (rows_again (i + 1) first_and_last) zs) (sym days) more }

-- how many breaks the days are of
count : (breaks : List (ℕ × ℕ)) (n : ℕ) (earlier : List ℤ) → AreNumbers (rows_again n first_and_last) earlier (flat_map break_days breaks) → length breaks ≡ n
count [] zero earlier h = refl
count [] (suc n) earlier h = absurd h
count (b ∷ breaks) zero earlier h = absurd h
count (b ∷ breaks) (suc n) earlier h = ap suc (count breaks n (day_number b.1 ∷ day_number b.0 ∷ earlier) h.1.1)

abs_at_most : (n : ℕ) (z : ℤ) → IsTrue (is_between (pos 0) (pos n) z) → unsigned_abs z ≤ n
abs_at_most n z h = let w = within (pos 0) (pos n) z h in grind (arith, ints)

abs_is : (n : ℕ) (z : ℤ) → IsTrue (is_between (pos 0) (pos n) z) → pos (unsigned_abs z) ≡ z
abs_is n z h = let w = within (pos 0) (pos n) z h in grind (arith, ints)

pub break_fits : (zs : List ℤ) → 6 ≤ length zs → FitSomewhere calendar_slots zs → (n : ℕ) × (n ≤ 8) × FitSomewhere (rows_again n first_and_last) (drop 6 zs)
break_fits (a ∷ b ∷ c ∷ d ∷ e ∷ f ∷ days) len h = (
  unsigned_abs f,
  abs_at_most 8 f h.1.1.1.1.1.1.0,
  (f ∷ e ∷ d ∷ c ∷ b ∷ a ∷ h.0, subst (λ (slots : List Slot). AreNumbers slots (f ∷ e ∷ d ∷ c ∷ b ∷ a ∷ h.0) days) (break_rows (unsigned_abs f)) h.1.1.1.1.1.1.1),
)
break_fits zs len h = absurd (omega arith)

pub calendar_is : (zs : List ℤ) (year term : ℕ) (extra : Bool) (first last : ℕ) (breaks : List (ℕ × ℕ)) → 6 ≤ length zs → FitSomewhere calendar_slots zs
    → pos year ≡ slice_index_or zs 0 (pos 0) → pos term ≡ slice_index_or zs 1 (pos 0) → flag_number extra ≡ slice_index_or zs 2 (pos 0)
    → day_number first ≡ slice_index_or zs 3 (pos 0) → day_number last ≡ slice_index_or zs 4 (pos 0) → flat_map break_days breaks ≡ drop 6 zs
    → (pos year ∷ pos term ∷ flag_number extra ∷ day_number first ∷ day_number last ∷ pos (length breaks) ∷ flat_map break_days breaks) ≡ zs
calendar_is (a ∷ b ∷ c ∷ d ∷ e ∷ f ∷ days) year term extra first last breaks len h ya tb xc fd le rest =
    let earlier = f ∷ e ∷ d ∷ c ∷ b ∷ a ∷ h.0 in
    let n = unsigned_abs f in
    let fit : AreNumbers (rows_again n first_and_last) earlier days = subst (λ (slots : List Slot). AreNumbers slots earlier days) (break_rows n) h.1.1.1.1.1.1.1 in
    let many : length breaks ≡ n = count breaks n earlier (subst (λ (zs : List ℤ). AreNumbers (rows_again n first_and_last) earlier zs) (sym rest) fit) in
    let counted : pos (length breaks) ≡ f = ap (λ (n : ℕ). pos n) many ∙ abs_is 8 f h.1.1.1.1.1.1.0 in
    λ i. ya i ∷ tb i ∷ xc i ∷ fd i ∷ le i ∷ counted i ∷ rest i
calendar_is zs year term extra first last breaks len h ya tb xc fd le rest = absurd (omega arith)
