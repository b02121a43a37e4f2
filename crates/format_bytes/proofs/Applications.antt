-- The numbers of an application, by its parts.
use Rattle.std.proofs.Common.{◌≡◌, ℕ, ℤ, pos, neg_ℤ, List, [], ◌∷◌, ◌++◌, codes, length, drop, take, refl, sym, ap, ◌∙◌, arith}
use Rattle.std.specs.Prelude.{Bool, true, false, IsTrue, map, slice_index_or}
use Rattle.std.proofs.Common.{FitsSigned, subst, to_z, of_z, w64}
use Rattle.std.specs.Int.{w32}
use Rattle.std.proofs.lemmas.Int.{ints}
use Rattle.std.proofs.lemmas.List.{take-append-drop}
use Rattle.aid_types.specs.Ranges.{IsAmount, IsSignedAmount, IsWithin}
use Rattle.aid_types.specs.declared.application.Application.{Application}
use Rattle.aid_types.specs.declared.application.Side.{Side}
use Rattle.format_kinds.specs.Kinds.{apply_slots, household_slots}
use Rattle.format_table.specs.Limits.{is_between}
use Rattle.format_bytes.specs.Numbers.{application_numbers, flag_number, side_numbers}
use Rattle.format_bytes.specs.Parts.{FitAnywhere, FitSomewhere, applicant_numbers, applicant_slots, flag_slots, parents_numbers, parents_slots, standing_numbers, standing_slots, upbringing_numbers, upbringing_slots}
use Rattle.format_bytes.proofs.Calendars.{flag_fits}
use Rattle.format_bytes.proofs.Ranges.{is_natural_within, is_within, within}
use Rattle.format_bytes.proofs.Slots.{as_many, fit_joined, fit_parted, same_limits}

amount_fits : (z : ℤ) → IsAmount z → IsTrue (is_between (pos 0) (pos 99999999) z)
amount_fits z h = is_within (pos 0) (pos 99999999) z h.0 h.1

signed_fits : (z : ℤ) → IsSignedAmount z → IsTrue (is_between (neg_ℤ (pos 99999999)) (pos 99999999) z)
signed_fits z h = is_within (neg_ℤ (pos 99999999)) (pos 99999999) z h.0 h.1

side_fits : (x : Side) → FitAnywhere (household_slots []) (side_numbers x)
side_fits x earlier = let r = x.in_range in (
  signed_fits x.agi r.0,
  (
    amount_fits x.ira r.1,
    (
      amount_fits x.interest r.2,
      (
        amount_fits x.ira_untaxed r.3,
        (
          amount_fits x.pension r.4,
          (
            amount_fits x.foreign r.5,
            (
              amount_fits x.grants r.6,
              (
                amount_fits x.credits r.7,
                (
                  amount_fits x.work_study r.8,
                  (
                    signed_fits x.tax r.9,
                    (
                      amount_fits x.earned_first r.10,
                      (
                        amount_fits x.earned_second r.11,
                        (amount_fits x.support r.12, (amount_fits x.cash r.13, (amount_fits x.investments r.14, (amount_fits x.business r.15, tt)))),
                      ),
                    ),
                  ),
                ),
              ),
            ),
          ),
        ),
      ),
    ),
  ),
)

standing_fits : (x : Application) → FitAnywhere standing_slots (standing_numbers x)
standing_fits x earlier = (flag_fits x.married, (flag_fits x.graduate, (flag_fits x.bachelor, (flag_fits x.veteran, (flag_fits x.dependents, tt)))))

upbringing_fits : (x : Application) → FitAnywhere upbringing_slots (upbringing_numbers x)
upbringing_fits x earlier = (flag_fits x.orphan, (flag_fits x.ward, (flag_fits x.foster, (flag_fits x.emancipated, (flag_fits x.homeless, (flag_fits x.student_file, tt))))))

parents_fits : (x : Application) → FitAnywhere parents_slots (parents_numbers x)
parents_fits x earlier = (flag_fits x.parents_married, (flag_fits x.parents_file, (is_natural_within 0 120 x.parent_age x.in_range.3.0 x.in_range.3.1, tt)))

pub application_fits : (x : Application) → FitAnywhere applicant_slots (applicant_numbers x) → FitAnywhere apply_slots (application_numbers x)
application_fits x h =
    let parents = fit_joined parents_slots (household_slots (codes "parent_")) (parents_numbers x) (side_numbers x.parents) refl (parents_fits x) (side_fits x.parents) in
    let own = fit_joined (household_slots []) (drop 33 apply_slots) (side_numbers x.own) (parents_numbers x ++ side_numbers x.parents) refl (side_fits x.own) parents in
    let upbringing = fit_joined upbringing_slots (drop 17 apply_slots) (upbringing_numbers x) (side_numbers x.own ++ (parents_numbers x ++ side_numbers x.parents)) refl (upbringing_fits x) own in
    let standing = fit_joined standing_slots (drop 11 apply_slots) (standing_numbers x) (upbringing_numbers x ++ (side_numbers x.own ++ (parents_numbers x ++ side_numbers x.parents))) refl (standing_fits x) upbringing in
    fit_joined applicant_slots (drop 6 apply_slots) (applicant_numbers x) (standing_numbers x ++ (upbringing_numbers x ++ (side_numbers x.own ++ (parents_numbers x ++ side_numbers x.parents)))) refl h standing

-- ---- the parts of the list of an application's numbers
abbrev pub behind_applicant : List ℤ → List ℤ
behind_applicant zs = drop 6 zs

abbrev pub behind_standing : List ℤ → List ℤ
behind_standing zs = drop 5 (behind_applicant zs)

abbrev pub behind_upbringing : List ℤ → List ℤ
behind_upbringing zs = drop 6 (behind_standing zs)

abbrev pub behind_own : List ℤ → List ℤ
behind_own zs = drop 16 (behind_upbringing zs)

abbrev pub behind_said : List ℤ → List ℤ
behind_said zs = drop 3 (behind_own zs)

pub record HasParts (zs : List ℤ) : Type 0 where
  pub many : length zs ≡ 52
  pub applicant : FitSomewhere applicant_slots (take 6 zs)
  pub standing : FitSomewhere (flag_slots 5) (take 5 (behind_applicant zs))
  pub upbringing : FitSomewhere (flag_slots 6) (take 6 (behind_standing zs))
  pub own : FitSomewhere (household_slots []) (take 16 (behind_upbringing zs))
  pub said : FitSomewhere parents_slots (take 3 (behind_own zs))
  pub parents : FitSomewhere (household_slots []) (behind_said zs)
  pub whole : take 6 zs ++ (take 5 (behind_applicant zs) ++ (take 6 (behind_standing zs) ++ (take 16 (behind_upbringing zs) ++ (take 3 (behind_own zs) ++ behind_said zs)))) ≡ zs

pub parts_of : (zs : List ℤ) → FitSomewhere apply_slots zs → HasParts zs
parts_of zs h =
    let a = fit_parted 6 apply_slots zs refl h in
    let b = fit_parted 5 (drop 6 apply_slots) (behind_applicant zs) refl a.1 in
    let c = fit_parted 6 (drop 11 apply_slots) (behind_standing zs) refl b.1 in
    let d = fit_parted 16 (drop 17 apply_slots) (behind_upbringing zs) refl c.1 in
    let e = fit_parted 3 (drop 33 apply_slots) (behind_own zs) refl d.1 in
    record {
      many = as_many apply_slots h.0 zs refl h.1;
      applicant = a.0;
      standing = (b.0.0, same_limits standing_slots (flag_slots 5) b.0.0 (take 5 (behind_applicant zs)) refl refl refl b.0.1);
      upbringing = (c.0.0, same_limits upbringing_slots (flag_slots 6) c.0.0 (take 6 (behind_standing zs)) refl refl refl c.0.1);
      own = d.0;
      said = e.0;
      parents = (e.1.0, same_limits (household_slots (codes "parent_")) (household_slots []) e.1.0 (behind_said zs) refl refl refl e.1.1);
      whole =
          ap (λ (ys : List ℤ). take 6 zs ++ (take 5 (behind_applicant zs) ++ (take 6 (behind_standing zs) ++ (take 16 (behind_upbringing zs) ++ ys)))) (take-append-drop 3 (behind_own zs))
          ∙ ap (λ (ys : List ℤ). take 6 zs ++ (take 5 (behind_applicant zs) ++ (take 6 (behind_standing zs) ++ ys))) (take-append-drop 16 (behind_upbringing zs))
          ∙ ap (λ (ys : List ℤ). take 6 zs ++ (take 5 (behind_applicant zs) ++ ys)) (take-append-drop 6 (behind_standing zs))
          ∙ ap (λ (ys : List ℤ). take 6 zs ++ ys) (take-append-drop 5 (behind_applicant zs))
          ∙ take-append-drop 6 zs;
    }

-- ---- the numbers of a household as machine words
abbrev pub word : ℤ → ℤ
word z = to_z w64 (of_z w64 z)

-- an amount takes 32 bits
abbrev pub half : ℤ → ℤ
half z = to_z w32 (of_z w32 z)

signed_half : (z : ℤ) → IsSignedAmount z → half z ≡ z
signed_half z h = omega (arith, ints)

amount_half : (z : ℤ) → IsAmount z → half z ≡ z
amount_half z h = omega (arith, ints)

pub side_halves : (x : Side) →
    (half x.agi ∷ half x.ira ∷ half x.interest ∷ half x.ira_untaxed ∷ half x.pension ∷ half x.foreign ∷ half x.grants ∷ half x.credits ∷ half x.work_study ∷ half x.tax
    ∷ half x.earned_first ∷ half x.earned_second ∷ half x.support ∷ half x.cash ∷ half x.investments ∷ half x.business ∷ []) ≡ side_numbers x
side_halves x = let r = x.in_range in λ i.
    signed_half x.agi r.0 i ∷ amount_half x.ira r.1 i ∷ amount_half x.interest r.2 i ∷ amount_half x.ira_untaxed r.3 i ∷ amount_half x.pension r.4 i ∷ amount_half x.foreign r.5 i
    ∷ amount_half x.grants r.6 i ∷ amount_half x.credits r.7 i ∷ amount_half x.work_study r.8 i ∷ signed_half x.tax r.9 i ∷ amount_half x.earned_first r.10 i
    ∷ amount_half x.earned_second r.11 i ∷ amount_half x.support r.12 i ∷ amount_half x.cash r.13 i ∷ amount_half x.investments r.14 i ∷ amount_half x.business r.15 i ∷ []

pub flag_word : (z : ℤ) (b : Bool) → z ≡ flag_number b → word z ≡ flag_number b
flag_word z true e = ap word e
flag_word z false e = ap word e

-- flags in an array
pub five_flags : (bs : List Bool) → length bs ≡ 5 → map flag_number bs
    ≡ (flag_number (slice_index_or bs 0 false) ∷ flag_number (slice_index_or bs 1 false) ∷ flag_number (slice_index_or bs 2 false) ∷ flag_number (slice_index_or bs 3 false)
    ∷ flag_number (slice_index_or bs 4 false) ∷ [])
five_flags (a ∷ b ∷ c ∷ d ∷ e ∷ []) len = refl
five_flags bs len = absurd (omega arith)

pub six_flags : (bs : List Bool) → length bs ≡ 6 → map flag_number bs
    ≡ (flag_number (slice_index_or bs 0 false) ∷ flag_number (slice_index_or bs 1 false) ∷ flag_number (slice_index_or bs 2 false) ∷ flag_number (slice_index_or bs 3 false)
    ∷ flag_number (slice_index_or bs 4 false) ∷ flag_number (slice_index_or bs 5 false) ∷ [])
six_flags (a ∷ b ∷ c ∷ d ∷ e ∷ f ∷ []) len = refl
six_flags bs len = absurd (omega arith)

-- a number of a list as the code reads it, and cast to an amount
abbrev pub read_at : List ℤ → ℕ → ℤ
read_at zs k = word (slice_index_or zs k (pos 0))

abbrev pub cast_at : List ℤ → ℕ → ℤ
cast_at zs k = half (read_at zs k)

abbrev CastAt : List ℤ → ℕ → Type 0
CastAt zs k = FitsSigned w32 (read_at zs k)

pub record IsSide (zs : List ℤ) : Type 0 where
  pub casts : CastAt zs 0 × CastAt zs 1 × CastAt zs 2 × CastAt zs 3 × CastAt zs 4 × CastAt zs 5 × CastAt zs 6 × CastAt zs 7 × CastAt zs 8 × CastAt zs 9 × CastAt zs 10
      × CastAt zs 11 × CastAt zs 12 × CastAt zs 13 × CastAt zs 14 × CastAt zs 15
  pub ranges : IsSignedAmount (cast_at zs 0) × IsAmount (cast_at zs 1) × IsAmount (cast_at zs 2) × IsAmount (cast_at zs 3) × IsAmount (cast_at zs 4) × IsAmount (cast_at zs 5)
      × IsAmount (cast_at zs 6) × IsAmount (cast_at zs 7) × IsAmount (cast_at zs 8) × IsSignedAmount (cast_at zs 9) × IsAmount (cast_at zs 10) × IsAmount (cast_at zs 11)
      × IsAmount (cast_at zs 12) × IsAmount (cast_at zs 13) × IsAmount (cast_at zs 14) × IsAmount (cast_at zs 15)
  pub whole :
      (cast_at zs 0 ∷ cast_at zs 1 ∷ cast_at zs 2 ∷ cast_at zs 3 ∷ cast_at zs 4 ∷ cast_at zs 5 ∷ cast_at zs 6 ∷ cast_at zs 7 ∷ cast_at zs 8 ∷ cast_at zs 9 ∷ cast_at zs 10
      ∷ cast_at zs 11 ∷ cast_at zs 12 ∷ cast_at zs 13 ∷ cast_at zs 14 ∷ cast_at zs 15 ∷ []) ≡ zs

record IsCast (low high z : ℤ) : Type 0 where
  cast : FitsSigned w32 (word z)
  same : half (word z) ≡ z
  range : IsWithin low high (half (word z))

amount_cast : (z : ℤ) → IsAmount z → IsCast (pos 0) (pos 99999999) z
amount_cast z h = let same : half (word z) ≡ z = omega (arith, ints) in record { cast = omega (arith, ints); same = same; range = subst IsAmount (sym same) h }

signed_cast : (z : ℤ) → IsSignedAmount z → IsCast (neg_ℤ (pos 99999999)) (pos 99999999) z
signed_cast z h = let same : half (word z) ≡ z = omega (arith, ints) in record { cast = omega (arith, ints); same = same; range = subst IsSignedAmount (sym same) h }

amount_read : (z : ℤ) → IsTrue (is_between (pos 0) (pos 99999999) z) → IsCast (pos 0) (pos 99999999) z
amount_read z h = amount_cast z (within (pos 0) (pos 99999999) z h)

signed_read : (z : ℤ) → IsTrue (is_between (neg_ℤ (pos 99999999)) (pos 99999999) z) → IsCast (neg_ℤ (pos 99999999)) (pos 99999999) z
signed_read z h = signed_cast z (within (neg_ℤ (pos 99999999)) (pos 99999999) z h)

side_by : (zs : List ℤ) → FitSomewhere (household_slots []) zs → length zs ≡ 16 → IsSide zs
side_by (a ∷ b ∷ c ∷ d ∷ e ∷ f ∷ g ∷ h ∷ k ∷ l ∷ m ∷ n ∷ o ∷ p ∷ q ∷ r ∷ []) fit len =
    let t = fit.1 in
    let ra = signed_read a t.0 in
    let rb = amount_read b t.1.0 in
    let rc = amount_read c t.1.1.0 in
    let rd = amount_read d t.1.1.1.0 in
    let re = amount_read e t.1.1.1.1.0 in
    let rf = amount_read f t.1.1.1.1.1.0 in
    let rg = amount_read g t.1.1.1.1.1.1.0 in
    let rh = amount_read h t.1.1.1.1.1.1.1.0 in
    let rk = amount_read k t.1.1.1.1.1.1.1.1.0 in
    let rl = signed_read l t.1.1.1.1.1.1.1.1.1.0 in
    let rm = amount_read m t.1.1.1.1.1.1.1.1.1.1.0 in
    let rn = amount_read n t.1.1.1.1.1.1.1.1.1.1.1.0 in
    let ro = amount_read o t.1.1.1.1.1.1.1.1.1.1.1.1.0 in
    let rp = amount_read p t.1.1.1.1.1.1.1.1.1.1.1.1.1.0 in
    let rq = amount_read q t.1.1.1.1.1.1.1.1.1.1.1.1.1.1.0 in
    let rr = amount_read r t.1.1.1.1.1.1.1.1.1.1.1.1.1.1.1.0 in
    record {
      casts = (ra.cast, rb.cast, rc.cast, rd.cast, re.cast, rf.cast, rg.cast, rh.cast, rk.cast, rl.cast, rm.cast, rn.cast, ro.cast, rp.cast, rq.cast, rr.cast);
      ranges = (ra.range, rb.range, rc.range, rd.range, re.range, rf.range, rg.range, rh.range, rk.range, rl.range, rm.range, rn.range, ro.range, rp.range, rq.range, rr.range);
      whole = λ i.
          ra.same i ∷ rb.same i ∷ rc.same i ∷ rd.same i ∷ re.same i ∷ rf.same i ∷ rg.same i ∷ rh.same i ∷ rk.same i ∷ rl.same i ∷ rm.same i ∷ rn.same i ∷ ro.same i ∷ rp.same i
          ∷ rq.same i ∷ rr.same i ∷ [];
    }
side_by zs fit len = absurd (omega arith)

pub side_is : (zs : List ℤ) → FitSomewhere (household_slots []) zs → IsSide zs
side_is zs fit = side_by zs fit (as_many (household_slots []) fit.0 zs refl fit.1)
