-- What an input makes of a list, from its parts.
use Rattle.std.proofs.Common.{◌≡◌, ◌<◌, ◌≤◌, ◌-◌, ◌++◌, ℕ, zero, suc, List, [], ◌∷◌, length, reverse, refl, sym, ap, ◌∙◌, arith, subst}
use Rattle.aid_filings.specs.declared.filing.Filing.{Filing}
use Rattle.aid_stamps.specs.declared.stamp.Stamp.{Stamp}
use Rattle.csv.specs.Reading.{default_config, records, strip_bom}
use Rattle.log_stamps.specs.Entries.{entries, stamped, stamps_of}
use Rattle.log_stamps.specs.StampedLaws.{entries-stamped}
use Rattle.log_stamps.specs.declared.entry.StampedEntry.{StampedEntry}
use Rattle.std.specs.Global.{Vec}
use Rattle.office_amends.specs.Amended.{amended}
use Rattle.office_amends.specs.Gathered.{Gathers, HasGathered}
use Rattle.office_amends.specs.Lines.{amended_line, errors_line, refused_total}
use Rattle.office_amends.specs.Plans.{Plans, Says, legal, not_legal, wrong_rows}
use Rattle.office_amends.specs.Stood.{Makes, stood}
use Rattle.office_amends.specs.Texts.{told}
use Rattle.office_amends.specs.declared.amending.Amended.{Amended}
use Rattle.office_amends.specs.declared.correction.Correction.{Correction}
use Rattle.office_amends.specs.declared.gathered.Gathered.{Gathered}
use Rattle.office_amends.specs.declared.plan.Amendment.TheVariants.{NotMade, Made}
use Rattle.office_amends.proofs.Whole.{all_stand, few_stand, stands_whole, whole_legal}

-- what rows say of filings with stamps
said : (history : List Filing) (stamps : List Stamp) (number : ℕ) (bytes : List ℕ) (fits : List Correction) (lines : List (List ℕ))
    → Gathers history number (records default_config (strip_bom bytes)) fits lines → Says (stamped history stamps) number bytes fits lines
said history stamps number bytes fits lines = subst (λ (past : List Filing). Gathers past number (records default_config (strip_bom bytes)) fits lines) (sym (entries-stamped history stamps))

-- without errors there are no lines
no_lines : (lines : List (List ℕ)) → length lines ≤ 0 → lines ≡ []
no_lines [] none = refl
no_lines (line ∷ lines) none = absurd (omega (arith, none))

module _ (history : List Filing) (stamps : List Stamp) (stamp : Stamp) (number : ℕ) (bytes : List ℕ) (g : Gathered)
    (has : HasGathered history number (records default_config (strip_bom bytes)) g) where
  -- rows are none
  pub wrong : (text : Vec ℕ) → 0 < g.errors → text.items ≡ g.text.items ++ errors_line g.errors → Plans (stamped history stamps) stamp number bytes (NotMade text)
  wrong text some is =
      wrong_rows g.fits.items has.lines text (said history stamps number bytes g.fits.items has.lines has.gathers) (omega (arith, some, has.errors))
      (is ∙ (λ i. has.text i ++ errors_line (has.errors i)))

  module _ (none : g.errors ≤ 0) (a : Amended) (makes : Makes (amended stamp g.fits.items (stamped history stamps)) (told stamp g.fits.items (stamped history stamps)) a) where
    abbrev list : List (StampedEntry Filing)
    list = amended stamp g.fits.items (stamped history stamps)

    fine : Says (stamped history stamps) number bytes g.fits.items []
    fine = subst (λ (lines : List (List ℕ)). Says (stamped history stamps) number bytes g.fits.items lines) (no_lines has.lines (omega (arith, none, has.errors)))
        (said history stamps number bytes g.fits.items has.lines has.gathers)

    length-entries : (l : List (StampedEntry Filing)) → length (entries l) ≡ length l
    length-entries [] = refl
    length-entries (e ∷ l) = omega (arith, length-entries l)

    front_is : (front : ℕ) → front ≡ length a.office.history → front ≡ length (stood list)
    front_is front is = is ∙ ap length makes.office ∙ length-entries (stood list)

    -- no more stand than there are
    pub fewer : (front : ℕ) → front ≡ length a.office.history → front ≤ a.position
    fewer front is = omega (arith, front_is front is, makes.position, few_stand list)

    -- filings don't stand
    pub refused : (front : ℕ) (text : Vec ℕ) → front ≡ length a.office.history → 0 < a.position - front → text.items ≡ a.text.items ++ refused_total (a.position - front)
        → Plans (stamped history stamps) stamp number bytes (NotMade text)
    refused front text is some written =
        not_legal g.fits.items text fine
        (λ yes. omega (arith, some, front_is front is, makes.position, ap length (stands_whole list yes)))
        (written ∙ (λ i. makes.told i ++ refused_total (makes.position i - front_is front is i)))

    -- all stand
    pub made : (front : ℕ) (b : Amended) → front ≡ length a.office.history → (0 < a.position - front → ⊥) → b.office ≡ a.office → b.stamps ≡ a.stamps
        → b.text.items ≡ a.text.items ++ amended_line a.position → Plans (stamped history stamps) stamp number bytes (Made b)
    made front b is whole office under written =
        let all : stood list ≡ list = all_stand list (let many : length list ≤ length (stood list) = lift in many) in
        legal g.fits.items b fine (whole_legal list all)
        (written ∙ (λ i. makes.told i ++ amended_line (makes.position i)))
        (ap (λ o. o.history) office ∙ makes.office ∙ ap entries all)
        (ap (λ s. s.items) under ∙ makes.stamps ∙ ap (λ (l : List (StampedEntry Filing)). reverse (stamps_of l)) all)
      where
        lift : length list ≤ length (stood list)
        lift = split_le (a.position - front) refl
          where
            split_le : (n : ℕ) → a.position - front ≡ n → length list ≤ length (stood list)
            split_le zero none = omega (arith, none, front_is front is, makes.position)
            split_le (suc n) more = absurd (whole (omega (arith, more)))
