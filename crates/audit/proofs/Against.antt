-- Good lines to the end, held against a note.
use Rattle.std.proofs.Common.{◌≡◌, ◌∙◌, ℕ, sym, ap, List, length, take, reverse, Option, Some, None}
use Rattle.std.proofs.lemmas.List.{length-reverse}
use Rattle.aid_filings.specs.declared.filing.Filing.{Filing}
use Rattle.aid_seals.specs.declared.seal.Seal.{Seal}
use Rattle.aid_stamps.specs.declared.stamp.Stamp.{Stamp}
use Rattle.office_export.specs.Seals.{office_seal}
use Rattle.audit.specs.Findings.{Finds, FindsBy, front_seal, yes_of, bad, unnoted}
use Rattle.audit.specs.Laws.{front_of}
use Rattle.audit.specs.Steps.{Keeps, Told}
use Rattle.audit.specs.declared.finding.Finding.TheVariants.{Yes, No}
use Rattle.audit.specs.declared.good_lines.GoodLines.{GoodLines}
use Rattle.audit.specs.declared.note.Note.{Note}
use Rattle.audit.proofs.Fronts.{front_of-reverse, front_seal-is}

-- the filings and stamps that the code keeps, the oldest first, and their seals
module _ {L : Type 0} (filings_of : L → List Filing) (lines : GoodLines L) (told : Told) (keeps : Keeps filings_of lines told) (fs : List Filing) (ss : List Stamp) (same_fs : reverse fs ≡ filings_of lines.list) (same_ss : ss ≡ lines.stamps.items) where
  pub held_count : length fs ≡ length told.past
  held_count = sym (length-reverse fs) ∙ ap (λ (l : List Filing). length l) (same_fs ∙ keeps.past)

  held_stamps : reverse ss ≡ told.stamps
  held_stamps = ap (λ (l : List Stamp). reverse l) same_ss ∙ keeps.stamps

  held_seal : office_seal (reverse fs) (reverse ss) ≡ office_seal told.past told.stamps
  held_seal = λ i. office_seal ((same_fs ∙ keeps.past) i) (held_stamps i)

  pub held_front : (n : ℕ) → length told.stamps ≡ length told.past → office_seal (reverse (take n fs)) (reverse (take n ss)) ≡ front_seal n told.past told.stamps
  held_front n paired =
      (λ i. office_seal (sym (front_of-reverse n fs) i) (sym (front_of-reverse n ss) i))
      ∙ (λ i. office_seal (front_of n ((same_fs ∙ keeps.past) i)) (front_of n (held_stamps i)))
      ∙ sym (front_seal-is n told.past told.stamps paired)

  pub held_yes : (seal : Seal) → seal.bytes ≡ office_seal (reverse fs) (reverse ss) → yes_of told.past told.stamps told.asked ≡ Yes (length fs) lines.standings seal
  held_yes seal is = λ i. Yes (sym held_count i) (sym keeps.standings i) (record { bytes = sym (is ∙ held_seal) i })

-- a bad line is one whatever was noted
pub bad_by : (most : ℕ) (lines : List (List ℕ)) (by : Option Note) (line cause : ℕ) → Finds most lines (No line cause) → FindsBy most lines by (No line cause)
bad_by most lines None line cause finds = unnoted (No line cause) finds
bad_by most lines (Some note) line cause finds = bad note line cause finds
