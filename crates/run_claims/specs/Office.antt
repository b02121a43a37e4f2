-- The office of a journal's file, and its answer to a row. A history is read from its newest filing.
use Rattle.std.specs.Prelude.{◌≡◌, ◌≢◌, ◌⊎◌, ℕ, ◌+◌, false, IsTrue, List, [], ◌∷◌, ◌++◌, codes, length, decimal}
use Rattle.std.specs.List.{All}
use Rattle.std.specs.Int.{w32, to_le_bytes}
use Rattle.aid_types.specs.declared.award.Refusal.{Refusal}
use Rattle.aid_filings.specs.declared.filing.Filing.{Filing}
use Rattle.office_history.specs.Answer.{outcome_of}
use Rattle.log_stamps.specs.Entries.{entries}
use Rattle.log_stamps.specs.declared.entry.StampedEntry.{StampedEntry}
use Rattle.aid_stamps.specs.declared.stamp.Stamp.{Stamp}
use Rattle.run_claims.specs.Written.{CanBeKept, Files, stamped_bytes}
use Rattle.run_claims.specs.Rules.{AreAdmitted, may_follow}
use Rattle.format_filings.specs.Replies.{standing_text}
use Rattle.format_rows.specs.Lines.{refused_text}

-- records, the oldest first: an open gate, the length of what is kept of a filing in four bytes, and that
abbrev pub records_of : List (StampedEntry Filing) → List ℕ
records_of [] = []
records_of (e ∷ past) = records_of past ++ 1 ∷ to_le_bytes w32 (length (stamped_bytes e)) ++ stamped_bytes e

-- The file recovers this history: its header, the records, and then a gate that isn't open; what follows is free. Each filing
-- of the history can be filed under its stamp, and was admitted on those before it.
pub record Recovers (file : List ℕ) (history : List (StampedEntry Filing)) : Type 0 where
  pub gate : ℕ
  pub free : List ℕ
  pub closed : gate ≢ 1
  pub whole : file ≡ 1 ∷ codes "AIDPELL1" ++ 2 ∷ 0 ∷ 0 ∷ 0 ∷ 0 ∷ 0 ∷ 0 ∷ records_of history ++ gate ∷ free
  pub filed : All CanBeKept history
  pub admitted : AreAdmitted (entries history)

-- The line that answers a row, the row's number counting from 1, and the history after it.
pub data Answered (past : List Filing) (number : ℕ) (row : List (List ℕ)) : List ℕ → List Filing → Type 0 where
  -- its key is new and it may follow: it joins the history, and the line has its position and what it brought
  accepted : (f : Filing) → Files row f → All (λ g. g.key ≢ f.key) past → IsTrue (may_follow past f)
      → Answered past number row (standing_text number (length past) (codes " accepted ") (length past + 1) (outcome_of past f)) (f ∷ past)
  -- it stands already: the line has where, and what it brought then
  again : (f : Filing) (newer older : List Filing) → Files row f → past ≡ newer ++ f ∷ older
      → Answered past number row (standing_text number (length past) (codes " again ") (length older + 1) (outcome_of older f)) past
  -- it doesn't stand, and has another's key or may not follow
  refused : (f : Filing) (refusal : Refusal) → Files row f → All (λ g. g ≢ f) past → (All (λ g. g.key ≢ f.key) past → may_follow past f ≡ false)
      → Answered past number row (refused_text number (length past) refusal) past
  -- it files nothing
  unread : (field cause : ℕ) → ((f : Filing) → Files row f → ⊥)
      → Answered past number row (decimal number ++ codes " error " ++ decimal field ++ codes " " ++ decimal cause ++ codes "\n") past

-- The same of filings with stamps: what joins has this stamp, and what stood keeps its own. Stamps are no part of an answer.
abbrev pub AnsweredUnder : Stamp → List (StampedEntry Filing) → ℕ → List (List ℕ) → List ℕ → List (StampedEntry Filing) → Type 0
AnsweredUnder stamp past number row line after = Answered (entries past) number row line (entries after) × ((after ≡ past) ⊎ ((f : Filing) × (after ≡ record { entry = f; stamp = stamp } ∷ past)))
