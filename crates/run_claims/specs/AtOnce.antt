-- What the rows of many desks come to that file at once.
use Rattle.std.specs.Prelude.{◌≡◌, ◌≢◌, ◌⊎◌, ℕ, ◌+◌, ◌<◌, List, [], ◌∷◌, ◌++◌, codes, decimal, get_or, length, reverse}
use Rattle.aid_filings.specs.declared.filing.Filing.{Filing}
use Rattle.io_traits.specs.DiskState.{EachImage, EachMoment, DiskState}
use Rattle.run_claims.specs.Filed.{IsFault, Row}
use Rattle.run_claims.specs.Office.{AnsweredUnder, Recovers}
use Rattle.log_machine.specs.declared.names.RowName.{RowName}
use Rattle.log_lock.specs.Passes.{IsOlder}
use Rattle.run_claims.specs.Written.{Files}
use Rattle.aid_stamps.specs.Stamps.{plain_stamp}
use Rattle.aid_stamps.specs.declared.stamp.Stamp.{Stamp}
use Rattle.log_stamps.specs.declared.entry.StampedEntry.{StampedEntry}

-- what a desk files: its stamp, and its rows
abbrev pub DeskFiles : Type 0
DeskFiles = Stamp × List Row

-- Rows of a desk, the first of them with this number: each was answered on a history that goes on from the one that the desk had
-- seen, and that history with what the row adds is the older part of the closed one. `by` names one row for each filing, by how
-- many stood before it: a row that adds one is that row.
pub data Replies (by : ℕ → RowName) (desk : ℕ) (stamp : Stamp) (closed : List (StampedEntry Filing)) : ℕ → List Row → List (StampedEntry Filing) → List ℕ → Type 0 where
  none : (number : ℕ) (seen : List (StampedEntry Filing)) → Replies by desk stamp closed number [] seen []
  more : (number : ℕ) (row : Row) (rows : List Row) (seen past after : List (StampedEntry Filing)) (line text : List ℕ) → IsOlder seen past → AnsweredUnder stamp past number row line after
      → (length past < length after → by (length past) ≡ record { desk = desk; row = number }) → IsOlder after closed
      → Replies by desk stamp closed (number + 1) rows after text → Replies by desk stamp closed number (row ∷ rows) seen ((codes "desk " ++ decimal desk ++ codes " " ++ line) ++ text)

-- the lines of a desk: for each row, or for those in front of one at which it stopped by a fault; then the status isn't 0
pub record DeskText (by : ℕ → RowName) (desk : ℕ) (stamp : Stamp) (rows : List Row) (past closed : List (StampedEntry Filing)) (status : ℕ) (text : List ℕ) : Type 0 where
  pub answered : List Row
  pub left : List Row
  pub whole : rows ≡ answered ++ left
  pub lines : List ℕ
  pub stop : List ℕ
  pub written : text ≡ lines ++ stop
  pub replies : Replies by desk stamp closed 1 answered past lines
  pub stops : ((left ≡ []) × (stop ≡ [])) ⊎ ((status ≢ 0) × (line : List ℕ) × IsFault line [] × (stop ≡ codes "desk " ++ decimal desk ++ codes " " ++ decimal (length answered + 1) ++ codes " " ++ line))

-- the lines of all desks, in desk order, the first of them with this number
pub data DeskTexts (by : ℕ → RowName) (past closed : List (StampedEntry Filing)) (status : ℕ) : ℕ → List DeskFiles → List ℕ → Type 0 where
  none : (desk : ℕ) → DeskTexts by past closed status desk [] []
  more : (desk : ℕ) (input : DeskFiles) (inputs : List DeskFiles) (text texts : List ℕ) → DeskText by desk input.0 input.1 past closed status text
      → DeskTexts by past closed status (desk + 1) inputs texts → DeskTexts by past closed status desk (input ∷ inputs) (text ++ texts)

-- the stamp of the desk of a name, and the row that it is of: desks and rows are numbered from 1
abbrev pub row_at : List DeskFiles → RowName → Stamp × Row
row_at inputs by = let input = get_or ((plain_stamp, []) ∷ inputs) by.desk (plain_stamp, []) in (input.0, get_or ([] ∷ input.1) by.row [])

-- such a row files this, under that stamp
abbrev pub FilesUnder : Stamp × Row → StampedEntry Filing → Type 0
FilesUnder at e = Files at.1 e.entry × (e.stamp ≡ at.0)

-- A line `admitted POSITION D ROW` for each filing that was added behind so many, the oldest first: the row files it, and its own
-- line, among those of all desks, says that it was accepted there, or that its desk stopped at it with this position in doubt.
pub data Admitted (inputs : List DeskFiles) (lines : List ℕ) : ℕ → List (StampedEntry Filing) → List ℕ → Type 0 where
  none : (count : ℕ) → Admitted inputs lines count [] []
  more : (count : ℕ) (f : StampedEntry Filing) (fs : List (StampedEntry Filing)) (by : RowName) (text front words behind : List ℕ) → FilesUnder (row_at inputs by) f
      → lines ≡ front ++ (codes "desk " ++ decimal by.desk ++ codes " " ++ decimal by.row ++ codes " " ++ words) ++ behind
      → (words ≡ decimal count ++ codes " accepted " ++ decimal (count + 1) ++ codes " ") ⊎ (words ≡ codes "fault disk " ++ decimal (count + 1) ++ codes "\n") → Admitted inputs lines (count + 1) fs text
      → Admitted inputs lines count (f ∷ fs) ((codes "admitted " ++ decimal (count + 1) ++ codes " " ++ decimal by.desk ++ codes " " ++ decimal by.row ++ codes "\n") ++ text)

-- a file recovers a history that goes on from one and is an older part of another; or, where the status isn't 0, all of that and the
-- filing of one row more
abbrev pub OnTheWay : List DeskFiles → List (StampedEntry Filing) → List (StampedEntry Filing) → ℕ → List ℕ → Type 0
OnTheWay inputs past closed status file = ((history : List (StampedEntry Filing)) × IsOlder past history × IsOlder history closed × Recovers file history)
    ⊎ ((status ≢ 0) × (f : StampedEntry Filing) × (by : RowName) × FilesUnder (row_at inputs by) f × Recovers file (f ∷ closed))

-- A run of many desks on a file that recovers a history: nothing was filed, or what the desks' rows added joins the history. At each moment
-- each image is on the way there. At the end each recovers it, or, where the status isn't 0, it and the filing of one row more. The text is
-- cut short only where the status is 4.
pub data RanAtOnce (inputs : List DeskFiles) (past : List (StampedEntry Filing)) (old new : DiskState) : List ℕ → ℕ → Type 0 where
  idle : (text cut : List ℕ) (status : ℕ) → IsFault text cut → (status ≢ 0) × (status ≢ 6) × (status ≢ 7) → EachMoment old new (λ file. Recovers file past) → RanAtOnce inputs past old new text status
  filed : (by : ℕ → RowName) (added : List (StampedEntry Filing)) (lines admitted text cut : List ℕ) (status : ℕ) → DeskTexts by past (added ++ past) status 1 inputs lines → Admitted inputs lines (length past) (reverse added) admitted
      → text ++ cut ≡ lines ++ admitted → (status ≢ 4 → cut ≡ []) → (status ≢ 6) × (status ≢ 7)
      → EachMoment old new (OnTheWay inputs past (added ++ past) status)
      → EachImage new (λ file. Recovers file (added ++ past) ⊎ ((status ≢ 0) × (f : StampedEntry Filing) × (by : RowName) × FilesUnder (row_at inputs by) f × Recovers file (f ∷ added ++ past)))
      → RanAtOnce inputs past old new text status
