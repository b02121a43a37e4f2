-- What a desk's rows come to that are filed one after the other, and what a crash leaves at every moment of it.
use Rattle.std.specs.Prelude.{◌≡◌, ◌≢◌, ◌⊎◌, ℕ, ◌+◌, ◌==◌, ◌||◌, nat_lt, IsTrue, List, [], ◌∷◌, ◌++◌, codes, decimal, flat_map, length}
use Rattle.std.specs.List.{list_all}
use Rattle.csv.specs.Reading.{default_config, records, strip_bom}
use Rattle.aid_filings.specs.declared.filing.Filing.{Filing}
use Rattle.io_traits.specs.DiskState.{EachImage, EachMoment, DiskState}
use Rattle.io_traits.specs.declared.disk.Disk.{Ghosts}
use Rattle.run_claims.specs.Office.{AnsweredUnder, Recovers}
use Rattle.aid_stamps.specs.declared.stamp.Stamp.{Stamp}
use Rattle.log_stamps.specs.declared.entry.StampedEntry.{StampedEntry}

-- a row of a text: its fields
abbrev pub Row : Type 0
Row = List (List ℕ)

-- the rows of a text: the records of comma-separated values, of any length, without a header, behind a byte order mark if one stands first
abbrev pub rows_in : List ℕ → List Row
rows_in text = records default_config (strip_bom text)

-- from one state of the disk to another each image at each moment recovers one of the two histories
abbrev pub Between : List (StampedEntry Filing) → List (StampedEntry Filing) → DiskState → DiskState → Type 0
Between past after old new = EachMoment old new (λ file. Recovers file past ⊎ Recovers file after)

-- Rows are answered one after the other under one stamp, the first of them with this number: their lines, the history after them, and the disk.
-- After a row's turn each image recovers the history with what the row adds, and so it does at every moment after that.
pub data Answers {D : Type 0} (disk : Ghosts D) (stamp : Stamp) : ℕ → List Row → List (StampedEntry Filing) → List (StampedEntry Filing) → List ℕ → D → D → Type 0 where
  none : (number : ℕ) (past : List (StampedEntry Filing)) (at : D) → Answers disk stamp number [] past past [] at at
  more : (number : ℕ) (row : Row) (rows : List Row) (past mid last : List (StampedEntry Filing)) (line text : List ℕ) (old at new : D)
      → AnsweredUnder stamp past number row line mid → Between past mid (disk.tells old) (disk.tells at) → EachImage (disk.tells at) (λ file. Recovers file mid)
      → Answers disk stamp (number + 1) rows mid last text at new → Answers disk stamp number (row ∷ rows) past last (line ++ text) old new

-- a text that, with what is cut from it, is a line that says what failed: words, spaces between them, and behind them a number where they need one
abbrev pub IsFault : List ℕ → List ℕ → Type 0
IsFault text cut = (words numbers : List ℕ) × IsTrue (list_all (λ c. nat_lt 57 c || c == 32) words) × (text ++ cut ≡ codes "fault " ++ words ++ flat_map decimal numbers ++ codes "\n")

-- What comes behind the rows that were answered: nothing more, or the turn of one row more, whose line isn't written, or not all of it.
pub data Stops (stamp : Stamp) (past : List (StampedEntry Filing)) (number : ℕ) (old new : DiskState) : List Row → List ℕ → Type 0 where
  between : (rows : List Row) (text cut : List ℕ) → IsFault text cut → EachMoment old new (λ file. Recovers file past) → Stops stamp past number old new rows text
  within : (row : Row) (rows : List Row) (line text cut : List ℕ) (after : List (StampedEntry Filing)) → AnsweredUnder stamp past number row line after → Between past after old new
      → IsFault text cut ⊎ ((text ++ cut ≡ line) × (cut ≢ [])) → Stops stamp past number old new (row ∷ rows) text

-- A run over rows: the journal is opened, some rows in front are answered, all of them where the status is 0, and the run stops.
-- A file that recovers a history is never refused by the statuses 6 and 7.
pub record HasFiled {D : Type 0} (disk : Ghosts D) (stamp : Stamp) (rows : List Row) (past : List (StampedEntry Filing)) (text : List ℕ) (status : ℕ) (old new : D) : Type 0 where
  pub answered : List Row
  pub left : List Row
  pub whole : rows ≡ answered ++ left
  pub last : List (StampedEntry Filing)
  pub lines : List ℕ
  pub stop : List ℕ
  pub written : text ≡ lines ++ stop
  pub opened : D
  pub filed : D
  pub opens : EachMoment (disk.tells old) (disk.tells opened) (λ file. Recovers file past)
  pub answers : Answers disk stamp 1 answered past last lines opened filed
  pub stops : Stops stamp last (length answered + 1) (disk.tells filed) (disk.tells new) left stop
  pub done : status ≡ 0 → (left ≡ []) × (stop ≡ [])
  pub allowed : (status ≢ 6) × (status ≢ 7)
