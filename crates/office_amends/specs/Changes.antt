-- What differs between two lists, key by key, and the text that tells it. A list is read newest first. Own format.
use Rattle.std.specs.Prelude.{◌≡◌, ℕ, zero, suc, ◌+◌, ◌&&◌, Bool, if◌then◌else◌, List, [], ◌∷◌, ◌++◌, Option, Some, None, codes, decimal, length, reverse}
use Rattle.std.specs.List.{slice_get}
use Rattle.aid_filings.specs.declared.filing.Filing.{Filing}
use Rattle.aid_stamps.specs.contracts.stamp.StampPartialEq.TheImpl.{eq-value as stamp_eq}
use Rattle.format_filings.specs.WrittenRows.{row_text}
use Rattle.law_terms.specs.Days.{day_text}
use Rattle.log_stamps.specs.Entries.{entries}
use Rattle.log_stamps.specs.declared.entry.StampedEntry.{StampedEntry}
use Rattle.office_export.specs.Lines.{line_of as line}
use Rattle.office_history.specs.Past.{key_at, same_filing}
use Rattle.office_sheets.specs.Lists.{clerk_text}
use Rattle.office_amends.specs.declared.comparing.Comparison.{Comparison}

-- the entry at a position, which counts from 1 at the oldest
abbrev pub entry_in : List (StampedEntry Filing) → ℕ → Option (StampedEntry Filing)
entry_in past zero = None
entry_in past (suc i) = slice_get (reverse past) i

-- the same filing under the same stamp
abbrev pub is_same : StampedEntry Filing → StampedEntry Filing → Bool
is_same e f = same_filing e.entry f.entry && stamp_eq.it e.stamp f.stamp

-- SIDE POSITION DAY CLERK ROW
abbrev pub side_line : List ℕ → ℕ → StampedEntry Filing → List ℕ
side_line side position e = line (side ∷ decimal position ∷ day_text e.stamp.day ∷ clerk_text e.stamp.clerk ∷ row_text e.entry ∷ [])

-- the lines of the keys that differ, and how many keys don't and do
pub record Differences : Type 0 where
  pub text : List ℕ
  pub same : ℕ
  pub differ : ℕ

abbrev pub no_keys : Differences
no_keys = record { text = []; same = 0; differ = 0 }

abbrev pub with_same : Differences → Differences
with_same d = record { text = d.text; same = d.same + 1; differ = d.differ }

abbrev pub with_lines : Differences → List ℕ → Differences
with_lines d lines = record { text = d.text ++ lines; same = d.same; differ = d.differ + 1 }

-- the key of an entry of the old list at a position, by what the new list has under it at another
abbrev pub paired : Differences → ℕ → StampedEntry Filing → ℕ → Option (StampedEntry Filing) → Differences
paired d at e to None = with_lines d (side_line (codes "old") at e)
paired d at e to (Some f) = if is_same e f then with_same d else with_lines d (side_line (codes "old") at e ++ side_line (codes "new") to f)

-- the keys of the old list, the oldest first
abbrev pub of_old : List (StampedEntry Filing) → List (StampedEntry Filing) → Differences
of_old new [] = no_keys
of_old new (e ∷ past) =
    let to = key_at e.entry.key (entries new) in paired (of_old new past) (length past + 1) e to (entry_in new to)

-- the key of an entry of the new list at a position, where the old list hasn't it
abbrev pub alone : Differences → ℕ → StampedEntry Filing → Option (StampedEntry Filing) → Differences
alone d at e None = with_lines d (side_line (codes "new") at e)
alone d at e (Some f) = d

-- behind them the keys that only the new list has
abbrev pub of_new : List (StampedEntry Filing) → Differences → List (StampedEntry Filing) → Differences
of_new old d [] = d
of_new old d (e ∷ past) = alone (of_new old d past) (length past + 1) e (entry_in old (key_at e.entry.key (entries old)))

abbrev pub differences : List (StampedEntry Filing) → List (StampedEntry Filing) → Differences
differences old new = of_new old (of_old new old) new

-- same COUNT differ COUNT
abbrev pub counts_line : Differences → List ℕ
counts_line d = line (codes "same" ∷ decimal d.same ∷ codes "differ" ∷ decimal d.differ ∷ [])

-- the text: the lines of each key that differs, and how many keys are the same and how many differ
abbrev pub changes_text : List (StampedEntry Filing) → List (StampedEntry Filing) → List ℕ
changes_text old new = (differences old new).text ++ counts_line (differences old new)

-- what the code keeps of it
pub record HasCompared (d : Differences) (c : Comparison) : Type 0 where
  pub text : c.text.items ≡ d.text
  pub same : c.same ≡ d.same
  pub differ : c.differ ≡ d.differ
