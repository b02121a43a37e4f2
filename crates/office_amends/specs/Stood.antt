-- The entries of a list that stand when each is filed behind those that stand.
use Rattle.std.specs.Prelude.{◌≡◌, ℕ, List, [], ◌∷◌, length, reverse}
use Rattle.aid_filings.specs.declared.filing.Filing.{Filing}
use Rattle.aid_filings.specs.declared.reply.Response.{Response}
use Rattle.aid_filings.specs.declared.reply.Response.TheVariants.{Admit}
use Rattle.log_stamps.specs.Entries.{entries, stamps_of}
use Rattle.log_stamps.specs.declared.entry.StampedEntry.{StampedEntry}
use Rattle.office_history.specs.Answer.{answer_of}
use Rattle.office_amends.specs.declared.amending.Amended.{Amended}

-- an entry stands where it is admitted
abbrev pub stood_by : Response → StampedEntry Filing → List (StampedEntry Filing) → List (StampedEntry Filing)
stood_by (Admit outcome) e kept = e ∷ kept
stood_by _ e kept = kept

abbrev pub stood : List (StampedEntry Filing) → List (StampedEntry Filing)
stood [] = []
stood (e ∷ list) = stood_by (answer_of (entries (stood list)) e.entry) e (stood list)

-- the answer to an entry behind a list of which those stand that stand
abbrev pub answer_behind : List (StampedEntry Filing) → Filing → Response
answer_behind list f = answer_of (entries (stood list)) f

-- what was made of a list so far: an office of the entries that stand, their stamps, and how many entries there are
pub record Makes (list : List (StampedEntry Filing)) (text : List ℕ) (a : Amended) : Type 0 where
  pub office : a.office.history ≡ entries (stood list)
  pub stamps : a.stamps.items ≡ reverse (stamps_of (stood list))
  pub told : a.text.items ≡ text
  pub position : a.position ≡ length list
