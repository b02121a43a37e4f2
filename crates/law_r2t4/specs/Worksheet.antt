-- The return of Title IV funds after a withdrawal (HEA 484B; 34 CFR 668.22(e) to (i)). Percents are in tenths of a percent,
-- amounts in cents, lists by program in the order of returns: Unsub, Sub, Plus, Pell, FSEOG, TEACH.
use Rattle.std.specs.Prelude.{ℕ, ◌+◌, ◌-◌, ◌*◌, ◌≤◌, min, nat_lt, nat_le, List, [], ◌∷◌, sum, slice_index, if◌then◌else◌}
use Rattle.aid_types.specs.Nearest.{half_up}
use Rattle.aid_types.specs.Programs.{minus, rank}
use Rattle.aid_types.specs.Ranges.{EachIsCents}
use Rattle.aid_types.specs.declared.number.Program.TheVariants.{Pell, Fseog, Teach}
use Rattle.law_r2t4.specs.declared.Inputs.{Inputs}
use Rattle.law_r2t4.specs.declared.Lines.{Lines}

-- what a worksheet is worked out for: days of one term, and amounts below a million dollars
pub record AreInputsInRange (i : Inputs) : Type 0 where
  pub begun : 1 ≤ i.completed
  pub inside : i.completed ≤ i.total
  pub charges : i.charges ≤ 99999999
  pub net : EachIsCents i.net
  pub could : EachIsCents i.could

-- the percent of the term that was completed: all of it past 60 percent of the days, which is tested on the days themselves
unfoldable pub percent_earned : ℕ → ℕ → ℕ
percent_earned completed total =
    if nat_lt (6 * total) (10 * completed) then 1000 else half_up (1000 * completed) total

-- what is to be given back, spread over the programs in their order, each up to its own amount
abbrev pub spread : ℕ → List ℕ → List ℕ
spread left [] = []
spread left (n ∷ ns) = min n left ∷ spread (left - n) ns

-- What the student repays of a grant: what was laid on it less half of all of it that was or could have been disbursed, and
-- nothing where that is at most 50 dollars (34 CFR 668.22(h)(3)). By program, which is the office's own.
abbrev pub grant_owed : ℕ → ℕ → ℕ
grant_owed laid half = if nat_le (laid - half) 5000 then 0 else laid - half

abbrev pub owed_of : List ℕ → List ℕ → List ℕ → ℕ → ℕ
owed_of laid net could p = grant_owed (slice_index laid p) (half_up (slice_index net p + slice_index could p) 2)

-- the same by program, 0 of each loan
abbrev pub owed_by_program : List ℕ → List ℕ → List ℕ → List ℕ
owed_by_program laid net could =
    0 ∷ 0 ∷ 0 ∷ owed_of laid net could (rank Pell) ∷ owed_of laid net could (rank Fseog) ∷ owed_of laid net could (rank Teach) ∷ []

-- the worksheet, line by line
unfoldable pub worksheet_of : ℕ → ℕ → ℕ → List ℕ → List ℕ → Lines
worksheet_of completed total charges net could =
    let percent = percent_earned completed total in
    let earned = half_up ((sum net + sum could) * percent) 1000 in
    let unearned = sum net - earned in
    let school = min unearned (half_up (charges * (1000 - percent)) 1000) in
    let returned = spread school net in
    let student = unearned - school in
    let laid = spread student (minus net returned) in
    record {
      percent = percent;
      earned = earned;
      unearned = unearned;
      school = school;
      returned = returned;
      student = student;
      laid = laid;
      owed = owed_by_program laid net could;
      post = earned - sum net;
    }
