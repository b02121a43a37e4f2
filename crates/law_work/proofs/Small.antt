-- How large what is on file is.
use Rattle.std.proofs.Common.{ℕ, ◌*◌, ◌≤◌, ◌<◌, arith, List, [], ◌∷◌, length, zero-le}
use Rattle.law_work.specs.declared.filing.WorkFiling.{WorkFiling}
use Rattle.law_work.specs.Funds.{earned, fund, in_force, in_fund, of_student}
use Rattle.law_work.specs.Rules.{AreAllowed, AreSmall, facts_on}
use Rattle.law_work.proofs.Holding.{has_room}
use Rattle.law_work.proofs.Standing.{fund_most}
use Rattle.law_work.proofs.Within.{award_within, awards_within, earned_within}

-- a list that breaks no rule is short
pub is_short : (past : List WorkFiling) → AreAllowed past → length past ≤ 200000
is_short [] h = zero-le
is_short (f ∷ past) h = let k : length past < 200000 = has_room past f h.1 in omega arith

below : (a b most : ℕ) → a ≤ b → b ≤ most → a ≤ most
below a b most h k = omega arith

in_cents : (e a : ℕ) → e ≤ 100 * a → a ≤ 4000 → e ≤ 400000
in_cents e a h k = omega arith

pub facts_small : (past : List WorkFiling) → AreAllowed past → (school year student : ℕ) → AreSmall (facts_on past school year student)
facts_small past h school year student = (
  fund_most past school year,
  below (in_force past (in_fund school year)) (fund past school year) 9999999 (awards_within past h school year) (fund_most past school year),
  award_within past h school year student,
  in_cents (earned past (of_student school year student)) (in_force past (of_student school year student))
      (earned_within past h school year student) (award_within past h school year student),
)
