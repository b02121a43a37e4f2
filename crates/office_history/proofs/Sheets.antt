-- What a worksheet returns and leaves owed of a program is at most its net.
use Rattle.std.proofs.Common.{◌≡◌, ℕ, zero, suc, ◌+◌, ◌-◌, ◌≤◌, refl, arith, cond, Bool, true, false, List, min, zero-le, ◌*◌, ltb-false}
use Rattle.std.specs.Prelude.{nat_le, nat_lt, sum}
use Rattle.aid_types.specs.Programs.{six}
use Rattle.aid_types.specs.declared.number.Key.{Key}
use Rattle.aid_filings.specs.declared.filing.WithdrawFacts.{WithdrawFacts}
use Rattle.office_history.specs.Net.{Cell, withdrawn_cell}
use Rattle.law_r2t4.specs.Worksheet.{grant_owed, worksheet_of, percent_earned}
use Rattle.office_history.proofs.Cells.{SumsBelow}
use Rattle.std.proofs.Math.Nat.{div-zero, mul-le-mul_left}
use Rattle.aid_types.specs.Nearest.{half_up}
use Rattle.aid_types.proofs.NearestLemmas.{half_up-le}

pub owed_below : (laid half : ℕ) → grant_owed laid half ≤ laid
owed_below laid half = go (nat_le (laid - half) 5000)
  where
    go : (b : Bool) → cond b 0 (laid - half) ≤ laid
    go true = zero-le
    go false = omega arith

-- of one program
part : (n s t half : ℕ) → min n s + grant_owed (min (n - min n s) t) half ≤ n
part n s t half =
    let k : grant_owed (min (n - min n s) t) half ≤ min (n - min n s) t = owed_below _ half in
    omega arith

loan : (n s : ℕ) → min n s + 0 ≤ n
loan n s = omega arith

pub sums_below : (g : Cell → ℕ) (key : Key) (w : WithdrawFacts) (completed all charges : ℕ) (could : List ℕ) →
    SumsBelow g key w 0 (worksheet_of completed all charges (six (λ p. g (withdrawn_cell key w p))) could).returned
    (worksheet_of completed all charges (six (λ p. g (withdrawn_cell key w p))) could).owed
unfolding worksheet_of
sums_below g key w completed all charges could =
    (loan _ _, (loan _ _, (loan _ _, (part _ _ _ _, (part _ _ _ _, (part _ _ _ _, refl))))))

of_none : half_up 0 0 ≤ 1000
unfolding half_up
of_none = rw div-zero zero-le

-- no more than all of a term is completed
percent_most : (completed total : ℕ) → percent_earned completed total ≤ 1000
unfolding percent_earned
percent_most completed total = go (nat_lt (6 * total) (10 * completed)) refl
  where
    part_of : (completed total : ℕ) → 10 * completed ≤ 6 * total → half_up (1000 * completed) total ≤ 1000
    part_of zero zero h = of_none
    part_of (suc completed) zero h = absurd (omega arith)
    part_of completed (suc total) h = half_up-le (1000 * completed) (suc total) 1000 (omega arith) (omega arith)

    go : (b : Bool) → nat_lt (6 * total) (10 * completed) ≡ b → cond b 1000 (half_up (1000 * completed) total) ≤ 1000
    go true e = omega arith
    go false e = part_of completed total (ltb-false (6 * total) (10 * completed) e)

earned_most : (all percent : ℕ) → percent ≤ 1000 → half_up (all * percent) 1000 ≤ all
earned_most all percent h = half_up-le (all * percent) 1000 all (omega arith) (mul-le-mul_left all h)

-- what is still to be disbursed is at most what could have been
pub post_below : (completed total charges : ℕ) (net could : List ℕ) → (worksheet_of completed total charges net could).post ≤ sum could
unfolding worksheet_of
post_below completed total charges net could =
    let earned = earned_most (sum net + sum could) (percent_earned completed total) (percent_most completed total) in
    omega arith
