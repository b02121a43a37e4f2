-- A work-study filing is told by the code of its kind and its numbers.
use Rattle.std.proofs.Common.{◌≡◌, ℕ, ℤ, pos, List, drop, take, ap, arith}
use Rattle.std.specs.Prelude.{slice_index_or, unsigned_abs}
use Rattle.aid_types.specs.declared.number.Key.{Key}
use Rattle.aid_types.proofs.Same.{key_parts, key_whole}
use Rattle.law_work.specs.declared.filing.DollarFacts.{DollarFacts}
use Rattle.law_work.specs.declared.filing.EarnFacts.{EarnFacts}
use Rattle.law_work.specs.declared.filing.FundFacts.{FundFacts}
use Rattle.law_work.specs.declared.filing.WorkFiling.{WorkFiling}
use Rattle.law_work.specs.declared.filing.WorkWhat.{WorkWhat}
use Rattle.law_work.specs.declared.filing.WorkWhat.TheVariants.{Fund, Award, Earn, Release}
use Rattle.law_work.proofs.SameWork.{dollar_parts, dollar_whole, earn_parts, earn_whole, fund_parts, fund_whole}
use Rattle.work_study.specs.Numbers.{code_of_what, code_of_work, dollar_numbers, earn_numbers, fund_numbers, key_numbers, numbers_of_work, what_numbers}

-- the natural numbers at a place of equal lists
at : {xs ys : List ℤ} → xs ≡ ys → (k : ℕ) → unsigned_abs (slice_index_or xs k (pos 0)) ≡ unsigned_abs (slice_index_or ys k (pos 0))
at e k = ap (λ (zs : List ℤ). unsigned_abs (slice_index_or zs k (pos 0))) e

same_key : (x y : Key) → key_numbers x ≡ key_numbers y → x ≡ y
unfolding key_parts
same_key x y e = key_whole x y (λ i. (at e 0 i, at e 1 i))

same_fund : (x y : FundFacts) → fund_numbers x ≡ fund_numbers y → x ≡ y
unfolding fund_parts
same_fund x y e = fund_whole x y (λ i. (at e 0 i, at e 1 i))

same_dollars : (x y : DollarFacts) → dollar_numbers x ≡ dollar_numbers y → x ≡ y
unfolding dollar_parts
same_dollars x y e = dollar_whole x y (λ i. (at e 0 i, (at e 1 i, at e 2 i)))

same_earn : (x y : EarnFacts) → earn_numbers x ≡ earn_numbers y → x ≡ y
unfolding earn_parts
same_earn x y e = earn_whole x y (λ i. (at e 0 i, (at e 1 i, (at e 2 i, at e 3 i))))

same_what : (x y : WorkWhat) → code_of_what x ≡ code_of_what y → what_numbers x ≡ what_numbers y → x ≡ y
same_what (Fund x) (Fund y) k e = ap Fund (same_fund x y e)
same_what (Award x) (Award y) k e = ap Award (same_dollars x y e)
same_what (Earn x) (Earn y) k e = ap Earn (same_earn x y e)
same_what (Release x) (Release y) k e = ap Release (same_dollars x y e)
same_what _ _ k e = absurd (omega arith)

-- two filings of a kind are equal where their numbers are
pub same_work : (x y : WorkFiling) → code_of_work x ≡ code_of_work y → numbers_of_work x ≡ numbers_of_work y → x ≡ y
same_work x y k e =
    let key : x.key ≡ y.key = same_key x.key y.key (ap (take 2) e) in
    let what : x.what ≡ y.what = same_what x.what y.what k (ap (drop 2) e) in
    λ i. record { key = key i; what = what i }
