-- A Pell payment of whole dollars breaks no rule just where its quote is as high.
use Rattle.std.proofs.Common.{◌≡◌, ◌≢◌, ℕ, zero, suc, ◌*◌, ◌≤◌, ◌<◌, Bool, true, false, sym, ap, ◌∙◌, refl, arith, cond, List, Option, Some, None, is_none, inl, inr}
use Rattle.std.proofs.lemmas.Bool.{cases_lt}
use Rattle.aid_types.specs.Programs.{rank}
use Rattle.aid_types.specs.declared.award.Refusal.{Refusal}
use Rattle.aid_filings.specs.declared.filing.Filing.{Filing}
use Rattle.aid_filings.specs.declared.filing.What.{What}
use Rattle.law_rules.specs.Quote.{greatest, greatest_payment, is_payable}
use Rattle.aid_types.specs.declared.line.RuleLine.{RuleLine}
use Rattle.aid_types.specs.RuleLines.{first_broken}
use Rattle.office_history.specs.Answer.{breaks, quote_of}
use Rattle.office_history.specs.Rules.{payment_rules, rules_of}
use Rattle.office_index.specs.Register.{IsPellPayment}

-- above the greatest number that passes none does
none_above : (p : ℕ → Bool) (n bound : ℕ) → greatest p bound < n → n ≤ bound → p n ≡ false
none_above p n zero above le = absurd (omega arith)
none_above p n (suc bound) above le = go (none_above p n bound) (p (suc bound)) refl above
  where
    go : (greatest p bound < n → n ≤ bound → p n ≡ false) → (b : Bool) → p (suc bound) ≡ b → cond b (suc bound) (greatest p bound) < n → p n ≡ false
    go ih true e above = absurd (omega arith)
    go ih false e above =
        elim (cases_lt n (suc bound)) [
          | inl below ↦ ih above (omega arith)
          | inr here ↦ let same : n ≡ suc bound = omega arith in ap p same ∙ e
        ]

-- in hundreds too
no_hundreds : (p : ℕ → Bool) (n bound : ℕ) → 100 * greatest p bound < 100 * n → n ≤ bound → p n ≡ false
no_hundreds p n bound above le = none_above p n bound (omega arith) le

-- so no whole dollars above the greatest payment are payable
none_payable : (rules : ℕ → List RuleLine) (dollars : ℕ) → greatest_payment rules < 100 * dollars → dollars ≤ 999999 → is_payable rules dollars ≡ false
unfolding greatest_payment
none_payable rules dollars above le = no_hundreds (is_payable rules) dollars 999999 above le

some_broken : (o : Option Refusal) → is_none o ≡ false → o ≢ None
some_broken None e none = cc
some_broken (Some r) e none = cc

-- the first broken rule of a school's payment of so many cents of Pell for a student's term
abbrev first_of : List Filing → ℕ → ℕ → ℕ → ℕ → ℕ → Option Refusal
first_of past school student year term cents = first_broken (payment_rules past school student year term 3 cents)

breaks_first : (past : List Filing) (f : Filing) (school student year term dollars : ℕ) → IsPellPayment f school student year term dollars →
    breaks past f ≡ first_of past school student year term (100 * dollars)
breaks_first past f school student year term dollars (a, what, program, cents, at, of, in_year, in_term) =
    ap (λ (w : What). first_broken (rules_of past f.key w)) what
    ∙ (λ i. first_broken (payment_rules past (at i) (of i) (in_year i) (in_term i) (rank (program i)) (cents i)))

pub payable : (past : List Filing) (f : Filing) (school student year term dollars : ℕ) → IsPellPayment f school student year term dollars →
    first_of past school student year term (100 * dollars) ≡ None → breaks past f ≡ None
payable past f school student year term dollars is none = breaks_first past f school student year term dollars is ∙ none

pub unpayable : (past : List Filing) (f : Filing) (school student year term dollars : ℕ) → IsPellPayment f school student year term dollars →
    quote_of past school student year term < 100 * dollars → breaks past f ≢ None
unpayable past f school student year term dollars is above none =
    let few = is.0.in_range.1 in
    let cents = is.3 in
    some_broken (first_of past school student year term (100 * dollars))
    (none_payable (payment_rules past school student year term 3) dollars above (omega arith))
    (sym (breaks_first past f school student year term dollars is) ∙ none)
