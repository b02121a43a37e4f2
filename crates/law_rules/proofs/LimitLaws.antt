-- The most whole dollars within all that bounds them.
use Rattle.std.proofs.Common.{◌≡◌, ℕ, ◌+◌, ◌*◌, ◌≤◌, ◌<◌, min, arith, slice_index}
use Rattle.law_rules.specs.declared.facts.Facts.{Facts}
use Rattle.law_rules.specs.Lines.{payment_here, year_limit}
use Rattle.law_terms.specs.Used.{use_of}
use Rattle.law_rules.specs.QuoteLimits.{IsAffordable, IsMostDollars, IsWithinLimits, IsWithinPost}

-- after a withdrawal
pub post_most : (f : Facts) (could post : ℕ) → IsMostDollars (λ cents. f.after + cents ≤ slice_index f.could 3) could →
    IsMostDollars (λ cents. f.after_all + cents ≤ f.post) post → IsMostDollars (IsWithinPost f) (min could post)
post_most f could post c p dollars pos =
    let c' = c dollars pos in
    let p' = p dollars pos in (
      λ le. record { could = c'.0 (omega arith); post = p'.0 (omega arith) },
      λ h. let a = c'.1 h.could in let b = p'.1 h.post in omega arith,
    )

-- of a term, a year, a lifetime and the cost
pub limits_most : (f : Facts) (of_term of_year of_lifetime of_cost : ℕ) →
    IsMostDollars (λ cents. f.pell_term + cents ≤ payment_here f) of_term →
    IsMostDollars (λ cents. f.pell_year + cents ≤ year_limit f) of_year →
    IsMostDollars (λ cents. f.used_else + use_of (f.pell_year + cents) f.scheduled ≤ 600000) of_lifetime →
    IsMostDollars (λ cents. f.net_all + cents ≤ 100 * f.cost) of_cost →
    IsMostDollars (IsWithinLimits f) (min (min (min of_term of_year) of_lifetime) of_cost)
limits_most f of_term of_year of_lifetime of_cost payment year lifetime cost dollars pos =
    let p = payment dollars pos in
    let y = year dollars pos in
    let l = lifetime dollars pos in
    let k = cost dollars pos in (
      λ le. record {
        payment = p.0 (omega arith);
        year = y.0 (omega arith);
        lifetime = l.0 (omega arith);
        cost = k.0 (omega arith);
      },
      λ h. let p' = p.1 h.payment in let y' = y.1 h.year in let l' = l.1 h.lifetime in let k' = k.1 h.cost in omega arith,
    )

-- of all, where the student is enrolled, and where the student withdrew
pub enrolled_most : (f : Facts) (dollars : ℕ) → f.withdrawn_at ≡ 0 → IsMostDollars (IsWithinLimits f) dollars →
    IsMostDollars (IsAffordable f) dollars
enrolled_most f most none limits dollars pos =
    let k = limits dollars pos in
    (λ le. record { limits = k.0 le; withdrawn = λ some. absurd (omega arith) }, λ h. k.1 h.limits)

pub withdrawn_most : (f : Facts) (of_limits of_post : ℕ) → 0 < f.withdrawn_at → IsMostDollars (IsWithinLimits f) of_limits →
    IsMostDollars (IsWithinPost f) of_post → IsMostDollars (IsAffordable f) (min of_limits of_post)
withdrawn_most f of_limits of_post some limits post dollars pos =
    let k = limits dollars pos in
    let w = post dollars pos in (
      λ le. record { limits = k.0 (omega arith); withdrawn = λ _. w.0 (omega arith) },
      λ h. let a = k.1 h.limits in let b = w.1 (h.withdrawn some) in omega arith,
    )
