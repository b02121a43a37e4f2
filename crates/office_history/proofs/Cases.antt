-- The cases of an answer.
use Rattle.std.proofs.Common.{◌≡◌, ℕ, zero, suc, ◌<◌, sym, ap, ◌∙◌, arith, List}
use Rattle.aid_filings.specs.declared.filing.Filing.{Filing}
use Rattle.aid_filings.specs.declared.reply.Response.TheVariants.{Again, Refused}
use Rattle.office_history.specs.Past.{key_at, filing_at}
use Rattle.office_history.specs.Answer.{outcome_at, answer_of, answer_at, answer_new, judged, breaks}

-- a filing that stands
pub answer_of-again : (past : List Filing) (f : Filing) (p : ℕ) → p ≡ filing_at f past → 0 < p → answer_of past f ≡ Again p (outcome_at past p)
answer_of-again past f zero e h = absurd (omega arith)
answer_of-again past f (suc n) e h = ap (answer_at past f) (sym e)

-- a key that is used for another filing
pub answer_of-used : (past : List Filing) (f : Filing) (k : ℕ) → filing_at f past ≡ 0 → k ≡ key_at f.key past → 0 < k →
    answer_of past f ≡ Refused (record { rule = 15; kept = k; bound = f.key.number })
answer_of-used past f zero z e h = absurd (omega arith)
answer_of-used past f (suc n) z e h = ap (answer_at past f) z ∙ ap (answer_new past f) (sym e)

-- a filing that stands nowhere and whose key is new
pub answer_of-new : (past : List Filing) (f : Filing) → filing_at f past ≡ 0 → key_at f.key past ≡ 0 → answer_of past f ≡ judged past f (breaks past f)
answer_of-new past f z e = ap (answer_at past f) z ∙ ap (answer_new past f) e
