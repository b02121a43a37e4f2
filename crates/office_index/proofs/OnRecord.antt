-- The outcomes that an office keeps are those that its history tells, so an answer may be read from them.
use Rattle.std.proofs.Common.{◌≡◌, ℕ, suc, ◌+◌, ◌-◌, ◌<◌, refl, sym, ap, ◌∙◌, arith, List, [], ◌∷◌, ◌++◌, length, drop, get_or, length-append, inl, inr}
use Rattle.std.proofs.lemmas.Bool.{cases_lt}
use Rattle.std.proofs.Math.ListN.{get_or-append}
use Rattle.std.proofs.Math.Seq.{get_or-append_seam}
use Rattle.aid_filings.specs.declared.filing.Filing.{Filing}
use Rattle.aid_filings.specs.declared.reply.Outcome.{Outcome}
use Rattle.office_history.specs.Answer.{outcome_at, outcome_of, outcome_of_newest}
use Rattle.office_history.proofs.Recorded.{outcome_at-stays}
use Rattle.office_index.specs.Register.{outcomes_of}

pub as_many : (past : List Filing) → length (outcomes_of past) ≡ length past
as_many [] = refl
as_many (f ∷ past) = omega (arith, length-append (outcomes_of past) (outcome_of past f ∷ []), as_many past)

-- a newer filing leaves the outcomes at the positions before it
outcome_at-older : (past : List Filing) (f : Filing) (i : ℕ) → i < length past → outcome_at (f ∷ past) (i + 1) ≡ outcome_at past (i + 1)
outcome_at-older past f i lt =
    let e : length (f ∷ past) - (i + 1) ≡ suc (length past - (i + 1)) = omega arith in
    ap (λ (n : ℕ). outcome_of_newest (drop n (f ∷ past))) e

pub on_record : (past : List Filing) (i : ℕ) (o : Outcome) → i < length past → get_or (outcomes_of past) i o ≡ outcome_at past (i + 1)
on_record [] i o lt = absurd (omega arith)
on_record (f ∷ past) i o lt =
    elim (cases_lt i (length past)) [
      | inl before ↦
          let within : i < length (outcomes_of past) = omega (arith, as_many past) in
          get_or-append (outcomes_of past) (outcome_of past f ∷ []) o i within ∙ on_record past i o before ∙ sym (outcome_at-older past f i before)
      | inr last ↦
          let e : i ≡ length past = omega arith in
          let k : i ≡ length (outcomes_of past) = omega (arith, as_many past) in
          ap (λ (n : ℕ). get_or (outcomes_of past ++ outcome_of past f ∷ []) n o) k
          ∙ get_or-append_seam (outcomes_of past) (outcome_of past f) [] o
          ∙ sym (outcome_at-stays [] past f)
          ∙ ap (λ (n : ℕ). outcome_at (f ∷ past) (n + 1)) (sym e)
    ]
