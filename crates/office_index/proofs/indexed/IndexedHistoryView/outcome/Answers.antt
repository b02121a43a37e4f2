use Rattle.std.proofs.Common.{◌≡◌, ◌+◌, ◌-◌, ◌<◌, List, length, get_or, ap, ◌∙◌, arith}
use Rattle.aid_filings.specs.declared.reply.Outcome.{Outcome}
use Rattle.aid_filings.specs.declared.reply.Outcome.TheVariants.{Noted}
use Rattle.office_history.specs.Answer.{outcome_at}
use Rattle.office_index.specs.Register.{Register, outcomes_of}
use Rattle.office_index.proofs.OnRecord.{as_many, on_record}
use Rattle.office_index.proofs.indexed.IndexedHistoryView.outcome.Goals as goal

pub bounds-as_slice-position : goal.bounds-as_slice-position
bounds-as_slice-position c =
    let past = c.args.self.now.history in
    let kept : c.as_slice.result.now ≡ outcomes_of past =
    c.as_slice.ensures.value ∙ c.self.invariant.0.outcomes_kept ∙ ap (λ (r : Register). outcomes_of r.history) c.self.view_is in
    omega (arith, ap (λ (l : List Outcome). length l) kept, as_many past, c.requires.first, c.requires.last)

pub returns : goal.returns
returns c =
    let past = c.args.self.now.history in
    let index = c.args.position - 1 in
    let kept : c.as_slice.result.now ≡ outcomes_of past =
    c.as_slice.ensures.value ∙ c.self.invariant.0.outcomes_kept ∙ ap (λ (r : Register). outcomes_of r.history) c.self.view_is in
    let within : index < length past = omega (arith, c.requires.first, c.requires.last) in
    let place : index + 1 ≡ c.args.position = omega (arith, c.requires.first) in
    ap (λ (l : List Outcome). get_or l index Noted) kept ∙ on_record past index Noted within ∙ ap (outcome_at past) place
