use Rattle.std.proofs.Common.{◌<◌, Some, ap, refl, subst, sym, ◌∙◌}
use Rattle.office_history.specs.Positions.{cost_at}
use Rattle.office_rounds.specs.Candidates.{AreCandidates}
use Rattle.office_rounds.proofs.Gathered.{IsGathered, gather_none, gather_one, gathered}
use Rattle.office_rounds.proofs.Originations.{cost_on_file, some_same}
use Rattle.office_rounds.proofs.candidates.candidates.Goals as goal
use Rattle.office_rounds.proofs.candidates.candidates.Goals.{in-Some+in-Some-candidate+in_ok-push, in-Some+in_default-candidate, in_default}

pub candidate-requires : goal.candidate-requires
candidate-requires c =
    let r = c.args.request.now in
    let h = c.filings-filing-items.result.now in
    subst (λ past. 0 < cost_at past r.school c.in-Some.student r.year) c.filings-filing-items.ensures
    (cost_on_file r h c.loop-filing.filing-index c.filing-item.result c.in-Some.student c.loop-filing-test.true c.filing-item.is (sym c.originated.ensures ∙ c.in-Some.is))

pub loop-filing-preserved : goal.loop-filing-preserved
loop-filing-preserved c =
    let past = c.args.office.now.history in
    let r = c.args.request.now in
    let h = c.filings-filing-items.result.now in
    let i = c.loop-filing.filing-index in
    let f = c.filing-item.result in
    let before = c.loop-filing.candidates.items in
    let after = c.match-originated.candidates.items in
    elim c.match-originated.branch [
      | in-Some+in-Some-candidate+in_ok-push w ↦
          let there = sym c.originated.ensures ∙ w.in-Some.is ∙ ap Some (sym w.in-Some-candidate.ensures.student) in
          gather_one past r h i before after f w.in-Some-candidate.candidate c.filing-item.is there w.in-Some-candidate.ensures.candidate
          (ap (λ v. v.items) w.candidates-is ∙ w.in_ok-push.ensures.items) c.loop-filing.invariant
      | in-Some+in_default-candidate w ↦
          let there = sym c.originated.ensures ∙ w.in-Some.is in
          gather_none past r h i before after f c.filing-item.is
          (λ d told good. w.in_default-candidate.ensures.none refl d good (some_same d.student w.in-Some.student (sym told ∙ there)))
          (ap (λ v. v.items) w.candidates-is) c.loop-filing.invariant
      | in_default w ↦
          let none = sym c.originated.ensures ∙ w.in_default.is in
          gather_none past r h i before after f c.filing-item.is (λ d told good. absurd (cc)) (ap (λ v. v.items) w.candidates-is) c.loop-filing.invariant
    ]

pub returns-clause-candidates : goal.returns-clause-candidates
returns-clause-candidates c =
    let r = c.args.request.now in
    let h = c.filings-filing-items.result.now in
    let i = c.loop-filing.filing-index in
    let cs = c.loop-filing.candidates.items in
    let ds = c.sort_candidates.new.candidates.items in
    subst (λ past. AreCandidates past r ds) c.filings-filing-items.ensures
    (gathered r h i cs ds c.loop-filing-test.false (subst (λ past. IsGathered past r h i cs) (sym c.filings-filing-items.ensures) c.loop-filing.invariant)
    c.sort_candidates.ensures.order c.sort_candidates.ensures.only c.sort_candidates.ensures.kept)
