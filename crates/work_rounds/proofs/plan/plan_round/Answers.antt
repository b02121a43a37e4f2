use Rattle.std.proofs.Common.{ℕ, List, ap, arith}
use Rattle.std.specs.Prelude.{sum}
use Rattle.work_rounds.proofs.Awarding.{rest_most}
use Rattle.work_rounds.proofs.Gathering.{in_turn}
use Rattle.work_rounds.proofs.Planning.{planned}
use Rattle.work_rounds.proofs.plan.plan_round.Goals as goal

pub awards-requires-clause-fund : goal.awards-requires-clause-fund
awards-requires-clause-fund g c =
    let same = ap (λ (l : List ℕ). sum l) c.as_slice-3.ensures.value in
    let most = rest_most c.args.desk.now.list c.args.request.now.school c.args.request.now.year in
    omega (arith, same, c.in_ok-awarded.ensures.whole, c.rest-rest.ensures, most)

pub returns-clause-planned : goal.returns-clause-planned
returns-clause-planned g c =
    let cs = c.sort_candidates.new.candidates.items in
    planned _ c.args.request.now c.args.text.items c.args.desk.now.list c.new-rows.result c.in_ok-gathered.gathered cs c.as_slice.result.now c.as_slice-2.result.now
    c.in_ok-awarded.awarded.awards.items c.as_slice-3.result.now _ _ c.rest-rest.result c.in_ok-awarded.awarded.left _ c.new-rows.ensures c.in_ok-gathered.ensures
    (in_turn c.args.desk.now.list c.args.request.now c.new-rows.result c.in_ok-gathered.gathered cs c.in_ok-gathered.ensures c.sort_candidates.ensures.order c.sort_candidates.ensures.only c.sort_candidates.ensures.kept)
    c.rest-rest.ensures c.as_slice.ensures.value c.in_ok-awarded.ensures.round c.as_slice-2.ensures.value c.as_slice-3.ensures.value c.in_ok-filings.ensures.awards c.into_iter.ensures.rest c.in_ok-closing.ensures
