use Rattle.std.proofs.Common.{◌≡◌, ℕ, ap, arith, reverse, take, ◌∙◌}
use Rattle.office_sheets.proofs.LedgerPass.{passed_more}
use Rattle.office_sheets.proofs.Passed.{first_are_oldest, may_follow, stands_inside}
use Rattle.office_sheets.proofs.front.front_of.Goals as goal

pub bounds-filings-index : goal.bounds-filings-index
bounds-filings-index c = stands_inside c.filings-filings.result.now c.args.office.now.history c.loop-index.index c.args.front c.filings-filings.ensures c.loop-index-test.true c.requires

pub grow-requires : goal.grow-requires
grow-requires c =
    let inside = stands_inside c.filings-filings.result.now c.args.office.now.history c.loop-index.index c.args.front c.filings-filings.ensures c.loop-index-test.true c.requires in
    record {
      legal = may_follow c.filings-filings.result.now c.args.office.now.history c.loop-index.made.history c.loop-index.index c.index-filings-index.result
          c.filings-filings.ensures c.front-front.ensures.legal inside c.index-filings-index.is c.loop-index.invariant.history;
      room = omega (arith, c.loop-index.invariant.room, c.loop-index-test.true);
    }

pub loop-index-init : goal.loop-index-init
loop-index-init c = record {
  history = c.reserve.ensures.history ∙ c.new-made.ensures.history;
  room = omega (arith, c.in_ok-reserve.ensures.room, c.new-made.ensures.spare);
}

pub loop-index-preserved : goal.loop-index-preserved
loop-index-preserved c =
    let inside = stands_inside c.filings-filings.result.now c.args.office.now.history c.loop-index.index c.args.front c.filings-filings.ensures c.loop-index-test.true c.requires in
    record {
      history = passed_more c.filings-filings.result.now c.loop-index.made.history c.grow.new.office.history c.loop-index.index c.index-filings-index.result
          inside c.index-filings-index.is c.loop-index.invariant.history c.in_ok-grow.ensures.history;
      room = omega (arith, c.in_ok-grow.ensures.spare, c.loop-index.invariant.room);
    }

pub returns : goal.returns
returns c =
    let all : c.loop-index.index ≡ c.args.front = omega (arith, c.loop-index.auto.index-end, c.loop-index-test.false) in
    c.loop-index.invariant.history ∙ ap (λ (n : ℕ). reverse (take n c.filings-filings.result.now)) all
    ∙ first_are_oldest c.filings-filings.result.now c.args.office.now.history c.args.front c.filings-filings.ensures c.requires
