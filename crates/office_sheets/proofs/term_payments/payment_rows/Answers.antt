use Rattle.std.proofs.Common.{◌≤◌, ◌<◌, List, refl, sym, ap, arith, length, ◌∙◌}
use Rattle.std.proofs.lemmas.List.{length-reverse}
use Rattle.aid_filings.specs.declared.filing.Filing.{Filing}
use Rattle.office_sheets.specs.Payments.{payment_rows, payments_by}
use Rattle.office_sheets.specs.TermSums.{term_sums}
use Rattle.office_sheets.proofs.LedgerPass.{passed_more, rows_more, rows_whole}
use Rattle.office_sheets.proofs.Passed.{may_follow, stands_inside}
use Rattle.office_sheets.proofs.term_payments.payment_rows.Goals as goal

pub bounds-filings-index : goal.bounds-filings-index
bounds-filings-index c = stands_inside c.filings-filings.result.now c.args.office.now.history c.loop-index.index c.front-front.result c.filings-filings.ensures c.loop-index-test.true (omega (arith, c.front-front.ensures.value))

pub bounds-stamps-index : goal.bounds-stamps-index
bounds-stamps-index c = omega (arith, c.front-front.ensures.value, c.requires, c.loop-index-test.true)

pub pass-requires : goal.pass-requires
pass-requires c =
    let inside = stands_inside c.filings-filings.result.now c.args.office.now.history c.loop-index.index c.front-front.result c.filings-filings.ensures c.loop-index-test.true (omega (arith, c.front-front.ensures.value)) in
    record {
      legal = may_follow c.filings-filings.result.now c.args.office.now.history c.loop-index.past.history c.loop-index.index c.index-filings-index.result
          c.filings-filings.ensures c.front-front.ensures.legal inside c.index-filings-index.is c.loop-index.invariant.history;
      room = omega (arith, c.loop-index.invariant.room, c.loop-index-test.true);
      sums = c.loop-index.invariant.sums;
    }

pub loop-index-init : goal.loop-index-init
loop-index-init c = record {
  history = c.reserve.ensures.history ∙ c.new-past.ensures.history;
  room = omega (arith, c.in_ok-reserve.ensures.room, c.new-past.ensures.spare);
  sums = ap (λ (past : List Filing). term_sums past c.args.asked.now.school c.args.asked.now.year c.args.asked.now.term) (sym (c.reserve.ensures.history ∙ c.new-past.ensures.history));
  rows = c.new-rows.ensures.items;
}

pub loop-index-preserved : goal.loop-index-preserved
loop-index-preserved c =
    let t = c.args.asked.now in
    let inside = stands_inside c.filings-filings.result.now c.args.office.now.history c.loop-index.index c.front-front.result c.filings-filings.ensures c.loop-index-test.true (omega (arith, c.front-front.ensures.value)) in
    let stamped : c.loop-index.index < length c.args.stamps.now = omega (arith, c.front-front.ensures.value, c.requires, c.loop-index-test.true) in
    record {
      history = passed_more c.filings-filings.result.now c.loop-index.past.history c.pass.new.past.history c.loop-index.index c.index-filings-index.result
          inside c.index-filings-index.is c.loop-index.invariant.history c.in_ok-pass.ensures.history;
      room = omega (arith, c.in_ok-pass.ensures.spare, c.loop-index.invariant.room);
      sums = c.in_ok-pass.ensures.sums;
      rows = rows_more (payment_rows t.school t.year t.term) (payments_by t.school t.year t.term) (λ past f s stamps. refl) c.filings-filings.result.now c.loop-index.past.history c.args.stamps.now c.loop-index.index c.index-filings-index.result c.index-stamps-index.result
          inside stamped c.index-filings-index.is c.index-stamps-index.is c.loop-index.invariant.history _ _ c.loop-index.invariant.rows c.in_ok-pass.ensures.rows;
    }

pub returns : goal.returns
returns c =
    let t = c.args.asked.now in
    let fs = c.filings-filings.result.now in
    let all : length fs ≤ c.loop-index.index = omega (arith, length-reverse fs, ap length c.filings-filings.ensures, c.front-front.ensures.value, c.loop-index-test.false) in
    let enough : length c.args.stamps.now ≤ c.loop-index.index = omega (arith, c.requires, c.front-front.ensures.value, c.loop-index-test.false) in
    rows_whole (payment_rows t.school t.year t.term) fs c.args.office.now.history c.args.stamps.now c.loop-index.index c.filings-filings.ensures all enough _ c.loop-index.invariant.rows
