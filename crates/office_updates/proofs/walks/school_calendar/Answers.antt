use Rattle.std.proofs.Common.{arith, reverse}
use Rattle.office_history.proofs.Legal.{legal_is_short}
use Rattle.office_updates.proofs.LinksTerms.{calendar_end, calendar_looks, calendar_start, calendar_step, mains_few, term_at_hand}
use Rattle.office_updates.proofs.walks.school_calendar.Goals as goal

pub loop-at-init : goal.loop-at-init
loop-at-init g c =
    calendar_start (reverse c.args.filings.now) c.args.school c.args.calendar.now c.args.newest c.args.steps.now c.requires.newest

pub bounds-filings-index : goal.bounds-filings-index
bounds-filings-index g c =
    let w = c.loop-at.invariant in
    (term_at_hand c.args.filings.now c.args.befores.now c.args.school w.older c.loop-at.at c.requires.linked w.along (omega arith)).inside

pub with_calendar-row-requires : goal.with_calendar-row-requires
with_calendar-row-requires g c =
    let past = reverse c.args.filings.now in
    let few = mains_few past c.args.school c.args.calendar.now c.loop-at.at c.loop-at.row c.loop-at.steps
    c.args.steps.now c.loop-at.invariant in
    let short = legal_is_short past c.requires.legal in
    omega arith

pub bounds-befores-index : goal.bounds-befores-index
bounds-befores-index g c =
    let w = c.loop-at.invariant in
    (term_at_hand c.args.filings.now c.args.befores.now c.args.school w.older c.loop-at.at c.requires.linked w.along (omega arith)).inside_befores

pub loop-at-smaller : goal.loop-at-smaller
loop-at-smaller g c =
    let w = c.loop-at.invariant in
    (term_at_hand c.args.filings.now c.args.befores.now c.args.school w.older c.loop-at.at c.requires.linked w.along (omega arith)).lower _

pub loop-at-preserved : goal.loop-at-preserved
loop-at-preserved g c =
    calendar_step c.args.filings.now c.args.befores.now c.args.school c.args.calendar.now c.loop-at.at c.loop-at.row c.loop-at.steps
    c.args.steps.now c.requires.linked c.loop-at.invariant (omega arith)
    c.index-filings-index.result c.index-filings-index.is _ c.with_calendar-row.result _ (omega arith)
    c.with_calendar-row.ensures.term_at c.with_calendar-row.ensures.overlap_at c.with_calendar-row.ensures.main_terms

pub returns-clause-value : goal.returns-clause-value
returns-clause-value g c =
    calendar_end (reverse c.args.filings.now) c.args.school c.args.calendar.now c.loop-at.at c.loop-at.row c.loop-at.steps
    c.args.steps.now c.loop-at.invariant (omega arith)

pub returns-clause-cost : goal.returns-clause-cost
returns-clause-cost g c =
    calendar_looks (reverse c.args.filings.now) c.args.school c.args.calendar.now c.loop-at.at c.loop-at.row c.loop-at.steps c.args.steps.now c.loop-at.invariant
    (omega arith)
