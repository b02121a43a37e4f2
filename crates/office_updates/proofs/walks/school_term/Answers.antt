use Rattle.std.proofs.Common.{◌≡◌, ap, arith, cond, sym, ◌∙◌, reverse, Option, None}
use Rattle.std.specs.Prelude.{is_some}
use Rattle.aid_types.specs.declared.term.Term.{Term}
use Rattle.aid_filings.specs.declared.filing.Filing.{Filing}
use Rattle.office_history.specs.Past.{later, term_in}
use Rattle.office_updates.proofs.LinksFound.{found_looks, term_found}
use Rattle.office_updates.proofs.LinksTerms.{term_at_hand, term_end, term_looks, term_start, term_step}
use Rattle.office_updates.proofs.walks.school_term.Goals as goal

pub loop-at-init : goal.loop-at-init
loop-at-init g c =
    term_start (reverse c.args.filings.now) c.args.school c.args.year c.args.number c.args.newest c.args.steps.now c.requires.newest

pub bounds-filings-index : goal.bounds-filings-index
bounds-filings-index g c =
    let w = c.loop-at.invariant in
    (term_at_hand c.args.filings.now c.args.befores.now c.args.school w.older c.loop-at.at c.requires.linked w.along (omega arith)).inside

pub bounds-befores-index : goal.bounds-befores-index
bounds-befores-index g c =
    let w = c.loop-at.invariant in
    (term_at_hand c.args.filings.now c.args.befores.now c.args.school w.older c.loop-at.at c.requires.linked w.along (omega arith)).inside_befores

pub loop-at-smaller : goal.loop-at-smaller
loop-at-smaller g c =
    let w = c.loop-at.invariant in
    (term_at_hand c.args.filings.now c.args.befores.now c.args.school w.older c.loop-at.at c.requires.linked w.along (omega arith)).lower _

pub loop-at-preserved : goal.loop-at-preserved
loop-at-preserved g c =
    let f = c.index-filings-index.result in
    let none : term_in c.args.year c.args.number f.what ≡ None =
    ap (λ (x : Filing). term_in c.args.year c.args.number x.what) c.index-filings-index.is ∙ sym c.term_here.ensures ∙ c.in_default.is in
    term_step c.args.filings.now c.args.befores.now c.args.school c.args.year c.args.number c.loop-at.at (record { at = 0; term = None }) c.loop-at.steps
    c.args.steps.now c.requires.linked c.loop-at.invariant (omega arith)
    f c.index-filings-index.is _ (record { at = 0; term = None }) _ (omega arith)
    (sym (ap (λ (o : Option Term). cond (is_some o) c.loop-at.at 0) none)) (sym (ap (λ (o : Option Term). later o None) none))

pub returns-in-Some-clause-value : goal.returns-in-Some-clause-value
returns-in-Some-clause-value g c =
    term_found c.args.filings.now c.args.befores.now c.args.school c.args.year c.args.number c.loop-at.at c.loop-at.steps c.args.steps.now
    c.requires.legal c.requires.linked c.loop-at.invariant (omega arith)
    c.index-filings-index.result c.index-filings-index.is c.in-Some.term
    (ap (λ (x : Filing). term_in c.args.year c.args.number x.what) c.index-filings-index.is ∙ sym c.term_here.ensures ∙ c.in-Some.is)

pub returns-in-Some-clause-cost : goal.returns-in-Some-clause-cost
returns-in-Some-clause-cost g c =
    let lookups =
    found_looks c.args.filings.now c.args.befores.now c.args.school c.args.year c.args.number c.loop-at.at c.loop-at.steps c.args.steps.now
    c.requires.legal c.requires.linked c.loop-at.invariant (omega arith) in
    omega (arith, lookups, c.tick.ensures)

pub returns-in-Some-clause-later : goal.returns-in-Some-clause-later
returns-in-Some-clause-later g c = let old = c.loop-at.invariant.rising in omega (arith, c.tick.ensures)

pub returns-in-Some-clause-counted : goal.returns-in-Some-clause-counted
returns-in-Some-clause-counted g c = λ none. absurd (omega (arith, none))

pub returns-clause-counted : goal.returns-clause-counted
returns-clause-counted g c = λ none.
    term_looks (reverse c.args.filings.now) c.args.school c.args.year c.args.number c.loop-at.at (record { at = 0; term = None }) c.loop-at.steps
    c.args.steps.now c.loop-at.invariant (omega arith)

pub returns-clause-value : goal.returns-clause-value
returns-clause-value g c =
    term_end (reverse c.args.filings.now) c.args.school c.args.year c.args.number c.loop-at.at (record { at = 0; term = None }) c.loop-at.steps
    c.args.steps.now c.loop-at.invariant (omega arith)

pub returns-clause-cost : goal.returns-clause-cost
returns-clause-cost g c =
    let all =
    term_looks (reverse c.args.filings.now) c.args.school c.args.year c.args.number c.loop-at.at (record { at = 0; term = None }) c.loop-at.steps
    c.args.steps.now c.loop-at.invariant (omega arith) in
    omega (arith, all)

pub returns-clause-later : goal.returns-clause-later
returns-clause-later g c = c.loop-at.invariant.rising
