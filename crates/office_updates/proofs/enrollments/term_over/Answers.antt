use Rattle.std.proofs.Common.{◌∙◌, sym, ap, arith, reverse, Option}
use Rattle.office_updates.specs.Enrollments.{earlier_over}
use Rattle.office_updates.specs.declared.enrollments.Over.{Over}
use Rattle.office_updates.proofs.EnrollmentsWalk.{enrolled_here, enrollment_here, inside_links, over_end, over_looks, over_step, step}
use Rattle.office_updates.proofs.enrollments.term_over.Goals as goal

pub bounds-links-index : goal.bounds-links-index
bounds-links-index g c =
    inside_links c.args.filings.now c.args.befores.now c.args.links.now c.args.places.now.rows c.args.student c.loop-at.invariant.older c.loop-at.at c.requires.legal c.requires.linked
    c.loop-at.invariant.along c.loop-at-test.true

pub bounds-befores-index : goal.bounds-befores-index
bounds-befores-index g c =
    (step c.args.filings.now c.args.befores.now c.args.links.now c.args.places.now.rows c.args.student c.loop-at.invariant.older c.loop-at.at c.requires.legal c.requires.linked
    c.loop-at.invariant.along c.loop-at-test.true).inside_befores

pub over_in-over-requires-clause-enrollment : goal.over_in-over-requires-clause-enrollment
over_in-over-requires-clause-enrollment g c =
    let s =
    step c.args.filings.now c.args.befores.now c.args.links.now c.args.places.now.rows c.args.student c.loop-at.invariant.older c.loop-at.at c.requires.legal c.requires.linked
    c.loop-at.invariant.along c.loop-at-test.true in (
      s.filing,
      enrollment_here c.args.filings.now c.args.befores.now c.args.links.now c.args.places.now.rows c.args.student c.loop-at.invariant.older c.loop-at.at c.requires.legal c.requires.linked
          c.loop-at.invariant.along c.loop-at-test.true s.filing (sym (s.read s.filing)) _,
    )

pub loop-at-smaller : goal.loop-at-smaller
loop-at-smaller g c =
    (step c.args.filings.now c.args.befores.now c.args.links.now c.args.places.now.rows c.args.student c.loop-at.invariant.older c.loop-at.at c.requires.legal c.requires.linked
    c.loop-at.invariant.along c.loop-at-test.true).lower _

pub loop-at-preserved : goal.loop-at-preserved
loop-at-preserved g c =
    let h = c.args.filings.now in
    let s =
    step c.args.filings.now c.args.befores.now c.args.links.now c.args.places.now.rows c.args.student c.loop-at.invariant.older c.loop-at.at c.requires.legal c.requires.linked
    c.loop-at.invariant.along c.loop-at-test.true in
    let own =
    enrolled_here c.args.filings.now c.args.befores.now c.args.links.now c.args.places.now.rows c.args.student c.loop-at.invariant.older c.loop-at.at c.requires.legal c.requires.linked
    c.loop-at.invariant.along c.loop-at-test.true s.filing (sym (s.read s.filing)) in
    let enrollment =
    enrollment_here c.args.filings.now c.args.befores.now c.args.links.now c.args.places.now.rows c.args.student c.loop-at.invariant.older c.loop-at.at c.requires.legal c.requires.linked
    c.loop-at.invariant.along c.loop-at-test.true s.filing (sym (s.read s.filing)) _ in
    over_step h c.args.befores.now c.args.links.now c.args.places.now.rows c.args.award c.args.student c.args.year c.loop-at.at c.loop-at.first c.loop-at.steps _
    c.requires.legal c.requires.linked c.loop-at.invariant c.loop-at-test.true s.filing (sym (s.read s.filing)) _
    c.earlier-first.result _
    (c.earlier-first.ensures ∙ ap (λ (o : Option Over). earlier_over o c.loop-at.first) (c.over_in-over.ensures.value s.filing c.args.student enrollment own))
    (omega (arith, c.tick.ensures, c.tick-in-loop-at.ensures, c.over_in-over.ensures.cost)) (omega (arith, c.tick.ensures, c.tick-in-loop-at.ensures, c.over_in-over.ensures.later))

pub returns-clause-value : goal.returns-clause-value
returns-clause-value g c =
    c.refusal.ensures
    ∙ over_end (reverse c.args.filings.now) c.args.award c.args.student c.args.year c.loop-at.at c.loop-at.first c.loop-at.steps _ c.requires.legal c.loop-at.invariant
    (omega (arith, c.loop-at-test.false))

pub returns-clause-counted : goal.returns-clause-counted
returns-clause-counted g c =
    over_looks (reverse c.args.filings.now) c.args.award c.args.student c.args.year c.loop-at.at c.loop-at.first c.loop-at.steps _ c.loop-at.invariant (omega (arith, c.loop-at-test.false))
