use Rattle.std.proofs.Common.{◌∙◌, sym, ap, subst, arith, reverse, Option}
use Rattle.std.specs.Prelude.{IsSome}
use Rattle.aid_types.specs.declared.term.Term.{Term}
use Rattle.office_history.specs.Positions.{is_paid_beside, least_code}
use Rattle.office_history.specs.Past.{terms_on_file}
use Rattle.office_updates.proofs.EnrollmentsTerms.{none_beside}
use Rattle.office_updates.proofs.EnrollmentsWalk.{beside_end, beside_looks, beside_step, enrolled_here, enrollment_here, inside_links, step}
use Rattle.office_updates.proofs.enrollments.paid_beside.Goals as goal

-- beside no term nothing is paid
pub returns-in_default-clause-value : goal.returns-in_default-clause-value
returns-in_default-clause-value g c =
    let past = reverse c.args.filings.now in
    sym (ap (λ (o : Option Term). least_code (is_paid_beside past c.args.school c.args.student o) (terms_on_file past)) c.in_default.is
    ∙ none_beside past c.args.school c.args.student (terms_on_file past))

pub returns-in_default-clause-counted : goal.returns-in_default-clause-counted
returns-in_default-clause-counted g c = λ some. let none = subst (λ (o : Option Term). IsSome o) c.in_default.is some in absurd cc

pub bounds-links-index : goal.bounds-links-index
bounds-links-index g c =
    inside_links c.args.filings.now c.args.befores.now c.args.links.now c.args.places.now.rows c.args.student c.loop-at.invariant.older c.loop-at.at c.requires.legal c.requires.linked
    c.loop-at.invariant.along c.loop-at-test.true

pub bounds-befores-index : goal.bounds-befores-index
bounds-befores-index g c =
    (step c.args.filings.now c.args.befores.now c.args.links.now c.args.places.now.rows c.args.student c.loop-at.invariant.older c.loop-at.at c.requires.legal c.requires.linked
    c.loop-at.invariant.along c.loop-at-test.true).inside_befores

pub with_beside-least-requires-clause-enrollment : goal.with_beside-least-requires-clause-enrollment
with_beside-least-requires-clause-enrollment g c =
    let s =
    step c.args.filings.now c.args.befores.now c.args.links.now c.args.places.now.rows c.args.student c.loop-at.invariant.older c.loop-at.at c.requires.legal c.requires.linked
    c.loop-at.invariant.along c.loop-at-test.true in (
      s.filing,
      enrollment_here c.args.filings.now c.args.befores.now c.args.links.now c.args.places.now.rows c.args.student c.loop-at.invariant.older c.loop-at.at c.requires.legal c.requires.linked
          c.loop-at.invariant.along c.loop-at-test.true s.filing (sym (s.read s.filing)) _,
    )

pub loop-at-smaller : goal.loop-at-smaller
loop-at-smaller g c =
    (step c.args.filings.now c.args.befores.now c.args.links.now c.args.places.now.rows c.args.student c.loop-at.invariant.older c.loop-at.at c.requires.legal c.requires.linked
    c.loop-at.invariant.along c.loop-at-test.true).lower _

pub loop-at-preserved : goal.loop-at-preserved
loop-at-preserved g c =
    let h = c.args.filings.now in
    let s =
    step c.args.filings.now c.args.befores.now c.args.links.now c.args.places.now.rows c.args.student c.loop-at.invariant.older c.loop-at.at c.requires.legal c.requires.linked
    c.loop-at.invariant.along c.loop-at-test.true in
    let own =
    enrolled_here c.args.filings.now c.args.befores.now c.args.links.now c.args.places.now.rows c.args.student c.loop-at.invariant.older c.loop-at.at c.requires.legal c.requires.linked
    c.loop-at.invariant.along c.loop-at-test.true s.filing (sym (s.read s.filing)) in
    let enrollment =
    enrollment_here c.args.filings.now c.args.befores.now c.args.links.now c.args.places.now.rows c.args.student c.loop-at.invariant.older c.loop-at.at c.requires.legal c.requires.linked
    c.loop-at.invariant.along c.loop-at-test.true s.filing (sym (s.read s.filing)) _ in
    beside_step h c.args.befores.now c.args.links.now c.args.places.now.rows c.args.school c.args.student c.in-Some.term c.loop-at.at c.loop-at.least c.loop-at.steps _
    c.requires.legal c.requires.linked c.loop-at.invariant c.loop-at-test.true s.filing (sym (s.read s.filing)) _
    c.with_beside-least.result _ (c.with_beside-least.ensures.value s.filing c.args.student enrollment own)
    (omega (arith, c.tick.ensures, c.tick-in-loop-at.ensures, c.with_beside-least.ensures.cost)) (omega (arith, c.tick.ensures, c.tick-in-loop-at.ensures, c.with_beside-least.ensures.later))

pub returns-clause-value : goal.returns-clause-value
returns-clause-value g c =
    let past = reverse c.args.filings.now in
    beside_end past c.args.school c.args.student c.in-Some.term c.loop-at.at c.loop-at.least c.loop-at.steps _ c.requires.legal c.loop-at.invariant (omega (arith, c.loop-at-test.false))
    ∙ ap (λ (o : Option Term). least_code (is_paid_beside past c.args.school c.args.student o) (terms_on_file past)) (sym c.in-Some.is)

pub returns-clause-counted : goal.returns-clause-counted
returns-clause-counted g c = λ some.
    beside_looks (reverse c.args.filings.now) c.args.school c.args.student c.in-Some.term c.loop-at.at c.loop-at.least c.loop-at.steps _ c.loop-at.invariant (omega (arith, c.loop-at-test.false))

pub returns-clause-later : goal.returns-clause-later
returns-clause-later g c =
    let all =
    beside_looks (reverse c.args.filings.now) c.args.school c.args.student c.in-Some.term c.loop-at.at c.loop-at.least c.loop-at.steps _ c.loop-at.invariant (omega (arith, c.loop-at-test.false)) in
    omega arith
