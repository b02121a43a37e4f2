use Rattle.std.proofs.Common.{◌≡◌, ℕ, ◌-◌, ◌∙◌, true, false, get_or, sym, ap, arith, rules}
use Rattle.std.proofs.lemmas.List.{get_or_default}
use Rattle.office_history.specs.Award.{scheduled}
use Rattle.office_history.specs.Net.{pell_year, use_in}
use Rattle.law_terms.specs.Used.{use_of}
use Rattle.office_history.proofs.Awards.{year_holds}
use Rattle.office_history.proofs.Numbers.{use_none}
use Rattle.office_plain.proofs.NoPell.{nothing_used}
use Rattle.office_plain.proofs.YearSums.{years_first, years_next, years_last, years_most}
use Rattle.office_plain.proofs.plain.PlainHistory.used.Goals as goal
use Rattle.office_plain.proofs.plain.PlainHistory.used.Goals.{then-paid-gt0, else-paid-gt0}

pub loop-year-init : goal.loop-year-init
loop-year-init c = omega (arith, years_first (use_in c.args.self.now c.args.student), c.prior_of-units.ensures.units)

pub loop-year-preserved-then-not-are_paid-from : goal.loop-year-preserved-then-not-are_paid-from
loop-year-preserved-then-not-are_paid-from c =
    let past = c.args.self.now in
    let year = c.loop-year.year in
    let years = c.pell_years-are_paid.result in
    let there : get_or years (year - 2000) false ≡ false = search rules in
    let unmarked : get_or years (year - 2000) true ≡ false = sym (get_or_default years (year - 2000) false true (omega (arith, c.loop-year-test.true))) ∙ there in
    let none = nothing_used past c.args.student year (c.pell_years-are_paid.ensures year unmarked) in
    let next = years_next (use_in past c.args.student) year c.loop-year-test.true in
    omega (arith, none, next, c.loop-year.invariant)

pub use_of-units-requires : goal.use_of-units-requires
use_of-units-requires c =
    let within = year_holds c.args.self.now c.front-filings.ensures.legal c.args.student c.loop-year.year in
    record { within = omega (arith, within, c.net_of-paid.ensures, c.scheduled.ensures) }

pub overflow_add-units : goal.overflow_add-units
overflow_add-units c =
    let past = c.args.self.now in
    let here : c.use_of-units.result ≡ use_in past c.args.student c.loop-year.year = c.use_of-units.ensures.value ∙ (λ i. use_of (c.net_of-paid.ensures i) (c.scheduled.ensures i)) in
    let next = years_next (use_in past c.args.student) c.loop-year.year c.loop-year-test.true in
    let most = years_most past c.front-filings.ensures.legal c.args.student in
    omega (arith, here, next, most, c.loop-year.invariant)

pub loop-year-preserved : goal.loop-year-preserved
loop-year-preserved c =
    let past = c.args.self.now in
    let award = scheduled past c.args.student c.loop-year.year in
    let next = years_next (use_in past c.args.student) c.loop-year.year c.loop-year-test.true in
    elim c.if-paid-gt0.branch [
      | then-paid-gt0 w ↦
          let here : w.use_of-units.result ≡ use_in past c.args.student c.loop-year.year = w.use_of-units.ensures.value ∙ (λ i. use_of (c.net_of-paid.ensures i) (w.scheduled.ensures i)) in
          omega (arith, next, here, c.loop-year.invariant, w.units-is)
      | else-paid-gt0 w ↦
          let none : pell_year past c.args.student c.loop-year.year ≡ 0 = omega (arith, w.if-paid-gt0.false, c.net_of-paid.ensures) in
          let here : use_in past c.args.student c.loop-year.year ≡ 0 = ap (λ (n : ℕ). use_of n award) none ∙ use_none award in
          omega (arith, next, here, c.loop-year.invariant, w.units-is)
    ]

pub returns : goal.returns
returns c =
    let last = years_last (use_in c.args.self.now c.args.student) c.loop-year.year c.loop-year-test.false in
    omega (arith, last, c.loop-year.invariant)
