use Rattle.std.proofs.Common.{◌≡◌, ◌∙◌, arith, ap, subst, sym, slice_index, Option}
use Rattle.std.specs.Prelude.{IsSome}
use Rattle.aid_types.specs.Programs.{rank}
use Rattle.aid_types.specs.declared.term.Term.{Term}
use Rattle.office_history.specs.Net.{cell_at, is_cell, paid_after}
use Rattle.office_history.specs.Positions.{is_paid_beside, least_code}
use Rattle.office_history.specs.Past.{terms_on_file, the_term}
use Rattle.office_history.proofs.Sixes.{six-rank}
use Rattle.office_history.specs.declared.rows.TermRow.{TermRow}
use Rattle.office_answers.proofs.gathered.payment_facts.Goals as goal

pub returns-clause-facts : goal.returns-clause-facts
returns-clause-facts g c =
    let past = g.P.HistoryView.history c.args.past.now in
    let program = rank c.args.program in
    let aid = c.aid_facts-aid.ensures in
    let code : c.beside-other_school.result.1 ≡ least_code (is_paid_beside past c.args.school c.args.student (the_term past c.args.school c.args.year c.args.number)) (terms_on_file past) =
    c.beside-other_school.ensures.code
    ∙ (λ i. least_code (is_paid_beside past c.args.school c.args.student (aid.term i).term) (terms_on_file past)) in
    let after : c.at.result ≡ paid_after past (is_cell (cell_at c.args.school c.args.student c.args.year c.args.number program)) =
    c.at.ensures
    ∙ (λ i. slice_index (aid.place i).account.after program)
    ∙ six-rank (λ p. paid_after past (is_cell (cell_at c.args.school c.args.student c.args.year c.args.number p))) c.args.program in
    λ i. record (aid.facts i) {
      ceiling_index = (aid.year i).ceiling.index;
      ceiling_bound = (aid.year i).ceiling.bound;
      used_else = c.used_else.ensures.value i;
      other_school = code i;
      after = after i;
      after_all = (aid.place i).account.after_all;
      post = (aid.place i).account.post;
      could = (aid.place i).could;
    }

-- where the term is on file, the walk along the student's places is counted
pub returns-clause-walked : goal.returns-clause-walked
returns-clause-walked g c = λ counts some.
    let aid = c.aid_facts-aid.ensures in
    let this : IsSome c.aid_facts-aid.result.term.term = subst (λ (t : Option Term). IsSome t) (sym (ap (λ (r : TermRow). r.term) aid.term)) some in
    omega (arith, aid.later, c.beside-other_school.ensures.walked counts this)
