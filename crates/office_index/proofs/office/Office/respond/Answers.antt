use Rattle.std.proofs.Common.{◌≡◌, ℕ, ◌+◌, ◌*◌, ◌^◌, ◌<◌, ◌≤◌, true, List, Option, Some, None, refl, ap, subst, sym, ◌∙◌, arith, length}
use Rattle.std.specs.Prelude.{IsSome, IsTrue}
use Rattle.aid_filings.specs.declared.filing.Filing.{Filing}
use Rattle.aid_filings.specs.declared.reply.Operation.TheVariants.{Quote}
use Rattle.aid_filings.specs.declared.reply.StandingRow.{StandingRow}
use Rattle.aid_filings.specs.declared.reply.Response.TheVariants.{Quoted, Standing}
use Rattle.aid_types.specs.declared.term.Term.{Term}
use Rattle.aid_types.specs.RuleLines.{first_broken}
use Rattle.office_history.specs.Answer.{IsLegal, answer_of, answer_to, quote_of, standing_of}
use Rattle.office_history.specs.FirstEnrollments.{places_of}
use Rattle.office_history.specs.Past.{the_term}
use Rattle.office_history.specs.Rules.{payment_rules}
use Rattle.office_index.specs.Register.{Register}
use Rattle.office_index.specs.WalkedFor.{walked_for}
use Rattle.office_index.proofs.AnswerLaws.{judged_new, stands_there, used_there}
use Rattle.office_index.proofs.Digits.{digits_least}
use Rattle.office_index.proofs.Quoted.{payable, unpayable}
use Rattle.office_index.proofs.StandingLemmas.{standing}
use Rattle.office_index.proofs.Unpaid.{unpaid}
use Rattle.office_index.proofs.office.Office.respond.Goals as goal

-- the index counts
it_counts : IsTrue true
it_counts = refl

-- two looks a digit, six, five or three times
six_times : (old new lookups digits walked counted : ℕ) → new ≤ old + 6 * (2 * lookups) + 4 * walked → lookups ≤ digits → counted ≡ walked → new ≤ old + 12 * digits + 4 * counted
six_times old new lookups digits walked counted cost few same = omega arith

five_times : (old new lookups digits walked counted : ℕ) → new ≤ old + 5 * (2 * lookups) + 4 * walked → lookups ≤ digits → counted ≡ walked → new ≤ old + 12 * digits + 4 * counted
five_times old new lookups digits walked counted cost few same = omega arith

three_times : (old new lookups digits counted : ℕ) → new ≤ old + 3 * (2 * lookups) → lookups ≤ digits → new ≤ old + 12 * digits + 4 * counted
three_times old new lookups digits counted cost few = omega arith

pub returns-in-File-clause-again : goal.returns-in-File-clause-again
returns-in-File-clause-again g c =
    λ f position asked at.
    let past = c.args.self.now.history in
    let view : c.self.inside.indexed.history ≡ past = ap (λ (r : Register). r.history) c.self.view_is in
    let legal : IsLegal past = subst IsLegal view c.front-filings.ensures.legal in
    let same : c.in-File.filing ≡ f = cc in
    let told : c.answer.result ≡ answer_of past f = c.answer.ensures.value ∙ ap (λ (h : List Filing). answer_of h c.in-File.filing) view ∙ ap (answer_of past) same in
    told ∙ standing past position f legal at

pub returns-in-File-clause-stands : goal.returns-in-File-clause-stands
returns-in-File-clause-stands g c =
    λ f position outcome asked said.
    let past = c.args.self.now.history in
    let view : c.self.inside.indexed.history ≡ past = ap (λ (r : Register). r.history) c.self.view_is in
    let same : c.in-File.filing ≡ f = cc in
    let told : c.answer.result ≡ answer_of past f = c.answer.ensures.value ∙ ap (λ (h : List Filing). answer_of h c.in-File.filing) view ∙ ap (answer_of past) same in
    stands_there past f position outcome (sym told ∙ said)

pub returns-in-File-clause-accepts : goal.returns-in-File-clause-accepts
returns-in-File-clause-accepts g c =
    λ f asked new sound.
    let past = c.args.self.now.history in
    let view : c.self.inside.indexed.history ≡ past = ap (λ (r : Register). r.history) c.self.view_is in
    let same : c.in-File.filing ≡ f = cc in
    let told : c.answer.result ≡ answer_of past f = c.answer.ensures.value ∙ ap (λ (h : List Filing). answer_of h c.in-File.filing) view ∙ ap (answer_of past) same in
    told ∙ judged_new past f None new sound

pub returns-in-File-clause-refuses : goal.returns-in-File-clause-refuses
returns-in-File-clause-refuses g c =
    λ f refusal asked new broken.
    let past = c.args.self.now.history in
    let view : c.self.inside.indexed.history ≡ past = ap (λ (r : Register). r.history) c.self.view_is in
    let same : c.in-File.filing ≡ f = cc in
    let told : c.answer.result ≡ answer_of past f = c.answer.ensures.value ∙ ap (λ (h : List Filing). answer_of h c.in-File.filing) view ∙ ap (answer_of past) same in
    told ∙ judged_new past f (Some refusal) new broken

pub returns-in-File-clause-used : goal.returns-in-File-clause-used
returns-in-File-clause-used g c =
    λ f refusal asked said fifteen.
    let past = c.args.self.now.history in
    let view : c.self.inside.indexed.history ≡ past = ap (λ (r : Register). r.history) c.self.view_is in
    let legal : IsLegal past = subst IsLegal view c.front-filings.ensures.legal in
    let same : c.in-File.filing ≡ f = cc in
    let told : c.answer.result ≡ answer_of past f = c.answer.ensures.value ∙ ap (λ (h : List Filing). answer_of h c.in-File.filing) view ∙ ap (answer_of past) same in
    used_there past f refusal legal (sym told ∙ said) fifteen

pub returns-in-File-clause-counted : goal.returns-in-File-clause-counted
returns-in-File-clause-counted g c =
    λ digits few.
    let past = c.self.inside.indexed.history in
    let view : c.args.self.now.history ≡ past = sym (ap (λ (r : Register). r.history) c.self.view_is) in
    six_times _ _ _ digits _ (walked_for c.args.self.now.history c.args.operation.now) c.answer.ensures.cost
    (digits_least (length past) digits (subst (λ (h : List Filing). length h < 2 ^ digits) view few))
    (ap (λ (h : List Filing). walked_for h c.args.operation.now) view ∙ ap (walked_for past) c.in-File.is)

pub returns-in-Quote-clause-answer : goal.returns-in-Quote-clause-answer
returns-in-Quote-clause-answer g c =
    let past = c.args.self.now.history in
    let q = c.in-Quote in
    let view : c.self.inside.indexed.history ≡ past = ap (λ (r : Register). r.history) c.self.view_is in
    ap (λ (n : ℕ). Quoted n) (c.quote.ensures.value ∙ ap (λ (h : List Filing). quote_of h q.school q.student q.year q.term) view)
    ∙ sym (ap (answer_to past) q.is)

pub returns-in-Quote-clause-quoted : goal.returns-in-Quote-clause-quoted
returns-in-Quote-clause-quoted g c =
    λ f a dollars cents what program amount some asked said most.
    let past = c.args.self.now.history in
    let q = c.in-Quote in
    let view : c.self.inside.indexed.history ≡ past = ap (λ (r : Register). r.history) c.self.view_is in
    let same : Quote q.school q.student q.year q.term ≡ Quote f.key.school a.student a.year a.term = sym q.is ∙ asked in
    let school : f.key.school ≡ q.school = cc in
    let student : a.student ≡ q.student = cc in
    let year : a.year ≡ q.year = cc in
    let term : a.term ≡ q.term = cc in
    let sum : c.quote.result ≡ cents = cc in
    payable past f q.school q.student q.year q.term dollars (a, what, program, amount, school, student, year, term)
    (subst (λ (h : List Filing). first_broken (payment_rules h q.school q.student q.year q.term 3 (100 * dollars)) ≡ None) view
    (c.quote.ensures.below dollars some (omega (arith, sum, amount, most))))

pub returns-in-Quote-clause-greatest : goal.returns-in-Quote-clause-greatest
returns-in-Quote-clause-greatest g c =
    λ f a dollars cents what program amount asked said above.
    let past = c.args.self.now.history in
    let q = c.in-Quote in
    let view : c.self.inside.indexed.history ≡ past = ap (λ (r : Register). r.history) c.self.view_is in
    let same : Quote q.school q.student q.year q.term ≡ Quote f.key.school a.student a.year a.term = sym q.is ∙ asked in
    let school : f.key.school ≡ q.school = cc in
    let student : a.student ≡ q.student = cc in
    let year : a.year ≡ q.year = cc in
    let term : a.term ≡ q.term = cc in
    let sum : c.quote.result ≡ cents = cc in
    let over : c.quote.result < 100 * dollars = omega (arith, sum, amount, above) in
    unpayable past f q.school q.student q.year q.term dollars (a, what, program, amount, school, student, year, term)
    (subst (λ (n : ℕ). n < 100 * dollars)
    (c.quote.ensures.value ∙ ap (λ (h : List Filing). quote_of h q.school q.student q.year q.term) view) over)

pub returns-in-Quote-clause-walked : goal.returns-in-Quote-clause-walked
returns-in-Quote-clause-walked g c =
    λ school student year term asked some.
    let q = c.in-Quote in
    let view : c.args.self.now.history ≡ c.self.inside.indexed.history = sym (ap (λ (r : Register). r.history) c.self.view_is) in
    let same : Quote q.school q.student q.year q.term ≡ Quote school student year term = sym q.is ∙ asked in
    let own_school : school ≡ q.school = cc in
    let own_student : student ≡ q.student = cc in
    let own_year : year ≡ q.year = cc in
    let own_term : term ≡ q.term = cc in
    let there : IsSome (the_term c.self.inside.indexed.history q.school q.year q.term) =
    subst (λ (o : Option Term). IsSome o) (λ i. the_term (view i) (own_school i) (own_year i) (own_term i)) some in
    let walked = c.quote.ensures.walked it_counts there in
    let places : places_of c.args.self.now.history student ≡ places_of c.self.inside.indexed.history q.student = λ i. places_of (view i) (own_student i) in
    omega (arith, walked, places)

pub returns-in-Quote-clause-counted : goal.returns-in-Quote-clause-counted
returns-in-Quote-clause-counted g c =
    λ digits few.
    let past = c.self.inside.indexed.history in
    let view : c.args.self.now.history ≡ past = sym (ap (λ (r : Register). r.history) c.self.view_is) in
    five_times _ _ _ digits _ (walked_for c.args.self.now.history c.args.operation.now) c.quote.ensures.cost
    (digits_least (length past) digits (subst (λ (h : List Filing). length h < 2 ^ digits) view few))
    (ap (λ (h : List Filing). walked_for h c.args.operation.now) view ∙ ap (walked_for past) c.in-Quote.is)

pub returns-in-Standing-clause-answer : goal.returns-in-Standing-clause-answer
returns-in-Standing-clause-answer g c =
    let past = c.args.self.now.history in
    let q = c.in-Standing in
    let view : c.self.inside.indexed.history ≡ past = ap (λ (r : Register). r.history) c.self.view_is in
    ap (λ (row : StandingRow). Standing row) (c.standing.ensures.value ∙ ap (λ (h : List Filing). standing_of h q.student q.year) view)
    ∙ sym (ap (answer_to past) q.is)

pub returns-in-Standing-clause-unpaid : goal.returns-in-Standing-clause-unpaid
returns-in-Standing-clause-unpaid g c =
    λ student year row asked said none.
    let past = c.args.self.now.history in
    let q = c.in-Standing in
    let view : c.self.inside.indexed.history ≡ past = ap (λ (r : Register). r.history) c.self.view_is in
    let legal : IsLegal past = subst IsLegal view c.front-filings.ensures.legal in
    let same : c.standing.result ≡ row = cc in
    let told : row ≡ standing_of past q.student q.year =
    sym same ∙ c.standing.ensures.value ∙ ap (λ (h : List Filing). standing_of h q.student q.year) view in
    ap (λ (r : StandingRow). r.paid) told
    ∙ unpaid past q.student q.year legal (sym (ap (λ (r : StandingRow). r.transaction) told) ∙ none)

pub returns-in-Standing-clause-counted : goal.returns-in-Standing-clause-counted
returns-in-Standing-clause-counted g c =
    λ digits few.
    let past = c.self.inside.indexed.history in
    let view : c.args.self.now.history ≡ past = sym (ap (λ (r : Register). r.history) c.self.view_is) in
    three_times _ _ _ digits (walked_for c.args.self.now.history c.args.operation.now) c.standing.ensures.cost
    (digits_least (length past) digits (subst (λ (h : List Filing). length h < 2 ^ digits) view few))
