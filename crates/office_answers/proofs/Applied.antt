-- What an application brings under the book of its year, with its award.
use Rattle.std.proofs.Common.{◌≡◌, ◌≤◌, refl, sym, ap, subst, ◌∙◌, Bool, true, ◌&&◌, List, Option, Some, None, zero-le, eq-eqb}
use Rattle.std.specs.Prelude.{◌==◌}
use Rattle.aid_books.specs.declared.book.Book.{Book}
use Rattle.aid_filings.specs.declared.filing.Filing.{Filing}
use Rattle.aid_filings.specs.declared.filing.What.TheVariants.{Apply}
use Rattle.aid_types.specs.declared.application.Application.{Application}
use Rattle.aid_types.specs.declared.award.Refusal.{Refusal}
use Rattle.law_pell.proofs.AwardLaws.{decision_under-award}
use Rattle.law_pell.specs.Award.{decision_of}
use Rattle.law_sai.specs.Formulas.{formula}
use Rattle.law_sai.specs.Indices.{index_of}
use Rattle.office_history.specs.Answer.{breaks, indexed, outcome_in}
use Rattle.office_history.specs.Award.{award_under, scheduled_of, unfit_under}
use Rattle.office_history.specs.Positions.{if_fit}
use Rattle.office_history.specs.Past.{application, given, higher, the_book}
use Rattle.office_history.proofs.Awards.{correction, higher_wins}
use Rattle.office_history.proofs.Greatest.{award_at_most}
use Rattle.office_answers.specs.Brought.{awarded, brought_by}

-- the award that it brings is its own under the book, 0 where it is out of range
pub award_brought : (unfit : Option Refusal) (book : Option Book) (a : Application) → awarded (brought_by unfit book a) ≡ if_fit unfit (award_under book (Some a))
unfolding scheduled_of
award_brought None None a = refl
award_brought None (Some b) a = refl
award_brought (Some refusal) book a = refl

pub brought_at_most : (unfit : Option Refusal) (book : Option Book) (a : Application) → awarded (brought_by unfit book a) ≤ 100000
brought_at_most None None a = zero-le
brought_at_most None (Some b) a = award_at_most b.pell (decision_of b a).scheduled (decision_under-award (formula b a) b a (index_of b a))
brought_at_most (Some refusal) book a = zero-le

-- ---- one that breaks no rule
of_kind : (f : Filing) (a : Application) → f.what ≡ Apply a → f ≡ record { key = f.key; what = Apply a }
of_kind f a is = λ i. record { key = f.key; what = is i }

-- it is in range
pub fits : (past : List Filing) (f : Filing) (a : Application) → f.what ≡ Apply a → breaks past f ≡ None → unfit_under (the_book past a.year) a ≡ None
fits past f a is sound =
    (correction past f.key a (subst (λ (g : Filing). breaks past g ≡ None) (of_kind f a is) sound)).fit

-- it is the one in force from then on
pub outcome : (past : List Filing) (f : Filing) (a : Application) → f.what ≡ Apply a → breaks past f ≡ None →
    outcome_in past f (Apply a) ≡ indexed (the_book past a.year) (Some a)
outcome past f a is sound =
    let whole = of_kind f a is in
    let rule : breaks past (record { key = f.key; what = Apply a }) ≡ None = subst (λ (g : Filing). breaks past g ≡ None) whole sound in
    let same : (a.student == a.student && a.year == a.year) ≡ true = rw (eq-eqb a.student a.student refl, eq-eqb a.year a.year refl) refl in
    let wins : higher (given (a.student == a.student && a.year == a.year) a) (application past a.student a.year) ≡ Some a =
    ap (λ (b : Bool). higher (given b a) (application past a.student a.year)) same
    ∙ higher_wins a (application past a.student a.year) (correction past f.key a rule).above in
    subst (λ (g : Filing). outcome_in past g (Apply a) ≡ indexed (the_book past a.year) (Some a)) (sym whole) (ap (indexed (the_book past a.year)) wins)
