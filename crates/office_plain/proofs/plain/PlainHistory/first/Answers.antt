use Rattle.std.proofs.Common.{◌≡◌, ◌∙◌, sym, ap, List, reverse, take, take_all}
use Rattle.std.specs.Prelude.{is_some}
use Rattle.aid_filings.specs.declared.filing.Filing.{Filing}
use Rattle.office_history.specs.Past.{earliest, first_at}
use Rattle.office_plain.proofs.Earliest.{found_at}
use Rattle.office_plain.proofs.plain.PlainHistory.first.Goals as goal

pub returns-in-Some-clause-position : goal.returns-in-Some-clause-position
returns-in-Some-clause-position g c = λ told answers.
    let h = c.self.inside.filings.now in
    let none = c.loop-index.invariant told answers in
    (found_at told h c.loop-index.index c.index-filings-index.result c.in-Some.told c.loop-index-test.true c.index-filings-index.is none.0 none.1 (sym (answers _ _ c.in-Some.ensures))).0
    ∙ ap (first_at (λ x. is_some (told x))) c.self.view_is

pub returns-in-Some-clause-told : goal.returns-in-Some-clause-told
returns-in-Some-clause-told g c = λ told answers.
    let h = c.self.inside.filings.now in
    let none = c.loop-index.invariant told answers in
    (found_at told h c.loop-index.index c.index-filings-index.result c.in-Some.told c.loop-index-test.true c.index-filings-index.is none.0 none.1 (sym (answers _ _ c.in-Some.ensures))).1
    ∙ ap (earliest told) c.self.view_is

pub returns-clause-position : goal.returns-clause-position
returns-clause-position g c = λ told answers.
    let whole : reverse (take c.loop-index.index c.self.inside.filings.now) ≡ c.args.self.now = ap (λ (l : List Filing). reverse l) (take_all _ _ c.loop-index-test.false) ∙ c.self.view_is in
    sym (c.loop-index.invariant told answers).0 ∙ ap (first_at (λ x. is_some (told x))) whole
