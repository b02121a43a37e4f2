-- The rows of an index with no filing.
use Rattle.std.proofs.Common.{◌≡◌, refl, subst, sym, zero-le, List, [], reverse}
use Rattle.std.proofs.lemmas.Option.{none-some}
use Rattle.aid_filings.specs.declared.filing.Filing.{Filing}
use Rattle.aid_filings.specs.declared.reply.Outcome.{Outcome}
use Rattle.law_terms.specs.Used.{use_of}
use Rattle.office_history.specs.Net.{all_years}
use Rattle.office_index.specs.Index.{IndexRows, IsIndexed}
use Rattle.office_updates.specs.Links.{AreLinked}

abbrev pub no_rows : IndexRows
no_rows = record { keys = []; books = []; schools = []; students = []; places = []; years = []; school_years = []; befores = []; links = [] }

none_linked : AreLinked [] [] [] []
none_linked = record {
  befores_are = refl;
  count = refl;
  places = λ i f e l at is link. absurd (none-some f at);
}

none_indexed : IsIndexed [] [] no_rows
unfolding all_years use_of
none_indexed = record {
  legal = tt;
  outcomes_kept = refl;
  keys = λ key. refl;
  books = λ year. refl;
  schools = λ code. refl;
  students = λ student. refl;
  places = λ school student year term. refl;
  years = λ student year. refl;
  school_years = λ school student year. refl;
  links = none_linked;
  all_keys = refl;
  few_books = zero-le;
  few_schools = zero-le;
  few_students = zero-le;
  few_places = zero-le;
  few_years = zero-le;
  few_school_years = zero-le;
}

pub empty_indexed : (h : List Filing) (outcomes : List Outcome) (rows : IndexRows) → h ≡ [] → outcomes ≡ [] → rows ≡ no_rows → IsIndexed (reverse h) outcomes rows
empty_indexed h outcomes rows none kept same =
    subst (λ (l : List Filing). IsIndexed (reverse l) outcomes rows) (sym none)
    (subst (λ (l : List Outcome). IsIndexed [] l rows) (sym kept) (subst (λ (r : IndexRows). IsIndexed [] [] r) (sym same) none_indexed))
