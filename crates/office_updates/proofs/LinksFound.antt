-- A term of a school that is found: no older one has its year and number, so a walk may end there.
use Rattle.std.proofs.Common.{◌≡◌, ℕ, ◌+◌, ◌-◌, ◌*◌, ◌<◌, ◌≤◌, refl, sym, ap, subst, ◌∙◌, arith, cond, Bool, true, false, ◌&&◌, List, ◌∷◌, ◌++◌, reverse, get_or, Option, Some, None, append_assoc, eqb-true}
use Rattle.std.specs.Prelude.{◌==◌, is_some}
use Rattle.std.proofs.lemmas.Bool.{and_parts}
use Rattle.aid_types.specs.declared.number.Key.{Key}
use Rattle.aid_filings.specs.Calendars.{term_of}
use Rattle.aid_types.specs.declared.term.Term.{Term}
use Rattle.aid_filings.specs.declared.filing.CalendarFacts.{CalendarFacts}
use Rattle.aid_filings.specs.declared.filing.Filing.{Filing}
use Rattle.aid_filings.specs.declared.filing.What.{What}
use Rattle.aid_filings.specs.declared.filing.What.TheVariants.{Book, School, Calendar, Prior, Apply, Enroll, Originate, Pay, Withdraw, Repay, Adjust, Cost, Sent, Amend}
use Rattle.office_history.specs.Answer.{IsLegal, breaks}
use Rattle.office_history.specs.Rules.{rules_of}
use Rattle.office_history.specs.Positions.{term_at}
use Rattle.office_history.specs.Past.{at_school, earlier, first_of_two, given, later, term_in, the_term}
use Rattle.office_history.specs.Rows.{term_row, terms_at}
use Rattle.office_history.specs.declared.rows.TermRow.{TermRow}
use Rattle.office_history.proofs.Asked.{none_told}
use Rattle.aid_types.proofs.Holds.{all_hold, stands_holds}
use Rattle.office_history.proofs.Legal.{older_legal}
use Rattle.office_updates.specs.Links.{befores_of, is_term_of}
use Rattle.office_updates.proofs.LinksTerms.{IsTermWalk, asked_here, filed_here, no_term, term_at_hand, walked_earliest, walked_first, walked_one}

-- a term that is admitted is the first of its school, year and number
first_filed : (past : List Filing) (key : Key) (c : CalendarFacts) → breaks past (record { key = key; what = Calendar c }) ≡ None → term_at past key.school c.year c.term ≡ 0
first_filed past key c h =
    let k = all_hold (rules_of past key (Calendar c)) h in
    stands_holds 20 (term_at past key.school c.year c.term) c.term k.1.1.0

-- the same by what it tells
none_older : (past : List Filing) (school year number : ℕ) (key : Key) (what : What) → key.school ≡ school → breaks past (record { key = key; what = what }) ≡ None →
    is_some (term_in year number what) ≡ true → term_at past school year number ≡ 0
none_older past school year number key (Calendar c) of sound tells =
    let both = and_parts (c.year == year) (c.term == number) (passed (term_of c) (c.year == year && c.term == number) tells) in
    sym (same of (eqb-true c.year year both.0) (eqb-true c.term number both.1)) ∙ first_filed past key c sound
  where
    passed : (t : Term) (b : Bool) → is_some (given b t) ≡ true → b ≡ true
    passed t true h = refl
    passed t false h = absurd cc

    same : {a b c d e f : ℕ} → a ≡ b → c ≡ d → e ≡ f → term_at past a c e ≡ term_at past b d f
    same p q r = λ i. term_at past (p i) (q i) (r i)
none_older past school year number key (Book b) of sound tells = absurd cc
none_older past school year number key (School b) of sound tells = absurd cc
none_older past school year number key (Prior b) of sound tells = absurd cc
none_older past school year number key (Apply b) of sound tells = absurd cc
none_older past school year number key (Enroll b) of sound tells = absurd cc
none_older past school year number key (Originate b) of sound tells = absurd cc
none_older past school year number key (Pay b) of sound tells = absurd cc
none_older past school year number key (Withdraw b) of sound tells = absurd cc
none_older past school year number key (Repay b) of sound tells = absurd cc
none_older past school year number key (Adjust b) of sound tells = absurd cc
none_older past school year number key (Cost b) of sound tells = absurd cc
none_older past school year number key (Sent b) of sound tells = absurd cc
none_older past school year number key (Amend b) of sound tells = absurd cc

module _ (h : List Filing) (befores : List ℕ) (school year number n steps begun : ℕ) (legal : IsLegal (reverse h))
    (linked : befores ≡ befores_of (reverse h))
    (w : IsTermWalk (reverse h) school year number n (record { at = 0; term = None }) steps begun) (pos : 0 < n) where
  -- the term at the walk's position is the one on file
  pub term_found : (f : Filing) → f ≡ get_or h (n - 1) f → (t : Term) → term_in year number f.what ≡ Some t →
      ◌≡◌ {A = TermRow} (record { at = n; term = Some t }) (term_row (reverse h) school year number)
  term_found f read t told =
      let s = term_at_hand h befores school w.older n linked w.along pos in
      let same : f ≡ s.filing = read ∙ s.read f in
      let tells : term_in year number s.filing.what ≡ Some t = ap (λ (x : Filing). term_in year number x.what) (sym same) ∙ told in
      let asked : at_school school (term_in year number) s.filing ≡ Some t = asked_here school (term_in year number) s.filing s.passes ∙ tells in
      let whole : reverse h ≡ (w.along.newer ++ s.skipped) ++ s.filing ∷ s.rest =
      w.along.split ∙ ap (λ (l : List Filing). w.along.newer ++ l) s.split ∙ sym (append_assoc w.along.newer s.skipped (s.filing ∷ s.rest)) in
      let sound : IsLegal (s.filing ∷ s.rest) = older_legal (w.along.newer ++ s.skipped) (s.filing ∷ s.rest) (subst IsLegal whole legal) in
      let none : term_at s.rest school year number ≡ 0 =
      none_older s.rest school year number s.filing.key s.filing.what (eqb-true s.filing.key.school school (filed_here school s.filing s.passes)) sound.2 (ap is_some tells) in
      let none_there : the_term s.rest school year number ≡ None = none_told (at_school school (term_in year number)) s.rest none in
      let place : term_at (reverse h) school year number ≡ n =
      walked_first (is_term_of school) h befores w.older n s (λ x. is_some (at_school school (term_in year number) x))
      (λ x fails. ap is_some (no_term school year number x fails)) (term_at (reverse h) school year number) 0 w.place
      ∙ ap (λ (o : Option Term). first_of_two true (term_at s.rest school year number) (cond (is_some o) n 0)) asked
      ∙ ap (λ (k : ℕ). first_of_two true k n) none in
      let term : the_term (reverse h) school year number ≡ Some t =
      walked_earliest (is_term_of school) h befores w.older n s (at_school school (term_in year number)) (no_term school year number)
      (the_term (reverse h) school year number) None w.term
      ∙ ap (λ (o : Option Term). earlier (later o None) (the_term s.rest school year number)) asked
      ∙ ap (λ (o : Option Term). earlier (Some t) o) none_there in
      λ i. record { at = sym place i; term = sym term i }

  -- and so far no more than two looks a term were taken, the one at this filing too
  pub found_looks : steps + 1 ≤ begun + 2 * terms_at (reverse h) school
  found_looks =
      let s = term_at_hand h befores school w.older n linked w.along pos in
      let k = walked_one (is_term_of school) h befores w.older n s in
      let all = w.cost in
      omega arith
