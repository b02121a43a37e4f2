-- The rows of a text, one behind the other.
use Rattle.std.proofs.Common.{◌≡◌, ◌+◌, ◌≤◌, ℕ, suc, List, [], ◌∷◌, ◌++◌, length, map, Some, None, Result, Ok, Err, refl, sym, ap, ◌∙◌, arith, subst, append-nil, append_assoc, length-append}
use Rattle.std.specs.List.{flat_map}
use Rattle.aid_filings.specs.declared.filing.Filing.{Filing}
use Rattle.format_rows.specs.Lines.{error_line}
use Rattle.format_rows.specs.Meanings.{meanings_from}
use Rattle.format_rows.specs.declared.error.RowError.{RowError}
use Rattle.office_amends.specs.Gathered.{Gathers, HasGathered, IsRecord, misfit, misfit_line, one_if_own, own_records}
use Rattle.office_amends.specs.Gathered as step
use Rattle.office_amends.specs.Rows.{SaysRow}
use Rattle.office_amends.specs.declared.correction.Correction.{Correction}
use Rattle.office_amends.specs.declared.correction.CorrectionRow.{CorrectionRow}
use Rattle.office_amends.specs.declared.gathered.Gathered.{Gathered}

-- rows of any fields mean their fields
abbrev pub meant : List (List ℕ) → Result (List (List ℕ)) RowError
meant texts = Ok texts

pub fields_meant : (row : ℕ) (rows : List (List (List ℕ))) → meanings_from (λ (row : ℕ) (texts : List (List ℕ)). meant texts) row rows ≡ map meant rows
fields_meant row [] = refl
fields_meant row (texts ∷ rows) = ap (λ (l : List (Result (List (List ℕ)) RowError)). meant texts ∷ l) (fields_meant (suc row) rows)

-- ---- one line or correction more
flat-push : (lines : List (List ℕ)) (line : List ℕ) → flat_map (λ l. l) (lines ++ line ∷ []) ≡ flat_map (λ l. l) lines ++ line
flat-push [] line = append-nil line
flat-push (l ∷ lines) line = ap (λ (t : List ℕ). l ++ t) (flat-push lines line) ∙ sym (append_assoc l (flat_map (λ l. l) lines) line)

own-push : (cs : List Correction) (c : Correction) → own_records (cs ++ c ∷ []) ≡ one_if_own c.change + own_records cs
own-push [] c = refl
own-push (d ∷ cs) c = let older = own-push cs c in omega (arith, older)

module _ (past : List Filing) (number : ℕ) (rows : List (List (List ℕ))) (texts : List (List ℕ)) (old new : Gathered) (has : HasGathered past number rows old) where
  line_more : (line : List ℕ) → Gathers past number (rows ++ texts ∷ []) old.fits.items (has.lines ++ line ∷ []) → new.fits.items ≡ old.fits.items → new.own ≡ old.own
      → new.errors ≡ old.errors + 1 → new.text.items ≡ old.text.items ++ line → HasGathered past number (rows ++ texts ∷ []) new
  line_more line gathers fits own errors text = record {
    lines = has.lines ++ line ∷ [];
    gathers = subst (λ (cs : List Correction). Gathers past number (rows ++ texts ∷ []) cs (has.lines ++ line ∷ [])) (sym fits) gathers;
    text = text ∙ ap (λ (t : List ℕ). t ++ line) has.text ∙ sym (flat-push has.lines line);
    errors = omega (arith, errors, has.errors, length-append has.lines (line ∷ []));
    own = own ∙ has.own ∙ ap own_records (sym fits);
  }

  pub error_more : (row : ℕ) (error : RowError) → row ≡ length rows + 1 → SaysRow row texts (Err error) → new.fits.items ≡ old.fits.items → new.own ≡ old.own
      → new.errors ≡ old.errors + 1 → new.text.items ≡ old.text.items ++ error_line error → HasGathered past number (rows ++ texts ∷ []) new
  error_more row error at says = line_more (error_line error)
      (step.says_nothing rows old.fits.items has.lines texts error has.gathers (subst (λ (n : ℕ). SaysRow n texts (Err error)) at says))

  pub misfit_more : (row : ℕ) (said : CorrectionRow) (cause : ℕ) → row ≡ length rows + 1 → SaysRow row texts (Ok said)
      → misfit past old.fits.items said.change ≡ Some cause → new.fits.items ≡ old.fits.items → new.own ≡ old.own
      → new.errors ≡ old.errors + 1 → new.text.items ≡ old.text.items ++ misfit_line row cause → HasGathered past number (rows ++ texts ∷ []) new
  misfit_more row said cause at says is fits own errors text =
      line_more (misfit_line row cause)
      (subst (λ (n : ℕ). Gathers past number (rows ++ texts ∷ []) old.fits.items (has.lines ++ misfit_line n cause ∷ [])) (sym at)
      (step.doesn't_fit rows old.fits.items has.lines texts said cause has.gathers (subst (λ (n : ℕ). SaysRow n texts (Ok said)) at says) is))
      fits own errors text

  pub fits_more : (row : ℕ) (said : CorrectionRow) (mark : Filing) → row ≡ length rows + 1 → SaysRow row texts (Ok said)
      → misfit past old.fits.items said.change ≡ None → IsRecord (number + old.own) said.change said.grounds mark
      → new.fits.items ≡ old.fits.items ++ (record { change = said.change; «record» = mark }) ∷ []
      → new.own ≡ one_if_own said.change + old.own → new.errors ≡ old.errors → new.text ≡ old.text → HasGathered past number (rows ++ texts ∷ []) new
  fits_more row said mark at says is marks fits own errors text = record {
    lines = has.lines;
    gathers = subst (λ (cs : List Correction). Gathers past number (rows ++ texts ∷ []) cs has.lines) (sym fits)
        (step.fits rows old.fits.items has.lines texts said mark has.gathers (subst (λ (n : ℕ). SaysRow n texts (Ok said)) at says) is
        (subst (λ (n : ℕ). IsRecord (number + n) said.change said.grounds mark) has.own marks));
    text = ap (λ t. t.items) text ∙ has.text;
    errors = errors ∙ has.errors;
    own = own ∙ ap (λ n. one_if_own said.change + n) has.own ∙ sym (own-push old.fits.items (record { change = said.change; «record» = mark })) ∙ ap own_records (sym fits);
  }

-- ---- where a walk over the rows is
pub record IsAt (past : List Filing) (number : ℕ) (all : List (List (List ℕ))) (unread : List (Result (List (List ℕ)) RowError)) (at : ℕ) (g : Gathered) : Type 0 where
  pub done : List (List (List ℕ))
  pub rest : List (List (List ℕ))
  pub split : done ++ rest ≡ all
  pub left : unread ≡ map meant rest
  pub has : HasGathered past number done g
  pub row : at ≡ length done
  pub counted : g.errors + length g.fits.items ≡ at
  pub own : g.own ≤ length g.fits.items

-- at the start
pub is_at_start : (past : List Filing) (number : ℕ) (all : List (List (List ℕ))) (unread : List (Result (List (List ℕ)) RowError)) (g : Gathered) → unread ≡ map meant all
    → g.fits.items ≡ [] → g.text.items ≡ [] → g.errors ≡ 0 → g.own ≡ 0 → IsAt past number all unread 0 g
is_at_start past number all unread g left fits text errors own = record {
  done = [];
  rest = all;
  split = refl;
  left = left;
  has = record {
    lines = [];
    gathers = subst (λ (cs : List Correction). Gathers past number [] cs []) (sym fits) step.none;
    text = text;
    errors = errors;
    own = own ∙ sym (ap own_records fits);
  };
  row = refl;
  counted = omega (arith, errors, ap length fits);
  own = omega (arith, own);
}

-- no row is an error by itself
nil_cons : {A : Type 0} (x : A) (xs : List A) → [] ≡ x ∷ xs → ⊥
nil_cons x xs is = cc

meant_error : (texts : List (List ℕ)) (error : RowError) (rest new : List (Result (List (List ℕ)) RowError)) → meant texts ∷ rest ≡ Err error ∷ new → ⊥
meant_error texts error rest new is = cc

pub never_error : (unread new : List (Result (List (List ℕ)) RowError)) (rest : List (List (List ℕ))) (error : RowError) → unread ≡ map meant rest → unread ≡ Err error ∷ new → ⊥
never_error unread new [] error is next = nil_cons (Err error) new (sym is ∙ next)
never_error unread new (texts ∷ rest) error is next = meant_error texts error (map meant rest) new (sym is ∙ next)

-- a row is taken
pub record IsTaken (all done : List (List (List ℕ))) (texts : List (List ℕ)) (new : List (Result (List (List ℕ)) RowError)) : Type 0 where
  pub rest : List (List (List ℕ))
  pub split : (done ++ texts ∷ []) ++ rest ≡ all
  pub left : new ≡ map meant rest
  pub longer : length done + 1 ≤ length all

pub taken : (past : List Filing) (number : ℕ) (all : List (List (List ℕ))) (unread new : List (Result (List (List ℕ)) RowError)) (at : ℕ) (g : Gathered) (is : IsAt past number all unread at g)
    (texts : List (List ℕ)) → unread ≡ meant texts ∷ new → IsTaken all is.done texts new
taken past number all unread new at g is texts next = go is.rest is.split (sym is.left ∙ next)
  where
    go : (rest : List (List (List ℕ))) → is.done ++ rest ≡ all → map meant rest ≡ meant texts ∷ new → IsTaken all is.done texts new
    go [] split same = absurd (nil_cons (meant texts) new same)
    go (t ∷ rest) split same =
        let first : t ≡ texts = search same in
        let later : map meant rest ≡ new = search same in
        let all_of : (is.done ++ texts ∷ []) ++ rest ≡ all = append_assoc is.done (texts ∷ []) rest ∙ ap (λ (u : List (List ℕ)). is.done ++ u ∷ rest) (sym first) ∙ split in
        record { rest = rest; split = all_of; left = sym later; longer = omega (arith, ap length split, length-append is.done (t ∷ rest)) }

-- a step further
pub is_at_next : (past : List Filing) (number : ℕ) (all : List (List (List ℕ))) (unread new : List (Result (List (List ℕ)) RowError)) (at : ℕ) (g next : Gathered) (is : IsAt past number all unread at g)
    (texts : List (List ℕ)) → IsTaken all is.done texts new → HasGathered past number (is.done ++ texts ∷ []) next → next.errors + length next.fits.items ≡ at + 1 → next.own ≤ length next.fits.items
    → IsAt past number all new (at + 1) next
is_at_next past number all unread new at g next is texts took has counted own = record {
  done = is.done ++ texts ∷ [];
  rest = took.rest;
  split = took.split;
  left = took.left;
  has = has;
  row = omega (arith, is.row, length-append is.done (texts ∷ []));
  counted = counted;
  own = own;
}

-- nothing is left behind the last one
pub all_done : (past : List Filing) (number : ℕ) (all : List (List (List ℕ))) (unread : List (Result (List (List ℕ)) RowError)) (at : ℕ) (g : Gathered) (is : IsAt past number all unread at g) → unread ≡ []
    → is.done ≡ all
all_done past number all unread at g is none = go is.rest is.split (sym is.left ∙ none)
  where
    go : (rest : List (List (List ℕ))) → is.done ++ rest ≡ all → map meant rest ≡ [] → is.done ≡ all
    go [] split same = sym (append-nil is.done) ∙ split
    go (t ∷ rest) split same = absurd (nil_cons (meant t) (map meant rest) (sym same))
