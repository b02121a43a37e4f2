-- What the filings tell, as a pass over them gathers it.
use Rattle.std.proofs.Common.{◌≡◌, ℕ, ◌+◌, ◌<◌, ◌≤◌, arith, sym, ap, ◌∙◌, List, [], ◌∷◌, ◌++◌, length, reverse, take, get_or, append-nil}
use Rattle.std.specs.Prelude.{Option, Some, None}
use Rattle.std.specs.List.{cons_option}
use Rattle.std.specs.Option.{option_to_list}
use Rattle.std.proofs.lemmas.List.{reverse-append}
use Rattle.aid_filings.specs.declared.filing.Filing.{Filing}
use Rattle.office_history.proofs.Slices.{one_more}
use Rattle.office_export.specs.Applicants.{told_by}

behind : {A : Type 0} (o : Option A) (xs : List A) → reverse xs ++ option_to_list o ≡ reverse (cons_option o xs)
behind None xs = append-nil (reverse xs)
behind (Some a) xs = sym (reverse-append (a ∷ []) xs)

-- a filing more
pub told-more : {A : Type 0} (operation : Filing → Option A) (h : List Filing) (i : ℕ) (f : Filing) → i < length h → f ≡ get_or h i f → (out more : List A)
    → out ≡ reverse (told_by operation (reverse (take i h))) → more ≡ out ++ option_to_list (operation f) → more ≡ reverse (told_by operation (reverse (take (i + 1) h)))
told-more operation h i f lt at out more is e =
    e ∙ ap (λ xs. xs ++ option_to_list (operation f)) is ∙ behind (operation f) (told_by operation (reverse (take i h)))
    ∙ ap (λ (past : List Filing). reverse (told_by operation past)) (sym (one_more h i f lt at))

-- no more is told than there are filings
pub length-told_by : {A : Type 0} (operation : Filing → Option A) (past : List Filing) → length (told_by operation past) ≤ length past
length-told_by {A = A} operation [] = omega arith
length-told_by {A = A} operation (f ∷ past) = go (operation f) (length-told_by operation past)
  where
    go : (o : Option A) → length (told_by operation past) ≤ length past → length (cons_option o (told_by operation past)) ≤ length (f ∷ past)
    go None few = omega (arith, few)
    go (Some a) few = omega (arith, few)
