-- A list that is read from its oldest filing on: what stands before a place is legal, and the filing there breaks no rule on it.
use Rattle.std.proofs.Common.{◌≡◌, ℕ, suc, ◌+◌, ◌<◌, sym, ap, subst, ◌∙◌, List, [], ◌∷◌, ◌++◌, length, reverse, take, drop, get_or, take-append-drop}
use Rattle.std.proofs.lemmas.List.{reverse-append, take_more}
use Rattle.aid_filings.specs.declared.filing.Filing.{Filing}
use Rattle.office_history.specs.Answer.{IsLegal}
use Rattle.office_history.proofs.Legal.{older_legal}
use Rattle.office_history.proofs.Oldest.{reverse-at}

-- one filing more is one more at the head of the history
pub one_more : (h : List Filing) (i : ℕ) (f : Filing) → i < length h → f ≡ get_or h i f → reverse (take (i + 1) h) ≡ f ∷ reverse (take i h)
one_more h i f lt at =
    ap (λ (l : List Filing). reverse l) (take_more h i f lt)
    ∙ reverse-append (take i h) (get_or h i f ∷ [])
    ∙ ap (λ (g : Filing). g ∷ reverse (take i h)) (sym at)

-- the first filings of a legal list are legal
pub legal_take : (h : List Filing) (i : ℕ) → IsLegal (reverse h) → IsLegal (reverse (take i h))
legal_take h i legal =
    older_legal (reverse (drop i h)) (reverse (take i h))
    (subst IsLegal (ap (λ (l : List Filing). reverse l) (sym (take-append-drop i h)) ∙ reverse-append (take i h) (drop i h)) legal)

-- each filing stands legally after those before it
pub legal_at : (h : List Filing) (i : ℕ) (f : Filing) → i < length h → f ≡ get_or h i f → IsLegal (reverse h) → IsLegal (f ∷ reverse (take i h))
legal_at h i f lt at legal =
    older_legal (reverse (drop (suc i) h)) (f ∷ reverse (take i h))
    (subst (λ (g : Filing). IsLegal (reverse (drop (suc i) h) ++ g ∷ reverse (take i h))) (sym at) (subst IsLegal (reverse-at h i f lt) legal))
