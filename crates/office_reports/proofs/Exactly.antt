-- Paid places come in their order, and a withdrawal's line at its place.
use Rattle.std.proofs.Common.{◌≡◌, ℕ, refl, sym, ap, ◌∙◌, List, [], ◌∷◌, ◌++◌, inl, inr, append-nil}
use Rattle.std.specs.Ordering.{nat_cmp, ordering_then}
use Rattle.std.specs.declared.cmp.Ordering.{Ordering}
use Rattle.std.specs.declared.cmp.Ordering.TheVariants.{Less, Equal, Greater}
use Rattle.std.proofs.lemmas.List.{append_assoc}
use Rattle.aid_filings.specs.declared.filing.Filing.{Filing}
use Rattle.office_export.proofs.Exactly.{number_less, number_same}
use Rattle.office_reports.specs.Before.{IsBefore}
use Rattle.office_reports.specs.Rows.{place_order, return_rows, returns_in}
use Rattle.office_reports.specs.declared.rows.PaidPlace.{PaidPlace}
use Rattle.office_reports.specs.declared.rows.ReturnOf.{ReturnOf}

pub place_before : (p q : PaidPlace) → place_order p q ≡ Less → IsBefore p q
place_before p q e = go (nat_cmp p.school q.school) (nat_cmp p.student q.student) refl refl e
  where
    go : (a b : Ordering) → nat_cmp p.school q.school ≡ a → nat_cmp p.student q.student ≡ b → ordering_then (ordering_then a b) (nat_cmp p.term q.term) ≡ Less → IsBefore p q
    go Less b s t e = inl (number_less p.school q.school s)
    go Equal Less s t e = inr (number_same p.school q.school s, inl (number_less p.student q.student t))
    go Equal Equal s t e = inr (number_same p.school q.school s, inr (number_same p.student q.student t, number_less p.term q.term e))
    go Equal Greater s t e = absurd cc
    go Greater b s t e = absurd cc

-- ---- the lines of returns
pub returns_come : (year : ℕ) (newer past : List Filing) (f : Filing) → (rest : List ReturnOf) × (return_rows (newer ++ f ∷ past) year ≡ return_rows past year ++ (returns_in past year f f.what ++ rest))
returns_come year [] past f = ([], ap (λ (rs : List ReturnOf). return_rows past year ++ rs) (sym (append-nil (returns_in past year f f.what))))
returns_come year (g ∷ newer) past f =
    let ih = returns_come year newer past f in
    let last = returns_in (newer ++ f ∷ past) year g g.what in
    let own = returns_in past year f f.what in (
      ih.0 ++ last,
      ap (λ (rs : List ReturnOf). rs ++ last) ih.1 ∙ append_assoc (return_rows past year) (own ++ ih.0) last ∙ ap (λ (rs : List ReturnOf). return_rows past year ++ rs) (append_assoc own ih.0 last),
    )
