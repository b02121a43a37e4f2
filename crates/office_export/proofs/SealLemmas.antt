-- The seal and the lines of the fronts of a list.
use Rattle.std.proofs.Common.{◌≡◌, ℕ, ◌+◌, ◌<◌, ◌≤◌, List, ◌∷◌, ◌++◌, [], append-nil, ap, arith, get_or, length, map, reverse, sym, take, ◌∙◌}
use Rattle.std.specs.List.{concat}
use Rattle.std.proofs.lemmas.List.{map-append, reverse-append, take_all, take_more}
use Rattle.std.proofs.lemmas.List.Folds.{concat-append}
use Rattle.aid_filings.specs.declared.filing.Filing.{Filing}
use Rattle.aid_seals.specs.Seals.{next_seal}
use Rattle.aid_stamps.specs.Stamps.{stamp_bytes}
use Rattle.aid_stamps.specs.declared.stamp.Stamp.{Stamp}
use Rattle.format_bytes.specs.Spelling.{spelling}
use Rattle.office_export.specs.Lines.{filing_line, payload_line}
use Rattle.office_export.specs.Seals.{office_seal, payloads}

-- a front one longer, read newest first
one_more : {X : Type 0} (h : List X) (i : ℕ) (x : X) → i < length h → x ≡ get_or h i x → reverse (take (i + 1) h) ≡ x ∷ reverse (take i h)
one_more {X} h i x lt at =
    ap (λ (l : List X). reverse l) (take_more h i x lt) ∙ reverse-append (take i h) (get_or h i x ∷ []) ∙ ap (λ (y : X). y ∷ reverse (take i h)) (sym at)

module _ (h : List Filing) (stamps : List Stamp) (i : ℕ) (f : Filing) (s : Stamp) (lt : i < length h) (same : length stamps ≡ length h) (at : f ≡ get_or h i f) (stamped : s ≡ get_or stamps i s) where
  -- both fronts, with the filing and the stamp at the index
  pub filings : reverse (take (i + 1) h) ≡ f ∷ reverse (take i h)
  filings = one_more h i f lt at

  pub its_stamps : reverse (take (i + 1) stamps) ≡ s ∷ reverse (take i stamps)
  its_stamps = one_more stamps i s (omega (arith, lt, same)) stamped

  -- the seal of the front one longer
  pub seal-more : (before after : List ℕ) → before ≡ office_seal (reverse (take i h)) (reverse (take i stamps)) → after ≡ next_seal before (stamp_bytes s ++ spelling f)
      → after ≡ office_seal (reverse (take (i + 1) h)) (reverse (take (i + 1) stamps))
  seal-more before after is e = e ∙ ap (λ (b : List ℕ). next_seal b (stamp_bytes s ++ spelling f)) is ∙ sym (λ j. office_seal (filings j) (its_stamps j))

  -- and the lines of its filings
  pub filed-more : (out more : List ℕ) → out ≡ concat (map payload_line (reverse (payloads (reverse (take i h)) (reverse (take i stamps)))))
      → more ≡ out ++ filing_line s f → more ≡ concat (map payload_line (reverse (payloads (reverse (take (i + 1) h)) (reverse (take (i + 1) stamps)))))
  filed-more out more is e =
      let before = payloads (reverse (take i h)) (reverse (take i stamps)) in
      let payload = stamp_bytes s ++ spelling f in
      let lines = map payload_line (reverse before) in
      let last : map payload_line (reverse (payload ∷ before)) ≡ lines ++ filing_line s f ∷ [] =
      ap (λ (ps : List (List ℕ)). map payload_line ps) (reverse-append (payload ∷ []) before) ∙ map-append payload_line (reverse before) (payload ∷ []) in
      e ∙ (λ j. is j ++ filing_line s f) ∙ ap (λ (line : List ℕ). concat lines ++ line) (sym (append-nil (filing_line s f)))
      ∙ sym (concat-append lines (filing_line s f ∷ [])) ∙ sym (ap concat last)
      ∙ sym (λ j. concat (map payload_line (reverse (payloads (filings j) (its_stamps j)))))

module _ (h : List Filing) (stamps : List Stamp) (i : ℕ) (all : length h ≤ i) (same : length stamps ≡ length h) where
  -- the seal of the front that is the list
  pub seal-whole : (told : List ℕ) → told ≡ office_seal (reverse (take i h)) (reverse (take i stamps)) → told ≡ office_seal (reverse h) (reverse stamps)
  seal-whole told is = is ∙ (λ j. office_seal (reverse (take_all i h all j)) (reverse (take_all i stamps (omega (arith, all, same)) j)))

  -- and all lines
  pub filed-whole : (out : List ℕ) → out ≡ concat (map payload_line (reverse (payloads (reverse (take i h)) (reverse (take i stamps)))))
      → out ≡ concat (map payload_line (reverse (payloads (reverse h) (reverse stamps))))
  filed-whole out is = is ∙ (λ j. concat (map payload_line (reverse (payloads (reverse (take_all i h all j)) (reverse (take_all i stamps (omega (arith, all, same)) j))))))
