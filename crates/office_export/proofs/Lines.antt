-- The lines of a text that is lines joined are these lines.
use Rattle.std.proofs.Common.{◌≡◌, ℕ, false, List, [], ◌∷◌, ◌++◌, refl, sym, ap, ◌∙◌, append_assoc}
use Rattle.std.specs.Prelude.{◌==◌, if◌then◌else◌, Bool}
use Rattle.std.specs.List.{AllByRecursion, concat, list_all, onto_first}
use Rattle.std.proofs.lemmas.Bool.{and_parts}
use Rattle.office_export.specs.Exports.{lines_of}
use Rattle.office_export.specs.Lines.{line_of}
use Rattle.office_export.proofs.Visible.{AreVisible, is_visible, no_line_feed}
use Rattle.office_export.proofs.Spaced.{line_of-spaced, spaced}

abbrev pub HasNoEnd : List ℕ → Type 0
HasNoEnd text = AllByRecursion (λ b. (b == 10) ≡ false) text

-- bytes without a line feed, and a line feed
pub record IsLine (line : List ℕ) : Type 0 where
  pub front : List ℕ
  pub no_end : HasNoEnd front
  pub ended : line ≡ front ++ 10 ∷ []

more : (b : ℕ) (text : List ℕ) → (b == 10) ≡ false → lines_of (b ∷ text) ≡ onto_first b (lines_of text)
more b text e = ap (λ (t : Bool). if t then (b ∷ []) ∷ lines_of text else onto_first b (lines_of text)) e

pub lines_of-ended : (front text : List ℕ) → HasNoEnd front → lines_of (front ++ 10 ∷ text) ≡ (front ++ 10 ∷ []) ∷ lines_of text
lines_of-ended [] text h = refl
lines_of-ended (b ∷ front) text h = more b (front ++ 10 ∷ text) h.0 ∙ ap (onto_first b) (lines_of-ended front text h.1)

pub lines_of-last : (b : ℕ) (text : List ℕ) → HasNoEnd (b ∷ text) → lines_of (b ∷ text) ≡ (b ∷ text) ∷ []
lines_of-last b [] h = more b [] h.0
lines_of-last b (c ∷ text) h = more b (c ∷ text) h.0 ∙ ap (onto_first b) (lines_of-last c text h.1)

pub lines_of-line : (line text : List ℕ) → IsLine line → lines_of (line ++ text) ≡ line ∷ lines_of text
lines_of-line line text is =
    ap (λ (l : List ℕ). lines_of (l ++ text)) is.ended ∙ ap lines_of (append_assoc is.front (10 ∷ []) text) ∙ lines_of-ended is.front text is.no_end
    ∙ ap (λ (l : List ℕ). l ∷ lines_of text) (sym is.ended)

pub lines_of-concat : (lines : List (List ℕ)) → AllByRecursion IsLine lines → lines_of (concat lines) ≡ lines
lines_of-concat [] h = refl
lines_of-concat (line ∷ lines) h = lines_of-line line (concat lines) h.0 ∙ ap (λ (rest : List (List ℕ)). line ∷ rest) (lines_of-concat lines h.1)

-- ---- lines of words are such
joined : (xs ys : List ℕ) → HasNoEnd xs → HasNoEnd ys → HasNoEnd (xs ++ ys)
joined [] ys h k = k
joined (x ∷ xs) ys h k = (h.0, joined xs ys h.1 k)

visible : (text : List ℕ) → AreVisible text → HasNoEnd text
visible [] h = tt
visible (c ∷ text) h = let parts = and_parts (is_visible c) (list_all is_visible text) h in (no_line_feed c parts.0, visible text parts.1)

words : (word : List ℕ) (more : List (List ℕ)) → AllByRecursion AreVisible (word ∷ more) → HasNoEnd (spaced word more)
words word [] h = visible word h.0
words word (next ∷ more) h = joined word (32 ∷ spaced next more) (visible word h.0) (refl, words next more h.1)

pub is_line-words : (word : List ℕ) (more : List (List ℕ)) → AllByRecursion AreVisible (word ∷ more) → IsLine (line_of (word ∷ more))
is_line-words word more h = record { front = spaced word more; no_end = words word more h; ended = line_of-spaced word more }
