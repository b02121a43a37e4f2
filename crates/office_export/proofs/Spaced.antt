-- Words with one blank between each two, cut at the blanks, are these words again; the form of a line is that of its words.
use Rattle.std.proofs.Common.{◌≡◌, ℕ, ◌-◌, Bool, true, false, List, [], ◌∷◌, ◌++◌, length, take, Option, Some, None, Bor, codes, refl, sym, ap, ◌∙◌, arith, append_assoc, length-append}
use Rattle.std.specs.Prelude.{◌==◌, if◌then◌else◌, bytes_eq, is_some, slice_get}
use Rattle.std.specs.List.{AllByRecursion, list_all, onto_first, slice_split}
use Rattle.std.specs.Option.{option_map_or}
use Rattle.std.proofs.Math.Seq.{take-append_seam}
use Rattle.std.proofs.lemmas.Bool.{and_parts}
use Rattle.std.proofs.lemmas.List.Splits.{slice_split-cons_no}
use Rattle.std.proofs.lemmas.Slice.Eq.{bytes_eq-Decides}
use Rattle.office_export.specs.Forms.{form_behind, form_of, form_of_words}
use Rattle.office_export.specs.Lines.{line_of}
use Rattle.office_export.proofs.Visible.{AreVisible, is_visible, no_blank}

abbrev pub is_blank : ℕ → Bool
is_blank b = b == 32

-- words with one blank between each two
abbrev pub spaced : List ℕ → List (List ℕ) → List ℕ
spaced word [] = word
spaced word (next ∷ words) = word ++ 32 ∷ spaced next words

-- a line is such words and a line feed
pub line_of-spaced : (word : List ℕ) (words : List (List ℕ)) → line_of (word ∷ words) ≡ spaced word words ++ 10 ∷ []
line_of-spaced word [] = refl
line_of-spaced word (next ∷ words) =
    append_assoc word (32 ∷ []) (line_of (next ∷ words))
    ∙ ap (λ (rest : List ℕ). word ++ (32 ∷ rest)) (line_of-spaced next words) ∙ sym (append_assoc word (32 ∷ spaced next words) (10 ∷ []))

-- ---- cut at the blanks
whole_word : (word : List ℕ) → AreVisible word → slice_split is_blank word ≡ word ∷ []
whole_word [] h = refl
whole_word (c ∷ word) h =
    let parts = and_parts (is_visible c) (list_all is_visible word) h in
    slice_split-cons_no is_blank c word (no_blank c parts.0) ∙ ap (onto_first c) (whole_word word parts.1)

word_cut : (word rest : List ℕ) → AreVisible word → slice_split is_blank (word ++ 32 ∷ rest) ≡ word ∷ slice_split is_blank rest
word_cut [] rest h = refl
word_cut (c ∷ word) rest h =
    let parts = and_parts (is_visible c) (list_all is_visible word) h in
    slice_split-cons_no is_blank c (word ++ 32 ∷ rest) (no_blank c parts.0) ∙ ap (onto_first c) (word_cut word rest parts.1)

pub words_again : (word : List ℕ) (words : List (List ℕ)) → AllByRecursion AreVisible (word ∷ words) → slice_split is_blank (spaced word words) ≡ word ∷ words
words_again word [] h = whole_word word h.0
words_again word (next ∷ words) h = word_cut word (spaced next words) h.0 ∙ ap (λ (rest : List (List ℕ)). word ∷ rest) (words_again next words h.1)

-- ---- the last byte of a line, and the bytes before it
last_is : (front : List ℕ) (c : ℕ) → slice_get (front ++ c ∷ []) (length front) ≡ Some c
last_is [] c = refl
last_is (b ∷ front) c = last_is front c

pub form_of-front : (front : List ℕ) → form_of (front ++ 10 ∷ []) ≡ form_of_words (slice_split is_blank front)
form_of-front front =
    let size : length (front ++ 10 ∷ []) - 1 ≡ length front = omega (arith, length-append front (10 ∷ [])) in
    ap (λ n. form_behind (slice_get (front ++ 10 ∷ []) n) (take n (front ++ 10 ∷ []))) size
    ∙ ap (λ (last : Option ℕ). form_behind last (take (length front) (front ++ 10 ∷ []))) (last_is front 10)
    ∙ ap (λ (words : List ℕ). form_behind (Some 10) words) (take-append_seam front (10 ∷ []))

pub form_of-line : (word : List ℕ) (words : List (List ℕ)) → AllByRecursion AreVisible (word ∷ words) → form_of (line_of (word ∷ words)) ≡ form_of_words (word ∷ words)
form_of-line word words h = ap form_of (line_of-spaced word words) ∙ form_of-front (spaced word words) ∙ ap form_of_words (words_again word words h)

-- ---- there is always a first word
first_word : (text : List ℕ) → (word : List ℕ) × (words : List (List ℕ)) × (slice_split is_blank text ≡ word ∷ words)
first_word [] = ([], [], refl)
first_word (c ∷ text) = go (is_blank c) (first_word text)
  where
    go : (b : Bool) → (word : List ℕ) × (words : List (List ℕ)) × (slice_split is_blank text ≡ word ∷ words)
        → (word : List ℕ) × (words : List (List ℕ)) × ((if b then [] ∷ slice_split is_blank text else onto_first c (slice_split is_blank text)) ≡ word ∷ words)
    go true more = ([], slice_split is_blank text, refl)
    go false more = (c ∷ more.0, more.1, ap (onto_first c) more.2)

pub more_words : (rest : Option (Bor (List ℕ))) → is_some rest ≡ true → (word : List ℕ) × (words : List (List ℕ)) × (option_map_or (λ (r : Bor (List ℕ)). slice_split is_blank r.now) rest [] ≡ word ∷ words)
more_words (Some rest) some = first_word rest.now
more_words None some = absurd cc

-- words behind the word of a filing, and a line feed
pub filing_line_is : (front word rest name : List ℕ) → front ≡ word ++ 32 ∷ rest → name ≡ codes "filing" → bytes_eq word name ≡ true → line_of (codes "filing" ∷ rest ∷ []) ≡ front ++ 10 ∷ []
filing_line_is front word rest name whole is same =
    let named : word ≡ codes "filing" = (bytes_eq-Decides word name).0 same ∙ is in
    sym (ap (λ (text : List ℕ). text ++ 10 ∷ []) (whole ∙ ap (λ (first : List ℕ). first ++ 32 ∷ rest) named))
