-- The texts of numbers, one number after the other.
use Rattle.std.proofs.Common.{◌≡◌, ℕ, Bor, map, ◌+◌, ◌<◌, ℤ, true, List, [], ◌∷◌, ◌++◌, length, drop, get_or, Some, None, Result, Ok, Err, cond, is_ok, OnOk, refl, sym, ap, subst, ◌∙◌, drop-cons, add-one, append-nil, append_assoc}
use Rattle.std.specs.Prelude.{codes, option_map, slice_get}
use Rattle.std.proofs.lemmas.Bool.{and_parts}
use Rattle.std.proofs.Math.ListN.{get_or-map}
use Rattle.format_table.specs.Layout.{after}
use Rattle.format_table.specs.Parts.{Line, Slot}
use Rattle.format_filings.specs.WrittenRows.{behind_commas, number_text, texts_of}
use Rattle.format_filings.specs.Spelled.{are_spelled, is_spelled}

-- what was appended is this text
pub text_added : {A E : Type 0} (r : Result A E) (before now text other : List ℕ) → now ≡ cond (is_ok r) (before ++ text) before → text ≡ other → OnOk r (now ≡ before ++ other)
text_added (Ok done) before now text other e same = e ∙ ap (λ (t : List ℕ). before ++ t) same
text_added (Err f) before now text other e same = tt

-- the word at a place of the program's own list
pub word_at : (found : List (Bor (List ℕ))) (words : List (List ℕ)) (i : ℕ) → map (λ word. word.now) found ≡ words → (get_or found i (record { ref_ptr = (0, 0); now = [] })).now ≡ get_or words i []
word_at found words i e = sym (get_or-map (λ (word : Bor (List ℕ)). word.now) found i (record { ref_ptr = (0, 0); now = [] })) ∙ ap (λ (ws : List (List ℕ)). get_or ws i []) e

line_is : (a b : Line) → Some a ≡ Some b → b ≡ a
line_is a b e = cc

-- what stands of a number and of those behind it
pub record IsNext (words : List (List ℕ)) (slots : List Slot) (numbers : List ℤ) (i : ℕ) (line : Line) (z : ℤ) : Type 0 where
  pub texts : texts_of words slots (drop i numbers) ≡ number_text words line.form z ∷ texts_of words (after slots z) (drop (i + 1) numbers)
  pub spelled : is_spelled line.form z ≡ true
  pub rest : are_spelled (after slots z) (drop (i + 1) numbers) ≡ true

next_is : (words : List (List ℕ)) (slot : Slot) (slots : List Slot) (numbers : List ℤ) (i : ℕ) (z d : ℤ) → i < length numbers → z ≡ get_or numbers i d → are_spelled (slot ∷ slots) (drop i numbers) ≡ true
    → IsNext words (slot ∷ slots) numbers i slot.line z
next_is words slot slots numbers i z d lt is spelled =
    let split : drop i numbers ≡ z ∷ drop (i + 1) numbers = rw (add-one, is) (drop-cons numbers i d lt) in
    let both = and_parts (is_spelled slot.line.form z) (are_spelled (after (slot ∷ slots) z) (drop (i + 1) numbers)) (ap (are_spelled (slot ∷ slots)) (sym split) ∙ spelled) in
    record { texts = ap (texts_of words (slot ∷ slots)) split; spelled = both.0; rest = both.1 }

pub is_next : (words : List (List ℕ)) (slots : List Slot) (numbers : List ℤ) (i : ℕ) (line : Line) (z d : ℤ) → Some line ≡ option_map (λ slot. slot.line) (slice_get slots 0) → i < length numbers → z ≡ get_or numbers i d
    → are_spelled slots (drop i numbers) ≡ true → IsNext words slots numbers i line z
is_next words [] numbers i line z d e lt is spelled = absurd cc
is_next words (slot ∷ slots) numbers i line z d e lt is spelled =
    subst (λ (l : Line). IsNext words (slot ∷ slots) numbers i l z) (line_is line slot.line e) (next_is words slot slots numbers i z d lt is spelled)

-- after the next number the bytes so far and those to come are still the same
pub adds_next : (words : List (List ℕ)) (slots : List Slot) (numbers : List ℤ) (i : ℕ) (line : Line) (z : ℤ) (before bytes total : List ℕ) → IsNext words slots numbers i line z
    → bytes ≡ before ++ (codes "," ++ number_text words line.form z) → before ++ behind_commas (texts_of words slots (drop i numbers)) ≡ total
    → bytes ++ behind_commas (texts_of words (after slots z) (drop (i + 1) numbers)) ≡ total
adds_next words slots numbers i line z before bytes total next b so_far =
    let rest = behind_commas (texts_of words (after slots z) (drop (i + 1) numbers)) in
    ap (λ (bs : List ℕ). bs ++ rest) b ∙ append_assoc before (codes "," ++ number_text words line.form z) rest
    ∙ ap (λ (texts : List (List ℕ)). before ++ behind_commas texts) (sym next.texts) ∙ so_far

none_first : (slots : List Slot) → None ≡ option_map (λ slot. slot.line) (slice_get slots 0) → slots ≡ []
none_first [] e = refl
none_first (slot ∷ slots) e = absurd cc

no_texts : (words : List (List ℕ)) (numbers : List ℤ) → texts_of words [] numbers ≡ []
no_texts words [] = refl
no_texts words (z ∷ zs) = refl

all_spelled : (numbers : List ℤ) → are_spelled [] numbers ≡ true
all_spelled [] = refl
all_spelled (z ∷ zs) = refl

-- where no number is to come
pub adds_none : (words : List (List ℕ)) (slots : List Slot) (numbers : List ℤ) (i : ℕ) (before total : List ℕ) → None ≡ option_map (λ slot. slot.line) (slice_get slots 0)
    → before ++ behind_commas (texts_of words slots (drop i numbers)) ≡ total → before ++ behind_commas (texts_of words slots (drop (i + 1) numbers)) ≡ total
adds_none words slots numbers i before total e so_far =
    let same : texts_of words slots (drop (i + 1) numbers) ≡ texts_of words slots (drop i numbers) =
    rw (none_first slots e) (no_texts words (drop (i + 1) numbers) ∙ sym (no_texts words (drop i numbers))) in
    ap (λ (texts : List (List ℕ)). before ++ behind_commas texts) same ∙ so_far

pub none_spelled : (slots : List Slot) (numbers : List ℤ) → None ≡ option_map (λ slot. slot.line) (slice_get slots 0) → are_spelled slots numbers ≡ true
none_spelled slots numbers e = rw (none_first slots e) (all_spelled numbers)

-- three texts, each behind a comma
pub three_added : (old a b c one two three : List ℕ) → one ≡ old ++ (codes "," ++ a) → two ≡ one ++ (codes "," ++ b) → three ≡ two ++ (codes "," ++ c) → three ≡ old ++ behind_commas (a ∷ b ∷ c ∷ [])
three_added old a b c one two three first second third =
    third ∙ ap (λ (front : List ℕ). front ++ 44 ∷ c) (second ∙ ap (λ (front : List ℕ). front ++ 44 ∷ b) first ∙ append_assoc old (44 ∷ a) (44 ∷ b))
    ∙ append_assoc old ((44 ∷ a) ++ 44 ∷ b) (44 ∷ c) ∙ ap (λ (behind : List ℕ). old ++ behind) (append_assoc (44 ∷ a) (44 ∷ b) (44 ∷ c) ∙ ap (λ (last : List ℕ). (44 ∷ a) ++ ((44 ∷ b) ++ 44 ∷ last)) (sym (append-nil c)))
