-- The first place of a byte in a text: what stands before it and behind it.
use Rattle.std.proofs.Common.{◌≡◌, ℕ, ◌+◌, ◌<◌, false, List, [], ◌∷◌, ◌++◌, length, get_or, take, drop, All, refl, sym, ap, ◌∙◌, take-append-drop}
use Rattle.std.specs.Prelude.{◌==◌}
use Rattle.std.specs.List.{slice_split}
use Rattle.std.proofs.lemmas.Bool.{ne_eqb}
use Rattle.std.proofs.lemmas.List.{drop_more, take_more}
use Rattle.std.proofs.lemmas.List.Elements.{All-append, All-cons, All-nil, recursion_from_All}
use Rattle.std.proofs.lemmas.List.Splits.{slice_split_at}
use Rattle.office_export.specs.Exports.{lines_of}
use Rattle.office_export.proofs.Lines.{lines_of-ended, lines_of-last}
use Rattle.office_export.proofs.Spaced.{is_blank}

-- no byte of a text is this one
abbrev pub Lacks : ℕ → List ℕ → Type 0
Lacks c text = All (λ b. (b == c) ≡ false) text

pub lacks_more : (c : ℕ) (text : List ℕ) (i : ℕ) → i < length text → (get_or text i 0 ≡ c → ⊥) → Lacks c (take i text) → Lacks c (take (i + 1) text)
lacks_more c text i lt other before =
    rw (take_more text i 0 lt)
    (All-append (λ b. (b == c) ≡ false) (take i text) (get_or text i 0 ∷ []) before
    (All-cons (λ b. (b == c) ≡ false) (get_or text i 0) [] (ne_eqb (get_or text i 0) c other) (All-nil (λ b. (b == c) ≡ false))))

parted : (c : ℕ) (text : List ℕ) (i : ℕ) → i < length text → get_or text i 0 ≡ c → text ≡ take i text ++ c ∷ drop (i + 1) text
parted c text i lt is = sym (take-append-drop i text) ∙ ap (λ (behind : List ℕ). take i text ++ behind) (drop_more text i 0 lt ∙ ap (λ b. b ∷ drop (i + 1) text) is)

pub cut_at : (text : List ℕ) (i : ℕ) → i < length text → get_or text i 0 ≡ 32 → Lacks 32 (take i text) → slice_split is_blank text ≡ take i text ∷ slice_split is_blank (drop (i + 1) text)
cut_at text i lt is before = ap (slice_split is_blank) (parted 32 text i lt is) ∙ slice_split_at is_blank (take i text) 32 (drop (i + 1) text) before refl

pub line_at : (text : List ℕ) (i : ℕ) → i < length text → get_or text i 0 ≡ 10 → Lacks 10 (take i text) → lines_of text ≡ take (i + 1) text ∷ lines_of (drop (i + 1) text)
line_at text i lt is before =
    ap lines_of (parted 10 text i lt is) ∙ lines_of-ended (take i text) (drop (i + 1) text) (recursion_from_All (λ b. (b == 10) ≡ false) (take i text) before)
    ∙ ap (λ (line : List ℕ). line ∷ lines_of (drop (i + 1) text)) (sym (take_more text i 0 lt ∙ ap (λ b. take i text ++ b ∷ []) is))

pub last_line : (text : List ℕ) → (text ≡ [] → ⊥) → Lacks 10 text → lines_of text ≡ text ∷ []
last_line [] some lacks = absurd (some refl)
last_line (b ∷ text) some lacks = lines_of-last b text (recursion_from_All (λ b. (b == 10) ≡ false) (b ∷ text) lacks)
