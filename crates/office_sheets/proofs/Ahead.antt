-- Words written one by one, before others.
use Rattle.std.proofs.Common.{◌≡◌, ℕ, List, [], ◌∷◌, ◌++◌, codes, decimal, refl, sym, ap, ◌∙◌, append-nil, append_assoc}
use Rattle.aid_types.specs.Cents.{cents_text}
use Rattle.aid_types.specs.Words.{program_text}
use Rattle.format_filings.specs.Replies.{outcome_text}
use Rattle.law_terms.specs.Days.{day_text}
use Rattle.office_export.specs.Lines.{line_of}
use Rattle.format_filings.specs.WrittenRows.{behind_commas, joined}
use Rattle.office_reports.specs.Columns.{left, right}
use Rattle.office_sheets.specs.LedgerLines.{columns_of, moved_text}
use Rattle.office_sheets.specs.declared.ledger_rows.Told.{Told}
use Rattle.office_sheets.specs.declared.ledger_rows.Told.TheVariants.{Prior, Application, Enrollment, Cost, ChangedCost, Withdrawal, Money, Sending}

-- words appended one by one, each with a byte behind it, and then a text
abbrev pub IsAhead : ℕ → List ℕ → List (List ℕ) → List ℕ → List ℕ → Type 0
IsAhead end old [] last new = new ≡ old ++ last
IsAhead end old (word ∷ more) last new = (text : List ℕ) × (text ≡ old ++ word ++ end ∷ []) × IsAhead end text more last new

abbrev pub spaced : ℕ → List (List ℕ) → List ℕ → List ℕ
spaced end [] last = last
spaced end (word ∷ more) last = word ++ end ∷ [] ++ spaced end more last

ahead : (end : ℕ) (old : List ℕ) (words : List (List ℕ)) (last new : List ℕ) → IsAhead end old words last new → new ≡ old ++ spaced end words last
ahead end old [] last new e = e
ahead end old (word ∷ more) last new (text, e, rest) =
    ahead end text more last new rest ∙ ap (λ front. front ++ spaced end more last) e
    ∙ append_assoc (old ++ word) (end ∷ []) (spaced end more last) ∙ append_assoc old word (end ∷ spaced end more last)
    ∙ ap (λ behind. old ++ behind) (sym (append_assoc word (end ∷ []) (spaced end more last)))

-- a word before others
first_of : (word next : List ℕ) (words : List (List ℕ)) → word ++ 32 ∷ [] ++ line_of (next ∷ words) ≡ line_of (word ∷ next ∷ words)
first_of word next words = refl

-- a word before the columns of what is told
word_first : (word : List ℕ) (told : Told) → word ++ 32 ∷ [] ++ line_of (columns_of told) ≡ line_of (word ∷ columns_of told)
word_first word (Prior units) = first_of word (decimal units) (codes "units" ∷ [])
word_first word (Application outcome) = first_of word (outcome_text outcome) []
word_first word (Enrollment credits) = first_of word (decimal credits) (codes "credits" ∷ [])
word_first word (Cost dollars) = first_of word (decimal dollars) (codes "dollars" ∷ [])
word_first word (ChangedCost dollars) = first_of word (decimal dollars) (codes "dollars" ∷ [])
word_first word (Withdrawal outcome) = first_of word (outcome_text outcome) []
word_first word (Money m net used) =
    first_of word (left 5 (program_text m.program)) (right 12 (moved_text m.movement m.cents) ∷ right 12 (cents_text net) ∷ right 7 (decimal used) ∷ [])
word_first word (Sending s) = first_of word (left 5 (program_text s.program)) (cents_text s.cents ∷ day_text s.day ∷ decimal s.reference ∷ [])

-- eight words before the columns of what is told
pub eight_first : (old a b c d e f g h : List ℕ) (told : Told) (new : List ℕ) → IsAhead 32 old (a ∷ b ∷ c ∷ d ∷ e ∷ f ∷ g ∷ h ∷ []) (line_of (columns_of told)) new
    → new ≡ old ++ line_of (a ∷ b ∷ c ∷ d ∷ e ∷ f ∷ g ∷ h ∷ columns_of told)
eight_first old a b c d e f g h told new is =
    ahead 32 old (a ∷ b ∷ c ∷ d ∷ e ∷ f ∷ g ∷ h ∷ []) (line_of (columns_of told)) new is
    ∙ ap (λ (t : List ℕ). old ++ (a ++ 32 ∷ [] ++ (b ++ 32 ∷ [] ++ (c ++ 32 ∷ [] ++ (d ++ 32 ∷ [] ++ (e ++ 32 ∷ [] ++ (f ++ 32 ∷ [] ++ (g ++ 32 ∷ [] ++ t)))))))) (word_first h told)

-- texts with a comma between each two, the last with a line feed behind it
behind_some : (words : List (List ℕ)) (last : List ℕ) → behind_commas (words ++ last ∷ []) ≡ 44 ∷ joined (words ++ last ∷ [])
behind_some [] last = refl
behind_some (word ∷ words) last = refl

commas : (words : List (List ℕ)) (last : List ℕ) → spaced 44 words (last ++ 10 ∷ []) ≡ joined (words ++ last ∷ []) ++ 10 ∷ []
commas [] last = ap (λ (text : List ℕ). text ++ 10 ∷ []) (sym (append-nil last))
commas (word ∷ words) last =
    ap (λ (text : List ℕ). word ++ 44 ∷ [] ++ text) (commas words last)
    ∙ append_assoc word (44 ∷ []) (joined (words ++ last ∷ []) ++ 10 ∷ [])
    ∙ ap (λ (text : List ℕ). word ++ (text ++ 10 ∷ [])) (sym (behind_some words last))
    ∙ sym (append_assoc word (behind_commas (words ++ last ∷ [])) (10 ∷ []))

pub joined_line : (old : List ℕ) (words : List (List ℕ)) (last new : List ℕ) → IsAhead 44 old words (last ++ 10 ∷ []) new → new ≡ old ++ (joined (words ++ last ∷ []) ++ 10 ∷ [])
joined_line old words last new is = ahead 44 old words (last ++ 10 ∷ []) new is ∙ ap (λ behind. old ++ behind) (commas words last)
