-- The row of words that corrects a journal.
use Rattle.std.proofs.Common.{ℕ, Bool, false, List, [], ◌∷◌, codes, sym, ap, subst, ◌∙◌}
use Rattle.std.specs.Str.{bytes_eq}
use Rattle.std.proofs.lemmas.Bool.{true≢false}
use Rattle.aid_stamps.specs.declared.stamp.Stamp.{Stamp}
use Rattle.run_words.specs.Stamped.{AreStampedDesks, AreStampedServe, IsAmend, IsAmendRow}
use Rattle.run_words.specs.Words.{AreDesks}
use Rattle.run_words.proofs.StampedWords.{one_stamp}

-- the first word is this one
abbrev begins_with : List ℕ → List (List ℕ) → Bool
begins_with name [] = false
begins_with name (word ∷ behind) = bytes_eq word name

-- words that begin with `amend` are no desks
row_no_desks : (rest : List (List ℕ)) (file : List ℕ) (number count : ℕ) → IsAmendRow rest file number → AreDesks rest count → ⊥
row_no_desks [] file number count row desks = desks
row_no_desks (first ∷ paths) file number count row desks =
    true≢false (sym (ap (λ (word : List ℕ). bytes_eq word (codes "desks")) desks.0) ∙ ap (begins_with (codes "desks")) row.0)

-- words that are this row behind a stamp are no desks behind one
pub amend_no_desks : (words : List (List ℕ)) (stamp s : Stamp) (file : List ℕ) (number count : ℕ) → IsAmend words stamp file number → AreStampedDesks words count s → ⊥
amend_no_desks words stamp s file number count (at, rest, is, row) (other, also, desks) =
    let one = one_stamp words stamp s rest other is also in
    row_no_desks rest file number count row (subst (λ (r : List (List ℕ)). AreDesks r count) (sym one.rest) desks)

-- nor a server behind one
pub amend_no_serve : (words : List (List ℕ)) (stamp s : Stamp) (file : List ℕ) (number port workers sessions : ℕ) → IsAmend words stamp file number
    → AreStampedServe words port workers sessions s → ⊥
amend_no_serve words stamp s file number port workers sessions (at, rest, is, row) (other, also, serve) =
    let one = one_stamp words stamp s rest other is also in
    true≢false (ap (begins_with (codes "serve")) (sym serve.0 ∙ sym one.rest ∙ row.0))
