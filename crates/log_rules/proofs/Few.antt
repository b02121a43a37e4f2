-- A list of filings by rules is short.
use Rattle.std.proofs.Common.{◌≡◌, ◌≤◌, ◌∙◌, subst, ℕ, List, length, reverse}
use Rattle.std.proofs.lemmas.List.{length-map, length-reverse}
use Rattle.log_rules.specs.Ruling.{Ruling}
use Rattle.log_rules.specs.Ruled.{IsLegal, history_of}
use Rattle.log_rules.specs.RuledLaws.{IsFull, legal_few}
use Rattle.log_rules.specs.declared.rules.Filed.{Filed}

-- there are as many entries as filings
pub length-history : {Entry Outcome : Type 0} (h : List (Filed Entry Outcome)) → length (history_of h) ≡ length h
length-history {Entry} {Outcome} h = length-map (reverse h) (λ (f : Filed Entry Outcome). f.entry) ∙ length-reverse h

pub ruled_few : {Entry Outcome : Type 0} (ruling : Ruling Entry Outcome) → IsFull ruling → (h : List (Filed Entry Outcome)) → IsLegal ruling (history_of h) → length h ≤ 200000
ruled_few ruling full h legal = subst (λ (n : ℕ). n ≤ 200000) (length-history h) (legal_few ruling full (history_of h) legal)
