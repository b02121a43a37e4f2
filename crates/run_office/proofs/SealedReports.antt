-- An office has as many filings as stamps.
use Rattle.std.proofs.Common.{◌≡◌, ◌∙◌, ℕ, suc, refl, sym, ap, List, [], ◌∷◌, length, reverse}
use Rattle.std.proofs.lemmas.List.{length-reverse}
use Rattle.aid_filings.specs.declared.filing.Filing.{Filing}
use Rattle.aid_stamps.specs.declared.stamp.Stamp.{Stamp}
use Rattle.log_stamps.specs.Entries.{entries, stamps_of}
use Rattle.log_stamps.specs.StampedLaws.{length-entries}
use Rattle.log_stamps.specs.declared.entry.StampedEntry.{StampedEntry}

length-stamps : (past : List (StampedEntry Filing)) → length (stamps_of past) ≡ length past
length-stamps [] = refl
length-stamps (e ∷ past) = ap (λ (n : ℕ). suc n) (length-stamps past)

-- the history and the stamps of a list
pub history_many : (past : List (StampedEntry Filing)) (h : List Filing) (stamps : List Stamp) → h ≡ entries past → stamps ≡ reverse (stamps_of past) → length stamps ≡ length h
history_many past h stamps is stamped = ap length stamped ∙ (length-reverse (stamps_of past) ∙ (length-stamps past ∙ (sym (length-entries past) ∙ sym (ap length is))))

-- the filings and the stamps, the oldest first of both
pub as_many : (past : List (StampedEntry Filing)) (filings h : List Filing) (stamps : List Stamp) → reverse filings ≡ h → h ≡ entries past → stamps ≡ reverse (stamps_of past)
    → length stamps ≡ length filings
as_many past filings h stamps filed is stamped = history_many past h stamps is stamped ∙ (sym (ap length filed) ∙ length-reverse filings)
