-- The row of words of a run, and the stamp in front of it.
use Rattle.std.proofs.Common.{◌≡◌, ◌≢◌, inl, inr, ℕ, ◌≤◌, false, List, [], ◌∷◌, codes, length, refl, arith, subst, sym}
use Rattle.run_claims.specs.Written.{Says}
use Rattle.run_claims.proofs.Texts.{day_text_of}
use Rattle.run_words.specs.Stamped.{IsStamped, IsStampedRow, begins_with_at, plain, said}
use Rattle.run_words.specs.declared.command.Command.{Command}
use Rattle.run_words.specs.declared.command.Command.TheVariants.{File, Found}
use Rattle.aid_stamps.specs.Stamps.{plain_stamp}
use Rattle.aid_stamps.specs.declared.stamp.Stamp.{Stamp}

-- the same words are the row of the same command
pub same_row : (names words other : List (List ℕ)) (stamp : Stamp) (command : Command) → other ≡ words → IsStampedRow names words stamp command → IsStampedRow names other stamp command
same_row names words other stamp command same row = subst (λ (ws : List (List ℕ)). IsStampedRow names ws stamp command) (sym same) row

some_letters : (word : List ℕ) → word ≢ [] → 1 ≤ length word
some_letters [] none = absurd (none refl)
some_letters (letter ∷ word) none = omega arith

-- what words say behind a stamp stands behind it
says_stamped : (rest words : List (List ℕ)) (stamp : Stamp) → begins_with_at rest ≡ false → Says stamp rest words → IsStamped words stamp rest
says_stamped rest words stamp other (inl (is, same)) =
    subst (λ (s : Stamp). IsStamped words s rest) (sym is) (subst (λ (ws : List (List ℕ)). IsStamped ws plain_stamp rest) (sym same) (plain other))
says_stamped rest words stamp other (inr (within, is, named, text, dated, same)) =
    said stamp text rest (day_text_of text stamp.day within dated) is (some_letters stamp.clerk named) same

-- one word is the row of a command without numbers, whatever policies are known
pub found_row : (names words : List (List ℕ)) (stamp : Stamp) → Says stamp (codes "found" ∷ []) words → IsStampedRow names words stamp Found
found_row names words stamp says = (codes "found" ∷ [], says_stamped (codes "found" ∷ []) words stamp refl says, (refl, refl, tt))

pub file_row : (names words : List (List ℕ)) (stamp : Stamp) → Says stamp (codes "file" ∷ []) words → IsStampedRow names words stamp File
file_row names words stamp says = (codes "file" ∷ [], says_stamped (codes "file" ∷ []) words stamp refl says, (refl, refl, tt))
