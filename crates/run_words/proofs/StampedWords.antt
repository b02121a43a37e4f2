-- Words behind a stamp.
use Rattle.std.proofs.Common.{◌≡◌, ◌↔◌, ℕ, ◌+◌, ◌-◌, ◌≤◌, ◌<◌, Bool, true, false, List, [], ◌∷◌, Option, Some, None, Ok, IfSome, codes, get_or, drop, take, length, map, refl, sym, ap, subst, ◌∙◌, arith}
use Rattle.std.specs.Prelude.{IsTrue}
use Rattle.std.specs.Str.{bytes_eq}
use Rattle.std.proofs.Math.Seq.{take-length}
use Rattle.std.proofs.lemmas.Bool.{true≢false}
use Rattle.std.proofs.lemmas.List.{length-map}
use Rattle.std.proofs.lemmas.Slice.Eq.{bytes_eq-Decides}
use Rattle.law_terms.specs.DayText.{IsDayText}
use Rattle.law_terms.proofs.DayTextLaws.{IsDayReading-day_in}
use Rattle.aid_stamps.specs.Clerks.{IsClerk}
use Rattle.aid_stamps.specs.Stamps.{plain_stamp}
use Rattle.aid_stamps.specs.declared.stamp.Stamp.{Stamp}
use Rattle.run_words.specs.Stamped.{IsStamped, IsStampedRow, begins_with_at, plain, said}
use Rattle.run_words.specs.Words.{IsRow, words_of}
use Rattle.run_words.specs.declared.command.Command.{Command}
use Rattle.run_words.specs.declared.command.StampedCommand.{StampedCommand}
use Rattle.run_words.specs.declared.command.Command.TheVariants.{Found, File, Book, Quote, Report, Fund, Generate, CheckRows, CheckBook}

-- a text is that of one day at most
one_day : (text : List ℕ) (m n : ℕ) → IsDayText text m → IsDayText text n → m ≡ n
one_day text m n is also =
    let reads = IsDayReading-day_in text in
    let same : Ok m ≡ Ok n = sym ((reads.ok m).1 is) ∙ (reads.ok n).1 also in
    cc

-- words that begin with `at` have no plain stamp
no_plain : {A : Type 0} (words behind : List (List ℕ)) → words ≡ codes "at" ∷ behind → begins_with_at words ≡ false → A
no_plain words behind e none = absurd (true≢false (sym (ap begins_with_at e) ∙ none))

pub record AreOne (s t : Stamp) (r q : List (List ℕ)) : Type 0 where
  pub stamp : s ≡ t
  pub rest : r ≡ q

-- words are behind one stamp at most
pub one_stamp : (words : List (List ℕ)) (s t : Stamp) (r q : List (List ℕ)) → IsStamped words s r → IsStamped words t q → AreOne s t r q
one_stamp words s t r q (plain none) (plain also) = record { stamp = refl; rest = refl }
one_stamp words s t r q (plain none) (said _ day _ is clerk some e) = no_plain words (day ∷ t.clerk ∷ q) e none
one_stamp words s t r q (said _ day _ is clerk some e) (plain none) = no_plain words (day ∷ s.clerk ∷ r) e none
one_stamp words s t r q (said _ day _ is clerk some e) (said _ other _ also clerks more f) =
    let same : codes "at" ∷ day ∷ s.clerk ∷ r ≡ codes "at" ∷ other ∷ t.clerk ∷ q = sym e ∙ f in
    let texts : day ≡ other = cc in
    let clerks_are : s.clerk ≡ t.clerk = cc in
    let days : s.day ≡ t.day = one_day other s.day t.day (subst (λ (d : List ℕ). IsDayText d s.day) texts is) also in
    record { stamp = λ i. record { day = days i; clerk = clerks_are i }; rest = cc }

-- what was found behind a stamp is all that is behind one
pub only_found : {X : Type 0} (text : X → List (List ℕ)) (words : List (List ℕ)) (found : Option (Stamp × X)) → IfSome found (λ r. IsStamped words r.0 (text r.1))
    → (found ≡ None → (stamp : Stamp) (rest : List (List ℕ)) → IsStamped words stamp rest → ⊥)
    → (stamp : Stamp) (rest : List (List ℕ)) → IsStamped words stamp rest → IfSome found (λ r. (r.0 ≡ stamp) × (text r.1 ≡ rest))
only_found text words None some none stamp rest is = absurd (none refl stamp rest is)
only_found text words (Some r) some none stamp rest is = let one = one_stamp words r.0 stamp (text r.1) rest some is in (one.stamp, one.rest)

-- what holds exactly of the words behind a stamp holds of the words behind their stamp
pub behind_stamp : {A : Type 0} (P : List (List ℕ) → Type 0) (words rest : List (List ℕ)) (stamp s : Stamp) → IsStamped words stamp rest
    → A ↔ ((stamp ≡ s) × P rest) → A ↔ ((r : List (List ℕ)) × IsStamped words s r × P r)
behind_stamp P words rest stamp s is told = (
  λ a. let (same, holds) = told.0 a in (rest, subst (λ (t : Stamp). IsStamped words t rest) same is, holds),
  λ (r, stamped, holds). let one = one_stamp words stamp s rest r is stamped in told.1 (one.stamp, subst P (sym one.rest) holds),
)

-- no row of a command begins with `at`
no_row_at : (names : List (List ℕ)) (c : Command) → begins_with_at (words_of names c) ≡ false
no_row_at names Found = refl
no_row_at names File = refl
no_row_at names (Book book) = refl
no_row_at names (Quote quote) = refl
no_row_at names (Report report) = refl
no_row_at names (Fund fund) = refl
no_row_at names (Generate generate) = refl
no_row_at names CheckRows = refl
no_row_at names CheckBook = refl

-- so a row is one behind the plain stamp
pub row_is_stamped : (names words : List (List ℕ)) (c : Command) → IsRow names words c → IsStampedRow names words plain_stamp c
row_is_stamped names words c row = (words, plain (ap begins_with_at row.1 ∙ no_row_at names c), row)

-- ---- the words of a stamp
module _ {X : Type 0} (text : X → List ℕ) where
  -- whether the first is `at`
  pub first_is_at : (words : List X) (first : X) (behind : List X) (name : List ℕ) (b : Bool) → words ≡ first ∷ behind → name ≡ text first → b ≡ bytes_eq name (codes "at")
      → b ≡ begins_with_at (map text words)
  first_is_at words first behind name b whole is told = told ∙ ap (λ (w : List ℕ). bytes_eq w (codes "at")) is ∙ ap (λ (ws : List X). begins_with_at (map text ws)) (sym whole)

  -- words that begin with `at`, and three at least
  at_words : (words : List X) (day clerk : X) (rest : List X) → begins_with_at (map text words) ≡ true → 3 ≤ length words
      → day ≡ get_or words 1 day → clerk ≡ get_or words 2 clerk → rest ≡ take (length words - 3) (drop 3 words)
      → map text words ≡ codes "at" ∷ text day ∷ text clerk ∷ map text rest
  at_words [] day clerk rest at some is_day is_clerk is_rest = absurd (omega arith)
  at_words (a ∷ []) day clerk rest at some is_day is_clerk is_rest = absurd (omega arith)
  at_words (a ∷ b ∷ []) day clerk rest at some is_day is_clerk is_rest = absurd (omega arith)
  at_words (a ∷ b ∷ c ∷ ws) day clerk rest at some is_day is_clerk is_rest =
      let first : text a ≡ codes "at" = (bytes_eq-Decides (text a) (codes "at")).0 at in
      let count : length (a ∷ b ∷ c ∷ ws) - 3 ≡ length ws = omega arith in
      let all : rest ≡ ws = is_rest ∙ (rw (count, take-length) refl) in
      λ i. first i ∷ text (sym is_day i) ∷ text (sym is_clerk i) ∷ map text (sym all i)

  pub said_is : (words : List X) (day clerk : X) (rest : List X) (day_text name : List ℕ) (stamp : Stamp) → begins_with_at (map text words) ≡ true → 3 ≤ length words
      → day ≡ get_or words 1 day → clerk ≡ get_or words 2 clerk → rest ≡ take (length words - 3) (drop 3 words) → day_text ≡ text day → name ≡ text clerk
      → IsDayText day_text stamp.day → stamp.clerk ≡ name → IsClerk name → 1 ≤ length name → IsStamped (map text words) stamp (map text rest)
  said_is words day clerk rest day_text name stamp at some is_day is_clerk is_rest told named is same clerk_is more =
      said stamp day_text (map text rest) is (subst IsClerk (sym same) clerk_is) (subst (λ (n : List ℕ). 1 ≤ length n) (sym same) more)
      (at_words words day clerk rest at some is_day is_clerk is_rest ∙ (λ i. codes "at" ∷ sym told i ∷ (sym named ∙ sym same) i ∷ map text rest))

  -- there is no stamp where these are no day and no name
  pub no_stamp : (words : List X) (day clerk : X) (rest : List X) (day_text name : List ℕ) → begins_with_at (map text words) ≡ true → 3 ≤ length words
      → day ≡ get_or words 1 day → clerk ≡ get_or words 2 clerk → rest ≡ take (length words - 3) (drop 3 words) → day_text ≡ text day → name ≡ text clerk
      → ((n : ℕ) → IsDayText day_text n → IsClerk name → 1 ≤ length name → ⊥) → (stamp : Stamp) (behind : List (List ℕ)) → IsStamped (map text words) stamp behind → ⊥
  no_stamp words day clerk rest day_text name at some is_day is_clerk is_rest told named none stamp behind (plain not_at) = true≢false (sym at ∙ not_at)
  no_stamp words day clerk rest day_text name at some is_day is_clerk is_rest told named none stamp behind (said _ d _ is clerk_is more e) =
      let same : codes "at" ∷ d ∷ stamp.clerk ∷ behind ≡ codes "at" ∷ text day ∷ text clerk ∷ map text rest = sym e ∙ at_words words day clerk rest at some is_day is_clerk is_rest in
      let texts : d ≡ text day = cc in
      let names : stamp.clerk ≡ text clerk = cc in
      none stamp.day (subst (λ (w : List ℕ). IsDayText w stamp.day) (texts ∙ sym told) is) (subst IsClerk (names ∙ sym named) clerk_is)
      (subst (λ (w : List ℕ). 1 ≤ length w) (names ∙ sym named) more)

  -- nor where there are fewer words
  pub too_few : (words : List X) → begins_with_at (map text words) ≡ true → length words < 3 → (stamp : Stamp) (behind : List (List ℕ)) → IsStamped (map text words) stamp behind → ⊥
  too_few words at few stamp behind (plain not_at) = true≢false (sym at ∙ not_at)
  too_few words at few stamp behind (said _ d _ is clerk_is more e) = let count : length (map text words) ≡ length behind + 3 = ap length e ∙ omega arith in omega (arith, count, length-map words text)

  -- whether a row of one word is this one
  pub is_alone_word : (words : List X) (w : X) (name word : List ℕ) (b : Bool) → 1 ≤ length words → length words < 2 → w ≡ get_or words 0 w → name ≡ text w → b ≡ bytes_eq name word
      → IsTrue b ↔ (map text words ≡ word ∷ [])
  is_alone_word [] w name word b some few at is told = absurd (omega arith)
  is_alone_word (v ∷ u ∷ us) w name word b some few at is told = absurd (omega arith)
  is_alone_word (v ∷ []) w name word b some few at is told =
      let names : name ≡ text v = is ∙ ap text at in
      let tests = bytes_eq-Decides name word in (
        λ yes. ap (λ (n : List ℕ). n ∷ []) (sym names ∙ tests.0 (sym told ∙ yes)),
        λ e. let same : text v ≡ word = cc in told ∙ tests.1 (names ∙ same),
      )

-- ---- the command that was read of the words behind the stamp
module _ (names words rest : List (List ℕ)) (stamp : Stamp) (is : IsStamped words stamp rest) (found : Option Command) (only : (d : Command) → IsRow names rest d → found ≡ Some d) where
  found_behind : (s : Stamp) (d : Command) → IsStampedRow names words s d → (stamp ≡ s) × (found ≡ Some d)
  found_behind s d (r, stamped, row) =
      let one = one_stamp words stamp s rest r is stamped in (one.stamp, only d (subst (λ (ws : List (List ℕ)). IsRow names ws d) (sym one.rest) row))

  pub only_command : (command : Command) → found ≡ Some command → (s : Stamp) (d : Command) → IsStampedRow names words s d
      → ◌≡◌ {A = Option StampedCommand} (Some (record { stamp = stamp; command = command })) (Some (record { stamp = s; command = d }))
  only_command command read s d row =
      let both = found_behind s d row in
      let same : command ≡ d = cc (read, both.1) in
      let stamps = both.0 in
      λ i. Some (record { stamp = stamps i; command = same i })

  pub no_command : found ≡ None → (s : Stamp) (d : Command) → IsStampedRow names words s d → ⊥
  no_command read s d row = let both = found_behind s d row in let bad : ◌≡◌ {A = Option Command} None (Some d) = sym read ∙ both.1 in absurd cc
