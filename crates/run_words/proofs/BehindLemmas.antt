-- The commands of no word, of one, two, four and six words, on plain words behind their names.
use Rattle.std.proofs.Common.{◌≡◌, ◌≢◌, ⊎_elim, ℕ, subst, arith, Bool, true, false, List, [], ◌∷◌, Option, Some, None, refl, sym, ap, ◌∙◌, codes, length}
use Rattle.std.specs.Prelude.{IsSome, MatchOption, is_some}
use Rattle.std.specs.List.{list_all}
use Rattle.clap.specs.Words.{App, Row, Text, is_simple_and_free, fault_of, matches_of, first_of, first_value, found_of, rows_of}
use Rattle.clap.specs.Simple.{Shape, built}
use Rattle.clap.specs.Walk.{nothing_held}
use Rattle.clap.specs.Faults.{built_fault}
use Rattle.clap.specs.Kinds.{Kinds}
use Rattle.clap.specs.declared.parser.matches.ArgMatches.{ArgMatches}
use Rattle.clap.proofs.WalkLemmas.{first_value-rows}
use Rattle.clap.proofs.OnLiterals.{clap_on_literals}
use Rattle.std.proofs.lemmas.Bool.{cases_eq}
use Rattle.run_words.specs.Words.{ArePlain}
use Rattle.run_words.specs.Behind.{Finds, Parses, bare_app, fund_app, fund_ids, generate_app, generate_ids, number_app, number_ids, quote_app, quote_ids}
use Rattle.run_words.proofs.ClapLemmas.{alone, ends, failing, fault_at, is_single, placed, rows_at}

-- some kind of error comes
abbrev some_kind : Kinds → Bool
some_kind [] = false
some_kind (kind ∷ kinds) = true

fails : (kinds : Kinds) → some_kind kinds ≡ true → kinds ≢ []
fails [] some none = absurd (let bad : ⊥ = cc in bad)
fails (kind ∷ kinds) some none = absurd (let bad : ⊥ = cc in bad)

-- the kinds at the end of a walk over all words
abbrev at_end : Shape → List Text → Kinds
at_end s words = ends s (placed s.rules words nothing_held 1) (failing s words nothing_held 1)

-- a command refuses plain words where some kind comes
refused : (s : Shape) (words : List Text) → list_all is_single s.rules ≡ true → ArePlain words → some_kind (at_end s words) ≡ true → built_fault (alone s) nothing_held words ≢ []
refused s words single plain some ok = fails (at_end s words) some (sym (fault_at s single words plain) ∙ ok)

-- the first value of an id in rows
finds : (matches : ArgMatches) (id word : Text) (rows : List Row) → rows_of (found_of matches) ≡ rows → first_of id rows ≡ Some word → first_value (found_of matches) id ≡ Some word
finds matches id word rows are first = first_value-rows (found_of matches) id ∙ ap (first_of id) are ∙ first

-- what was found, of so many words
abbrev pub IsFound : ℕ → List Text → List Text → Option ArgMatches → Type 0
IsFound count ids words parsed = MatchOption parsed (length words ≢ count) (Finds ids words)

-- ---- no word
abbrev none_shape : Text → Shape
none_shape name = (built (bare_app name)).top

none_fits : (name : Text) → fault_of (bare_app name) [] ≡ []
unfolding clap_on_literals
none_fits name = fault_at (none_shape name) refl [] refl ∙ refl

none_fails : (name word : Text) (words : List Text) → ArePlain (word ∷ words) → fault_of (bare_app name) (word ∷ words) ≢ []
unfolding clap_on_literals
none_fails name word words plain = refused (none_shape name) (word ∷ words) refl plain refl

pub bare_is_simple : (name : Text) → is_simple_and_free (bare_app name) ≡ true
bare_is_simple name = refl

pub alone_parses : (name : Text) (words : List Text) → ArePlain words → (parsed : Option ArgMatches) → Parses (bare_app name) words parsed → (is_some parsed ≡ true → words ≡ []) × (words ≡ [] → is_some parsed ≡ true)
alone_parses name [] plain None bad = absurd (bad (none_fits name))
alone_parses name [] plain (Some matches) (ok, rows) = (λ some. refl, λ none. refl)
alone_parses name (word ∷ words) plain None bad = (λ some. absurd (let no : ⊥ = cc in no), λ none. absurd (let no : ⊥ = cc in no))
alone_parses name (word ∷ words) plain (Some matches) (ok, rows) = absurd (none_fails name word words plain ok)

-- ---- one word
abbrev number_shape : Text → Shape
number_shape name = (built (number_app name)).top

pub number_is_simple : (name : Text) → is_simple_and_free (number_app name) ≡ true
number_is_simple name = refl

number_fits : (name a : Text) → ArePlain (a ∷ []) → fault_of (number_app name) (a ∷ []) ≡ []
unfolding clap_on_literals
number_fits name a plain = fault_at (number_shape name) refl (a ∷ []) plain ∙ refl

number_few : (name : Text) → fault_of (number_app name) [] ≢ []
unfolding clap_on_literals
number_few name = refused (number_shape name) [] refl refl refl

number_many : (name a b : Text) (words : List Text) → ArePlain (a ∷ b ∷ words) → fault_of (number_app name) (a ∷ b ∷ words) ≢ []
unfolding clap_on_literals
number_many name a b words plain = refused (number_shape name) (a ∷ b ∷ words) refl plain refl

pub number_parses : (name : Text) (words : List Text) → ArePlain words → (parsed : Option ArgMatches) → Parses (number_app name) words parsed → IsFound 1 number_ids words parsed
number_parses name (a ∷ []) plain None bad = absurd (bad (number_fits name a plain))
number_parses name (a ∷ []) plain (Some matches) (ok, rows) = (finds matches (codes "number") a _ (rows ∙ rows_at (number_shape name) refl (a ∷ []) plain) refl, tt)
number_parses name [] plain None bad = λ e. absurd (omega (arith, e))
number_parses name [] plain (Some matches) (ok, rows) = absurd (number_few name ok)
number_parses name (a ∷ b ∷ words) plain None bad = λ e. absurd (omega (arith, e))
number_parses name (a ∷ b ∷ words) plain (Some matches) (ok, rows) = absurd (number_many name a b words plain ok)

-- ---- two words
abbrev generate_shape : Shape
generate_shape = (built generate_app).top

pub generate_is_simple : is_simple_and_free generate_app ≡ true
generate_is_simple = refl

generate_fits : (a b : Text) → ArePlain (a ∷ b ∷ []) → fault_of generate_app (a ∷ b ∷ []) ≡ []
unfolding clap_on_literals
generate_fits a b plain = fault_at generate_shape refl (a ∷ b ∷ []) plain ∙ refl

-- no other number of words fits
generate_unlike : (words : List Text) → ArePlain words → length words ≢ 2 → fault_of generate_app words ≢ []
unfolding clap_on_literals
generate_unlike [] plain other = refused generate_shape [] refl plain refl
generate_unlike (a ∷ []) plain other = refused generate_shape (a ∷ []) refl plain refl
generate_unlike (a ∷ b ∷ []) plain other = absurd (other refl)
generate_unlike (a ∷ b ∷ c ∷ words) plain other = refused generate_shape (a ∷ b ∷ c ∷ words) refl plain refl

generate_found : (words : List Text) → ArePlain words → length words ≡ 2 → (matches : ArgMatches) → rows_of (found_of matches) ≡ matches_of generate_app words → Finds generate_ids words matches
generate_found [] plain count matches rows = absurd (omega (arith, count))
generate_found (a ∷ []) plain count matches rows = absurd (omega (arith, count))
generate_found (a ∷ b ∷ []) plain count matches rows =
    let are = rows ∙ rows_at generate_shape refl (a ∷ b ∷ []) plain in (finds matches (codes "seed") a _ are refl, (finds matches (codes "students") b _ are refl, tt))
generate_found (a ∷ b ∷ c ∷ words) plain count matches rows = absurd (omega (arith, count))

generate_fault : (words : List Text) → ArePlain words → length words ≡ 2 → fault_of generate_app words ≡ []
generate_fault [] plain count = absurd (omega (arith, count))
generate_fault (a ∷ []) plain count = absurd (omega (arith, count))
generate_fault (a ∷ b ∷ []) plain count = generate_fits a b plain
generate_fault (a ∷ b ∷ c ∷ words) plain count = absurd (omega (arith, count))

pub generate_parses : (words : List Text) → ArePlain words → (parsed : Option ArgMatches) → Parses generate_app words parsed → IsFound 2 generate_ids words parsed
generate_parses words plain None bad = λ count. bad (generate_fault words plain count)
generate_parses words plain (Some matches) (ok, rows) = ⊎_elim (λ count. generate_found words plain count matches rows) (λ other. absurd (generate_unlike words plain other ok)) (cases_eq (length words) 2)

-- ---- four words
abbrev quote_shape : Shape
quote_shape = (built quote_app).top

pub quote_is_simple : is_simple_and_free quote_app ≡ true
quote_is_simple = refl

quote_fits : (a b c d : Text) → ArePlain (a ∷ b ∷ c ∷ d ∷ []) → fault_of quote_app (a ∷ b ∷ c ∷ d ∷ []) ≡ []
unfolding clap_on_literals
quote_fits a b c d plain = fault_at quote_shape refl (a ∷ b ∷ c ∷ d ∷ []) plain ∙ refl

-- no other number of words fits
quote_unlike : (words : List Text) → ArePlain words → length words ≢ 4 → fault_of quote_app words ≢ []
unfolding clap_on_literals
quote_unlike [] plain other = refused quote_shape [] refl plain refl
quote_unlike (a ∷ []) plain other = refused quote_shape (a ∷ []) refl plain refl
quote_unlike (a ∷ b ∷ []) plain other = refused quote_shape (a ∷ b ∷ []) refl plain refl
quote_unlike (a ∷ b ∷ c ∷ []) plain other = refused quote_shape (a ∷ b ∷ c ∷ []) refl plain refl
quote_unlike (a ∷ b ∷ c ∷ d ∷ []) plain other = absurd (other refl)
quote_unlike (a ∷ b ∷ c ∷ d ∷ e ∷ words) plain other = refused quote_shape (a ∷ b ∷ c ∷ d ∷ e ∷ words) refl plain refl

quote_found : (words : List Text) → ArePlain words → length words ≡ 4 → (matches : ArgMatches) → rows_of (found_of matches) ≡ matches_of quote_app words → Finds quote_ids words matches
quote_found [] plain count matches rows = absurd (omega (arith, count))
quote_found (a ∷ []) plain count matches rows = absurd (omega (arith, count))
quote_found (a ∷ b ∷ []) plain count matches rows = absurd (omega (arith, count))
quote_found (a ∷ b ∷ c ∷ []) plain count matches rows = absurd (omega (arith, count))
quote_found (a ∷ b ∷ c ∷ d ∷ []) plain count matches rows =
    let are = rows ∙ rows_at quote_shape refl (a ∷ b ∷ c ∷ d ∷ []) plain in (finds matches (codes "school") a _ are refl, (finds matches (codes "student") b _ are refl, (finds matches (codes "year") c _ are refl, (finds matches (codes "term") d _ are refl, tt))))
quote_found (a ∷ b ∷ c ∷ d ∷ e ∷ words) plain count matches rows = absurd (omega (arith, count))

quote_fault : (words : List Text) → ArePlain words → length words ≡ 4 → fault_of quote_app words ≡ []
quote_fault [] plain count = absurd (omega (arith, count))
quote_fault (a ∷ []) plain count = absurd (omega (arith, count))
quote_fault (a ∷ b ∷ []) plain count = absurd (omega (arith, count))
quote_fault (a ∷ b ∷ c ∷ []) plain count = absurd (omega (arith, count))
quote_fault (a ∷ b ∷ c ∷ d ∷ []) plain count = quote_fits a b c d plain
quote_fault (a ∷ b ∷ c ∷ d ∷ e ∷ words) plain count = absurd (omega (arith, count))

pub quote_parses : (words : List Text) → ArePlain words → (parsed : Option ArgMatches) → Parses quote_app words parsed → IsFound 4 quote_ids words parsed
quote_parses words plain None bad = λ count. bad (quote_fault words plain count)
quote_parses words plain (Some matches) (ok, rows) = ⊎_elim (λ count. quote_found words plain count matches rows) (λ other. absurd (quote_unlike words plain other ok)) (cases_eq (length words) 4)

-- ---- six words
abbrev fund_shape : Shape
fund_shape = (built fund_app).top

pub fund_is_simple : is_simple_and_free fund_app ≡ true
fund_is_simple = refl

fund_fits : (a b c d e f : Text) → ArePlain (a ∷ b ∷ c ∷ d ∷ e ∷ f ∷ []) → fault_of fund_app (a ∷ b ∷ c ∷ d ∷ e ∷ f ∷ []) ≡ []
unfolding clap_on_literals
fund_fits a b c d e f plain = fault_at fund_shape refl (a ∷ b ∷ c ∷ d ∷ e ∷ f ∷ []) plain ∙ refl

-- no other number of words fits
fund_unlike : (words : List Text) → ArePlain words → length words ≢ 6 → fault_of fund_app words ≢ []
unfolding clap_on_literals
fund_unlike [] plain other = refused fund_shape [] refl plain refl
fund_unlike (a ∷ []) plain other = refused fund_shape (a ∷ []) refl plain refl
fund_unlike (a ∷ b ∷ []) plain other = refused fund_shape (a ∷ b ∷ []) refl plain refl
fund_unlike (a ∷ b ∷ c ∷ []) plain other = refused fund_shape (a ∷ b ∷ c ∷ []) refl plain refl
fund_unlike (a ∷ b ∷ c ∷ d ∷ []) plain other = refused fund_shape (a ∷ b ∷ c ∷ d ∷ []) refl plain refl
fund_unlike (a ∷ b ∷ c ∷ d ∷ e ∷ []) plain other = refused fund_shape (a ∷ b ∷ c ∷ d ∷ e ∷ []) refl plain refl
fund_unlike (a ∷ b ∷ c ∷ d ∷ e ∷ f ∷ []) plain other = absurd (other refl)
fund_unlike (a ∷ b ∷ c ∷ d ∷ e ∷ f ∷ g ∷ words) plain other = refused fund_shape (a ∷ b ∷ c ∷ d ∷ e ∷ f ∷ g ∷ words) refl plain refl

fund_found : (words : List Text) → ArePlain words → length words ≡ 6 → (matches : ArgMatches) → rows_of (found_of matches) ≡ matches_of fund_app words → Finds fund_ids words matches
fund_found [] plain count matches rows = absurd (omega (arith, count))
fund_found (a ∷ []) plain count matches rows = absurd (omega (arith, count))
fund_found (a ∷ b ∷ []) plain count matches rows = absurd (omega (arith, count))
fund_found (a ∷ b ∷ c ∷ []) plain count matches rows = absurd (omega (arith, count))
fund_found (a ∷ b ∷ c ∷ d ∷ []) plain count matches rows = absurd (omega (arith, count))
fund_found (a ∷ b ∷ c ∷ d ∷ e ∷ []) plain count matches rows = absurd (omega (arith, count))
fund_found (a ∷ b ∷ c ∷ d ∷ e ∷ f ∷ []) plain count matches rows =
    let are = rows ∙ rows_at fund_shape refl (a ∷ b ∷ c ∷ d ∷ e ∷ f ∷ []) plain in (finds matches (codes "school") a _ are refl, (finds matches (codes "year") b _ are refl, (finds matches (codes "term") c _ are refl, (finds matches (codes "amount") d _ are refl, (finds matches (codes "policy") e _ are refl, (finds matches (codes "number") f _ are refl, tt))))))
fund_found (a ∷ b ∷ c ∷ d ∷ e ∷ f ∷ g ∷ words) plain count matches rows = absurd (omega (arith, count))

fund_fault : (words : List Text) → ArePlain words → length words ≡ 6 → fault_of fund_app words ≡ []
fund_fault [] plain count = absurd (omega (arith, count))
fund_fault (a ∷ []) plain count = absurd (omega (arith, count))
fund_fault (a ∷ b ∷ []) plain count = absurd (omega (arith, count))
fund_fault (a ∷ b ∷ c ∷ []) plain count = absurd (omega (arith, count))
fund_fault (a ∷ b ∷ c ∷ d ∷ []) plain count = absurd (omega (arith, count))
fund_fault (a ∷ b ∷ c ∷ d ∷ e ∷ []) plain count = absurd (omega (arith, count))
fund_fault (a ∷ b ∷ c ∷ d ∷ e ∷ f ∷ []) plain count = fund_fits a b c d e f plain
fund_fault (a ∷ b ∷ c ∷ d ∷ e ∷ f ∷ g ∷ words) plain count = absurd (omega (arith, count))

pub fund_parses : (words : List Text) → ArePlain words → (parsed : Option ArgMatches) → Parses fund_app words parsed → IsFound 6 fund_ids words parsed
fund_parses words plain None bad = λ count. bad (fund_fault words plain count)
fund_parses words plain (Some matches) (ok, rows) = ⊎_elim (λ count. fund_found words plain count matches rows) (λ other. absurd (fund_unlike words plain other ok)) (cases_eq (length words) 6)

-- ---- what was found, by the ids
-- each id has a word
abbrev pub AllSome : List Text → ArgMatches → Type 0
AllSome [] matches = Unit {0}
AllSome (id ∷ ids) matches = IsSome (first_value (found_of matches) id) × AllSome ids matches

some_of : {o : Option Text} {word : Text} → o ≡ Some word → IsSome o
some_of e = ap is_some e

pub all_some : (ids words : List Text) (matches : ArgMatches) → Finds ids words matches → AllSome ids matches
all_some [] [] matches found = tt
all_some [] (word ∷ words) matches found = elim found [ ]
all_some (id ∷ ids) [] matches found = elim found [ ]
all_some (id ∷ ids) (word ∷ words) matches (first, found) = (some_of first, all_some ids words matches found)

-- the words that were found are the words
pub same_words : (ids words values : List Text) (matches : ArgMatches) → Finds ids words matches → Finds ids values matches → words ≡ values
same_words [] [] [] matches found read = refl
same_words [] [] (text ∷ values) matches found read = elim read [ ]
same_words [] (word ∷ words) values matches found read = elim found [ ]
same_words (id ∷ ids) [] values matches found read = elim found [ ]
same_words (id ∷ ids) (word ∷ words) [] matches found read = elim read [ ]
same_words (id ∷ ids) (word ∷ words) (text ∷ values) matches (first, found) (is, read) =
    let one : word ≡ text = same_some first is in
    rw (one, same_words ids words values matches found read) refl
  where
    same_some : {o : Option Text} {s t : Text} → o ≡ Some s → o ≡ Some t → s ≡ t
    same_some e f = cc

-- what a parse gave
module _ (app : App) (count : ℕ) (ids : List Text) (parses : (words : List Text) → ArePlain words → (parsed : Option ArgMatches) → Parses app words parsed → IsFound count ids words parsed) where
  pub none_found : (words : List Text) → ArePlain words → (a : App) → a ≡ app → (parsed : Option ArgMatches) → Parses a words parsed → parsed ≡ None → length words ≢ count
  none_found words plain a is parsed reads none =
      subst (IsFound count ids words) none (parses words plain parsed (subst (λ (b : App). Parses b words parsed) is reads))

  pub some_found : (words : List Text) → ArePlain words → (a : App) → a ≡ app → (parsed : Option ArgMatches) → Parses a words parsed → (matches : ArgMatches) → parsed ≡ Some matches → Finds ids words matches
  some_found words plain a is parsed reads matches some =
      subst (IsFound count ids words) some (parses words plain parsed (subst (λ (b : App). Parses b words parsed) is reads))
