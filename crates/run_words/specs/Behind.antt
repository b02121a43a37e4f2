-- What the commands are to `clap`, each its name and a required word for each one behind it, and what it makes of these words.
use Rattle.std.specs.Prelude.{◌≡◌, ◌≢◌, true, List, [], ◌∷◌, codes, Option, Some, MatchOption}
use Rattle.clap.specs.Words.{App, Rule, Text, fault_of, first_value, found_of, matches_of, new_app, new_rule, rows_of, with_rule}
use Rattle.clap.specs.declared.parser.matches.ArgMatches.{ArgMatches}

-- a word that has to be there
abbrev pub required_rule : Text → Rule
required_rule id = record (new_rule id) { required = true }

-- a command of no word, with no flag for help or the version; it reads the words behind its name
abbrev pub bare_app : Text → App
bare_app name = record (new_app name) { top = record ((new_app name).top) { no_binary_name = true; disable_help_flag = true; disable_version_flag = true } }

-- NUMBER
abbrev pub number_app : Text → App
number_app name = with_rule (bare_app name) (required_rule (codes "number"))

-- SEED STUDENTS
abbrev pub generate_app : App
generate_app = with_rule (with_rule (bare_app (codes "generate")) (required_rule (codes "seed"))) (required_rule (codes "students"))

-- SCHOOL STUDENT YEAR TERM
abbrev pub quote_app : App
quote_app =
    with_rule (with_rule (with_rule (with_rule (bare_app (codes "quote")) (required_rule (codes "school"))) (required_rule (codes "student"))) (required_rule (codes "year"))) (required_rule (codes "term"))

-- SCHOOL YEAR TERM AMOUNT POLICY NUMBER
abbrev pub fund_app : App
fund_app =
    with_rule (with_rule (with_rule (with_rule (with_rule (with_rule (bare_app (codes "fund")) (required_rule (codes "school"))) (required_rule (codes "year"))) (required_rule (codes "term"))) (required_rule (codes "amount"))) (required_rule (codes "policy"))) (required_rule (codes "number"))

-- what a command makes of the words: nothing where it refuses them
abbrev pub Parses : App → List Text → Option ArgMatches → Type 0
Parses app words parsed = MatchOption parsed (fault_of app words ≢ []) (λ matches. (fault_of app words ≡ []) × (rows_of (found_of matches) ≡ matches_of app words))

-- each id has the word of its place, and there are as many of the ones as of the others
abbrev pub Finds : List Text → List Text → ArgMatches → Type 0
Finds [] [] matches = Unit {0}
Finds (id ∷ ids) (word ∷ words) matches = (first_value (found_of matches) id ≡ Some word) × Finds ids words matches
Finds ids words matches = ⊥

-- the ids of each command's words
abbrev pub number_ids : List Text
number_ids = codes "number" ∷ []

abbrev pub generate_ids : List Text
generate_ids = codes "seed" ∷ codes "students" ∷ []

abbrev pub quote_ids : List Text
quote_ids = codes "school" ∷ codes "student" ∷ codes "year" ∷ codes "term" ∷ []

abbrev pub fund_ids : List Text
fund_ids = codes "school" ∷ codes "year" ∷ codes "term" ∷ codes "amount" ∷ codes "policy" ∷ codes "number" ∷ []
