-- What a request files, in few words: an own route, and a JSON body (RFC 8259) as `serde_json` reads it.
use Rattle.std.specs.Prelude.{◌≡◌, ℕ, ◌+◌, ◌<◌, ◌==◌, ℤ, pos, true, List, [], ◌∷◌, ◌++◌, codes, length, map, slice_index_or, take, Some, option_and_then}
use Rattle.std.specs.List.{slice_split}
use Rattle.std.specs.Str.{is_utf8}
use Rattle.httparse.specs.Grammar.{RequestHead}
use Rattle.serde_json.specs.Data.{Data, Items, Members, array, item, no_items, object, string}
use Rattle.serde_json.specs.Events.{members_len}
use Rattle.serde_json.specs.Find.{as_i64, as_number, get}
use Rattle.serde_json.specs.Read.{read}
use Rattle.aid_types.specs.Programs.{rank}
use Rattle.aid_types.specs.Whole.{whole_text}
use Rattle.aid_filings.specs.declared.filing.Filing.{Filing}
use Rattle.aid_filings.specs.declared.filing.What.{What}
use Rattle.aid_filings.specs.declared.filing.What.TheVariants.{Book as BookFiled, School, Calendar, Prior, Apply, Enroll, Originate, Withdraw, Cost, Sent, Amend}
use Rattle.format_kinds.specs.Kinds.{words_of_programs}
use Rattle.run_claims.specs.Written.{CanBeFiled, IsDateOf, Number, day, money, ranged, whole, word, written}

-- the words of a text
abbrev pub words : List ℕ → List (List ℕ)
words text = slice_split (λ c. c == 32) text

-- the names of the amounts of a household, behind a beginning
abbrev pub household : List ℕ → List (List ℕ)
household start =
    map (λ name. start ++ name) (words (codes "agi ira interest ira_untaxed pension foreign grants credits work_study tax earned_first earned_second support cash investments business"))

-- the names of what is filed, one for each number; the breaks of a calendar have one for all
abbrev pub names_of : What → List (List ℕ)
names_of (BookFiled x) = []
names_of (School x) = words (codes "code terms full")
names_of (Calendar x) = words (codes "year term extra first last breaks")
names_of (Prior x) = words (codes "student units")
names_of (Apply x) =
    words (codes "student year transaction birth_year region family married graduate bachelor veteran dependents orphan ward foster emancipated homeless student_file")
    ++ household [] ++ words (codes "parents_married parents_file parent_age") ++ household (codes "parent_")
names_of (Enroll x) = words (codes "student year term credits")
names_of (Originate x) = words (codes "student year cost")
names_of (Withdraw x) = words (codes "student year term last determined charges could_unsub could_sub could_plus could_pell could_fseog could_teach")
names_of (Cost x) = words (codes "student year cost")
names_of (Sent x) = words (codes "student year term program cents day reference")
names_of (Amend x) = words (codes "of_school of_number change reason reference")
names_of _ = words (codes "student year term program cents")

-- a value is a whole number
abbrev pub SaysWhole : ℤ → Data → Type 0
SaysWhole z v = option_and_then as_i64 (as_number v) ≡ Some z

-- a value says a number: a day and a program are texts, and every other one is a whole number
abbrev pub SaysNumber : Number → Data → Type 0
SaysNumber (day d) v = (text : List ℕ) × (v ≡ string text) × IsDateOf d text
SaysNumber (word program) v = v ≡ string (slice_index_or words_of_programs (rank program) [])
SaysNumber (whole width z) v = SaysWhole z v
SaysNumber (ranged width low high n) v = SaysWhole (pos n) v
SaysNumber (money cents) v = SaysWhole (pos cents) v

-- a value has, under each of these names, what says its number
abbrev pub SaysNumbers : Data → List (List ℕ) → List Number → Type 0
SaysNumbers d [] ns = Unit {0}
SaysNumbers d (name ∷ names) [] = ⊥
SaysNumbers d (name ∷ names) (n ∷ ns) = (v : Data) × (get name d ≡ Some v) × SaysNumber n v × SaysNumbers d names ns

-- arrays of a first and a last day say these breaks
abbrev pub SaysBreaks : List (ℕ × ℕ) → Items → Type 0
SaysBreaks [] no_items = Unit {0}
SaysBreaks (days ∷ breaks) (item (array (item first (item last no_items))) items) = SaysNumber (day days.0) first × SaysNumber (day days.1) last × SaysBreaks breaks items
SaysBreaks _ _ = ⊥

-- a value says what is filed
abbrev pub SaysWhat : Data → What → Type 0
SaysWhat d (Calendar x) =
    SaysNumbers d (take 5 (names_of (Calendar x))) (written (Calendar x)).2 × (items : Items) × (get (codes "breaks") d ≡ Some (array items)) × SaysBreaks x.breaks items
SaysWhat d what = SaysNumbers d (names_of what) (written what).2

-- An object says a filing, but for its school: its kind, its number, and what is filed, each under its name. It has no other member.
pub record SaysFiling (d : Data) (f : Filing) : Type 0 where
  pub members : Members
  pub is_object : d ≡ object members
  pub count : members_len members ≡ length (names_of f.what) + 2
  pub kind : get (codes "kind") d ≡ Some (string (written f.what).1)
  pub number : SaysNumbers d (codes "number" ∷ []) (whole 8 (pos f.key.number) ∷ [])
  pub what : SaysWhat d f.what

-- The request files this: its target is that of the school's filings, and its body says the filing. A book has no body.
abbrev pub Posts : RequestHead → List ℕ → Filing → Type 0
Posts head body f =
    (head.method ≡ codes "POST") × (head.target ≡ codes "/desks/" ++ whole_text (pos f.key.school) ++ codes "/filings")
    × CanBeFiled f × (1 < (written f.what).0) × (is_utf8 body ≡ true) × (d : Data) × (read body ≡ Some d) × SaysFiling d f
