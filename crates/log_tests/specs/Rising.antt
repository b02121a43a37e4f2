-- Numbers that rise, kept and filed. A list is read newest first.
use Rattle.std.specs.Prelude.{◌==◌, ⊤, ℕ, Bool, true, false, IsTrue, List, [], ◌∷◌, map, nat_lt, codes, refl, if◌then◌else◌, Option, Some, None, Result, Ok, Err}
use Rattle.log_journal.specs.declared.header.Header.{Header}
use Rattle.log_machine.specs.Scheme.{Scheme, Semantics}
use Rattle.log_machine.specs.Texts.{Texts}

-- numbers, the newest first, and how many more there is room for
pub record Numbers : Type 0 where
  pub list : List ℕ
  pub spare : ℕ

-- a number may follow lesser ones
abbrev pub is_next : List ℕ → ℕ → Bool
is_next [] n = true
is_next (last ∷ past) n = nat_lt last n

-- each number followed lesser ones
abbrev pub Rises : List ℕ → Type 0
Rises [] = Unit {0}
Rises (n ∷ past) = Rises past × IsTrue (is_next past n)

-- the number, where it may follow
abbrev pub next_of : List ℕ → ℕ → Option ℕ
next_of past n = if is_next past n then Some n else None

-- the name NUMBERS1, and the version 1
abbrev pub rising_header : Header
rising_header = record { name = codes "NUMBERS1"; version = 1; old = None; name_size = refl }

abbrev pub rising_scheme : Scheme ℕ
rising_scheme = record {
  header = rising_header;
  spelling = λ n. n ∷ [];
  IsEntry = λ n. ⊤;
  admits = is_next;
  IsLegal = Rises;
}

abbrev pub rising_judging : Semantics ℕ ℕ Bool
rising_judging = record { answer = is_next; added = next_of }

-- each byte of a text is a row: its number, but for 0, which is none
abbrev pub row_of : ℕ → Result ℕ ℕ
row_of b = if b == 0 then Err b else Ok b

-- the rows of a text
abbrev pub byte_rows : List ℕ → List (Result ℕ ℕ)
byte_rows text = map row_of text

abbrev pub answer_text : ℕ → ℕ → Bool → List ℕ
answer_text number front true = codes "kept\n"
answer_text number front false = codes "refused\n"

-- a row says what it is
abbrev pub rising_texts : Texts ℕ Bool ℕ
rising_texts = record {
  Meaning = Result ℕ ℕ;
  said = λ row. row;
  answer_line = answer_text;
  error_line = λ b. codes "no number\n";
}
