-- The line of an error is one line: nothing in it but its last byte ends a line.
use Rattle.std.proofs.Common.{◌≡◌, ◌≢◌, ◌+◌, ◌/◌, ◌%◌, ◌++◌, ◌∙◌, Bool, true, false, ℕ, zero, suc, List, [], ◌∷◌, Option, Some, None, IfSome, ap, codes, nat_lt, ◌==◌, sym, decimal, if◌then◌else◌, inl, inr, refl, arith}
use Rattle.std.proofs.lemmas.Bool.{true≢false}
use Rattle.std.specs.Char.{is_ascii_control}
use Rattle.std.specs.Fmt.{digit_glyph, digits, digits_onto}
use Rattle.std.specs.List.{AllByRecursion}
use Rattle.format_books.specs.Errors.{error_number}
use Rattle.format_books.specs.declared.error.BookError.{BookError}
use Rattle.format_books.specs.declared.error.BookError.TheVariants.{NotToml, Missing, WrongKind, OutOfRange, NotRising, Unknown, NoMemory}
use Rattle.format_filings.specs.BookLines.{IsOneLine, book_error_line, details, numbered_line, shown, shown_key}

-- no byte of a text ends a line
abbrev HasNoEnd : List ℕ → Type 0
HasNoEnd = AllByRecursion (λ byte. byte ≢ 10)

-- such a text before one line is one line with it
ahead : (xs ys : List ℕ) → HasNoEnd xs → IsOneLine ys → IsOneLine (xs ++ ys)
unfolding IsOneLine
ahead [] ys h line = line
ahead (x ∷ xs) ys h line = inr (h.0, ahead xs ys h.1 line)

-- the end of a line alone
end : IsOneLine (codes "\n")
unfolding IsOneLine
end = inl (refl, refl)

-- whichever of two texts without line ends is chosen
either : (b : Bool) (xs ys : List ℕ) → HasNoEnd xs → HasNoEnd ys → HasNoEnd (if b then xs else ys)
either true xs ys h k = h
either false xs ys h k = k

-- the digits of a number end no line
glyph : (b : Bool) (d : ℕ) → (if b then 48 + d else 87 + d) ≢ 10
glyph true d = λ e. omega arith
glyph false d = λ e. omega arith

onto : (k n : ℕ) (acc : List ℕ) → HasNoEnd acc → HasNoEnd (digits_onto k 10 false n acc)
onto zero n acc h = h
onto (suc k) n acc h =
    let last : HasNoEnd (digit_glyph false (n % 10) ∷ acc) = (glyph (nat_lt (n % 10) 10) (n % 10), h) in
    either (n / 10 == 0) (digit_glyph false (n % 10) ∷ acc) (digits_onto k 10 false (n / 10) (digit_glyph false (n % 10) ∷ acc)) last (onto k (n / 10) (digit_glyph false (n % 10) ∷ acc) last)

number : (n : ℕ) → HasNoEnd (decimal n)
unfolding digits
number n = onto 64 n [] tt

-- nor does a key as a line shows it
shown_byte : (byte : ℕ) → shown byte ≢ 10
shown_byte byte = go (is_ascii_control byte) refl
  where
    go : (b : Bool) → is_ascii_control byte ≡ b → (if b then 63 else byte) ≢ 10
    go true e = λ is. omega arith
    go false e = λ is. true≢false (sym (ap is_ascii_control is) ∙ e)

key : (bytes : List ℕ) → HasNoEnd (shown_key bytes)
key [] = tt
key (byte ∷ bytes) = (shown_byte byte, key bytes)

-- what an error names ends no line
joined : (xs ys : List ℕ) → HasNoEnd xs → HasNoEnd ys → HasNoEnd (xs ++ ys)
joined [] ys h k = k
joined (x ∷ xs) ys h k = (h.0, joined xs ys h.1 k)

detail : (n : ℕ) → HasNoEnd (codes " " ++ decimal n)
detail n = ((λ e. omega arith), number n)

named : (error : BookError) → HasNoEnd (details error)
named NotToml = tt
named (Missing field) = detail field
named (WrongKind field) = detail field
named (OutOfRange field) = detail field
named (NotRising table row) = joined (codes " " ++ decimal table ++ codes " ") (decimal row) (joined (codes " " ++ decimal table) (codes " ") (detail table) ((λ e. omega arith), tt)) (number row)
named (Unknown name) = ((λ e. omega arith), key name)
named NoMemory = tt

-- the line of each error that has a number is one line
pub one_line : (error : BookError) → IfSome (error_number error) (λ _. IsOneLine (book_error_line error))
one_line error = go (error_number error)
  where
    words : HasNoEnd (codes "1 book ")
    words = grind arith

    go : (n : Option ℕ) → IfSome n (λ _. IsOneLine (numbered_line n (details error)))
    go None = tt
    go (Some n) =
        let front = joined (codes "1 book " ++ decimal n) (details error) (joined (codes "1 book ") (decimal n) words (number n)) (named error) in
        ahead (codes "1 book " ++ decimal n ++ details error) (codes "\n") front end
