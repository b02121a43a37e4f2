-- A head has a line for the request, one for each field, and the empty line.
use Rattle.std.proofs.Common.{◌≡◌, ℕ, ◌+◌, ◌≤◌, ◌<◌, ◌==◌, ◌||◌, Bool, false, cond, List, [], ◌∷◌, ◌++◌, length, refl, sym, ap, ◌∙◌, arith}
use Rattle.std.specs.Prelude.{IsTrue, All, Option, Some, None, IfNone}
use Rattle.std.specs.List.{flat_map}
use Rattle.std.proofs.lemmas.List.Sums.{sum_by-append}
use Rattle.std.proofs.lemmas.List.Elements.{All-head, All-tail}
use Rattle.std.proofs.lemmas.Bool.Decides.{nat_tests}
use Rattle.httparse.specs.Grammar.{LineEnd, crlf, lf, print_end, print_blank, print_version, Field, IsField, print_field, print_section, RequestHead, IsRequestHead, print_request, is_token_byte, is_uri_byte, is_value_byte}
use Rattle.std.proofs.lemmas.List.{append-nil}
use Rattle.httparse.proofs.GrammarLemmas.{print_request-append}
use Rattle.web_session.specs.Heads.{IsHead, HasNoHead, line_feeds, from_start, head_lines}

pub line_feeds-append : (a b : List ℕ) → line_feeds (a ++ b) ≡ line_feeds a + line_feeds b
line_feeds-append a b = sum_by-append (λ (x : ℕ). cond (x == 10) 1 0) a b

pub line_feeds-cons : (x : ℕ) (b : List ℕ) → line_feeds (x ∷ b) ≡ cond (x == 10) 1 0 + line_feeds b
line_feeds-cons x b =
    let e : line_feeds (x ∷ b) ≡ line_feeds (x ∷ []) + line_feeds b = line_feeds-append (x ∷ []) b in
    let one : line_feeds (x ∷ []) ≡ 0 + cond (x == 10) 1 0 = refl in
    omega (arith, e, one)

is_not : (test : ℕ → Bool) → test 10 ≡ false → (x : ℕ) → IsTrue (test x) → (x == 10) ≡ false
is_not test off x on = grind (arith, nat_tests)

-- a text of bytes that are no line feed has none
pub none_of : (test : ℕ → Bool) → test 10 ≡ false → (xs : List ℕ) → All (λ b. IsTrue (test b)) xs → line_feeds xs ≡ 0
none_of test off [] all = refl
none_of test off (x ∷ xs) all =
    let here = is_not test off x (All-head (λ b. IsTrue (test b)) x xs all) in
    omega (arith, line_feeds-cons x xs, ap (λ b. cond {A = ℕ} b 1 0) here, none_of test off xs (All-tail (λ b. IsTrue (test b)) x xs all))

pub token_10 : is_token_byte 10 ≡ false
unfolding is_token_byte
token_10 = refl

pub token_13 : is_token_byte 13 ≡ false
unfolding is_token_byte
token_13 = refl

pub end_has_one : (e : LineEnd) → line_feeds (print_end e) ≡ 1
end_has_one crlf = refl
end_has_one lf = refl

pub field_has_one : (f : Field) → IsField f → line_feeds (print_field f) ≡ 1
field_has_one f ok =
    omega (
      arith,
      line_feeds-append (f.name ++ 58 ∷ f.raw) (print_end f.end),
      line_feeds-append f.name (58 ∷ f.raw),
      line_feeds-cons 58 f.raw,
      end_has_one f.end,
      none_of is_token_byte token_10 f.name ok.name.1,
      none_of is_value_byte refl f.raw ok.raw,
    )

pub field_lines : (fs : List Field) → All IsField fs → line_feeds (flat_map print_field fs) ≡ length fs
field_lines [] all = refl
field_lines (f ∷ fs) all =
    omega (
      arith,
      line_feeds-append (print_field f) (flat_map print_field fs),
      field_has_one f (All-head IsField f fs all),
      field_lines fs (All-tail IsField f fs all),
    )

pub version_has_none : (minor : ℕ) → line_feeds (print_version minor) ≡ 0
version_has_none minor = grind (arith, nat_tests)

-- what stands before the start line is passed over
pub from_start-blank : (es : List LineEnd) (x : ℕ) (rest : List ℕ) → ((x == 13) || (x == 10)) ≡ false → from_start (print_blank es ++ x ∷ rest) ≡ x ∷ rest
from_start-blank [] x rest off = rw off refl
from_start-blank (crlf ∷ es) x rest off = from_start-blank es x rest off
from_start-blank (lf ∷ es) x rest off = from_start-blank es x rest off

-- a request line, fields and an empty line, in this order
parts : (m t v e s : List ℕ) → line_feeds (m ++ (32 ∷ (t ++ (32 ∷ (v ++ (e ++ s)))))) ≡ line_feeds m + line_feeds t + line_feeds v + line_feeds e + line_feeds s
parts m t v e s =
    omega (
      arith,
      line_feeds-append m (32 ∷ (t ++ (32 ∷ (v ++ (e ++ s))))),
      line_feeds-cons 32 (t ++ (32 ∷ (v ++ (e ++ s)))),
      line_feeds-append t (32 ∷ (v ++ (e ++ s))),
      line_feeds-cons 32 (v ++ (e ++ s)),
      line_feeds-append v (e ++ s),
      line_feeds-append e s,
    )

-- a byte of a token ends no line
token_starts : (x : ℕ) → IsTrue (is_token_byte x) → ((x == 13) || (x == 10)) ≡ false
token_starts x on = grind (arith, nat_tests, token_10, token_13)

method_first : (m : List ℕ) → 0 < length m → All (λ b. IsTrue (is_token_byte b)) m → (es : List LineEnd) (rest : List ℕ) → from_start (print_blank es ++ (m ++ rest)) ≡ m ++ rest
method_first [] some all es rest = absurd (omega arith)
method_first (x ∷ m) some all es rest =
    from_start-blank es x (m ++ rest) (token_starts x (All-head (λ b. IsTrue (is_token_byte b)) x m all))

pub lines_of_head : (h : RequestHead) → IsRequestHead h → head_lines (print_request h) ≡ 2 + length h.fields
lines_of_head h ok =
    let text = sym (append-nil (print_request h)) ∙ print_request-append h [] in
    let start = method_first h.method ok.method.0 ok.method.1 h.blank (32 ∷ (h.target ++ (32 ∷ (print_version h.minor ++ (print_end h.line_end ++ (print_section h.fields h.last ++ [])))))) in
    rw text (rw start (omega (
      arith,
      parts h.method h.target (print_version h.minor) (print_end h.line_end) (print_section h.fields h.last ++ []),
      line_feeds-append (print_section h.fields h.last) [],
      line_feeds-append (flat_map print_field h.fields) (print_end h.last),
      none_of is_token_byte token_10 h.method ok.method.1,
      none_of is_uri_byte refl h.target ok.target.1,
      version_has_none h.minor,
      end_has_one h.line_end,
      end_has_one h.last,
      field_lines h.fields ok.fields,
    )))

-- so the fields of a head of at most 66 lines fit 64 places
pub fields_fit : (block : List ℕ) (h : RequestHead) → IsHead block h → head_lines block ≤ 66 → length h.fields ≤ 64
fields_fit block h reads few =
    let same : block ≡ print_request h = reads.1 ∙ append-nil (print_request h) in
    omega (arith, ap head_lines same, lines_of_head h reads.0)

-- where no head fits 64 places, there is none
pub none_at_all : {X : Type 0} (o : Option X) (room : ℕ) (block : List ℕ) → 64 ≤ room → head_lines block ≤ 66 → IfNone o (HasNoHead room block) → IfNone o ((h : RequestHead) → ¬ (IsHead block h))
none_at_all None room block wide few over = λ h reads. absurd (omega (arith, over h reads, fields_fit block h reads few))
none_at_all (Some x) room block wide few over = tt
