-- What the head block of a request says (RFC 9112), in the grammar of `httparse`.
use Rattle.std.specs.Prelude.{◌≡◌, ◌⊎◌, ℕ, ◌<◌, ◌≤◌, ◌==◌, ◌||◌, ◌&&◌, if◌then◌else◌, nat_lt, min, Bool, List, [], ◌∷◌, length, map, count_by, Option, Some, None, Result, Ok, Err, codes}
use Rattle.std.specs.Char.{is_ascii_digit}
use Rattle.std.specs.List.{list_all, list_any}
use Rattle.std.specs.Str.{bytes_eq, str_eq_ignore_ascii_case}
use Rattle.std.specs.Str.Parse.{digits_value}
use Rattle.httparse.specs.Grammar.{RequestHead, ReadsRequest}
use Rattle.httparse.specs.Spans.{IsRequestAt, name_and_value}
use Rattle.httparse.specs.declared.spans.HeaderSpan.{HeaderSpan}
use Rattle.httparse.specs.declared.spans.RequestSpans.{RequestSpans}
use Rattle.web_session.specs.Calls.{call_of}
use Rattle.web_session.specs.declared.head.Head.{Head}
use Rattle.web_session.specs.declared.status.Status.{Status}
use Rattle.web_session.specs.declared.status.Status.TheVariants.{BadRequest, LengthRequired, ContentTooLarge, HeadTooLarge, NotImplemented}

-- the whole block is the head h
abbrev pub IsHead : List ℕ → RequestHead → Type 0
IsHead block h = ReadsRequest block h []

-- the spans are the parts of the one head that the whole block is
abbrev pub IsHeadAt : List ℕ → List HeaderSpan → RequestSpans → Type 0
IsHeadAt block headers r = (h : RequestHead) × IsHead block h × IsRequestAt block headers r h

-- the whole block is no head, or one with more fields than that
abbrev pub HasNoHead : ℕ → List ℕ → Type 0
HasNoHead room block = (h : RequestHead) → IsHead block h → room < length h.fields

-- the lines of a head block: its LF bytes from the first byte on that is neither CR nor LF
abbrev pub line_feeds : List ℕ → ℕ
line_feeds text = count_by (λ b. b == 10) text

abbrev pub from_start : List ℕ → List ℕ
from_start [] = []
from_start (b ∷ rest) = if (b == 13) || (b == 10) then from_start rest else b ∷ rest

abbrev pub head_lines : List ℕ → ℕ
head_lines block = line_feeds (from_start block)

-- the fields of a head, each a name and a value without the white space around it
abbrev pub fields_of : RequestHead → List (List ℕ × List ℕ)
fields_of h = map name_and_value h.fields

-- a field has that name, in capitals or not
abbrev pub is_named : List ℕ → List ℕ × List ℕ → Bool
is_named name f = str_eq_ignore_ascii_case f.0 name

abbrev pub has_field : List ℕ → List (List ℕ × List ℕ) → Bool
has_field name fields = list_any (is_named name) fields

-- the values of the fields of a name
abbrev pub values : List ℕ → List (List ℕ × List ℕ) → List (List ℕ)
values name [] = []
values name (f ∷ fs) = if is_named name f then f.1 ∷ values name fs else values name fs

-- digits, at least one, and the number that they give; zeros may stand in front (RFC 9110, 8.6)
abbrev pub is_number : List ℕ → Bool
is_number text = nat_lt 0 (length text) && list_all is_ascii_digit text

abbrev pub number_said : List ℕ → Option ℕ
number_said text = if is_number text then Some (digits_value 10 text) else None

abbrev pub length_by : Option ℕ → Result (Option ℕ) Status
length_by (Some n) = Ok (Some n)
length_by None = Err BadRequest

-- how long the body is said to be: by one Content-Length field or none, which is a number
abbrev pub length_said : List (List ℕ) → Result (Option ℕ) Status
length_said [] = Ok None
length_said (v ∷ []) = length_by (number_said v)
length_said (v ∷ w ∷ vs) = Err BadRequest

-- what isn't done here: a body that is coded, and a client that waits for leave to send it
abbrev pub asks_more : List (List ℕ × List ℕ) → Bool
asks_more fields = has_field (codes "transfer-encoding") fields || has_field (codes "content-encoding") fields || has_field (codes "expect") fields

-- the length of the body, or the first check that the head doesn't pass
abbrev pub body_length : Result (Option ℕ) Status → Bool → Bool → Result ℕ Status
body_length (Err status) more posts = Err status
body_length (Ok (Some n)) more posts = if more then Err NotImplemented else (if nat_lt 65536 n then Err ContentTooLarge else Ok n)
body_length (Ok None) more posts = if more then Err NotImplemented else (if posts then Err LengthRequired else Ok 0)

abbrev pub is_post : List ℕ → Bool
is_post method = bytes_eq method (codes "POST")

-- the response is the last to a request that says so, and to HTTP/1.0
abbrev pub is_closing : List ℕ × List ℕ → Bool
is_closing f = is_named (codes "connection") f && str_eq_ignore_ascii_case f.1 (codes "close")

abbrev pub closes_of : ℕ → List (List ℕ × List ℕ) → Bool
closes_of minor fields = (minor == 0) || list_any is_closing fields

abbrev pub head_with : List ℕ → List ℕ → Bool → Result ℕ Status → Result Head Status
head_with method target closes (Err status) = Err status
head_with method target closes (Ok n) = Ok (record { call = call_of method target; length = n; closes = closes })

abbrev pub said_of : List ℕ → List ℕ → ℕ → List (List ℕ × List ℕ) → Result Head Status
said_of method target minor fields = head_with method target (closes_of minor fields) (body_length (length_said (values (codes "content-length") fields)) (asks_more fields) (is_post method))

-- what a head says
abbrev pub head_said : RequestHead → Result Head Status
head_said h = said_of h.method h.target h.minor (fields_of h)

-- what a head block says: it has too many lines, or it is a head, or it is none
abbrev pub Judges : List ℕ → Result Head Status → Type 0
Judges block said =
    ((66 < head_lines block) × (said ≡ Err HeadTooLarge))
    ⊎ ((head_lines block ≤ 66) × (((h : RequestHead) × IsHead block h × (said ≡ head_said h)) ⊎ (((h : RequestHead) → ¬ (IsHead block h)) × (said ≡ Err BadRequest))))

-- What the code keeps of a length: no more than a greatest number.
abbrev pub capped : ℕ → Result (Option ℕ) Status → Result (Option ℕ) Status
capped most (Ok (Some n)) = Ok (Some (min n most))
capped most (Ok None) = Ok None
capped most (Err status) = Err status

-- what is said by the values to come, where some number may have been said before
abbrev pub after_said : ℕ → Option ℕ → List (List ℕ) → Result (Option ℕ) Status
after_said most None values = capped most (length_said values)
after_said most (Some n) [] = Ok (Some n)
after_said most (Some n) (v ∷ values) = Err BadRequest

-- one field more was looked at
abbrev pub IsSaidNext : ℕ → Option ℕ → List ℕ × List ℕ → List (List ℕ × List ℕ) → Result (Option ℕ) Status → Type 0
IsSaidNext most said f rest (Ok next) = after_said most next (values (codes "content-length") rest) ≡ after_said most said (values (codes "content-length") (f ∷ rest))
IsSaidNext most said f rest (Err status) = Err status ≡ after_said most said (values (codes "content-length") (f ∷ rest))
