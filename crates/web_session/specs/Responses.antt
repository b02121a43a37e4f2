-- The texts of responses (RFC 9112, 4). Own bodies.
use Rattle.std.specs.Prelude.{ℕ, Bool, if◌then◌else◌, List, [], ◌∷◌, ◌++◌, length, codes, decimal}
use Rattle.web_session.specs.Statuses.{code_of, phrase_of}
use Rattle.web_session.specs.declared.status.Status.{Status}

-- what is answered to a request
pub record Answer : Type 0 where
  pub status : Status
  pub text : List ℕ

-- 32 is a space
abbrev pub status_line : Status → List ℕ
status_line status = codes "HTTP/1.1 " ++ (decimal (code_of status) ++ (32 ∷ (phrase_of status ++ codes "\r\n")))

abbrev pub length_lines : ℕ → List ℕ
length_lines n = codes "Content-Length: " ++ (decimal n ++ codes "\r\nContent-Type: application/json\r\n")

-- the line that says that it is the last, where it is, and the empty line
abbrev pub closing_line : Bool → List ℕ
closing_line closes = if closes then codes "Connection: close\r\n\r\n" else codes "\r\n"

-- the response that gives an answer
abbrev pub response_of : Bool → Answer → List ℕ
response_of closes answer = status_line answer.status ++ (length_lines (length answer.text) ++ (closing_line closes ++ answer.text))

-- the answer of a status alone: 125 is `}`
abbrev pub failure_of : Status → Answer
failure_of status = record { status = status; text = codes "{\"error\":" ++ (decimal (code_of status) ++ (125 ∷ [])) }
