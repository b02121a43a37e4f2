-- The statuses of responses (RFC 9110, 15).
use Rattle.std.specs.Prelude.{ℕ, List, [], Option, Some, None}
use Rattle.http.specs.StatusCode.{reason_phrase}
use Rattle.web_session.specs.declared.status.Status.{Status}
use Rattle.web_session.specs.declared.status.Status.TheVariants.{Okay, Created, BadRequest, NotFound, MethodNotAllowed, LengthRequired, ContentTooLarge, Unprocessable, HeadTooLarge, NotImplemented, Unavailable, NoStorage}

-- the three digits
abbrev pub code_of : Status → ℕ
code_of Okay = 200
code_of Created = 201
code_of BadRequest = 400
code_of NotFound = 404
code_of MethodNotAllowed = 405
code_of LengthRequired = 411
code_of ContentTooLarge = 413
code_of Unprocessable = 422
code_of HeadTooLarge = 431
code_of NotImplemented = 501
code_of Unavailable = 503
code_of NoStorage = 507

abbrev pub text_or_none : Option (List ℕ) → List ℕ
text_or_none (Some text) = text
text_or_none None = []

-- the phrase of a code
abbrev pub phrase_at : ℕ → List ℕ
phrase_at code = text_or_none (reason_phrase code)

abbrev pub phrase_of : Status → List ℕ
phrase_of status = phrase_at (code_of status)
