-- What the office is asked by a request, where a body is read for a filing alone, and how its replies are told: by a status
-- (RFC 9110, 15; RFC 4918, 11) and a JSON body. Own format.
use Rattle.std.specs.Prelude.{ℕ, List, codes, Option, Some, option_map, option_and_then}
use Rattle.aid_filings.specs.declared.reply.Operation.{Operation}
use Rattle.aid_filings.specs.declared.reply.Operation.TheVariants as operations
use Rattle.aid_filings.specs.declared.reply.Response.{Response}
use Rattle.aid_filings.specs.declared.reply.Response.TheVariants as responses
use Rattle.web_json.specs.Bodies.{filing_of_body}
use Rattle.web_json.specs.Replies.{answer_body, fault_body}
use Rattle.log_machine.specs.declared.reply.LogReply.{LogReply}
use Rattle.log_machine.specs.declared.reply.LogReply.TheVariants as replies
use Rattle.web_session.specs.declared.call.ApiCall.{ApiCall}
use Rattle.web_session.specs.declared.call.ApiCall.TheVariants as calls
use Rattle.web_session.specs.declared.status.Status.{Status}
use Rattle.web_session.specs.declared.status.Status.TheVariants.{Created, Okay, Unprocessable, Unavailable, NoStorage}
use Rattle.web_json.specs.Filings.{filing_with}

-- ---- asks
-- what a call with a body asks, where it asks anything
abbrev pub ask_in : ApiCall → List ℕ → Option Operation
ask_in (calls.File school) body = option_map operations.File (option_and_then filing_with (filing_of_body school body))
ask_in (calls.Quote school student year term) body = Some (operations.Quote school student year term)
ask_in (calls.Standing student year) body = Some (operations.Standing student year)

-- ---- replies
-- the body that gives the reply of a turn
abbrev pub text_for : LogReply Response → List ℕ
text_for (replies.Answered response front) = answer_body response front
text_for (replies.DiskFault undecided) = fault_body undecided
text_for replies.NoMemory = codes "{\"answer\":\"no memory\"}"

-- 201 for what is admitted, 200 for what stood already and for what was asked, 422 for what is refused
abbrev pub answer_status : Response → Status
answer_status (responses.Admit outcome) = Created
answer_status (responses.Again position outcome) = Okay
answer_status (responses.Refused refusal) = Unprocessable
answer_status (responses.Quoted cents) = Okay
answer_status (responses.Standing row) = Okay

-- 503 for a fault of the disk, 507 for want of memory
abbrev pub status_for : LogReply Response → Status
status_for (replies.Answered response front) = answer_status response
status_for (replies.DiskFault undecided) = Unavailable
status_for replies.NoMemory = NoStorage
