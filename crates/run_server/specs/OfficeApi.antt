-- The web desk of the office: what its requests ask, and what is answered.
use Rattle.aid_filings.specs.declared.reply.Operation.{Operation}
use Rattle.aid_filings.specs.declared.reply.Response.{Response}
use Rattle.log_machine.specs.declared.reply.LogReply.{LogReply}
use Rattle.web_session.specs.Asks.{Scheme}
use Rattle.web_json.specs.Forms.{ask_in, status_for, text_for}

abbrev pub office_web : Scheme Operation (LogReply Response)
office_web = record { ask_of = ask_in; status = status_for; text = text_for }
