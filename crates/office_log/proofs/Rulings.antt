-- The outcome that a verdict tells is that of the filing which it adds.
use Rattle.std.proofs.Common.{◌≡◌, ◌∙◌, List, Option, Some, None, sym, ap}
use Rattle.std.specs.Prelude.{IfSome}
use Rattle.aid_filings.specs.declared.filing.Filing.{Filing}
use Rattle.aid_filings.specs.declared.reply.Operation.{Operation}
use Rattle.aid_filings.specs.declared.reply.Operation.TheVariants.{File}
use Rattle.aid_filings.specs.declared.reply.Outcome.{Outcome}
use Rattle.aid_filings.specs.declared.reply.Response.{Response}
use Rattle.aid_filings.specs.declared.reply.Response.TheVariants.{Admit}
use Rattle.log_machine.specs.declared.machine.NewEntry.{NewEntry}
use Rattle.office_history.specs.Answer.{answer_of, answer_to}

pub added_ruled : (past : List Filing) (operation : Operation) (response : Response) (added : Option (NewEntry Filing Outcome)) → response ≡ answer_to past operation →
    IfSome added (λ a. operation ≡ File a.entry) → IfSome added (λ a. response ≡ Admit a.ruling) → IfSome added (λ a. answer_of past a.entry ≡ Admit a.ruling)
added_ruled past operation response None is asked told = tt
added_ruled past operation response (Some a) is asked told = sym (ap (answer_to past) asked) ∙ sym is ∙ told
