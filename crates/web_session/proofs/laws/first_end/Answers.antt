use Rattle.web_session.proofs.EndLaws.{head_end-first, head_end-none}
use Rattle.web_session.proofs.laws.first_end.Goals as goal

pub returns : goal.returns
returns c = record { first = head_end-first; none = head_end-none }
