use Rattle.std.proofs.Common.{refl}
use Rattle.work_rounds.specs.Headed.{unread, read}
use Rattle.work_rounds.proofs.headed_filing.file_headed_round.Goals as goal

pub returns-in-Ok-clause-session : goal.returns-in-Ok-clause-session
returns-in-Ok-clause-session g c = read c.in-Ok.text.items c.answer_headed.result.0 c.in-Ok.ensures.whole c.in-Ok.ensures.bytes c.answer_headed.ensures.headed

pub returns-in-Err-clause-session : goal.returns-in-Err-clause-session
returns-in-Err-clause-session g c = unread c.in-Err.stop c.in-Err.ensures.unread refl refl
