use Rattle.law_work.proofs.Holding.{has_room}
use Rattle.law_work.proofs.laws.room_left.Goals as goal

pub returns : goal.returns
returns c = has_room
