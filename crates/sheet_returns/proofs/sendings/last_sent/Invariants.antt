use Rattle.std.proofs.Common.{◌≡◌, reverse, take}
use Rattle.sheet_returns.specs.Sendings.{last_sent}
use Rattle.sheet_returns.proofs.sendings.last_sent.Given as goal

abbrev pub invariant-loop-sending : goal.invariant-loop-sending
invariant-loop-sending l = l.last ≡ last_sent l.withdrawal l.program (reverse (take l.sending-index l.sendings))
