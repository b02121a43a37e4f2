use Rattle.std.proofs.Common.{◌≡◌, ◌≤◌, ◌*◌, reverse, take}
use Rattle.sheet_returns.specs.Sendings.{sent_late}
use Rattle.sheet_returns.proofs.sendings.sent_late.Given as goal

abbrev pub invariant-loop-sending : goal.invariant-loop-sending
invariant-loop-sending l = (l.cents ≡ sent_late l.withdrawal l.program (reverse (take l.sending-index l.sendings))) × (l.cents ≤ 99999999 * l.sending-index)
