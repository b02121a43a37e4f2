use Rattle.std.proofs.Common.{take}
use Rattle.log_desk_runs.specs.DeskTexts.{desks_text}
use Rattle.log_runs.specs.Puts.{HasPut}
use Rattle.log_desk_runs.proofs.desk_lines.put_desks.Given as goal

abbrev pub invariant-loop-i : goal.invariant-loop-i
invariant-loop-i g l = HasPut g.K.Sink (desks_text (take l.i l.desks)) l.fn.out l.out
