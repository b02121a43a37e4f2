use Rattle.std.proofs.Common.{take, ◌+◌}
use Rattle.log_desk_runs.specs.DeskTexts.{admitted_text}
use Rattle.log_desk_runs.specs.Names.{names_of}
use Rattle.log_runs.specs.Puts.{HasPut}
use Rattle.log_desk_runs.proofs.desk_lines.put_entries.Given as goal

abbrev pub invariant-loop-i : goal.invariant-loop-i
invariant-loop-i g l = HasPut g.K.Sink (admitted_text (l.front + 1) (take l.i (names_of g.C.EntryMatch.same l.desks (l.front + 1) l.rows))) l.fn.out l.out
