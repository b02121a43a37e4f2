use Rattle.std.proofs.Common.{◌≡◌, ◌++◌, take}
use Rattle.std.specs.List.{flat_map}
use Rattle.office_reports.specs.Columns.{right}
use Rattle.aid_types.specs.Words.{program_text}
use Rattle.sheet_r2t4.proofs.sheet.put_programs.Given as goal

abbrev pub invariant-loop-program : goal.invariant-loop-program
invariant-loop-program l = l.out.items ≡ l.initial.out.items ++ flat_map (λ program. right 11 (program_text program)) (take l.program-index l.programs)
