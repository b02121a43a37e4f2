use Rattle.std.proofs.Common.{Global, map, string_bytes}
use Rattle.run_words.specs.Words.{AreDesks, AreServe}
use Rattle.run_words.proofs.StampedWords.{behind_stamp}
use Rattle.run_words.proofs.main_row.stamped_row.Goals as goal

pub returns-in-Some-clause-desks : goal.returns-in-Some-clause-desks
returns-in-Some-clause-desks c files s =
    behind_stamp (λ rest. AreDesks rest files) (map (string_bytes {Z = Global}) c.args.words.now) (map (string_bytes {Z = Global}) c.in-Some.rest.now) c.in-Some.stamp s
    c.in-Some.ensures.some (c.row_behind.ensures.desks files s)

pub returns-in-Some-clause-serve : goal.returns-in-Some-clause-serve
returns-in-Some-clause-serve c port workers sessions s =
    behind_stamp (λ rest. AreServe rest port workers sessions) (map (string_bytes {Z = Global}) c.args.words.now) (map (string_bytes {Z = Global}) c.in-Some.rest.now) c.in-Some.stamp s
    c.in-Some.ensures.some (c.row_behind.ensures.serve port workers sessions s)
