use Rattle.std.proofs.Common.{rules, Global, string_bytes}
use Rattle.run_words.proofs.DeskWords.{row_is, row_is_none}
use Rattle.run_words.proofs.main_row.desks_row.Goals as goal
use Rattle.run_words.proofs.main_row.desks_row.Goals.{else-eq-via-then-eq+then-not-is_empty+then-files-le-MOST_DESKS+else-are_plain, else-eq-via-then-eq+then-not-is_empty+else-files-le-MOST_DESKS, else-eq-via-then-eq+else-not-is_empty, else-eq-via-else-eq}

pub returns-then-are_plain-clause-desks : goal.returns-then-are_plain-clause-desks
returns-then-are_plain-clause-desks c = row_is (string_bytes {Z = Global}) c.args.stamp.now c.args.first.now c.args.files.now (search rules) (search rules) (search rules) (search rules)

pub returns-else-eq-clause-desks : goal.returns-else-eq-clause-desks
returns-else-eq-clause-desks c = row_is_none (string_bytes {Z = Global}) c.args.stamp.now c.args.first.now c.args.files.now (λ is some few all. elim c.else-eq.branch [
  | else-eq-via-then-eq+then-not-is_empty+then-files-le-MOST_DESKS+else-are_plain w ↦ search rules
  | else-eq-via-then-eq+then-not-is_empty+else-files-le-MOST_DESKS w ↦ search rules
  | else-eq-via-then-eq+else-not-is_empty w ↦ search rules
  | else-eq-via-else-eq w ↦ search rules
])
