use Rattle.std.proofs.Common.{Global, ap, map, string_bytes}
use Rattle.aid_stamps.specs.Stamps.{plain_stamp}
use Rattle.run_words.specs.Stamped.{begins_with_at, plain}
use Rattle.run_plan.proofs.files.desk_files.Goals as goal

pub returns-in-None-clause-alone : goal.returns-in-None-clause-alone
returns-in-None-clause-alone c files is =
    absurd (c.behind_at.ensures.none c.in-None.is plain_stamp (map (string_bytes {Z = Global}) c.args.words.now) (plain (ap begins_with_at is)))
