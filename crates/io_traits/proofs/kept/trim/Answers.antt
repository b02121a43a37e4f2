use Rattle.std.proofs.Common.{List, ℕ}
use Rattle.io_traits.specs.DiskState.{Cut, After, IsRead}
use Rattle.io_traits.proofs.Moments.{cut_none, started, goes_on}
use Rattle.io_traits.proofs.kept.trim.Goals as goal

pub returns-in_err-len-clause-told : goal.returns-in_err-len-clause-told
returns-in_err-len-clause-told g c honest =
    let old = g.D.Disk.tells c.args.disk.now in
    let new = g.D.Disk.tells c.len.new.self in
    let read : IsRead old new = c.len.ensures.told honest in
    let P : List ℕ → Type 0 = After (Cut c.args.end) old.image in
    record {
      images = λ x now. (x, read.images x now, cut_none _ x);
      moments = goes_on old old new P (started old P (λ x since. (x, g.met.D.Disk.only_now c.args.disk.now x honest since, cut_none _ x))) read.time (λ x now. (x, read.images x now, cut_none _ x));
    }
