use Rattle.std.proofs.Common.{List, ℕ, length, sym, subst, IsTrue}
use Rattle.io_traits.specs.DiskState.{Torn, After}
use Rattle.io_traits.proofs.Moments.{torn_none, started, goes_on}
use Rattle.io_traits.proofs.kept.write_kept.Goals as goal

pub returns-in_err-write_at-clause-told : goal.returns-in_err-write_at-clause-told
returns-in_err-write_at-clause-told g c honest =
    let old = g.D.Disk.tells c.args.disk.now in
    let new = g.D.Disk.tells c.write_at.new.self in
    let w = c.write_at.ensures.told honest in
    let P : List ℕ → Type 0 = After (Torn c.args.at (length c.args.bytes.now)) old.image in
    record {
      images = w.images;
      moments = goes_on old old new P (started old P (λ x since. (x, g.met.D.Disk.only_now c.args.disk.now x honest since, torn_none _ _ x))) w.time w.images;
    }

pub returns-clause-told : goal.returns-clause-told
returns-clause-told g c honest =
    let old = g.D.Disk.tells c.args.disk.now in
    let mid = g.D.Disk.tells c.write_at.new.self in
    let new = g.D.Disk.tells c.sync.new.self in
    let w = c.write_at.ensures.told honest in
    let s = c.sync.ensures.told (subst IsTrue (sym c.write_at.ensures.honest) honest) in
    let P : List ℕ → Type 0 = After (Torn c.args.at (length c.args.bytes.now)) old.image in
    record {
      images = λ x now. w.images x (s.images x now);
      moments = goes_on old mid new P (goes_on old old mid P (started old P (λ x since. (x, g.met.D.Disk.only_now c.args.disk.now x honest since, torn_none _ _ x))) w.time w.images) s.time (λ x now. w.images x (s.images x now));
    }
