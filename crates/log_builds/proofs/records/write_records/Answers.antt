use Rattle.std.proofs.Common.{◌+◌, List, ℕ, IsTrue, length, ◌∙◌, ap, arith, sym, subst}
use Rattle.io_traits.proofs.Moments.{started}
use Rattle.io_traits.specs.DiskState.{overwrite}
use Rattle.log_builds.proofs.Steps.{next_laid, none_laid, place_inside, written_moments, written_shut}
use Rattle.log_builds.specs.Entries.{IsGiven}
use Rattle.log_builds.specs.Laid.{IsShut}
use Rattle.log_builds.proofs.records.write_records.Goals as goal

pub loop-room-init : goal.loop-room-init
loop-room-init g c =
    let E = g.E.Entries in
    let old = g.D.Disk.tells c.args.disk.now in
    let new = g.D.Disk.tells c.write_at.new.self in
    let n = length c.behind_first.result in
    record {
      near = omega arith;
      honest = c.write_at.ensures.honest;
      laid = λ honest. none_laid c.args.header E.spelling E.IsEntry (E.left c.args.entries.now) old.reads new.reads
          (c.requires.shut honest old.reads (g.met.D.Disk.reads_as_image c.args.disk.now honest))
          (c.in_ok-write_at.ensures.done honest ∙ ap (λ (l : List ℕ). overwrite 1 l old.reads) c.behind_first.ensures);
      shut = λ honest. written_shut old new 1 n (omega arith) (c.requires.shut honest) (c.write_at.ensures.told honest);
      moments = λ honest. written_moments old old new 1 n (omega arith)
          (started old IsShut (λ x since. c.requires.shut honest x (g.met.D.Disk.only_now c.args.disk.now x honest since))) (c.requires.shut honest) (c.write_at.ensures.told honest);
      unmoved = c.in_ok-write_at.ensures.unmoved;
    }

pub returns-in_err-write_record-clause-shut : goal.returns-in_err-write_record-clause-shut
returns-in_err-write_record-clause-shut g c honest =
    let E = g.E.Entries in
    let loop = c.loop-room.invariant in
    let old = g.D.Disk.tells c.loop-room.disk in
    let inside = place_inside c.args.header E.spelling E.IsEntry (E.left c.args.entries.now) (E.left c.loop-room.entries) c.loop-room.place old.reads (loop.laid honest) in
    written_shut old (g.D.Disk.tells c.write_record.new.disk) c.loop-room.place (length c.bytes-payload.result.now + 5) inside.0 (loop.shut honest)
    (c.write_record.ensures.told (subst IsTrue (sym loop.honest) honest))

pub returns-in_err-write_record-clause-moments : goal.returns-in_err-write_record-clause-moments
returns-in_err-write_record-clause-moments g c honest =
    let E = g.E.Entries in
    let loop = c.loop-room.invariant in
    let old = g.D.Disk.tells c.loop-room.disk in
    let inside = place_inside c.args.header E.spelling E.IsEntry (E.left c.args.entries.now) (E.left c.loop-room.entries) c.loop-room.place old.reads (loop.laid honest) in
    written_moments (g.D.Disk.tells c.args.disk.now) old (g.D.Disk.tells c.write_record.new.disk) c.loop-room.place (length c.bytes-payload.result.now + 5) inside.0
    (loop.moments honest) (loop.shut honest) (c.write_record.ensures.told (subst IsTrue (sym loop.honest) honest))

pub loop-room-preserved : goal.loop-room-preserved
loop-room-preserved g c =
    let E = g.E.Entries in
    let all = E.left c.args.entries.now in
    let before = E.left c.loop-room.entries in
    let after = E.left c.next.new.self in
    let loop = c.loop-room.invariant in
    let old = g.D.Disk.tells c.loop-room.disk in
    let new = g.D.Disk.tells c.write_record.new.disk in
    let place = c.loop-room.place in
    let bytes = c.bytes-payload.result.now in
    let n = length bytes + 5 in
    let held = c.bytes-payload.ensures.held in
    let given : IsGiven E.spelling E.IsEntry before after bytes = subst (λ (b : List ℕ). IsGiven E.spelling E.IsEntry before after b) (sym held) (c.next.ensures.given c.loop-room-test.true) in
    record {
      near = omega (arith, loop.near, ap length given.first, ap length held, c.bytes-payload.ensures.fits);
      honest = c.write_record.ensures.honest ∙ loop.honest;
      laid = λ honest. next_laid c.args.header E.spelling E.IsEntry all g.met.E.Entries.keepable before after place bytes old.reads new.reads (loop.laid honest) given
          (c.in_ok-write_record.ensures.done (subst IsTrue (sym loop.honest) honest));
      shut = λ honest. written_shut old new place n (place_inside c.args.header E.spelling E.IsEntry all before place old.reads (loop.laid honest)).0 (loop.shut honest)
          (c.write_record.ensures.told (subst IsTrue (sym loop.honest) honest));
      moments = λ honest. written_moments (g.D.Disk.tells c.args.disk.now) old new place n (place_inside c.args.header E.spelling E.IsEntry all before place old.reads (loop.laid honest)).0
          (loop.moments honest) (loop.shut honest) (c.write_record.ensures.told (subst IsTrue (sym loop.honest) honest));
      unmoved = c.in_ok-write_record.ensures.unmoved ∙ loop.unmoved;
    }
