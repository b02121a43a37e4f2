use Rattle.std.proofs.Common.{◌≡◌, ◌+◌, [], ◌∷◌, ◌++◌, List, ℕ, IsTrue, length, sym, ◌∙◌, ap, subst, arith}
use Rattle.io_traits.specs.DiskState.{overwrite}
use Rattle.io_traits.proofs.Moments.{started, goes_on, join}
use Rattle.log_journal.specs.Ahead.{HasNext, block_of}
use Rattle.log_journal.specs.Stands.{StandsFor, gate_place}
use Rattle.log_journal.proofs.Bytes.{torn_length}
use Rattle.log_journal.proofs.Exits.{on_ok_map, ok_any, on_err_any}
use Rattle.log_journal.proofs.Gates.{gate_place-push}
use Rattle.log_journal.proofs.Written.{ahead_in, torn_within, next_written, next_staged, next_stands, next_ahead}
use Rattle.log_journal.proofs.journal.Journal.stage_with_next.Goals as goal

pub returns-in_err-stage-clause-still : goal.returns-in_err-stage-clause-still
returns-in_err-stage-clause-still g c honest header h keep = on_err_any c.from_residual.result _ (c.stage.ensures.still honest header h keep)

pub returns-in_err-stage-clause-ends : goal.returns-in_err-stage-clause-ends
returns-in_err-stage-clause-ends g c honest header h keep end each room =
    c.stage.ensures.ends honest end each (omega (arith, room, keep.gate, gate_place-push h c.args.payload.now))

pub write_ahead-requires-clause-inside : goal.write_ahead-requires-clause-inside
write_ahead-requires-clause-inside g c honest =
    let before = subst IsTrue c.stage.ensures.honest honest in
    let (header, (h, keep)) = c.requires.stands before in
    let p = c.args.payload.now in
    let disk = c.stage.new.self.disk in
    let reads = (g.D.Disk.tells disk).reads in
    let there = c.in_ok-stage.ensures.staged before header h keep reads (g.met.D.Disk.reads_as_image disk honest) in
    omega (arith, keep.gate, c.stage.ensures.same.0, gate_place-push h p, ahead_in header reads h p there)

pub returns-clause-staged : goal.returns-clause-staged
returns-clause-staged g c honest header h keep =
    let p = c.args.payload.now in
    let behind = c.stage.new.self.gate + length p + 5 in
    let place : behind ≡ gate_place (h ++ p ∷ []) = omega (arith, keep.gate, c.stage.ensures.same.0, gate_place-push h p) in
    ok_any c.write_ahead.result _
    (next_staged header (g.D.Disk.tells c.stage.new.self.disk) (g.D.Disk.tells c.write_ahead.new.disk) h p behind (length (block_of c.args.next.now)) place
    (c.in_ok-stage.ensures.staged honest header h keep) (c.write_ahead.ensures.told (subst IsTrue (sym c.stage.ensures.honest) honest)))

pub returns-clause-next : goal.returns-clause-next
returns-clause-next g c honest header h keep =
    let p = c.args.payload.now in
    let next = c.args.next.now in
    let disk = c.stage.new.self.disk in
    let honest' = subst IsTrue (sym c.stage.ensures.honest) honest in
    let old = (g.D.Disk.tells disk).reads in
    let new = (g.D.Disk.tells c.write_ahead.new.disk).reads in
    let behind = c.stage.new.self.gate + length p + 5 in
    let place : behind ≡ gate_place (h ++ p ∷ []) = omega (arith, keep.gate, c.stage.ensures.same.0, gate_place-push h p) in
    let there = c.in_ok-stage.ensures.staged honest header h keep old (g.met.D.Disk.reads_as_image disk honest') in
    on_ok_map c.write_ahead.result (new ≡ overwrite (behind + 1) (block_of next) old) (HasNext header h p next new)
    (λ is. next_written header old new h p next behind place (omega (arith, c.requires.next)) there is) (c.write_ahead.ensures.done honest')

pub returns-clause-still : goal.returns-clause-still
returns-clause-still g c honest header h keep =
    let p = c.args.payload.now in
    let old = g.D.Disk.tells c.stage.new.self.disk in
    let new = g.D.Disk.tells c.write_ahead.new.disk in
    let n = length (block_of c.args.next.now) in
    let behind = c.stage.new.self.gate + length p + 5 in
    let place : behind ≡ gate_place (h ++ p ∷ []) = omega (arith, keep.gate, c.stage.ensures.same.0, gate_place-push h p) in
    let told = c.write_ahead.ensures.told (subst IsTrue (sym c.stage.ensures.honest) honest) in
    let staged = c.in_ok-stage.ensures.staged honest header h keep in
    let still = c.stage.ensures.still honest header h keep in
    on_err_any c.write_ahead.result _ record {
      each = next_stands header old new h p behind n place still.each staged told;
      ahead = next_ahead header new h p c.stage.new.self.ahead c.stage.ensures.ahead (next_staged header old new h p behind n place staged told);
      decided = still.decided;
      gate = still.gate;
      count = still.count;
    }

pub returns-clause-moments : goal.returns-clause-moments
returns-clause-moments g c honest header h keep =
    let p = c.args.payload.now in
    let disk = c.stage.new.self.disk in
    let mid = g.D.Disk.tells disk in
    let new = g.D.Disk.tells c.write_ahead.new.disk in
    let n = length (block_of c.args.next.now) in
    let behind = c.stage.new.self.gate + length p + 5 in
    let place : behind ≡ gate_place (h ++ p ∷ []) = omega (arith, keep.gate, c.stage.ensures.same.0, gate_place-push h p) in
    let honest' = subst IsTrue (sym c.stage.ensures.honest) honest in
    let told = c.write_ahead.ensures.told honest' in
    let each = (c.stage.ensures.still honest header h keep).each in
    let P : List ℕ → Type 0 = λ file. StandsFor header file h in
    join (g.D.Disk.tells c.args.self.now.disk) mid new P (c.stage.ensures.moments honest header h keep)
    (goes_on mid mid new P (started mid P (λ x since. each x (g.met.D.Disk.only_now disk x honest' since))) told.time
    (next_stands header mid new h p behind n place each (c.in_ok-stage.ensures.staged honest header h keep) told))

pub returns-clause-ends : goal.returns-clause-ends
returns-clause-ends g c honest header h keep end each room x now =
    let p = c.args.payload.now in
    let behind = c.stage.new.self.gate + length p + 5 in
    let place : behind ≡ gate_place (h ++ p ∷ []) = omega (arith, keep.gate, c.stage.ensures.same.0, gate_place-push h p) in
    let from = (c.write_ahead.ensures.told (subst IsTrue (sym c.stage.ensures.honest) honest)).images x now in
    let before = c.stage.ensures.ends honest end each (omega (arith, room, keep.gate, gate_place-push h p)) in
    torn_within from.0 x (behind + 1) (length (block_of c.args.next.now)) end (before from.0 from.1) (omega (arith, room, place)) from.2

pub returns-clause-alone : goal.returns-clause-alone
returns-clause-alone g c honest none header h keep ends =
    let p = c.args.payload.now in
    let behind = c.stage.new.self.gate + length p + 5 in
    let place : behind ≡ gate_place (h ++ p ∷ []) = omega (arith, keep.gate, c.stage.ensures.same.0, gate_place-push h p) in
    let each = c.in_ok-stage.ensures.alone honest header h keep ends in
    let told = c.write_ahead.ensures.told (subst IsTrue (sym c.stage.ensures.honest) honest) in
    let empty : length (block_of c.args.next.now) ≡ 0 = ap (λ (l : List ℕ). length (block_of l)) none in
    ok_any c.write_ahead.result _ (λ x now.
    let from = told.images x now in
    let size = each from.0 from.1 in
    torn_length from.0 x (behind + 1) (length (block_of c.args.next.now)) (omega (arith, empty, size, place)) from.2 ∙ size)
