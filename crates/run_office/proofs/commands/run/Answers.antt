use Rattle.std.proofs.Common.{◌≡◌, ◌∙◌, ◌++◌, ⊎_elim, inr, List, [], ap, arith, Global, length, map, refl, string_bytes, subst, sym, Ok, Err}
use Rattle.aid_filings.specs.declared.filing.Filing.{Filing}
use Rattle.io_traits.proofs.Moments.{started, weaken}
use Rattle.run_claims.specs.Office.{Recovers}
use Rattle.run_claims.proofs.Office.{from_kept, one_history, to_kept}
use Rattle.office_history.proofs.LegalWithin.{legal_within}
use Rattle.aid_stamps.specs.declared.stamp.Stamp.{Stamp}
use Rattle.log_stamps.specs.Entries.{entries}
use Rattle.log_stamps.specs.declared.entry.StampedEntry.{StampedEntry}
use Rattle.run_words.specs.declared.command.StampedCommand.{StampedCommand}
use Rattle.run_words.specs.declared.command.Command.TheVariants.{File, Found}
use Rattle.run_office.specs.Ran.{CanBeDone, FileRan, did, no_memory, no_row, unread_words}
use Rattle.log_runs.specs.declared.stop.RunStop.TheVariants as stops
use Rattle.log_session.specs.Edges.{Input}
use Rattle.run_office.proofs.Complete.{complete}
use Rattle.log_runs.proofs.EndLaws.{done_at, ends_honest, ends_later, sink_moved, stood, with_status}
use Rattle.log_runs.specs.Statuses.{fault_line}
use Rattle.run_office.proofs.Headline.{has_filed}
use Rattle.run_office.proofs.Keeps.{keeps}
use Rattle.run_office.proofs.Images.{moments_by, moments_unread, stands_by}
use Rattle.run_office.proofs.RowWords.{file_row, found_row, same_row}
use Rattle.run_office.proofs.Shown.{ends_stopped, file_ran, run_shows, unread_ran}
use Rattle.run_office.proofs.commands.run.Given.{Over}
use Rattle.run_office.proofs.commands.run.Goals as goal

pub returns-in-Ok-Some-clause-ran : goal.returns-in-Ok-Some-clause-ran
returns-in-Ok-Some-clause-ran g c =
    let done = c.do_command-ended in
    let row = rw c.in-Ok-Some.field-0-is at c.in-Ok-Some.ensures.words in
    did c.in-Ok-Some.row.stamp c.in-Ok-Some.row.command done.new.out done.result.0 c.end.result
    (same_row _ _ _ c.in-Ok-Some.row.stamp c.in-Ok-Some.row.command (sym (ap (map (string_bytes {Z = Global})) c.deref.ensures.value)) row)
    done.ensures.does done.ensures.sink_honest
    (record {
      source = done.ensures.source;
      disk = done.ensures.disk;
      sink = sink_moved g.K.Sink done.new.out c.end.new.out done.result.0 c.end.result (g.K.Sink.faults c.args.out.now) done.ensures.sink_later done.ensures.sink c.end.ensures;
    })
    c.end.ensures

pub returns-in-Ok-Some-clause-unread : goal.returns-in-Ok-Some-clause-unread
returns-in-Ok-Some-clause-unread g c none =
    let row = rw c.in-Ok-Some.field-0-is at c.in-Ok-Some.ensures.words in
    c.do_command-ended.ensures.unread (none c.in-Ok-Some.row.stamp c.in-Ok-Some.row.command
    (same_row _ _ _ c.in-Ok-Some.row.stamp c.in-Ok-Some.row.command (sym (ap (map (string_bytes {Z = Global})) c.deref.ensures.value)) row))

pub returns-in-Ok-Some-clause-moments : goal.returns-in-Ok-Some-clause-moments
returns-in-Ok-Some-clause-moments g c stamp command past words honest each =
    let done = c.do_command-ended in
    let is = c.in-Ok-Some.ensures.only stamp command (same_row _ _ _ stamp command (ap (map (string_bytes {Z = Global})) c.deref.ensures.value) words) in
    let it : StampedCommand = c.in-Ok-Some.row in
    let wanted : StampedCommand = record { stamp = stamp; command = command } in
    let same : it ≡ wanted = cc in
    moments_by _ g.D.Disk g.met.D.Disk.only_now g.met.D.Disk.reads_as_image c.args.disk done.result.1
    (record { honest = g.S.Source.honest c.args.input.now; before = g.S.Source.left c.args.input.now; after = g.S.Source.left done.new.input })
    (record { honest = g.K.Sink.honest c.args.out.now; before = g.K.Sink.text c.args.out.now; after = g.K.Sink.text done.new.out })
    it wanted done.result.0 past same done.ensures.does honest each

pub returns-in-Ok-Some-clause-stands : goal.returns-in-Ok-Some-clause-stands
returns-in-Ok-Some-clause-stands g c stamp command past words well honest stood =
    let done = c.do_command-ended in
    let is = c.in-Ok-Some.ensures.only stamp command (same_row _ _ _ stamp command (ap (map (string_bytes {Z = Global})) c.deref.ensures.value) words) in
    let it : StampedCommand = c.in-Ok-Some.row in
    let wanted : StampedCommand = record { stamp = stamp; command = command } in
    let same : it ≡ wanted = cc in
    stands_by _ g.D.Disk g.met.D.Disk.only_now g.met.D.Disk.reads_as_image c.args.disk done.result.1
    (record { honest = g.S.Source.honest c.args.input.now; before = g.S.Source.left c.args.input.now; after = g.S.Source.left done.new.input })
    (record { honest = g.K.Sink.honest c.args.out.now; before = g.K.Sink.text c.args.out.now; after = g.K.Sink.text done.new.out })
    it wanted done.result.0 past same done.ensures.does
    (done_at g.K.Sink done.new.out c.end.new.out done.result.0 c.end.result c.end.ensures well) honest stood

pub returns-in-Ok-Some-clause-file_ran : goal.returns-in-Ok-Some-clause-file_ran
returns-in-Ok-Some-clause-file_ran g c stamp says =
    let done = c.do_command-ended in
    let is = c.in-Ok-Some.ensures.only stamp File (same_row [] _ _ stamp File (ap (map (string_bytes {Z = Global})) c.deref.ensures.value) (file_row [] _ stamp says)) in
    let wanted : StampedCommand = record { stamp = stamp; command = File } in
    let same : c.in-Ok-Some.row ≡ wanted = cc in
    let stamps : c.in-Ok-Some.row.stamp ≡ stamp = ap (λ (k : StampedCommand). k.stamp) same in
    let commands : c.in-Ok-Some.row.command ≡ File = ap (λ (k : StampedCommand). k.command) same in
    let input : Input = record { honest = g.S.Source.honest c.args.input.now; before = g.S.Source.left c.args.input.now; after = g.S.Source.left done.new.input } in
    subst (λ (s : Stamp). FileRan g.D.Disk g.K.Sink s c.args.disk done.result.1 input c.args.out.now c.end.new.out c.end.result) stamps
    (file_ran g.D.Disk g.K.Sink c.args.disk done.result.1 input
    c.args.out.now done.new.out c.end.new.out c.in-Ok-Some.row.stamp c.in-Ok-Some.row.command done.result.0 c.end.result commands done.ensures.does done.ensures.sink_honest c.end.ensures)

pub returns-in-Ok-Some-clause-founded : goal.returns-in-Ok-Some-clause-founded
returns-in-Ok-Some-clause-founded g c stamp says well honest =
    λ file image. from_kept file [] (returns-in-Ok-Some-clause-stands g c stamp Found [] (found_row [] _ stamp says) well honest tt file image)

pub returns-in-Ok-Some-clause-headline : goal.returns-in-Ok-Some-clause-headline
returns-in-Ok-Some-clause-headline g c stamp past says honest sincere sound each =
    let done = c.do_command-ended in
    has_filed stamp g.D.Disk g.K.Sink g.met.D.Disk.only_now g.met.D.Disk.reads_as_image c.args.disk done.result.1
    (record { honest = g.S.Source.honest c.args.input.now; before = g.S.Source.left c.args.input.now; after = g.S.Source.left done.new.input })
    c.args.out.now c.end.new.out c.end.result past honest sincere sound each (returns-in-Ok-Some-clause-file_ran g c stamp says)

pub returns-in-Ok-Some-clause-keeps : goal.returns-in-Ok-Some-clause-keeps
returns-in-Ok-Some-clause-keeps g c past honest each =
    let done = c.do_command-ended in
    let row = rw c.in-Ok-Some.field-0-is at c.in-Ok-Some.ensures.words in
    weaken (g.D.Disk.tells c.args.disk) (g.D.Disk.tells done.result.1) _ (λ file. (added : List (StampedEntry Filing)) × Recovers file (added ++ past))
    (λ file may. keeps _ c.in-Ok-Some.row.stamp c.in-Ok-Some.row.command (record { honest = g.S.Source.honest c.args.input.now; before = g.S.Source.left c.args.input.now; after = g.S.Source.left done.new.input }) past file may)
    (returns-in-Ok-Some-clause-moments g c c.in-Ok-Some.row.stamp c.in-Ok-Some.row.command past
    (same_row _ _ _ c.in-Ok-Some.row.stamp c.in-Ok-Some.row.command (sym (ap (map (string_bytes {Z = Global})) c.deref.ensures.value)) row) honest (λ file image. to_kept file past (each file image)))

pub returns-in-Ok-Some-clause-within : goal.returns-in-Ok-Some-clause-within
returns-in-Ok-Some-clause-within g c file history is = legal_within (entries history) (to_kept file history is).legal

pub returns-in-Ok-Some-clause-one : goal.returns-in-Ok-Some-clause-one
returns-in-Ok-Some-clause-one g c file history other first second = one_history file history other first second

pub returns-in-Ok-Some-clause-complete : goal.returns-in-Ok-Some-clause-complete
returns-in-Ok-Some-clause-complete g c stamp command words can no_source no_sink no_disk =
    let done = c.do_command-ended in
    let is = c.in-Ok-Some.ensures.only stamp command (same_row _ _ _ stamp command (ap (map (string_bytes {Z = Global})) c.deref.ensures.value) words) in
    let it : StampedCommand = c.in-Ok-Some.row in
    let wanted : StampedCommand = record { stamp = stamp; command = command } in
    let same : wanted ≡ it = cc in
    complete _ g.D.Disk g.K.Sink
    (record {
      source = (g.S.Source.faults c.args.input.now, g.S.Source.faults done.new.input);
      sink = (g.K.Sink.faults c.args.out.now, g.K.Sink.faults c.end.new.out);
      disk = (g.D.Disk.faults c.args.disk, g.D.Disk.faults done.result.1);
    })
    c.args.disk done.result.1
    (record { honest = g.S.Source.honest c.args.input.now; before = g.S.Source.left c.args.input.now; after = g.S.Source.left done.new.input })
    (record { honest = g.K.Sink.honest c.args.out.now; before = g.K.Sink.text c.args.out.now; after = g.K.Sink.text done.new.out })
    done.new.out c.end.new.out c.in-Ok-Some.row.stamp c.in-Ok-Some.row.command done.result.0 c.end.result done.ensures.does
    (record {
      source = done.ensures.source;
      disk = done.ensures.disk;
      sink = sink_moved g.K.Sink done.new.out c.end.new.out done.result.0 c.end.result (g.K.Sink.faults c.args.out.now) done.ensures.sink_later done.ensures.sink c.end.ensures;
    })
    c.end.ensures
    (subst (λ (k : StampedCommand). CanBeDone k.command (g.S.Source.honest c.args.input.now) (length (g.S.Source.left c.args.input.now)) (g.D.Disk.tells c.args.disk)) same can)
    no_source no_sink no_disk

pub returns-in-Ok-None-clause-ran : goal.returns-in-Ok-None-clause-ran
returns-in-Ok-None-clause-ran g c =
    no_row c.end-in-Ok-None.result (λ stamp command is. c.in-Ok-None.ensures.none c.in-Ok-None.field-0-is stamp command (same_row _ _ _ stamp command (ap (map (string_bytes {Z = Global})) c.deref.ensures.value) is)) refl refl
    (record {
      source = stood _ _ refl;
      disk = stood _ _ refl;
      sink = sink_moved g.K.Sink c.args.out.now c.end-in-Ok-None.new.out (Err stops.Usage) c.end-in-Ok-None.result (g.K.Sink.faults c.args.out.now) (omega arith) (stood _ _ refl) c.end-in-Ok-None.ensures;
    })
    c.end-in-Ok-None.ensures

pub returns-in-Ok-None-clause-moments : goal.returns-in-Ok-None-clause-moments
returns-in-Ok-None-clause-moments g c stamp command past words honest each =
    absurd (c.in-Ok-None.ensures.none c.in-Ok-None.field-0-is stamp command (same_row _ _ _ stamp command (ap (map (string_bytes {Z = Global})) c.deref.ensures.value) words))

pub returns-in-Ok-None-clause-stands : goal.returns-in-Ok-None-clause-stands
returns-in-Ok-None-clause-stands g c stamp command past words well honest before =
    absurd (c.in-Ok-None.ensures.none c.in-Ok-None.field-0-is stamp command (same_row _ _ _ stamp command (ap (map (string_bytes {Z = Global})) c.deref.ensures.value) words))

pub returns-in-Ok-None-clause-file_ran : goal.returns-in-Ok-None-clause-file_ran
returns-in-Ok-None-clause-file_ran g c stamp says =
    absurd (c.in-Ok-None.ensures.none c.in-Ok-None.field-0-is stamp File (same_row [] _ _ stamp File (ap (map (string_bytes {Z = Global})) c.deref.ensures.value) (file_row [] _ stamp says)))

pub returns-in-Ok-None-clause-complete : goal.returns-in-Ok-None-clause-complete
returns-in-Ok-None-clause-complete g c stamp command words can no_source no_sink no_disk =
    absurd (c.in-Ok-None.ensures.none c.in-Ok-None.field-0-is stamp command (same_row _ _ _ stamp command (ap (map (string_bytes {Z = Global})) c.deref.ensures.value) words))

pub returns-in-Ok-None-clause-founded : goal.returns-in-Ok-None-clause-founded
returns-in-Ok-None-clause-founded g c stamp says well honest =
    absurd (c.in-Ok-None.ensures.none c.in-Ok-None.field-0-is stamp Found (same_row [] _ _ stamp Found (ap (map (string_bytes {Z = Global})) c.deref.ensures.value) (found_row [] _ stamp says)))

pub returns-in-Ok-None-clause-headline : goal.returns-in-Ok-None-clause-headline
returns-in-Ok-None-clause-headline g c stamp past says honest sincere sound each =
    absurd (c.in-Ok-None.ensures.none c.in-Ok-None.field-0-is stamp File (same_row [] _ _ stamp File (ap (map (string_bytes {Z = Global})) c.deref.ensures.value) (file_row [] _ stamp says)))

pub returns-in-Ok-None-clause-keeps : goal.returns-in-Ok-None-clause-keeps
returns-in-Ok-None-clause-keeps g c past honest each =
    started (g.D.Disk.tells c.args.disk) (λ file. (added : List (StampedEntry Filing)) × Recovers file (added ++ past)) (λ file since. ([], each file (g.met.D.Disk.only_now c.args.disk file honest since)))

pub returns-in-Ok-None-clause-within : goal.returns-in-Ok-None-clause-within
returns-in-Ok-None-clause-within g c file history is = legal_within (entries history) (to_kept file history is).legal

pub returns-in-Ok-None-clause-one : goal.returns-in-Ok-None-clause-one
returns-in-Ok-None-clause-one g c file history other first second = one_history file history other first second

pub returns-in-Ok-Some-clause-shows : goal.returns-in-Ok-Some-clause-shows
returns-in-Ok-Some-clause-shows g c =
    let done = c.do_command-ended in
    run_shows _ _ g.D.Disk g.K.Sink
    (record {
      source = (g.S.Source.faults c.args.input.now, g.S.Source.faults done.new.input);
      sink = (g.K.Sink.faults c.args.out.now, g.K.Sink.faults c.end.new.out);
      disk = (g.D.Disk.faults c.args.disk, g.D.Disk.faults done.result.1);
    })
    (map (string_bytes {Z = Global}) c.args.words.now.items) c.args.disk done.result.1
    (record { honest = g.S.Source.honest c.args.input.now; before = g.S.Source.left c.args.input.now; after = g.S.Source.left done.new.input })
    c.args.out.now c.end.new.out c.end.result (returns-in-Ok-Some-clause-ran g c)

pub returns-in-Ok-None-clause-shows : goal.returns-in-Ok-None-clause-shows
returns-in-Ok-None-clause-shows g c =
    run_shows _ _ g.D.Disk g.K.Sink
    (record {
      source = (g.S.Source.faults c.args.input.now, g.S.Source.faults c.args.input.now);
      sink = (g.K.Sink.faults c.args.out.now, g.K.Sink.faults c.end-in-Ok-None.new.out);
      disk = (g.D.Disk.faults c.args.disk, g.D.Disk.faults c.args.disk);
    })
    (map (string_bytes {Z = Global}) c.args.words.now.items) c.args.disk c.args.disk
    (record { honest = g.S.Source.honest c.args.input.now; before = g.S.Source.left c.args.input.now; after = g.S.Source.left c.args.input.now })
    c.args.out.now c.end-in-Ok-None.new.out c.end-in-Ok-None.result (returns-in-Ok-None-clause-ran g c)

pub returns-in-Ok-Some-clause-sink_later : goal.returns-in-Ok-Some-clause-sink_later
returns-in-Ok-Some-clause-sink_later g c =
    let before = c.do_command-ended.ensures.sink_later in
    let behind = ends_later g.K.Sink c.do_command-ended.new.out c.end.new.out c.do_command-ended.result.0 c.end.result c.end.ensures in
    omega (arith, before, behind)

pub returns-in-Ok-Some-clause-sink_honest : goal.returns-in-Ok-Some-clause-sink_honest
returns-in-Ok-Some-clause-sink_honest g c =
    ends_honest g.K.Sink c.do_command-ended.new.out c.end.new.out c.do_command-ended.result.0 c.end.result c.end.ensures ∙ c.do_command-ended.ensures.sink_honest

pub returns-in-Ok-None-clause-sink_later : goal.returns-in-Ok-None-clause-sink_later
returns-in-Ok-None-clause-sink_later g c = ends_later g.K.Sink c.args.out.now c.end-in-Ok-None.new.out (Err stops.Usage) c.end-in-Ok-None.result c.end-in-Ok-None.ensures

pub returns-in-Ok-None-clause-sink_honest : goal.returns-in-Ok-None-clause-sink_honest
returns-in-Ok-None-clause-sink_honest g c = ends_honest g.K.Sink c.args.out.now c.end-in-Ok-None.new.out (Err stops.Usage) c.end-in-Ok-None.result c.end-in-Ok-None.ensures

-- where there was no memory for the words
pub returns-in-Err-clause-ran : goal.returns-in-Err-clause-ran
returns-in-Err-clause-ran g c =
    unread_words c.end-in-Err.result refl refl
    (record {
      source = stood _ _ refl;
      disk = stood _ _ refl;
      sink = sink_moved g.K.Sink c.args.out.now c.end-in-Err.new.out (Err no_memory) c.end-in-Err.result (g.K.Sink.faults c.args.out.now) (omega arith) (stood _ _ refl) c.end-in-Err.ensures;
    })
    c.end-in-Err.ensures

pub returns-in-Err-clause-moments : goal.returns-in-Err-clause-moments
returns-in-Err-clause-moments g c stamp command past words honest each =
    moments_unread _ g.D.Disk g.met.D.Disk.only_now g.met.D.Disk.reads_as_image stamp c.args.disk
    (record { honest = g.S.Source.honest c.args.input.now; before = g.S.Source.left c.args.input.now; after = g.S.Source.left c.args.input.now })
    command past honest each

-- it doesn't end well
not_done : (g : Over) (c : goal.After-end-in-Err g) → c.end-in-Err.result ≡ 0 → ⊥
not_done g c well = let bad : Err no_memory ≡ Ok tt = done_at g.K.Sink c.args.out.now c.end-in-Err.new.out (Err no_memory) c.end-in-Err.result c.end-in-Err.ensures well in cc

pub returns-in-Err-clause-stands : goal.returns-in-Err-clause-stands
returns-in-Err-clause-stands g c stamp command past words well honest stood = absurd (not_done g c well)

pub returns-in-Err-clause-file_ran : goal.returns-in-Err-clause-file_ran
returns-in-Err-clause-file_ran g c stamp says =
    unread_ran g.D.Disk g.K.Sink stamp c.args.disk
    (record { honest = g.S.Source.honest c.args.input.now; before = g.S.Source.left c.args.input.now; after = g.S.Source.left c.args.input.now })
    c.args.out.now c.end-in-Err.new.out c.end-in-Err.result refl c.end-in-Err.ensures

pub returns-in-Err-clause-founded : goal.returns-in-Err-clause-founded
returns-in-Err-clause-founded g c stamp says well honest = absurd (not_done g c well)

pub returns-in-Err-clause-headline : goal.returns-in-Err-clause-headline
returns-in-Err-clause-headline g c stamp past says honest sincere sound each =
    has_filed stamp g.D.Disk g.K.Sink g.met.D.Disk.only_now g.met.D.Disk.reads_as_image c.args.disk c.args.disk
    (record { honest = g.S.Source.honest c.args.input.now; before = g.S.Source.left c.args.input.now; after = g.S.Source.left c.args.input.now })
    c.args.out.now c.end-in-Err.new.out c.end-in-Err.result past honest sincere sound each (returns-in-Err-clause-file_ran g c stamp says)

pub returns-in-Err-clause-keeps : goal.returns-in-Err-clause-keeps
returns-in-Err-clause-keeps g c past honest each =
    started (g.D.Disk.tells c.args.disk) (λ file. (added : List (StampedEntry Filing)) × Recovers file (added ++ past)) (λ file since. ([], each file (g.met.D.Disk.only_now c.args.disk file honest since)))

pub returns-in-Err-clause-within : goal.returns-in-Err-clause-within
returns-in-Err-clause-within g c file history is = legal_within (entries history) (to_kept file history is).legal

pub returns-in-Err-clause-one : goal.returns-in-Err-clause-one
returns-in-Err-clause-one g c file history other first second = one_history file history other first second

pub returns-in-Err-clause-complete : goal.returns-in-Err-clause-complete
returns-in-Err-clause-complete g c stamp command words can no_source no_sink no_disk =
    ⊎_elim (λ nine. inr nine) (λ four. absurd (no_sink four.1))
    (with_status g.K.Sink c.args.out.now c.end-in-Err.new.out (fault_line no_memory) 9 c.end-in-Err.result (ends_stopped g.K.Sink c.args.out.now c.end-in-Err.new.out no_memory c.end-in-Err.result c.end-in-Err.ensures))

pub returns-in-Err-clause-shows : goal.returns-in-Err-clause-shows
returns-in-Err-clause-shows g c =
    run_shows _ _ g.D.Disk g.K.Sink
    (record {
      source = (g.S.Source.faults c.args.input.now, g.S.Source.faults c.args.input.now);
      sink = (g.K.Sink.faults c.args.out.now, g.K.Sink.faults c.end-in-Err.new.out);
      disk = (g.D.Disk.faults c.args.disk, g.D.Disk.faults c.args.disk);
    })
    (map (string_bytes {Z = Global}) c.args.words.now.items) c.args.disk c.args.disk
    (record { honest = g.S.Source.honest c.args.input.now; before = g.S.Source.left c.args.input.now; after = g.S.Source.left c.args.input.now })
    c.args.out.now c.end-in-Err.new.out c.end-in-Err.result (returns-in-Err-clause-ran g c)

pub returns-in-Err-clause-sink_later : goal.returns-in-Err-clause-sink_later
returns-in-Err-clause-sink_later g c = ends_later g.K.Sink c.args.out.now c.end-in-Err.new.out (Err no_memory) c.end-in-Err.result c.end-in-Err.ensures

pub returns-in-Err-clause-sink_honest : goal.returns-in-Err-clause-sink_honest
returns-in-Err-clause-sink_honest g c = ends_honest g.K.Sink c.args.out.now c.end-in-Err.new.out (Err no_memory) c.end-in-Err.result c.end-in-Err.ensures
