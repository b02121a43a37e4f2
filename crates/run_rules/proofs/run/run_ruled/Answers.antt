use Rattle.std.proofs.Common.{[]}
use Rattle.log_machine.proofs.Histories.{recovers_once}
use Rattle.log_runs.specs.declared.list.ListCommand.TheVariants.{Found}
use Rattle.log_rules.specs.Lines.{table_texts}
use Rattle.log_rules.specs.RowLaws.{alone}
use Rattle.log_rules.specs.Ruled.{semantics_of, scheme_of}
use Rattle.run_rules.specs.Runs.{table_rows}
use Rattle.run_rules.proofs.FileRuns.{file_ran}
use Rattle.run_rules.proofs.Keeps.{keeps}
use Rattle.run_rules.proofs.run.run_ruled.Goals as goal

pub returns-clause-ran : goal.returns-clause-ran
returns-clause-ran g c =
    let ruling = g.R.OfficeRules.ruling in
    let texts = table_texts g.R.EntryCodec.code_of g.R.EntryCodec.numbers_of g.R.OutcomeText.outcome_text in
    let rows_of = table_rows g.R.KindTable.words g.R.KindTable.key g.R.KindTable.kinds in
    let done = c.run_list.ensures in
    let ran = rw c.command_of.ensures at done.ran in
    let moments = rw c.command_of.ensures at done.moments in
    let stands = rw c.command_of.ensures at done.stands in
    let complete = rw c.command_of.ensures at done.complete in record {
      within = λ file history is. g.met.R.OfficeRules.legal_within history is.legal;
      one = λ file history other is also. recovers_once (scheme_of g.R.OfficeRules.ruling) (alone g.R.OfficeRules.ruling g.R.KindTable.key g.R.KindTable.kinds g.R.EntryCodec.code_of g.R.EntryCodec.numbers_of g.met.R.OfficeRules.rows g.met.R.KindTable.sound g.met.R.EntryCodec.one) file history other is also;
      ran = ran;
      founded = λ is well honest. stands Found [] is well honest tt;
      keeps = λ past honest each. keeps (scheme_of ruling) (semantics_of ruling) texts rows_of g.D.Disk _ _ past _ _ (moments past honest each);
      file_ran = λ is. file_ran g.D.Disk g.K.Sink (scheme_of ruling) (semantics_of ruling) texts rows_of _ _ _ _ _ _ _ _ is ran;
      moments = moments;
      stands = stands;
      shows = done.shows;
      complete = complete;
      source_later = done.source_later;
      sink_later = done.sink_later;
      disk_later = done.disk_later;
      sink_honest = done.sink_honest;
      disk_honest = done.disk_honest;
    }

pub returns-clause-unread : goal.returns-clause-unread
returns-clause-unread g c = rw c.command_of.ensures at c.run_list.ensures.unread
