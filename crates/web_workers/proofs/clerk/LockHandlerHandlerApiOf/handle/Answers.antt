use Rattle.std.proofs.Common.{ap, refl}
use Rattle.std.specs.Prelude.{option_map}
use Rattle.log_lock.specs.Passes.{Known}
use Rattle.log_machine.specs.declared.names.Filed.{Filed}
use Rattle.log_stamps.specs.Entries.{with_stamp}
use Rattle.log_stamps.specs.declared.entry.StampedEntry.{StampedEntry}
use Rattle.log_stamps.specs.OwnLaws.{own_added, adds_added}
use Rattle.log_stamps.specs.Rows.{ask_under}
use Rattle.log_stamps.specs.Stamped.{stamped_semantics}
use Rattle.log_desks.proofs.Turning.{replies}
use Rattle.web_workers.proofs.Stamped.{replies_under}
use Rattle.web_workers.proofs.clerk.LockHandlerHandlerApiOf.handle.Goals as goal

pub returns-clause-asked : goal.returns-clause-asked
returns-clause-asked g c =
    let semantics = g.R.StateMachine.semantics in
    let own = g.R.SingleEntryMachine.own in
    let stamp = c.self.inside.stamp in
    rw (← c.self.view_is) (record {
      submit = record {
        by = refl;
        replies = replies_under semantics own stamp c.self.inside.by c.args.operation c.submit.result c.self.inside.handle c.submit.new.handle
            (replies Unit (stamped_semantics semantics) (λ a. option_map (with_stamp a.stamp) (own a.operation)) g.R.SingleEntryMachine.adds (own_added semantics own g.met.R.SingleEntryMachine.own_added) (adds_added semantics g.R.SingleEntryMachine.adds g.met.R.SingleEntryMachine.adds_added)
            c.self.inside.by (ask_under stamp c.args.operation) c.self.inside.handle c.submit.new.handle c.submit.result c.submit.ensures.turned);
        lock = c.submit.ensures.lock;
        share = c.submit.ensures.share;
        wants = c.submit.ensures.wants;
        turns = ap (λ (k : Known (Filed (StampedEntry g.row.R-Entry.Denot))). k.turns) c.submit.ensures.turned.whole;
      };
      stamp = refl;
    })
