-- What the workers did, from the opening of the lock to its end.
use Rattle.std.proofs.Common.{◌≡◌, ◌≢◌, ℕ, ◌+◌, ◌<◌, ◌≤◌, List, Option, Some, length, get_or, slice_index_or, sym, ap, ◌∙◌, subst, arith}
use Rattle.std.specs.List.{All}
use Rattle.atomic_table.specs.Seated.{TableId}
use Rattle.log_machine.specs.Scheme.{Semantics}
use Rattle.log_machine.specs.declared.reply.LogReply.{LogReply}
use Rattle.log_lock.specs.declared.turned.Snapshot.{Snapshot}
use Rattle.log_lock.specs.Passes.{Known}
use Rattle.log_desks.specs.Desks.{IsFresh}
use Rattle.log_machine.specs.declared.names.Filed.{Filed}
use Rattle.web_session.specs.Asks.{Scheme}
use Rattle.web_session.specs.Ports.{AcceptorState}
use Rattle.web_workers.specs.Sessions.{Served}
use Rattle.web_workers.specs.Workers.{AreReady, HasEnded, HasServed, HasStopped, HaveFoundRoom, HoldsHandle, IsReady, Ran, ServesOwn, WorkerView, Works, all_shown}
use Rattle.web_workers.specs.declared.stop.WebEnd.{WebEnd}
use Rattle.web_workers.specs.declared.stop.WebEnd.TheVariants.{Open, Done, AcceptorFault}

-- a worker that stopped isn't open
not_open : (ended : WebEnd) (served limit old new : ℕ) → HasStopped ended served limit old new → ended ≢ Open
not_open Open served limit old new stopped is = absurd stopped
not_open Done served limit old new stopped is = cc
not_open AcceptorFault served limit old new stopped is = cc

same_pass : {E : Type 0} {a b : Known (Filed E)} → Some a ≡ Some b → a ≡ b
same_pass e = cc

module _ {Entry P : Type 0} (lock : TableId) (opening : Snapshot (Filed Entry)) where
  holds : (number : ℕ) (old now : WorkerView Entry P) → IsReady lock opening number old now → HoldsHandle lock now
  holds number old now ready = (ready.handle, ap (λ (d : WorkerView Entry P). d.handle) ready.is, ready.fresh.lock_is)

  pub all_hold : (before opened : List (WorkerView Entry P)) → length opened ≡ length before → AreReady lock opening (length before) before opened → (k : ℕ) (d : WorkerView Entry P) → k < length opened → HoldsHandle lock (slice_index_or opened k d)
  all_hold before opened one ready k d lt = holds (k + 1) (get_or before k d) (get_or opened k d) (ready k d (omega (arith, lt, one)))

module _ {Entry Operation Response P : Type 0} (semantics : Semantics Entry Operation Response) (own : Operation → Option Entry) (scheme : Scheme Operation (LogReply Response)) (tells : P → AcceptorState) (faults : P → ℕ) (lock : TableId) (opening : Snapshot (Filed Entry)) (limit : ℕ) where
  module _ (number : ℕ) (old now new : WorkerView Entry P) (ready : IsReady lock opening number old now) (works : Works semantics own scheme tells faults lock limit now new) where
    ended : HasEnded lock opening new
    ended =
        let ends = works.ends ready.handle (ap (λ (d : WorkerView Entry P). d.handle) ready.is) in
        record {
          handle = works.after;
          has = works.has;
          lock_is = works.lock_is;
          share = ends.0 ∙ ready.share;
          opening_is = ends.1 ∙ ready.fresh.opening_is;
          ended = not_open new.ended new.served limit (faults now.port) (faults new.port) works.stopped;
        }

    serves_own : ServesOwn semantics own scheme tells faults opening number limit old new
    serves_own =
        let ends = works.ends ready.handle (ap (λ (d : WorkerView Entry P). d.handle) ready.is) in
        let port : now.port ≡ old.port = ap (λ (d : WorkerView Entry P). d.port) ready.is in
        let numbered : now.number ≡ number = ap (λ (d : WorkerView Entry P). d.number) ready.is in
        record {
          numbered = works.number ∙ numbered;
          first = ready.handle;
          last = works.after;
          fresh = subst (λ l. IsFresh l opening ready.handle) (sym ready.fresh.lock_is) ready.fresh;
          has = works.has;
          served = subst (λ p. Served semantics own scheme number ready.handle works.after (tells p) (tells new.port) new.served new.starved) port
              (subst (λ n. Served semantics own scheme n ready.handle works.after (tells now.port) (tells new.port) new.served new.starved) numbered ends.2);
          stopped = subst (λ p. HasStopped new.ended new.served limit (faults p) (faults new.port)) port works.stopped;
          later = subst (λ p. faults p ≤ faults new.port) port works.later;
        }

  module _ (before opened worked : List (WorkerView Entry P)) (one : length opened ≡ length before) (other : length worked ≡ length opened) (ready : AreReady lock opening (length before) before opened) (works : (k : ℕ) (d : WorkerView Entry P) → k < length opened → Works semantics own scheme tells faults lock limit (slice_index_or opened k d) (slice_index_or worked k d)) where
    pub all_ended : All (HasEnded lock opening) worked
    all_ended k d lt = ended (k + 1) (get_or before k d) (get_or opened k d) (get_or worked k d) (ready k d (omega (arith, lt, one, other))) (works k d (omega (arith, lt, other)))

    pub has_served : (snapshot closed : Snapshot (Filed Entry)) (after : List (WorkerView Entry P)) → opening ≡ snapshot → Ran opening closed worked → (room : ℕ) → length before ≤ room → HaveFoundRoom room worked → all_shown after ≡ all_shown worked → HasServed semantics own scheme tells faults limit snapshot closed before after
    has_served snapshot closed after is ran room enough found shown =
        subst (λ o. HasServed semantics own scheme tells faults limit o closed before after) is (record {
          workers = worked;
          count = other ∙ one;
          each = λ k d lt. serves_own (k + 1) (get_or before k d) (get_or opened k d) (get_or worked k d) (ready k d lt) (works k d (omega (arith, lt, one)));
          ran = ran;
          found_room = λ some_want. let whole = found some_want in omega (arith, whole, enough);
          shown = shown;
        })
