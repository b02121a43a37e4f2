-- A desk that had a pass filed its rows by it.
use Rattle.std.proofs.Common.{◌≡◌, ◌≢◌, List, Option, Some, sym, ap, ◌∙◌, subst}
use Rattle.atomic_table.specs.Seated.{TableId}
use Rattle.log_machine.specs.Scheme.{Semantics}
use Rattle.log_machine.specs.Texts.{Texts}
use Rattle.log_lock.specs.declared.turned.Snapshot.{Snapshot}
use Rattle.log_lock.specs.Passes.{Known}
use Rattle.log_machine.specs.declared.names.Filed.{Filed}
use Rattle.log_desks.specs.declared.stop.DeskEnd.TheVariants.{Open}
use Rattle.log_desks.specs.Answered.{Files}
use Rattle.log_desks.specs.Desks.{DeskView, IsReady, HasEnded, Works}

module _ {Entry Operation Response Error Lines : Type 0} (semantics : Semantics Entry Operation Response) (own copied : Operation → Option Entry) (texts : Texts Operation Response Error) (left : Lines → List texts.Meaning) where
  pub works_of : (lock : TableId) (old new : DeskView Entry Lines) (before after : Known (Filed Entry)) → old.handle ≡ Some before → new.handle ≡ Some after
      → after.lock ≡ before.lock → after.allowance ≡ before.allowance → after.opening ≡ before.opening → new.ended ≢ Open → new.number ≡ old.number → new.prefix ≡ old.prefix
      → Files semantics own copied texts old.number old.prefix (left old.rows) new.text new.answered new.ended new.last after → Works semantics own copied texts left lock old new
  works_of lock old new before after had has lock_is share opening_is ended number prefix files = record {
    number = number;
    prefix = prefix;
    ends = ends;
    files = λ known is. let which : after ≡ known = cc in subst (λ k. Files semantics own copied texts old.number old.prefix (left old.rows) new.text new.answered new.ended new.last k) which files;
  }
    where
      ends : (opening : Snapshot (Filed Entry)) → IsReady lock opening old → HasEnded lock opening new
      ends opening (handle, is, fresh, one, open_is) =
          let which : handle ≡ before = cc in
          record {
            handle = after;
            has = has;
            lock_is = lock_is ∙ (ap (λ (k : Known (Filed Entry)). k.lock) (sym which) ∙ fresh.lock_is);
            share = share ∙ (ap (λ (k : Known (Filed Entry)). k.allowance) (sym which) ∙ one);
            opening_is = opening_is ∙ (ap (λ (k : Known (Filed Entry)). k.opening) (sym which) ∙ fresh.opening_is);
            ended = ended;
          }
