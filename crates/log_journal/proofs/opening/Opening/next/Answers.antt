use Rattle.std.proofs.Common.{inr, List, ℕ, [], ◌∷◌, ◌++◌, drop, refl, sym, ◌∙◌, ap, subst, arith, append_assoc, length-append}
use Rattle.log_journal.specs.Stands.{front_of, body_of}
use Rattle.log_journal.specs.Record.{RecordAt, IsClosed, IsNoRecord}
use Rattle.log_journal.proofs.Gates.{front_of-push, payloads-push, gate_place-push}
use Rattle.log_journal.proofs.Gathered.{behind}
use Rattle.log_journal.specs.declared.record.Record.TheVariants.{Whole}
use Rattle.log_journal.proofs.opening.Opening.next.Goals as goal

pub returns-in-Ok-Whole-clause-given : goal.returns-in-Ok-Whole-clause-given
returns-in-Ok-Whole-clause-given g c honest header h given =
    let reads = (g.D.Disk.tells c.args.self.now.disk).reads in
    let gate = c.args.self.now.gate in
    let room = c.read_record.new.room in
    let r : RecordAt (drop gate reads) (Whole c.in-Ok-Whole.size) room = subst (λ x. RecordAt (drop gate reads) x room) c.in-Ok-Whole.field-0-is (c.in-Ok-Whole.ensures.stands honest) in
    let after = r.0.0 in
    let rest_is = sym (behind header reads given.rest h gate given.whole given.gate) ∙ r.0.2 in (
      given.gate,
      record {
        rest = after;
        whole = (c.read_record.ensures.told honest).reads ∙ given.whole ∙ ap (λ (l : List ℕ). front_of header h ++ l) rest_is
            ∙ sym (append_assoc (front_of header h) (1 ∷ body_of room) after) ∙ ap (λ (l : List ℕ). l ++ after) (sym (front_of-push header h room));
        sizes = payloads-push h room given.sizes r.0.1;
        gate = omega (arith, given.gate, gate_place-push h room, r.1);
        count = omega (arith, given.count, length-append h (room ∷ []));
      },
    )

pub returns-in-Ok-Closed-clause-given : goal.returns-in-Ok-Closed-clause-given
returns-in-Ok-Closed-clause-given g c honest header h given =
    let reads = (g.D.Disk.tells c.args.self.now.disk).reads in
    let gate = c.args.self.now.gate in
    let r : IsClosed (drop gate reads) = subst (λ x. RecordAt (drop gate reads) x c.read_record.new.room) c.in-Ok-Closed.field-0-is (c.in-Ok-Closed.ensures.stands honest) in
    record {
      stands = record {
        gate = r.0;
        free = r.1.0;
        closed = r.1.1;
        whole = (c.read_record.ensures.told honest).reads ∙ given.whole ∙ ap (λ (l : List ℕ). front_of header h ++ l) (sym (behind header reads given.rest h gate given.whole given.gate) ∙ r.1.2);
        sizes = given.sizes;
      };
      ended = refl;
      gate = given.gate;
      count = given.count;
    }

pub returns-in-Ok-Broken-clause-damaged : goal.returns-in-Ok-Broken-clause-damaged
returns-in-Ok-Broken-clause-damaged g c honest header h given started =
    let reads = (g.D.Disk.tells c.args.self.now.disk).reads in
    let gate = c.args.self.now.gate in
    let none : IsNoRecord (drop gate reads) = subst (λ x. RecordAt (drop gate reads) x c.read_record.new.room) c.in-Ok-Broken.field-0-is (c.in-Ok-Broken.ensures.stands honest) in
    inr (
      gate,
      refl,
      record {
        rest = given.rest;
        whole = given.whole;
        sizes = given.sizes;
        no_record = subst IsNoRecord (behind header reads given.rest h gate given.whole given.gate) none;
        place = given.gate;
      },
    )
