use Rattle.std.proofs.Common.{◌∙◌, ap, subst, sym, List, Option}
use Rattle.std.specs.BTreeMap.{is_at}
use Rattle.std.specs.Map.{lookup}
use Rattle.std.specs.Prelude.{ℕ, IfSome}
use Rattle.std.proofs.lemmas.Cmp.{tied_itself}
use Rattle.sorted_rows.specs.Places.{AreStaying, IsHere}
use Rattle.sorted_rows.proofs.Placed.{here_stays, stay_pushed, there_last, written_at_slot, written_pushed}
use Rattle.office_index.proofs.filed.put_at.Goals as goal

pub set-requires : goal.set-requires
set-requires g c =
    let here : IsHere g.K.Ord.cmp c.args.name c.args.rows.now.rows c.in-Some.slot =
    subst (λ (o : Option ℕ). IfSome o (IsHere g.K.Ord.cmp c.args.name c.args.rows.now.rows)) c.in-Some.is c.requires.slot in
    here.in_range

pub returns-in-Some-clause-values : goal.returns-in-Some-clause-values
returns-in-Some-clause-values g c =
    let here : IsHere g.K.Ord.cmp c.args.name c.args.rows.now.rows c.in-Some.slot =
    subst (λ (o : Option ℕ). IfSome o (IsHere g.K.Ord.cmp c.args.name c.args.rows.now.rows)) c.in-Some.is c.requires.slot in
    written_at_slot g.met.K.Ord.total c.args.name c.args.row.now c.args.rows.now.rows c.set.new.self.rows c.in-Some.slot here c.set.ensures.values

pub returns-in-Some-clause-slot : goal.returns-in-Some-clause-slot
returns-in-Some-clause-slot g c =
    let here : IsHere g.K.Ord.cmp c.args.name c.args.rows.now.rows c.in-Some.slot =
    subst (λ (o : Option ℕ). IfSome o (IsHere g.K.Ord.cmp c.args.name c.args.rows.now.rows)) c.in-Some.is c.requires.slot in
    here_stays g.met.K.Ord.total c.args.name c.args.rows.now.rows c.set.new.self.rows c.in-Some.slot here c.set.ensures.stays c.set.ensures.count

pub add-requires-clause-new : goal.add-requires-clause-new
add-requires-clause-new g c = c.requires.new c.in-None.is

pub returns-in-None-clause-values : goal.returns-in-None-clause-values
returns-in-None-clause-values g c = λ q.
    ap (lookup (is_at (g.K.Ord.cmp q))) c.add.ensures.rows
    ∙ written_pushed g.met.K.Ord.total c.args.name c.args.row.now c.args.rows.now.rows (c.requires.new c.in-None.is) q

pub returns-in-None-clause-stays : goal.returns-in-None-clause-stays
returns-in-None-clause-stays g c =
    subst (λ (xs : List (g.row.K.Denot × g.row.V.Denot)). AreStaying c.args.rows.now.rows xs) (sym c.add.ensures.rows)
    (stay_pushed c.args.rows.now.rows (c.args.name, c.args.row.now))

pub returns-in-None-clause-slot : goal.returns-in-None-clause-slot
returns-in-None-clause-slot g c =
    subst (λ (xs : List (g.row.K.Denot × g.row.V.Denot)). IsHere g.K.Ord.cmp c.args.name xs c.add.result) (sym c.add.ensures.rows)
    (there_last g.met.K.Ord.total c.args.name c.args.row.now c.args.rows.now.rows c.args.name c.add.result (tied_itself g.met.K.Ord.total c.args.name) c.add.ensures.slot)
