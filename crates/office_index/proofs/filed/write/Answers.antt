use Rattle.std.proofs.Common.{◌≡◌, Option, Some, ap, subst}
use Rattle.sorted_rows.specs.Places.{IsHere}
use Rattle.office_index.proofs.filed.write.Goals as goal

-- two names of one row are one
same_name : {K V : Type 0} (o : Option (K × V)) (a b : K) (r s : V) → o ≡ Some (a, r) → o ≡ Some (b, s) → a ≡ b
same_name {K} {V} o a b r s one other = let same : (a, r) ≡ (b, s) = cc in ap (λ (p : K × V). p.0) same

pub put_at-requires-clause-slot : goal.put_at-requires-clause-slot
put_at-requires-clause-slot g c = c.requires.slot c.in-Some.name c.in-Some.row c.in-Some.is

pub put_at-requires-clause-new : goal.put_at-requires-clause-new
put_at-requires-clause-new g c = c.requires.new c.in-Some.name c.in-Some.row c.in-Some.is

pub returns-in-Some-clause-slot : goal.returns-in-Some-clause-slot
returns-in-Some-clause-slot g c =
    λ name row written.
    subst (λ (n : g.row.K.Denot). IsHere g.K.Ord.cmp n c.put_at.new.rows.rows c.put_at.result)
    (same_name c.args.written.now c.in-Some.name name c.in-Some.row row c.in-Some.is written) c.put_at.ensures.slot

pub returns-in-None-clause-stays : goal.returns-in-None-clause-stays
returns-in-None-clause-stays g c = λ slot row at. (row.1, at)
