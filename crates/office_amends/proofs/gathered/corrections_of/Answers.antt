use Rattle.std.proofs.Common.{◌≡◌, ◌+◌, ◌∷◌, [], ◌∙◌, ap, refl, rules, arith, length, subst, Err}
use Rattle.std.proofs.lemmas.List.{length-map}
use Rattle.csv.specs.Reading.{default_config, records, strip_bom}
use Rattle.csv.specs.Records.{fields_of}
use Rattle.office_amends.specs.Gathered.{HasGathered}
use Rattle.office_amends.proofs.Gathering.{all_done, fields_meant, is_at_next, is_at_start, meant, never_error, taken}
use Rattle.office_amends.proofs.gathered.corrections_of.Goals as goal

pub loop-gathered-init : goal.loop-gathered-init
loop-gathered-init c =
    let all = records default_config (strip_bom c.args.text.items) in
    is_at_start c.args.old.now.history c.args.number all c.new-rows.result _ (c.new-rows.ensures ∙ fields_meant 1 all) c.new.ensures.items c.new-2.ensures.items refl refl

pub unreachable-requires : goal.unreachable-requires
unreachable-requires c =
    let next : c.loop-gathered.rows ≡ Err c.in_default-fields.field-0 ∷ c.next.new.self = search rules in
    never_error c.loop-gathered.rows c.next.new.self c.loop-gathered.invariant.rest c.in_default-fields.field-0 c.loop-gathered.invariant.left next

pub overflow_add-row : goal.overflow_add-row
overflow_add-row c =
    let all = records default_config (strip_bom c.args.text.items) in
    let next : c.loop-gathered.rows ≡ meant (fields_of c.in-Ok.fields) ∷ c.next.new.self = search rules in
    let took = taken c.args.old.now.history c.args.number all c.loop-gathered.rows c.next.new.self c.loop-gathered.row c.loop-gathered.gathered c.loop-gathered.invariant (fields_of c.in-Ok.fields) next in
    let many = ap length (c.new-rows.ensures ∙ fields_meant 1 all) in
    omega (arith, took.longer, many, length-map all meant, c.at_most-most.ensures.bound, c.at_most-most.ensures.few, c.loop-gathered.invariant.row)

pub gather-requires : goal.gather-requires
gather-requires c =
    let all = records default_config (strip_bom c.args.text.items) in
    let next : c.loop-gathered.rows ≡ meant (fields_of c.in-Ok.fields) ∷ c.next.new.self = search rules in
    let took = taken c.args.old.now.history c.args.number all c.loop-gathered.rows c.next.new.self c.loop-gathered.row c.loop-gathered.gathered c.loop-gathered.invariant (fields_of c.in-Ok.fields) next in
    let many = ap length (c.new-rows.ensures ∙ fields_meant 1 all) in
    let at = c.loop-gathered.invariant in
    record {
      number = c.requires.number;
      row = (omega arith, omega (arith, took.longer, many, length-map all meant, c.at_most-most.ensures.bound, c.at_most-most.ensures.few, at.row));
      before = omega (arith, at.counted);
      own = at.own;
    }

pub loop-gathered-preserved : goal.loop-gathered-preserved
loop-gathered-preserved c =
    let all = records default_config (strip_bom c.args.text.items) in
    let at = c.loop-gathered.invariant in
    let next : c.loop-gathered.rows ≡ meant (fields_of c.in-Ok.fields) ∷ c.next.new.self = search rules in
    let took = taken c.args.old.now.history c.args.number all c.loop-gathered.rows c.next.new.self c.loop-gathered.row c.loop-gathered.gathered at (fields_of c.in-Ok.fields) next in
    let has = c.in_ok-gather.ensures.gathered at.done at.has (ap (λ n. n + 1) at.row) in
    is_at_next c.args.old.now.history c.args.number all c.loop-gathered.rows c.next.new.self c.loop-gathered.row c.loop-gathered.gathered c.gather.new.gathered at (fields_of c.in-Ok.fields) took has
    c.in_ok-gather.ensures.before c.in_ok-gather.ensures.own

pub returns-clause-gathered : goal.returns-clause-gathered
returns-clause-gathered c =
    let all = records default_config (strip_bom c.args.text.items) in
    let at = c.loop-gathered.invariant in
    let none : c.loop-gathered.rows ≡ [] = search rules in
    subst (λ rows. HasGathered c.args.old.now.history c.args.number rows c.loop-gathered.gathered)
    (all_done c.args.old.now.history c.args.number all c.loop-gathered.rows c.loop-gathered.row c.loop-gathered.gathered at none) at.has

pub returns-clause-few : goal.returns-clause-few
returns-clause-few c =
    let all = records default_config (strip_bom c.args.text.items) in
    let at = c.loop-gathered.invariant in
    let none : c.loop-gathered.rows ≡ [] = search rules in
    let done = ap length (all_done c.args.old.now.history c.args.number all c.loop-gathered.rows c.loop-gathered.row c.loop-gathered.gathered at none) in
    let many = ap length (c.new-rows.ensures ∙ fields_meant 1 all) in
    omega (arith, done, many, length-map all meant, c.at_most-most.ensures.bound, c.at_most-most.ensures.few, at.row, at.counted)
