use Rattle.std.proofs.Common.{ℤ, ap, ◌∙◌, w64, to_z, of_z}
use Rattle.std.proofs.lemmas.Int.{to_z-of_z}
use Rattle.std.proofs.lemmas.Result.{on_ok_weaker}
use Rattle.sheet_need.specs.NeedEntries.{allowance_entries, asset_entries, family_living}
use Rattle.sheet_need.proofs.NeedPieces.{joined, pushed}
use Rattle.sheet_need.specs.declared.entry.Entry.{Entry}
use Rattle.sheet_need.proofs.household.put_assessed.Goals as goal

pub returns : goal.returns
returns c =
    let l = c.args.lines.now in
    let held = to_z-of_z w64 c.args.age c.ranges.age in
    let taken = to_z-of_z w64 c.args.rate c.ranges.rate in
    let f1 = pushed _ _ c.args.out.now.items c.put_entries.new.out.items c.income.ensures c.in_ok-put_entries.ensures in
    let f2 = pushed _ _ c.put_entries.new.out.items c.put_entries-2.new.out.items (c.allowances.ensures ∙ ap (λ (e : Entry). allowance_entries e c.employment.result l) c.family_living.ensures
    ∙ ap (λ (e : Entry). allowance_entries (family_living c.args.family l) e l) c.employment.ensures) c.in_ok-put_entries-2.ensures in
    let f3 = pushed _ _ c.put_entries-2.new.out.items c.put_entries-3.new.out.items c.worth.ensures c.in_ok-put_entries-3.ensures in
    let f4 = pushed _ _ c.put_entries-3.new.out.items c.put_entries-4.new.out.items (c.assets.ensures ∙ ap (λ (a : ℤ). asset_entries a (to_z w64 (of_z w64 c.args.rate)) l) held ∙ ap (λ (r : ℤ). asset_entries c.args.age r l) taken)
    c.in_ok-put_entries-4.ensures in
    on_ok_weaker c.put_entries-5.result
    (λ last. joined _ _ c.args.out.now.items c.put_entries.new.out.items _ f1
    (joined _ _ c.put_entries.new.out.items c.put_entries-2.new.out.items _ f2
    (joined _ _ c.put_entries-2.new.out.items c.put_entries-3.new.out.items _ f3
    (joined _ _ c.put_entries-3.new.out.items c.put_entries-4.new.out.items _ f4
    (pushed _ _ c.put_entries-4.new.out.items c.put_entries-5.new.out.items c.schedule.ensures last)))))
    c.put_entries-5.ensures
