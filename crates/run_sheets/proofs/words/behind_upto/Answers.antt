use Rattle.std.proofs.Common.{◌≡◌, ◌∷◌, Global, List, None, String, codes, length, map, rules, string_bytes, subst, sym}
use Rattle.run_sheets.specs.Words.{ReadsRow}
use Rattle.run_sheets.proofs.RowLemmas.{no_items, upto_alone}
use Rattle.run_sheets.proofs.words.behind_upto.Goals as goal

pub returns-in-None : goal.returns-in-None
returns-in-None c =
    let none : length c.args.behind.now ≡ 0 = search rules in
    subst (λ (words : List (String Global)). ReadsRow (codes "upto" ∷ map (string_bytes {Z = Global}) words) None) (sym (no_items c.args.behind.now none)) upto_alone
