use Rattle.std.proofs.Common.{◌≡◌, Global, List, None, String, length, map, rules, string_bytes, subst, sym}
use Rattle.run_sheets.specs.Words.{ReadsRow}
use Rattle.run_sheets.proofs.RowLemmas.{no_items, no_words}
use Rattle.run_sheets.proofs.words.row_of.Goals as goal

pub returns-in-None : goal.returns-in-None
returns-in-None c =
    let none : length c.args.words.now ≡ 0 = search rules in
    subst (λ (words : List (String Global)). ReadsRow (map (string_bytes {Z = Global}) words) None) (sym (no_items c.args.words.now none)) no_words
