use Rattle.std.proofs.Common.{◌∷◌, Global, List, codes, map, string_bytes, subst, sym, ℕ}
use Rattle.run_sheets.specs.Words.{ReadsPosition, ReadsRow}
use Rattle.run_sheets.proofs.RowLemmas.{no_position}
use Rattle.run_sheets.proofs.words.row_at.Goals as goal

pub returns-in-Some : goal.returns-in-Some
returns-in-Some c =
    subst (λ (word : List ℕ). ReadsRow (codes "upto" ∷ word ∷ map (string_bytes {Z = Global}) c.args.words.now) c.row_upto.result)
    (sym ((c.position_of.ensures c.in-Some.position).0 c.in-Some.is)) c.row_upto.ensures

pub returns-in-None : goal.returns-in-None
returns-in-None c =
    no_position c.args.word.now (map (string_bytes {Z = Global}) c.args.words.now) (subst (ReadsPosition c.args.word.now) c.in-None.is c.position_of.ensures)
