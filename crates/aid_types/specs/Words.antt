-- How formulas, ways to an award and programs are written. Own format.
use Rattle.std.specs.Prelude.{ℕ, List, codes}
use Rattle.aid_types.specs.declared.award.Formula.{Formula}
use Rattle.aid_types.specs.declared.award.Formula.TheVariants.{A, B, C}
use Rattle.aid_types.specs.declared.award.Way.{Way}
use Rattle.aid_types.specs.declared.award.Way.TheVariants.{Maximum, Calculated, Minimum, Nothing}
use Rattle.aid_types.specs.declared.number.Program.{Program}
use Rattle.aid_types.specs.declared.number.Program.TheVariants.{Unsub, Sub, Plus, Pell, Fseog, Teach}

abbrev pub formula_text : Formula → List ℕ
formula_text A = codes "A"
formula_text B = codes "B"
formula_text C = codes "C"

abbrev pub way_text : Way → List ℕ
way_text Maximum = codes "maximum"
way_text Calculated = codes "calculated"
way_text Minimum = codes "minimum"
way_text Nothing = codes "nothing"

abbrev pub program_text : Program → List ℕ
program_text Unsub = codes "unsub"
program_text Sub = codes "sub"
program_text Plus = codes "plus"
program_text Pell = codes "pell"
program_text Fseog = codes "fseog"
program_text Teach = codes "teach"
