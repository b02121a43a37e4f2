-- Filings that are only noted: they bring nothing else.
use Rattle.std.specs.Prelude.{}
use Rattle.aid_filings.specs.declared.filing.What.{What}
use Rattle.aid_filings.specs.declared.filing.What.TheVariants.{Apply, Pay, Withdraw}

-- all but those that are admitted with an award, a net or a worksheet
abbrev pub IsNoted : What → Type 0
IsNoted (Apply a) = ⊥
IsNoted (Pay a) = ⊥
IsNoted (Withdraw w) = ⊥
IsNoted _ = Unit {0}
