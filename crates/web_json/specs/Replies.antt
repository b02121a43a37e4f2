-- The bodies of replies: compact JSON (RFC 8259), the keys in the order of their bytes. Own format.
use Rattle.std.specs.Prelude.{ℕ, ◌+◌, List, ◌++◌, codes, decimal, Option, Some, None}
use Rattle.aid_types.specs.Whole.{whole_text}
use Rattle.aid_types.specs.declared.award.Refusal.{Refusal}
use Rattle.aid_filings.specs.declared.reply.Outcome.{Outcome}
use Rattle.aid_filings.specs.declared.reply.Response.{Response}
use Rattle.aid_filings.specs.declared.reply.Response.TheVariants.{Admit, Again, Refused, Quoted, Standing}
use Rattle.aid_filings.specs.declared.reply.StandingRow.{StandingRow}
use Rattle.aid_types.specs.Words.{formula_text, way_text}
use Rattle.format_filings.specs.Replies.{outcome_text}

-- of a filing that stands at a position
abbrev pub filed_body : List ℕ → ℕ → ℕ → Outcome → List ℕ
filed_body answer position front outcome =
    codes "{\"answer\":\"" ++ answer ++ codes "\",\"front\":" ++ decimal front ++ codes ",\"outcome\":\"" ++ outcome_text outcome
    ++ codes "\",\"position\":" ++ decimal position ++ codes "}"

-- of one that is refused
abbrev pub refused_body : Refusal → ℕ → List ℕ
refused_body refusal front =
    codes "{\"answer\":\"refused\",\"bound\":" ++ decimal refusal.bound ++ codes ",\"front\":" ++ decimal front ++ codes ",\"kept\":" ++ decimal refusal.kept
    ++ codes ",\"rule\":" ++ decimal refusal.rule ++ codes "}"

-- of a quote, in cents
abbrev pub quoted_body : ℕ → ℕ → List ℕ
quoted_body cents front = codes "{\"answer\":\"quoted\",\"cents\":" ++ decimal cents ++ codes ",\"front\":" ++ decimal front ++ codes "}"

-- of where a student stands
abbrev pub standing_body : StandingRow → ℕ → List ℕ
standing_body row front =
    codes "{\"answer\":\"standing\",\"formula\":\"" ++ formula_text row.formula ++ codes "\",\"front\":" ++ decimal front ++ codes ",\"paid\":" ++ decimal row.paid
    ++ codes ",\"sai\":" ++ whole_text row.sai ++ codes ",\"scheduled\":" ++ decimal row.scheduled ++ codes ",\"transaction\":" ++ decimal row.transaction
    ++ codes ",\"used\":" ++ decimal row.used ++ codes ",\"way\":\"" ++ way_text row.way ++ codes "\"}"

-- of a disk that failed, with the position of the filing that is undecided, if any
abbrev pub undecided_text : Option ℕ → List ℕ
undecided_text None = codes "null"
undecided_text (Some position) = decimal position

abbrev pub fault_body : Option ℕ → List ℕ
fault_body undecided = codes "{\"answer\":\"disk fault\",\"undecided\":" ++ undecided_text undecided ++ codes "}"

-- of an answer, where so many filings stood before it; what is accepted stands behind them
abbrev pub answer_body : Response → ℕ → List ℕ
answer_body (Admit outcome) front = filed_body (codes "accepted") (front + 1) front outcome
answer_body (Again position outcome) front = filed_body (codes "again") position front outcome
answer_body (Refused refusal) front = refused_body refusal front
answer_body (Quoted cents) front = quoted_body cents front
answer_body (Standing row) front = standing_body row front
