-- Whatever the command, no filing that stood is lost at any moment of a run.
use Rattle.std.proofs.Common.{◌≡◌, ⊎_elim, ℕ, List, [], ◌∷◌, ◌++◌, Option, Some, None, Result, Ok, Err, refl, sym, ap, subst, ◌∙◌, append_assoc}
use Rattle.aid_filings.specs.declared.filing.Filing.{Filing}
use Rattle.run_claims.specs.Office.{Recovers}
use Rattle.run_claims.proofs.Office.{from_kept}
use Rattle.log_machine.specs.Scheme.{Semantics}
use Rattle.log_machine.specs.Submits.{with_entry}
use Rattle.office_log.specs.Recovers as kept
use Rattle.office_log.specs.Submits.{filing_semantics, office_semantics}
use Rattle.log_session.specs.Edges.{Input}
use Rattle.log_machine.specs.Texts.{after_row, after_rows}
use Rattle.run_generate.specs.Payments.{year_semantics}
use Rattle.aid_stamps.specs.declared.stamp.Stamp.{Stamp}
use Rattle.log_stamps.specs.Stamped.{stamped_semantics}
use Rattle.log_stamps.specs.declared.entry.StampedEntry.{StampedEntry}
use Rattle.run_words.specs.declared.command.Command.{Command}
use Rattle.run_words.specs.declared.command.Command.TheVariants.{Found, File, Book, Quote, Report, Fund, Generate, CheckRows, CheckBook}
use Rattle.run_office.specs.Moments.{MayRecover}
use Rattle.run_office.specs.Rounds.{PolicyAnswers}

-- the one list is the other's older part
abbrev IsOlder : {E : Type 0} → List E → List E → Type 0
IsOlder {E} older newer = (added : List E) × (newer ≡ added ++ older)

joined : {Entry : Type 0} (o : Option Entry) (past : List Entry) → IsOlder past (with_entry o past)
joined None past = ([], refl)
joined (Some e) past = (e ∷ [], refl)

row_adds : {Entry Operation Response Error : Type 0} (semantics : Semantics Entry Operation Response) (past : List Entry) (row : Result Operation Error) → IsOlder past (after_row semantics past row)
row_adds semantics past (Ok operation) = joined (semantics.added past operation) past
row_adds semantics past (Err error) = ([], refl)

rows_add : {Entry Operation Response Error : Type 0} (semantics : Semantics Entry Operation Response) (past : List Entry) (rows : List (Result Operation Error)) → IsOlder past (after_rows semantics past rows)
rows_add semantics past [] = ([], refl)
rows_add {Entry} semantics past (row ∷ rows) =
    let (first, is) = row_adds semantics past row in
    let (more, are) = rows_add semantics (after_row semantics past row) rows in
    (more ++ first, are ∙ (ap (λ (l : List Entry). more ++ l) is ∙ sym (append_assoc more first past)))

-- what is recovered has the list before it
abbrev Has : List (StampedEntry Filing) → List ℕ → Type 0
Has past file = (added : List (StampedEntry Filing)) × Recovers file (added ++ past)

has : (past now : List (StampedEntry Filing)) (file : List ℕ) → IsOlder past now → kept.Recovers file now → Has past file
has past now file (added, is) r = (added, from_kept file (added ++ past) (subst (λ (l : List (StampedEntry Filing)). kept.Recovers file l) is r))

pub keeps : (gives : PolicyAnswers) (stamp : Stamp) (command : Command) (input : Input) (past : List (StampedEntry Filing)) (file : List ℕ) → MayRecover gives stamp command input past file → Has past file
keeps gives stamp Found input past file r = has past past file ([], refl) r
keeps gives stamp File input past file (left, is, taken) = let (rows, rest, said, r) = taken in has past _ file (rows_add office_semantics past rows) r
keeps gives stamp (Book book) input past file (left, is, taken) = let (rows, rest, said, r) = taken in has past _ file (rows_add office_semantics past rows) r
keeps gives stamp (Quote quote) input past file r = has past past file ([], refl) r
keeps gives stamp (Report report) input past file r = has past past file ([], refl) r
keeps gives stamp (Fund fund) input past file r =
    ⊎_elim (λ one. has past past file ([], refl) one) (λ planned. let (operations, closing, plans, taken) = planned in let (rows, rest, said, one) = taken in has past _ file (rows_add office_semantics past rows) one) r
keeps gives stamp (Generate generate) input past file (left, is, taken) = let (rows, rest, said, r) = taken in has past _ file (rows_add (stamped_semantics (year_semantics filing_semantics)) past rows) r
keeps gives stamp CheckRows input past file r = has past past file ([], refl) r
keeps gives stamp CheckBook input past file r = has past past file ([], refl) r
