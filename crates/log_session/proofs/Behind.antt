-- How far the rows of a round were counted.
use Rattle.std.proofs.Common.{◌≡◌, ℕ, false, List, [], ◌∷◌, ◌++◌, map, Option, Some, None, Result, Ok, Err, refl, sym, ◌∙◌, ap, subst}
use Rattle.std.proofs.lemmas.List.{map-append}
use Rattle.io_traits.specs.declared.disk.Disk.{Ghosts}
use Rattle.log_machine.specs.Scheme.{Scheme, Semantics}
use Rattle.log_machine.specs.Submits.{after_ask}
use Rattle.log_session.specs.Edges.{Output, HasWrittenShort}
use Rattle.log_machine.specs.Texts.{Texts, after_rows}
use Rattle.log_session.specs.Links.{IsLink, IsOpened, Runs, begun}
use Rattle.log_session.specs.Sessions.{StopsRow, is_disk_fault}
use Rattle.log_session.specs.declared.stop.FileStop.{FileStop}
use Rattle.log_session.specs.declared.stop.FileStop.TheVariants.{Write, DiskFault, NoMemory}
use Rattle.log_session.specs.declared.stop.SessionStop.TheVariants.{Filing}
use Rattle.log_session.proofs.Filed.{split_push}
use Rattle.log_session.proofs.Runs.{runs-push}
use Rattle.log_session.specs.Asks.{after_asks, answers_to, rows_of_asks}
use Rattle.log_session.specs.Counted.{Counted, Counts, StopsBehind, tallied, told, all, no_ask, faulted, starved, untold, unwritten}

module _ {Entry Operation Response : Type 0} (semantics : Semantics Entry Operation Response) where
  -- the list after one ask more
  after_asks-push : (past : List Entry) (operations : List Operation) (operation : Operation) → after_asks semantics past (operations ++ operation ∷ []) ≡ after_ask semantics (after_asks semantics past operations) operation
  after_asks-push past [] operation = refl
  after_asks-push past (first ∷ operations) operation = after_asks-push (after_ask semantics past first) operations operation

  -- the answers to one ask more
  answers_to-push : (past : List Entry) (operations : List Operation) (operation : Operation) → answers_to semantics past (operations ++ operation ∷ []) ≡ answers_to semantics past operations ++ semantics.answer (after_asks semantics past operations) operation ∷ []
  answers_to-push past [] operation = refl
  answers_to-push past (first ∷ operations) operation = ap (λ (l : List Response). semantics.answer past first ∷ l) (answers_to-push (after_ask semantics past first) operations operation)

  -- the list after the rows that are these asks
  pub after_rows_of_asks : (Error : Type 0) (past : List Entry) (operations : List Operation) → after_rows {Error = Error} semantics past (rows_of_asks operations) ≡ after_asks semantics past operations
  after_rows_of_asks Error past [] = refl
  after_rows_of_asks Error past (operation ∷ operations) = after_rows_of_asks Error (after_ask semantics past operation) operations

-- a tally with one verdict more
tallied-push : {Tally Response : Type 0} (counted : Tally → Response → Tally) (tally : Tally) (responses : List Response) (response : Response)
    → tallied counted tally (responses ++ response ∷ []) ≡ counted (tallied counted tally responses) response
tallied-push counted tally [] response = refl
tallied-push counted tally (first ∷ responses) response = tallied-push counted (counted tally first) responses response

-- of the rows that were left those in front were asks that were counted, and these are left
pub record HasCounted {D Entry Operation Response Error Tally : Type 0} (disk : Ghosts D) (scheme : Scheme Entry) (semantics : Semantics Entry Operation Response) (texts : Texts Operation Response Error) (counted : Tally → Response → Tally) (total left : List texts.Meaning) (past now : List Entry) (old new : D) (start final : Tally) : Type 0 where
  pub operations : List Operation
  pub split : total ≡ map texts.said (rows_of_asks operations) ++ left
  pub runs : Runs {Error = Error} disk scheme semantics (rows_of_asks operations) past old new
  pub list : now ≡ after_asks semantics past operations
  pub tally : final ≡ tallied counted start (answers_to semantics past operations)

module _ {D Entry Operation Response Error Tally : Type 0} {disk : Ghosts D} {scheme : Scheme Entry} {semantics : Semantics Entry Operation Response} {texts : Texts Operation Response Error} {counted : Tally → Response → Tally} {total : List texts.Meaning} {past : List Entry} {old : D} {start : Tally} where
  -- before the first row
  pub none_counted : HasCounted disk scheme semantics texts counted total total past past old old start start
  none_counted = record { operations = []; split = refl; runs = begun past old; list = refl; tally = refl }

  module _ {left : List texts.Meaning} {now : List Entry} {mid : D} {final : Tally} (has : HasCounted disk scheme semantics texts counted total left past now old mid start final) where
    -- what comes behind those that were counted
    ends_here : {new : D} {ended : Result (Option Error) FileStop} → StopsBehind disk scheme semantics texts (after_asks semantics past has.operations) mid new left ended
        → Counts disk scheme semantics texts counted past old new start final total ended
    ends_here behind = record { operations = has.operations; rest = left; last = mid; taken = has.split; runs = has.runs; tally = has.tally; behind = behind }

    -- no row is left
    pub all_counted : left ≡ [] → Counts disk scheme semantics texts counted past old mid start final total (Ok None)
    all_counted none = ends_here (subst (λ (l : List texts.Meaning). StopsBehind disk scheme semantics texts (after_asks semantics past has.operations) mid mid l (Ok None)) (sym none) (all refl))

    -- there is no memory
    pub starved_here : Counts disk scheme semantics texts counted past old mid start final total (Err NoMemory)
    starved_here = ends_here (starved left refl)

    -- the next row is no ask
    pub no_ask_here : (error : Error) (rest : List texts.Meaning) → left ≡ texts.said (Err error) ∷ rest → Counts disk scheme semantics texts counted past old mid start final total (Ok (Some error))
    no_ask_here error rest next = ends_here (subst (λ (l : List texts.Meaning). StopsBehind disk scheme semantics texts (after_asks semantics past has.operations) mid mid l (Ok (Some error))) (sym next) (no_ask error rest refl))

    -- at the next ask
    module _ (operation : Operation) (rest : List texts.Meaning) (next : left ≡ texts.said (Ok operation) ∷ rest) (new : D) where
      -- its turn wasn't answered
      pub stopped_here : (stop : FileStop) → StopsRow {Error = Error} disk scheme semantics stop (Ok operation) now mid new → Counts disk scheme semantics texts counted past old new start final total (Err stop)
      stopped_here Write s = absurd s
      stopped_here (DiskFault undecided) s =
          ends_here (subst (λ (l : List texts.Meaning). StopsBehind disk scheme semantics texts (after_asks semantics past has.operations) mid new l (Err (DiskFault undecided))) (sym next)
          (faulted operation rest undecided (subst (λ (h : List Entry). StopsRow {Error = Error} disk scheme semantics (DiskFault undecided) (Ok operation) h mid new) has.list s)))
      stopped_here NoMemory s = ends_here (starved left s)

      -- it was counted
      pub next_counted : IsLink {Error = Error} disk scheme semantics (Ok operation) now mid new → (list : List Entry) → list ≡ after_ask semantics now operation
          → (later : Tally) → later ≡ counted final (semantics.answer now operation) → HasCounted disk scheme semantics texts counted total rest past list old new start later
      next_counted link list grown later is = record {
        operations = has.operations ++ operation ∷ [];
        split = split_push texts.said total left rest (rows_of_asks has.operations) (Ok operation) has.split next ∙ ap (λ (l : List (Result Operation Error)). map texts.said l ++ rest) (sym rows);
        runs = subst (λ (l : List (Result Operation Error)). Runs disk scheme semantics l past old new) (sym rows)
            (runs-push semantics disk scheme past old mid new (rows_of_asks has.operations) (Ok operation) has.runs (subst (λ (h : List Entry). IsLink {Error = Error} disk scheme semantics (Ok operation) h mid new) (has.list ∙ sym (after_rows_of_asks semantics Error past has.operations)) link));
        list = grown ∙ ap (λ (h : List Entry). after_ask semantics h operation) has.list ∙ sym (after_asks-push semantics past has.operations operation);
        tally = is ∙ ap (λ (t : Tally). counted t (semantics.answer now operation)) has.tally
            ∙ ap (λ (h : List Entry). counted (tallied counted start (answers_to semantics past has.operations)) (semantics.answer h operation)) has.list
            ∙ sym (ap (λ (l : List Response). tallied counted start l) (answers_to-push semantics past has.operations operation) ∙ tallied-push counted start (answers_to semantics past has.operations) (semantics.answer (after_asks semantics past has.operations) operation));
      }
        where
          rows : rows_of_asks {Error = Error} (has.operations ++ operation ∷ []) ≡ rows_of_asks has.operations ++ Ok operation ∷ []
          rows = map-append (λ (a : Operation). Ok a) has.operations (operation ∷ [])

-- the text of rows that were counted wasn't written whole
pub untold_by : {D Entry Operation Response Error Tally : Type 0} {disk : Ghosts D} {scheme : Scheme Entry} {semantics : Semantics Entry Operation Response} {texts : Texts Operation Response Error} {counted : Tally → Response → Tally} {ending : Tally → List ℕ} {start : Tally} {old new : D} {output : Output} {left : List texts.Meaning}
    (past : List Entry) (at : D) (final : Tally) (error : Option Error) → IsOpened disk scheme past old at
    → Counts disk scheme semantics texts counted past at new start final left (Ok error)
    → (result : Result (Unit {0}) FileStop) (stop : FileStop) → result ≡ Err stop → (result ≡ Err Write → HasWrittenShort [] (told texts ending final error) output)
    → (result ≡ Err NoMemory → output.after ≡ output.before) → is_disk_fault (Filing stop) ≡ false
    → Counted disk scheme semantics texts counted ending start old new output left (Err (Filing stop))
untold_by past at final error opened counts result Write is cut none no_disk = unwritten past at final error opened counts (cut is)
untold_by past at final error opened counts result (DiskFault undecided) is cut none no_disk = absurd (let bad : ⊥ = cc in bad)
untold_by past at final error opened counts result NoMemory is cut none no_disk = untold past at final error opened counts (none is)
