-- What each image recovers at each moment of a round.
use Rattle.std.proofs.Common.{◌≡◌, inl, inr, ℕ, List, [], ◌∷◌, ◌++◌, take, map, Option, Result, Ok, Err, refl, sym, ◌∙◌, ap, subst, IsTrue}
use Rattle.std.proofs.lemmas.List.{append-nil}
use Rattle.io_traits.specs.DiskState.{EachImage, EachMoment, IsHonest}
use Rattle.io_traits.specs.declared.disk.Disk.{Ghosts}
use Rattle.io_traits.proofs.Moments.{join, started, weaken}
use Rattle.log_machine.specs.Scheme.{Scheme, Semantics}
use Rattle.log_machine.specs.Recovers.{Recovers, RecoversEither}
use Rattle.log_session.specs.Edges.{Input, Output}
use Rattle.log_machine.specs.Texts.{Texts, after_row, after_rows}
use Rattle.log_session.specs.Links.{IsOpened, Runs, RecoversFront, RecoversOf, RecoversTaken}
use Rattle.log_session.specs.Sessions.{ended_filing}
use Rattle.log_session.specs.declared.stop.FileStop.{FileStop}
use Rattle.log_session.specs.declared.stop.SessionStop.{SessionStop}
use Rattle.log_session.proofs.Filed.{split_push}
use Rattle.log_session.proofs.Fronts.{behind_front, images_of_files, images_of_runs, moments_of_runs, moments_of_takes}
use Rattle.log_session.proofs.Runs.{after_rows-push, runs-honest}
use Rattle.log_session.specs.Asks.{after_asks, rows_of_asks}
use Rattle.log_session.specs.Planned.{Closes, Planned, until, unopened, unplanned, filed, closed, unclosed, stopped}
use Rattle.log_session.specs.Counted.{Counted, CountedSession, Counts, StopsBehind}
use Rattle.log_session.specs.Counted as counted
use Rattle.log_session.specs.Fronts.{IsEnd, RecoversPlanned}
use Rattle.log_session.proofs.Behind.{after_rows_of_asks}

module _ {D Entry Operation Response Error : Type 0} (disk : Ghosts D) (scheme : Scheme Entry) (semantics : Semantics Entry Operation Response) (only : (d : D) (c : List ℕ) → IsHonest (disk.tells d) → (disk.tells d).image_since (disk.tells d).moment c → (disk.tells d).image c) (texts : Texts Operation Response Error) where
  module _ (once : (file : List ℕ) (one other : List Entry) → Recovers scheme file one → Recovers scheme file other → one ≡ other)
      (here : (d : D) → IsHonest (disk.tells d) → (disk.tells d).image (disk.tells d).reads) where
    -- what was done to a list that was opened, also where a crash before could have left other files
    behind_opening : (P : List Entry → List ℕ → Type 0) → ((h : List Entry) (c : List ℕ) → Recovers scheme c h → P h c)
        → (past list : List Entry) (old at new : D) → IsHonest (disk.tells old) → EachImage (disk.tells old) (λ file. Recovers scheme file past)
        → IsOpened disk scheme list old at → (IsHonest (disk.tells at) → EachMoment (disk.tells at) (disk.tells new) (P list)) → EachMoment (disk.tells old) (disk.tells new) (P past)
    behind_opening P as_it_was past list old at new honest each is later =
        let same : list ≡ past = once (disk.tells old).reads list past (is.recovers honest) (each (disk.tells old).reads (here old honest)) in
        subst (λ (h : List Entry). EachMoment (disk.tells old) (disk.tells new) (P h)) same
        (join (disk.tells old) (disk.tells at) (disk.tells new) (P list)
        (weaken (disk.tells old) (disk.tells at) (λ file. Recovers scheme file list) (P list) (as_it_was list)
        (is.moments honest (subst (λ (h : List Entry). EachImage (disk.tells old) (λ file. Recovers scheme file h)) (sym same) each)))
        (later (subst IsTrue (sym is.honest) honest)))

    -- a list that was opened, and nothing else was done
    opened_alone : (P : List Entry → List ℕ → Type 0) → ((h : List Entry) (c : List ℕ) → Recovers scheme c h → P h c)
        → (past list : List Entry) (old at : D) → IsHonest (disk.tells old) → EachImage (disk.tells old) (λ file. Recovers scheme file past)
        → IsOpened disk scheme list old at → EachMoment (disk.tells old) (disk.tells at) (P past)
    opened_alone P as_it_was past list old at honest each is =
        behind_opening P as_it_was past list old at at honest each is
        (λ also. started (disk.tells at) (P list) (λ c since. as_it_was list c (is.images honest c (only at c also since))))

    module _ (plans : List Entry → List Operation → List ℕ → Type 0) where
      -- rows that were filed, and a closing text behind them
      moments_of_closes : (past : List Entry) (old new : D) (output : Output) (left : List texts.Meaning) (closing : List ℕ) (ended : Result (Unit {0}) FileStop)
          → IsHonest (disk.tells old) → EachImage (disk.tells old) (λ file. Recovers scheme file past)
          → Closes disk scheme semantics texts past old new output left closing ended → EachMoment (disk.tells old) (disk.tells new) (RecoversTaken scheme semantics texts past left)
      moments_of_closes past old new output left closing ended honest each (closed now lines takes wrote) =
          moments_of_takes disk scheme semantics only texts (until lines output) left (Ok tt) past now old new honest each takes
      moments_of_closes past old new output left closing ended honest each (unclosed now lines takes cut) =
          moments_of_takes disk scheme semantics only texts (until lines output) left (Ok tt) past now old new honest each takes
      moments_of_closes past old new output left closing ended honest each (stopped now stop takes) =
          moments_of_takes disk scheme semantics only texts output left (Err stop) past now old new honest each takes

      -- rows that were planned
      pub moments_of_planned : (output : Output) (ended : Result (Unit {0}) SessionStop) (past : List Entry) (old new : D) → IsHonest (disk.tells old) → EachImage (disk.tells old) (λ file. Recovers scheme file past)
          → Planned disk scheme semantics texts plans old new output ended → EachMoment (disk.tells old) (disk.tells new) (RecoversPlanned scheme semantics texts plans past)
      moments_of_planned output ended past old new honest each (unopened error not _) =
          weaken (disk.tells old) (disk.tells new) (λ file. Recovers scheme file past) (RecoversPlanned scheme semantics texts plans past) (λ c r. inl r) (not.moments honest past each)
      moments_of_planned output ended past old new honest each (unplanned list is _) = opened_alone (RecoversPlanned scheme semantics texts plans) (λ h c r. inl r) past list old new honest each is
      moments_of_planned output ended past old new honest each (filed list at operations closing inner is planned closes) =
          behind_opening (RecoversPlanned scheme semantics texts plans) (λ h c r. inl r) past list old at new honest each is
          (λ also. weaken (disk.tells at) (disk.tells new) (RecoversTaken scheme semantics texts list (map texts.said (rows_of_asks operations))) (RecoversPlanned scheme semantics texts plans list)
          (λ c r. inr (operations, closing, planned, r)) (moments_of_closes list at new output (map texts.said (rows_of_asks operations)) closing inner also (is.images honest) closes))

      -- and what those leave that were all filed
      images_of_closes : (past : List Entry) (old new : D) (output : Output) (left : List texts.Meaning) (closing : List ℕ) (ended : Result (Unit {0}) FileStop)
          → ended_filing ended ≡ Ok tt → IsHonest (disk.tells old) → EachImage (disk.tells old) (λ file. Recovers scheme file past)
          → Closes disk scheme semantics texts past old new output left closing ended
          → (rows : List (Result Operation Error)) × (map texts.said rows ≡ left) × EachImage (disk.tells new) (λ file. Recovers scheme file (after_rows semantics past rows))
      images_of_closes past old new output left closing ended well honest each (closed now lines takes wrote) =
          let none : takes.rest ≡ [] = takes.whole refl in (
            takes.rows,
            sym (takes.taken ∙ ap (λ (l : List texts.Meaning). map texts.said takes.rows ++ l) none ∙ append-nil (map texts.said takes.rows)),
            images_of_files disk scheme semantics only texts (until lines output) takes.rows (Ok tt) past old new refl honest each takes.files,
          )
      images_of_closes past old new output left closing ended well honest each (unclosed now lines takes cut) = absurd (let bad : ⊥ = cc in bad)
      images_of_closes past old new output left closing ended well honest each (stopped now stop takes) = absurd (let bad : ⊥ = cc in bad)

      pub images_of_planned : (output : Output) (ended : Result (Unit {0}) SessionStop) (past : List Entry) (old new : D) → ended ≡ Ok tt → IsHonest (disk.tells old) → Recovers scheme (disk.tells old).reads past
          → Planned disk scheme semantics texts plans old new output ended
          → (operations : List Operation) × (closing : List ℕ) × (rows : List (Result Operation Error)) × plans past operations closing × (map texts.said rows ≡ map texts.said (rows_of_asks operations))
          × EachImage (disk.tells new) (λ file. Recovers scheme file (after_rows semantics past rows))
      images_of_planned output ended past old new well honest reads (unopened error not _) = absurd (let bad : ⊥ = cc in bad)
      images_of_planned output ended past old new well honest reads (unplanned list is _) = absurd (let bad : ⊥ = cc in bad)
      images_of_planned output ended past old new well honest reads (filed list at operations closing inner is planned closes) =
          let same : list ≡ past = once (disk.tells old).reads list past (is.recovers honest) reads in
          let (rows, said, images) = images_of_closes list at new output (map texts.said (rows_of_asks operations)) closing inner well (subst IsTrue (sym is.honest) honest) (is.images honest) closes in (
            operations,
            closing,
            rows,
            subst (λ (h : List Entry). plans h operations closing) same planned,
            said,
            subst (λ (h : List Entry). EachImage (disk.tells new) (λ file. Recovers scheme file (after_rows semantics h rows))) same images,
          )

    module _ {Tally : Type 0} (counts : Tally → Response → Tally) (ending : Tally → List ℕ) (start : Tally) where
      module _ (left : List texts.Meaning) where
        -- asks that were answered, and no further row was filed
        answered_alone : (operations : List Operation) (rest : List texts.Meaning) → left ≡ map texts.said (rows_of_asks operations) ++ rest → (past : List Entry) (old last new : D) → IsHonest (disk.tells old)
            → EachImage (disk.tells old) (λ file. Recovers scheme file past) → Runs {Error = Error} disk scheme semantics (rows_of_asks operations) past old last → new ≡ last
            → EachMoment (disk.tells old) (disk.tells new) (RecoversTaken scheme semantics texts past left)
        answered_alone operations rest split past old last new honest each runs same =
            subst (λ (d : D). EachMoment (disk.tells old) (disk.tells d) (RecoversTaken scheme semantics texts past left)) (sym same)
            (weaken (disk.tells old) (disk.tells last) (RecoversFront scheme semantics past (rows_of_asks {Error = Error} operations)) (RecoversTaken scheme semantics texts past left) taken
            (moments_of_runs disk scheme semantics only (rows_of_asks operations) past old last honest each runs))
          where
            taken : (c : List ℕ) → RecoversFront {Error = Error} scheme semantics past (rows_of_asks operations) c → RecoversTaken scheme semantics texts past left c
            taken c (k, r) = let (later, is) = behind_front texts.said k (rows_of_asks operations) rest in (take k (rows_of_asks operations), later, split ∙ is, r)

        -- the turn of an ask behind those that were answered, at which the disk failed
        at_fault : (operations : List Operation) (operation : Operation) (rest : List texts.Meaning) → left ≡ map texts.said (rows_of_asks operations) ++ texts.said (Ok operation) ∷ rest → (past : List Entry) (entry : Entry)
            → after_row {Error = Error} semantics (after_asks semantics past operations) (Ok operation) ≡ entry ∷ after_asks semantics past operations
            → (c : List ℕ) → RecoversEither scheme (after_asks semantics past operations) (entry ∷ after_asks semantics past operations) c → RecoversTaken scheme semantics texts past left c
        at_fault operations operation rest split past entry adds c (inl r) =
            (rows_of_asks operations, texts.said (Ok operation) ∷ rest, split, subst (λ (h : List Entry). Recovers scheme c h) (sym (after_rows_of_asks semantics Error past operations)) r)
        at_fault operations operation rest split past entry adds c (inr r) = (
          rows_of_asks operations ++ Ok operation ∷ [],
          rest,
          split_push texts.said left (texts.said (Ok operation) ∷ rest) rest (rows_of_asks operations) (Ok operation) split refl,
          subst (λ (h : List Entry). Recovers scheme c h)
              (sym (after_rows-push semantics past (rows_of_asks operations) (Ok operation) ∙ ap (λ (h : List Entry). after_row {Error = Error} semantics h (Ok operation)) (after_rows_of_asks semantics Error past operations) ∙ adds)) r,
        )

        -- what came behind asks that were answered
        behind_asks : (operations : List Operation) (rest : List texts.Meaning) (ended : Result (Option Error) FileStop) → left ≡ map texts.said (rows_of_asks operations) ++ rest → (past : List Entry) (old last new : D)
            → IsHonest (disk.tells old) → EachImage (disk.tells old) (λ file. Recovers scheme file past) → Runs {Error = Error} disk scheme semantics (rows_of_asks operations) past old last
            → StopsBehind disk scheme semantics texts (after_asks semantics past operations) last new rest ended → EachMoment (disk.tells old) (disk.tells new) (RecoversTaken scheme semantics texts past left)
        behind_asks operations rest ended split past old last new honest each runs (counted.all same) = answered_alone operations [] split past old last new honest each runs same
        behind_asks operations rest ended split past old last new honest each runs (counted.no_ask error behind same) = answered_alone operations (texts.said (Err error) ∷ behind) split past old last new honest each runs same
        behind_asks operations rest ended split past old last new honest each runs (counted.starved _ same) = answered_alone operations rest split past old last new honest each runs same
        behind_asks operations rest ended split past old last new honest each runs (counted.faulted operation behind undecided fault) =
            join (disk.tells old) (disk.tells last) (disk.tells new) (RecoversTaken scheme semantics texts past left)
            (answered_alone operations (texts.said (Ok operation) ∷ behind) split past old last last honest each runs refl)
            (weaken (disk.tells last) (disk.tells new) (RecoversEither scheme (after_asks semantics past operations) (fault.entry ∷ after_asks semantics past operations)) (RecoversTaken scheme semantics texts past left)
            (at_fault operations operation behind split past fault.entry fault.adds)
            (fault.moments (subst IsTrue (sym (runs-honest semantics disk scheme past old last (rows_of_asks operations) runs)) honest)))

        -- rows that were counted, on a list that was opened
        behind_counts : (past list : List Entry) (old at new : D) (final : Tally) (ended : Result (Option Error) FileStop) → IsHonest (disk.tells old) → EachImage (disk.tells old) (λ file. Recovers scheme file past)
            → IsOpened disk scheme list old at → Counts disk scheme semantics texts counts list at new start final left ended → EachMoment (disk.tells old) (disk.tells new) (RecoversTaken scheme semantics texts past left)
        behind_counts past list old at new final ended honest each is counting =
            behind_opening (λ h. RecoversTaken scheme semantics texts h left) (λ h c r. ([], left, refl, r)) past list old at new honest each is
            (λ also. behind_asks counting.operations counting.rest ended counting.taken list at counting.last new also (is.images honest) counting.runs counting.behind)

        -- the same, whatever came of the opening and of the text
        pub moments_of_counted : (output : Output) (ended : Result (Unit {0}) SessionStop) (past : List Entry) (old new : D) → IsHonest (disk.tells old) → EachImage (disk.tells old) (λ file. Recovers scheme file past)
            → Counted disk scheme semantics texts counts ending start old new output left ended → EachMoment (disk.tells old) (disk.tells new) (RecoversTaken scheme semantics texts past left)
        moments_of_counted output ended past old new honest each (counted.unopened error not _) =
            weaken (disk.tells old) (disk.tells new) (λ file. Recovers scheme file past) (RecoversTaken scheme semantics texts past left) (λ c r. ([], left, refl, r)) (not.moments honest past each)
        moments_of_counted output ended past old new honest each (counted.ended list at final error is counting _) = behind_counts past list old at new final (Ok error) honest each is counting
        moments_of_counted output ended past old new honest each (counted.unwritten list at final error is counting _) = behind_counts past list old at new final (Ok error) honest each is counting
        moments_of_counted output ended past old new honest each (counted.untold list at final error is counting _) = behind_counts past list old at new final (Ok error) honest each is counting
        moments_of_counted output ended past old new honest each (counted.stopped list at final stop is counting _) = behind_counts past list old at new final (Err stop) honest each is counting

        -- what asks leave that were answered
        images : (operations : List Operation) (past : List Entry) (old last new : D) → IsHonest (disk.tells old) → EachImage (disk.tells old) (λ file. Recovers scheme file past)
            → Runs {Error = Error} disk scheme semantics (rows_of_asks operations) past old last → new ≡ last → EachImage (disk.tells new) (λ file. Recovers scheme file (after_asks semantics past operations))
        images operations past old last new honest each runs same =
            subst (λ (d : D). EachImage (disk.tells d) (λ file. Recovers scheme file (after_asks semantics past operations))) (sym same)
            (subst (λ (h : List Entry). EachImage (disk.tells last) (λ file. Recovers scheme file h)) (after_rows_of_asks semantics Error past operations)
            (images_of_runs disk scheme semantics only (rows_of_asks operations) past old last honest each runs))

        -- what came behind asks that ended well
        images_behind : (operations : List Operation) (rest : List texts.Meaning) (error : Option Error) (ended : Result (Option Error) FileStop) → ended ≡ Ok error → (past : List Entry) (old last new : D)
            → IsHonest (disk.tells old) → EachImage (disk.tells old) (λ file. Recovers scheme file past) → Runs {Error = Error} disk scheme semantics (rows_of_asks operations) past old last
            → StopsBehind disk scheme semantics texts (after_asks semantics past operations) last new rest ended
            → IsEnd texts rest × EachImage (disk.tells new) (λ file. Recovers scheme file (after_asks semantics past operations))
        images_behind operations rest error ended well past old last new honest each runs (counted.all same) = (inl refl, images operations past old last new honest each runs same)
        images_behind operations rest error ended well past old last new honest each runs (counted.no_ask why behind same) = (inr (why, behind, refl), images operations past old last new honest each runs same)
        images_behind operations rest error ended well past old last new honest each runs (counted.starved _ same) = absurd (let bad : ⊥ = cc in bad)
        images_behind operations rest error ended well past old last new honest each runs (counted.faulted operation behind undecided fault) = absurd (let bad : ⊥ = cc in bad)

        -- what those leave that ended well
        images_of_counted : (output : Output) (ended : Result (Unit {0}) SessionStop) (past : List Entry) (old new : D) → ended ≡ Ok tt → IsHonest (disk.tells old) → Recovers scheme (disk.tells old).reads past
            → Counted disk scheme semantics texts counts ending start old new output left ended
            → (operations : List Operation) × (rest : List texts.Meaning) × IsEnd texts rest × (left ≡ map texts.said (rows_of_asks operations) ++ rest) × EachImage (disk.tells new) (λ file. Recovers scheme file (after_asks semantics past operations))
        images_of_counted output ended past old new well honest reads (counted.unopened error not _) = absurd (let bad : ⊥ = cc in bad)
        images_of_counted output ended past old new well honest reads (counted.unwritten list at final error is counting _) = absurd (let bad : ⊥ = cc in bad)
        images_of_counted output ended past old new well honest reads (counted.untold list at final error is counting _) = absurd (let bad : ⊥ = cc in bad)
        images_of_counted output ended past old new well honest reads (counted.stopped list at final stop is counting _) = absurd (let bad : ⊥ = cc in bad)
        images_of_counted output ended past old new well honest reads (counted.ended list at final error is counting _) =
            let same : list ≡ past = once (disk.tells old).reads list past (is.recovers honest) reads in
            let (end, each) = images_behind counting.operations counting.rest error (Ok error) refl list at counting.last new (subst IsTrue (sym is.honest) honest) (is.images honest) counting.runs counting.behind in (
              counting.operations,
              counting.rest,
              end,
              counting.taken,
              subst (λ (h : List Entry). EachImage (disk.tells new) (λ file. Recovers scheme file (after_asks semantics h counting.operations))) same each,
            )

      module _ (rows_of : List ℕ → List texts.Meaning) (limit : ℕ) (input : Input) (output : Output) where
        -- the rows of an input, whatever they came to
        pub moments_of_counted_session : (ended : Result (Unit {0}) SessionStop) (past : List Entry) (old new : D) → IsHonest (disk.tells old) → EachImage (disk.tells old) (λ file. Recovers scheme file past)
            → CountedSession disk scheme semantics texts counts ending start rows_of limit old new input output ended → EachMoment (disk.tells old) (disk.tells new) (RecoversOf scheme semantics texts rows_of input past)
        moments_of_counted_session ended past old new honest each (counted.unread stop why same _) =
            subst (λ (d : D). EachMoment (disk.tells old) (disk.tells d) (RecoversOf scheme semantics texts rows_of input past)) (sym same)
            (started (disk.tells old) (RecoversOf scheme semantics texts rows_of input past)
            (λ c since. (rows_of input.before, (λ sincere. refl), ([], rows_of input.before, refl, each c (only old c honest since)))))
        moments_of_counted_session ended past old new honest each (counted.read left _ is are counting) =
            weaken (disk.tells old) (disk.tells new) (RecoversTaken scheme semantics texts past left) (RecoversOf scheme semantics texts rows_of input past)
            (λ c r. (left, are, r)) (moments_of_counted left output ended past old new honest each counting)

        -- and what those leave that ended well
        pub images_of_counted_session : (ended : Result (Unit {0}) SessionStop) (past : List Entry) (old new : D) → ended ≡ Ok tt → IsHonest (disk.tells old) → Recovers scheme (disk.tells old).reads past
            → CountedSession disk scheme semantics texts counts ending start rows_of limit old new input output ended
            → (operations : List Operation) × (rest : List texts.Meaning) × IsEnd texts rest × (IsTrue input.honest → rows_of input.before ≡ map texts.said (rows_of_asks operations) ++ rest)
            × EachImage (disk.tells new) (λ file. Recovers scheme file (after_asks semantics past operations))
        images_of_counted_session ended past old new well honest reads (counted.unread stop why same _) = absurd (let bad : ⊥ = cc in bad)
        images_of_counted_session ended past old new well honest reads (counted.read left _ is are counting) =
            let (operations, rest, end, taken, each) = images_of_counted left output ended past old new well honest reads counting in (operations, rest, end, λ sincere. sym (are sincere) ∙ taken, each)
