-- What each image recovers at each moment of a session.
use Rattle.std.proofs.Common.{◌≡◌, inl, inr, ℕ, zero, suc, List, [], ◌∷◌, ◌++◌, take, map, Result, Ok, Err, refl, sym, ◌∙◌, ap, subst, IsTrue}
use Rattle.std.proofs.lemmas.List.{append-nil}
use Rattle.io_traits.specs.DiskState.{EachImage, EachMoment, IsHonest}
use Rattle.io_traits.specs.declared.disk.Disk.{Ghosts}
use Rattle.io_traits.proofs.Moments.{join, started, weaken}
use Rattle.log_machine.specs.Scheme.{Scheme, Semantics}
use Rattle.log_machine.specs.Recovers.{Recovers, RecoversEither}
use Rattle.log_session.specs.Edges.{Input, Output}
use Rattle.log_machine.specs.Texts.{Texts, after_row, after_rows}
use Rattle.log_session.specs.Links.{Runs, begun, answered, RecoversFront, RecoversOf, RecoversTaken}
use Rattle.log_session.specs.Sessions.{Files, Takes, Opens, Session, all, unwritten, faulted, starved, unopened, opened, unread, read}
use Rattle.log_session.specs.declared.stop.FileStop.{FileStop}
use Rattle.log_session.specs.declared.stop.SessionStop.{SessionStop}
use Rattle.log_session.proofs.Runs.{after_rows-push, runs-honest}

-- a front of a front, and a front itself
front_of_front : {A : Type 0} (k : ℕ) (a b : List A) → (j : ℕ) × (take j (a ++ b) ≡ take k a)
front_of_front zero a b = (0, refl)
front_of_front (suc k) [] b = (0, refl)
front_of_front (suc k) (x ∷ a) b = let (j, is) = front_of_front k a b in (suc j, ap (λ (l : List _). x ∷ l) is)

front_whole : {A : Type 0} (a b : List A) → (j : ℕ) × (take j (a ++ b) ≡ a)
front_whole [] b = (0, refl)
front_whole (x ∷ a) b = let (j, is) = front_whole a b in (suc j, ap (λ (l : List _). x ∷ l) is)

-- what is behind a front, where the list is told by what its items say
pub behind_front : {A B : Type 0} (f : A → B) (k : ℕ) (a : List A) (rest : List B) → (later : List B) × (map f a ++ rest ≡ map f (take k a) ++ later)
behind_front f zero a rest = (map f a ++ rest, refl)
behind_front f (suc k) [] rest = (rest, refl)
behind_front f (suc k) (x ∷ a) rest = let (later, is) = behind_front f k a rest in (later, ap (λ (l : List _). f x ∷ l) is)

module _ {D Entry Operation Response Error : Type 0} (disk : Ghosts D) (scheme : Scheme Entry) (semantics : Semantics Entry Operation Response) (only : (d : D) (c : List ℕ) → IsHonest (disk.tells d) → (disk.tells d).image_since (disk.tells d).moment c → (disk.tells d).image c) where
  more : (past : List Entry) (a b : List (Result Operation Error)) (c : List ℕ) → RecoversFront scheme semantics past a c → RecoversFront scheme semantics past (a ++ b) c
  more past a b c (k, r) = let (j, is) = front_of_front k a b in (j, subst (λ (l : List (Result Operation Error)). Recovers scheme c (after_rows semantics past l)) (sym is) r)

  whole : (past : List Entry) (a b : List (Result Operation Error)) (c : List ℕ) → Recovers scheme c (after_rows semantics past a) → RecoversFront scheme semantics past (a ++ b) c
  whole past a b c r = let (j, is) = front_whole a b in (j, subst (λ (l : List (Result Operation Error)). Recovers scheme c (after_rows semantics past l)) (sym is) r)

  first : (past : List Entry) (row : Result Operation Error) (rows : List (Result Operation Error)) (c : List ℕ) → RecoversEither scheme past (after_row semantics past row) c → RecoversFront scheme semantics past (row ∷ rows) c
  first past row rows c (inl r) = (0, r)
  first past row rows c (inr r) = (1, r)

  -- rows that were answered
  pub moments_of_runs : (rows : List (Result Operation Error)) (past : List Entry) (old new : D) → IsHonest (disk.tells old) → EachImage (disk.tells old) (λ file. Recovers scheme file past)
      → Runs disk scheme semantics rows past old new → EachMoment (disk.tells old) (disk.tells new) (RecoversFront scheme semantics past rows)
  moments_of_runs rows past old new honest each (begun _ _) = started (disk.tells old) (RecoversFront scheme semantics past rows) (λ c since. (0, each c (only old c honest since)))
  moments_of_runs rows past old new honest each (answered row rest _ _ mid _ link later) =
      join (disk.tells old) (disk.tells mid) (disk.tells new) (RecoversFront scheme semantics past (row ∷ rest))
      (weaken (disk.tells old) (disk.tells mid) (RecoversEither scheme past (after_row semantics past row)) (RecoversFront scheme semantics past (row ∷ rest)) (first past row rest) (link.moments honest))
      (weaken (disk.tells mid) (disk.tells new) (RecoversFront scheme semantics (after_row semantics past row) rest) (RecoversFront scheme semantics past (row ∷ rest)) (λ c r. (suc r.0, r.1))
      (moments_of_runs rest (after_row semantics past row) mid new (subst IsTrue (sym link.honest) honest) (link.images honest) later))

  -- and what their last state leaves
  pub images_of_runs : (rows : List (Result Operation Error)) (past : List Entry) (old new : D) → IsHonest (disk.tells old) → EachImage (disk.tells old) (λ file. Recovers scheme file past)
      → Runs disk scheme semantics rows past old new → EachImage (disk.tells new) (λ file. Recovers scheme file (after_rows semantics past rows))
  images_of_runs rows past old new honest each (begun _ _) = each
  images_of_runs rows past old new honest each (answered row rest _ _ mid _ link later) =
      images_of_runs rest (after_row semantics past row) mid new (subst IsTrue (sym link.honest) honest) (link.images honest) later

  -- the state behind a front of them
  pub runs_split : (front rest : List (Result Operation Error)) (past : List Entry) (old new : D) → IsHonest (disk.tells old) → EachImage (disk.tells old) (λ file. Recovers scheme file past)
      → Runs disk scheme semantics (front ++ rest) past old new
      → (mid : D) × Runs disk scheme semantics front past old mid × Runs disk scheme semantics rest (after_rows semantics past front) mid new
      × EachMoment (disk.tells mid) (disk.tells new) (RecoversFront scheme semantics (after_rows semantics past front) rest)
  runs_split [] rest past old new honest each runs = (old, begun past old, runs, moments_of_runs rest past old new honest each runs)
  runs_split (row ∷ front) rest past old new honest each (answered _ _ _ _ at _ link later) =
      let (mid, before, behind, moments) = runs_split front rest (after_row semantics past row) at new (subst IsTrue (sym link.honest) honest) (link.images honest) later in
      (mid, answered row front past old at mid link before, behind, moments)

  module _ (texts : Texts Operation Response Error) (output : Output) where
    -- rows that were filed, or those up to a stop
    moments_of_files : (rows : List (Result Operation Error)) (ended : Result (Unit {0}) FileStop) (past : List Entry) (old new : D) → IsHonest (disk.tells old) → EachImage (disk.tells old) (λ file. Recovers scheme file past)
        → Files disk scheme semantics texts past old new output rows ended → EachMoment (disk.tells old) (disk.tells new) (RecoversFront scheme semantics past rows)
    moments_of_files rows ended past old new honest each (all _ runs _) = moments_of_runs rows past old new honest each runs
    moments_of_files rows ended past old new honest each (unwritten front row runs _) = moments_of_runs (front ++ row ∷ []) past old new honest each runs
    moments_of_files rows ended past old new honest each (starved _ runs _) = moments_of_runs rows past old new honest each runs
    moments_of_files rows ended past old new honest each (faulted front row last undecided runs fault _) =
        join (disk.tells old) (disk.tells last) (disk.tells new) (RecoversFront scheme semantics past (front ++ row ∷ []))
        (weaken (disk.tells old) (disk.tells last) (RecoversFront scheme semantics past front) (RecoversFront scheme semantics past (front ++ row ∷ [])) (more past front (row ∷ []))
        (moments_of_runs front past old last honest each runs))
        (weaken (disk.tells last) (disk.tells new) (RecoversEither scheme (after_rows semantics past front) (fault.entry ∷ after_rows semantics past front)) (RecoversFront scheme semantics past (front ++ row ∷ [])) at_fault
        (fault.moments (subst IsTrue (sym (runs-honest semantics disk scheme past old last front runs)) honest)))
      where
        at_fault : (c : List ℕ) → RecoversEither scheme (after_rows semantics past front) (fault.entry ∷ after_rows semantics past front) c → RecoversFront scheme semantics past (front ++ row ∷ []) c
        at_fault c (inl r) = whole past front (row ∷ []) c r
        at_fault c (inr r) =
            subst (λ (l : List (Result Operation Error)). RecoversFront scheme semantics past l c) (append-nil (front ++ row ∷ []))
            (whole past (front ++ row ∷ []) [] c (subst (λ (h : List Entry). Recovers scheme c h) (sym (after_rows-push semantics past front row ∙ fault.adds)) r))

    -- rows that were taken from those that were left
    pub moments_of_takes : (left : List texts.Meaning) (ended : Result (Unit {0}) FileStop) (past now : List Entry) (old new : D) → IsHonest (disk.tells old) → EachImage (disk.tells old) (λ file. Recovers scheme file past)
        → Takes disk scheme semantics texts past now old new output left ended → EachMoment (disk.tells old) (disk.tells new) (RecoversTaken scheme semantics texts past left)
    moments_of_takes left ended past now old new honest each takes =
        weaken (disk.tells old) (disk.tells new) (RecoversFront scheme semantics past takes.rows) (RecoversTaken scheme semantics texts past left) taken
        (moments_of_files takes.rows ended past old new honest each takes.files)
      where
        taken : (c : List ℕ) → RecoversFront scheme semantics past takes.rows c → RecoversTaken scheme semantics texts past left c
        taken c (k, r) = let (later, is) = behind_front texts.said k takes.rows takes.rest in (take k takes.rows, later, takes.taken ∙ is, r)

    -- what rows leave that were all filed
    pub images_of_files : (rows : List (Result Operation Error)) (ended : Result (Unit {0}) FileStop) (past : List Entry) (old new : D) → ended ≡ Ok tt → IsHonest (disk.tells old) → EachImage (disk.tells old) (λ file. Recovers scheme file past)
        → Files disk scheme semantics texts past old new output rows ended → EachImage (disk.tells new) (λ file. Recovers scheme file (after_rows semantics past rows))
    images_of_files rows ended past old new well honest each (all _ runs _) = images_of_runs rows past old new honest each runs
    images_of_files rows ended past old new well honest each (unwritten front row runs _) = absurd (let bad : ⊥ = cc in bad)
    images_of_files rows ended past old new well honest each (starved front runs _) = absurd (let bad : ⊥ = cc in bad)
    images_of_files rows ended past old new well honest each (faulted front row last undecided runs fault _) = absurd (let bad : ⊥ = cc in bad)

    -- where a file recovers one list at most
    module _ (once : (file : List ℕ) (one other : List Entry) → Recovers scheme file one → Recovers scheme file other → one ≡ other) where
      -- a list that was opened, or not, whatever came of its rows
      moments_of_opens : ((d : D) → IsHonest (disk.tells d) → (disk.tells d).image (disk.tells d).reads)
          → (left : List texts.Meaning) (ended : Result (Unit {0}) SessionStop) (past : List Entry) (old new : D) → IsHonest (disk.tells old) → EachImage (disk.tells old) (λ file. Recovers scheme file past)
          → Opens disk scheme semantics texts old new output left ended → EachMoment (disk.tells old) (disk.tells new) (RecoversTaken scheme semantics texts past left)
      moments_of_opens here left ended past old new honest each (unopened error not _) =
          weaken (disk.tells old) (disk.tells new) (λ file. Recovers scheme file past) (RecoversTaken scheme semantics texts past left) (λ c r. ([], left, refl, r)) (not.moments honest past each)
      moments_of_opens here left ended past old new honest each (opened list now at filing is takes) =
          let same : list ≡ past = once (disk.tells old).reads list past (is.recovers honest) (each (disk.tells old).reads (here old honest)) in
          subst (λ (h : List Entry). EachMoment (disk.tells old) (disk.tells new) (RecoversTaken scheme semantics texts h left)) same
          (join (disk.tells old) (disk.tells at) (disk.tells new) (RecoversTaken scheme semantics texts list left)
          (weaken (disk.tells old) (disk.tells at) (λ file. Recovers scheme file list) (RecoversTaken scheme semantics texts list left) (λ c r. ([], left, refl, r))
          (is.moments honest (subst (λ (h : List Entry). EachImage (disk.tells old) (λ file. Recovers scheme file h)) (sym same) each)))
          (moments_of_takes left filing list now at new (subst IsTrue (sym is.honest) honest) (is.images honest) takes))

      -- what a list leaves that was opened, and whose rows were all filed
      images_of_opens : (left : List texts.Meaning) (ended : Result (Unit {0}) SessionStop) (past : List Entry) (old new : D) → ended ≡ Ok tt → IsHonest (disk.tells old) → Recovers scheme (disk.tells old).reads past
          → Opens disk scheme semantics texts old new output left ended
          → (rows : List (Result Operation Error)) × (map texts.said rows ≡ left) × EachImage (disk.tells new) (λ file. Recovers scheme file (after_rows semantics past rows))
      images_of_opens left ended past old new well honest reads (unopened error not _) = absurd (let bad : ⊥ = cc in bad)
      images_of_opens left ended past old new well honest reads (opened list now at (Err stop) is takes) = absurd (let bad : ⊥ = cc in bad)
      images_of_opens left ended past old new well honest reads (opened list now at (Ok done) is takes) =
          let none : takes.rest ≡ [] = takes.whole refl in (
            takes.rows,
            sym (takes.taken ∙ ap (λ (l : List texts.Meaning). map texts.said takes.rows ++ l) none ∙ append-nil (map texts.said takes.rows)),
            subst (λ (h : List Entry). EachImage (disk.tells new) (λ file. Recovers scheme file (after_rows semantics h takes.rows))) (once (disk.tells old).reads list past (is.recovers honest) reads)
                (images_of_files takes.rows (Ok done) list at new refl (subst IsTrue (sym is.honest) honest) (is.images honest) takes.files),
          )

      module _ (rows_of : List ℕ → List texts.Meaning) (limit : ℕ) (input : Input) where
        -- a session, whatever it came to
        pub moments_of_session : ((d : D) → IsHonest (disk.tells d) → (disk.tells d).image (disk.tells d).reads)
            → (ended : Result (Unit {0}) SessionStop) (past : List Entry) (old new : D) → IsHonest (disk.tells old) → EachImage (disk.tells old) (λ file. Recovers scheme file past)
            → Session disk scheme semantics texts rows_of limit old new input output ended → EachMoment (disk.tells old) (disk.tells new) (RecoversOf scheme semantics texts rows_of input past)
        moments_of_session here ended past old new honest each (unread stop why same _) =
            subst (λ (d : D). EachMoment (disk.tells old) (disk.tells d) (RecoversOf scheme semantics texts rows_of input past)) (sym same)
            (started (disk.tells old) (RecoversOf scheme semantics texts rows_of input past)
            (λ c since. (rows_of input.before, (λ sincere. refl), ([], rows_of input.before, refl, each c (only old c honest since)))))
        moments_of_session here ended past old new honest each (read left _ is are opens) =
            weaken (disk.tells old) (disk.tells new) (RecoversTaken scheme semantics texts past left) (RecoversOf scheme semantics texts rows_of input past)
            (λ c r. (left, are, r)) (moments_of_opens here left ended past old new honest each opens)

        -- and what one leaves that ended well
        pub images_of_session : (ended : Result (Unit {0}) SessionStop) (past : List Entry) (old new : D) → ended ≡ Ok tt → IsHonest (disk.tells old) → Recovers scheme (disk.tells old).reads past
            → Session disk scheme semantics texts rows_of limit old new input output ended
            → (rows : List (Result Operation Error)) × (IsTrue input.honest → map texts.said rows ≡ rows_of input.before) × EachImage (disk.tells new) (λ file. Recovers scheme file (after_rows semantics past rows))
        images_of_session ended past old new well honest reads (unread stop why same _) = absurd (let bad : ⊥ = cc in bad)
        images_of_session ended past old new well honest reads (read left _ is are opens) =
            let (rows, said, each) = images_of_opens left ended past old new well honest reads opens in (rows, λ sincere. said ∙ are sincere, each)
