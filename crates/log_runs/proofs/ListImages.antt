-- What each image of the disk recovers at each moment of a command over a list, and behind it.
use Rattle.std.proofs.Common.{◌≡◌, ⊎_elim, ℕ, List, [], Result, Ok, Err, subst, refl, sym}
use Rattle.std.specs.Prelude.{IfErr, length, Some}
use Rattle.io_traits.specs.DiskState.{EachImage, EachMoment, IsHonest}
use Rattle.io_traits.specs.declared.disk.Disk.{Ghosts}
use Rattle.io_traits.proofs.Moments.{each_moment_of_read, started}
use Rattle.log_journal.specs.Stands.{IsUnborn}
use Rattle.log_journal.proofs.Unique.{born, not_unborn}
use Rattle.log_machine.specs.Recovers.{Recovers, payloads_of}
use Rattle.log_machine.specs.Scheme.{Semantics, Scheme}
use Rattle.log_machine.specs.Texts.{Texts}
use Rattle.log_session.specs.Edges.{Input, Output}
use Rattle.log_session.specs.Sessions.{FoundSession, founded, unsaid, refused}
use Rattle.log_session.specs.declared.stop.FoundStop.{FoundStop}
use Rattle.log_session.specs.declared.stop.SessionStop.{SessionStop}
use Rattle.log_session.proofs.Fronts.{images_of_session, moments_of_session}
use Rattle.log_runs.specs.Lists.{CanBeDone, DoesList, MayRecoverList, StandsList, StoodBefore, filing, founding}
use Rattle.log_runs.specs.Statuses.{ended_file, ended_found, status_of}
use Rattle.log_runs.specs.declared.list.ListCommand.{ListCommand}
use Rattle.log_runs.specs.declared.list.ListCommand.TheVariants.{Found, File}
use Rattle.log_runs.specs.declared.stop.RunStop.{RunStop}
use Rattle.log_runs.proofs.Excused.{IsExcused, founded_by, session_by}

module _ {D Entry : Type 0} (disk : Ghosts D) (scheme : Scheme Entry)
    (only : (d : D) (c : List ℕ) → IsHonest (disk.tells d) → (disk.tells d).image_since (disk.tells d).moment c → (disk.tells d).image c)
    (here : (d : D) → IsHonest (disk.tells d) → (disk.tells d).image (disk.tells d).reads) where
  -- each image recovers the list before
  abbrev Each : D → List Entry → Type 0
  Each at past = EachImage (disk.tells at) (λ file. Recovers scheme file past)

  -- where no call was made
  pub stays : (P : List ℕ → Type 0) (old new : D) → IsHonest (disk.tells old) → EachImage (disk.tells old) P → new ≡ old → EachMoment (disk.tells old) (disk.tells new) P
  stays P old new honest each same =
      subst (λ (d : D). EachMoment (disk.tells old) (disk.tells d) P) (sym same)
      (started (disk.tells old) P (λ c since. each c (only old c honest since)))

  -- a disk whose images recover a list isn't unborn
  pub is_born : (old : D) (past : List Entry) → IsHonest (disk.tells old) → Each old past → IsUnborn (disk.tells old).reads → ⊥
  is_born old past honest each =
      not_unborn scheme.header (disk.tells old).reads (born scheme.header (disk.tells old).reads (payloads_of scheme.spelling past) (each (disk.tells old).reads (here old honest)).stands)

  -- a founding there only looks
  pub moments_of_found : (old new : D) (line : List ℕ) (output : Output) (ended : Result Unit FoundStop) (past : List Entry) → IsHonest (disk.tells old) → Each old past
      → FoundSession disk scheme old new line output ended → EachMoment (disk.tells old) (disk.tells new) (λ file. Recovers scheme file past)
  moments_of_found old new line output ended past honest each (founded is wrote) = absurd (is_born old past honest each (is.unborn honest))
  moments_of_found old new line output ended past honest each (unsaid is wrote) = absurd (is_born old past honest each (is.unborn honest))
  moments_of_found old new line output ended past honest each (refused fault n same) =
      ⊎_elim (λ unborn. absurd (is_born old past honest each unborn))
      (λ looked. each_moment_of_read (disk.tells old) (disk.tells new) (λ file. Recovers scheme file past) (λ c since. only old c honest since) each looked)
      (n.untouched honest)

  pub stands_of_found : (old new : D) (line : List ℕ) (output : Output) (ended : Result Unit FoundStop) → IsHonest (disk.tells old)
      → FoundSession disk scheme old new line output ended → ended_found ended ≡ Ok tt → Each new []
  stands_of_found old new line output ended honest (founded is wrote) well = is.images honest
  stands_of_found old new line output ended honest (unsaid is wrote) well = absurd (let bad : ⊥ = cc in bad)
  stands_of_found old new line output ended honest (refused fault n same) well = absurd (let bad : ⊥ = cc in bad)

  session_done : (ended : Result Unit SessionStop) → ended_file ended ≡ Ok tt → ended ≡ Ok tt
  session_done (Ok done) is = refl
  session_done (Err stop) is = absurd (let bad : ⊥ = cc in bad)

  module _ {Operation Response Error : Type 0} (semantics : Semantics Entry Operation Response) (texts : Texts Operation Response Error) (rows_of : List ℕ → List texts.Meaning)
      (once : (file : List ℕ) (one other : List Entry) → Recovers scheme file one → Recovers scheme file other → one ≡ other) (input : Input) where
    -- a file that recovers the list before a command is one of those that may be at a moment of it
    pub before_rows : (command : ListCommand) (past : List Entry) (file : List ℕ) → Recovers scheme file past → MayRecoverList scheme semantics texts rows_of (Some command) input past file
    before_rows Found past file r = r
    before_rows File past file r = (rows_of input.before, λ honest. refl, ([], rows_of input.before, refl, r))

    pub list_moments : (old new : D) (output : Output) (command : ListCommand) (ended : Result Unit RunStop) (past : List Entry) → DoesList disk scheme semantics texts rows_of old new input output command ended
        → IsHonest (disk.tells old) → Each old past → EachMoment (disk.tells old) (disk.tells new) (MayRecoverList scheme semantics texts rows_of (Some command) input past)
    list_moments old new output command ended past (founding inner session) honest each = moments_of_found old new _ output inner past honest each session
    list_moments old new output command ended past (filing inner session) honest each =
        moments_of_session disk scheme semantics only texts output once rows_of 16777216 input here inner past old new honest each session

    pub list_stands : (old new : D) (output : Output) (command : ListCommand) (ended : Result Unit RunStop) (past : List Entry) → DoesList disk scheme semantics texts rows_of old new input output command ended
        → ended ≡ Ok tt → IsHonest (disk.tells old) → StoodBefore scheme command (disk.tells old).reads past → StandsList scheme semantics texts rows_of command input past (disk.tells new)
    list_stands old new output command ended past (founding inner session) well honest stood = stands_of_found old new _ output inner honest session well
    list_stands old new output command ended past (filing inner session) well honest stood =
        images_of_session disk scheme semantics only texts output once rows_of 16777216 input inner past old new (session_done inner well) honest stood session

    -- a command that can be done
    pub list_excused : (old new : D) (output : Output) (command : ListCommand) (ended : Result Unit RunStop) → DoesList disk scheme semantics texts rows_of old new input output command ended
        → CanBeDone scheme command input.honest (length input.before) (disk.tells old) → IfErr ended (λ stop. IsExcused (status_of stop))
    list_excused old new output command ended (founding inner session) can = founded_by disk scheme old new _ output inner session can.0 can.1
    list_excused old new output command ended (filing inner session) can =
        session_by disk scheme old new can.1.0 can.1.1 can.1.2 semantics texts output rows_of 16777216 input inner session can.0.0 can.0.1

    -- the same of the command that the words say
    pub stands_by : (old new : D) (output : Output) (command it : ListCommand) (ended : Result Unit RunStop) (past : List Entry) → Some command ≡ Some it → DoesList disk scheme semantics texts rows_of old new input output command ended
        → ended ≡ Ok tt → IsHonest (disk.tells old) → StoodBefore scheme it (disk.tells old).reads past → StandsList scheme semantics texts rows_of it input past (disk.tells new)
    stands_by old new output command it ended past is does well honest stood =
        let same : command ≡ it = cc in
        subst (λ (k : ListCommand). StandsList scheme semantics texts rows_of k input past (disk.tells new)) same
        (list_stands old new output command ended past does well honest (subst (λ (k : ListCommand). StoodBefore scheme k (disk.tells old).reads past) (sym same) stood))

    pub excused_by : (old new : D) (output : Output) (command it : ListCommand) (ended : Result Unit RunStop) → Some command ≡ Some it → DoesList disk scheme semantics texts rows_of old new input output command ended
        → CanBeDone scheme it input.honest (length input.before) (disk.tells old) → IfErr ended (λ stop. IsExcused (status_of stop))
    excused_by old new output command it ended is does can =
        let same : command ≡ it = cc in
        list_excused old new output command ended does (subst (λ (k : ListCommand). CanBeDone scheme k input.honest (length input.before) (disk.tells old)) (sym same) can)
