-- What a list leaves on its disk where nothing is undecided.
use Rattle.std.proofs.Common.{◌≡◌, ◌≤◌, List, Option, Some, None, [], refl, sym, subst}
use Rattle.io_traits.specs.DiskState.{EachImage, EachMoment, IsHonest, IsQuiet, DiskState}
use Rattle.io_traits.specs.declared.disk.Disk.{Ghosts}
use Rattle.log_journal.specs.Founded.{UnbornOrEmpty}
use Rattle.log_journal.specs.Stands.{IsUnborn}
use Rattle.log_machine.specs.Scheme.{Scheme}
use Rattle.log_machine.specs.Recovers.{Recovers}
use Rattle.log_machine.specs.Kept.{IsSound}
use Rattle.log_session.specs.Links.{IsOpened}
use Rattle.log_session.specs.Sessions.{IsFounded}

-- each image recovers the list
pub settled : {Entry : Type 0} (scheme : Scheme Entry) (told : DiskState) (list past : List Entry) (pending : Option Entry) → pending ≡ None → list ≡ past → IsSound scheme told list pending → EachImage told (λ file. Recovers scheme file past)
settled {Entry} scheme told list past None is same sound = subst (λ (h : List Entry). EachImage told (λ file. Recovers scheme file h)) same sound
settled scheme told list past (Some entry) is same sound = absurd (let bad : ⊥ = cc in bad)

-- a list and its disk, before a call and after
module _ {D Entry : Type 0} (disk : Ghosts D) (scheme : Scheme Entry) (past : List Entry) (pending : Option Entry) (old new : D) where
  -- the list was opened
  pub opened_from : (disk.tells new).honest ≡ (disk.tells old).honest → scheme.IsLegal past → pending ≡ None
      → (IsHonest (disk.tells old) → Recovers scheme (disk.tells old).reads past) → (IsHonest (disk.tells old) → IsQuiet (disk.tells new))
      → (IsHonest (disk.tells old) → (disk.tells old).moment ≤ (disk.tells new).moment)
      → (IsHonest (disk.tells old) → IsSound scheme (disk.tells new) past pending)
      → (IsHonest (disk.tells old) → (history : List Entry) → EachImage (disk.tells old) (λ file. Recovers scheme file history) → EachMoment (disk.tells old) (disk.tells new) (λ file. Recovers scheme file history))
      → IsOpened disk scheme past old new
  opened_from honest legal decided recovers quiet elapsed sound moments = record {
    honest = honest;
    legal = legal;
    recovers = recovers;
    quiet = quiet;
    later = elapsed;
    images = λ is. settled scheme (disk.tells new) past past pending decided refl (sound is);
    moments = λ is each. moments is past each;
  }

  -- a list was founded, and its disk given back
  pub founded_from : (at : D) → at ≡ new → (disk.tells new).honest ≡ (disk.tells old).honest → pending ≡ None → past ≡ []
      → (IsHonest (disk.tells old) → IsUnborn (disk.tells old).reads) → (IsHonest (disk.tells old) → IsQuiet (disk.tells new))
      → (IsHonest (disk.tells old) → IsSound scheme (disk.tells new) past pending)
      → (IsHonest (disk.tells old) → EachImage (disk.tells old) (UnbornOrEmpty scheme.header) → EachMoment (disk.tells old) (disk.tells new) (UnbornOrEmpty scheme.header))
      → IsFounded disk scheme old at
  founded_from at given honest decided empty unborn quiet sound moments = subst (λ (d : D). IsFounded disk scheme old d) (sym given) (record {
    honest = honest;
    unborn = unborn;
    quiet = quiet;
    images = λ is. settled scheme (disk.tells new) past [] pending decided empty (sound is);
    moments = moments;
  })
