-- What the disk's fault leaves in the turn of an ask, where nothing was undecided before.
use Rattle.std.proofs.Common.{◌≡◌, inl, inr, ℕ, ◌+◌, List, ◌∷◌, length, Option, Some, None, Ok, refl, ◌∙◌, ap, subst}
use Rattle.std.specs.Prelude.{IsSome}
use Rattle.io_traits.specs.DiskState.{EachImage, EachMoment, IsHonest, DiskState}
use Rattle.io_traits.specs.declared.disk.Disk.{Ghosts}
use Rattle.io_traits.proofs.Moments.{weaken}
use Rattle.log_journal.specs.Stands.{WithGateOpen}
use Rattle.log_machine.specs.Scheme.{Scheme, Semantics}
use Rattle.log_machine.specs.Recovers.{Recovers, RecoversEither, payloads_of}
use Rattle.log_machine.specs.Kept.{IsSound}
use Rattle.log_machine.specs.Submits.{MayRecover, Submits, with_entry}
use Rattle.log_machine.specs.declared.reply.LogReply.TheVariants.{DiskFault}
use Rattle.log_session.specs.Links.{IsFaulted}
use Rattle.log_session.proofs.Standing.{settled}

-- an entry that is undecided: what each image stands for once its gate byte is set
pending_gate : {Entry : Type 0} (scheme : Scheme Entry) (told : DiskState) (list past : List Entry) (pending : Option Entry) (entry : Entry) → pending ≡ Some entry → list ≡ past → IsSound scheme told list pending
    → EachImage told (WithGateOpen scheme.header (payloads_of scheme.spelling past) (scheme.spelling entry))
pending_gate scheme told list past None entry is same sound = absurd (let bad : ⊥ = cc in bad)
pending_gate {Entry} scheme told list past (Some other) entry is same sound =
    let one : other ≡ entry = cc in
    subst (λ (h : List Entry). EachImage told (WithGateOpen scheme.header (payloads_of scheme.spelling h) (scheme.spelling entry))) same
    (subst (λ (e : Entry). EachImage told (WithGateOpen scheme.header (payloads_of scheme.spelling list) (scheme.spelling e))) one sound.gate_open)

module _ {D Entry Operation Response : Type 0} (Error : Type 0) (disk : Ghosts D) (scheme : Scheme Entry) (semantics : Semantics Entry Operation Response) (past : List Entry) (operation : Operation) (old new : D) (same : (disk.tells new).honest ≡ (disk.tells old).honest) where
  -- where the ask adds this entry
  adds_faulted : (entry : Entry) → semantics.added past operation ≡ Some entry → (undecided : Option ℕ) → ((position : ℕ) → undecided ≡ Some position → position ≡ length past + 1)
      → (IsHonest (disk.tells old) → undecided ≡ None → EachImage (disk.tells new) (λ file. Recovers scheme file past))
      → (IsHonest (disk.tells old) → IsSome undecided → EachImage (disk.tells new) (WithGateOpen scheme.header (payloads_of scheme.spelling past) (scheme.spelling entry)))
      → (IsHonest (disk.tells old) → EachMoment (disk.tells old) (disk.tells new) (MayRecover scheme semantics past None operation))
      → IsFaulted {Error = Error} disk scheme semantics undecided (Ok operation) past old new
  adds_faulted entry adds undecided named decided gate_open moments = record {
    entry = entry;
    adds = ap (λ (o : Option Entry). with_entry o past) adds;
    honest = same;
    named = named;
    moments = λ is. weaken (disk.tells old) (disk.tells new) (MayRecover scheme semantics past None operation) (RecoversEither scheme past (entry ∷ past)) either (moments is);
    decided = decided;
    gate_open = gate_open;
  }
    where
      either : (c : List ℕ) → MayRecover scheme semantics past None operation c → RecoversEither scheme past (entry ∷ past) c
      either c (inl r) = inl r
      either c (inr (inl r)) = inl r
      either c (inr (inr r)) = inr (subst (λ (o : Option Entry). Recovers scheme c (with_entry o past)) adds r)

  -- by the reply and what it leaves
  pub faulted_from : (was : Option Entry) → was ≡ None → (undecided : Option ℕ) (history : List Entry) (pending : Option Entry)
      → Submits semantics past was operation (DiskFault undecided) history pending
      → (IsHonest (disk.tells old) → IsSound scheme (disk.tells new) history pending)
      → (IsHonest (disk.tells old) → EachMoment (disk.tells old) (disk.tells new) (MayRecover scheme semantics past was operation))
      → IsFaulted {Error = Error} disk scheme semantics undecided (Ok operation) past old new
  faulted_from (Some entry) none undecided history pending submit sound moments = absurd (let bad : ⊥ = cc in bad)
  faulted_from None none None history pending submit sound moments = go (semantics.added past operation) refl submit.adds
    where
      go : (o : Option Entry) → semantics.added past operation ≡ o → IsSome o → IsFaulted {Error = Error} disk scheme semantics None (Ok operation) past old new
      go None is some = absurd (let bad : ⊥ = cc in bad)
      go (Some entry) is some = adds_faulted entry is None (λ position bad. absurd (let no : ⊥ = cc in no))
          (λ honest none. settled scheme (disk.tells new) history past pending submit.decided submit.list (sound honest))
          (λ honest bad. absurd (let no : ⊥ = cc in no)) moments
  faulted_from None none (Some position) history pending (inl unsettled) sound moments = absurd (let some = unsettled.some in let bad : ⊥ = cc in bad)
  faulted_from None none (Some position) history pending (inr left) sound moments = go (semantics.added past operation) refl left.adds
    where
      go : (o : Option Entry) → semantics.added past operation ≡ o → IsSome o → IsFaulted {Error = Error} disk scheme semantics (Some position) (Ok operation) past old new
      go None is some = absurd (let bad : ⊥ = cc in bad)
      go (Some entry) is some = adds_faulted entry is (Some position) (λ other named. let at : position ≡ length past + 1 = left.next in cc)
          (λ honest bad. absurd (let no : ⊥ = cc in no))
          (λ honest some. pending_gate scheme (disk.tells new) history past pending entry (left.undecided ∙ is) left.list (sound honest)) moments
