-- What images recover.
use Rattle.std.proofs.Common.{inl, inr, ℕ, List, ◌∷◌}
use Rattle.log_journal.specs.Stands.{StandsFor, BeforeOrWith}
use Rattle.log_machine.specs.Scheme.{Scheme}
use Rattle.log_machine.specs.Recovers.{payloads_of, AreEntries, Recovers, RecoversEither}

-- what is known of a list, beside what files stand for
pub record IsKeepable {Entry : Type 0} (scheme : Scheme Entry) (history : List Entry) : Type 0 where
  pub entries : AreEntries scheme.IsEntry history
  pub legal : scheme.IsLegal history

-- what stood before an entry of a legal list is legal
abbrev pub PastIsLegal : {Entry : Type 0} → Scheme Entry → Type 0
PastIsLegal {Entry} scheme = (past : List Entry) (entry : Entry) → scheme.IsLegal (entry ∷ past) → scheme.IsLegal past

module _ {Entry : Type 0} (scheme : Scheme Entry) where
  pub recovers_from : (h : List Entry) (file : List ℕ) → IsKeepable scheme h → StandsFor scheme.header file (payloads_of scheme.spelling h) → Recovers scheme file h
  recovers_from h file ok stands = record { stands = stands; entries = ok.entries; legal = ok.legal }

  pub keepable_from : (h : List Entry) (file : List ℕ) → Recovers scheme file h → IsKeepable scheme h
  keepable_from h file r = record { entries = r.entries; legal = r.legal }

  -- one entry more
  pub keepable_more : (h : List Entry) (e : Entry) → IsKeepable scheme h → scheme.IsEntry e → scheme.IsLegal (e ∷ h) → IsKeepable scheme (e ∷ h)
  keepable_more h e ok is legal = record { entries = (ok.entries, is); legal = legal }

  pub either_from : (h : List Entry) (e : Entry) (file : List ℕ) → IsKeepable scheme h → IsKeepable scheme (e ∷ h)
      → BeforeOrWith scheme.header (payloads_of scheme.spelling h) (scheme.spelling e) file → RecoversEither scheme h (e ∷ h) file
  either_from h e file ok more (inl before) = inl (recovers_from h file ok before)
  either_from h e file ok more (inr with_it) = inr (recovers_from (e ∷ h) file more with_it)

  pub keepable_either : PastIsLegal scheme → (h : List Entry) (e : Entry) (file : List ℕ) → RecoversEither scheme h (e ∷ h) file → IsKeepable scheme h
  keepable_either past h e file (inl r) = keepable_from h file r
  keepable_either past h e file (inr r) = record { entries = r.entries.0; legal = past h e r.legal }
