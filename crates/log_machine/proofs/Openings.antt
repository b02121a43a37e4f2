-- Opening leaves what stands.
use Rattle.std.proofs.Common.{◌≡◌, List, ℕ, sym, subst}
use Rattle.io_traits.specs.DiskState.{DiskState, EachImage, EachMoment, IsRead}
use Rattle.io_traits.proofs.Moments.{weaken, join, each_moment_of_read}
use Rattle.log_journal.specs.Stands.{Payloads, StandsFor}
use Rattle.log_journal.proofs.Unique.{once}
use Rattle.log_machine.specs.Scheme.{Scheme}
use Rattle.log_machine.specs.Recovers.{payloads_of, Recovers}
use Rattle.log_machine.proofs.Images.{recovers_from, keepable_from}

-- while the disk is only looked at, and then what is behind the closed gate is cut off
pub opening_moments : {Entry : Type 0} (scheme : Scheme Entry) (old mid new : DiskState) (h : List Entry) (k : Payloads)
    → ((c : List ℕ) → old.image_since old.moment c → old.image c) → old.image old.reads
    → IsRead old mid → StandsFor scheme.header mid.reads k → EachImage old (λ file. Recovers scheme file h)
    → (EachImage mid (λ file. StandsFor scheme.header file k) → EachMoment mid new (λ file. StandsFor scheme.header file k)) → EachMoment old new (λ file. Recovers scheme file h)
opening_moments scheme old mid new h k only here read stands each go =
    let first = each old.reads here in
    let same : k ≡ payloads_of scheme.spelling h = once scheme.header old.reads k (payloads_of scheme.spelling h) (subst (λ (file : List ℕ). StandsFor scheme.header file k) read.reads stands) first.stands in
    join old mid new (λ file. Recovers scheme file h) (each_moment_of_read old mid (λ file. Recovers scheme file h) only each read)
    (weaken mid new (λ file. StandsFor scheme.header file k) (λ file. Recovers scheme file h)
    (λ c now. recovers_from scheme h c (keepable_from scheme h old.reads first) (subst (λ (ps : Payloads). StandsFor scheme.header c ps) same now))
    (go (λ c now. subst (λ (ps : Payloads). StandsFor scheme.header c ps) (sym same) (each c (read.images c now)).stands)))
