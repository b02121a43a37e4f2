-- A filing is known by its copy.
use Rattle.std.proofs.Common.{◌≡◌, true, Option, Some, None, refl, sym, ap, ◌∙◌}
use Rattle.std.specs.Prelude.{option_map}
use Rattle.std.proofs.lemmas.Bool.{and_from, and_parts}
use Rattle.aid_filings.proofs.SameFiling.{tells_filing}
use Rattle.aid_filings.specs.declared.filing.Filing.{Filing}
use Rattle.aid_filings.specs.declared.filing.What.{What}
use Rattle.aid_filings.specs.declared.filing.What.TheVariants.{Book}
use Rattle.aid_filings.specs.declared.reply.Operation.{Operation}
use Rattle.aid_filings.specs.declared.reply.Operation.TheVariants.{File, Quote, Standing}
use Rattle.office_log.specs.Submits.{asked as filing_asked, filing_asked as plainly_asked}
use Rattle.office_history.specs.Past.{same_filing}
use Rattle.log_stamps.specs.Entries.{with_stamp}
use Rattle.log_stamps.specs.declared.entry.StampedOperation.{StampedOperation}
use Rattle.log_stamps.specs.declared.entry.StampedEntry.{StampedEntry}
use Rattle.aid_stamps.proofs.Same.{tells_stamp}
use Rattle.aid_stamps.specs.contracts.stamp.StampPartialEq.TheImpl.{eq-value as stamp_eq}
use Rattle.run_office.specs.Copies.{kept_ask, kept_filing, kept_stamped, same_stamped}

pub stamped_tells : (one other : StampedEntry Filing) → same_stamped one other ≡ true → one ≡ other
stamped_tells one other is =
    let (files, stamps) = and_parts (same_filing one.entry other.entry) (stamp_eq.it one.stamp other.stamp) is in
    let p = tells_filing.same one.entry other.entry files in
    let q = tells_stamp.same one.stamp other.stamp stamps in
    λ i. record { entry = p i; stamp = q i }

pub stamped_itself : (filing : StampedEntry Filing) → same_stamped filing filing ≡ true
stamped_itself filing = and_from (same_filing filing.entry filing.entry) (stamp_eq.it filing.stamp filing.stamp) (tells_filing.told filing.entry)
    (tells_stamp.told filing.stamp)

kept_whole : (filing f : Filing) (what : What) → kept_filing filing what ≡ Some f → Some filing ≡ Some f
kept_whole filing f (Book book) is = absurd (let bad : ⊥ = cc in bad)
kept_whole filing f _ is = is

plainly_kept : (operation : Operation) (f : Filing) → kept_ask operation ≡ Some f → plainly_asked operation ≡ Some f
plainly_kept (File filing) f is = kept_whole filing f filing.what is
plainly_kept (Quote school student year term) f is = absurd (let bad : ⊥ = cc in bad)
plainly_kept (Standing student year) f is = absurd (let bad : ⊥ = cc in bad)

-- what is copied of an ask is what the ask may add
pub stamped_owned : (operation : StampedOperation Operation) (f : StampedEntry Filing) → kept_stamped operation ≡ Some f → filing_asked operation ≡ Some f
stamped_owned operation f is = go (kept_ask operation.operation) refl is
  where
    go : (o : Option Filing) → kept_ask operation.operation ≡ o → option_map (with_stamp operation.stamp) o ≡ Some f → filing_asked operation ≡ Some f
    go None kept same = absurd (let bad : ⊥ = cc in bad)
    go (Some g) kept same = ap (option_map (with_stamp operation.stamp)) (plainly_kept operation.operation g kept) ∙ same

plain_file : (operation : Operation) (f : Filing) → plainly_asked operation ≡ Some f → operation ≡ File f
plain_file (File filing) f is = let same : filing ≡ f = cc in ap (λ (g : Filing). File g) same
plain_file (Quote school student year term) f is = absurd (let bad : ⊥ = cc in bad)
plain_file (Standing student year) f is = absurd (let bad : ⊥ = cc in bad)

-- the ask that files this
abbrev file_under : StampedEntry Filing → StampedOperation Operation
file_under f = record { operation = File f.entry; stamp = f.stamp }

file_of : (operation : StampedOperation Operation) (f : StampedEntry Filing) → filing_asked operation ≡ Some f → operation ≡ file_under f
file_of operation f is = go (plainly_asked operation.operation) refl is
  where
    go : (o : Option Filing) → plainly_asked operation.operation ≡ o → option_map (with_stamp operation.stamp) o ≡ Some f → operation ≡ file_under f
    go None operations same = absurd (let bad : ⊥ = cc in bad)
    go (Some g) operations same =
        let one : with_stamp operation.stamp g ≡ f = cc in
        let file : operation.operation ≡ File f.entry = plain_file operation.operation g operations ∙ ap (λ (e : StampedEntry Filing). File e.entry) one in
        λ i. record { operation = file i; stamp = (one i).stamp }

-- of asks that may add one filing either all are copied or none
pub stamped_alike : (one other : StampedOperation Operation) (f : StampedEntry Filing) → filing_asked one ≡ Some f → filing_asked other ≡ Some f
    → kept_stamped one ≡ kept_stamped other
stamped_alike one other f first second = ap kept_stamped (file_of one f first ∙ sym (file_of other f second))
