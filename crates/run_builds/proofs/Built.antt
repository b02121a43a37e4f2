-- A target that was built of entries recovers them.
use Rattle.std.proofs.Common.{◌≡◌, ◌<◌, ◌^◌, arith, inl, inr, ◌⊎◌, ⊎_elim, ℕ, suc, List, [], ◌∷◌, ◌++◌, length, map, reverse, refl, sym, ◌∙◌, ap, subst, Ok, Err}
use Rattle.std.proofs.lemmas.List.{length-reverse, map-append, reverse-append, reverse-reverse}
use Rattle.std.specs.List.{AllByRecursion}
use Rattle.aid_filings.specs.declared.filing.Filing.{Filing}
use Rattle.io_traits.proofs.Moments.{weaken}
use Rattle.io_traits.specs.DiskState.{DiskState, EachImage, EachMoment, IsHonest, IsRead}
use Rattle.io_traits.specs.declared.disk.Disk.{Ghosts}
use Rattle.log_builds.specs.Built.{IsNoJournal, IsWhole, NoneOrWhole}
use Rattle.log_journal.specs.Head.{IsBorn, IsForeign, IsOld}
use Rattle.log_journal.specs.Stands.{IsUnborn, Payloads, StandsFor}
use Rattle.log_journal.specs.declared.founding.FoundError.{FoundError}
use Rattle.log_journal.specs.declared.founding.FoundError.TheVariants as target
use Rattle.log_journal.specs.declared.header.Header.{Header}
use Rattle.log_machine.specs.Recovers.{AreEntries, payloads_of}
use Rattle.office_log.specs.Recovers.{Recovers}
use Rattle.office_log.specs.Scheme.{office_header, office_scheme}
use Rattle.office_history.specs.Answer.{IsLegal}
use Rattle.run_builds.specs.Targets.{Builds, NoneOrAll, built, not_built, under_plain}
use Rattle.run_builds.specs.declared.ending.BuildFault.TheVariants.{Target}
use Rattle.log_stamps.specs.Entries.{entries, first_stamp, later_stamps, stamped, stamps_of, with_stamp}
use Rattle.log_stamps.specs.StampedLaws.{entries-stamped}
use Rattle.log_stamps.specs.declared.entry.StampedEntry.{StampedEntry}
use Rattle.aid_stamps.specs.Stamps.{plain_stamp}
use Rattle.aid_stamps.specs.declared.stamp.Stamp.{Stamp}

-- ---- a list that is read newest first, and the same list the oldest first
module _ {Entry : Type 0} (spelling : Entry → List ℕ) where
  payloads_of-push : (past : List Entry) (entry : Entry) → payloads_of spelling (past ++ entry ∷ []) ≡ spelling entry ∷ payloads_of spelling past
  payloads_of-push [] entry = refl
  payloads_of-push (e ∷ past) entry = ap (λ (l : Payloads). l ++ spelling e ∷ []) (payloads_of-push past entry)

  payloads_of-reverse : (list : List Entry) → payloads_of spelling (reverse list) ≡ map spelling list
  payloads_of-reverse [] = refl
  payloads_of-reverse (e ∷ list) =
      ap (λ (l : List Entry). payloads_of spelling l) (reverse-append (e ∷ []) list) ∙ payloads_of-push (reverse list) e ∙ ap (λ (l : Payloads). spelling e ∷ l) (payloads_of-reverse list)

module _ {Entry : Type 0} (IsEntry : Entry → Type 0) where
  are-push : (past : List Entry) (entry : Entry) → AreEntries IsEntry past → IsEntry entry → AreEntries IsEntry (past ++ entry ∷ [])
  are-push [] entry are is = (tt, is)
  are-push (e ∷ past) entry are is = (are-push past entry are.0 is, are.1)

  are-reverse : (list : List Entry) → AllByRecursion IsEntry list → AreEntries IsEntry (reverse list)
  are-reverse [] are = tt
  are-reverse (e ∷ list) are = subst (λ (l : List Entry). AreEntries IsEntry l) (sym (reverse-append (e ∷ []) list)) (are-push (reverse list) e (are-reverse list are.1) are.0)

-- ---- filings and stamps in step
stamped-none : (filings : List Filing) → stamped filings [] ≡ under_plain filings
stamped-none [] = refl
stamped-none (f ∷ filings) = ap (λ (l : List (StampedEntry Filing)). with_stamp plain_stamp f ∷ l) (stamped-none filings)

plain-reverse : (filings : List Filing) → reverse (under_plain filings) ≡ under_plain (reverse filings)
plain-reverse [] = refl
plain-reverse (f ∷ filings) =
    let plain = with_stamp plain_stamp in
    reverse-append (plain f ∷ []) (under_plain filings) ∙ ap (λ (l : List (StampedEntry Filing)). l ++ plain f ∷ []) (plain-reverse filings)
    ∙ sym (map-append plain (reverse filings) (f ∷ [])) ∙ ap under_plain (sym (reverse-append (f ∷ []) filings))

-- under no stamps
pub all_plain : (filings history : List Filing) (stamps : List Stamp) → stamps ≡ [] → reverse filings ≡ history → reverse (stamped filings stamps) ≡ under_plain history
all_plain filings history stamps none is =
    ap (λ (ss : List Stamp). reverse (stamped filings ss)) none ∙ ap reverse (stamped-none filings) ∙ plain-reverse filings ∙ ap under_plain is

-- stamps apart, the filings are the same
pub entries-plain : (history : List Filing) → entries (under_plain history) ≡ history
entries-plain [] = refl
entries-plain (f ∷ past) = ap (λ (l : List Filing). f ∷ l) (entries-plain past)

-- entries are their filings and their stamps, which have one order
stamped-parts : (list : List (StampedEntry Filing)) → stamped (entries list) (stamps_of list) ≡ list
stamped-parts [] = refl
stamped-parts (e ∷ list) = ap (λ (l : List (StampedEntry Filing)). e ∷ l) (stamped-parts list)

pub all_stamped : (filings : List Filing) (stamps : List Stamp) (list : List (StampedEntry Filing)) → reverse filings ≡ entries list → stamps ≡ reverse (stamps_of list)
    → reverse (stamped filings stamps) ≡ list
all_stamped filings stamps list is are =
    let in_order = λ (l : List (StampedEntry Filing)). stamped (entries l) (stamps_of l) in
    ap reverse ((λ i. stamped (turned i) (are i)) ∙ sym (λ i. stamped (entries-reverse list i) (stamps-reverse list i)) ∙ stamped-parts (reverse list)) ∙ reverse-reverse list
  where
    turned : filings ≡ reverse (entries list)
    turned = sym (reverse-reverse filings) ∙ ap reverse is

    entries-append : (one other : List (StampedEntry Filing)) → entries (one ++ other) ≡ entries one ++ entries other
    entries-append [] other = refl
    entries-append (e ∷ one) other = ap (λ (l : List Filing). e.entry ∷ l) (entries-append one other)

    stamps-append : (one other : List (StampedEntry Filing)) → stamps_of (one ++ other) ≡ stamps_of one ++ stamps_of other
    stamps-append [] other = refl
    stamps-append (e ∷ one) other = ap (λ (l : List Stamp). e.stamp ∷ l) (stamps-append one other)

    entries-reverse : (l : List (StampedEntry Filing)) → entries (reverse l) ≡ reverse (entries l)
    entries-reverse [] = refl
    entries-reverse (e ∷ l) =
        ap entries (reverse-append (e ∷ []) l) ∙ entries-append (reverse l) (e ∷ []) ∙ ap (λ (fs : List Filing). fs ++ e.entry ∷ []) (entries-reverse l) ∙ sym (reverse-append (e.entry ∷ []) (entries l))

    stamps-reverse : (l : List (StampedEntry Filing)) → stamps_of (reverse l) ≡ reverse (stamps_of l)
    stamps-reverse [] = refl
    stamps-reverse (e ∷ l) =
        ap stamps_of (reverse-append (e ∷ []) l) ∙ stamps-append (reverse l) (e ∷ []) ∙ ap (λ (ss : List Stamp). ss ++ e.stamp ∷ []) (stamps-reverse l) ∙ sym (reverse-append (e.stamp ∷ []) (stamps_of l))

-- as many as there are filings
length-stamped : (filings : List Filing) (stamps : List Stamp) → length (stamped filings stamps) ≡ length filings
length-stamped [] stamps = refl
length-stamped (f ∷ filings) stamps = ap suc (length-stamped filings (later_stamps stamps))

pub few : (given : List (StampedEntry Filing)) (filings : List Filing) (stamps : List Stamp) → given ≡ stamped filings stamps → length filings < 2 ^ 32 → length given < 2 ^ 32
few given filings stamps is small = omega (arith, ap length is, length-stamped filings stamps, small)

-- ---- a journal that was built of these entries, the oldest first, is an office that recovers them
module _ (header : Header) (named : header ≡ office_header) (given list : List (StampedEntry Filing)) (same : reverse given ≡ list) (legal : IsLegal (entries list)) where
  whole_recovers : (file : List ℕ) → IsWhole header office_scheme.spelling office_scheme.IsEntry given file → Recovers file list
  whole_recovers file whole = record {
    stands = subst (λ (h : Header). StandsFor h file (payloads_of office_scheme.spelling list)) named
        (subst (λ (p : Payloads). StandsFor header file p)
        (sym (payloads_of-reverse office_scheme.spelling given) ∙ ap (λ (l : List (StampedEntry Filing)). payloads_of office_scheme.spelling l) same) whole.stands);
    entries = subst (λ (l : List (StampedEntry Filing)). AreEntries office_scheme.IsEntry l) same (are-reverse office_scheme.IsEntry given whole.in_range);
    legal = legal;
  }

  none_or_all : (file : List ℕ) → NoneOrWhole header office_scheme.spelling office_scheme.IsEntry given file → NoneOrAll list file
  none_or_all file (inl none) = inl (subst (λ (h : Header). IsNoJournal h file) named none)
  none_or_all file (inr whole) = inr (whole_recovers file whole)

  never_half : (old new : DiskState) → EachMoment old new (λ file. old.image file ⊎ NoneOrWhole header office_scheme.spelling office_scheme.IsEntry given file)
      → EachMoment old new (λ file. old.image file ⊎ NoneOrAll list file)
  never_half old new = weaken old new (λ file. old.image file ⊎ NoneOrWhole header office_scheme.spelling office_scheme.IsEntry given file) (λ file. old.image file ⊎ NoneOrAll list file)
      (λ file. ⊎_elim (λ was. inl was) (λ other. inr (none_or_all file other)))

  module _ {B : Type 0} (disk : Ghosts B) (old new : B) (honest : (disk.tells new).honest ≡ (disk.tells old).honest)
      (moments : IsHonest (disk.tells old) → EachMoment (disk.tells old) (disk.tells new)
      (λ file. (disk.tells old).image file ⊎ NoneOrWhole header office_scheme.spelling office_scheme.IsEntry given file)) where
    -- the journal was built
    pub all_built : (IsHonest (disk.tells old) → IsUnborn (disk.tells old).reads)
        → (IsHonest (disk.tells old) → EachImage (disk.tells new) (IsWhole header office_scheme.spelling office_scheme.IsEntry given)) → Builds disk list old new (Ok tt)
    all_built unborn images = built (record {
      honest = honest;
      unborn = unborn;
      images = λ sincere file now. whole_recovers file (images sincere file now);
      moments = λ sincere. never_half (disk.tells old) (disk.tells new) (moments sincere);
    })

    -- or it wasn't
    pub none_built : (error : FoundError)
        → (IsHonest (disk.tells old) → error ≡ target.Exists → (IsBorn header (disk.tells old).reads ⊎ IsOld header (disk.tells old).reads) × IsRead (disk.tells old) (disk.tells new))
        → (IsHonest (disk.tells old) → error ≡ target.NotJournal → IsForeign header (disk.tells old).reads × IsRead (disk.tells old) (disk.tells new))
        → (IsHonest (disk.tells old) → IsUnborn (disk.tells old).reads ⊎ IsRead (disk.tells old) (disk.tells new))
        → Builds disk list old new (Err (Target error))
    none_built error exists foreign untouched = not_built error (record {
      honest = honest;
      exists = λ sincere same. subst (λ (h : Header). (IsBorn h (disk.tells old).reads ⊎ IsOld h (disk.tells old).reads) × IsRead (disk.tells old) (disk.tells new)) named (exists sincere same);
      foreign = λ sincere same. subst (λ (h : Header). IsForeign h (disk.tells old).reads × IsRead (disk.tells old) (disk.tells new)) named (foreign sincere same);
      untouched = untouched;
      moments = λ sincere. never_half (disk.tells old) (disk.tells new) (moments sincere);
    })

-- ---- what a list keeps with its stamps
stamped-again : (es : List Filing) (ss : List Stamp) → stamped es (stamps_of (stamped es ss)) ≡ stamped es ss
stamped-again [] ss = refl
stamped-again (e ∷ es) ss = ap (λ (l : List (StampedEntry Filing)). with_stamp (first_stamp ss) e ∷ l) (stamped-again es (later_stamps ss))

length-stamps_of : (list : List (StampedEntry Filing)) → length (stamps_of list) ≡ length list
length-stamps_of [] = refl
length-stamps_of (e ∷ list) = ap suc (length-stamps_of list)

-- filings and stamps that are told apart are the list
pub told_apart : (history told : List Filing) (ss stamps : List Stamp) → told ≡ entries (stamped history ss) → stamps ≡ reverse (stamps_of (stamped history ss))
    → stamped told (reverse stamps) ≡ stamped history ss
told_apart history told ss stamps is are =
    (λ i. stamped (is i) (reverse (are i))) ∙ (λ i. stamped (entries-stamped history ss i) (reverse-reverse (stamps_of (stamped history ss)) i)) ∙ stamped-again history ss

pub as_many : (history told : List Filing) (ss stamps : List Stamp) → told ≡ entries (stamped history ss) → stamps ≡ reverse (stamps_of (stamped history ss)) → length stamps ≡ length told
as_many history told ss stamps is are =
    ap length are ∙ length-reverse (stamps_of (stamped history ss)) ∙ length-stamps_of (stamped history ss) ∙ length-stamped history ss ∙ ap length (sym (is ∙ entries-stamped history ss))
