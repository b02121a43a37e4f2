-- What a life of a journal keeps.
use Rattle.std.proofs.Common.{◌≡◌, inl, inr, ℕ, List, [], ◌∷◌, ◌++◌, refl, sym, subst, append_assoc}
use Rattle.std.proofs.lemmas.List.{append-nil}
use Rattle.io_traits.specs.declared.disk.Disk.{Ghosts}
use Rattle.log_journal.specs.Stands.{Payloads, StandsFor, BeforeOrWith}
use Rattle.log_journal.specs.Journal.{Keeps, MayKeep}
use Rattle.log_journal.specs.declared.header.Header.{Header}
use Rattle.log_journal.specs.Lives.{PayloadFate, Uncertain, FatesAllow, JournalPlace, Left, Open, Pending, JournalLife, begun, founded, opened, crashed_opening, put, refused, undecided, crashed_put, lengthened, crashed_lengthening, settled, unsettled, crashed_settling, crashed, crashed_pending}

-- what stands at a place of a life
Holds : {D : Type 0} (disk : Ghosts D) (header : Header) (before : Payloads) → List PayloadFate → JournalPlace disk → Type 0
Holds disk header before fates (Left file) = (kept : Payloads) × FatesAllow fates kept × StandsFor header file (before ++ kept)
Holds disk header before fates (Open journal) = (kept : Payloads) × FatesAllow fates kept × Keeps disk header journal (before ++ kept)
Holds disk header before fates (Pending journal payload) = (kept : Payloads) × FatesAllow fates kept × MayKeep disk header journal (before ++ kept) payload

-- one payload more
more : (before kept : Payloads) (payload : List ℕ) → (before ++ kept) ++ payload ∷ [] ≡ before ++ (kept ++ payload ∷ [])
more before kept payload = append_assoc before kept (payload ∷ [])

-- a file that a crash left while a payload was uncertain
uncertain : (header : Header) (before kept : Payloads) (fates : List PayloadFate) (payload file : List ℕ) → FatesAllow fates kept → BeforeOrWith header (before ++ kept) payload file
    → (now : Payloads) × FatesAllow (Uncertain payload ∷ fates) now × StandsFor header file (before ++ now)
uncertain header before kept fates payload file may (inl without) = (kept, (kept, may, inl refl), without)
uncertain header before kept fates payload file may (inr with_it) = (kept ++ payload ∷ [], (kept, may, inr refl), subst (λ (l : Payloads). StandsFor header file l) (more before kept payload) with_it)

holds : {D : Type 0} (disk : Ghosts D) (header : Header) (before : Payloads) (fates : List PayloadFate) (place : JournalPlace disk) → JournalLife disk header before fates place → Holds disk header before fates place
unfolding Holds
holds disk header before fates place (begun file stands) = ([], refl, subst (λ (l : Payloads). StandsFor header file l) (sym (append-nil before)) stands)
holds disk header before fates place (founded journal keeps) = ([], refl, subst (λ (l : Payloads). Keeps disk header journal l) (sym (append-nil before)) keeps)
holds disk header before fates place (opened older first journal so_far keeps) =
    let (kept, may, stands) = holds disk header before older (Left (disk.tells first).reads) so_far in
    (kept, may, keeps (before ++ kept) stands)
holds disk header before fates place (crashed_opening older first last file so_far moments left) =
    let (kept, may, stands) = holds disk header before older (Left (disk.tells first).reads) so_far in
    (kept, may, (moments (before ++ kept) stands).each file left)
holds disk header before fates place (put older old new payload so_far keeps) =
    let (kept, may, keep) = holds disk header before older (Open old) so_far in
    (kept ++ payload ∷ [], (kept, may, refl), subst (λ (l : Payloads). Keeps disk header new l) (more before kept payload) (keeps (before ++ kept) keep))
holds disk header before fates place (refused older old new payload so_far keeps) =
    let (kept, may, keep) = holds disk header before older (Open old) so_far in
    (kept, may, keeps (before ++ kept) keep)
holds disk header before fates place (undecided older old new payload so_far keeps) =
    let (kept, may, keep) = holds disk header before older (Open old) so_far in
    (kept, may, keeps (before ++ kept) keep)
holds disk header before fates place (crashed_put older old new payload file so_far moments left) =
    let (kept, may, keep) = holds disk header before older (Open old) so_far in
    uncertain header before kept older payload file may ((moments (before ++ kept) keep).each file left)
holds disk header before fates place (lengthened older old new so_far keeps) =
    let (kept, may, keep) = holds disk header before older (Open old) so_far in
    (kept, may, keeps (before ++ kept) keep)
holds disk header before fates place (crashed_lengthening older old new file so_far moments left) =
    let (kept, may, keep) = holds disk header before older (Open old) so_far in
    (kept, may, (moments (before ++ kept) keep).each file left)
holds disk header before fates place (settled older old new payload so_far keeps) =
    let (kept, may, keep) = holds disk header before older (Pending old payload) so_far in
    (kept ++ payload ∷ [], (kept, may, refl), subst (λ (l : Payloads). Keeps disk header new l) (more before kept payload) (keeps (before ++ kept) keep))
holds disk header before fates place (unsettled older old new payload so_far keeps) =
    let (kept, may, keep) = holds disk header before older (Pending old payload) so_far in
    (kept, may, keeps (before ++ kept) keep)
holds disk header before fates place (crashed_settling older old new payload file so_far moments left) =
    let (kept, may, keep) = holds disk header before older (Pending old payload) so_far in
    uncertain header before kept older payload file may ((moments (before ++ kept) keep).each file left)
holds disk header before fates place (crashed older journal file so_far left) =
    let (kept, may, keep) = holds disk header before older (Open journal) so_far in
    (kept, may, keep.each file left)
holds disk header before fates place (crashed_pending older journal payload file so_far left) =
    let (kept, may, keep) = holds disk header before older (Pending journal payload) so_far in
    uncertain header before kept older payload file may (keep.each file left)

pub kept : {D : Type 0} (disk : Ghosts D) (header : Header) (before : Payloads) (file : List ℕ) (fates : List PayloadFate) → JournalLife disk header before fates (Left file)
    → (kept : Payloads) × FatesAllow fates kept × StandsFor header file (before ++ kept)
unfolding Holds
kept disk header before file fates life = holds disk header before fates (Left file) life
