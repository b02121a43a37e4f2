-- What the images of the steps of a build are, and what each step makes of what a read gives.
use Rattle.std.proofs.Common.{◌≡◌, ◌≢◌, ◌⊎◌, inl, inr, ⊎_elim, ℕ, zero, suc, ◌+◌, ◌≤◌, List, [], ◌∷◌, ◌++◌, length, take, drop, map, refl, sym, ◌∙◌, ap, subst, arith, append_assoc, length-append}
use Rattle.std.proofs.lemmas.Bool.{cases_eq, cases_lt}
use Rattle.std.proofs.lemmas.List.{append-nil, map-append}
use Rattle.std.specs.Prelude.{slice_index}
use Rattle.std.specs.List.{AllByRecursion}
use Rattle.io_traits.proofs.Moments.{goes_on, join, read_moments, weaken}
use Rattle.io_traits.specs.DiskState.{DiskState, Torn, EachImage, EachMoment, IsRead, IsWrite, overwrite}
use Rattle.log_journal.specs.Header.{header_bytes}
use Rattle.log_journal.specs.Stands.{Payloads, IsPayload, body_of, front_of, gate_place}
use Rattle.log_journal.specs.declared.header.Header.{Header}
use Rattle.log_journal.proofs.Bytes.{overwrite_front}
use Rattle.log_journal.proofs.Gates.{front_of-push, payloads-push, gate_place-push}
use Rattle.log_journal.proofs.Headers.{length-front_of}
use Rattle.log_builds.specs.Built.{IsNoJournal, NoneOrWhole}
use Rattle.log_builds.specs.Entries.{IsGiven}
use Rattle.log_builds.specs.Laid.{IsShut, IsLaid, IsReady, HasLaid}

heads : (x y : ℕ) (xs ys : List ℕ) → x ∷ xs ≡ y ∷ ys → x ≡ y
heads x y xs ys is = cc

-- ---- a file whose first byte isn't 1
pub not_one : (x : ℕ) (file : List ℕ) → IsShut (x ∷ file) → x ≢ 1
not_one x file s one = s.shut (sym (heads x s.first file s.rest s.whole) ∙ one)

-- is no journal
pub shut_none : (header : Header) (file : List ℕ) → IsShut file → IsNoJournal header file
shut_none header [] s = inl (inl (omega arith))
shut_none header (x ∷ file) s = elim (cases_lt (length (x ∷ file)) 17) [
  | inl short ↦ inl (inl short)
  | inr long ↦ ⊎_elim (λ exact. inl (inr (exact, not_one x file s))) (λ more. inr (record {
    not_unborn = λ unborn. ⊎_elim (λ short. omega (arith, short, long)) (λ exact. more exact.0) unborn;
    not_born = λ born. not_one x file s (heads x 1 (take 15 file) _ born.starts);
    not_old = λ old. not_one x file s (heads x 1 (take 15 file) _ old.starts.2);
  })) (cases_eq (length (x ∷ file)) 17)
]

-- and stays one where something is written behind its first byte
pub shut_torn : (d c : List ℕ) (at n : ℕ) → 1 ≤ at → IsShut d → Torn at n d c → IsShut c
shut_torn [] c at n some s torn = absurd (omega (arith, ap length s.whole))
shut_torn (x ∷ d) [] at n some s torn = absurd (omega (arith, torn.no_shorter))
shut_torn (x ∷ d) (y ∷ c) zero n some s torn = absurd (omega (arith, some))
shut_torn (x ∷ d) (y ∷ c) (suc at) n some s torn = record { first = y; rest = c; whole = refl; shut = λ one. not_one x d s (sym same ∙ one) }
  where
    same : y ≡ x
    same = ap (λ (l : List ℕ). slice_index l 0) torn.before

-- so do the images, at every moment of such a write
pub written_shut : (old new : DiskState) (at n : ℕ) → 1 ≤ at → EachImage old IsShut → IsWrite at n old new → EachImage new IsShut
written_shut old new at n some each write c now = let from = write.images c now in shut_torn from.0 c at n some (each from.0 from.1) from.2

pub written_moments : (first old new : DiskState) (at n : ℕ) → 1 ≤ at → EachMoment first old IsShut → EachImage old IsShut → IsWrite at n old new → EachMoment first new IsShut
written_moments first old new at n some so_far each write = goes_on first old new IsShut so_far write.time (written_shut old new at n some each write)

-- a look before changes nothing of what is said of each moment
pub looked_first : (old mid new : DiskState) (P : List ℕ → Type 0) → ((c : List ℕ) → old.image_since old.moment c → old.image c) → IsRead old mid
    → EachMoment mid new (λ file. mid.image file ⊎ P file) → EachMoment old new (λ file. old.image file ⊎ P file)
looked_first old mid new P only read behind =
    join old mid new (λ file. old.image file ⊎ P file)
    (weaken old mid old.image (λ file. old.image file ⊎ P file) (λ file was. inl was) (read_moments old mid only read))
    (weaken mid new (λ file. mid.image file ⊎ P file) (λ file. old.image file ⊎ P file) (λ file. ⊎_elim (λ was. inl (read.images file was)) (λ other. inr other)) behind)

-- ---- the second step
length-laid : (header : Header) (h : Payloads) (x : ℕ) → gate_place h ≡ length (x ∷ drop 1 (front_of header h))
length-laid header h x = sym (length-front_of header h)

laid_inside : (header : Header) (h : Payloads) (file : List ℕ) → IsLaid header h file → gate_place h ≤ length file
laid_inside header h file s = omega (arith, ap length s.whole, length-laid header h s.first, length-append (drop 1 (front_of header h)) s.rest)

-- the header
headed : (header : Header) (d c : List ℕ) → IsShut d → c ≡ overwrite 1 (drop 1 (header_bytes header)) d → IsLaid header [] c
headed header [] c s is = absurd (omega (arith, ap length s.whole))
headed header (x ∷ d) c s is =
    let bytes = drop 1 (header_bytes header) in
    let rest = drop (1 + length bytes) (x ∷ d) in
    record {
      first = x;
      rest = rest;
      whole = is ∙ ap (λ (l : List ℕ). x ∷ (l ++ rest)) (sym (append-nil bytes));
      shut = not_one x d s;
      sizes = tt;
    }

-- the record of one payload more
recorded : (header : Header) (h : Payloads) (p d c : List ℕ) (place : ℕ) → place ≡ gate_place h → IsPayload p → IsLaid header h d
    → c ≡ overwrite place (1 ∷ body_of p) d → IsLaid header (h ++ p ∷ []) c
recorded header h p d c place at payload s is =
    let xs = s.first ∷ drop 1 (front_of header h) in
    let block = 1 ∷ body_of p in
    let rest = drop (place + length block) (xs ++ s.rest) in
    let push : drop 1 (front_of header h) ++ block ≡ drop 1 (front_of header (h ++ p ∷ [])) = ap (λ (l : List ℕ). drop 1 l) (sym (front_of-push header h p)) in
    record {
      first = s.first;
      rest = rest;
      whole = is ∙ ap (λ (l : List ℕ). overwrite place block l) s.whole ∙ overwrite_front xs s.rest block place (at ∙ length-laid header h s.first)
          ∙ sym (append_assoc xs block rest) ∙ ap (λ (l : List ℕ). s.first ∷ (l ++ rest)) push;
      shut = s.shut;
      sizes = payloads-push h p s.sizes payload;
    }

-- the closed gate
pub closed : (header : Header) (h : Payloads) (d c : List ℕ) (place : ℕ) → place ≡ gate_place h → IsLaid header h d → c ≡ overwrite place (0 ∷ []) d → IsReady header h c
closed header h d c place at s is =
    let xs = s.first ∷ drop 1 (front_of header h) in
    let free = drop (place + 1) (xs ++ s.rest) in
    record {
      laid = record {
        first = s.first;
        rest = 0 ∷ free;
        whole = is ∙ ap (λ (l : List ℕ). overwrite place (0 ∷ []) l) s.whole ∙ overwrite_front xs s.rest (0 ∷ []) place (at ∙ length-laid header h s.first);
        shut = s.shut;
        sizes = s.sizes;
      };
      gate = 0;
      free = free;
      closed = omega arith;
      behind = refl;
    }

-- ---- the second step, entry by entry
all_push : {Entry : Type 0} (IsEntry : Entry → Type 0) (done : List Entry) (entry : Entry) → AllByRecursion IsEntry done → IsEntry entry → AllByRecursion IsEntry (done ++ entry ∷ [])
all_push IsEntry [] entry are is = (is, tt)
all_push IsEntry (e ∷ done) entry are is = (are.0, all_push IsEntry done entry are.1 is)

module _ {Entry : Type 0} (header : Header) (spelling : Entry → List ℕ) (IsEntry : Entry → Type 0) (all : List Entry) where
  pub none_laid : (d c : List ℕ) → IsShut d → c ≡ overwrite 1 (drop 1 (header_bytes header)) d → HasLaid header spelling IsEntry all all 16 c
  none_laid d c s is = record { done = []; split = refl; laid = headed header d c s is; place_is = refl; in_range = tt }

  pub next_laid : ((entry : Entry) → IsEntry entry → IsPayload (spelling entry)) → (before after : List Entry) (place : ℕ) (bytes d c : List ℕ)
      → HasLaid header spelling IsEntry all before place d → IsGiven spelling IsEntry before after bytes → c ≡ overwrite place (1 ∷ body_of bytes) d
      → HasLaid header spelling IsEntry all after (place + (length bytes + 5)) c
  next_laid keepable before after place bytes d c s given is =
      let p = spelling given.entry in
      let h = map spelling s.done in
      let push : map spelling (s.done ++ given.entry ∷ []) ≡ h ++ p ∷ [] = map-append spelling s.done (given.entry ∷ []) in
      record {
        done = s.done ++ given.entry ∷ [];
        split = s.split ∙ ap (λ (l : List Entry). s.done ++ l) given.first ∙ sym (append_assoc s.done (given.entry ∷ []) after);
        laid = subst (λ (l : Payloads). IsLaid header l c) (sym push)
            (recorded header h p d c place s.place_is (keepable given.entry given.in_range) s.laid (is ∙ ap (λ (l : List ℕ). overwrite place (1 ∷ body_of l) d) given.spelled));
        place_is = omega (arith, s.place_is, ap length given.spelled, gate_place-push h p, ap gate_place push);
        in_range = all_push IsEntry s.done given.entry s.in_range given.in_range;
      }

  pub place_inside : (left : List Entry) (place : ℕ) (d : List ℕ) → HasLaid header spelling IsEntry all left place d → (1 ≤ place) × (place ≤ length d)
  place_inside left place d s = (omega (arith, s.place_is), omega (arith, s.place_is, laid_inside header (map spelling s.done) d s.laid))

  -- none is left
  pub all_laid : (place : ℕ) (d : List ℕ) → HasLaid header spelling IsEntry all [] place d
      → IsLaid header (map spelling all) d × ((place ≡ gate_place (map spelling all)) × AllByRecursion IsEntry all)
  all_laid place d s =
      subst (λ (l : List Entry). IsLaid header (map spelling l) d × ((place ≡ gate_place (map spelling l)) × AllByRecursion IsEntry l))
      (sym (s.split ∙ append-nil s.done)) (s.laid, (s.place_is, s.in_range))

  -- ---- the third step
  pub opened_torn : (d c : List ℕ) → IsReady header (map spelling all) d → AllByRecursion IsEntry all → Torn 0 1 d c → NoneOrWhole header spelling IsEntry all c
  opened_torn d [] s are torn = absurd (omega (arith, torn.no_shorter, ap length s.laid.whole))
  opened_torn d (y ∷ c) s are torn = elim (cases_eq y 1) [
    | inl one ↦ inr (record {
      stands = record { gate = s.gate; free = s.free; closed = s.closed; whole = ap (λ (x : ℕ). x ∷ c) one ∙ ap (λ (l : List ℕ). 1 ∷ l) tail; sizes = s.laid.sizes };
      in_range = are;
    })
    | inr not ↦ inl (shut_none header (y ∷ c) (record { first = y; rest = c; whole = refl; shut = not }))
  ]
    where
      tail : c ≡ drop 1 (front_of header (map spelling all)) ++ s.gate ∷ s.free
      tail = torn.behind ∙ ap (λ (l : List ℕ). drop 1 l) s.laid.whole ∙ ap (λ (l : List ℕ). drop 1 (front_of header (map spelling all)) ++ l) s.behind
