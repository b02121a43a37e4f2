-- A file stands for one list of payloads at most, and then it isn't damaged.
use Rattle.std.proofs.Common.{◌≡◌, ◌≢◌, ◌⊎◌, inl, inr, ⊎_elim, ℕ, List, [], ◌∷◌, ◌++◌, length, take, refl, sym, ◌∙◌, ap, append_assoc, arith, length-append}
use Rattle.std.proofs.lemmas.List.{take_at}
use Rattle.std.specs.Int.{to_le_bytes, w32}
use Rattle.log_journal.specs.Stands.{Payloads, StandsFor, front_of, records, body_of, IsPayload, ArePayloads, IsUnborn}
use Rattle.log_journal.specs.Head.{IsBorn, IsOld}
use Rattle.log_journal.specs.Header.{header_bytes}
use Rattle.log_journal.specs.Record.{IsNoRecord}
use Rattle.log_journal.specs.Opening.{IsDamagedAt}
use Rattle.log_journal.specs.declared.header.Header.{Header}
use Rattle.log_journal.proofs.Headers.{length-header_bytes}
use Rattle.log_journal.proofs.Bytes.{same_back}
use Rattle.log_journal.proofs.Gathered.{body_same}

heads : (x y : ℕ) (xs ys : List ℕ) → x ∷ xs ≡ y ∷ ys → x ≡ y
heads x y xs ys is = cc

tails : (x y : ℕ) (xs ys : List ℕ) → x ∷ xs ≡ y ∷ ys → xs ≡ ys
tails x y xs ys is = cc

-- two records that begin one list
first_same : (p q s t : List ℕ) → IsPayload p → IsPayload q → body_of p ++ s ≡ body_of q ++ t → (p ≡ q) × (s ≡ t)
first_same p q s t hp hq is =
    let both = body_same (length p) (p ++ s) q t hp.fits hq (sym (append_assoc (to_le_bytes w32 (length p)) p s) ∙ is) in
    (same_first both.0 both.1, same_back p q s t both.0 both.1)
  where
    same_first : length p ≡ length q → p ++ s ≡ q ++ t → p ≡ q
    same_first n e = sym (take_at p s (length p) refl) ∙ ap (λ (l : List ℕ). take (length p) l) e ∙ take_at q t (length p) (sym n)

once_behind : (h k : Payloads) (g g' : ℕ) (f f' : List ℕ) → g ≢ 1 → g' ≢ 1 → ArePayloads h → ArePayloads k → records h ++ g ∷ f ≡ records k ++ g' ∷ f' → h ≡ k
once_behind [] [] g g' f f' ng ng' ph pk is = refl
once_behind [] (q ∷ k) g g' f f' ng ng' ph pk is = absurd (ng (heads g 1 f _ is))
once_behind (p ∷ h) [] g g' f f' ng ng' ph pk is = absurd (ng' (sym (heads 1 g' _ f' is)))
once_behind (p ∷ h) (q ∷ k) g g' f f' ng ng' ph pk is =
    let both = first_same p q (records h ++ g ∷ f) (records k ++ g' ∷ f') ph.0 pk.0 (sym (append_assoc (body_of p) (records h) (g ∷ f)) ∙ tails 1 1 _ _ is ∙ append_assoc (body_of q) (records k) (g' ∷ f')) in
    ap (λ (x : List ℕ). x ∷ h) both.0 ∙ ap (λ (l : Payloads). q ∷ l) (once_behind h k g g' f f' ng ng' ph.1 pk.1 both.1)

pub once : (header : Header) (file : List ℕ) (h k : Payloads) → StandsFor header file h → StandsFor header file k → h ≡ k
once header file h k s t = once_behind h k s.gate t.gate s.free t.free s.closed t.closed s.sizes t.sizes
    (same_back (header_bytes header) (header_bytes header) (records h ++ s.gate ∷ s.free) (records k ++ t.gate ∷ t.free) refl (sym (append_assoc (header_bytes header) (records h) (s.gate ∷ s.free)) ∙ sym s.whole ∙ t.whole ∙ append_assoc (header_bytes header) (records k) (t.gate ∷ t.free)))

unbroken_behind : (h k : Payloads) (g : ℕ) (f rest : List ℕ) → g ≢ 1 → ArePayloads h → ArePayloads k → IsNoRecord rest → records h ++ rest ≡ records k ++ g ∷ f → ⊥
unbroken_behind [] [] g f rest ng ph pk broken is = ⊎_elim (λ none. let bad : ⊥ = cc (none, is) in bad) (λ open_gate. ng (sym (heads 1 g open_gate.0 f (sym open_gate.1 ∙ is)))) broken
unbroken_behind [] (q ∷ k) g f rest ng ph pk broken is =
    ⊎_elim (λ none. let bad : ⊥ = cc (none, is) in bad)
    (λ open_gate. open_gate.2 q (records k ++ g ∷ f) pk.0 (tails 1 1 _ _ (sym open_gate.1 ∙ is) ∙ append_assoc (body_of q) (records k) (g ∷ f))) broken
unbroken_behind (p ∷ h) [] g f rest ng ph pk broken is = ng (sym (heads 1 g _ f is))
unbroken_behind (p ∷ h) (q ∷ k) g f rest ng ph pk broken is =
    let both = first_same p q (records h ++ rest) (records k ++ g ∷ f) ph.0 pk.0 (sym (append_assoc (body_of p) (records h) rest) ∙ tails 1 1 _ _ is ∙ append_assoc (body_of q) (records k) (g ∷ f)) in
    unbroken_behind h k g f rest ng ph.1 pk.1 broken both.1

pub undamaged : (header : Header) (file : List ℕ) (h k : Payloads) (place : ℕ) → StandsFor header file k → IsDamagedAt header place file h → ⊥
undamaged header file h k place t d = unbroken_behind h k t.gate t.free d.rest t.closed d.sizes t.sizes d.no_record
    (same_back (header_bytes header) (header_bytes header) (records h ++ d.rest) (records k ++ t.gate ∷ t.free) refl (sym (append_assoc (header_bytes header) (records h) d.rest) ∙ sym d.whole ∙ t.whole ∙ append_assoc (header_bytes header) (records k) (t.gate ∷ t.free)))

begins_behind : (h k : Payloads) (g : ℕ) (f rest : List ℕ) → g ≢ 1 → ArePayloads h → ArePayloads k → records h ++ rest ≡ records k ++ g ∷ f → (more : Payloads) × (k ≡ h ++ more)
begins_behind [] k g f rest ng ph pk is = (k, refl)
begins_behind (p ∷ h) [] g f rest ng ph pk is = absurd (ng (sym (heads 1 g _ f is)))
begins_behind (p ∷ h) (q ∷ k) g f rest ng ph pk is =
    let both = first_same p q (records h ++ rest) (records k ++ g ∷ f) ph.0 pk.0 (sym (append_assoc (body_of p) (records h) rest) ∙ tails 1 1 _ _ is ∙ append_assoc (body_of q) (records k) (g ∷ f)) in
    let behind = begins_behind h k g f rest ng ph.1 pk.1 both.1 in
    (behind.0, ap (λ (x : List ℕ). x ∷ k) (sym both.0) ∙ ap (λ (l : Payloads). p ∷ l) behind.1)

-- a file that begins with the records of some payloads and stands for others has them first
pub begins : (header : Header) (file rest : List ℕ) (h k : Payloads) → file ≡ front_of header h ++ rest → ArePayloads h → StandsFor header file k → (more : Payloads) × (k ≡ h ++ more)
begins header file rest h k whole sizes t = begins_behind h k t.gate t.free rest t.closed sizes t.sizes
    (same_back (header_bytes header) (header_bytes header) (records h ++ rest) (records k ++ t.gate ∷ t.free) refl (sym (append_assoc (header_bytes header) (records h) rest) ∙ sym whole ∙ t.whole ∙ append_assoc (header_bytes header) (records k) (t.gate ∷ t.free)))

-- of two lists of payloads whose records begin one list, one comes first in the other
meets_behind : (h k : Payloads) (r s : List ℕ) → ArePayloads h → ArePayloads k → records h ++ r ≡ records k ++ s →
    ((more : Payloads) × (k ≡ h ++ more)) ⊎ ((more : Payloads) × (h ≡ k ++ more))
meets_behind [] k r s ph pk is = inl (k, refl)
meets_behind (p ∷ h) [] r s ph pk is = inr (p ∷ h, refl)
meets_behind (p ∷ h) (q ∷ k) r s ph pk is = go (meets_behind h k r s ph.1 pk.1 both.1)
  where
    both : (p ≡ q) × (records h ++ r ≡ records k ++ s)
    both = first_same p q (records h ++ r) (records k ++ s) ph.0 pk.0 (sym (append_assoc (body_of p) (records h) r) ∙ tails 1 1 _ _ is ∙ append_assoc (body_of q) (records k) s)

    go : ((more : Payloads) × (k ≡ h ++ more)) ⊎ ((more : Payloads) × (h ≡ k ++ more)) →
        ((more : Payloads) × (q ∷ k ≡ (p ∷ h) ++ more)) ⊎ ((more : Payloads) × (p ∷ h ≡ (q ∷ k) ++ more))
    go (inl first) = inl (first.0, ap (λ (x : List ℕ). x ∷ k) (sym both.0) ∙ ap (λ (l : Payloads). p ∷ l) first.1)
    go (inr first) = inr (first.0, ap (λ (x : List ℕ). x ∷ h) both.0 ∙ ap (λ (l : Payloads). q ∷ l) first.1)

-- of two lists of payloads with whose records a file begins, one comes first in the other
pub meets : (header : Header) (file r s : List ℕ) (h k : Payloads) → file ≡ front_of header h ++ r → file ≡ front_of header k ++ s → ArePayloads h → ArePayloads k →
    ((more : Payloads) × (k ≡ h ++ more)) ⊎ ((more : Payloads) × (h ≡ k ++ more))
meets header file r s h k one other ph pk = meets_behind h k r s ph pk
    (same_back (header_bytes header) (header_bytes header) (records h ++ r) (records k ++ s) refl (sym (append_assoc (header_bytes header) (records h) r) ∙ sym one ∙ other ∙ append_assoc (header_bytes header) (records k) s))

unended_behind : (h more : Payloads) (x rest s : List ℕ) → ArePayloads (h ++ x ∷ more) → IsNoRecord rest → records h ++ rest ≡ records (h ++ x ∷ more) ++ s → ⊥
unended_behind [] more x rest s are broken is =
    ⊎_elim (λ none. let bad : ⊥ = cc (none, is) in bad)
    (λ open_gate. open_gate.2 x (records more ++ s) are.0 (tails 1 1 _ _ (sym open_gate.1 ∙ is) ∙ append_assoc (body_of x) (records more) s)) broken
unended_behind (p ∷ h) more x rest s are broken is =
    let both = first_same p p (records h ++ rest) (records (h ++ x ∷ more) ++ s) are.0 are.0 (sym (append_assoc (body_of p) (records h) rest) ∙ tails 1 1 _ _ is ∙ append_assoc (body_of p) (records (h ++ x ∷ more)) s) in
    unended_behind h more x rest s are.1 broken both.1

-- a file isn't damaged behind payloads where the record of one more stands
pub unended : (header : Header) (file s : List ℕ) (h more : Payloads) (x : List ℕ) (place : ℕ) → file ≡ front_of header (h ++ x ∷ more) ++ s → ArePayloads (h ++ x ∷ more) → IsDamagedAt header place file h → ⊥
unended header file s h more x place whole are d = unended_behind h more x d.rest s are d.no_record
    (same_back (header_bytes header) (header_bytes header) (records h ++ d.rest) (records (h ++ x ∷ more) ++ s) refl (sym (append_assoc (header_bytes header) (records h) d.rest) ∙ sym d.whole ∙ whole ∙ append_assoc (header_bytes header) (records (h ++ x ∷ more)) s))

-- a file that stands for payloads is born
pub born : (header : Header) (file : List ℕ) (h : Payloads) → StandsFor header file h → IsBorn header file
born header file h t =
    let size = length-header_bytes header in
    let whole : file ≡ header_bytes header ++ (records h ++ t.gate ∷ t.free) = t.whole ∙ append_assoc (header_bytes header) (records h) (t.gate ∷ t.free) in
    record {
      long = omega (arith, ap length whole, size, length-append (header_bytes header) (records h ++ t.gate ∷ t.free), length-append (records h) (t.gate ∷ t.free));
      starts = ap (λ (l : List ℕ). take 16 l) whole ∙ take_at (header_bytes header) (records h ++ t.gate ∷ t.free) 16 size;
    }

-- and then it isn't unborn
pub not_unborn : (header : Header) (file : List ℕ) → IsBorn header file → IsUnborn file → ⊥
not_unborn header file is (inl short) = omega (arith, is.long, short)
not_unborn header [] is (inr unfinished) = let long = is.long in omega (arith, long)
not_unborn header (x ∷ file) is (inr unfinished) = unfinished.1 (heads x 1 (take 15 file) _ is.starts)

-- nor is one of the version before
pub old_not_unborn : (header : Header) (file : List ℕ) → IsOld header file → IsUnborn file → ⊥
old_not_unborn header file is (inl short) = omega (arith, is.long, short)
old_not_unborn header [] is (inr unfinished) = let long = is.long in omega (arith, long)
old_not_unborn header (x ∷ file) is (inr unfinished) = unfinished.1 (heads x 1 (take 15 file) _ is.starts.2)
