-- The laws of a disk in memory, proved. They stand here since an impl names their proofs.
use Rattle.std.proofs.Common.{◌≡◌, ◌≤◌, ◌<◌, ◌+◌, ◌^◌, ℕ, zero, suc, List, [], ◌∷◌, ◌++◌, length, take, drop, refl, sym, ◌∙◌, ap, subst, arith, length-append, length-drop, take-append-drop}
use Rattle.std.proofs.lemmas.List.{take_all, drop_all}
use Rattle.io_traits.specs.DiskState.{Torn, Cut}
use Rattle.io_memory.specs.Calls.{written, cut_off, telling, reads_by, image_by, reads_after, image_after}
use Rattle.std.specs.Global.{Vec}
use Rattle.io_memory.specs.declared.call.DiskCall.{DiskCall}
use Rattle.io_memory.specs.declared.call.DiskCall.TheVariants.{Len, Read, Write, Cut as Cuts, Sync, FailedSync}

length-take_le : (n : ℕ) (s : List ℕ) → length (take n s) ≤ n
length-take_le zero s = omega arith
length-take_le (suc n) [] = omega arith
length-take_le (suc n) (x ∷ s) = omega (arith, length-take_le n s)

-- a write that left some of its bytes is torn
pub torn_written : (at n : ℕ) (left old : List ℕ) → Torn at n old (written at n left old)
torn_written at n left old = record {
  before = front at old (take n left ++ drop (at + length (take n left)) old);
  behind = back at n (take n left) old (length-take_le n left);
  no_shorter = longer at (take n left) old;
}
  where
    front : (at : ℕ) (old more : List ℕ) → take (length (take at old)) (take at old ++ more) ≡ take at old
    front zero old more = refl
    front (suc at) [] more = refl
    front (suc at) (x ∷ old) more = ap (λ (l : List ℕ). x ∷ l) (front at old more)

    later : (k n : ℕ) (ys old : List ℕ) → length ys ≤ n → drop n (ys ++ drop (length ys) old) ≡ drop n old
    later k n [] old le = refl
    later k zero (y ∷ ys) old le = absurd (omega arith)
    later k (suc n) (y ∷ ys) [] le = drop_all n (ys ++ []) (omega (arith, length-append ys []))
    later k (suc n) (y ∷ ys) (x ∷ old) le = later k n ys old (omega arith)

    back : (at n : ℕ) (ys old : List ℕ) → length ys ≤ n → drop (at + n) (take at old ++ (ys ++ drop (at + length ys) old)) ≡ drop (at + n) old
    back zero n ys old le =
        let a : 0 + n ≡ n = omega arith in let b : 0 + length ys ≡ length ys = omega arith in
        ap (λ (m : ℕ). drop m (ys ++ drop (0 + length ys) old)) a ∙ ap (λ (m : ℕ). drop n (ys ++ drop m old)) b ∙ later 0 n ys old le ∙ ap (λ (m : ℕ). drop m old) (sym a)
    back (suc at) n ys [] le = drop_all (suc at + n) (ys ++ drop (suc at + length ys) []) (omega (arith, length-append ys (drop (suc at + length ys) []), length-drop {A = ℕ} (suc at + length ys) [])) ∙ sym (drop_all (suc at + n) [] (omega arith))
    back (suc at) n ys (x ∷ old) le =
        let a : suc at + n ≡ suc (at + n) = omega arith in let b : suc at + length ys ≡ suc (at + length ys) = omega arith in
        ap (λ (m : ℕ). drop m (x ∷ (take at old ++ (ys ++ drop (suc at + length ys) (x ∷ old))))) a
        ∙ ap (λ (m : ℕ). drop (at + n) (take at old ++ (ys ++ drop m (x ∷ old)))) b
        ∙ back at n ys old le ∙ ap (λ (m : ℕ). drop m (x ∷ old)) (sym a)

    longer : (at : ℕ) (ys old : List ℕ) → length old ≤ length (take at old ++ (ys ++ drop (at + length ys) old))
    longer at ys old = omega (arith, length-append (take at old) (ys ++ drop (at + length ys) old), length-append ys (drop (at + length ys) old), length-drop (at + length ys) old, ap length (take-append-drop at old), length-append (take at old) (drop at old), length-drop at old)

-- so is a cut
pub cut_left : (len : ℕ) (left old : List ℕ) → Cut len old (cut_off len left old)
cut_left len left old = record {
  before = front len old (take (length (drop len old)) left) (length-take_le (length (drop len old)) left);
  no_longer = omega (arith, length-append (take len old) (take (length (drop len old)) left), length-take_le (length (drop len old)) left, ap length (take-append-drop len old), length-append (take len old) (drop len old));
}
  where
    front : (len : ℕ) (old more : List ℕ) → length more ≤ length (drop len old) → take len (take len old ++ more) ≡ take len old
    front zero old more le = refl
    front (suc len) [] [] le = refl
    front (suc len) [] (y ∷ more) le = absurd (omega arith)
    front (suc len) (x ∷ old) more le = ap (λ (l : List ℕ). x ∷ l) (front len old more le)

-- a call leaves what a read gives among the images
image_kept : (call : DiskCall) (reads : List ℕ) (image : List ℕ → Type 0) → image reads → image_by call reads image (reads_by call reads)
image_kept (Write at n left) reads image is = (reads, is, torn_written at n left.items reads)
image_kept (Cuts len left) reads image is = (reads, is, cut_left len left.items reads)
image_kept Sync reads image is = refl
image_kept Len reads image is = is
image_kept (Read buffer) reads image is = is
image_kept FailedSync reads image is = is

-- what a read gives is an image
pub reads_image : (calls : List DiskCall) (reads : List ℕ) (image : List ℕ → Type 0) → image reads → image_after reads image calls (reads_after reads calls)
reads_image [] reads image is = is
reads_image (call ∷ calls) reads image is = reads_image calls (reads_by call reads) (image_by call reads image) (image_kept call reads image is)

-- one call more
pub image_push : (calls : List DiskCall) (call : DiskCall) (reads : List ℕ) (image : List ℕ → Type 0) → image_after reads image (calls ++ call ∷ []) ≡ image_by call (reads_after reads calls) (image_after reads image calls)
image_push [] call reads image = refl
image_push (first ∷ calls) call reads image = image_push calls call (reads_by first reads) (image_by first reads image)

pub reads_push : (calls : List DiskCall) (call : DiskCall) (reads : List ℕ) → reads_after reads (calls ++ call ∷ []) ≡ reads_by call (reads_after reads calls)
reads_push [] call reads = refl
reads_push (first ∷ calls) call reads = reads_push calls call (reads_by first reads)

-- the laws of a disk
pub now_counts : (start bytes : List ℕ) (calls : List DiskCall) (t : ℕ) (c : List ℕ) → t ≤ length calls → (telling start bytes calls).image c → (telling start bytes calls).image_since t c
now_counts start bytes calls t c le is = (length calls, le, (let same : length calls ≤ length calls = omega arith in same), subst (λ (l : List DiskCall). image_after start (λ d. d ≡ start) l c) (sym (take_all (length calls) calls (omega arith))) is)

pub now_only : (start bytes : List ℕ) (calls : List DiskCall) (c : List ℕ) → (telling start bytes calls).image_since (length calls) c → (telling start bytes calls).image c
now_only start bytes calls c (k, from, to, is) = subst (λ (l : List DiskCall). image_after start (λ d. d ≡ start) l c) (take_all k calls from) is

pub reads_are_image : (start bytes : List ℕ) (calls : List DiskCall) → bytes ≡ reads_after start calls → (telling start bytes calls).image bytes
reads_are_image start bytes calls is = subst (λ (r : List ℕ). image_after start (λ d. d ≡ start) calls r) (sym is) (reads_image calls start (λ d. d ≡ start) refl)

-- the length of a vector of bytes has a bound
pub length-bytes-lt : (v : Vec ℕ) → length v.items < 2 ^ 63
length-bytes-lt v = omega (arith, v.ok.0, v.ok.1, v.small)
