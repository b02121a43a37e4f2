-- What the images of the two steps of a `put` stand for.
use Rattle.std.proofs.Common.{◌≡◌, inl, inr, ℕ, zero, suc, ◌+◌, ◌<◌, ◌≤◌, List, [], ◌∷◌, ◌++◌, length, take, drop, get_or, refl, sym, ◌∙◌, ap, subst, arith, append_assoc, length-append}
use Rattle.std.proofs.lemmas.Bool.{cases_eq}
use Rattle.std.proofs.lemmas.List.{append-nil}
use Rattle.std.specs.Prelude.{slice_set}
use Rattle.io_traits.specs.DiskState.{DiskState, Torn, Cut, IsKept, EachImage, overwrite}
use Rattle.log_journal.specs.Stands.{Payloads, StandsFor, BeforeOrWith, WithGateOpen, EndsBehind, gate_place, front_of, records, body_of, ArePayloads, IsPayload}
use Rattle.log_journal.specs.Header.{header_bytes}
use Rattle.log_journal.specs.declared.header.Header.{Header}
use Rattle.log_journal.proofs.Headers.{length-front_of}
use Rattle.log_journal.proofs.Bytes.{torn_front, cut_front, overwrite_front, split_at, set_split, length-slice_set, length-take_le, torn_set, overwrite_set, length-overwrite_end, same_front}

records-push : (h : Payloads) (p : List ℕ) → records (h ++ p ∷ []) ≡ records h ++ 1 ∷ body_of p
records-push [] p = ap (λ (l : List ℕ). 1 ∷ l) (append-nil (body_of p))
records-push (q ∷ h) p = ap (λ (l : List ℕ). 1 ∷ (body_of q ++ l)) (records-push h p) ∙ ap (λ (l : List ℕ). 1 ∷ l) (sym (append_assoc (body_of q) (records h) (1 ∷ body_of p)))

pub front_of-push : (header : Header) (h : Payloads) (p : List ℕ) → front_of header (h ++ p ∷ []) ≡ front_of header h ++ 1 ∷ body_of p
front_of-push header h p = ap (λ (l : List ℕ). header_bytes header ++ l) (records-push h p) ∙ sym (append_assoc (header_bytes header) (records h) (1 ∷ body_of p))

pub payloads-push : (h : Payloads) (p : List ℕ) → ArePayloads h → IsPayload p → ArePayloads (h ++ p ∷ [])
payloads-push [] p are is = (is, tt)
payloads-push (q ∷ h) p are is = (are.0, payloads-push h p are.1 is)

pub payloads-front : (h : Payloads) (p : List ℕ) → ArePayloads (h ++ p ∷ []) → ArePayloads h
payloads-front [] p are = tt
payloads-front (q ∷ h) p are = (are.0, payloads-front h p are.1)

-- the place behind one more payload
pub gate_place-push : (h : Payloads) (p : List ℕ) → gate_place (h ++ p ∷ []) ≡ gate_place h + (length p + 5)
gate_place-push h p = omega (arith, ap length (records-push h p), length-append (records h) (1 ∷ body_of p))

-- the file goes on behind its gate
pub gate_in : (header : Header) (file : List ℕ) (h : Payloads) → StandsFor header file h → gate_place h + 1 ≤ length file
gate_in header file h s = omega (arith, length-front_of header h, ap length s.whole, length-append (front_of header h) (s.gate ∷ s.free))

-- what is written behind the gate leaves what the file stands for
pub stage_keeps : (header : Header) (d c : List ℕ) (h : Payloads) (n : ℕ) → StandsFor header d h → Torn (gate_place h + 1) n d c → StandsFor header c h
stage_keeps header d c h n s torn =
    let whole : d ≡ (front_of header h ++ s.gate ∷ []) ++ s.free = s.whole ∙ sym (append_assoc (front_of header h) (s.gate ∷ []) s.free) in
    let place : gate_place h + 1 ≡ length (front_of header h ++ s.gate ∷ []) = omega (arith, length-front_of header h, length-append (front_of header h) (s.gate ∷ [])) in
    let torn' = subst (λ (l : List ℕ). Torn (gate_place h + 1) n l c) whole torn in
    let is = torn_front (front_of header h ++ s.gate ∷ []) s.free c (gate_place h + 1) n place torn' in
    record { gate = s.gate; free = drop (gate_place h + 1) c; closed = s.closed; whole = is ∙ append_assoc (front_of header h) (s.gate ∷ []) (drop (gate_place h + 1) c); sizes = s.sizes }

-- so does a cut behind it
pub cut_keeps : (header : Header) (d c : List ℕ) (h : Payloads) → StandsFor header d h → Cut (gate_place h + 1) d c → StandsFor header c h
cut_keeps header d c h s cut =
    let whole : d ≡ (front_of header h ++ s.gate ∷ []) ++ s.free = s.whole ∙ sym (append_assoc (front_of header h) (s.gate ∷ []) s.free) in
    let place : gate_place h + 1 ≡ length (front_of header h ++ s.gate ∷ []) = omega (arith, length-front_of header h, length-append (front_of header h) (s.gate ∷ [])) in
    let cut' = subst (λ (l : List ℕ). Cut (gate_place h + 1) l c) whole cut in
    let is = cut_front (front_of header h ++ s.gate ∷ []) s.free c (gate_place h + 1) place cut' in
    record { gate = s.gate; free = drop (gate_place h + 1) c; closed = s.closed; whole = is ∙ append_assoc (front_of header h) (s.gate ∷ []) (drop (gate_place h + 1) c); sizes = s.sizes }

-- once it is written whole, the file with its gate open stands for the payloads with it
pub staged : (header : Header) (d c : List ℕ) (h : Payloads) (p : List ℕ) → IsPayload p → StandsFor header d h → c ≡ overwrite (gate_place h + 1) (body_of p ++ 0 ∷ []) d → WithGateOpen header h p c
staged header d c h p payload s is =
    let k = gate_place h in
    let block = body_of p ++ 0 ∷ [] in
    let whole : d ≡ (front_of header h ++ s.gate ∷ []) ++ s.free = s.whole ∙ sym (append_assoc (front_of header h) (s.gate ∷ []) s.free) in
    let place : k + 1 ≡ length (front_of header h ++ s.gate ∷ []) = omega (arith, length-front_of header h, length-append (front_of header h) (s.gate ∷ [])) in
    let rest = drop (k + 1 + length block) ((front_of header h ++ s.gate ∷ []) ++ s.free) in
    let c_is : c ≡ front_of header h ++ s.gate ∷ (block ++ rest) = is ∙ ap (λ (l : List ℕ). overwrite (k + 1) block l) whole ∙ overwrite_front (front_of header h ++ s.gate ∷ []) s.free block (k + 1) place ∙ append_assoc (front_of header h) (s.gate ∷ []) (block ++ rest) in
    let set_is : slice_set c k 1 ≡ front_of header h ++ 1 ∷ (block ++ rest) = ap (λ (l : List ℕ). slice_set l k 1) c_is ∙ set_behind (front_of header h) s.gate (block ++ rest) k (sym (length-front_of header h)) in
    record {
      gate = 0;
      free = rest;
      closed = omega arith;
      whole = set_is ∙ ap (λ (l : List ℕ). front_of header h ++ 1 ∷ l) (append_assoc (body_of p) (0 ∷ []) rest)
          ∙ sym (append_assoc (front_of header h) (1 ∷ body_of p) (0 ∷ rest)) ∙ ap (λ (l : List ℕ). l ++ 0 ∷ rest) (sym (front_of-push header h p));
      sizes = payloads-push h p s.sizes payload;
    }
  where
    set_behind : (xs : List ℕ) (x : ℕ) (ys : List ℕ) (k : ℕ) → k ≡ length xs → slice_set (xs ++ x ∷ ys) k 1 ≡ xs ++ 1 ∷ ys
    set_behind [] x ys zero is = refl
    set_behind [] x ys (suc k) is = absurd (omega arith)
    set_behind (a ∷ xs) x ys zero is = absurd (omega arith)
    set_behind (a ∷ xs) x ys (suc k) is = ap (λ (l : List ℕ). a ∷ l) (set_behind xs x ys k (omega arith))

-- the gate lies in such a file
pub gate_inside : (header : Header) (c : List ℕ) (h : Payloads) (p : List ℕ) → WithGateOpen header h p c → gate_place h < length c
gate_inside header c h p s = omega (arith, ap length s.whole, length-append (front_of header (h ++ p ∷ [])) (s.gate ∷ s.free), length-front_of header (h ++ p ∷ []), gate_place-push h p, length-slice_set c (gate_place h) 1)

-- such a file stands for the payloads, or for them with it
pub either : (header : Header) (c : List ℕ) (h : Payloads) (p : List ℕ) → WithGateOpen header h p c → BeforeOrWith header h p c
either header c h p s = elim (cases_eq (get_or c k 0) 1) [
  | inl is_open ↦ inr (subst (λ (l : List ℕ). StandsFor header l (h ++ p ∷ [])) (set_split c k 1 inside ∙ sym (split_at c k inside ∙ ap (λ (x : ℕ). take k c ++ x ∷ drop (k + 1) c) is_open)) s)
  | inr shut ↦ inl (record {
    gate = get_or c k 0;
    free = drop (k + 1) c;
    closed = shut;
    whole = split_at c k inside ∙ ap (λ (l : List ℕ). l ++ get_or c k 0 ∷ drop (k + 1) c) before;
    sizes = payloads-front h p s.sizes;
  })
]
  where
    k : ℕ
    k = gate_place h

    inside : gate_place h < length c
    inside = gate_inside header c h p s

    parts : take (gate_place h) c ++ 1 ∷ drop (gate_place h + 1) c ≡ front_of header h ++ 1 ∷ (body_of p ++ s.gate ∷ s.free)
    parts = sym (set_split c (gate_place h) 1 inside) ∙ s.whole ∙ ap (λ (l : List ℕ). l ++ s.gate ∷ s.free) (front_of-push header h p) ∙ append_assoc (front_of header h) (1 ∷ body_of p) (s.gate ∷ s.free)

    before : take (gate_place h) c ≡ front_of header h
    before = same_front (take (gate_place h) c) (front_of header h) (1 ∷ drop (gate_place h + 1) c) (1 ∷ (body_of p ++ s.gate ∷ s.free)) (length-take_le (gate_place h) c (omega (arith, inside)) ∙ sym (length-front_of header h)) parts

-- a torn write of the gate leaves such a file
pub gate_torn : (header : Header) (d c : List ℕ) (h : Payloads) (p : List ℕ) → WithGateOpen header h p d → Torn (gate_place h) 1 d c → WithGateOpen header h p c
gate_torn header d c h p s torn = subst (λ (l : List ℕ). StandsFor header l (h ++ p ∷ [])) (sym (torn_set d c (gate_place h) 1 (gate_inside header d h p s) torn)) s

-- and a whole one opens it
pub gate_written : (header : Header) (d c : List ℕ) (h : Payloads) (p : List ℕ) → WithGateOpen header h p d → c ≡ overwrite (gate_place h) (1 ∷ []) d → StandsFor header c (h ++ p ∷ [])
gate_written header d c h p s is = subst (λ (l : List ℕ). StandsFor header l (h ++ p ∷ [])) (sym (is ∙ overwrite_set d (gate_place h) 1 (gate_inside header d h p s))) s

-- once a payload is written behind the gate for good, each image with its gate open stands for it too
pub staged_images : (header : Header) (old new : DiskState) (gate : ℕ) (h : Payloads) (p : List ℕ) → gate ≡ gate_place h → IsPayload p → StandsFor header old.reads h → IsKept (overwrite (gate + 1) (body_of p ++ 0 ∷ []) old.reads) new → EachImage new (WithGateOpen header h p)
staged_images header old new gate h p place payload s kept x now =
    staged header old.reads x h p payload s (kept.quiet x now ∙ kept.reads ∙ ap (λ (k : ℕ). overwrite (k + 1) (body_of p ++ 0 ∷ []) old.reads) place)

-- and where the file ended right behind its gate, each image ends right behind the next
pub staged_ends : (old new : DiskState) (gate : ℕ) (h : Payloads) (p : List ℕ) → gate ≡ gate_place h → EndsBehind h old.reads → IsKept (overwrite (gate + 1) (body_of p ++ 0 ∷ []) old.reads) new → EachImage new (EndsBehind (h ++ p ∷ []))
staged_ends old new gate h p place ends kept x now =
    let block = body_of p ++ 0 ∷ [] in
    let at : gate + 1 ≡ length old.reads = omega (arith, place, ends) in
    ap length (kept.quiet x now ∙ kept.reads ∙ ap (λ (k : ℕ). overwrite k block old.reads) at) ∙ length-overwrite_end old.reads block
    ∙ (let size : length old.reads + length block ≡ gate_place (h ++ p ∷ []) + 1 = omega (arith, ends, length-append (body_of p) (0 ∷ []), gate_place-push h p) in size)

-- the file cut behind its gate
pub cut_done : (header : Header) (d : List ℕ) (h : Payloads) → StandsFor header d h → StandsFor header (take (gate_place h + 1) d) h
cut_done header d h s = cut_keeps header d (take (gate_place h + 1) d) h s (record { before = again (gate_place h + 1) d; no_longer = shorter (gate_place h + 1) d })
  where
    again : (n : ℕ) (l : List ℕ) → take n (take n l) ≡ take n l
    again zero l = refl
    again (suc n) [] = refl
    again (suc n) (x ∷ l) = ap (λ (m : List ℕ). x ∷ m) (again n l)

    shorter : (n : ℕ) (l : List ℕ) → length (take n l) ≤ length l
    shorter zero l = omega arith
    shorter (suc n) [] = omega arith
    shorter (suc n) (x ∷ l) = omega (arith, shorter n l)
