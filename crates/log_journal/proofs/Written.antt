-- What the images stand for when the next payload is written ahead and a gate is opened.
use Rattle.std.proofs.Common.{◌≡◌, ◌⊎◌, inl, inr, ℕ, zero, suc, ◌+◌, ◌-◌, ◌<◌, ◌≤◌, List, [], ◌∷◌, ◌++◌, length, take, drop, refl, sym, ◌∙◌, ap, subst, arith, append_assoc, length-append, length-drop, take-append-drop}
use Rattle.std.proofs.lemmas.List.{append-nil}
use Rattle.std.specs.Prelude.{slice_set}
use Rattle.io_traits.specs.DiskState.{DiskState, Torn, EachImage, EachMoment, IsWrite, overwrite}
use Rattle.io_traits.proofs.Moments.{started, goes_on}
use Rattle.log_journal.specs.Ahead.{block_of, IsAhead, HasNext}
use Rattle.log_journal.specs.Stands.{Payloads, StandsFor, WithGateOpen, gate_place, front_of, body_of}
use Rattle.log_journal.specs.declared.header.Header.{Header}
use Rattle.log_journal.proofs.Headers.{length-front_of}
use Rattle.log_journal.proofs.Bytes.{torn_front, overwrite_set, length-take_le, length-slice_set}
use Rattle.log_journal.proofs.Gates.{gate_in, gate_inside, gate_place-push, staged}

-- a block of a payload that is one
pub block_some : (p : List ℕ) → 1 ≤ length p → block_of p ≡ body_of p ++ 0 ∷ []
block_some [] some = absurd (omega arith)
block_some (b ∷ p) some = refl

pub length-block_some : (p : List ℕ) → 1 ≤ length p → length p + 5 ≡ length (block_of p)
length-block_some [] some = absurd (omega arith)
length-block_some (b ∷ p) some = omega (arith, length-append (body_of (b ∷ p)) (0 ∷ []))

pub length-block_of : (p : List ℕ) → length p ≤ 8192 → length (block_of p) ≤ 8197
length-block_of [] le = omega arith
length-block_of (b ∷ p) le = omega (arith, le, length-append (body_of (b ∷ p)) (0 ∷ []))

-- a list without length has nothing
pub nothing : (l : List ℕ) → length l ≡ 0 → l ≡ []
nothing [] none = refl
nothing (x ∷ l) none = absurd (omega (arith, none))

-- what is written of a part that is all or nothing is no more than all
pub length-block_part : (part p : List ℕ) → (part ≡ p) ⊎ (part ≡ []) → length (block_of part) ≤ length (block_of p)
length-block_part part p (inl all) = omega (arith, ap (λ (l : List ℕ). length (block_of l)) all)
length-block_part part p (inr none) = omega (arith, ap (λ (l : List ℕ). length (block_of l)) none)

pub part_none : (part p : List ℕ) → (part ≡ p) ⊎ (part ≡ []) → p ≡ [] → part ≡ []
part_none part p (inl all) is = all ∙ is
part_none part p (inr none) is = none

overwrite_none : (at : ℕ) (file : List ℕ) → overwrite at [] file ≡ file
overwrite_none at file =
    let same : at + 0 ≡ at = omega arith in
    ap (λ (n : ℕ). take at file ++ [] ++ drop n file) same ∙ ap (λ (l : List ℕ). l ++ drop at file) (append-nil (take at file)) ∙ take-append-drop at file

-- where there is none, nothing is written
pub none_written : (at : ℕ) (next file : List ℕ) → next ≡ [] → file ≡ overwrite at (block_of next) file
none_written at next file none = sym (ap (λ (l : List ℕ). overwrite at (block_of l) file) none ∙ overwrite_none at file)

-- a torn write makes a file no longer than its own end and the file's
pub torn_within : (d c : List ℕ) (at n end : ℕ) → length d ≤ end → at + n ≤ end → Torn at n d c → length c ≤ end
torn_within d c at n end le in_end torn = omega (arith, le, in_end, length-drop (at + n) c, length-drop (at + n) d, ap length torn.behind)

take-set : (n : ℕ) (l : List ℕ) (k v : ℕ) → take n (slice_set l k v) ≡ slice_set (take n l) k v
take-set zero l k v = refl
take-set (suc n) [] k v = refl
take-set (suc n) (x ∷ l) zero v = refl
take-set (suc n) (x ∷ l) (suc k) v = ap (λ (m : List ℕ). x ∷ m) (take-set n l k v)

drop-set : (n : ℕ) (l : List ℕ) (k v : ℕ) → k < n → drop n (slice_set l k v) ≡ drop n l
drop-set zero l k v lt = absurd (omega arith)
drop-set (suc n) [] k v lt = refl
drop-set (suc n) (x ∷ l) zero v lt = refl
drop-set (suc n) (x ∷ l) (suc k) v lt = drop-set n l k v (omega (arith, lt))

-- a byte before a torn write may be set before it or behind it
torn_set_before : (d c : List ℕ) (k v at n : ℕ) → k < at → Torn at n d c → Torn at n (slice_set d k v) (slice_set c k v)
torn_set_before d c k v at n lt torn = record {
  before = ap (λ (l : List ℕ). take (length l) (slice_set c k v)) (take-set at d k v)
      ∙ ap (λ (m : ℕ). take m (slice_set c k v)) (length-slice_set (take at d) k v)
      ∙ take-set (length (take at d)) c k v ∙ ap (λ (l : List ℕ). slice_set l k v) torn.before ∙ sym (take-set at d k v);
  behind = drop-set (at + n) c k v (omega (arith, lt)) ∙ torn.behind ∙ sym (drop-set (at + n) d k v (omega (arith, lt)));
  no_shorter = omega (arith, length-slice_set c k v, length-slice_set d k v, torn.no_shorter);
}

-- what is written anywhere behind the gate leaves what the file stands for
pub behind_keeps : (header : Header) (d c : List ℕ) (h : Payloads) (at n : ℕ) → StandsFor header d h → gate_place h + 1 ≤ at → at ≤ length d → Torn at n d c → StandsFor header c h
behind_keeps header d c h at n s le inside torn =
    let k = at - (gate_place h + 1) in
    let front = front_of header h ++ s.gate ∷ [] in
    let xs = front ++ take k s.free in
    let whole : d ≡ xs ++ drop k s.free = s.whole ∙ sym (append_assoc (front_of header h) (s.gate ∷ []) s.free)
    ∙ ap (λ (l : List ℕ). front ++ l) (sym (take-append-drop k s.free)) ∙ sym (append_assoc front (take k s.free) (drop k s.free)) in
    let size : length front ≡ gate_place h + 1 = omega (arith, length-front_of header h, length-append (front_of header h) (s.gate ∷ [])) in
    let room : k ≤ length s.free = omega (arith, inside, size, ap length s.whole, length-append (front_of header h) (s.gate ∷ s.free), length-front_of header h) in
    let place : at ≡ length xs = omega (arith, le, size, length-append front (take k s.free), length-take_le k s.free room) in
    let is = torn_front xs (drop k s.free) c at n place (subst (λ (l : List ℕ). Torn at n l c) whole torn) in
    record {
      gate = s.gate;
      free = take k s.free ++ drop at c;
      closed = s.closed;
      whole = is ∙ append_assoc front (take k s.free) (drop at c) ∙ append_assoc (front_of header h) (s.gate ∷ []) (take k s.free ++ drop at c);
      sizes = s.sizes;
    }

-- a torn write behind a payload that stands behind the gate leaves that
pub ahead_torn : (header : Header) (d c : List ℕ) (h : Payloads) (p : List ℕ) (n : ℕ) → WithGateOpen header h p d → Torn (gate_place (h ++ p ∷ []) + 1) n d c → WithGateOpen header h p c
ahead_torn header d c h p n s torn =
    let k = gate_place h in
    let at = gate_place (h ++ p ∷ []) + 1 in
    behind_keeps header (slice_set d k 1) (slice_set c k 1) (h ++ p ∷ []) at n s (omega arith)
    (gate_in header (slice_set d k 1) (h ++ p ∷ []) s) (torn_set_before d c k 1 at n (omega (arith, gate_place-push h p)) torn)

-- the file goes on behind the payload that stands behind the gate
pub ahead_in : (header : Header) (d : List ℕ) (h : Payloads) (p : List ℕ) → WithGateOpen header h p d → gate_place (h ++ p ∷ []) + 1 ≤ length d
ahead_in header d h p s = omega (arith, gate_in header (slice_set d (gate_place h) 1) (h ++ p ∷ []) s, length-slice_set d (gate_place h) 1)

set_front : (xs ys : List ℕ) (k v : ℕ) → k < length xs → slice_set (xs ++ ys) k v ≡ slice_set xs k v ++ ys
set_front [] ys k v lt = absurd (omega (arith, lt))
set_front (x ∷ xs) ys zero v lt = refl
set_front (x ∷ xs) ys (suc k) v lt = ap (λ (l : List ℕ). x ∷ l) (set_front xs ys k v (omega (arith, lt)))

-- a byte before a write may be set before it or behind it
overwrite_set_before : (file bytes : List ℕ) (k v at : ℕ) → k < at → at ≤ length file → slice_set (overwrite at bytes file) k v ≡ overwrite at bytes (slice_set file k v)
overwrite_set_before file bytes k v at lt inside =
    let size : length (take at file) ≡ at = length-take_le at file inside in
    let rest = drop (at + length bytes) file in
    set_front (take at file ++ bytes) rest k v (omega (arith, lt, size, length-append (take at file) bytes))
    ∙ ap (λ (l : List ℕ). l ++ rest) (set_front (take at file) bytes k v (omega (arith, lt, size)))
    ∙ ap (λ (l : List ℕ). l ++ bytes ++ rest) (sym (take-set at file k v))
    ∙ ap (λ (l : List ℕ). take at (slice_set file k v) ++ bytes ++ l) (sym (drop-set (at + length bytes) file k v (omega (arith, lt))))

-- once the next payload is written whole behind a staged one, the file with both gates open stands for both
pub next_written : (header : Header) (d c : List ℕ) (h : Payloads) (p next : List ℕ) (behind : ℕ) → behind ≡ gate_place (h ++ p ∷ []) → length next ≤ 8192
    → WithGateOpen header h p d → c ≡ overwrite (behind + 1) (block_of next) d → HasNext header h p next c
next_written header d c h p next behind place fits s is some =
    let k = gate_place h in
    let at = gate_place (h ++ p ∷ []) + 1 in
    let block = body_of next ++ 0 ∷ [] in
    let whole : c ≡ overwrite at block d = is ∙ ap (λ (g : ℕ). overwrite (g + 1) (block_of next) d) place ∙ ap (λ (l : List ℕ). overwrite at l d) (block_some next some) in
    staged header (slice_set d k 1) (slice_set c k 1) (h ++ p ∷ []) next (record { some = some; fits = fits }) s
    (ap (λ (l : List ℕ). slice_set l k 1) whole ∙ overwrite_set_before d block k 1 at (omega (arith, gate_place-push h p)) (ahead_in header d h p s))

-- and once the gate of the first is open, the next stands behind its gate
pub opened_ahead : (header : Header) (d c : List ℕ) (h : Payloads) (p next : List ℕ) (gate : ℕ) → gate ≡ gate_place h → WithGateOpen header h p d → HasNext header h p next d
    → c ≡ overwrite gate (1 ∷ []) d → 1 ≤ length next → WithGateOpen header (h ++ p ∷ []) next c
opened_ahead header d c h p next gate place s there is some =
    subst (λ (l : List ℕ). WithGateOpen header (h ++ p ∷ []) next l)
    (sym (is ∙ ap (λ (k : ℕ). overwrite k (1 ∷ []) d) place ∙ overwrite_set d (gate_place h) 1 (gate_inside header d h p s))) (there some)

-- a write behind a staged payload, done or failed, leaves it
pub next_staged : (header : Header) (old new : DiskState) (h : Payloads) (p : List ℕ) (behind n : ℕ) → behind ≡ gate_place (h ++ p ∷ [])
    → EachImage old (WithGateOpen header h p) → IsWrite (behind + 1) n old new → EachImage new (WithGateOpen header h p)
next_staged header old new h p behind n place staged write c now =
    let from = write.images c now in
    ahead_torn header from.0 c h p n (staged from.0 from.1) (subst (λ (k : ℕ). Torn (k + 1) n from.0 c) place from.2)

-- and what the file stands for
pub next_stands : (header : Header) (old new : DiskState) (h : Payloads) (p : List ℕ) (behind n : ℕ) → behind ≡ gate_place (h ++ p ∷ [])
    → EachImage old (λ file. StandsFor header file h) → EachImage old (WithGateOpen header h p) → IsWrite (behind + 1) n old new → EachImage new (λ file. StandsFor header file h)
next_stands header old new h p behind n place each staged write c now =
    let from = write.images c now in
    behind_keeps header from.0 c h (behind + 1) n (each from.0 from.1) (omega (arith, place, gate_place-push h p))
    (omega (arith, place, ahead_in header from.0 h p (staged from.0 from.1))) from.2

-- nothing was written ahead
pub none_ahead : (header : Header) (told : DiskState) (h : Payloads) (ahead : List ℕ) → ahead ≡ [] → IsAhead header told h ahead
none_ahead header told h ahead none some = absurd (omega (arith, some, ap length none))

-- and what was written ahead, which is that payload or nothing
pub next_ahead : (header : Header) (told : DiskState) (h : Payloads) (p ahead : List ℕ) → (ahead ≡ p) ⊎ (ahead ≡ []) → EachImage told (WithGateOpen header h p) → IsAhead header told h ahead
next_ahead header told h p ahead (inl is) staged = λ some. subst (λ (q : List ℕ). EachImage told (WithGateOpen header h q)) (sym is) staged
next_ahead header told h p ahead (inr none) staged = none_ahead header told h ahead none

-- what was written ahead, if anything, lies in the file with its closed gate
pub ahead_inside : (header : Header) (d : List ℕ) (h : Payloads) (ahead : List ℕ) → StandsFor header d h → (1 ≤ length ahead → WithGateOpen header h ahead d)
    → gate_place h + 1 + length (block_of ahead) ≤ length d
ahead_inside header d h [] s stands = omega (arith, gate_in header d h s)
ahead_inside header d h (b ∷ p) s stands = omega (arith, ahead_in header d h (b ∷ p) (stands (omega arith)), gate_place-push h (b ∷ p), length-block_some (b ∷ p) (omega arith))

-- a write behind it, done or failed, leaves it and what the file stands for
pub lengthened_stands : (header : Header) (old new : DiskState) (h : Payloads) (ahead : List ℕ) (at n : ℕ) → at ≡ gate_place h + 1 + length (block_of ahead)
    → EachImage old (λ file. StandsFor header file h) → IsAhead header old h ahead → IsWrite at n old new → EachImage new (λ file. StandsFor header file h)
lengthened_stands header old new h ahead at n place each stands write c now =
    let from = write.images c now in
    behind_keeps header from.0 c h at n (each from.0 from.1) (omega (arith, place))
    (omega (arith, place, ahead_inside header from.0 h ahead (each from.0 from.1) (λ some. stands some from.0 from.1))) from.2

pub lengthened_ahead : (header : Header) (old new : DiskState) (h : Payloads) (ahead : List ℕ) (at n : ℕ) → at ≡ gate_place h + 1 + length (block_of ahead)
    → IsAhead header old h ahead → IsWrite at n old new → IsAhead header new h ahead
lengthened_ahead header old new h ahead at n place stands write some c now =
    let from = write.images c now in
    let behind : at ≡ gate_place (h ++ ahead ∷ []) + 1 = omega (arith, place, gate_place-push h ahead, length-block_some ahead some) in
    ahead_torn header from.0 c h ahead n (stands some from.0 from.1) (subst (λ (k : ℕ). Torn k n from.0 c) behind from.2)

-- and so at every moment of it
pub lengthened_moments : (header : Header) (old new : DiskState) (h : Payloads) (ahead : List ℕ) (at n : ℕ) → ((c : List ℕ) → old.image_since old.moment c → old.image c)
    → at ≡ gate_place h + 1 + length (block_of ahead) → EachImage old (λ file. StandsFor header file h) → IsAhead header old h ahead → IsWrite at n old new
    → EachMoment old new (λ file. StandsFor header file h)
lengthened_moments header old new h ahead at n only place each stands write =
    goes_on old old new (λ file. StandsFor header file h) (started old (λ file. StandsFor header file h) (λ c since. each c (only c since)))
    write.time (lengthened_stands header old new h ahead at n place each stands write)
