-- Lists of bytes: what a torn write, a write and a set byte leave of a front and of what follows it.
use Rattle.std.proofs.Common.{◌≡◌, ℕ, zero, suc, ◌+◌, ◌<◌, ◌≤◌, List, [], ◌∷◌, ◌++◌, length, take, drop, get_or, refl, sym, ◌∙◌, ap, arith, append_assoc, length-append, length-drop, take-append-drop}
use Rattle.std.proofs.lemmas.List.{take_at, drop_at, drop_more}
use Rattle.std.specs.Prelude.{slice_set}
use Rattle.io_traits.specs.DiskState.{Torn, Cut, overwrite}

length-take-at : (xs ys : List ℕ) (at : ℕ) → at ≡ length xs → length (take at (xs ++ ys)) ≡ at
length-take-at xs ys at is = ap length (take_at xs ys at (sym is)) ∙ sym is

-- a torn write behind a front leaves the front
pub torn_front : (xs ys c : List ℕ) (at n : ℕ) → at ≡ length xs → Torn at n (xs ++ ys) c → c ≡ xs ++ drop at c
torn_front xs ys c at n is torn =
    let t : take at c ≡ xs = ap (λ (k : ℕ). take k c) (sym (length-take-at xs ys at is)) ∙ torn.before ∙ take_at xs ys at (sym is) in
    sym (take-append-drop at c) ∙ ap (λ (l : List ℕ). l ++ drop at c) t

-- so does a cut
pub cut_front : (xs ys c : List ℕ) (at : ℕ) → at ≡ length xs → Cut at (xs ++ ys) c → c ≡ xs ++ drop at c
cut_front xs ys c at is cut =
    let t : take at c ≡ xs = cut.before ∙ take_at xs ys at (sym is) in
    sym (take-append-drop at c) ∙ ap (λ (l : List ℕ). l ++ drop at c) t

-- a write behind a front
pub overwrite_front : (xs ys bytes : List ℕ) (at : ℕ) → at ≡ length xs → overwrite at bytes (xs ++ ys) ≡ xs ++ (bytes ++ drop (at + length bytes) (xs ++ ys))
overwrite_front xs ys bytes at is =
    ap (λ (l : List ℕ). l ++ bytes ++ drop (at + length bytes) (xs ++ ys)) (take_at xs ys at (sym is)) ∙ append_assoc xs bytes (drop (at + length bytes) (xs ++ ys))

-- a list is what stands before a place, the byte there, and the rest
pub split_at : (c : List ℕ) (k : ℕ) → k < length c → c ≡ take k c ++ get_or c k 0 ∷ drop (k + 1) c
split_at c k lt = sym (take-append-drop k c) ∙ ap (λ (l : List ℕ). take k c ++ l) (drop_more c k 0 lt)

pub set_split : (c : List ℕ) (k v : ℕ) → k < length c → slice_set c k v ≡ take k c ++ v ∷ drop (k + 1) c
set_split [] k v lt = absurd (omega arith)
set_split (x ∷ c) zero v lt = refl
set_split (x ∷ c) (suc k) v lt =
    let next : suc (k + 1) ≡ suc k + 1 = omega arith in
    ap (λ (l : List ℕ). x ∷ l) (set_split c k v (omega arith)) ∙ ap (λ (n : ℕ). x ∷ (take k c ++ v ∷ drop n (x ∷ c))) next

pub length-slice_set : (c : List ℕ) (k v : ℕ) → length (slice_set c k v) ≡ length c
length-slice_set [] k v = refl
length-slice_set (x ∷ c) zero v = refl
length-slice_set (x ∷ c) (suc k) v = ap suc (length-slice_set c k v)

length-take : (k : ℕ) (c : List ℕ) → k ≤ length c → length (take k c) ≡ k
length-take zero c le = refl
length-take (suc k) [] le = absurd (omega arith)
length-take (suc k) (x ∷ c) le = ap suc (length-take k c (omega arith))

-- once the byte is set, a torn write of it makes no difference
pub torn_set : (d c : List ℕ) (k v : ℕ) → k < length d → Torn k 1 d c → slice_set c k v ≡ slice_set d k v
torn_set d c k v lt torn =
    let before : take k c ≡ take k d = ap (λ (n : ℕ). take n c) (sym (length-take k d (omega arith))) ∙ torn.before in
    set_split c k v (omega (arith, torn.no_shorter))
    ∙ ap (λ (l : List ℕ). l ++ v ∷ drop (k + 1) c) before
    ∙ ap (λ (l : List ℕ). take k d ++ v ∷ l) torn.behind
    ∙ sym (set_split d k v lt)

-- a write of one byte sets it
pub overwrite_set : (c : List ℕ) (k v : ℕ) → k < length c → overwrite k (v ∷ []) c ≡ slice_set c k v
overwrite_set c k v lt = append_assoc (take k c) (v ∷ []) (drop (k + 1) c) ∙ sym (set_split c k v lt)

-- a torn write inside a file leaves its length
pub torn_length : (d c : List ℕ) (k n : ℕ) → k + n ≤ length d → Torn k n d c → length c ≡ length d
torn_length d c k n le torn = omega (arith, torn.no_shorter, ap length torn.behind, length-drop (k + n) c, length-drop (k + n) d)

-- so does a write of one byte
pub length-overwrite_one : (c : List ℕ) (k v : ℕ) → k < length c → length (overwrite k (v ∷ []) c) ≡ length c
length-overwrite_one c k v lt = ap length (overwrite_set c k v lt) ∙ length-slice_set c k v

-- a write at the end of a file makes it longer by what is written
pub length-overwrite_end : (c bytes : List ℕ) → length (overwrite (length c) bytes c) ≡ length c + length bytes
length-overwrite_end c bytes =
    let k = length c in
    omega (arith, length-append (take k c ++ bytes) (drop (k + length bytes) c), length-append (take k c) bytes, length-take k c (omega arith), length-drop (k + length bytes) c)

-- two lists with fronts of one length are equal part by part
pub same_front : (xs xs' ys ys' : List ℕ) → length xs ≡ length xs' → xs ++ ys ≡ xs' ++ ys' → xs ≡ xs'
same_front xs xs' ys ys' len is = sym (take_at xs ys (length xs) refl) ∙ ap (λ (l : List ℕ). take (length xs) l) is ∙ take_at xs' ys' (length xs) (sym len)

pub same_back : (xs xs' ys ys' : List ℕ) → length xs ≡ length xs' → xs ++ ys ≡ xs' ++ ys' → ys ≡ ys'
same_back xs xs' ys ys' len is = sym (drop_at xs ys (length xs) refl) ∙ ap (λ (l : List ℕ). drop (length xs) l) is ∙ drop_at xs' ys' (length xs) (sym len)

pub length-take_le : (k : ℕ) (c : List ℕ) → k ≤ length c → length (take k c) ≡ k
length-take_le = length-take
