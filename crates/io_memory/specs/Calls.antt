-- A disk in memory: what its calls made of the bytes that it began with.
use Rattle.std.specs.Prelude.{◌≡◌, ◌+◌, ◌≤◌, ℕ, true, List, [], ◌∷◌, ◌++◌, length, take, drop, max}
use Rattle.std.specs.List.{fold}
use Rattle.io_traits.specs.DiskState.{DiskState, Torn, Cut, After}
use Rattle.io_memory.specs.declared.call.DiskCall.{DiskCall}
use Rattle.io_memory.specs.declared.call.DiskCall.TheVariants.{Len, Read, Write, Cut as Cuts, Sync, FailedSync}

-- what a write of n bytes left of them: these at its place, no more than n, and the rest as it was
abbrev pub written : ℕ → ℕ → List ℕ → List ℕ → List ℕ
written at n left old = take at old ++ (take n left ++ drop (at + length (take n left)) old)

-- what a cut left: the front, and these in the part cut off, no more than that had
abbrev pub cut_off : ℕ → List ℕ → List ℕ → List ℕ
cut_off len left old = take len old ++ take (length (drop len old)) left

-- what a read gives after this call
abbrev pub reads_by : DiskCall → List ℕ → List ℕ
reads_by (Write at n left) reads = written at n left.items reads
reads_by (Cuts len left) reads = cut_off len left.items reads
reads_by other reads = reads

-- what a crash may leave after this call: any bytes in the range written or cut off, until a sync succeeds
abbrev pub image_by : DiskCall → List ℕ → (List ℕ → Type 0) → List ℕ → Type 0
image_by (Write at n left) reads image = After (Torn at n) image
image_by (Cuts len left) reads image = After (Cut len) image
image_by Sync reads image = λ d. d ≡ reads
image_by other reads image = image

-- what a read gives after these calls
abbrev pub reads_after : List ℕ → List DiskCall → List ℕ
reads_after reads [] = reads
reads_after reads (call ∷ calls) = reads_after (reads_by call reads) calls

-- what a crash may leave after these calls
abbrev pub image_after : List ℕ → (List ℕ → Type 0) → List DiskCall → List ℕ → Type 0
image_after reads image [] = image
image_after reads image (call ∷ calls) = image_after (reads_by call reads) (image_by call reads image) calls

-- what a disk tells that began with these bytes, all of them on it, and has had these calls
abbrev pub telling : List ℕ → List ℕ → List DiskCall → DiskState
telling start bytes calls = record {
  honest = true;
  reads = bytes;
  image = image_after start (λ d. d ≡ start) calls;
  moment = length calls;
  image_since = λ t c. (k : ℕ) × (t ≤ k) × (k ≤ length calls) × image_after start (λ d. d ≡ start) (take k calls) c;
}

-- how long a buffer this call had for what it read
abbrev pub buffer_of : DiskCall → ℕ
buffer_of (Read buffer) = buffer
buffer_of other = 0

-- the greatest length of a buffer that was handed to a read
abbrev pub longest_buffer : List DiskCall → ℕ
longest_buffer calls = fold (λ longest call. max longest (buffer_of call)) 0 calls

-- a call that leaves all as it is
abbrev pub IsLook : DiskCall → Type 0
IsLook Len = Unit {0}
IsLook (Read buffer) = Unit {0}
IsLook FailedSync = Unit {0}
IsLook other = ⊥
