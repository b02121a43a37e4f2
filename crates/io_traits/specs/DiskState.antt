-- What an honest disk tells: what a read gives, what a crash may leave, and what each call does to them.
use Rattle.std.specs.Prelude.{◌≡◌, ◌⊎◌, ◌+◌, ◌≤◌, ℕ, Bool, IsTrue, List, ◌++◌, length, take, drop, min}

-- what a disk tells of itself
pub record DiskState : Type 1 where
  -- whether the rest is so; what a disk that isn't honest tells means nothing
  pub honest : Bool
  -- the bytes that a read gives
  pub reads : List ℕ
  -- whether a crash now may leave these bytes
  pub image : List ℕ → Type 0
  -- the moment, a number that doesn't fall
  pub moment : ℕ
  -- whether a crash at some moment from that one on may have left these bytes
  pub image_since : ℕ → List ℕ → Type 0

-- the disk is honest: what it tells is so
abbrev pub IsHonest : DiskState → Type 0
IsHonest told = IsTrue told.honest

-- A write of n bytes that a crash may cut short. In its range and past the old end stand any bytes, or
-- they are missing from the end; bytes outside stay.
pub record Torn (at n : ℕ) (old new : List ℕ) : Type 0 where
  pub before : take (length (take at old)) new ≡ take at old
  pub behind : drop (at + n) new ≡ drop (at + n) old
  pub no_shorter : length old ≤ length new

-- A cut that a crash may stop. In the part cut off stand any bytes, or they are missing from the end.
pub record Cut (len : ℕ) (old new : List ℕ) : Type 0 where
  pub before : take len new ≡ take len old
  pub no_longer : length new ≤ length old

-- these are what such a step makes of one of those before it
abbrev pub After : (List ℕ → List ℕ → Type 0) → (List ℕ → Type 0) → List ℕ → Type 0
After step old c = (d : List ℕ) × old d × step d c

-- each of these is made by such a step
abbrev pub Follow : (List ℕ → List ℕ → Type 0) → (List ℕ → Type 0) → (List ℕ → Type 0) → Type 0
Follow step old new = (c : List ℕ) → new c → After step old c

-- all that such a step can make is among these
abbrev pub Allow : (List ℕ → List ℕ → Type 0) → (List ℕ → Type 0) → (List ℕ → Type 0) → Type 0
Allow step old new = (c : List ℕ) → After step old c → new c

-- each image that a crash now may leave has P
abbrev pub EachImage : DiskState → (List ℕ → Type 0) → Type 0
EachImage told P = (c : List ℕ) → told.image c → P c

-- the only image is what a read gives
abbrev pub IsQuiet : DiskState → Type 0
IsQuiet told = (c : List ℕ) → told.image c → c ≡ told.reads

-- time goes on: what may have been left since t is what may have been left since t before, or may be left now
pub record Elapse (old new : DiskState) : Type 0 where
  pub later : old.moment ≤ new.moment
  pub no_other : (t : ℕ) (c : List ℕ) → t ≤ old.moment → new.image_since t c → old.image_since t c ⊎ new.image c
  pub keeps : (t : ℕ) (c : List ℕ) → t ≤ old.moment → old.image_since t c → new.image_since t c

-- each image at each moment from old to new, both of them and all between, has P
pub record EachMoment (old new : DiskState) (P : List ℕ → Type 0) : Type 0 where
  pub later : old.moment ≤ new.moment
  pub each : (c : List ℕ) → new.image_since old.moment c → P c
  -- for a run that began earlier
  pub before : (t : ℕ) (c : List ℕ) → t ≤ old.moment → new.image_since t c → old.image_since t c ⊎ P c

-- a call that only looks: a read gives the same bytes, and a crash may leave the same images
pub record IsRead (old new : DiskState) : Type 0 where
  pub reads : new.reads ≡ old.reads
  pub images : (c : List ℕ) → new.image c → old.image c
  pub keeps : (c : List ℕ) → old.image c → new.image c
  pub time : Elapse old new

-- a sync, done or failed: it makes no image
pub record IsSync (old new : DiskState) : Type 0 where
  pub reads : new.reads ≡ old.reads
  pub images : (c : List ℕ) → new.image c → old.image c
  pub time : Elapse old new

-- the bytes from `at` on, as many as fit, at the front of a buffer
pub record Fronts (bytes : List ℕ) (at n : ℕ) (old new : List ℕ) : Type 0 where
  pub count : n ≡ min (length (drop at bytes)) (length old)
  pub filled : new ≡ take n (drop at bytes) ++ drop n old

-- these bytes in the place of those that stood there, and past the end
abbrev pub overwrite : ℕ → List ℕ → List ℕ → List ℕ
overwrite at bytes old = take at old ++ bytes ++ drop (at + length bytes) old

-- a write of n bytes at an offset, done or failed
pub record IsWrite (at n : ℕ) (old new : DiskState) : Type 0 where
  pub images : Follow (Torn at n) old.image new.image
  pub time : Elapse old new

-- a cut to a length, done or failed
pub record IsCut (len : ℕ) (old new : DiskState) : Type 0 where
  pub images : Follow (Cut len) old.image new.image
  pub time : Elapse old new

-- these bytes stand there for good: what a read gives is the only image
pub record IsKept (bytes : List ℕ) (new : DiskState) : Type 0 where
  pub reads : new.reads ≡ bytes
  pub quiet : IsQuiet new

-- a write of n bytes and a sync behind it, done or failed
pub record IsKeptWrite (at n : ℕ) (old new : DiskState) : Type 0 where
  pub images : Follow (Torn at n) old.image new.image
  pub moments : EachMoment old new (After (Torn at n) old.image)

-- a cut and a sync behind it, done or failed
pub record IsKeptCut (len : ℕ) (old new : DiskState) : Type 0 where
  pub images : Follow (Cut len) old.image new.image
  pub moments : EachMoment old new (After (Cut len) old.image)

-- only a sync behind whatever came before, done or failed: no image is made, at any moment
pub record IsKeptSync (old new : DiskState) : Type 0 where
  pub reads : new.reads ≡ old.reads
  pub images : (c : List ℕ) → new.image c → old.image c
  pub moments : EachMoment old new old.image
