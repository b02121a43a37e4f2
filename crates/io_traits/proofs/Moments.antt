-- How a run of calls goes on, and what a torn write leaves alone.
use Rattle.std.proofs.Common.{◌≡◌, inl, inr, ⊎_elim, ℕ, zero, suc, List, [], ◌∷◌, length, take, refl, ◌∙◌, ap, arith, sym, subst}
use Rattle.io_traits.specs.DiskState.{DiskState, Torn, Cut, Elapse, EachMoment, EachImage, IsQuiet, IsRead, IsWrite, IsCut, IsSync}

take-length-take : (n : ℕ) (s : List ℕ) → take (length (take n s)) s ≡ take n s
take-length-take zero s = refl
take-length-take (suc n) [] = refl
take-length-take (suc n) (x ∷ s) = ap (λ (l : List ℕ). x ∷ l) (take-length-take n s)

-- nothing may have been written
pub torn_none : (at n : ℕ) (s : List ℕ) → Torn at n s s
torn_none at n s = record { before = take-length-take at s; behind = refl; no_shorter = omega arith }

-- nothing may have been cut
pub cut_none : (len : ℕ) (s : List ℕ) → Cut len s s
cut_none len s = record { before = refl; no_longer = omega arith }

-- before the first call
pub started : (old : DiskState) (P : List ℕ → Type 0) → ((c : List ℕ) → old.image_since old.moment c → P c) → EachMoment old old P
started old P here = record { later = omega arith; each = here; before = λ t c le left. inl left }

-- one call more, after which each image has P
pub goes_on : (old mid new : DiskState) (P : List ℕ → Type 0) → EachMoment old mid P → Elapse mid new → ((c : List ℕ) → new.image c → P c) → EachMoment old new P
goes_on old mid new P so_far time here = record {
  later = omega (arith, so_far.later, time.later);
  each = λ c left. ⊎_elim (so_far.each c) (here c) (time.no_other old.moment c so_far.later left);
  before = λ t c le left. ⊎_elim (so_far.before t c le) (λ now. inr (here c now)) (time.no_other t c (omega (arith, le, so_far.later)) left);
}

-- what holds of each image at each moment may be said more weakly
pub weaken : (old new : DiskState) (P Q : List ℕ → Type 0) → ((c : List ℕ) → P c → Q c) → EachMoment old new P → EachMoment old new Q
weaken old new P Q weaker m = record {
  later = m.later;
  each = λ c left. weaker c (m.each c left);
  before = λ t c le left. ⊎_elim (λ was. inl was) (λ here. inr (weaker c here)) (m.before t c le left);
}

-- one run after another
pub join : (old mid new : DiskState) (P : List ℕ → Type 0) → EachMoment old mid P → EachMoment mid new P → EachMoment old new P
join old mid new P first second = record {
  later = omega (arith, first.later, second.later);
  each = λ c left. ⊎_elim (first.each c) (λ here. here) (second.before old.moment c first.later left);
  before = λ t c le left. ⊎_elim (first.before t c le) (λ here. inr here) (second.before t c (omega (arith, le, first.later)) left);
}

-- one look after another
pub read_again : (old mid new : DiskState) → IsRead old mid → IsRead mid new → IsRead old new
read_again old mid new first second = record {
  reads = second.reads ∙ first.reads;
  images = λ c now. first.images c (second.images c now);
  keeps = λ c was. second.keeps c (first.keeps c was);
  time = record {
    later = omega (arith, first.time.later, second.time.later);
    no_other = λ t c le left. ⊎_elim
        (λ here. ⊎_elim (λ was. inl was) (λ image. inr (second.keeps c image)) (first.time.no_other t c le here))
        (λ image. inr image)
        (second.time.no_other t c (omega (arith, le, first.time.later)) left);
    keeps = λ t c le left. second.time.keeps t c (omega (arith, le, first.time.later)) (first.time.keeps t c le left);
  };
}

-- while a disk is only looked at, each image is one of those before
pub read_moments : (old new : DiskState) → ((c : List ℕ) → old.image_since old.moment c → old.image c) → IsRead old new → EachMoment old new old.image
read_moments old new only read = goes_on old old new old.image (started old old.image only) read.time read.images

-- what holds of what a quiet disk reads holds of each image
pub each_if_quiet : (told : DiskState) (P : List ℕ → Type 0) → IsQuiet told → P told.reads → EachImage told P
each_if_quiet told P quiet holds c now = subst P (sym (quiet c now)) holds

-- a look leaves what holds of each image
pub each_after_read : (old new : DiskState) (P : List ℕ → Type 0) → EachImage old P → IsRead old new → EachImage new P
each_after_read old new P each read c now = each c (read.images c now)

-- while a disk is only looked at, what holds of each image does at each moment
pub each_moment_of_read : (old new : DiskState) (P : List ℕ → Type 0) → ((c : List ℕ) → old.image_since old.moment c → old.image c) → EachImage old P → IsRead old new → EachMoment old new P
each_moment_of_read old new P only each read = weaken old new old.image P each (read_moments old new only read)

-- where nothing was done no time went by
pub no_time : (told : DiskState) → Elapse told told
no_time told = record { later = omega arith; no_other = λ t c le left. inl left; keeps = λ t c le left. left }

-- a call of which nothing is left is a look, a write, a cut and a sync
pub looked : (told : DiskState) → IsRead told told
looked told = record { reads = refl; images = λ c now. now; keeps = λ c now. now; time = no_time told }

pub unwritten : (at n : ℕ) (told : DiskState) → IsWrite at n told told
unwritten at n told = record { images = λ c now. (c, now, torn_none at n c); time = no_time told }

pub uncut : (len : ℕ) (told : DiskState) → IsCut len told told
uncut len told = record { images = λ c now. (c, now, cut_none len c); time = no_time told }

pub unsynced : (told : DiskState) → IsSync told told
unsynced told = record { reads = refl; images = λ c now. now; time = no_time told }
