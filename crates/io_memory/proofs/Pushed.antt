-- What one call more does to what a disk in memory tells.
use Rattle.std.specs.Prelude.{OnOk, OnErr}
use Rattle.std.proofs.Common.{Result, Ok, Err, Bool, true, false, cond, ◌≡◌, ◌⊎◌, inl, inr, ℕ, ◌+◌, ◌≤◌, List, [], ◌∷◌, ◌++◌, length, take, drop, refl, sym, ◌∙◌, ap, subst, arith, append_assoc, length-append}
use Rattle.std.proofs.lemmas.Bool.{cases_eq}
use Rattle.std.proofs.lemmas.List.{take-append-le, take_all}
use Rattle.io_traits.specs.DiskState.{DiskState, Elapse, IsRead, IsSync, IsWrite, IsCut, IsQuiet, Torn, Cut, Allow, overwrite}
use Rattle.io_memory.specs.Calls.{telling, written, image_by, image_after, reads_by, reads_after, IsLook}
use Rattle.io_memory.specs.Laws.{image_push, reads_push}
use Rattle.io_memory.specs.declared.call.DiskCall.{DiskCall}
use Rattle.io_memory.specs.declared.call.DiskCall.TheVariants.{Len, Read, Write, Cut as Cuts, Sync, FailedSync}
use Rattle.io_traits.proofs.Moments.{looked, unsynced}
use Rattle.std.specs.Global.{Vec}

pub elapse_push : (start old new : List ℕ) (calls : List DiskCall) (call : DiskCall) → Elapse (telling start old calls) (telling start new (calls ++ call ∷ []))
elapse_push start old new calls call = record {
  later = omega (arith, length-append calls (call ∷ []));
  no_other = λ t c le since. one_more t c since;
  keeps = λ t c le since. (
    since.0,
    since.1,
    (let more : since.0 ≤ length (calls ++ call ∷ []) = omega (arith, since.2, length-append calls (call ∷ [])) in more),
    subst (λ (l : List DiskCall). image_after start (λ d. d ≡ start) l c) (sym (take-append-le since.0 calls (call ∷ []) since.2)) since.3,
  );
}
  where
    one_more : (t : ℕ) (c : List ℕ) → (telling start new (calls ++ call ∷ [])).image_since t c → (telling start old calls).image_since t c ⊎ (telling start new (calls ++ call ∷ [])).image c
    one_more t c (k, from, to, is) = elim (cases_eq k (length (calls ++ call ∷ []))) [
      | inl last ↦ inr (subst (λ (l : List DiskCall). image_after start (λ d. d ≡ start) l c) (take_all k (calls ++ call ∷ []) (omega arith)) is)
      | inr not ↦
          let le : k ≤ length calls = omega (arith, length-append calls (call ∷ [])) in
          inl (k, from, le, subst (λ (l : List DiskCall). image_after start (λ d. d ≡ start) l c) (take-append-le k calls (call ∷ []) le) is)
    ]

-- what a crash may leave after one call more
pushed : (start : List ℕ) (calls : List DiskCall) (call : DiskCall) (c : List ℕ) → image_after start (λ d. d ≡ start) (calls ++ call ∷ []) c
    → image_by call (reads_after start calls) (image_after start (λ d. d ≡ start) calls) c
pushed start calls call c is = subst (λ (P : List ℕ → Type 0). P c) (image_push calls call start (λ d. d ≡ start)) is

pushed_back : (start : List ℕ) (calls : List DiskCall) (call : DiskCall) (c : List ℕ) → image_by call (reads_after start calls) (image_after start (λ d. d ≡ start) calls) c
    → image_after start (λ d. d ≡ start) (calls ++ call ∷ []) c
pushed_back start calls call c is = subst (λ (P : List ℕ → Type 0). P c) (sym (image_push calls call start (λ d. d ≡ start))) is

-- a look leaves the images as they were
look_images : (call : DiskCall) (reads : List ℕ) (image : List ℕ → Type 0) → IsLook call → image_by call reads image ≡ image
look_images Len reads image is = refl
look_images (Read buffer) reads image is = refl
look_images FailedSync reads image is = refl
look_images Sync reads image is = absurd is
look_images (Write at n left) reads image is = absurd is
look_images (Cuts len left) reads image is = absurd is

pub look_reads : (call : DiskCall) (reads : List ℕ) → IsLook call → reads_by call reads ≡ reads
look_reads Len reads is = refl
look_reads (Read buffer) reads is = refl
look_reads FailedSync reads is = refl
look_reads Sync reads is = refl
look_reads (Write at n left) reads is = absurd is
look_reads (Cuts len left) reads is = absurd is

pub look_push : (start bytes : List ℕ) (calls calls' : List DiskCall) (call : DiskCall) → IsLook call → calls' ≡ calls ++ call ∷ [] → IsRead (telling start bytes calls) (telling start bytes calls')
look_push start bytes calls calls' call look is = subst (λ (l : List DiskCall). IsRead (telling start bytes calls) (telling start bytes l)) (sym is) (record {
  reads = refl;
  images = λ c now. subst (λ (P : List ℕ → Type 0). P c) (look_images call (reads_after start calls) (image_after start (λ d. d ≡ start) calls) look) (pushed start calls call c now);
  keeps = λ c now. pushed_back start calls call c (subst (λ (P : List ℕ → Type 0). P c) (sym (look_images call (reads_after start calls) (image_after start (λ d. d ≡ start) calls) look)) now);
  time = elapse_push start bytes bytes calls call;
})

pub write_push : (start old new : List ℕ) (calls calls' : List DiskCall) (at n : ℕ) (left : Vec ℕ) → calls' ≡ calls ++ Write at n left ∷ [] → IsWrite at n (telling start old calls) (telling start new calls')
write_push start old new calls calls' at n left is = subst (λ (l : List DiskCall). IsWrite at n (telling start old calls) (telling start new l)) (sym is) (record {
  images = λ c now. pushed start calls (Write at n left) c now;
  time = elapse_push start old new calls (Write at n left);
})

pub cut_push : (start old new : List ℕ) (calls calls' : List DiskCall) (len : ℕ) (left : Vec ℕ) → calls' ≡ calls ++ Cuts len left ∷ [] → IsCut len (telling start old calls) (telling start new calls')
cut_push start old new calls calls' len left is = subst (λ (l : List DiskCall). IsCut len (telling start old calls) (telling start new l)) (sym is) (record {
  images = λ c now. pushed start calls (Cuts len left) c now;
  time = elapse_push start old new calls (Cuts len left);
})

pub write_allows : (start old new : List ℕ) (calls calls' : List DiskCall) (at n : ℕ) (left : Vec ℕ) → calls' ≡ calls ++ Write at n left ∷ []
    → Allow (Torn at n) (telling start old calls).image (telling start new calls').image
write_allows start old new calls calls' at n left is = subst (λ (l : List DiskCall). Allow (Torn at n) (telling start old calls).image (telling start new l).image) (sym is) (λ c from. pushed_back start calls (Write at n left) c from)

pub cut_allows : (start old new : List ℕ) (calls calls' : List DiskCall) (len : ℕ) (left : Vec ℕ) → calls' ≡ calls ++ Cuts len left ∷ []
    → Allow (Cut len) (telling start old calls).image (telling start new calls').image
cut_allows start old new calls calls' len left is = subst (λ (l : List DiskCall). Allow (Cut len) (telling start old calls).image (telling start new l).image) (sym is) (λ c from. pushed_back start calls (Cuts len left) c from)

-- a sync leaves what the calls before it left of the bytes
pub sync_push : (start bytes : List ℕ) (calls calls' : List DiskCall) → bytes ≡ reads_after start calls → (telling start bytes calls).image bytes → calls' ≡ calls ++ Sync ∷ []
    → IsSync (telling start bytes calls) (telling start bytes calls') × IsQuiet (telling start bytes calls')
sync_push start bytes calls calls' replay image is = subst (λ (l : List DiskCall). IsSync (telling start bytes calls) (telling start bytes l) × IsQuiet (telling start bytes l)) (sym is) (
  record {
    reads = refl;
    images = λ c now. subst (λ (r : List ℕ). image_after start (λ d. d ≡ start) calls r) (sym (only c now)) image;
    time = elapse_push start bytes bytes calls Sync;
  },
  only,
)
  where
    only : (c : List ℕ) → image_after start (λ d. d ≡ start) (calls ++ Sync ∷ []) c → c ≡ bytes
    only c now = pushed start calls Sync c now ∙ sym replay

pub overwritten : (at n : ℕ) (left old : List ℕ) → length left ≤ n → overwrite at left old ≡ written at n left old
overwritten at n left old le =
    append_assoc (take at old) left (drop (at + length left) old)
    ∙ ap (λ (l : List ℕ). take at old ++ (l ++ drop (at + length l) old)) (sym (take_all n left le))

-- vectors with the same bytes tell the same
pub same_bytes : (P : DiskState → DiskState → Type 0) (start start' bytes bytes' : List ℕ) (calls calls' : List DiskCall) → start' ≡ start → bytes' ≡ bytes
    → P (telling start bytes calls) (telling start bytes calls') → P (telling start bytes calls) (telling start' bytes' calls')
same_bytes P start start' bytes bytes' calls calls' a b is =
    subst (λ (s : List ℕ). P (telling start bytes calls) (telling s bytes' calls')) (sym a)
    (subst (λ (s : List ℕ). P (telling start bytes calls) (telling start s calls')) (sym b) is)

-- nor does a record that stayed as it was
pub same_told : (P : DiskState → DiskState → Type 0) (start start' bytes bytes' : List ℕ) (calls calls' : List DiskCall) → start' ≡ start → bytes' ≡ bytes → calls' ≡ calls
    → P (telling start bytes calls) (telling start bytes calls) → P (telling start bytes calls) (telling start' bytes' calls')
same_told P start start' bytes bytes' calls calls' a b d is =
    same_bytes P start start' bytes bytes' calls calls' a b (subst (λ (l : List DiskCall). P (telling start bytes calls) (telling start bytes l)) (sym d) is)

pub unsynced_as : (start bytes : List ℕ) (calls calls' : List DiskCall) → calls' ≡ calls → IsSync (telling start bytes calls) (telling start bytes calls')
unsynced_as start bytes calls calls' is = subst (λ (l : List DiskCall). IsSync (telling start bytes calls) (telling start bytes l)) (sym is) (unsynced (telling start bytes calls))

pub looked_as : (start bytes : List ℕ) (calls calls' : List DiskCall) → calls' ≡ calls → IsRead (telling start bytes calls) (telling start bytes calls')
looked_as start bytes calls calls' is = subst (λ (l : List DiskCall). IsRead (telling start bytes calls) (telling start bytes l)) (sym is) (looked (telling start bytes calls))

-- a result is an Ok or an Err
pub ok_or_err : {T E P Q R : Type 0} (r : Result T E) → OnOk r P → OnErr r Q → (P → R) → (Q → R) → R
ok_or_err (Ok v) p q on_ok on_err = on_ok p
ok_or_err (Err e) p q on_ok on_err = on_err q

pub on_ok_map : {T E P Q : Type 0} (r : Result T E) → (P → Q) → OnOk r P → OnOk r Q
on_ok_map (Ok v) to on = to on
on_ok_map (Err e) to on = tt

pub new_start : (P : DiskState → DiskState → Type 0) (start start' bytes new : List ℕ) (calls calls' : List DiskCall) → start' ≡ start → P (telling start bytes calls) (telling start new calls') → P (telling start bytes calls) (telling start' new calls')
new_start P start start' bytes new calls calls' a is = subst (λ (s : List ℕ). P (telling start bytes calls) (telling s new calls')) (sym a) is

-- a call that leaves the bytes, recorded or not, leaves what the record comes to
pub noted : (recorded : Bool) (start bytes : List ℕ) (calls calls' : List DiskCall) (call : DiskCall) → bytes ≡ reads_after start calls → reads_by call bytes ≡ bytes
    → calls' ≡ cond recorded (calls ++ call ∷ []) calls → bytes ≡ reads_after start calls'
noted true start bytes calls calls' call replay same is = sym same ∙ ap (λ (r : List ℕ). reads_by call r) replay ∙ sym (reads_push calls call start) ∙ ap (λ (l : List DiskCall). reads_after start l) (sym is)
noted false start bytes calls calls' call replay same is = replay ∙ ap (λ (l : List DiskCall). reads_after start l) (sym is)
