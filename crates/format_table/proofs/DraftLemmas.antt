-- A filing's numbers stay narrow, and have room, as one is put behind the others.
use Rattle.std.proofs.Common.{◌≡◌, ℕ, zero, suc, ◌-◌, ◌<◌, ◌≤◌, ℤ, true, List, [], ◌∷◌, ◌++◌, All, Bool, Bor, Option, Some, None, length, reverse, sym, ap, subst, ◌∙◌, arith, length-append}
use Rattle.std.specs.Prelude.{IfSome, option_map, slice_get}
use Rattle.std.proofs.lemmas.List.{get_or-reverse, length-reverse}
use Rattle.std.proofs.lemmas.List.Elements.{All-append}
use Rattle.format_table.specs.Draft.{IsDraft, Progress, accepts, may_follow}
use Rattle.format_table.specs.Forms.{IsHeld, IsTable, are_sound, is_sound_slot, most_numbers, most_of}
use Rattle.format_table.specs.Layout.{after}
use Rattle.format_table.specs.Limits.{IsNarrow, fits}
use Rattle.format_table.specs.Parts.{Line, Slot, line_of}
use Rattle.format_table.specs.declared.field.Field.{Field}
use Rattle.format_table.proofs.Laws.{IsHeld-IsNarrow, IsSound-slot, are_sound-after, fits-IsHeld, most_of-after}
use Rattle.std.proofs.lemmas.Bool.{and_parts}

pub All-IsNarrow-reverse : (zs : List ℤ) → All IsNarrow zs → All IsNarrow (reverse zs)
All-IsNarrow-reverse zs h k d below =
    let within : k < length zs = omega (arith, length-reverse zs) in
    subst IsNarrow (sym (get_or-reverse zs k d within)) (h (length zs - 1 - k) d (omega arith))

All-IsNarrow-one : (z : ℤ) → IsNarrow z → All IsNarrow (z ∷ [])
All-IsNarrow-one z h zero d below = h
All-IsNarrow-one z h (suc k) d below = absurd (omega arith)

pub IsDraft-room : (most : ℕ) (slots : List Slot) (numbers : List ℤ) (line : Line) → Some line ≡ option_map (λ slot. slot.line) (slice_get slots 0) → IsDraft most slots numbers → length numbers < most
IsDraft-room most [] numbers line e h = absurd (cc)
IsDraft-room most (slot ∷ slots) numbers line e h = omega (arith, h.room)

line_is : (a b : Line) → Some a ≡ Some b → b ≡ a
line_is a b e = cc

pub held : (most : ℕ) (slots : List Slot) (numbers : List ℤ) (line : Line) (z : ℤ) → Some line ≡ option_map (λ slot. slot.line) (slice_get slots 0) → IsDraft most slots numbers
    → may_follow slots (reverse numbers) z ≡ true → IsHeld line.form z
held most [] numbers line z e h f = absurd (cc)
held most (slot ∷ slots) numbers line z e h f =
    let s = IsSound-slot slot (and_parts (is_sound_slot slot) (are_sound slots) h.sound).0 in
    let found = fits-IsHeld slot.line.form slot.line.limit (reverse numbers) z s.line (All-IsNarrow-reverse numbers h.narrow) f in
    subst (λ (l : Line). IsHeld l.form z) (line_is line slot.line e) found

pub IsDraft-push : (most : ℕ) (slots : List Slot) (numbers : List ℤ) (line : Line) (z : ℤ) → Some line ≡ option_map (λ slot. slot.line) (slice_get slots 0) → fits line.limit (reverse numbers) z ≡ true
    → IsDraft most slots numbers → IsDraft most (after slots z) (numbers ++ z ∷ [])
IsDraft-push most [] numbers line z e f h = absurd (cc)
IsDraft-push most (slot ∷ slots) numbers line z e f h =
    let same = line_is line slot.line e in
    let fits_slot : fits slot.line.limit (reverse numbers) z ≡ true = subst (λ (l : Line). fits l.limit (reverse numbers) z ≡ true) (sym same) f in
    let form = held most (slot ∷ slots) numbers line z e h fits_slot in
    record {
      sound = are_sound-after slot slots z h.sound;
      narrow = All-append IsNarrow numbers (z ∷ []) h.narrow (All-IsNarrow-one z (IsHeld-IsNarrow line.form z form));
      room = omega (arith, h.room, most_of-after slot slots (reverse numbers) z h.sound fits_slot, length-append numbers (z ∷ []));
      few = h.few;
    }

pub held_in : (most : ℕ) (result : Option (Bor Field)) (slots : List Slot) (numbers : List ℤ) (p : Progress) → option_map (λ field. line_of field.now) result ≡ option_map (λ slot. slot.line) (slice_get slots 0)
    → IsDraft most slots numbers → record { slots = slots; earlier = reverse numbers } ≡ p → IfSome result (λ field. (z : ℤ) → accepts p z ≡ true → IsHeld field.now.form z)
held_in most None slots numbers p e h v = tt
held_in most (Some field) slots numbers p e h v = λ z f. held most slots numbers (line_of field.now) z e h (ap (λ q. accepts q z) v ∙ f)

pub IsDraft-at : (most : ℕ) (slots after_slots : List Slot) (earlier numbers after_numbers : List ℤ) (line : Line) (machine : ℤ) (tested : Bool) → earlier ≡ numbers → tested ≡ fits line.limit (reverse earlier) machine
    → tested ≡ true → Some line ≡ option_map (λ slot. slot.line) (slice_get slots 0) → IsDraft most slots numbers → after_slots ≡ after slots machine → after_numbers ≡ numbers ++ machine ∷ [] → IsDraft most after_slots after_numbers
IsDraft-at most slots after_slots earlier numbers after_numbers line machine tested n t f e h s a =
    rw (s, a) (IsDraft-push most slots numbers line machine e (ap (λ ns. fits line.limit (reverse ns) machine) (sym n) ∙ sym t ∙ f) h)

IsDraft-new : (most : ℕ) (slots : List Slot) → IsTable slots → most_of slots ≤ most → most ≤ most_numbers → IsDraft most slots []
IsDraft-new most slots h room few = record { sound = h.sound; narrow = λ k d below. absurd (omega arith); room = omega (arith, room); few = few }

pub IsDraft-none : (most : ℕ) (table slots : List Slot) (numbers : List ℤ) → IsTable table → most_of table ≤ most → most ≤ most_numbers → slots ≡ table → numbers ≡ [] → IsDraft most slots numbers
IsDraft-none most table slots numbers h room few s n = rw (s, n) (IsDraft-new most table h room few)

-- where a number is to come there is room for it
pub room_in : (most : ℕ) (result : Option (Bor Field)) (slots : List Slot) (numbers : List ℤ) (p : Progress) → option_map (λ field. line_of field.now) result ≡ option_map (λ slot. slot.line) (slice_get slots 0)
    → IsDraft most slots numbers → record { slots = slots; earlier = reverse numbers } ≡ p → IfSome result (λ field. length p.earlier < most_numbers)
room_in most None slots numbers p e h v = tt
room_in most (Some field) slots numbers p e h v =
    let same : length numbers ≡ length p.earlier = sym (length-reverse numbers) ∙ ap (λ (q : Progress). length q.earlier) v in
    omega (arith, IsDraft-room most slots numbers (line_of field.now) e h, h.few, same)
