-- What a number read says of its text.
use Rattle.std.proofs.Common.{◌≡◌, ◌≢◌, ◌⊎◌, ◌↔◌, inl, inr, ℕ, ◌<◌, ◌≤◌, Bool, true, false, ◌&&◌, ℤ, ◌<ℤ◌, ◌≤ℤ◌, int_le, nat_le, List, Option, Some, None, Result, Ok, Err, if◌then◌else◌, refl, sym, ap, subst, ◌∙◌, arith}
use Rattle.std.proofs.lemmas.Bool.{and_parts, and_cases, leb-true, leb-false}
use Rattle.std.proofs.lemmas.Int.{ints}
use Rattle.std.proofs.lemmas.Option.{none-some}
use Rattle.aid_types.specs.declared.text.Malformed.{Malformed}
use Rattle.aid_types.specs.declared.text.Malformed.TheVariants.{Spelling, Range}
use Rattle.aid_types.specs.Whole.{whole_text, whole_of, whole_between}
use Rattle.aid_types.specs.Cents.{cents_text, cents_of, cents_up_to}
use Rattle.aid_types.proofs.WholeLemmas.{whole_of-whole_text, whole_text-of}
use Rattle.aid_types.proofs.CentsLemmas.{cents_of-cents_text, cents_text-of}

-- a number read in a range, in both directions
pub record IsWholeReading (low high : ℤ) (text : List ℕ) (r : Result ℤ Malformed) : Type 0 where
  pub ok : (z : ℤ) → (r ≡ Ok z) ↔ ((text ≡ whole_text z) × (low ≤ℤ z) × (z ≤ℤ high))
  pub range : (r ≡ Err Range) ↔ ((z : ℤ) × (text ≡ whole_text z) × ((z <ℤ low) ⊎ (high <ℤ z)))
  pub spelling : (r ≡ Err Spelling) ↔ ((z : ℤ) → text ≢ whole_text z)

spelled : (text : List ℕ) (z : ℤ) → text ≡ whole_text z → whole_of text ≡ Some z
spelled text z e = ap whole_of e ∙ whole_of-whole_text z

pub IsWholeReading-whole_between : (low high : ℤ) (text : List ℕ) → IsWholeReading low high text (whole_between low high (whole_of text))
IsWholeReading-whole_between low high text = by_number (whole_of text) refl where
  none : whole_of text ≡ None → (z : ℤ) → text ≢ whole_text z
  none e z k = none-some z (sym e ∙ spelled text z k)

  one : (y z : ℤ) → whole_of text ≡ Some y → text ≡ whole_text z → y ≡ z
  one y z e k = let f = spelled text z k in cc

  by_range : (b : Bool) (y : ℤ) → whole_of text ≡ Some y → (int_le low y && int_le y high) ≡ b → IsWholeReading low high text (if b then Ok y else Err Range)
  by_range true y e t =
      let k = and_parts (int_le low y) (int_le y high) t in
      record {
        ok = λ z. (λ same. let is : y ≡ z = cc in (whole_text-of text y e ∙ ap whole_text is, subst (λ (x : ℤ). low ≤ℤ x) is (omega (arith, ints, k.0)), subst (λ (x : ℤ). x ≤ℤ high) is (omega (arith, ints, k.1))), λ (told, above, below). ap Ok (one y z e told));
        range = (λ same. absurd cc, λ (z, told, outside). absurd (let is = one y z e told in elim outside [ inl under ↦ let at : y <ℤ low = subst (λ (x : ℤ). x <ℤ low) (sym is) under in omega (arith, ints, k.0) | inr over ↦ let at : high <ℤ y = subst (λ (x : ℤ). high <ℤ x) (sym is) over in omega (arith, ints, k.1) ]));
        spelling = (λ same. absurd cc, λ nothing. absurd (nothing y (whole_text-of text y e)));
      }
  by_range false y e t = record {
    ok = λ z. (λ same. absurd cc, λ (told, above, below). absurd (let is = one y z e told in elim (and_cases (int_le low y) (int_le y high) t) [ inl under ↦ let at : low ≤ℤ y = subst (λ (x : ℤ). low ≤ℤ x) (sym is) above in omega (arith, ints, under) | inr over ↦ let at : y ≤ℤ high = subst (λ (x : ℤ). x ≤ℤ high) (sym is) below in omega (arith, ints, over) ]));
    range = (λ same. (y, whole_text-of text y e, elim (and_cases (int_le low y) (int_le y high) t) [ inl under ↦ inl (omega (arith, ints, under)) | inr over ↦ inr (omega (arith, ints, over)) ]), λ told. refl);
    spelling = (λ same. absurd cc, λ nothing. absurd (nothing y (whole_text-of text y e)));
  }

  by_number : (o : Option ℤ) → whole_of text ≡ o → IsWholeReading low high text (whole_between low high o)
  by_number None e = record {
    ok = λ z. (λ same. absurd cc, λ (told, above, below). absurd (none e z told));
    range = (λ same. absurd cc, λ (z, told, outside). absurd (none e z told));
    spelling = (λ same. none e, λ nothing. refl);
  }
  by_number (Some y) e = by_range (int_le low y && int_le y high) y e refl

-- an amount read, in both directions
pub record IsCentsReading (most : ℕ) (text : List ℕ) (r : Result ℕ Malformed) : Type 0 where
  pub ok : (n : ℕ) → (r ≡ Ok n) ↔ ((text ≡ cents_text n) × (n ≤ most))
  pub range : (r ≡ Err Range) ↔ ((n : ℕ) × (text ≡ cents_text n) × (most < n))
  pub spelling : (r ≡ Err Spelling) ↔ ((n : ℕ) → text ≢ cents_text n)

spelled_cents : (text : List ℕ) (n : ℕ) → text ≡ cents_text n → cents_of text ≡ Some n
spelled_cents text n e = ap cents_of e ∙ cents_of-cents_text n

pub IsCentsReading-cents_up_to : (most : ℕ) (text : List ℕ) → IsCentsReading most text (cents_up_to most (cents_of text))
IsCentsReading-cents_up_to most text = by_number (cents_of text) refl where
  none : cents_of text ≡ None → (n : ℕ) → text ≢ cents_text n
  none e n k = none-some n (sym e ∙ spelled_cents text n k)

  one : (m n : ℕ) → cents_of text ≡ Some m → text ≡ cents_text n → m ≡ n
  one m n e k = let f = spelled_cents text n k in cc

  by_range : (b : Bool) (m : ℕ) → cents_of text ≡ Some m → nat_le m most ≡ b → IsCentsReading most text (if b then Ok m else Err Range)
  by_range true m e t = record {
    ok = λ n. (λ same. let is : m ≡ n = cc in (cents_text-of text m e ∙ ap cents_text is, omega (arith, leb-true m most t)), λ (told, below). ap Ok (one m n e told));
    range = (λ same. absurd cc, λ (n, told, above). absurd (omega (arith, one m n e told, leb-true m most t)));
    spelling = (λ same. absurd cc, λ nothing. absurd (nothing m (cents_text-of text m e)));
  }
  by_range false m e t = record {
    ok = λ n. (λ same. absurd cc, λ (told, below). absurd (omega (arith, one m n e told, leb-false m most t)));
    range = (λ same. (m, cents_text-of text m e, leb-false m most t), λ told. refl);
    spelling = (λ same. absurd cc, λ nothing. absurd (nothing m (cents_text-of text m e)));
  }

  by_number : (o : Option ℕ) → cents_of text ≡ o → IsCentsReading most text (cents_up_to most o)
  by_number None e = record {
    ok = λ n. (λ same. absurd cc, λ (told, below). absurd (none e n told));
    range = (λ same. absurd cc, λ (n, told, above). absurd (none e n told));
    spelling = (λ same. none e, λ nothing. refl);
  }
  by_number (Some m) e = by_range (nat_le m most) m e refl
