use Rattle.std.proofs.Common.{◌≡◌, ℕ, ◌-◌, ◌<◌, ◌/◌, ◌^◌, List, ◌++◌, length, take, drop, Result, Ok, Err, OnOk, is_ok, if◌then◌else◌, arith, decimal, ap, sym, ◌∙◌, length-append}
use Rattle.std.proofs.Math.Seq.{take-length}
use Rattle.std.proofs.lemmas.Fmt.{length-decimal-le}
use Rattle.aid_types.specs.Cents.{fraction_text, cents_text}
use Rattle.aid_types.proofs.WholeLemmas.{decimal-natural_text}
use Rattle.aid_types.proofs.text.put_cents.Goals as goal

-- what an append of the end of an array leaves
appends_end : {A E : Type 0} (r : Result A E) (old new array text : List ℕ) (start n : ℕ) → new ≡ (if is_ok r then old ++ take n (drop start array) else old) → drop start array ≡ text → length text ≡ n → OnOk r (new ≡ old ++ text)
appends_end (Ok x) old new array text start n e is len = e ∙ ap (λ (xs : List ℕ). old ++ xs) (ap (λ (xs : List ℕ). take n xs) is ∙ ap (λ (k : ℕ). take k text) (sym len) ∙ take-length text)
appends_end (Err x) old new array text start n e is len = tt

dollars_fit : (cents : ℕ) → cents < 2 ^ 64 → cents / 100 < 2 ^ 64
dollars_fit cents h = omega arith

pub write_digits-start-requires : goal.write_digits-start-requires
write_digits-start-requires c =
    let dollars = c.args.cents / 100 in
    let least = dollars_fit c.args.cents c.ranges.cents.fits in
    (omega (arith, length-decimal-le 20 dollars (omega arith) (omega arith) least), omega arith)

pub returns-clause-ok : goal.returns-clause-ok
returns-clause-ok c =
    let dollars = c.args.cents / 100 in
    let least = dollars_fit c.args.cents c.ranges.cents.fits in
    let text : decimal dollars ++ fraction_text c.args.cents ≡ cents_text c.args.cents = ap (λ (xs : List ℕ). xs ++ fraction_text c.args.cents) (decimal-natural_text dollars (omega arith)) in
    let start = c.write_digits-start.ensures.start in
    let len : length (decimal dollars ++ fraction_text c.args.cents) ≡ 24 - c.write_digits-start.result = omega (arith, length-append (decimal dollars) (fraction_text c.args.cents)) in
    appends_end c.extend_from_slice.result c.args.out.now.items c.extend_from_slice.new.self.items c.write_digits-start.new.buf (cents_text c.args.cents) c.write_digits-start.result (24 - c.write_digits-start.result) c.extend_from_slice.ensures.items (c.write_digits-start.ensures.written ∙ text) (rw (← text) len)
