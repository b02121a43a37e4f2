-- Texts that are appended one behind the other.
use Rattle.std.proofs.Common.{◌≡◌, ◌∙◌, ap, ℕ, List, ◌++◌, append_assoc, Result, Ok, Err, OnOk, OnErr, is_ok, if◌then◌else◌}

-- what is known after the last of them, where it was appended
pub on_last : {A E : Type 0} {Q : Type 0} (r : Result A E) (new all old : List ℕ) → (new ≡ all → Q) → new ≡ (if is_ok r then all else old) → OnOk r Q
on_last (Ok a) new all old f is = f is
on_last (Err e) new all old f is = tt

pub on_err : {A E P : Type 0} (r : Result A E) → P → OnErr r P
on_err (Ok a) p = tt
on_err (Err e) p = p

pub joined2 : (o a b n1 n2 : List ℕ) → n1 ≡ o ++ a → n2 ≡ n1 ++ b → n2 ≡ o ++ (a ++ b)
joined2 o a b n1 n2 one two = two ∙ ap (λ (l : List ℕ). l ++ b) one ∙ append_assoc o a b

pub joined3 : (o a b c n1 n2 n3 : List ℕ) → n1 ≡ o ++ a → n2 ≡ n1 ++ b → n3 ≡ n2 ++ c → n3 ≡ o ++ (a ++ (b ++ c))
joined3 o a b c n1 n2 n3 one two three = joined2 o a (b ++ c) n1 n3 one (joined2 n1 b c n2 n3 two three)

pub joined4 : (o a b c d n1 n2 n3 n4 : List ℕ) → n1 ≡ o ++ a → n2 ≡ n1 ++ b → n3 ≡ n2 ++ c → n4 ≡ n3 ++ d → n4 ≡ o ++ (a ++ (b ++ (c ++ d)))
joined4 o a b c d n1 n2 n3 n4 one two three four = joined2 o a (b ++ (c ++ d)) n1 n4 one (joined3 n1 b c d n2 n3 n4 two three four)

pub joined5 : (o a b c d e n1 n2 n3 n4 n5 : List ℕ) → n1 ≡ o ++ a → n2 ≡ n1 ++ b → n3 ≡ n2 ++ c → n4 ≡ n3 ++ d → n5 ≡ n4 ++ e → n5 ≡ o ++ (a ++ (b ++ (c ++ (d ++ e))))
joined5 o a b c d e n1 n2 n3 n4 n5 one two three four five = joined2 o a (b ++ (c ++ (d ++ e))) n1 n5 one (joined4 n1 b c d e n2 n3 n4 n5 two three four five)
