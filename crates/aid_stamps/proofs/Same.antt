-- The derived `==` of names and of stamps is equality.
use Rattle.std.proofs.Common.{◌≡◌, ℕ, List}
use Rattle.aid_types.proofs.Same.{Tells, tells_by, tells_filled, tells_pair, tells_ℕ}
use Rattle.aid_types.proofs.SameTerm.{tells_day}
use Rattle.aid_stamps.specs.declared.stamp.Stamp.{Stamp}
use Rattle.aid_stamps.specs.contracts.clerk.ClerkNamePartialEq.TheImpl.{eq-value as clerk_eq}
use Rattle.aid_stamps.specs.contracts.stamp.StampPartialEq.TheImpl.{eq-value as stamp_eq}

pub tells_clerk : Tells clerk_eq.it
tells_clerk = tells_filled 32 0 tells_ℕ

abbrev stamp_parts : Stamp → ℕ × List ℕ
stamp_parts s = (s.day, s.clerk)

stamp_whole : (x y : Stamp) → stamp_parts x ≡ stamp_parts y → x ≡ y
stamp_whole x y e = λ i. record { day = (e i).0; clerk = (e i).1 }

pub tells_stamp : Tells stamp_eq.it
tells_stamp = tells_by stamp_parts stamp_whole (tells_pair tells_day tells_clerk)
