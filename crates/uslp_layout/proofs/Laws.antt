-- How long the parts of a frame are, and can be.
use mathlib.Core.Path.{◌≡◌, refl}
use Prim.Native.Nat.{ℕ, ◌+◌, ◌≤◌}
use mathlib.Core.Bool.{Bool, true, false, cond}
use mathlib.Core.List.{List}
use native.Mathlib.Omega.{arith}
use lib.ListN.{length, length-append}
use Rattle.uslp_octets.specs.Octets.{octets}
use Rattle.uslp_checksum.specs.Checksum.{checksum_of}
use Rattle.uslp_layout.specs.Layout.{present, ocf_octets, with_fecf}
use Rattle.std.specs.Prelude.{Option, Some, None}

pub cond_le : (b : Bool) (m n : ℕ) → n ≤ m → cond b m n ≤ m
cond_le true m n h = omega arith
cond_le false m n h = h

pub length_ocf : (o : Option ℕ) → length (ocf_octets o) ≡ cond (present o) 4 0
length_ocf None = refl
length_ocf (Some n) = refl

pub length_fecf : (fecf : Bool) (s : List ℕ) → length (with_fecf fecf s) ≡ length s + cond fecf 2 0
length_fecf true s = length-append s (octets 2 (checksum_of s))
length_fecf false s = omega arith
