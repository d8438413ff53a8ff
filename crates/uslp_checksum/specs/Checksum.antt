-- CRC-16/IBM-3740 (docs/RULES.md, section 1.4): width 16, polynomial 0x1021, start 0xFFFF, high bit first, nothing inverted at the end.
use Rattle.std.specs.Prelude.{ℕ, zero, suc, ◌*◌, ◌/◌, ◌%◌, ◌^◌, Bool, true, false, cond, List, [], ◌∷◌, ◌++◌, eqb}
use Rattle.std.specs.Int.Bits.{bit_xor}

-- the sum of two bits, with no carry
abbrev pub differs : Bool → Bool → Bool
differs true true = false
differs true false = true
differs false true = true
differs false false = false

-- whether n's bit of weight 2 ^ k is set
unfoldable pub bit : ℕ → ℕ → Bool
bit n k = eqb (n / 2 ^ k % 2) 1

-- The 16-bit register r takes the message bit b: it moves up by one place, and where the bit that leaves it at the top
-- differs from b, the polynomial x^16 + x^12 + x^5 + 1 is added, whose lower terms are 0x1021.
unfoldable pub step : ℕ → Bool → ℕ
step r b = cond (differs (bit r 15) b) (bit_xor (r * 2 % 2 ^ 16) 0x1021) (r * 2 % 2 ^ 16)

-- the register after a run of message bits, fed one at a time
unfoldable pub feed : ℕ → List Bool → ℕ
feed r [] = r
feed r (b ∷ bs) = feed (step r b) bs

-- the k lowest bits of n, the highest of them first
unfoldable pub lows : ℕ → ℕ → List Bool
lows zero n = []
lows (suc k) n = bit n k ∷ lows k n

-- a message's bits: those of its octets in turn, each octet's highest bit first
unfoldable pub bits : List ℕ → List Bool
bits [] = []
bits (o ∷ os) = lows 8 o ++ bits os

-- the checksum: the register, all ones at first, after all the bits of the message
unfoldable pub checksum_of : List ℕ → ℕ
checksum_of m = feed 0xFFFF (bits m)
