-- Texts and decimal numerals as numbers of characters, and texts in a buffer.
use Rattle.std.specs.Prelude.{◌≡◌, ℕ, zero, suc, ◌+◌, ◌/◌, ◌%◌, ◌^◌, min, cond, List, [], ◌∷◌, ◌++◌, ltb, length, take, drop}
use Prim.Native.Char.{code}
use Prim.Native.String.{String}
use Prim.Native.String as string
use Rattle.uslp_octets.specs.Octets.{overlaid}

-- the numbers of a text's characters
abbrev pub text : String → List ℕ
text string.[] = []
text (string.◌∷◌ c s) = code c ∷ text s

-- the k low decimal digits of a number, as characters; the first is the most significant
abbrev pub digits : ℕ → ℕ → List ℕ
digits zero n = []
digits (suc k) n = (code "0" + n / 10 ^ k % 10) ∷ digits k n

-- how many digits a number has: one more than a tenth of it has; k bounds them, and 20 is enough for 64 bits
unfoldable pub width_in : ℕ → ℕ → ℕ
width_in zero n = 1
width_in (suc k) n = cond (ltb n 10) 1 (suc (width_in k (n / 10)))

abbrev pub width : ℕ → ℕ
width n = width_in 20 n

-- the decimal numeral of a number; none but that of 0 begins with a 0
abbrev pub decimal : ℕ → List ℕ
decimal n = digits (width n) n

-- a text told in a buffer s from a place on: as far as the buffer reaches it stands there, the octets around it stay, and `end` is the place behind it
pub record Told (t : List ℕ) (at : ℕ) (s : List ℕ) (end : ℕ) (left : List ℕ) : Type 0 where
  pub ends : end ≡ min (at + length t) (length s)
  pub stands : left ≡ take at s ++ overlaid t (drop at s)
