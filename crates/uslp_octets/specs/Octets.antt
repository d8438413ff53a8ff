-- Numbers and rows of bit fields as octets. The first octet and the first field are the most significant, as CCSDS documents draw them.
-- Sections cited in specs/ are those of docs/RULES.md; its section 11 has the words.
use Rattle.std.specs.Prelude.{ℕ, zero, suc, ◌+◌, ◌*◌, ◌/◌, ◌%◌, ◌^◌, ◌<◌, List, [], ◌∷◌, ◌++◌, cond, ◌≡◌, length, take, drop, get_or, leb}
use Prim.Native.String.{String}
use lib.Text.{eqt}
use Rattle.std.specs.Borrow.{Bor}

-- each element is an octet
abbrev pub AreOctets : List ℕ → Type 0
AreOctets s = (i : ℕ) → get_or s i 0 < 256

-- the k low octets of a number
abbrev pub octets : ℕ → ℕ → List ℕ
octets zero n = []
octets (suc k) n = n / 256 ^ k % 256 ∷ octets k n

-- the number that the n octets from place i on make
abbrev pub word : ℕ → ℕ → List ℕ → ℕ
word i zero s = 0
word i (suc n) s = word i n s * 256 + get_or s (i + n) 0

-- a field: its name, how many bits it has, and its value
abbrev pub BitField : Type 0
BitField = String × ℕ × ℕ

-- how many bits a row of fields has, and the row as one number
abbrev pub bits_in : List BitField → ℕ
bits_in [] = 0
bits_in (f ∷ fs) = f.1 + bits_in fs

abbrev pub value_of : List BitField → ℕ
value_of [] = 0
value_of (f ∷ fs) = f.2 * 2 ^ bits_in fs + value_of fs

-- each value fits its bits
abbrev pub Fits : List BitField → Type 0
Fits [] = Unit {0}
Fits (f ∷ fs) = (f.2 < 2 ^ f.1) × Fits fs

-- a row of the same names and bits, with the values that a number has there
abbrev pub split : List BitField → ℕ → List BitField
split [] n = []
split (f ∷ fs) n = (f.0, f.1, n / 2 ^ bits_in fs % 2 ^ f.1) ∷ split fs n

-- the octets that a row of fields makes, and the row that octets make; octets that are missing count as 0
abbrev pub pack : List BitField → List ℕ
pack fs = octets (bits_in fs / 8) (value_of fs)

abbrev pub unpack : List BitField → List ℕ → List BitField
unpack fs s = split fs (word 0 (bits_in fs / 8) s)

-- the value of the field of this name
abbrev pub named : String → List BitField → ℕ
named name [] = 0
named name (f ∷ fs) = cond (eqt name f.0) f.2 (named name fs)

-- the octets t with s laid over them from the front, as far as both reach
abbrev pub overlaid : List ℕ → List ℕ → List ℕ
overlaid s t = take (length t) s ++ drop (length s) t

-- the n octets from a place on, and nothing where the octets do not reach so far
abbrev pub part_in : ℕ → ℕ → List ℕ → List ℕ
part_in start n s = cond (leb (start + n) (length s)) (take n (drop start s)) []

-- where that part starts in them: at the front where it is empty for want of octets
abbrev pub part_at : ℕ → ℕ → List ℕ → ℕ
part_at start n s = cond (leb (start + n) (length s)) start 0

-- a part of lent octets: where it starts in them, and what it shows
pub record PartOf (lent : Bor (List ℕ)) (start : ℕ) (shown : List ℕ) (part : Bor (List ℕ)) : Type 0 where
  pub lies : part.ref_ptr ≡ (lent.ref_ptr.0, start + lent.ref_ptr.1)
  pub shows : part.now ≡ shown
