-- Four 64-bit words that stand for a register, so that eight octets of a message can be taken at once.
-- With 1 + 1 = 0 a square has no mixed terms, so P = x^16 + x^12 + x^5 + 1, squared four times, still has four: P^16 = x^256 + x^192 + x^80 + 1.
-- A register is a remainder by P, and a multiple of P^16 is one of P. So 256 bits, four words, may stand for the register that they lead to; and
-- when a word comes in below, the word that leaves at the top is worth the same word at x^192, at x^80 and at 1, and is added there, with no table.
-- x^80 is a word and 16 places more: what is added there falls into two words, by a shift up and a shift down.
use Rattle.std.specs.Prelude.{ℕ}
use Rattle.uslp_checksum.specs.declared.words.Wide.{Wide}
use Rattle.uslp_checksum.specs.Checksum.{feed, lows}

-- the register r after the 64 bits of w
abbrev pub fed : ℕ → ℕ → ℕ
fed r w = feed r (lows 64 w)

-- the register that the 256 bits of four words lead to, from 0
unfoldable pub stands_for : Wide → ℕ
stands_for s = fed (fed (fed (fed 0 s.a) s.b) s.c) s.d
