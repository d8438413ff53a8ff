-- What the functions on words do to the register that the words stand for.
use mathlib.Core.Path.{◌≡◌, refl, sym, ap, ap₂, ◌∙◌, subst}
use mathlib.Core.Bool.{Bool, true, false}
use mathlib.Core.List.{List, [], ◌∷◌}
use Prim.Native.Nat.{ℕ, zero, suc, ◌+◌, ◌-◌, ◌*◌, ◌/◌, ◌%◌, ◌^◌, ◌≤◌, ◌<◌}
use native.Mathlib.Nat.{add_comm, zero-add, mod-lt, mod-eq_of_lt, mul-one, div-eq_of_lt, lt_of_le_of_lt}
use native.Mathlib.Omega.{arith}
use lib.ListN.{length, take}
use lib.Pow.{pow_pos, shl_lt, shl-shr, shr_lt, shr-shr, shr_le}
use lib.Bits.{bit_xor, xor_self, xor_comm, xor_zero_r, xor_lt, xor_shr}
use Rattle.uslp_octets.specs.Octets.{word, AreOctets}
use Rattle.uslp_octets.proofs.Laws.{pow_eight, word_lt}
use Rattle.uslp_checksum.specs.Checksum.{bit, step, feed, lows, bits}
use Rattle.uslp_checksum.specs.Words.{fed}
use Rattle.uslp_checksum.proofs.Xor.{xor_assoc, xor_eq}
use Rattle.uslp_checksum.proofs.Register.{step_xor, zsteps, zsteps_xor, zsteps_zero, feed_top}
use Rattle.uslp_checksum.proofs.Message.{feed_lt, value_lows}
use Rattle.uslp_checksum.proofs.Powers.{Sums, sums_zero, xor_back, poly, twice, poly_sums, poly_moved, square, square_zero}
use Rattle.uslp_checksum.proofs.Lows.{feed_sums, feed_split, lows_mod, up, up_sums, up_add, feed_lead, feed_shifted, feed_word, word_front}

-- ---- the polynomial, x^16 + x^12 + x^5 + 1, and its squares give 0 at each register that 0 leads to

abbrev terms : List ℕ
terms = 16 ∷ 12 ∷ 5 ∷ []

step_parts : (r : ℕ) (b : Bool) → step r b ≡ bit_xor (up 1 r) (step 0 b)
unfolding up feed lows bit
step_parts r true = sym (ap (λ (x : ℕ). step x true) (xor_zero_r r)) ∙ step_xor r 0 false true
step_parts r false = sym (ap (λ (x : ℕ). step x false) (xor_zero_r r)) ∙ step_xor r 0 false false

terms_step : (b : Bool) → poly up terms (step 0 b) ≡ 0
unfolding up feed lows step bit
terms_step true = refl
terms_step false = refl

terms_feed : (w : List Bool) (r : ℕ) → poly up terms r ≡ 0 → poly up terms (feed r w) ≡ 0
unfolding feed
terms_feed [] r e = e
terms_feed (b ∷ w) r e =
    terms_feed w (step r b)
    (ap (poly up terms) (step_parts r b) ∙ poly_sums up up_sums up_add terms (up 1 r) (step 0 b)
    ∙ ap₂ bit_xor (poly_moved up up_sums up_add terms 1 r ∙ ap (up 1) e ∙ sums_zero (up 1) (up_sums 1)) (terms_step b))

-- the power 2 ^ n
abbrev power : ℕ → List ℕ
power zero = terms
power (suc n) = twice (power n)

power_feed : (n : ℕ) (w : List Bool) → poly up (power n) (feed 0 w) ≡ 0
power_feed zero w = terms_feed w 0 (sums_zero (poly up terms) (poly_sums up up_sums up_add terms))
power_feed (suc n) w = square_zero up up_sums up_add (power n) (feed 0 w) (power_feed n w)

-- ---- a word that is moved stands in two words

moved : (s t q : ℕ) → q < 2 ^ 64 → feed (fed 0 (q / 2 ^ t)) (lows (s + t) (q * 2 ^ s)) ≡ up s (fed 0 q)
moved s t q h =
    ap (λ (x : ℕ). feed (fed 0 x) (lows (s + t) (q * 2 ^ s))) (sym (sym (shr-shr (q * 2 ^ s) s t) ∙ ap (λ (x : ℕ). x / 2 ^ t) (shl-shr q s)))
    ∙ sym (feed_split 64 (s + t) 0 (q * 2 ^ s))
    ∙ ap (λ (k : ℕ). feed 0 (lows k (q * 2 ^ s))) places
    ∙ feed_shifted (t + 64) s 0 q
    ∙ ap (up s) (feed_lead t 64 q h)
  where
    places : 64 + (s + t) ≡ t + 64 + s
    places = omega arith

-- the same in the lower w bits of what the code makes
shifted : (w s t q : ℕ) → w ≤ 64 → s + t ≡ w → q < 2 ^ 64 → feed (fed 0 (q / 2 ^ t)) (lows w (q * 2 ^ s % 2 ^ 64)) ≡ up s (fed 0 q)
shifted w s t q l e h =
    ap (feed (fed 0 (q / 2 ^ t))) (ap (λ (k : ℕ). lows w (q * 2 ^ s % 2 ^ k)) whole ∙ lows_mod (64 - w) w (q * 2 ^ s))
    ∙ ap (λ (k : ℕ). feed (fed 0 (q / 2 ^ t)) (lows k (q * 2 ^ s))) (sym e)
    ∙ moved s t q h
  where
    whole : 64 ≡ 64 - w + w
    whole = omega arith

stays : (w q : ℕ) → q < 2 ^ 64 → feed (fed 0 (q / 2 ^ w)) (lows w q) ≡ fed 0 q
stays w q h = sym (feed_split 64 w 0 q) ∙ ap (λ (k : ℕ). feed 0 (lows k q)) (add_comm 64 w) ∙ feed_lead w 64 q h

pair_sums : (w a b c d : ℕ) → feed (fed 0 (bit_xor a b)) (lows w (bit_xor c d)) ≡ bit_xor (feed (fed 0 a) (lows w c)) (feed (fed 0 b) (lows w d))
pair_sums w a b c d = ap (λ (x : ℕ). feed x (lows w (bit_xor c d))) (feed_sums 64 0 0 a b) ∙ feed_sums w (fed 0 a) (fed 0 b) c d

-- ---- a multiple q * (x^w + x^s + x^s' + 1) of a power: its upper bits, and its lower w bits, lead to 0

abbrev pub down : ℕ → ℕ → ℕ
down k x = x / 2 ^ k

multiple : (w s t s' t' q : ℕ) → w ≤ 64 → s + t ≡ w → s' + t' ≡ w → q < 2 ^ 64 → poly up (w ∷ s ∷ s' ∷ []) (fed 0 q) ≡ 0
    → feed (fed 0 (poly down (w ∷ t' ∷ t ∷ []) q)) (lows w (bit_xor (bit_xor (q * 2 ^ s % 2 ^ 64) (q * 2 ^ s' % 2 ^ 64)) q)) ≡ 0
unfolding up
multiple w s t s' t' q l e e' h z =
    let r = fed 0 q in
    let a = q * 2 ^ s % 2 ^ 64 in
    let b = q * 2 ^ s' % 2 ^ 64 in
    pair_sums w (bit_xor (bit_xor q (q / 2 ^ t)) (q / 2 ^ t')) (q / 2 ^ w) (bit_xor a b) q
    ∙ ap₂ bit_xor
    (pair_sums w (bit_xor q (q / 2 ^ t)) (q / 2 ^ t') a b
    ∙ ap₂ bit_xor (pair_sums w q (q / 2 ^ t) 0 a ∙ ap (bit_xor (up w r)) (shifted w s t q l e h)) (shifted w s' t' q l e' h))
    (stays w q h)
    ∙ ap (λ (x : ℕ). bit_xor (bit_xor (bit_xor x (up s r)) (up s' r)) r) (sym (xor_eq (bit_xor (bit_xor r (up s' r)) (up s r)) (up w r) z))
    ∙ ap (λ (x : ℕ). bit_xor (bit_xor x (up s' r)) r) (xor_back (bit_xor r (up s' r)) (up s r))
    ∙ ap (λ (x : ℕ). bit_xor x r) (xor_back r (up s' r))
    ∙ xor_self r

-- ---- the quotient: what `poly down` does is undone by doing it until it moves everything out

down_sums : (k : ℕ) → Sums (down k)
down_sums k a b = xor_shr a b k

down_add : (i j x : ℕ) → down i (down j x) ≡ down (i + j) x
down_add i j x = shr-shr x j i ∙ ap (λ (k : ℕ). x / 2 ^ k) (add_comm j i)

down_lt : (es : List ℕ) (x : ℕ) → x < 2 ^ 64 → poly down es x < 2 ^ 64
down_lt [] x h = h
down_lt (e ∷ es) x h = xor_lt 64 (poly down es x) (x / 2 ^ e) (down_lt es x h) (lt_of_le_of_lt (shr_le x e) h)

-- a term that moves everything out is none
out : (k : ℕ) (es : List ℕ) (x : ℕ) → x < 2 ^ k → poly down (k ∷ es) x ≡ poly down es x
out k es x h = ap (bit_xor (poly down es x)) (div-eq_of_lt h) ∙ xor_zero_r (poly down es x)

again : (es : List ℕ) (x : ℕ) → poly down es (poly down es x) ≡ poly down (twice es) x
again = square down down_sums down_add

pub quotient_law : (n : ℕ) → n < 2 ^ 64 → poly down (44 ∷ 16 ∷ []) (poly down (44 ∷ 16 ∷ []) (poly down (32 ∷ []) n)) ≡ n
quotient_law n h =
    let t = poly down (32 ∷ []) n in
    again (44 ∷ 16 ∷ []) t ∙ out 88 (32 ∷ []) t (omega (arith, down_lt (32 ∷ []) n h)) ∙ again (32 ∷ []) n ∙ out 64 [] n h

-- ---- the functions' laws

pub join_law : (high low q : ℕ) → q < 2 ^ 64 → poly down (44 ∷ 16 ∷ []) q ≡ high
    → fed 0 (bit_xor low (bit_xor (bit_xor (q * 2 ^ 48 % 2 ^ 64) (q * 2 ^ 20 % 2 ^ 64)) q)) ≡ fed (fed 0 high) low
join_law high low q h e =
    let r = fed 0 high in
    let m = bit_xor (bit_xor (q * 2 ^ 48 % 2 ^ 64) (q * 2 ^ 20 % 2 ^ 64)) q in
    ap (λ (x : ℕ). fed x (bit_xor low m)) (sym (xor_self r)) ∙ feed_sums 64 r r low m
    ∙ ap (bit_xor (fed r low))
    (ap (λ (x : ℕ). fed (fed 0 x) m) (sym (out 64 (44 ∷ 16 ∷ []) q h ∙ e)) ∙ multiple 64 48 16 20 44 q (omega arith) refl refl h (power_feed 2 (lows 64 q)))
    ∙ xor_zero_r (fed r low)

sixteen : (r n : ℕ) → feed r (lows 16 n) ≡ zsteps 16 (bit_xor r (n % 2 ^ 16))
unfolding lows
sixteen r n = feed_top (lows 16 n) 0 r refl ∙ ap (λ (x : ℕ). zsteps 16 (bit_xor r x)) (mul-one _ ∙ value_lows 16 n)

-- the lower bits of a multiple of P, where the upper ones are n: the remainder, since only 0 moves to 0
abbrev lower : ℕ → ℕ
lower q = bit_xor (bit_xor (q * 2 ^ 12 % 2 ^ 64) (q * 2 ^ 5 % 2 ^ 64)) q

remainder : (q n : ℕ) → q < 2 ^ 64 → poly down (16 ∷ 11 ∷ 4 ∷ []) q ≡ n → lower q % 2 ^ 16 ≡ fed 0 n
remainder q n h e =
    sym (xor_eq (fed 0 n) (lower q % 2 ^ 16)
    (zsteps_zero 16 _ (xor_lt 16 (fed 0 n) (lower q % 2 ^ 16) (feed_lt (lows 64 n) 0 (omega arith)) (mod-lt (lower q) (pow_pos 16)))
    (sym (sixteen (fed 0 n) (lower q)) ∙ ap (λ (x : ℕ). feed (fed 0 x) (lows 16 (lower q))) (sym e)
    ∙ multiple 16 12 4 5 11 q (omega arith) refl refl h (power_feed 0 (lows 64 q)))))

pub narrow_law : (n b : ℕ) → b < 2 ^ 64 → poly down (44 ∷ 16 ∷ []) b ≡ n
    → lower (poly down (16 ∷ 11 ∷ 4 ∷ []) (poly down (32 ∷ 22 ∷ 8 ∷ []) b)) % 2 ^ 16 ≡ fed 0 n
narrow_law n b h e =
    let c = poly down (32 ∷ 22 ∷ 8 ∷ []) b in
    remainder (poly down (16 ∷ 11 ∷ 4 ∷ []) c) n (down_lt (16 ∷ 11 ∷ 4 ∷ []) c (down_lt (32 ∷ 22 ∷ 8 ∷ []) b h))
    (again (16 ∷ 11 ∷ 4 ∷ []) c ∙ again (32 ∷ 22 ∷ 8 ∷ []) b ∙ out 64 (44 ∷ 16 ∷ []) b h ∙ e)

-- four words more
abbrev four : ℕ → ℕ → ℕ → ℕ → ℕ → ℕ
four r a b c d = fed (fed (fed (fed r a) b) c) d

four_sums : (r a b c d s e f g h : ℕ)
    → four (bit_xor r s) (bit_xor a e) (bit_xor b f) (bit_xor c g) (bit_xor d h) ≡ bit_xor (four r a b c d) (four s e f g h)
four_sums r a b c d s e f g h =
    ap (λ (x : ℕ). fed (fed (fed x (bit_xor b f)) (bit_xor c g)) (bit_xor d h)) (feed_sums 64 r s a e)
    ∙ ap (λ (x : ℕ). fed (fed x (bit_xor c g)) (bit_xor d h)) (feed_sums 64 (fed r a) (fed s e) b f)
    ∙ ap (λ (x : ℕ). fed x (bit_xor d h)) (feed_sums 64 (fed (fed r a) b) (fed (fed s e) f) c g)
    ∙ feed_sums 64 (fed (fed (fed r a) b) c) (fed (fed (fed s e) f) g) d h

-- the word at the top, when one more comes in below, is worth the same word at x^192, x^80 and 1
top_law : (a : ℕ) → a < 2 ^ 64 → four 0 a (a / 2 ^ 48) (a * 2 ^ 16 % 2 ^ 64) a ≡ four (fed 0 a) 0 0 0 0
unfolding up
top_law a h =
    let r = fed 0 a in
    ap (λ (x : ℕ). fed (fed x (a * 2 ^ 16 % 2 ^ 64)) a) (apart r (a / 2 ^ 48))
    ∙ ap (λ (x : ℕ). fed x a) (feed_sums 64 (up 64 r) (fed 0 (a / 2 ^ 48)) 0 (a * 2 ^ 16 % 2 ^ 64)
    ∙ ap₂ bit_xor (up_add 64 64 r) (shifted 64 16 48 a (omega arith) refl h))
    ∙ apart (bit_xor (up 128 r) (up 16 r)) a
    ∙ ap (λ (x : ℕ). bit_xor x r) (up_sums 64 (up 128 r) (up 16 r) ∙ ap₂ bit_xor (up_add 64 128 r) (up_add 64 16 r))
    ∙ xor_comm (bit_xor (up 192 r) (up 80 r)) r ∙ ap (bit_xor r) (xor_comm (up 192 r) (up 80 r)) ∙ sym (xor_assoc r (up 80 r) (up 192 r))
    ∙ xor_eq (bit_xor (bit_xor r (up 80 r)) (up 192 r)) (up 256 r) (power_feed 4 (lows 64 a))
    ∙ sym (ap (up 64) (ap (up 64) (up_add 64 64 r) ∙ up_add 64 128 r) ∙ up_add 64 192 r)
  where
    apart : (r w : ℕ) → fed r w ≡ bit_xor (up 64 r) (fed 0 w)
    apart r w = ap (λ (x : ℕ). fed x w) (sym (xor_zero_r r)) ∙ feed_sums 64 r 0 0 w

pub word_law : (a b c d w : ℕ) → a < 2 ^ 64
    → four 0 (bit_xor b a) (bit_xor c (a / 2 ^ 48)) (bit_xor d (a * 2 ^ 16 % 2 ^ 64)) (bit_xor w a) ≡ fed (four 0 a b c d) w
word_law a b c d w h =
    four_sums 0 b c d w 0 a (a / 2 ^ 48) (a * 2 ^ 16 % 2 ^ 64) a ∙ ap (bit_xor (four 0 b c d w)) (top_law a h)
    ∙ sym (four_sums 0 b c d w (fed 0 a) 0 0 0 0) ∙ rw (xor_zero_r b, xor_zero_r c, xor_zero_r d, xor_zero_r w) refl

-- the register stands on top of a first word
top : (r : ℕ) → r < 2 ^ 16 → feed 0 (lows 16 r) ≡ up 16 r
unfolding up
top r h = sixteen 0 r ∙ ap (zsteps 16) (mod-eq_of_lt h ∙ sym (xor_zero_r r)) ∙ sym (sixteen r 0)

seed : (r : ℕ) → r < 2 ^ 16 → fed 0 (r * 2 ^ 48) ≡ up 64 r
seed r h = feed_shifted 16 48 0 r ∙ ap (up 48) (top r h) ∙ up_add 48 16 r

opened : (r s t v w : ℕ) → r < 2 ^ 16 → s + t ≡ 64 → v < 2 ^ s
    → fed (fed 0 (bit_xor v (r * 2 ^ 48 % 2 ^ 64 / 2 ^ t))) (bit_xor w (r * 2 ^ 48 % 2 ^ 64 * 2 ^ s % 2 ^ 64)) ≡ fed (feed r (lows s v)) w
unfolding up
opened r s t v w h e l =
    let a = r * 2 ^ 48 % 2 ^ 64 in
    pair_sums 64 v (a / 2 ^ t) w (a * 2 ^ s % 2 ^ 64)
    ∙ ap₂ bit_xor (ap (λ (x : ℕ). fed x w) (ap (λ (k : ℕ). feed 0 (lows k v)) whole ∙ feed_lead t s v l))
    (shifted 64 s t a (omega arith) e (mod-lt (r * 2 ^ 48) (pow_pos 64)) ∙ ap (up s) (ap (fed 0) (mod-eq_of_lt (omega arith)) ∙ seed r h)
    ∙ up_add s 64 r ∙ ap (λ (k : ℕ). up k r) (add_comm s 64) ∙ sym (up_add 64 s r))
    ∙ sym (feed_sums 64 (feed 0 (lows s v)) (up s r) w 0)
    ∙ ap₂ fed (sym (feed_sums s 0 r v 0) ∙ ap (λ (x : ℕ). feed r (lows s x)) (xor_zero_r v)) (xor_zero_r w)
  where
    whole : 64 ≡ t + s
    whole = omega arith

-- h octets that fill no word, and a word
module _ (m : List ℕ) (oct : AreOctets m) (r h : ℕ) where
  first_law : h < 8 → (a : ℕ) → bit_xor (word 0 8 m) a / 2 ^ (32 - 4 * h) / 2 ^ (32 - 4 * h) ≡ bit_xor (word 0 h m) (a / 2 ^ (64 - 8 * h))
  first_law l a =
      let both : 32 - 4 * h + (32 - 4 * h) ≡ 64 - 8 * h = omega arith in
      let octets : 64 - 8 * h ≡ 8 * (8 - h) = omega arith in
      let eight : 8 ≡ h + (8 - h) = omega arith in
      shr-shr (bit_xor (word 0 8 m) a) (32 - 4 * h) (32 - 4 * h) ∙ ap (λ (k : ℕ). bit_xor (word 0 8 m) a / 2 ^ k) both ∙ xor_shr (word 0 8 m) a (64 - 8 * h)
      ∙ ap (λ (x : ℕ). bit_xor x (a / 2 ^ (64 - 8 * h))) (ap₂ (λ (i k : ℕ). word 0 i m / 2 ^ k) eight octets ∙ word_front m oct 0 h (8 - h))

  pub begin_law : r < 2 ^ 16 → h < 8 → h + 8 ≤ length m
      → four 0 0 0 (bit_xor (word 0 8 m) (r * 2 ^ 48 % 2 ^ 64) / 2 ^ (32 - 4 * h) / 2 ^ (32 - 4 * h))
      (bit_xor (word h 8 m) (r * 2 ^ 48 % 2 ^ 64 * 2 ^ (8 * h) % 2 ^ 64))
      ≡ feed r (bits (take (h + 8) m))
  unfolding up bits feed
  begin_law hr l n =
      let d = bit_xor (word h 8 m) (r * 2 ^ 48 % 2 ^ 64 * 2 ^ (8 * h) % 2 ^ 64) in
      let zero : fed 0 0 ≡ 0 = sums_zero (up 64) (up_sums 64) in
      ap₂ (λ (x y : ℕ). fed (fed x y) d) (ap (λ (x : ℕ). fed x 0) zero ∙ zero) (first_law l (r * 2 ^ 48 % 2 ^ 64))
      ∙ opened r (8 * h) (64 - 8 * h) (word 0 h m) (word h 8 m) hr (omega arith) (rw (pow_eight h) (word_lt m 0 oct h))
      ∙ ap (λ (x : ℕ). fed x (word h 8 m)) (sym (feed_word m oct 0 r h (omega arith)) ∙ ap (λ (i : ℕ). feed r (bits (take i m))) (zero-add h))
      ∙ sym (feed_word m oct h r 8 n)

-- what leaves the register at the top, in s places, and what is left of it below
parts : (r s : ℕ) → r < 2 ^ 16 → s ≤ 64 → bit_xor (fed 0 (r * 2 ^ s / 2 ^ 16)) (r * 2 ^ s % 2 ^ 16) ≡ up s r
unfolding up
parts r s h l =
    xor_eq x (up s r)
    (zsteps_zero 16 (bit_xor x (up s r))
    (xor_lt 16 x (up s r) (xor_lt 16 (fed 0 n) (r * 2 ^ s % 2 ^ 16) (feed_lt (lows 64 n) 0 (omega arith)) (mod-lt (r * 2 ^ s) (pow_pos 16)))
    (feed_lt (lows s 0) r h))
    (zsteps_xor 16 x (up s r) ∙ ap (λ (y : ℕ). bit_xor y (zsteps 16 (up s r))) same ∙ xor_self (zsteps 16 (up s r))))
  where
    n : ℕ
    n = r * 2 ^ s / 2 ^ 16

    x : ℕ
    x = bit_xor (fed 0 n) (r * 2 ^ s % 2 ^ 16)

    whole : 64 ≡ 64 - s + s
    whole = omega arith

    same : zsteps 16 x ≡ zsteps 16 (up s r)
    same =
        ap (λ (y : ℕ). zsteps 16 (bit_xor y (r * 2 ^ s % 2 ^ 16)))
        (ap (λ (k : ℕ). feed 0 (lows k n)) whole
        ∙ feed_lead (64 - s) s n (shr_lt s 16 (subst (λ (k : ℕ). r * 2 ^ s < 2 ^ k) (add_comm 16 s) (shl_lt 16 s h))))
        ∙ sym (sixteen (feed 0 (lows s n)) (r * 2 ^ s)) ∙ sym (feed_split s 16 0 (r * 2 ^ s)) ∙ ap (λ (k : ℕ). feed 0 (lows k (r * 2 ^ s))) (add_comm s 16)
        ∙ feed_shifted 16 s 0 r ∙ ap (up s) (top r h) ∙ up_add s 16 r ∙ ap (λ (k : ℕ). up k r) (add_comm s 16) ∙ sym (up_add 16 s r)
        ∙ sixteen (up s r) 0 ∙ ap (zsteps 16) (xor_zero_r (up s r))

pub take_law : (r s n : ℕ) → r < 2 ^ 16 → s ≤ 64 → n < 2 ^ s → bit_xor (fed 0 (bit_xor n (r * 2 ^ s / 2 ^ 16))) (r * 2 ^ s % 2 ^ 16) ≡ feed r (lows s n)
unfolding up
take_law r s n h l k =
    let whole : 64 ≡ 64 - s + s = omega arith in
    ap (λ (x : ℕ). bit_xor x (r * 2 ^ s % 2 ^ 16)) (feed_sums 64 0 0 n (r * 2 ^ s / 2 ^ 16))
    ∙ xor_assoc (fed 0 n) (fed 0 (r * 2 ^ s / 2 ^ 16)) (r * 2 ^ s % 2 ^ 16)
    ∙ ap₂ bit_xor (ap (λ (j : ℕ). feed 0 (lows j n)) whole ∙ feed_lead (64 - s) s n k) (parts r s h l)
    ∙ sym (feed_sums s 0 r n 0) ∙ ap (λ (x : ℕ). feed r (lows s x)) (xor_zero_r n)
