-- Laws of numbers and rows of fields as octets, for any width, length and table.
use mathlib.Core.Path.{◌≡◌, refl, ap, ap₂, sym, ◌∙◌, subst}
use Prim.Native.Nat.{ℕ, zero, suc, ◌+◌, ◌*◌, ◌/◌, ◌%◌, ◌^◌, ◌-◌, ◌<◌, ◌≤◌}
use mathlib.Core.List.{List, [], ◌∷◌, ◌++◌}
use Prim.Native.String.{String}
use native.Mathlib.Omega.{arith}
use native.Mathlib.Decide.{dec_lt}
use native.Mathlib.Numerals.{add-one}
use native.Mathlib.Nat.{mul-suc, pow-suc, mul-add-div_right, div-div-eq-div-mul, suc-add, zero-add, mul_assoc, one-le-pow, div-eq_of_lt, mul_comm, add_comm, add-mul, add-zero, add_assoc, sub-zero, le_refl, div-one, mod-eq_of_lt, mod-lt, add-suc, add-mul-mod_self_right, pow-le-pow_right}
use lib.Pow.{pow-add, pow_pos, mod-pow-add, high, low}
use lib.Arith.{digits_lt}
use lib.Dec.{lit<}
use lib.ListN.{length, take, drop, get_or, set, length-take, length-drop, get_or-append, get_or-eq_default}
use lib.Seq.{get_or-append-add, get_or-drop, get_or-take, take-suc, append_snoc, set_at, length-take-le, take_all, take_at, drop_at}
use Rattle.uslp_octets.specs.Octets.{AreOctets, BitField, bits_in, value_of, Fits, split, octets, pack, unpack, word, overlaid}

pub pow_eight : (w : ℕ) → 2 ^ (8 * w) ≡ 256 ^ w
pow_eight zero = refl
pow_eight (suc w) = rw (mul-suc, pow-add, pow-suc 256 w, pow_eight w)

pub pos : (w : ℕ) → 0 < 256 ^ w
pos w = one-le-pow w 256 (lit< tt)

pub length_octets : (k n : ℕ) → length (octets k n) ≡ k
length_octets zero n = refl
length_octets (suc k) n = ap suc (length_octets k n)

pub get_d_octets : (k n i : ℕ) → i < k → get_or (octets k n) i 0 ≡ n / 256 ^ (k - 1 - i) % 256
get_d_octets zero n i h = absurd (omega arith)
get_d_octets (suc k) n zero h = ap (λ (j : ℕ). n / 256 ^ j % 256) (omega arith)
get_d_octets (suc k) n (suc i) h = get_d_octets k n i (omega arith) ∙ ap (λ (j : ℕ). n / 256 ^ j % 256) (omega arith)

pub cons_eq : {a b : ℕ} {s t : List ℕ} → a ≡ b → s ≡ t → a ∷ s ≡ b ∷ t
cons_eq p q = cc

-- the low octets do not see what stands above them
octets_low : (w q r : ℕ) → octets w (q * 256 ^ w + r) ≡ octets w r
octets_low zero q r = refl
octets_low (suc w) q r =
    let e : q * 256 ^ suc w + r ≡ q * 256 * 256 ^ w + r = rw (pow-suc 256 w, mul_assoc q 256, mul_comm 256 (256 ^ w)) in
    let d : (q * 256 * 256 ^ w + r) / 256 ^ w ≡ q * 256 + r / 256 ^ w = mul-add-div_right (pos w) (q * 256) r in
    ap (octets (suc w)) e ∙ cons_eq (omega (arith, d)) (octets_low w (q * 256) r)

-- two numbers side by side
pub octets_append : (k w q r : ℕ) → r < 256 ^ w → octets (k + w) (q * 256 ^ w + r) ≡ octets k q ++ octets w r
octets_append zero w q r h = rw zero-add (octets_low w q r)
octets_append (suc k) w q r h =
    let d : (q * 256 ^ w + r) / 256 ^ w ≡ q = mul-add-div_right (pos w) q r ∙ ap (λ (y : ℕ). q + y) (div-eq_of_lt h) ∙ add-zero q in
    let x : (q * 256 ^ w + r) / 256 ^ (k + w) ≡ q / 256 ^ k =
    rw (add_comm k w, pow-add) (sym (div-div-eq-div-mul (q * 256 ^ w + r) (256 ^ w) (256 ^ k)) ∙ ap (λ (y : ℕ). y / 256 ^ k) d) in
    rw suc-add (cons_eq (ap (λ (y : ℕ). y % 256) x) (octets_append k w q r h))

-- a row after a row
bits_append : (fs gs : List BitField) → bits_in (fs ++ gs) ≡ bits_in fs + bits_in gs
bits_append [] gs = sym (zero-add (bits_in gs))
bits_append (f ∷ fs) gs = rw (bits_append fs gs) (sym (add_assoc f.1 (bits_in fs) (bits_in gs)))

regroup : (v b p n m : ℕ) → v * (b * p) + (n * p + m) ≡ (v * b + n) * p + m
regroup v b p n m = simp (add-mul, mul_assoc, add_assoc)

value_append : (fs gs : List BitField) → value_of (fs ++ gs) ≡ value_of fs * 2 ^ bits_in gs + value_of gs
value_append [] gs = omega arith
value_append (f ∷ fs) gs =
    rw (bits_append fs gs, value_append fs gs, pow-add)
    (regroup f.2 (2 ^ bits_in fs) (2 ^ bits_in gs) (value_of fs) (value_of gs))

-- a row of whole octets, and behind it a number of w octets
pub pack_append : (name : String) (k w n : ℕ) (fs : List BitField) → bits_in fs ≡ 8 * k → n < 256 ^ w
    → pack (fs ++ (name, 8 * w, n) ∷ []) ≡ octets k (value_of fs) ++ octets w n
pack_append name k w n fs e h =
    let last : List BitField = (name, 8 * w, n) ∷ [] in
    let b : bits_in (fs ++ last) / 8 ≡ k + w = omega (arith, bits_append fs last) in
    let p : 2 ^ (8 * w + 0) ≡ 256 ^ w = rw add-zero (pow_eight w) in
    let v : value_of (fs ++ last) ≡ value_of fs * 256 ^ w + n = value_append fs last ∙ rw p (omega arith) in
    rw (b, v) (octets_append k w (value_of fs) n h)

-- splitting the number of a row that fits gives the row, whatever stands above it
pub value_lt : (fs : List BitField) → Fits fs → value_of fs < 2 ^ bits_in fs
value_lt [] h = lit< tt
value_lt (f ∷ fs) h = rw (pow-add 2 f.1 (bits_in fs)) (digits_lt h.0 (value_lt fs h.1))

pub field_eq : {name : String} {w a b : ℕ} {fs gs : List BitField} → a ≡ b → fs ≡ gs → (name, w, a) ∷ fs ≡ (name, w, b) ∷ gs
field_eq p q = cc

split_value : (fs : List BitField) (q : ℕ) → Fits fs → split fs (q * 2 ^ bits_in fs + value_of fs) ≡ fs
split_value [] q h = refl
split_value (f ∷ fs) q h =
    let e : q * 2 ^ (f.1 + bits_in fs) + (f.2 * 2 ^ bits_in fs + value_of fs) ≡ (q * 2 ^ f.1 + f.2) * 2 ^ bits_in fs + value_of fs =
    rw pow-add (regroup q (2 ^ f.1) (2 ^ bits_in fs) f.2 (value_of fs)) in
    rw e
    (field_eq
    (ap (λ (y : ℕ). y % 2 ^ f.1) (high (q * 2 ^ f.1 + f.2) (bits_in fs) (value_lt fs h.1)) ∙ low q f.1 h.0)
    (split_value fs (q * 2 ^ f.1 + f.2) h.1))

-- the number of the row that a number was split into
bits_split : (fs : List BitField) (n : ℕ) → bits_in (split fs n) ≡ bits_in fs
bits_split [] n = refl
bits_split (f ∷ fs) n = ap (λ (b : ℕ). f.1 + b) (bits_split fs n)

value_split : (fs : List BitField) (n : ℕ) → value_of (split fs n) ≡ n % 2 ^ bits_in fs
value_split [] n = omega arith
value_split (f ∷ fs) n = rw (bits_split fs n, value_split fs n) (sym (mod-pow-add n f.1 (bits_in fs)))

-- the row that a number was split into fits
pub split_fits : (fs : List BitField) (n : ℕ) → Fits (split fs n)
split_fits [] n = tt
split_fits (f ∷ fs) n = (mod-lt (n / 2 ^ bits_in fs) (pow_pos f.1), split_fits fs n)

-- what stands above a row does not matter to it
split_low : (fs : List BitField) (q r : ℕ) → split fs (q * 2 ^ bits_in fs + r) ≡ split fs r
split_low [] q r = refl
split_low (f ∷ fs) q r =
    let e : q * 2 ^ (f.1 + bits_in fs) + r ≡ q * 2 ^ f.1 * 2 ^ bits_in fs + r = rw (pow-add, mul_assoc) in
    let d : (q * 2 ^ f.1 * 2 ^ bits_in fs + r) / 2 ^ bits_in fs % 2 ^ f.1 ≡ r / 2 ^ bits_in fs % 2 ^ f.1 =
    ap (λ (y : ℕ). y % 2 ^ f.1) (mul-add-div_right (pow_pos (bits_in fs)) (q * 2 ^ f.1) r ∙ add_comm _ _) ∙ add-mul-mod_self_right _ _ _ in
    rw e (field_eq d (split_low fs (q * 2 ^ f.1) r))

-- the number of w octets that stand behind p: the first k of them make its high part, all of them the number
module _ (p t : List ℕ) (w n : ℕ) (fits : n < 256 ^ w) where
  word_high : (k : ℕ) → k ≤ w → word (length p) k (p ++ (octets w n ++ t)) ≡ n / 256 ^ (w - k)
  word_high zero h = sym (ap (λ (j : ℕ). n / 256 ^ j) (sub-zero w) ∙ div-eq_of_lt fits)
  word_high (suc k) h =
      let e : 256 ^ (w - k) ≡ 256 ^ (w - 1 - k) * 256 = ap (λ (j : ℕ). 256 ^ j) (omega arith) ∙ pow-suc 256 (w - 1 - k) in
      let high : n / 256 ^ (w - k) ≡ n / 256 ^ (w - 1 - k) / 256 = ap (λ (d : ℕ). n / d) e ∙ sym (div-div-eq-div-mul n (256 ^ (w - 1 - k)) 256) in
      let at : get_or (p ++ (octets w n ++ t)) (length p + k) 0 ≡ n / 256 ^ (w - 1 - k) % 256 =
      get_or-append-add p (octets w n ++ t) k 0 ∙ get_or-append (octets w n) t 0 k (omega (arith, length_octets w n)) ∙ get_d_octets w n k (omega arith) in
      let last : n / 256 ^ (w - 1 - k) ≡ n / 256 ^ (w - suc k) = ap (λ (j : ℕ). n / 256 ^ j) (omega arith) in
      rw (word_high k (omega arith), at, high) (omega (arith, last))

  pub word_octets : word (length p) w (p ++ (octets w n ++ t)) ≡ n
  word_octets =
      let z : w - w ≡ 0 = omega arith in
      word_high w (le_refl w) ∙ ap (λ (j : ℕ). n / 256 ^ j) z ∙ div-one n

-- a number in two parts
pub word_parts : (m : List ℕ) (i j k : ℕ) → word i (j + k) m ≡ word i j m * 256 ^ k + word (i + j) k m
word_parts m i j zero = ap (λ (x : ℕ). word i x m) (add-zero j) ∙ omega arith
word_parts m i j (suc k) =
    ap (λ (x : ℕ). word i x m) (add-suc j k)
    ∙ ap₂ (λ (x y : ℕ). x * 256 + get_or m y 0) (word_parts m i j k) (sym (add_assoc i j k))
    ∙ omega (arith, mul_assoc (word i j m) (256 ^ k) 256, ap (λ (x : ℕ). word i j m * x) (pow-suc 256 k))

-- the octets of a word are the octets that it was read from
module _ (s : List ℕ) (i : ℕ) (oct : AreOctets s) where
  pub octets_word : (w : ℕ) → i + w ≤ length s → octets w (word i w s) ≡ take w (drop i s)
  octets_word zero h = refl
  octets_word (suc w) h =
      let x : ℕ = get_or s (i + w) 0 in
      let one : octets 1 x ≡ x ∷ [] = ap (λ (y : ℕ). y ∷ []) (omega (arith, oct (i + w))) in
      let two : octets (w + 1) (word i w s * 256 ^ 1 + x) ≡ octets w (word i w s) ++ octets 1 x = octets_append w 1 (word i w s) x
      (omega (arith, oct (i + w))) in
      let three : take (suc w) (drop i s) ≡ take w (drop i s) ++ (x ∷ []) =
      take-suc (drop i s) w 0 (omega (arith, length-drop i s)) ∙ ap (λ (y : ℕ). take w (drop i s) ++ (y ∷ [])) (get_or-drop i s w 0) in
      ap (λ (k : ℕ). octets k (word i w s * 256 + x)) (sym (add-one w)) ∙ two
      ∙ ap (λ (l : List ℕ). l ++ octets 1 x) (octets_word w (omega arith))
      ∙ ap (λ (l : List ℕ). take w (drop i s) ++ l) one
      ∙ sym three

  pub word_lt : (w : ℕ) → word i w s < 256 ^ w
  word_lt zero = lit< tt
  word_lt (suc w) = rw (pow-suc 256 w) (omega (arith, word_lt w, oct (i + w)))

  -- eight octets fit a machine number
  pub word_fits : (w : ℕ) → w ≤ 8 → word i w s % 2 ^ 64 ≡ word i w s
  word_fits w h = mod-eq_of_lt (omega (arith, word_lt w, pow-le-pow_right {n = 256} (lit< tt) {i = w} {j = 8} h))

-- a row of whole octets: packed it is unpacked to itself, and octets unpacked pack to themselves
module _ (fs : List BitField) (k : ℕ) (whole : bits_in fs ≡ 8 * k) where
  eighth : bits_in fs / 8 ≡ k
  eighth = omega arith

  power : 2 ^ bits_in fs ≡ 256 ^ k
  power = rw whole (pow_eight k)

  pub unpack_pack : (t : List ℕ) → Fits fs → unpack fs (pack fs ++ t) ≡ fs
  unpack_pack t h =
      let small : value_of fs < 256 ^ k = rw power at (value_lt fs h) in
      let alone : 0 * 2 ^ bits_in fs + value_of fs ≡ value_of fs = omega arith in
      rw (eighth, word_octets [] t k (value_of fs) small, ← alone) (split_value fs 0 h)

  pub pack_unpack : (s : List ℕ) → AreOctets s → k ≤ length s → pack (unpack fs s) ≡ take k s
  pack_unpack s oct h =
      rw (bits_split, value_split, power, eighth, mod-eq_of_lt (word_lt s 0 oct k)) (octets_word s 0 oct k (omega arith))

-- a part of octets is octets
pub are_take : (n : ℕ) (s : List ℕ) → AreOctets s → AreOctets (take n s)
are_take n s oct i =
    elim (dec_lt i n) [
      | yes h ↦ subst (λ (x : ℕ). x < 256) (sym (get_or-take n s i 0 h)) (oct i)
      | no h ↦ subst (λ (x : ℕ). x < 256) (sym (get_or-eq_default (take n s) 0 (omega (arith, length-take n s)))) (lit< tt)
    ]

pub are_drop : (n : ℕ) (s : List ℕ) → AreOctets s → AreOctets (drop n s)
are_drop n s oct i = subst (λ (x : ℕ). x < 256) (sym (get_or-drop n s i 0)) (oct (n + i))

pub are_append : (s t : List ℕ) → AreOctets s → AreOctets t → AreOctets (s ++ t)
are_append [] t a b i = b i
are_append (x ∷ s) t a b zero = a 0
are_append (x ∷ s) t a b (suc i) = are_append s t (λ j. a (suc j)) b i

-- the octets of a number are octets
pub are_number : (k n : ℕ) → AreOctets (octets k n)
are_number zero n i = lit< tt
are_number (suc k) n zero = mod-lt (n / 256 ^ k) (lit< tt)
are_number (suc k) n (suc i) = are_number k n i

-- and so are the two parts of octets
pub are_front : (s t : List ℕ) → AreOctets (s ++ t) → AreOctets s
are_front s t oct = subst AreOctets (take_at s t (length s) refl) (are_take (length s) (s ++ t) oct)

pub are_behind : (s t : List ℕ) → AreOctets (s ++ t) → AreOctets t
are_behind s t oct = subst AreOctets (drop_at s t (length s) refl) (are_drop (length s) (s ++ t) oct)

-- a word of a part of the octets stands in the whole of them
pub word_drop : (i j n : ℕ) (s : List ℕ) → word j n (drop i s) ≡ word (i + j) n s
word_drop i j zero s = refl
word_drop i j (suc n) s = rw (word_drop i j n s, get_or-drop, add_assoc)

pub word_take : (i n k : ℕ) (s : List ℕ) → i + n ≤ k → word i n (take k s) ≡ word i n s
word_take i zero k s h = refl
word_take i (suc n) k s h = rw (word_take i n k s (omega arith), get_or-take k s (i + n) 0 (omega arith))

-- octets laid over others that have room for them
pub overlaid_fits : (s t : List ℕ) → length s ≤ length t → overlaid s t ≡ s ++ drop (length s) t
overlaid_fits s t h = ap (λ (l : List ℕ). l ++ drop (length s) t) (take_all (length t) s h)

-- what stands at the front of octets stands there with others behind
pub word_front : (s t : List ℕ) (i n : ℕ) → i + n ≤ length s → word i n (s ++ t) ≡ word i n s
word_front s t i zero h = refl
word_front s t i (suc n) h = rw (word_front s t i n (omega arith), get_or-append s t 0 (i + n) (omega arith))

pub unpack_front : (fs : List BitField) (s t : List ℕ) → bits_in fs / 8 ≤ length s → unpack fs (s ++ t) ≡ unpack fs s
unpack_front fs s t h = ap (split fs) (word_front s t 0 (bits_in fs / 8) (omega arith))

-- the word of a part, as a range cuts it
pub word_part : (i w : ℕ) (s : List ℕ) → i + w ≤ length s → word 0 (length (take (i + w - i) (drop i s))) (take (i + w - i) (drop i s)) ≡ word i w s
word_part i w s h =
    let z : i + w - i ≡ w = omega arith in
    rw (z, length-take-le w (drop i s) (omega (arith, length-drop i s)))
    (word_take 0 w w (drop i s) (omega arith) ∙ word_drop i 0 w s ∙ ap (λ (m : ℕ). word m w s) (add-zero i))

-- a field of k octets before a row of m
module _ (name : String) (k v m : ℕ) (fs : List BitField) (whole : bits_in fs ≡ 8 * m) where
  both : (8 * k + bits_in fs) / 8 ≡ k + m
  both = omega arith

  pub pack_cons : Fits fs → pack ((name, 8 * k, v) ∷ fs) ≡ octets k v ++ pack fs
  pack_cons h =
      let small : value_of fs < 256 ^ m = rw (power fs m whole) at (value_lt fs h) in
      rw (both, eighth fs m whole, power fs m whole) (octets_append k m v (value_of fs) small)

  pub unpack_cons : (s : List ℕ) → AreOctets s → unpack ((name, 8 * k, v) ∷ fs) s ≡ (name, 8 * k, word 0 k s) ∷ unpack fs (drop k s)
  unpack_cons s oct =
      let low : word k m s < 2 ^ bits_in fs = rw (power fs m whole) (word_lt s k oct m) in
      let all : word 0 (k + m) s ≡ word 0 k s * 2 ^ bits_in fs + word k m s =
      rw (power fs m whole) (word_parts s 0 k m ∙ ap (λ (j : ℕ). word 0 k s * 256 ^ m + word j m s) (zero-add k)) in
      let rest : word k m s ≡ word 0 m (drop k s) = sym (word_drop k 0 m s ∙ ap (λ (j : ℕ). word j m s) (add-zero k)) in
      rw (both, all)
      (field_eq
      (ap (λ (y : ℕ). y % 2 ^ (8 * k)) (high (word 0 k s) (bits_in fs) low) ∙ mod-eq_of_lt (rw (pow_eight k) (word_lt s 0 oct k)))
      (split_low fs (word 0 k s) (word k m s) ∙ ap (split fs) (rest ∙ ap (λ (j : ℕ). word 0 j (drop k s)) (sym (eighth fs m whole)))))

-- a run of cells filled from the end, whatever the cells: one more in front
module _ (run : ℕ → List ℕ) (cell : ℕ → ℕ) (more : (k : ℕ) → run (suc k) ≡ cell k ∷ run k) (d : List ℕ) where
  pub filled_more : (i : ℕ) → 0 < i → i ≤ length d
      → set (take i d ++ run (length d - i)) (i - 1) (cell (length d - i)) ≡ take (i - 1) d ++ run (length d - (i - 1))
  filled_more i h k =
      let j : ℕ = i - 1 in
      let e : i ≡ suc (i - 1) = omega arith in
      let f : length d - (i - 1) ≡ suc (length d - i) = omega arith in
      ap (λ (n : ℕ). set (take n d ++ run (length d - i)) (i - 1) (cell (length d - i))) e
      ∙ ap (λ (l : List ℕ). set (l ++ run (length d - i)) (i - 1) (cell (length d - i))) (take-suc d (i - 1) 0 (omega arith))
      ∙ ap (λ (l : List ℕ). set l (i - 1) (cell (length d - i))) (append_snoc (take (i - 1) d) (get_or d (i - 1) 0) (run (length d - i)))
      ∙ set_at (take (i - 1) d) (get_or d (i - 1) 0) (run (length d - i)) (cell (length d - i)) (i - 1) (length-take-le (i - 1) d (omega arith))
      ∙ ap (λ (l : List ℕ). take (i - 1) d ++ l) (sym (ap run f ∙ more (length d - i)))

-- what is left of a number after so many cells of a base
pub rest_less : (b n i v : ℕ) → 0 < i → i ≤ n → v / b ^ (n - i) / b ≡ v / b ^ (n - (i - 1))
rest_less b n i v h k =
    let f : n - (i - 1) ≡ suc (n - i) = omega arith in
    div-div-eq-div-mul v (b ^ (n - i)) b ∙ ap (λ (p : ℕ). v / p) (sym (pow-suc b (n - i)) ∙ ap (λ (m : ℕ). b ^ m) (sym f))

-- a turn of a loop that fills a run with a number's places, from the last on: what is left of the number, and the cells
pub filled_turn : (run : ℕ → List ℕ) (put : ℕ → ℕ) (b v : ℕ) → ((k : ℕ) → run (suc k) ≡ put (v / b ^ k % b) ∷ run k)
    → (d t : List ℕ) (r i : ℕ) → 0 < i → i ≤ length d → r ≡ v / b ^ (length d - i) → t ≡ take i d ++ run (length d - i)
    → (r / b ≡ v / b ^ (length d - (i - 1))) × (set t (i - 1) (put (r % b)) ≡ take (i - 1) d ++ run (length d - (i - 1)))
filled_turn run put b v more d t r i h k left filled = (
  ap (λ (x : ℕ). x / b) left ∙ rest_less b (length d) i v h k,
  ap₂ (λ (x : List ℕ) (y : ℕ). set x (i - 1) (put (y % b))) filled left ∙ filled_more run (λ (n : ℕ). put (v / b ^ n % b)) more d i h k,
)
