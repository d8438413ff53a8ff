-- How many octets SHORT_SOURCE asks for in all, and how often it can be met: five times at the most.
use mathlib.Core.Path.{◌≡◌, refl, ap, sym, subst}
use mathlib.Core.Bool.{Bool, true, false, not, cond, ◌&&◌}
use mathlib.Core.List.{List, [], ◌∷◌, ◌++◌, map}
use Prim.Native.Nat.{ℕ, zero, suc, ◌+◌, ◌-◌, ◌<◌, ◌≤◌}
use native.Mathlib.Omega.{arith}
use borrow.Author.Tests.{ltb-true, ltb-false, lt-ltb, le-ltb}
use lib.ListN.{length, take, drop, get_or, length-append, length-drop}
use lib.Dec.{eqb, ltb}
use Rattle.uslp_octets.specs.Octets.{BitField, named}
use Rattle.uslp_checksum.specs.Checksum.{checksum_of}
use Rattle.uslp_kinds.specs.Outcome.{Outcome, done, refused, and_then}
use Rattle.uslp_kinds.specs.Answers.{short, lacking}
use Rattle.uslp_kinds.specs.Managed.{no_fecf}
use Rattle.uslp_kinds.proofs.Behind.{Says, says_row, says_other, says_end, says_then, lacking_none}
use Rattle.uslp_kinds.specs.declared.ManagedParameters.{ManagedParameters}
use Rattle.uslp_primary_header.specs.Header.{len_header, len_frame, header_reading}
use Rattle.uslp_primary_header.specs.declared.PrimaryHeader.{PrimaryHeader}
use Rattle.uslp_primary_header.proofs.RoundTrip.{header_in, read_in, read_long}
use Rattle.uslp_primary_header.proofs.Behind.{rows_front, header_says}
use Rattle.uslp_data_field_header.specs.Field.{field_reading}
use Rattle.uslp_data_field_header.specs.declared.TransferFrameDataFieldHeader.{TransferFrameDataFieldHeader}
use Rattle.uslp_data_field_header.proofs.Behind.{field_says}
use Rattle.uslp_layout.specs.Layout.{needed}
use Rattle.uslp_reader.specs.Reader.{frame_with, stored_fecf, computed_fecf, body_reading, frame_reading}
use Rattle.uslp_reader.specs.Behind.{Asks}
use Rattle.uslp_reader.specs.Behind.Asks.{no_more, again}
use Rattle.uslp_reader.specs.declared.TransferFrame.{TransferFrame}

-- how many octets the reader asks for in all of octets that begin like this: four, seven, those of the count, of the whole frame, and behind the
-- primary header one or three, even past a frame whose length is too small
data Awaits (s : List ℕ) : ℕ → Type 0 where
  four : length s < 4 → Awaits s 4
  seven : 4 ≤ length s → length s < 7 → Awaits s 7
  count : 7 ≤ length s → length s < len_header (header_in s) → Awaits s (len_header (header_in s))
  whole : len_header (header_in s) ≤ length s → length s < len_frame (header_in s) → Awaits s (len_frame (header_in s))
  rule : len_header (header_in s) ≤ length s → len_frame (header_in s) ≤ length s → length s < len_header (header_in s) + 1 → Awaits s (len_header (header_in s) + 1)
  pointer : len_header (header_in s) + 1 ≤ length s → len_frame (header_in s) ≤ length s → length s < len_header (header_in s) + 3
      → Awaits s (len_header (header_in s) + 3)

-- these in the reader's order, and how many of them the octets reach, one after the other. The whole frame and the one octet behind the header are
-- one length, the larger of the two: octets that lacked the one do not lack the other
abbrev lengths : List ℕ → List ℕ
lengths s =
    let n = len_header (header_in s) + 1 in
    4 ∷ 7 ∷ len_header (header_in s) ∷ (n + (len_frame (header_in s) - n)) ∷ (len_header (header_in s) + 3) ∷ []

abbrev passing : ℕ → List ℕ → ℕ
passing n [] = 0
passing n (k ∷ ks) = cond (ltb n k) 0 (suc (passing n ks))

unfoldable pub reached : List ℕ → ℕ
reached s = passing (length s) (lengths s)

module _ (s : List ℕ) where
  -- the number that is lacking makes up the number in all
  abbrev InAll : ℕ → Type 0
  InAll n = Awaits s (length s + n)

  all_as : {a : ℕ} (n : ℕ) → a ≡ length s + n → Awaits s a → InAll n
  all_as n e w = subst (Awaits s) e w

  body_awaits : (h : PrimaryHeader) (f : TransferFrameDataFieldHeader) (managed : ManagedParameters) → Says InAll (body_reading h f managed s)
  body_awaits h f managed =
      says_other InAll 7 (len_frame h ∷ needed h f managed ∷ []) (ltb (len_frame h) (needed h f managed)) _ refl
      (λ a.
      says_other InAll 6 (stored_fecf h s ∷ computed_fecf h s ∷ []) (managed.has_fecf && not (eqb (checksum_of (take (len_frame h) s)) 0)) _ refl
      (λ b. says_end InAll (done (frame_with h f (len_frame h - needed h f managed) s)) refl))

  field_awaits : len_header (header_in s) ≤ length s → len_frame (header_in s) ≤ length s → Says InAll (field_reading (drop (len_header (header_in s)) s))
  field_awaits long enough =
      let lu = length-drop (len_header (header_in s)) s in
      field_says (drop (len_header (header_in s)) s) InAll
      (λ l. all_as _ (omega arith) (rule long enough (omega arith)))
      (λ k l. all_as _ (omega arith) (pointer (omega arith) enough (omega arith)))

  -- behind a header that was read
  abbrev behind : ManagedParameters → PrimaryHeader → Outcome TransferFrame
  behind managed h =
      cond (ltb (length s) (len_frame h)) (refused 1 (length s ∷ len_frame h ∷ []))
      (and_then (field_reading (drop (len_header h) s)) (λ (f : TransferFrameDataFieldHeader). body_reading h f managed s))

  behind_awaits : (managed : ManagedParameters) → len_header (header_in s) ≤ length s → Says InAll (behind managed (header_in s))
  behind_awaits managed long =
      let h = header_in s in
      says_row InAll (length s) (len_frame h) _ (and_then (field_reading (drop (len_header h) s)) (λ (f : TransferFrameDataFieldHeader). body_reading h f managed s))
      (λ a. let l = ltb-true (length s) (len_frame h) a in all_as _ (omega arith) (whole long l))
      (λ a.
      says_then (λ (f : TransferFrameDataFieldHeader). body_reading h f managed s) InAll (field_reading (drop (len_header h) s))
      (field_awaits long (ltb-false (length s) (len_frame h) a))
      (λ f r. body_awaits h f managed))

  -- SHORT_SOURCE asks for one of these
  frame_awaits : (managed : ManagedParameters) → short (frame_reading s managed) ≡ true → Awaits s (length s + lacking (frame_reading s managed))
  unfolding frame_reading
  frame_awaits managed =
      says_then (behind managed) InAll (header_reading s)
      (header_says s InAll
      (λ l. all_as _ (omega arith) (four l))
      (λ k l. all_as _ (omega arith) (seven k l))
      (λ k l. all_as _ (omega arith) (count k l)))
      (λ h e.
      let i = read_in s h e in
      subst (λ (k : PrimaryHeader). Says InAll (behind managed k)) i
      (behind_awaits managed (subst (λ (k : PrimaryHeader). len_header k ≤ length s) (sym i) (read_long s h e))))

-- which is more than there are, and no more than 65,536
awaits_more : {s : List ℕ} {a : ℕ} → Awaits s a → length s < a
awaits_more (four h) = h
awaits_more (seven g h) = h
awaits_more (count g h) = h
awaits_more (whole g h) = h
awaits_more (rule f g h) = h
awaits_more (pointer f g h) = h

awaits_room : {s : List ℕ} {a : ℕ} → Awaits s a → a ≤ 65536
awaits_room (four h) = omega arith
awaits_room (seven g h) = omega arith
awaits_room (count g h) = omega arith
awaits_room (whole g h) = omega arith
awaits_room (rule f g h) = omega arith
awaits_room (pointer f g h) = omega arith

-- SHORT_SOURCE lacks an octet or more, and with these there are no more than 65,536
pub lacks_some : (s : List ℕ) (managed : ManagedParameters) → short (frame_reading s managed) ≡ true → 0 < lacking (frame_reading s managed)
lacks_some s managed e = omega (arith, awaits_more (frame_awaits s managed e))

pub lacks_room : (s : List ℕ) (managed : ManagedParameters) → length s ≤ 65536 → length s + lacking (frame_reading s managed) ≤ 65536
lacks_room s managed h = go (short (frame_reading s managed)) refl
  where
    go : (b : Bool) → short (frame_reading s managed) ≡ b → length s + lacking (frame_reading s managed) ≤ 65536
    go true e = awaits_room (frame_awaits s managed e)
    go false e = omega (arith, lacking_none (frame_reading s managed) e)

-- how many lengths are reached: no more than there are, none past one that is not, and one more than those before one that is
step_most : (b : Bool) (m n : ℕ) → m ≤ n → cond b 0 (suc m) ≤ suc n
step_most true m n h = omega arith
step_most false m n h = omega arith

passing_most : (n : ℕ) (ks : List ℕ) → passing n ks ≤ length ks
passing_most n [] = omega arith
passing_most n (k ∷ ks) = step_most (ltb n k) (passing n ks) (length ks) (passing_most n ks)

pub reached_most : (s : List ℕ) → reached s ≤ 5
unfolding reached
reached_most s = passing_most (length s) (lengths s)

passing_before : (i n : ℕ) (ks : List ℕ) → n < get_or ks i 0 → passing n ks ≤ i
passing_before zero n [] h = absurd (omega arith)
passing_before (suc i) n [] h = absurd (omega arith)
passing_before zero n (k ∷ ks) h = rw (lt-ltb n k h) (omega arith)
passing_before (suc i) n (k ∷ ks) h = step_most (ltb n k) (passing n ks) i (passing_before i n ks h)

-- the lengths up to this place are reached
abbrev Upto : ℕ → ℕ → List ℕ → Type 0
Upto i n [] = ⊥
Upto zero n (k ∷ ks) = k ≤ n
Upto (suc i) n (k ∷ ks) = (k ≤ n) × Upto i n ks

passing_past : (i n : ℕ) (ks : List ℕ) → Upto i n ks → i < passing n ks
passing_past zero n [] h = absurd h
passing_past (suc i) n [] h = absurd h
passing_past zero n (k ∷ ks) h = rw (le-ltb n k h) (omega arith)
passing_past (suc i) n (k ∷ ks) h = rw (le-ltb n k h.0) (omega (arith, passing_past i n ks h.1))

module _ (s t : List ℕ) where
  -- with seven octets the two lengths in the header stand
  header_same : 7 ≤ length s → len_header (header_in (s ++ t)) ≡ len_header (header_in s)
  header_same h = ap (λ (l : List BitField). 7 + named "count width" l) (rows_front s t h)

  frame_same : 7 ≤ length s → len_frame (header_in (s ++ t)) ≡ len_frame (header_in s)
  frame_same h = ap (λ (l : List BitField). named "length less one" l + 1) (rows_front s t h)

  one_more : (i : ℕ) → length s < get_or (lengths s) i 0 → Upto i (length (s ++ t)) (lengths (s ++ t)) → reached s < reached (s ++ t)
  unfolding reached
  one_more i h u = omega (arith, passing_before i (length s) (lengths s) h, passing_past i (length (s ++ t)) (lengths (s ++ t)) u)

  -- with what was asked for in all, one length more is reached
  reached_more : {a : ℕ} → Awaits s a → length s + length t ≡ a → reached s < reached (s ++ t)
  reached_more (four h) e = let l = length-append s t in one_more 0 h (omega arith)
  reached_more (seven g h) e = let l = length-append s t in one_more 1 h (omega arith, omega arith)
  reached_more (count g h) e =
      let l = length-append s t in
      let p = header_same g in
      one_more 2 h (omega arith, (omega arith, omega arith))
  reached_more (whole g h) e =
      let l = length-append s t in
      let p = header_same (omega arith) in
      let q = frame_same (omega arith) in
      one_more 3 (omega arith) (omega arith, (omega arith, (omega arith, omega arith)))
  reached_more (rule f g h) e =
      let l = length-append s t in
      let p = header_same (omega arith) in
      let q = frame_same (omega arith) in
      one_more 3 (omega arith) (omega arith, (omega arith, (omega arith, omega arith)))
  reached_more (pointer f g h) e =
      let l = length-append s t in
      let p = header_same (omega arith) in
      let q = frame_same (omega arith) in
      one_more 4 h (omega arith, (omega arith, (omega arith, (omega arith, omega arith))))

-- with exactly as many octets as it lacks, the reader gets past the length that it lacked
pub asks_further : (s t : List ℕ) (managed : ManagedParameters) → short (frame_reading s managed) ≡ true → length t ≡ lacking (frame_reading s managed)
    → reached s < reached (s ++ t)
asks_further s t managed e l = reached_more s t (frame_awaits s managed e) (ap (λ (n : ℕ). length s + n) l)

-- so SHORT_SOURCE is met five times at the most
asks_left : {managed : ManagedParameters} {s : List ℕ} {n : ℕ} → Asks managed s n → n + reached s ≤ 5
asks_left {managed} {s} no_more = omega (arith, reached_most s)
asks_left {managed} {s} (again t e l more) = omega (arith, asks_left more, asks_further s t managed e l)

pub asks_five : {managed : ManagedParameters} {s : List ℕ} {n : ℕ} → Asks managed s n → n ≤ 5
asks_five a = omega (arith, asks_left a)

-- and it can be: four octets, seven, the count, the frame of nine octets, and its pointer
pub asks_all : (managed : ManagedParameters) → Asks managed [] 5
unfolding frame_reading header_reading field_reading
asks_all managed =
    again (0xC1 ∷ 0x23 ∷ 0x48 ∷ 0xA6 ∷ []) refl refl
    (again (0x00 ∷ 0x08 ∷ 0x01 ∷ []) refl refl
    (again (0x07 ∷ []) refl refl
    (again (0x04 ∷ []) refl refl
    (again (0x0A ∷ 0xF0 ∷ []) refl refl no_more))))

-- with exactly as many octets as are lacking the reader may decide, whatever the length that was lacking, but for the count, behind which it looks at
-- the whole frame: four octets, seven, the whole frame, one and three behind the primary header
abbrev partial : List (List ℕ × List ℕ)
partial =
    (0xC1 ∷ 0x23 ∷ 0x48 ∷ [], 0xA7 ∷ [])
    ∷ (0xB1 ∷ 0x23 ∷ 0x48 ∷ 0xA6 ∷ [], 0x00 ∷ 0x0A ∷ 0x01 ∷ [])
    ∷ (0xC1 ∷ 0x23 ∷ 0x48 ∷ 0xA6 ∷ 0x00 ∷ 0x0A ∷ 0x01 ∷ 0x07 ∷ [], 0xE4 ∷ 0x0A ∷ 0xF0 ∷ [])
    ∷ (0xC1 ∷ 0x23 ∷ 0x48 ∷ 0xA6 ∷ 0x00 ∷ 0x07 ∷ 0x01 ∷ 0x07 ∷ [], 0xE4 ∷ [])
    ∷ (0xC1 ∷ 0x23 ∷ 0x48 ∷ 0xA6 ∷ 0x00 ∷ 0x08 ∷ 0x01 ∷ 0x07 ∷ 0x04 ∷ [], 0x0A ∷ 0xF0 ∷ [])
    ∷ []

-- whether octets get SHORT_SOURCE, how many they lack, and whether they get it with the others behind
abbrev decides : List ℕ × List ℕ → Bool × ℕ × Bool
decides c = (short (frame_reading c.0 no_fecf), lacking (frame_reading c.0 no_fecf), short (frame_reading (c.0 ++ c.1) no_fecf))

abbrev decided : List ℕ × List ℕ → Bool × ℕ × Bool
decided c = (true, length c.1, false)

pub may_decide : map decides partial ≡ map decided partial
unfolding frame_reading header_reading field_reading
may_decide = refl
