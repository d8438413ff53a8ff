-- Octets have one list of entries, and whether they are a good form can be told.
use mathlib.Core.Path.{◌≡◌, refl, sym, ◌∙◌, ap, ap₂, subst}
use mathlib.Core.Bool.{Bool}
use mathlib.Core.List.{List, [], ◌∷◌, ◌++◌, append-nil, append_assoc}
use Prim.Native.Nat.{ℕ, zero, suc, ◌+◌, ◌-◌, ◌*◌, ◌<◌, ◌≤◌}
use native.Mathlib.Omega.{arith}
use native.Mathlib.Decide.{dec_lt}
use borrow.Author.Tests.{lt-ltb, le-ltb}
use lib.ListN.{length, take, drop, get_or, length-drop, length-append, take-append-drop}
use native.Mathlib.Nat.{add-zero}
use native.Mathlib.Numerals.{add-one}
use lib.Seq.{drop_at, drop-drop, take-add, get_or-drop, take_all, drop-cons}
use Rattle.uslp_octets.specs.Octets.{AreOctets, BitField, Fits, bits_in, octets, pack, unpack, named, word}
use Rattle.uslp_octets.proofs.Laws.{unpack_pack, pack_unpack, split_fits, are_drop, word_octets}
use Rattle.uslp_kinds.specs.Kinds.{bypass_number, bypass_of}
use Rattle.uslp_kinds.proofs.Cases.{bypass_lt}
use Rattle.uslp_record.specs.declared.Channel.{Channel}
use Rattle.uslp_record.specs.declared.SlotState.{SlotState}
use Rattle.uslp_record.specs.declared.SlotState.TheVariants.{Closed, Opened, Heard}
use Rattle.uslp_form.specs.Entries.{Each, is_opened, is_heard}
use Rattle.uslp_form.specs.declared.Form.{Form}
use Rattle.uslp_form.specs.declared.Form.TheVariants.{One, Two}
use Rattle.uslp_form.specs.Form.{columns, totals_row, row, rows, section, form, GoodForm}
use Rattle.uslp_form.specs.FromRow.{flag_long, unheard_long, heard_long, opened_by, heard_by}
use Rattle.uslp_saved.specs.Reading.{no_channel, no_totals, totals_from, unheard_in, heard_in, entries_in, first_count, second, second_count, form_long, place_of, unheard_of_octets, heard_of_octets, entries_of_octets, FlagFits, Flagged}
use Rattle.uslp_record.proofs.Slots.{true_false}
use Rattle.uslp_form.proofs.Rows.{Entry, opened_back, heard_back, opened_bits, heard_bits, opened_size, heard_size, opened_alike, heard_alike, good_unheard, good_heard}
use Rattle.uslp_saved.proofs.Puts.{channel_before}
use Rattle.uslp_saved.proofs.Fields.{channel_fields, columns_again, heard_fields, opened_in, heard_in_lem}

-- what reads entries of a kind: it gives back what a row was made of, and what it reads makes the octets again, where their flag is 0 or 1
pub record Reader (f : Form) (test : SlotState → Bool) (read : List ℕ → SlotState) (long : ℕ) : Type 0 where
  pub reads : (x : SlotState) → Entry f test x → (t : List ℕ) → read (pack (row f x) ++ t) ≡ x
  pub size : (x : SlotState) → Entry f test x → length (pack (row f x)) ≡ long
  pub flag : (x : SlotState) → Entry f test x → (t : List ℕ) → FlagFits f (pack (row f x) ++ t)
  pub whole : (s : List ℕ) → AreOctets s → FlagFits f s → long ≤ length s → pack (row f (read s)) ≡ take long s
  pub entry : (s : List ℕ) → Entry f test (read s)

-- the flag of a channel, in the columns before a row of m octets
flag_said : (f : Form) (k : Channel) (w m : ℕ) (fs : List BitField) → bits_in fs ≡ 8 * m → Fits (columns f k ++ ("width", 8, w) ∷ fs) → (t : List ℕ)
    → FlagFits f (pack (columns f k ++ ("width", 8, w) ∷ fs) ++ t)
flag_said One k w m fs whole h t = omega arith
flag_said Two k w m fs whole h t =
    let n = bypass_number k.sequence_control_flag in
    let z =
    ap (λ (l : List ℕ). word 3 1 (l ++ t)) (channel_before Two k w m fs whole h.1.1.1.1 h.1.0 h.1.1.1.0)
    ∙ word_octets (octets 2 k.spacecraft_id ++ octets 1 k.vc_id) ((octets 1 w ++ pack fs) ++ t) 1 n
    (omega (arith, bypass_lt k.sequence_control_flag)) in
    omega (arith, z, bypass_lt k.sequence_control_flag)

unheard_reads : (f : Form) (x : SlotState) → Entry f is_opened x → (t : List ℕ) → unheard_in f (pack (row f x) ++ t) ≡ x
unheard_reads f Closed e t = absurd (true_false e.0 refl)
unheard_reads f (Opened k w) e t =
    ap opened_by
    (opened_alike f no_channel k 0 w (pack (row f (Opened k w)) ++ t) ∙ unpack_pack (row f (Opened k w)) (unheard_long f) (opened_bits f k w) t e.1.0)
    ∙ opened_back f k w e.1.1
unheard_reads f (Heard k w t) e s = absurd (true_false e.0 refl)

unheard_size : (f : Form) (x : SlotState) → Entry f is_opened x → length (pack (row f x)) ≡ unheard_long f
unheard_size f Closed e = absurd (true_false e.0 refl)
unheard_size f (Opened k w) e = opened_size f k w
unheard_size f (Heard k w t) e = absurd (true_false e.0 refl)

unheard_flag : (f : Form) (x : SlotState) → Entry f is_opened x → (t : List ℕ) → FlagFits f (pack (row f x) ++ t)
unheard_flag f Closed e t = absurd (true_false e.0 refl)
unheard_flag f (Opened k w) e t = flag_said f k w 0 [] refl e.1.0 t
unheard_flag f (Heard k w p) e t = absurd (true_false e.0 refl)

unheard_whole : (f : Form) (s : List ℕ) → AreOctets s → FlagFits f s → unheard_long f ≤ length s → pack (row f (unheard_in f s)) ≡ take (unheard_long f) s
unheard_whole f s oct flag h =
    ap pack (ap (row f) (opened_in s oct 0 f) ∙ columns_again s oct 0 f [] flag ∙ sym (channel_fields s oct 0 f 0 [] refl))
    ∙ pack_unpack (row f (Opened no_channel 0)) (unheard_long f) (opened_bits f no_channel 0) s oct h

-- the columns of a row that was read fit, and the form says the channel
unheard_entry : (f : Form) (s : List ℕ) → Entry f is_opened (unheard_in f s)
unheard_entry One s = (refl, (split_fits (row One (Opened no_channel 0)) (word 0 4 s), refl))
unheard_entry Two s =
    let h = split_fits (row Two (Opened no_channel 0)) (word 0 5 s) in
    (refl, ((h.0, (h.1.0, (omega (arith, bypass_lt (bypass_of (named "bypass" (unpack (row Two (Opened no_channel 0)) s)))), h.1.1.1))), refl))

pub unheard_reader : (f : Form) → Reader f is_opened (unheard_in f) (unheard_long f)
unheard_reader f =
    record { reads = unheard_reads f; size = unheard_size f; flag = unheard_flag f; whole = unheard_whole f; entry = unheard_entry f }

heard_reads : (f : Form) (x : SlotState) → Entry f is_heard x → (t : List ℕ) → heard_in f (pack (row f x) ++ t) ≡ x
heard_reads f Closed e t = absurd (true_false e.0 refl)
heard_reads f (Opened k w) e t = absurd (true_false e.0 refl)
heard_reads f (Heard k w c) e t =
    ap heard_by
    (heard_alike f no_channel k 0 w no_totals c (pack (row f (Heard k w c)) ++ t)
    ∙ unpack_pack (row f (Heard k w c)) (heard_long f) (heard_bits f k w c) t e.1.0)
    ∙ heard_back f k w e.1.1 c

heard_long_of : (f : Form) (x : SlotState) → Entry f is_heard x → length (pack (row f x)) ≡ heard_long f
heard_long_of f Closed e = absurd (true_false e.0 refl)
heard_long_of f (Opened k w) e = absurd (true_false e.0 refl)
heard_long_of f (Heard k w t) e = heard_size f k w t

heard_flag : (f : Form) (x : SlotState) → Entry f is_heard x → (t : List ℕ) → FlagFits f (pack (row f x) ++ t)
heard_flag f Closed e t = absurd (true_false e.0 refl)
heard_flag f (Opened k w) e t = absurd (true_false e.0 refl)
heard_flag f (Heard k w p) e t = flag_said f k w 40 (totals_row p) refl e.1.0 t

heard_whole : (f : Form) (s : List ℕ) → AreOctets s → FlagFits f s → heard_long f ≤ length s → pack (row f (heard_in f s)) ≡ take (heard_long f) s
heard_whole f s oct flag h =
    ap pack
    (ap (row f) (heard_in_lem s oct 0 f) ∙ columns_again s oct 0 f (totals_row (totals_from (0 + (4 + flag_long f)) s)) flag
    ∙ sym (heard_fields s oct 0 f))
    ∙ pack_unpack (row f (Heard no_channel 0 no_totals)) (heard_long f) (heard_bits f no_channel 0 no_totals) s oct h

heard_entry : (f : Form) (s : List ℕ) → Entry f is_heard (heard_in f s)
heard_entry One s = (refl, (split_fits (row One (Heard no_channel 0 no_totals)) (word 0 44 s), refl))
heard_entry Two s =
    let h = split_fits (row Two (Heard no_channel 0 no_totals)) (word 0 45 s) in
    (refl, ((h.0, (h.1.0, (omega (arith, bypass_lt (bypass_of (named "bypass" (unpack (row Two (Heard no_channel 0 no_totals)) s)))), h.1.1.1))), refl))

pub heard_reader : (f : Form) → Reader f is_heard (heard_in f) (heard_long f)
heard_reader f =
    record { reads = heard_reads f; size = heard_long_of f; flag = heard_flag f; whole = heard_whole f; entry = heard_entry f }

module _ (f : Form) (test : SlotState → Bool) (read : List ℕ → SlotState) (long : ℕ) (by : Reader f test read long) where
  -- entries written are read again
  pub entries_back : (l : List SlotState) (t : List ℕ) → Each (Entry f test) l → entries_in read long (length l) (rows f l ++ t) ≡ l
  unfolding rows
  entries_back [] t e = refl
  entries_back (x ∷ l) t e =
      let a = append_assoc (pack (row f x)) (rows f l) t in
      ap₂ (λ (y : SlotState) (m : List SlotState). y ∷ m)
      (ap read a ∙ by.reads x e.0 (rows f l ++ t))
      (ap (λ (s : List ℕ). entries_in read long (length l) (drop long s)) a
      ∙ ap (entries_in read long (length l)) (drop_at (pack (row f x)) (rows f l ++ t) long (by.size x e.0))
      ∙ entries_back l t e.1)

  pub rows_size : (l : List SlotState) → Each (Entry f test) l → length (rows f l) ≡ length l * long
  unfolding rows
  rows_size [] e = omega arith
  rows_size (x ∷ l) e = omega (arith, length-append (pack (row f x)) (rows f l), by.size x e.0, rows_size l e.1)

  -- and the flag of each is 0 or 1
  pub flags_back : (l : List SlotState) (t : List ℕ) → Each (Entry f test) l → (j : ℕ) → j < length l → FlagFits f (drop (j * long) (rows f l ++ t))
  unfolding rows
  flags_back [] t e j h = absurd (omega arith)
  flags_back (x ∷ l) t e zero h =
      let z : 0 ≡ 0 * long = omega arith in
      subst (λ (k : ℕ). FlagFits f (drop k (rows f (x ∷ l) ++ t))) z
      (subst (FlagFits f) (sym (append_assoc (pack (row f x)) (rows f l) t)) (by.flag x e.0 (rows f l ++ t)))
  flags_back (x ∷ l) t e (suc j) h =
      let z : long + j * long ≡ suc j * long = omega arith in
      let a = append_assoc (pack (row f x)) (rows f l) t in
      let d : drop (suc j * long) (rows f (x ∷ l) ++ t) ≡ drop (j * long) (rows f l ++ t) =
      ap₂ (λ (k : ℕ) (s : List ℕ). drop k s) (sym z) a ∙ sym (drop-drop (j * long) long (pack (row f x) ++ (rows f l ++ t)))
      ∙ ap (drop (j * long)) (drop_at (pack (row f x)) (rows f l ++ t) long (by.size x e.0)) in
      subst (FlagFits f) (sym d) (flags_back l t e.1 j (omega arith))

  -- entries read are written as they were, where each flag is 0 or 1
  pub rows_back : (n : ℕ) (s : List ℕ) → AreOctets s → ((j : ℕ) → j < n → FlagFits f (drop (j * long) s)) → n * long ≤ length s
      → rows f (entries_in read long n s) ≡ take (n * long) s
  unfolding rows
  rows_back zero s oct flags h = let z : 0 ≡ 0 * long = omega arith in ap (λ (k : ℕ). take k s) z
  rows_back (suc n) s oct flags h =
      let z : suc n * long ≡ long + n * long = omega arith in
      let first : 0 * long ≡ 0 = omega arith in
      let rest : (j : ℕ) → j < n → FlagFits f (drop (j * long) (drop long s)) =
      λ j low.
      let y : suc j * long ≡ long + j * long = omega arith in
      subst (FlagFits f) (ap (λ (k : ℕ). drop k s) y ∙ sym (drop-drop (j * long) long s)) (flags (suc j) (omega arith)) in
      ap₂ (λ (a b : List ℕ). a ++ b) (by.whole s oct (subst (λ (k : ℕ). FlagFits f (drop k s)) first (flags 0 (omega arith))) (omega arith))
      (rows_back n (drop long s) (are_drop long s oct) rest (omega (arith, length-drop long s)))
      ∙ sym (ap (λ (k : ℕ). take k s) z ∙ take-add long (n * long) s)

  pub entries_each : (n : ℕ) (s : List ℕ) → Each (Entry f test) (entries_in read long n s)
  entries_each zero s = tt
  entries_each (suc n) s = (by.entry s, entries_each n (drop long s))

  pub entries_long : (n : ℕ) (s : List ℕ) → length (entries_in read long n s) ≡ n
  entries_long zero s = refl
  entries_long (suc n) s = ap suc (entries_long n (drop long s))

-- where an entry begins, as its section counts
module _ (f : Form) (n i : ℕ) where
  pub place_low : (u : ℕ) → i < n → u ≡ i * unheard_long f → 1 + u ≡ place_of f n i
  place_low u low e =
      let z : place_of f n i ≡ 1 + i * unheard_long f = rw (lt-ltb i n low) in
      omega (arith, z)

  pub place_high : (u h : ℕ) → n ≤ i → u ≡ n * unheard_long f → h ≡ (i - n) * heard_long f → 2 + u + h ≡ place_of f n i
  place_high u h far e d =
      let z : place_of f n i ≡ 2 + n * unheard_long f + (i - n) * heard_long f = rw (le-ltb i n far) in
      omega (arith, z)

module _ (f : Form) (s : List ℕ) (i : ℕ) where
  pub place_first : i < first_count f s → drop (i * unheard_long f) (drop 1 s) ≡ drop (place_of f (first_count f s) i) s
  place_first low = drop-drop (i * unheard_long f) 1 s ∙ ap (λ (k : ℕ). drop k s) (place_low f (first_count f s) i _ low refl)

  pub place_second : first_count f s ≤ i → drop ((i - first_count f s) * heard_long f) (drop (second f s + 1) s) ≡ drop (place_of f (first_count f s) i) s
  place_second far =
      let z : second f s + 1 + (i - first_count f s) * heard_long f ≡ place_of f (first_count f s) i =
      omega (arith, place_high f (first_count f s) i _ _ far refl refl) in
      drop-drop ((i - first_count f s) * heard_long f) (second f s + 1) s ∙ ap (λ (k : ℕ). drop k s) z

module _ (f : Form) (s : List ℕ) where
  -- as many entries are read as the counts say
  pub unheard_long_lem : length (unheard_of_octets f s) ≡ first_count f s
  unheard_long_lem = entries_long f is_opened (unheard_in f) (unheard_long f) (unheard_reader f) (first_count f s) (drop 1 s)

  pub heard_long_lem : length (heard_of_octets f s) ≡ second_count f s
  heard_long_lem = entries_long f is_heard (heard_in f) (heard_long f) (heard_reader f) (second_count f s) (drop (second f s + 1) s)

  pub entries_count : length (entries_of_octets f s) ≡ first_count f s + second_count f s
  entries_count = omega (arith, length-append (unheard_of_octets f s) (heard_of_octets f s), unheard_long_lem, heard_long_lem)

  -- a good form: its entries are those that are read, and it has the length that its counts say
  module _ (us hs : List SlotState) (g : GoodForm f s us hs) where
    first_is : first_count f s ≡ length us
    first_is = ap (λ (z : List ℕ). get_or z 0 0) g.octets

    tail_is : drop 1 s ≡ rows f us ++ section f hs
    tail_is = ap (drop 1) g.octets

    rows_us : length (rows f us) ≡ first_count f s * unheard_long f
    rows_us = rows_size f is_opened (unheard_in f) (unheard_long f) (unheard_reader f) us (good_unheard f g) ∙ ap (λ (n : ℕ). n * unheard_long f) (sym first_is)

    pub unheard_read : unheard_of_octets f s ≡ us
    unheard_read =
        ap₂ (entries_in (unheard_in f) (unheard_long f)) first_is tail_is
        ∙ entries_back f is_opened (unheard_in f) (unheard_long f) (unheard_reader f) us (section f hs) (good_unheard f g)

    rest_is : drop (second f s) s ≡ section f hs
    rest_is = sym (drop-drop (first_count f s * unheard_long f) 1 s) ∙ ap (drop (first_count f s * unheard_long f)) tail_is ∙ drop_at (rows f us)
        (section f hs) _ rows_us

    second_is : second_count f s ≡ length hs
    second_is =
        ap (λ (n : ℕ). get_or s n 0) (sym (add-zero (second f s))) ∙ sym (get_or-drop (second f s) s 0 0) ∙ ap (λ (z : List ℕ). get_or z 0 0) rest_is

    last_is : drop (second f s + 1) s ≡ rows f hs
    last_is = sym (drop-drop 1 (second f s) s) ∙ ap (drop 1) rest_is

    pub heard_read : heard_of_octets f s ≡ hs
    heard_read =
        ap₂ (entries_in (heard_in f) (heard_long f)) second_is (last_is ∙ sym (append-nil (rows f hs)))
        ∙ entries_back f is_heard (heard_in f) (heard_long f) (heard_reader f) hs [] (good_heard f g)

    pub long_read : form_long f s ≡ length s
    long_read =
        let a = rows_size f is_heard (heard_in f) (heard_long f) (heard_reader f) hs (good_heard f g) ∙ ap (λ (n : ℕ). n * heard_long f) (sym second_is) in
        let b = ap length g.octets ∙ length-append (section f us) (section f hs) in
        omega (arith, a, b, rows_us)

    -- and the flag of each of its entries is 0 or 1
    pub flags_read : Flagged f s
    flags_read i h = go (dec_lt i (first_count f s))
      where
        go : Dec (i < first_count f s) → FlagFits f (drop (place_of f (first_count f s) i) s)
        go (yes low) =
            subst (FlagFits f) (ap (drop (i * unheard_long f)) (sym tail_is) ∙ place_first f s i low)
            (flags_back f is_opened (unheard_in f) (unheard_long f) (unheard_reader f) us (section f hs) (good_unheard f g) i (omega (arith, first_is)))
        go (no far) =
            let j = i - first_count f s in
            subst (FlagFits f)
            (ap (drop (j * heard_long f)) (append-nil (rows f hs) ∙ sym last_is) ∙ place_second f s i (omega arith))
            (flags_back f is_heard (heard_in f) (heard_long f) (heard_reader f) hs [] (good_heard f g) j (omega (arith, second_is)))

  -- octets of that length, with flags of 0 and 1, are the form of what is read
  pub form_read : AreOctets s → form_long f s ≡ length s → Flagged f s → s ≡ form f (unheard_of_octets f s) (heard_of_octets f s)
  form_read oct long flags =
      let n = first_count f s in
      let m = second_count f s in
      let p = second f s in
      let whole : s ≡ n ∷ drop 1 s = drop-cons s 0 0 (omega arith) in
      let parts : drop 1 s ≡ take (n * unheard_long f) (drop 1 s) ++ drop (n * unheard_long f) (drop 1 s) = sym
      (take-append-drop (n * unheard_long f) (drop 1 s)) in
      let rest : drop (n * unheard_long f) (drop 1 s) ≡ m ∷ drop (p + 1) s =
      drop-drop (n * unheard_long f) 1 s ∙ drop-cons s p 0 (omega arith) ∙ ap (λ (k : ℕ). m ∷ drop k s) (sym (add-one p)) in
      let us = rows_back f is_opened (unheard_in f) (unheard_long f) (unheard_reader f) n (drop 1 s) (are_drop 1 s oct)
      (λ j low. subst (FlagFits f) (sym (place_first f s j low)) (flags j (omega arith))) (omega (arith, length-drop 1 s)) in
      let hs = rows_back f is_heard (heard_in f) (heard_long f) (heard_reader f) m (drop (p + 1) s) (are_drop (p + 1) s oct)
      (λ j low.
      let back : n + j - n ≡ j = omega arith in
      subst (FlagFits f)
      (sym (ap (λ (k : ℕ). drop (k * heard_long f) (drop (p + 1) s)) (sym back) ∙ place_second f s (n + j) (omega arith)))
      (flags (n + j) (omega arith)))
      (omega (arith, length-drop (p + 1) s)) in
      let end : take (m * heard_long f) (drop (p + 1) s) ≡ drop (p + 1) s = take_all (m * heard_long f) (drop (p + 1) s) (omega (arith, length-drop (p + 1) s)) in
      let a = unheard_long_lem in
      let b = heard_long_lem in
      whole ∙ ap (λ (l : List ℕ). n ∷ l) (parts ∙ ap₂ (λ (x y : List ℕ). x ++ y) (sym us)
      (rest ∙ ap₂ (λ (k : ℕ) (l : List ℕ). k ∷ l) (sym b) (sym end ∙ sym hs)))
      ∙ ap (λ (k : ℕ). k ∷ (rows f (unheard_of_octets f s) ++ section f (heard_of_octets f s))) (sym a)
