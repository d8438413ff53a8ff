-- A row gives its entry back, and octets are the form of one list of entries only.
use mathlib.Core.Path.{◌≡◌, refl, sym, ◌∙◌, ap, ap₂}
use mathlib.Core.Bool.{Bool, true}
use mathlib.Core.List.{List, [], ◌∷◌, ◌++◌, append_assoc, append-nil}
use Prim.Native.Nat.{ℕ, ◌*◌, ◌/◌}
use native.Mathlib.Omega.{arith}
use lib.ListN.{length, drop, get_or}
use lib.Seq.{drop_at}
use Rattle.uslp_octets.specs.Octets.{BitField, Fits, bits_in, value_of, pack, unpack, named}
use Rattle.uslp_octets.proofs.Laws.{length_octets, unpack_pack}
use Rattle.uslp_kinds.specs.Outcome.{done, refused}
use Rattle.uslp_kinds.specs.Kinds.{bypass_of}
use Rattle.uslp_kinds.proofs.Cases.{bypass_back, bypass_lt}
use Rattle.uslp_record.specs.Record.{Kept, keeping}
use Rattle.uslp_record.specs.declared.Channel.{Channel}
use Rattle.uslp_record.specs.declared.Totals.{Totals}
use Rattle.uslp_record.specs.declared.SlotState.{SlotState}
use Rattle.uslp_record.specs.declared.SlotState.TheVariants.{Closed, Opened, Heard}
use Rattle.uslp_record.specs.declared.ChannelRecord.{ChannelRecord}
use Rattle.uslp_record.proofs.Count.{counts_le}
use Rattle.uslp_form.specs.Entries.{Each, is_opened, is_heard}
use Rattle.uslp_record.specs.Made.{Openable, Sound}
use Rattle.uslp_form.specs.declared.Form.{Form}
use Rattle.uslp_form.specs.Form.{columns, says, totals_row, row, EntrySaid, rows, section, form, GoodForm, restored}
use Rattle.uslp_form.specs.declared.Form.TheVariants.{One, Two}
use Rattle.uslp_form.specs.FromRow.{unheard_long, heard_long, channel_by, totals_by, opened_by, heard_by}
use Rattle.uslp_form.specs.Saved.{Restoring}
use Rattle.uslp_form.specs.Saved.Restoring.{good, bad}
use Rattle.uslp_record.proofs.Slots.{true_false}
use Rattle.uslp_form.proofs.Each.{each_both, each_left, each_right}
use Rattle.uslp_form.proofs.Flags.{sequence_one}

-- two rows of the same widths, whole octets, that pack to the same are the same, and so is what stands behind them
module _ (fs gs : List BitField) (n : ℕ) (a : bits_in fs ≡ 8 * n) (b : bits_in gs ≡ 8 * n) (same : (s : List ℕ) → unpack fs s ≡ unpack gs s) (s t : List ℕ)
    (e : pack fs ++ s ≡ pack gs ++ t) where
  pub row_one : Fits fs → Fits gs → fs ≡ gs
  row_one h k = sym (unpack_pack fs n a s h) ∙ same (pack fs ++ s) ∙ ap (unpack gs) e ∙ unpack_pack gs n b t k

  pub rest_one : s ≡ t
  rest_one =
      sym (drop_at (pack fs) s n (length_octets (bits_in fs / 8) (value_of fs) ∙ (let z : bits_in fs / 8 ≡ n = omega arith in z)))
      ∙ ap (drop n) e ∙ drop_at (pack gs) t n (length_octets (bits_in gs / 8) (value_of gs) ∙ (let z : bits_in gs / 8 ≡ n = omega arith in z))

-- an entry whose numbers fit its columns, and that the form says: its row gives it back
abbrev Rowed : Form → SlotState → Type 0
Rowed f x = Fits (row f x) × EntrySaid f x

-- columns before others, none of which has the flag's name, say their channel
pub channel_back : (f : Form) (k : Channel) (fs : List BitField) → named "bypass" fs ≡ 0 → says f k ≡ true → channel_by (columns f k ++ fs) ≡ k
channel_back One k fs none e =
    (λ i. record { spacecraft_id = k.spacecraft_id; vc_id = k.vc_id; sequence_control_flag = bypass_of (none i) }) ∙ sequence_one k e
channel_back Two k fs none e =
    λ i. record {
      spacecraft_id = k.spacecraft_id;
      vc_id = k.vc_id;
      sequence_control_flag = bypass_back k.sequence_control_flag i;
    }

width_back : (f : Form) (k : Channel) (w : ℕ) (fs : List BitField) → named "width" (columns f k ++ ("width", 8, w) ∷ fs) ≡ w
width_back One k w fs = refl
width_back Two k w fs = refl

totals_back : (f : Form) (k : Channel) (w : ℕ) (t : Totals) → totals_by (columns f k ++ ("width", 8, w) ∷ totals_row t) ≡ t
totals_back One k w t = refl
totals_back Two k w t = refl

module _ (f : Form) (k : Channel) (w : ℕ) (said : says f k ≡ true) where
  pub opened_back : opened_by (row f (Opened k w)) ≡ Opened k w
  opened_back = ap₂ Opened (channel_back f k (("width", 8, w) ∷ []) refl said) (width_back f k w [])

  pub heard_back : (t : Totals) → heard_by (row f (Heard k w t)) ≡ Heard k w t
  heard_back t =
      let c = channel_back f k (("width", 8, w) ∷ totals_row t) refl said in
      λ i. Heard (c i) (width_back f k w (totals_row t) i) (totals_back f k w t i)

-- the rows of a kind have the same names and bits, whole octets
pub opened_bits : (f : Form) (k : Channel) (w : ℕ) → bits_in (row f (Opened k w)) ≡ 8 * unheard_long f
opened_bits One k w = refl
opened_bits Two k w = refl

pub heard_bits : (f : Form) (k : Channel) (w : ℕ) (t : Totals) → bits_in (row f (Heard k w t)) ≡ 8 * heard_long f
heard_bits One k w t = refl
heard_bits Two k w t = refl

pub opened_size : (f : Form) (k : Channel) (w : ℕ) → length (pack (row f (Opened k w))) ≡ unheard_long f
opened_size f k w = let z = opened_bits f k w in length_octets (bits_in (row f (Opened k w)) / 8) (value_of (row f (Opened k w))) ∙ omega arith

pub heard_size : (f : Form) (k : Channel) (w : ℕ) (t : Totals) → length (pack (row f (Heard k w t))) ≡ heard_long f
heard_size f k w t = let z = heard_bits f k w t in length_octets (bits_in (row f (Heard k w t)) / 8) (value_of (row f (Heard k w t))) ∙ omega arith

pub opened_alike : (f : Form) (k c : Channel) (v w : ℕ) (s : List ℕ) → unpack (row f (Opened k v)) s ≡ unpack (row f (Opened c w)) s
opened_alike One k c v w s = refl
opened_alike Two k c v w s = refl

pub heard_alike : (f : Form) (k c : Channel) (v w : ℕ) (p q : Totals) (s : List ℕ) → unpack (row f (Heard k v p)) s ≡ unpack (row f (Heard c w q)) s
heard_alike One k c v w p q s = refl
heard_alike Two k c v w p q s = refl

-- so two that pack to the same octets are of the same entry
module _ (f : Form) (k c : Channel) (v w : ℕ) (s t : List ℕ) where
  opened_one : Rowed f (Opened k v) → Rowed f (Opened c w)
      → pack (row f (Opened k v)) ++ s ≡ pack (row f (Opened c w)) ++ t → (Opened k v ≡ Opened c w) × (s ≡ t)
  opened_one h g e =
      let x = row f (Opened k v) in
      let y = row f (Opened c w) in
      let a = opened_bits f k v in
      let b = opened_bits f c w in
      let same = opened_alike f k c v w in (
        sym (opened_back f k v h.1) ∙ ap opened_by (row_one x y (unheard_long f) a b same s t e h.0 g.0) ∙ opened_back f c w g.1,
        rest_one x y (unheard_long f) a b same s t e,
      )

  heard_one : (p q : Totals) → Rowed f (Heard k v p) → Rowed f (Heard c w q)
      → pack (row f (Heard k v p)) ++ s ≡ pack (row f (Heard c w q)) ++ t → (Heard k v p ≡ Heard c w q) × (s ≡ t)
  heard_one p q h g e =
      let x = row f (Heard k v p) in
      let y = row f (Heard c w q) in
      let a = heard_bits f k v p in
      let b = heard_bits f c w q in
      let same = heard_alike f k c v w p q in (
        sym (heard_back f k v h.1 p) ∙ ap heard_by (row_one x y (heard_long f) a b same s t e h.0 g.0) ∙ heard_back f c w g.1 q,
        rest_one x y (heard_long f) a b same s t e,
      )

module _ (f : Form) where
  -- an entry of a kind, whose row gives it back
  abbrev pub Entry : (SlotState → Bool) → SlotState → Type 0
  Entry test x = (test x ≡ true) × Rowed f x

  -- two entries that pass the test and stand for the same octets are the same
  abbrev Reads : (SlotState → Bool) → Type 0
  Reads test =
      (x y : SlotState) → Entry test x → Entry test y → (s t : List ℕ) → pack (row f x) ++ s ≡ pack (row f y) ++ t → (x ≡ y) × (s ≡ t)

  reads_opened : Reads is_opened
  reads_opened Closed y a b s t e = absurd (true_false a.0 refl)
  reads_opened (Opened k v) Closed a b s t e = absurd (true_false b.0 refl)
  reads_opened (Opened k v) (Opened c w) a b s t e = opened_one f k c v w s t a.1 b.1 e
  reads_opened (Opened k v) (Heard c w q) a b s t e = absurd (true_false b.0 refl)
  reads_opened (Heard k v p) y a b s t e = absurd (true_false a.0 refl)

  reads_heard : Reads is_heard
  reads_heard Closed y a b s t e = absurd (true_false a.0 refl)
  reads_heard (Opened k v) y a b s t e = absurd (true_false a.0 refl)
  reads_heard (Heard k v p) Closed a b s t e = absurd (true_false b.0 refl)
  reads_heard (Heard k v p) (Opened c w) a b s t e = absurd (true_false b.0 refl)
  reads_heard (Heard k v p) (Heard c w q) a b s t e = heard_one f k c v w s t p q a.1 b.1 e

  module _ (test : SlotState → Bool) (reads : Reads test) where
    rows_one : (l m : List SlotState) → Each (Entry test) l → Each (Entry test) m → length l ≡ length m → (s t : List ℕ)
        → rows f l ++ s ≡ rows f m ++ t → (l ≡ m) × (s ≡ t)
    unfolding rows
    rows_one [] [] a b n s t e = (refl, e)
    rows_one [] (y ∷ m) a b n s t e = absurd (omega arith)
    rows_one (x ∷ l) [] a b n s t e = absurd (omega arith)
    rows_one (x ∷ l) (y ∷ m) a b n s t e =
        let h = reads x y a.0 b.0 (rows f l ++ s) (rows f m ++ t)
        (sym (append_assoc (pack (row f x)) (rows f l) s) ∙ e ∙ append_assoc (pack (row f y)) (rows f m) t) in
        let k = rows_one l m a.1 b.1 (omega arith) s t h.1 in
        (ap₂ (λ (z : SlotState) (zs : List SlotState). z ∷ zs) h.0 k.0, k.1)

    section_one : (l m : List SlotState) → Each (Entry test) l → Each (Entry test) m → (s t : List ℕ)
        → section f l ++ s ≡ section f m ++ t → (l ≡ m) × (s ≡ t)
    section_one l m a b s t e = rows_one l m a b (ap (λ (z : List ℕ). get_or z 0 0) e) s t (ap (drop 1) e)

  pub section_opened : (l m : List SlotState) → Each (Entry is_opened) l → Each (Entry is_opened) m → (s t : List ℕ) → section f l ++ s ≡ section f m ++ t
      → (l ≡ m) × (s ≡ t)
  section_opened = section_one is_opened reads_opened

  pub section_heard : (l m : List SlotState) → Each (Entry is_heard) l → Each (Entry is_heard) m → (s t : List ℕ) → section f l ++ s ≡ section f m ++ t
      → (l ≡ m) × (s ≡ t)
  section_heard = section_one is_heard reads_heard

  -- octets are the form of one pair of lists only
  pub form_one : (us vs hs gs : List SlotState) → Each (Entry is_opened) us → Each (Entry is_opened) vs → Each (Entry is_heard) hs → Each (Entry is_heard) gs
      → form f us hs ≡ form f vs gs → (us ≡ vs) × (hs ≡ gs)
  form_one us vs hs gs a b c d e =
      let h = section_one is_opened reads_opened us vs a b (section f hs) (section f gs) e in
      (h.0, (section_one is_heard reads_heard hs gs c d [] [] (append-nil (section f hs) ∙ h.1 ∙ sym (append-nil (section f gs)))).0)

  pub columns_fit : (k : Channel) {w : ℕ} (fs : List BitField) → Openable k w → Fits fs → Fits (columns f k ++ fs)
  columns_fit k fs o h = go f
    where
      go : (g : Form) → Fits (columns g k ++ fs)
      go One = (o.craft, (omega (arith, o.channel), h))
      go Two = (o.craft, (omega (arith, o.channel), (omega (arith, bypass_lt k.sequence_control_flag), h)))

  pub sound_fits : (x : SlotState) → Sound x → Fits (row f x)
  sound_fits Closed s = tt
  sound_fits (Opened k w) s = columns_fit k (("width", 8, w) ∷ []) s (omega (arith, s.narrow), tt)
  sound_fits (Heard k w t) s =
      columns_fit k (("width", 8, w) ∷ totals_row t) s.0 (
        omega (arith, s.0.narrow),
        (
          omega (arith, s.1.last, counts_le w s.0.narrow),
          (omega (arith, s.1.handed_on), (omega (arith, s.1.missing), (omega (arith, s.1.repeats), (omega (arith, s.1.late), tt)))),
        ),
      )

  -- a good form has one pair of lists
  good_entries : (test : SlotState → Bool) (l : List SlotState) → Each (λ (x : SlotState). test x ≡ true) l → Each (Rowed f) l → Each (Entry test) l
  good_entries test l a b = each_both (λ (x : SlotState). test x ≡ true) (Rowed f) (Entry test) (λ x e s. (e, s)) l a b

  good_rowed : {s : List ℕ} {us hs : List SlotState} → GoodForm f s us hs → Each (Rowed f) (us ++ hs)
  good_rowed {us} {hs} g =
      each_both Sound (EntrySaid f) (Rowed f) (λ x s e. (sound_fits x s, e)) (us ++ hs) g.sound g.flags

  pub good_unheard : {s : List ℕ} {us hs : List SlotState} → GoodForm f s us hs → Each (Entry is_opened) us
  good_unheard {us} {hs} g = good_entries is_opened us g.unheard (each_left (Rowed f) us hs (good_rowed g))

  pub good_heard : {s : List ℕ} {us hs : List SlotState} → GoodForm f s us hs → Each (Entry is_heard) hs
  good_heard {us} {hs} g = good_entries is_heard hs g.heard (each_right (Rowed f) us hs (good_rowed g))

  pub good_one : {s : List ℕ} {us vs hs gs : List SlotState} → GoodForm f s us hs → GoodForm f s vs gs → (us ≡ vs) × (hs ≡ gs)
  good_one {us} {vs} {hs} {gs} g k = form_one us vs hs gs (good_unheard g) (good_unheard k) (good_heard g) (good_heard k) (sym g.octets ∙ k.octets)

  -- what a restoring leaves is settled
  pub restoring_one : {r : ChannelRecord} {s : List ℕ} {o p : Kept (Unit {0})} → Restoring f r s o → Restoring f r s p → o ≡ p
  restoring_one (good us hs g) (good vs gs k) =
      let h = good_one g k in ap₂ (λ (a b : List SlotState). keeping (done tt) (restored (a ++ b))) h.0 h.1
  restoring_one (good us hs g) (bad n) = absurd (n us hs g)
  restoring_one (bad n) (good vs gs k) = absurd (n vs gs k)
  restoring_one (bad n) (bad m) = refl

  -- done, and refused, exactly so
  pub record Restores (s : List ℕ) (q : ChannelRecord) : Type 0 where
    pub unheard : List SlotState
    pub heard : List SlotState
    pub is_good : GoodForm f s unheard heard
    pub is : restored (unheard ++ heard) ≡ q

  pub restores_done : {r q : ChannelRecord} {s : List ℕ} → Restoring f r s (keeping (done tt) q) → Restores s q
  restores_done {q} {s} h = go h refl
    where
      go : {r : ChannelRecord} {o : Kept (Unit {0})} → Restoring f r s o → o ≡ keeping (done tt) q → Restores s q
      go (good us hs g) e = record { unheard = us; heard = hs; is_good = g; is = cc }
      go (bad n) e = let z : ◌≡◌ {A = ℕ} 0 1 = cc in absurd (omega arith)

  pub restores_refused : {r q : ChannelRecord} {s : List ℕ} {k : ℕ} {vs : List ℕ} → Restoring f r s (keeping (refused k vs) q) → r ≡ q
  restores_refused {r} {q} {s} {k} {vs} h = go h refl
    where
      go : {o : Kept (Unit {0})} → Restoring f r s o → o ≡ keeping (refused k vs) q → r ≡ q
      go (good us hs g) e = let z : ◌≡◌ {A = ℕ} 0 1 = cc in absurd (omega arith)
      go (bad n) e = cc
