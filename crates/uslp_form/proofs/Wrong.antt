-- The wrong programs that the definitions of saving and restoring shut out.
use mathlib.Core.Path.{◌≡◌, refl, sym, ◌∙◌, ap, subst}
use mathlib.Core.Bool.{true, false}
use mathlib.Core.Logic.{◌⊎◌, ⊎_elim}
use mathlib.Core.List.{List, [], ◌∷◌, ◌++◌}
use Prim.Native.Nat.{ℕ, ◌^◌, ◌<◌, ◌≤◌}
use native.Mathlib.Omega.{arith}
use lib.ListN.{length, replicate}
use Rattle.uslp_kinds.specs.Outcome.{done, refused}
use Rattle.uslp_kinds.proofs.Outcomes.{not_done}
use Rattle.uslp_kinds.specs.declared.BypassSequenceControlFlag.{BypassSequenceControlFlag}
use Rattle.uslp_kinds.specs.declared.BypassSequenceControlFlag.TheVariants.{SequenceControlledQoS, ExpeditedQoS}
use Rattle.uslp_record.specs.Slots.{state_holds, find, slot_of}
use Rattle.uslp_record.specs.Record.{Kept, keeping, showing, most}
use Rattle.uslp_record.specs.declared.Channel.{Channel}
use Rattle.uslp_record.specs.declared.Totals.{Totals}
use Rattle.uslp_record.specs.declared.SlotState.{SlotState}
use Rattle.uslp_record.specs.declared.SlotState.TheVariants.{Closed, Opened, Heard}
use Rattle.uslp_record.specs.declared.ChannelRecord.{ChannelRecord}
use Rattle.uslp_form.specs.Entries.{Each, Once, is_opened, is_heard}
use Rattle.uslp_record.specs.Made.{Openable, Sound}
use Rattle.uslp_form.specs.declared.Form.{Form}
use Rattle.uslp_form.specs.Form.{says_all, rows, insert, sorted, form, form_of, Ascending, GoodForm, restored}
use Rattle.uslp_form.specs.declared.Form.TheVariants.{One, Two}
use Rattle.uslp_form.specs.Saved.{Restoring}
use Rattle.uslp_form.specs.Saved.Restoring.{good}
use Rattle.uslp_form.proofs.Each.{Has, each_has, once_apart}
use Rattle.uslp_record.proofs.Slots.{true_false}
use Rattle.uslp_form.proofs.Rows.{Entry, form_one, good_unheard, good_heard, restores_done}
use Rattle.uslp_form.proofs.Flags.{Expedited, lacks_exactly}
use Rattle.uslp_form.proofs.Trips.{said_good}
use Rattle.uslp_form.proofs.Claims.{restoring_good, restoring_bad, left_over}
use Rattle.uslp_form.proofs.Restored.{find_none, eight_restored, each_restored}
use Rattle.uslp_record.proofs.Back.{keeping_one}
use Rattle.uslp_record.proofs.Calls.{showing_none}

-- the entry is of this channel, in this width
abbrev pub Names : Channel → ℕ → SlotState → Type 0
Names k w Closed = ⊥
Names k w (Opened c v) = (c ≡ k) × (v ≡ w)
Names k w (Heard c v t) = (c ≡ k) × (v ≡ w)

named_openable : (k : Channel) (w : ℕ) (x : SlotState) → Names k w x → Sound x → Openable k w
named_openable k w Closed n s = absurd n
named_openable k w (Opened c v) n s = subst (Openable k) n.1 (subst (λ (d : Channel). Openable d v) n.0 s)
named_openable k w (Heard c v t) n s = subst (Openable k) n.1 (subst (λ (d : Channel). Openable d v) n.0 s.0)

-- octets made of entries that fit their columns: restoring is refused where those entries are not good
module _ (f : Form) (r : ChannelRecord) (us hs : List SlotState) (a : Each (Entry f is_opened) us) (b : Each (Entry f is_heard) hs) (o : Kept (Unit {0}))
    (outcome : Restoring f r (form f us hs) o) where
  refused_unless : (GoodForm f (form f us hs) us hs → ⊥) → o ≡ keeping (refused 18 []) r
  refused_unless n = restoring_bad f r (form f us hs) o (λ vs gs g. n (moved vs gs g)) outcome
    where
      moved : (vs gs : List SlotState) → GoodForm f (form f us hs) vs gs → GoodForm f (form f us hs) us hs
      moved vs gs g =
          let e = form_one f vs us gs hs (good_unheard f g) a (good_heard f g) b (sym g.octets) in
          subst (λ (l : List SlotState). GoodForm f (form f us hs) us l) e.1 (subst (λ (l : List SlotState). GoodForm f (form f us hs) l gs) e.0 g)

  -- nine channels
  pub no_nine : 8 < length (us ++ hs) → o ≡ keeping (refused 18 []) r
  no_nine h = refused_unless (λ g. omega (arith, g.few))

  -- a channel that stands twice, once in each section among the ways
  pub no_twice : (Once (us ++ hs) → ⊥) → o ≡ keeping (refused 18 []) r
  no_twice n = refused_unless (λ g. n g.once)

  pub no_in_each : (k : Channel) (x y : SlotState) → Has us x → Has hs y → state_holds k x ≡ true → state_holds k y ≡ true → o ≡ keeping (refused 18 []) r
  no_in_each k x y h g e d = no_twice (λ once. true_false d (once_apart us hs x y once h g k e))

  -- an entry that no call makes
  pub no_unsound : (x : SlotState) → Has (us ++ hs) x → (Sound x → ⊥) → o ≡ keeping (refused 18 []) r
  no_unsound x h n = refused_unless (λ g. n (each_has Sound (us ++ hs) x g.sound h))

  pub no_none_handed : (k : Channel) (w : ℕ) (t : Totals) → Has (us ++ hs) (Heard k w t) → t.handed_on ≡ 0 → o ≡ keeping (refused 18 []) r
  no_none_handed k w t h e = no_unsound (Heard k w t) h (λ s. omega (arith, s.1.begun))

  pub no_far_last : (k : Channel) (w : ℕ) (t : Totals) → Has (us ++ hs) (Heard k w t) → 256 ^ w ≤ t.last → o ≡ keeping (refused 18 []) r
  no_far_last k w t h e = no_unsound (Heard k w t) h (λ s. omega (arith, s.1.last))

  -- a total above the largest
  pub no_high_total : (k : Channel) (w : ℕ) (t : Totals) → Has (us ++ hs) (Heard k w t)
      → (most < t.handed_on) ⊎ ((most < t.missing) ⊎ ((most < t.repeats) ⊎ (most < t.late))) → o ≡ keeping (refused 18 []) r
  no_high_total k w t h high =
      no_unsound (Heard k w t) h
      (λ s.
      ⊎_elim (λ n. omega (arith, n, s.1.handed_on))
      (⊎_elim (λ n. omega (arith, n, s.1.missing)) (⊎_elim (λ n. omega (arith, n, s.1.repeats)) (λ n. omega (arith, n, s.1.late)))) high)

  -- a channel or a width that opening refuses by 10
  pub no_bad_field : (k : Channel) (w : ℕ) (x : SlotState) → Has (us ++ hs) x → Names k w x → (63 < k.vc_id) ⊎ ((w ≡ 0) ⊎ (7 < w))
      → o ≡ keeping (refused 18 []) r
  no_bad_field k w x h of bad =
      no_unsound x h
      (λ s.
      let p = named_openable k w x of s in
      ⊎_elim (λ n. omega (arith, n, p.channel)) (⊎_elim (λ n. omega (arith, n, p.some)) (λ n. omega (arith, n, p.narrow))) bad)

  -- a section that does not ascend
  pub no_descending : (Ascending f us × Ascending f hs → ⊥) → o ≡ keeping (refused 18 []) r
  no_descending n = refused_unless (λ g. n (g.unheard_ascend, g.heard_ascend))

-- octets that are wanting at the end of a good form
pub too_few : (f : Form) (r : ChannelRecord) (s : List ℕ) (us hs : List SlotState) (x : ℕ) (t : List ℕ) (o : Kept (Unit {0}))
    → GoodForm f (s ++ (x ∷ t)) us hs → Restoring f r s o → o ≡ keeping (refused 18 []) r
too_few f r s us hs x t o g =
    restoring_bad f r s o (λ vs gs k. not_done (sym (keeping_one (left_over f r s vs gs x t _ k (good us hs g))).0))

-- restoring that keeps old channels: what it gives is the same whatever record it found, and a channel that does not stand in the octets is not open
pub no_trace : (f : Form) (r r' q q' : ChannelRecord) (s : List ℕ) → Restoring f r s (keeping (done tt) q) → Restoring f r' s (keeping (done tt) q') → q ≡ q'
no_trace f r r' q q' s h k =
    let d = restores_done f h in
    sym d.is ∙ sym (keeping_one (restoring_good f r' s d.unheard d.heard _ d.is_good k)).1

pub no_old : (f : Form) (r q : ChannelRecord) (us hs : List SlotState) (s : List ℕ) → GoodForm f s us hs → Restoring f r s (keeping (done tt) q)
    → (K : Channel) → Each (λ (x : SlotState). state_holds K x ≡ false) (us ++ hs) → showing q K ≡ refused 13 []
no_old f r q us hs s g h K none =
    let l = us ++ hs in
    let e = (keeping_one (restoring_good f r s us hs _ g h)).1 in
    let n = find_none K (restored l).slots (each_restored l g.few (λ (x : SlotState). state_holds K x ≡ false) refl none) in
    ap (λ (x : ChannelRecord). showing x K) e
    ∙ sym (showing_none (restored l) K (find K (restored l).slots) refl (omega (arith, n, eight_restored l g.few)))

-- restoring form 1 that gives an expedited channel: none that is done leaves one open
pub none_expedited : (r q : ChannelRecord) (s : List ℕ) → Restoring One r s (keeping (done tt) q) → Expedited q → ⊥
none_expedited r q s h x =
    let d = restores_done One h in
    true_false (ap (λ (y : ChannelRecord). says_all One y.slots) (sym d.is) ∙ said_good One s d.unheard d.heard d.is_good)
    ((lacks_exactly q).1 x)

-- saving in slot order: two channels opened in descending order are written ascending
abbrev channel : ℕ → ℕ → BypassSequenceControlFlag → Channel
channel s c b = record { spacecraft_id = s; vc_id = c; sequence_control_flag = b }

abbrev craft : ℕ → ℕ → Channel
craft s c = channel s c SequenceControlledQoS

abbrev descending : ChannelRecord
descending = record {
  slots = slot_of (Opened (craft 0x1234 5) 1) ∷ slot_of (Opened (craft 0x1233 63) 7) ∷ slot_of
      (Heard (craft 9 0) 2 (record { last = 258; handed_on = 3; missing = 1; repeats = 0; late = 0 })) ∷ replicate 5 (slot_of Closed);
}

-- two of them alone
abbrev pub two : ChannelRecord
two = record { slots = slot_of (Opened (craft 0x1234 5) 1) ∷ slot_of (Opened (craft 0x1233 63) 7) ∷ replicate 6 (slot_of Closed) }

pub written_ascending : form_of One descending
    ≡ 2 ∷ 0x12 ∷ 0x33 ∷ 63 ∷ 7 ∷ 0x12 ∷ 0x34 ∷ 5 ∷ 1
    ∷ 1 ∷ 0 ∷ 9 ∷ 0 ∷ 2
    ∷ 0 ∷ 0 ∷ 0 ∷ 0 ∷ 0 ∷ 0 ∷ 1 ∷ 2
    ∷ 0 ∷ 0 ∷ 0 ∷ 0 ∷ 0 ∷ 0 ∷ 0 ∷ 3
    ∷ 0 ∷ 0 ∷ 0 ∷ 0 ∷ 0 ∷ 0 ∷ 0 ∷ 1
    ∷ 0 ∷ 0 ∷ 0 ∷ 0 ∷ 0 ∷ 0 ∷ 0 ∷ 0
    ∷ 0 ∷ 0 ∷ 0 ∷ 0 ∷ 0 ∷ 0 ∷ 0 ∷ 0 ∷ []
unfolding rows insert sorted
written_ascending = refl

-- saving form 2 in the order of form 1, which leaves two channels of one number in slot order: the sequence-controlled one is written first
abbrev pub mixed : ChannelRecord
mixed = record {
  slots = slot_of (Opened (channel 0x1234 5 ExpeditedQoS) 1) ∷ slot_of (Opened (channel 0x1234 5 SequenceControlledQoS) 7) ∷ replicate 6 (slot_of Closed);
}

pub flag_ascending : form_of Two mixed ≡ 2 ∷ 0x12 ∷ 0x34 ∷ 5 ∷ 0 ∷ 7 ∷ 0x12 ∷ 0x34 ∷ 5 ∷ 1 ∷ 1 ∷ 0 ∷ []
unfolding rows insert sorted
flag_ascending = refl

-- of two entries of one rank, which no call makes, the one from the earlier slot is written first
abbrev pub twice : ChannelRecord
twice = record { slots = slot_of (Opened (craft 0x1234 5) 7) ∷ slot_of (Opened (craft 0x1234 5) 1) ∷ replicate 6 (slot_of Closed) }

pub then_slot : form_of One twice ≡ 2 ∷ 0x12 ∷ 0x34 ∷ 5 ∷ 7 ∷ 0x12 ∷ 0x34 ∷ 5 ∷ 1 ∷ 0 ∷ []
unfolding rows insert sorted
then_slot = refl
