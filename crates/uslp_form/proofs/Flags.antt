-- Which channels a form says: form 1 those that are sequence-controlled, and no other; form 2 every one.
use mathlib.Core.Path.{◌≡◌, refl, sym, ◌∙◌, ap}
use mathlib.Core.Logic.{◌↔◌}
use mathlib.Core.Bool.{Bool, true, false, ◌&&◌}
use mathlib.Core.List.{List, [], ◌∷◌}
use Prim.Native.Nat.{ℕ, zero, suc}
use lib.Dec.{eqb}
use lib.ListN.{get_or, set}
use Rattle.uslp_kinds.specs.Kinds.{bypass_number}
use Rattle.uslp_kinds.specs.declared.BypassSequenceControlFlag.{BypassSequenceControlFlag}
use Rattle.uslp_kinds.specs.declared.BypassSequenceControlFlag.TheVariants.{SequenceControlledQoS, ExpeditedQoS}
use Rattle.uslp_record.specs.Slots.{state_holds, slot_of, state_at}
use Rattle.uslp_record.specs.declared.Channel.{Channel}
use Rattle.uslp_record.specs.declared.SlotState.{SlotState}
use Rattle.uslp_record.specs.declared.SlotState.TheVariants.{Closed, Opened, Heard}
use Rattle.uslp_record.specs.declared.Slot.{Slot}
use Rattle.uslp_record.specs.declared.ChannelRecord.{ChannelRecord}
use Rattle.uslp_record.proofs.Slots.{true_false, same_self, same_one}
use Rattle.uslp_form.specs.Entries.{Each}
use Rattle.uslp_form.specs.declared.Form.{Form}
use Rattle.uslp_form.specs.Form.{says, says_entry, says_all, EntrySaid, RecordSaid}
use Rattle.uslp_form.specs.declared.Form.TheVariants.{One, Two}
use Rattle.uslp_form.proofs.Each.{states_in}

pub is_controlled : (x : BypassSequenceControlFlag) → eqb (bypass_number x) 0 ≡ true → x ≡ SequenceControlledQoS
is_controlled SequenceControlledQoS e = refl
is_controlled ExpeditedQoS e = absurd (true_false e refl)

is_expedited : (x : BypassSequenceControlFlag) → eqb (bypass_number x) 0 ≡ false → x ≡ ExpeditedQoS
is_expedited SequenceControlledQoS e = absurd (true_false refl e)
is_expedited ExpeditedQoS e = refl

-- so a channel that form 1 says is known from its two columns
pub sequence_one : (k : Channel) → says One k ≡ true
    → record { spacecraft_id = k.spacecraft_id; vc_id = k.vc_id; sequence_control_flag = SequenceControlledQoS } ≡ k
sequence_one k e =
    λ i. record {
      spacecraft_id = k.spacecraft_id;
      vc_id = k.vc_id;
      sequence_control_flag = sym (is_controlled k.sequence_control_flag e) i;
    }

-- what the form says of slots, it says of each
module _ (f : Form) where
  pub said_each : (l : List Slot) → says_all f l ≡ true → Each (EntrySaid f) (states_in l)
  unfolding says_all
  said_each [] e = tt
  said_each (x ∷ l) e = go (says_entry f x.state) refl e (λ g. said_each l g)
    where
      go : (b : Bool) → says_entry f x.state ≡ b → (b && says_all f l) ≡ true
          → (says_all f l ≡ true → Each (EntrySaid f) (states_in l))
          → Each (EntrySaid f) (states_in (x ∷ l))
      go true d g ih = (d, ih g)
      go false d g ih = absurd (true_false g refl)

  pub each_said : (l : List Slot) → Each (EntrySaid f) (states_in l) → says_all f l ≡ true
  unfolding says_all
  each_said [] e = refl
  each_said (x ∷ l) e = rw e.0 (each_said l e.1)

  -- and after one of them is replaced by another such
  pub said_set : (l : List Slot) (i : ℕ) (y : Slot) → says_all f l ≡ true → says_entry f y.state ≡ true → says_all f (set l i y) ≡ true
  said_set l i y e d = each_said (set l i y) (go l i (said_each l e))
    where
      go : (m : List Slot) (j : ℕ) → Each (EntrySaid f) (states_in m)
          → Each (EntrySaid f) (states_in (set m j y))
      go [] j a = tt
      go (x ∷ m) zero a = (d, a.1)
      go (x ∷ m) (suc j) a = (a.0, go m j a.1)

  -- an entry that it does not say, at a place
  pub record LacksAt (l : List Slot) : Type 0 where
    pub at : ℕ
    pub lacks : says_entry f (get_or l at (slot_of Closed)).state ≡ false

  some_lacks : (l : List Slot) → says_all f l ≡ false → LacksAt l
  unfolding says_all
  some_lacks [] e = absurd (true_false refl e)
  some_lacks (x ∷ l) e = go (says_entry f x.state) refl e (λ g. some_lacks l g)
    where
      go : (b : Bool) → says_entry f x.state ≡ b → (b && says_all f l) ≡ false → (says_all f l ≡ false → LacksAt l) → LacksAt (x ∷ l)
      go true d g ih = let h = ih g in record { at = suc h.at; lacks = h.lacks }
      go false d g ih = record { at = 0; lacks = d }

  at_lacks : (l : List Slot) (i : ℕ) → says_entry f (get_or l i (slot_of Closed)).state ≡ false → says_all f l ≡ false
  unfolding says_all
  at_lacks [] i e = absurd (true_false refl e)
  at_lacks (x ∷ l) zero e = rw e
  at_lacks (x ∷ l) (suc i) e = go (says_entry f x.state) (at_lacks l i e)
    where
      go : (b : Bool) → says_all f l ≡ false → (b && says_all f l) ≡ false
      go true g = g
      go false g = refl

-- an open channel is expedited
pub record Expedited (r : ChannelRecord) : Type 0 where
  pub at : ℕ
  pub channel : Channel
  pub holds : state_holds channel (state_at r at) ≡ true
  pub expedited : channel.sequence_control_flag ≡ ExpeditedQoS

-- form 1 does not say all exactly then
pub lacks_exactly : (r : ChannelRecord) → (says_all One r.slots ≡ false) ↔ Expedited r
lacks_exactly r = (λ e. let h = some_lacks One r.slots e in there h.at (state_at r h.at) refl h.lacks, back)
  where
    there : (i : ℕ) (t : SlotState) → state_at r i ≡ t → says_entry One t ≡ false → Expedited r
    there i Closed e d = absurd (true_false refl d)
    there i (Opened k w) e d = record {
      at = i;
      channel = k;
      holds = ap (state_holds k) e ∙ same_self k;
      expedited = is_expedited k.sequence_control_flag d;
    }
    there i (Heard k w t) e d = record {
      at = i;
      channel = k;
      holds = ap (state_holds k) e ∙ same_self k;
      expedited = is_expedited k.sequence_control_flag d;
    }

    open_lacks : (k : Channel) (t : SlotState) → state_holds k t ≡ true → k.sequence_control_flag ≡ ExpeditedQoS → says_entry One t ≡ false
    open_lacks k Closed h e = absurd (true_false h refl)
    open_lacks k (Opened c w) h e = ap (says One) (same_one c k h) ∙ ap (λ (x : BypassSequenceControlFlag). eqb (bypass_number x) 0) e
    open_lacks k (Heard c w t) h e = ap (says One) (same_one c k h) ∙ ap (λ (x : BypassSequenceControlFlag). eqb (bypass_number x) 0) e

    back : Expedited r → says_all One r.slots ≡ false
    back x = at_lacks One r.slots x.at (open_lacks x.channel (state_at r x.at) x.holds x.expedited)

-- and says all exactly if none is expedited
pub said_exactly : (r : ChannelRecord) → RecordSaid One r ↔ (Expedited r → ⊥)
said_exactly r = (λ said x. true_false said ((lacks_exactly r).1 x), λ none. go none (says_all One r.slots) refl)
  where
    go : (Expedited r → ⊥) → (b : Bool) → says_all One r.slots ≡ b → b ≡ true
    go none true e = refl
    go none false e = absurd (none ((lacks_exactly r).0 e))

-- form 2 says every channel
pub entry_two : (x : SlotState) → EntrySaid Two x
entry_two Closed = refl
entry_two (Opened k w) = refl
entry_two (Heard k w t) = refl

pub said_two : (r : ChannelRecord) → RecordSaid Two r
said_two r = each_said Two r.slots (go (states_in r.slots))
  where
    go : (l : List SlotState) → Each (EntrySaid Two) l
    go [] = tt
    go (x ∷ l) = (entry_two x, go l)
