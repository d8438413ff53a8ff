-- Laws of the eight slots: which channel a slot holds, what a search finds, and what a slot replaced changes of it.
use Rattle.std.proofs.Common.{◌≡◌, ℕ, zero, suc, ◌<◌, ◌≤◌, Bool, true, false, cond, ◌&&◌, eqb, List, [], ◌∷◌, length, get_or, set, sym, refl, ap, ◌∙◌, arith, get_or-set_other, get_or-set_same, eq-eqb, eqb-true}
use Rattle.uslp_kinds.specs.Kinds.{bypass_number, bypass_of}
use Rattle.uslp_kinds.specs.declared.BypassSequenceControlFlag.{BypassSequenceControlFlag}
use Rattle.uslp_kinds.proofs.Cases.{bypass_back}
use Rattle.uslp_record.specs.Slots.{same_channel, state_holds, state_closed, slot_of, state_at, put}
use Rattle.uslp_record.specs.declared.Channel.{Channel}
use Rattle.uslp_record.specs.declared.SlotState.{SlotState}
use Rattle.uslp_record.specs.declared.SlotState.TheVariants.{Closed, Opened, Heard}
use Rattle.uslp_record.specs.declared.Slot.{Slot}
use Rattle.uslp_record.specs.declared.ChannelRecord.{ChannelRecord}
use Rattle.uslp_record.proofs.Seek.{Seeks}

pub true_false : {b : Bool} → b ≡ true → b ≡ false → ⊥
true_false e f = let z : ◌≡◌ {A = ℕ} 0 1 = cc in omega arith

pub same_self : (k : Channel) → same_channel k k ≡ true
same_self k =
    simp (
      eq-eqb k.spacecraft_id k.spacecraft_id refl,
      eq-eqb k.vc_id k.vc_id refl,
      eq-eqb (bypass_number k.sequence_control_flag) (bypass_number k.sequence_control_flag) refl,
    )

-- the flags with one number are one
flag_one : (x y : BypassSequenceControlFlag) → bypass_number x ≡ bypass_number y → x ≡ y
flag_one x y e = sym (bypass_back x) ∙ ap bypass_of e ∙ bypass_back y

pub same_one : (a b : Channel) → same_channel a b ≡ true → a ≡ b
same_one a b = go (eqb a.spacecraft_id b.spacecraft_id) (eqb a.vc_id b.vc_id) _ refl refl refl
  where
    go : (x y z : Bool) → eqb a.spacecraft_id b.spacecraft_id ≡ x → eqb a.vc_id b.vc_id ≡ y
        → eqb (bypass_number a.sequence_control_flag) (bypass_number b.sequence_control_flag) ≡ z → (x && y && z) ≡ true → a ≡ b
    go true true true e f g h = λ i. record {
      spacecraft_id = eqb-true a.spacecraft_id b.spacecraft_id e i;
      vc_id = eqb-true a.vc_id b.vc_id f i;
      sequence_control_flag = flag_one a.sequence_control_flag b.sequence_control_flag (eqb-true _ _ g) i;
    }
    go true true false e f g h = absurd (true_false h refl)
    go true false z e f g h = absurd (true_false h refl)
    go false y z e f g h = absurd (true_false h refl)

-- a slot holds one channel only, and a closed one none
pub holds_other : (k K : Channel) (t : SlotState) → same_channel k K ≡ false → state_holds k t ≡ true → state_holds K t ≡ false
holds_other k K Closed o h = refl
holds_other k K (Opened c width) o h = ap (λ (x : Channel). same_channel x K) (same_one c k h) ∙ o
holds_other k K (Heard c width totals) o h = ap (λ (x : Channel). same_channel x K) (same_one c k h) ∙ o

pub closed_holds : (K : Channel) (t : SlotState) → state_closed t ≡ true → state_holds K t ≡ false
closed_holds K Closed h = refl
closed_holds K (Opened c width) h = absurd (true_false h refl)
closed_holds K (Heard c width totals) h = absurd (true_false h refl)

-- f seeks the first slot that passes the test
module _ (test : Slot → Bool) (f : List Slot → ℕ) (seeks : Seeks test f) where
  pub seek_passes : (l : List Slot) (d : Slot) → f l < length l → test (get_or l (f l) d) ≡ true
  seek_passes [] d h = absurd (omega arith)
  seek_passes (x ∷ l) d h = rw (seeks.more x l) (go (test x) refl (rw (seeks.more x l) at h) (λ k. seek_passes l d k))
    where
      go : (b : Bool) → test x ≡ b → cond b 0 (suc (f l)) < suc (length l) → (f l < length l → test (get_or l (f l) d) ≡ true)
          → test (get_or (x ∷ l) (cond b 0 (suc (f l))) d) ≡ true
      go true e k ih = e
      go false e k ih = ih (omega arith)

  pub seek_none : (l : List Slot) (d : Slot) (j : ℕ) → length l ≤ f l → j < length l → test (get_or l j d) ≡ false
  seek_none [] d j a h = absurd (omega arith)
  seek_none (x ∷ l) d zero a h = go (test x) (rw (seeks.more x l) at a)
    where
      go : (b : Bool) → suc (length l) ≤ cond b 0 (suc (f l)) → b ≡ false
      go true k = absurd (omega arith)
      go false k = refl
  seek_none (x ∷ l) d (suc j) a h = go (test x) (rw (seeks.more x l) at a) (λ k. seek_none l d j k (omega arith))
    where
      go : (b : Bool) → suc (length l) ≤ cond b 0 (suc (f l)) → (length l ≤ f l → test (get_or l j d) ≡ false) → test (get_or l j d) ≡ false
      go true k ih = absurd (omega arith)
      go false k ih = ih (omega arith)

  -- a slot replaced by one with the same answer to the test
  pub seek_set : (l : List Slot) (j : ℕ) (x d : Slot) → j < length l → test x ≡ test (get_or l j d) → f (set l j x) ≡ f l
  seek_set [] j x d h e = refl
  seek_set (y ∷ l) zero x d h e = rw (seeks.more x l, seeks.more y l, e)
  seek_set (y ∷ l) (suc j) x d h e = rw (seeks.more y (set l j x), seeks.more y l, seek_set l j x d (omega arith) e)

  -- a slot that passes, where none did
  pub seek_new : (l : List Slot) (j : ℕ) (x : Slot) → length l ≤ f l → j < length l → test x ≡ true → f (set l j x) ≡ j
  seek_new [] j x a h e = absurd (omega arith)
  seek_new (y ∷ l) zero x a h e = rw (seeks.more x l, e)
  seek_new (y ∷ l) (suc j) x a h e = rw (seeks.more y (set l j x)) (go (test y) (rw (seeks.more y l) at a) (λ k. seek_new l j x k (omega arith) e))
    where
      go : (b : Bool) → suc (length l) ≤ cond b 0 (suc (f l)) → (length l ≤ f l → f (set l j x) ≡ j) → cond b 0 (suc (f (set l j x))) ≡ suc j
      go true k ih = absurd (omega arith)
      go false k ih = ap suc (ih (omega arith))

module _ (r : ChannelRecord) (i : ℕ) (t : SlotState) where
  pub put_same : length r.slots ≡ 8 → i < 8 → state_at (put r i t) i ≡ t
  put_same long h = ap (λ (x : Slot). x.state) (get_or-set_same r.slots i (slot_of t) (slot_of Closed) (omega arith))

  pub put_other : (j : ℕ) → (j ≡ i → ⊥) → state_at (put r i t) j ≡ state_at r j
  put_other j n = ap (λ (x : Slot). x.state) (get_or-set_other r.slots i j (slot_of t) (slot_of Closed) n)
