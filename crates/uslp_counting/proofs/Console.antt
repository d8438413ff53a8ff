-- The console total is the sum over the open channels of what each is missing, in a record that holds no channel twice.
use mathlib.Core.Path.{◌≡◌, refl, sym, ap, ◌∙◌}
use mathlib.Core.Bool.{true, false}
use mathlib.Core.List.{List, [], ◌∷◌, ◌++◌}
use Prim.Native.Nat.{ℕ, suc, ◌+◌, ◌<◌}
use native.Mathlib.Omega.{arith}
use native.Mathlib.Decide.{dec_lt}
use native.Mathlib.Nat.{zero-add, add-zero}
use lib.ListN.{length, get_or}
use Rattle.uslp_kinds.specs.Outcome.{done}
use Rattle.uslp_record.specs.Slots.{state_holds, holds, find, slot_of, state_at}
use Rattle.uslp_record.specs.Record.{missing_of, missing_in, too_much_in, console_total}
use Rattle.uslp_record.specs.declared.Channel.{Channel}
use Rattle.uslp_record.specs.declared.SlotState.{SlotState}
use Rattle.uslp_record.specs.declared.SlotState.TheVariants.{Closed, Opened, Heard}
use Rattle.uslp_record.specs.declared.Slot.{Slot}
use Rattle.uslp_record.specs.declared.ChannelRecord.{ChannelRecord}
use Rattle.uslp_record.proofs.Seek.{finds}
use Rattle.uslp_counting.specs.History.{missing_for}
use Rattle.uslp_record.specs.Made.{Distinct, Made}
use Rattle.uslp_counting.specs.Console.{channels_of, open_in, sum_over, missing_over_open}
use Rattle.uslp_record.proofs.Slots.{true_false, same_self, seek_passes, seek_none}
use Rattle.uslp_record.proofs.Keeps.{total_fits}

module _ (r : ChannelRecord) (long : length r.slots ≡ 8) (once : Distinct r) where
  -- the search finds the one slot that holds the channel
  found : (k : Channel) (i : ℕ) → i < 8 → state_holds k (state_at r i) ≡ true → find k r.slots ≡ i
  found k i h e =
      elim (dec_lt (find k r.slots) 8) [
        | yes a ↦ once k (find k r.slots) i a h (seek_passes (holds k) (find k) (finds k) r.slots (slot_of Closed) (omega arith)) e
        | no a ↦ absurd (true_false e (seek_none (holds k) (find k) (finds k) r.slots (slot_of Closed) i (omega arith) (omega arith)))
      ]

  slot_missing : (t : SlotState) (i : ℕ) → i < 8 → state_at r i ≡ t → sum_over (λ (k : Channel). missing_for k r) (channels_of t) ≡ missing_of t
  slot_missing Closed i h e = refl
  slot_missing (Opened k w) i h e =
      add-zero (missing_for k r)
      ∙ ap (λ (j : ℕ). missing_of (state_at r j)) (found k i h (ap (state_holds k) e ∙ same_self k)) ∙ ap missing_of e
  slot_missing (Heard k w c) i h e =
      add-zero (missing_for k r)
      ∙ ap (λ (j : ℕ). missing_of (state_at r j)) (found k i h (ap (state_holds k) e ∙ same_self k)) ∙ ap missing_of e

  sum_append : (f : Channel → ℕ) (a b : List Channel) → sum_over f (a ++ b) ≡ sum_over f a + sum_over f b
  sum_append f [] b = omega arith
  sum_append f (k ∷ a) b = let h = sum_append f a b in omega arith

  -- the slots from place i on
  from : (l : List Slot) (i : ℕ) → i + length l ≡ 8 → ((j : ℕ) → j < length l → state_at r (i + j) ≡ (get_or l j (slot_of Closed)).state)
      → sum_over (λ (k : Channel). missing_for k r) (open_in l) ≡ missing_in l
  unfolding missing_in
  from [] i e at = refl
  from (x ∷ l) i e at =
      let here = slot_missing x.state i (omega arith) (ap (state_at r) (sym (add-zero i)) ∙ at 0 (omega arith)) in
      let rest = from l (i + 1) (omega arith) (λ j h. let q : i + 1 + j ≡ i + suc j = omega arith in ap (state_at r) q ∙ at (suc j) (omega arith)) in
      sum_append (λ (k : Channel). missing_for k r) (channels_of x.state) (open_in l) ∙ omega (arith, here, rest)

  pub console_sum : missing_in r.slots ≡ missing_over_open r
  console_sum = sym (from r.slots 0 (omega arith) (λ j h. ap (state_at r) (zero-add j)))

  -- where no total is above the largest, asking gives that sum
  pub console_counts : too_much_in r.slots ≡ false → console_total r ≡ done (missing_over_open r)
  unfolding console_total
  console_counts e = rw e (ap done console_sum)

-- no total of a record that calls made is above the largest: asking is done, and gives the sum
pub console_made : (r : ChannelRecord) → Made r → console_total r ≡ done (missing_over_open r)
console_made r made = console_counts r made.eight made.once (total_fits r made)
