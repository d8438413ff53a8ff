-- Laws of the console total: what the loop has summed of the slots that it passed.
use Rattle.std.proofs.Common.{◌≡◌, ℕ, ◌+◌, ◌*◌, ◌<◌, ◌≤◌, Bool, false, ◌||◌, ltb, List, [], length, get_or, drop, sym, ap, ◌∙◌, add-one, arith, drop_of_length-le, drop-cons, le-ltb, lt-ltb}
use Rattle.uslp_kinds.specs.Outcome.{done, refused}
use Rattle.uslp_record.specs.Record.{most, missing_of, missing_in, too_much_in, console_total}
use Rattle.uslp_record.specs.declared.Slot.{Slot}
use Rattle.uslp_record.specs.declared.ChannelRecord.{ChannelRecord}

-- sum is the missing of the first i slots, none of them above the largest total
pub record Tallied (l : List Slot) (i sum : ℕ) : Type 0 where
  pub within : i ≤ 8
  pub small : sum ≤ i * most
  pub sums : missing_in l ≡ sum + missing_in (drop i l)
  pub fits : too_much_in l ≡ too_much_in (drop i l)

missing_at : (l : List Slot) (i : ℕ) (d : Slot) → i < length l → missing_in (drop i l) ≡ missing_of (get_or l i d).state + missing_in (drop (i + 1) l)
unfolding missing_in
missing_at l i d h = rw (add-one, drop-cons l i d h)

too_much_at : (l : List Slot) (i : ℕ) (d : Slot) → i < length l
    → too_much_in (drop i l) ≡ (ltb most (missing_of (get_or l i d).state) || too_much_in (drop (i + 1) l))
unfolding too_much_in
too_much_at l i d h = rw (add-one, drop-cons l i d h)

module _ (r : ChannelRecord) (i sum : ℕ) (long : length r.slots ≡ 8) (inv : Tallied r.slots i sum) where
  pub tallied_all : 8 ≤ i → done sum ≡ console_total r
  unfolding console_total missing_in too_much_in
  tallied_all h =
      let e = drop_of_length-le r.slots {i = i} (omega arith) in
      let y : too_much_in r.slots ≡ false = inv.fits ∙ ap too_much_in e in
      let z : missing_in r.slots ≡ sum = omega (arith, inv.sums, ap missing_in e) in
      rw (y, z)

  module _ (d : Slot) (m : ℕ) (low : i < 8) (is : m ≡ missing_of (get_or r.slots i d).state) where
    too_much : too_much_in r.slots ≡ (ltb most m || too_much_in (drop (i + 1) r.slots))
    too_much = inv.fits ∙ too_much_at r.slots i d (omega arith) ∙ ap (λ (v : ℕ). ltb most v || too_much_in (drop (i + 1) r.slots)) (sym is)

    pub tallied_add : m ≤ most → Tallied r.slots (i + 1) (sum + m)
    tallied_add h = record {
      within = omega arith;
      small = omega (arith, inv.small);
      sums = omega (arith, inv.sums, missing_at r.slots i d (omega arith));
      fits = too_much ∙ ap (λ (z : Bool). z || too_much_in (drop (i + 1) r.slots)) (le-ltb most m h);
    }

    pub tallied_stop : most < m → refused 17 [] ≡ console_total r
    unfolding console_total
    tallied_stop h = rw (too_much ∙ ap (λ (z : Bool). z || too_much_in (drop (i + 1) r.slots)) (lt-ltb most m h))
