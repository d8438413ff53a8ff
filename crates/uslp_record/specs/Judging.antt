-- Hearing a frame of a channel, as numbers (docs/RULES.md, section 6.3): NEW, REPEAT or LATE, and the totals that it leaves.
use Rattle.std.specs.Prelude.{ℕ, ◌+◌, ◌-◌, ◌/◌, ◌%◌, ◌^◌, Bool, cond, not, ◌||◌, List, [], ◌∷◌, ◌++◌, ◌==◌, nat_le, nat_lt}
use Rattle.uslp_kinds.specs.Outcome.{Outcome, done, refused, first_of}
use Rattle.uslp_kinds.specs.Kinds.{count_bad}
use Rattle.uslp_record.specs.Slots.{find, slot_of, state_at, Change}
use Rattle.uslp_record.specs.Record.{Kept, applied, most}
use Rattle.uslp_record.specs.declared.Channel.{Channel}
use Rattle.uslp_record.specs.declared.Totals.{Totals}
use Rattle.uslp_record.specs.declared.SlotState.{SlotState}
use Rattle.uslp_record.specs.declared.SlotState.TheVariants.{Closed, Opened, Heard}
use Rattle.uslp_record.specs.declared.ChannelRecord.{ChannelRecord}
use Rattle.uslp_record.specs.declared.Arrival.{Arrival}
use Rattle.uslp_record.specs.declared.Arrival.TheVariants.{New, Repeat, Late}
use Rattle.uslp_record.specs.declared.Slot.{Slot}

-- new count less last by wrapping subtraction, reduced to the width
abbrev pub ahead : ℕ → ℕ → ℕ → ℕ
ahead width count last = (count + 2 ^ 64 - last) % 256 ^ width

-- d ahead, of M counts: 0 is REPEAT, 1 to M/2 NEW with gap d - 1, above LATE
abbrev pub arrival_of : ℕ → ℕ → Arrival
arrival_of width d = cond (d == 0) Repeat (cond (nat_le d (256 ^ width / 2)) (New (d - 1)) Late)

-- the totals after an arrival with this count
abbrev pub totals_after : Arrival → ℕ → Totals → Totals
totals_after (New gap) count t = record { last = count; handed_on = t.handed_on + 1; missing = t.missing + gap; repeats = t.repeats; late = t.late }
totals_after Repeat count t = record { last = t.last; handed_on = t.handed_on; missing = t.missing; repeats = t.repeats + 1; late = t.late }
totals_after Late count t = record { last = t.last; handed_on = t.handed_on; missing = t.missing; repeats = t.repeats; late = t.late + 1 }

abbrev pub first_totals : ℕ → Totals
first_totals count = record { last = count; handed_on = 1; missing = 0; repeats = 0; late = 0 }

-- a total of this channel, grown or not, would stand above the largest
abbrev pub overfull : Totals → Bool
overfull t = nat_lt most t.handed_on || nat_lt most t.missing || nat_lt most t.repeats || nat_lt most t.late

-- what is heard of a channel in this state
abbrev pub arrival_at : SlotState → ℕ → Arrival
arrival_at Closed count = New 0
arrival_at (Opened channel width) count = New 0
arrival_at (Heard channel width t) count = arrival_of width (ahead width count t.last)

abbrev pub totals_at : SlotState → ℕ → Totals
totals_at Closed count = first_totals count
totals_at (Opened channel width) count = first_totals count
totals_at (Heard channel width t) count = totals_after (arrival_of width (ahead width count t.last)) count t

abbrev pub width_at : SlotState → ℕ
width_at Closed = 0
width_at (Opened channel width) = width
width_at (Heard channel width t) = width

-- a frame with this width and count, by what stands in its channel's slot: 14, 17
abbrev pub slot_checks : {A : Type 0} → SlotState → ℕ → ℕ → List (Bool × Outcome A)
slot_checks t width count =
    (not (width == width_at t), refused 14 (width ∷ width_at t ∷ []))
    ∷ (overfull (totals_at t count), refused 17 [])
    ∷ []

-- a width and a count that no frame has: 10, 8
abbrev pub count_checks : {A : Type 0} → ℕ → ℕ → List (Bool × Outcome A)
count_checks width count = (nat_lt 7 width, refused 10 []) ∷ (count_bad width count, refused 8 (count ∷ width ∷ [])) ∷ []

-- a channel's frame with this width and count, and what it changes: 10, 8, 13, 14, 17
unfoldable pub judging : ChannelRecord → Channel → ℕ → ℕ → Outcome (Arrival × Change)
judging r k width count =
    first_of
    (count_checks width count
    ++ (nat_le 8 (find k r.slots), refused 13 [])
    ∷ slot_checks (state_at r (find k r.slots)) width count)
    (done (
      arrival_at (state_at r (find k r.slots)) count,
      record
          { at = find k r.slots; state = Heard k width (totals_at (state_at r (find k r.slots)) count) },
    ))

-- hearing it
abbrev pub count_hearing : ChannelRecord → Channel → ℕ → ℕ → Kept Arrival
count_hearing r k width count = applied r (judging r k width count)

-- the same for whoever has the slot: 10, 8, 14, 17, and the slot after it
unfoldable pub slot_judging : Slot → Channel → ℕ → ℕ → Outcome (Arrival × Slot)
slot_judging x k width count =
    first_of
    (count_checks width count ++ slot_checks x.state width count)
    (done (arrival_at x.state count, slot_of (Heard k width (totals_at x.state count))))
