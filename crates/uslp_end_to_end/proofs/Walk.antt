-- The loop over the frames: what holds at a place, and how a frame, a refusal and the end carry it on.
use mathlib.Core.Path.{◌≡◌, refl, ap, sym, ◌∙◌}
use Prim.Native.Nat.{ℕ, ◌+◌, ◌-◌, ◌^◌, ◌<◌, ◌≤◌}
use mathlib.Core.Bool.{Bool, true, false, cond}
use mathlib.Core.List.{List, [], ◌∷◌}
use native.Mathlib.Omega.{arith}
use lib.Dec.{eqb}
use lib.ListN.{length, take, drop, set, length-set, length-drop, drop_of_length-le}
use lib.Seq.{drop-drop}
use Rattle.uslp_kinds.specs.Outcome.{Outcome, done, refused, and_then}
use Rattle.uslp_kinds.specs.declared.ManagedParameters.{ManagedParameters}
use Rattle.uslp_primary_header.specs.Header.{len_frame}
use Rattle.uslp_reader.specs.Reader.{frame_reading}
use Rattle.uslp_reader.specs.EndToEnd.{Cut, cut, stopping}
use Rattle.uslp_reader.specs.declared.TransferFrame.{TransferFrame}
use Rattle.uslp_reader.proofs.Done.{read_done}
use Rattle.uslp_reader.proofs.EndToEnd.{frame_eight, onto, nothing, cut_refused, cut_more, cut_end, stopping_refused}
use Rattle.uslp_octets.specs.Octets.{AreOctets}
use native.Mathlib.Decide.{dec_lt}
use Rattle.uslp_record.specs.Slots.{find, slot_of, state_at}
use Rattle.uslp_record.specs.Record.{keeping, applied, most}
use Rattle.uslp_record.specs.Judging.{judging, count_hearing, slot_judging}
use Rattle.uslp_record.specs.declared.Slot.{Slot}
use Rattle.uslp_record.specs.declared.SlotState.TheVariants.{Closed}
use Rattle.uslp_record.specs.declared.ChannelRecord.{ChannelRecord}
use Rattle.uslp_record.specs.declared.Arrival.{Arrival}
use Rattle.uslp_record.specs.declared.Arrival.TheVariants as arrival
use Rattle.uslp_record.proofs.Hears.{judging_none, judging_slot, changing}
use Rattle.uslp_record.proofs.Sums.{up_to_in, slots_most, slots_set, gap_of, slot_gap, slot_gap_fits}
use Rattle.uslp_record.proofs.Back.{keeping_one}
use Rattle.uslp_hearing.proofs.Heard.{heard_with}
use Rattle.uslp_hearing.specs.Hearing.{channel_of, frame_arrival, judged_by, frame_hearing}
use Rattle.uslp_hearing.specs.declared.FrameArrival.{FrameArrival}
use Rattle.uslp_hearing.specs.declared.FrameArrival.TheVariants.{New, Repeat, Late}
use Rattle.uslp_hearing.proofs.Ways.{channel, width, count, read_narrow, read_fits}
use Rattle.uslp_end_to_end.specs.Many.{no_frames, tally_of, plus, added_to, hearings, KeptMany, many_hearing, Small}
use Rattle.uslp_end_to_end.specs.declared.Tally.{Tally}

-- how many frames a tally has
abbrev total : Tally → ℕ
total t = t.new + t.repeats + t.late + t.not_open + t.other_width + t.total_full

one_most : (b : Bool) → cond b 1 0 ≤ 1
one_most true = omega arith
one_most false = omega arith

total_few : (o : Outcome FrameArrival) → total (tally_of o) ≤ 3
total_few (done (New gap x)) = omega arith
total_few (done Repeat) = omega arith
total_few (done Late) = omega arith
total_few (refused k vs) = omega (arith, one_most (eqb k 13), one_most (eqb k 14), one_most (eqb k 17))

-- the gap that an answer to a count brings
abbrev pub gap_in : Outcome Arrival → ℕ
gap_in (done a) = gap_of a
gap_in (refused k vs) = 0

-- an answer to a count, with the frame that it is of
abbrev of_arrival : TransferFrame → Outcome Arrival → Outcome FrameArrival
of_arrival x o = and_then o (λ (a : Arrival). done (frame_arrival x a))

gap_is : (x : TransferFrame) (o : Outcome Arrival) → (tally_of (of_arrival x o)).missing ≡ gap_in o
gap_is x (done (arrival.New gap)) = refl
gap_is x (done arrival.Repeat) = refl
gap_is x (done arrival.Late) = refl
gap_is x (refused k vs) = refl

-- a count that is answered by o and takes the record r to q: its slots take the gap in
pub record Counted (r q : ChannelRecord) (o : Outcome Arrival) : Type 0 where
  pub eight : length q.slots ≡ 8
  pub fits : gap_in o ≤ most
  pub more : up_to_in r.slots + gap_in o ≤ up_to_in q.slots

module _ (x : TransferFrame) (r : ChannelRecord) (long : length r.slots ≡ 8) {o : Outcome Arrival} {q : ChannelRecord} where
  counted_refused : {k : ℕ} {vs : List ℕ} → keeping o q ≡ keeping (refused k vs) r → Counted r q o
  counted_refused e =
      let d = keeping_one e in
      let none : gap_in o ≡ 0 = ap gap_in d.0 in
      let same : up_to_in q.slots ≡ up_to_in r.slots = ap (λ (v : ChannelRecord). up_to_in v.slots) d.1 in
      record { eight = ap (λ (v : ChannelRecord). length v.slots) d.1 ∙ long; fits = omega arith; more = omega arith }

  counted_slot : (i : ℕ) → i < 8 → (v : Outcome (Arrival × Slot))
      → slot_judging (slot_of (state_at r i)) (channel x) (width x) (count x) ≡ v
      → keeping o q ≡ applied r (changing i v) → Counted r q o
  counted_slot i there (refused k vs) is e = counted_refused e
  counted_slot i there (done y) is e =
      let d = keeping_one e in
      let one : gap_in o ≡ gap_of y.0 = ap gap_in d.0 in
      let set_there : up_to_in q.slots ≡ up_to_in (set r.slots i y.1) = ap (λ (v : ChannelRecord). up_to_in v.slots) d.1 in
      let gap = slot_gap (slot_of (state_at r i)) (channel x) (width x) (count x) is in
      let fit = slot_gap_fits (slot_of (state_at r i)) (channel x) (width x) (count x) is in
      let more = slots_set r.slots i y.1 (slot_of Closed) (omega (arith, long)) in
      record {
        eight = ap (λ (v : ChannelRecord). length v.slots) d.1 ∙ length-set r.slots i y.1 ∙ long;
        fits = omega arith;
        more = omega arith;
      }

  pub counted : (managed : ManagedParameters) (s : List ℕ) → AreOctets s → frame_reading s managed ≡ done x
      → keeping o q ≡ count_hearing r (channel x) (width x) (count x) → Counted r q o
  counted managed s oct read e = go (dec_lt i 8)
    where
      i : ℕ
      i = find (channel x) r.slots

      go : Dec (i < 8) → Counted r q o
      go (yes there) =
          counted_slot i there (slot_judging (slot_of (state_at r i)) (channel x) (width x) (count x)) refl
          (e ∙ ap (applied r) (judging_slot r (channel x) (width x) (count x) i refl there))
      go (no out) =
          counted_refused
          (e ∙ ap (applied r)
          (judging_none r (channel x) (width x) (count x) i refl (read_narrow s managed x read)
          (read_fits s managed x oct read) (omega arith)))

-- a hearing of the octets s takes the tally t and the record r to u and q
pub record Stepped (managed : ManagedParameters) (s : List ℕ) (t : Tally) (r : ChannelRecord) (u : Tally) (q : ChannelRecord) : Type 0 where
  pub is : ◌≡◌ {A = Tally × ChannelRecord} (added_to t (frame_hearing r s managed)) (u, q)
  pub eight : length q.slots ≡ 8
  pub few : total u ≤ total t + 3
  pub sum : t.missing ≤ up_to_in r.slots → u.missing ≤ up_to_in q.slots

-- by what hearing its count answered, and what that answer adds to the tally
pub stepped : (managed : ManagedParameters) (s : List ℕ) (x : TransferFrame) → frame_reading s managed ≡ done x
    → (t : Tally) {u : Tally} (r : ChannelRecord) {q : ChannelRecord} {o : Outcome Arrival}
    → keeping o q ≡ count_hearing r (channel x) (width x) (count x) → Counted r q o → u ≡ plus t (tally_of (of_arrival x o))
    → Stepped managed s t r u q
stepped managed s x read t {u} r {q} {o} e c is = record {
  is =
      ap (λ (v : Outcome TransferFrame). added_to t (applied r (and_then v (judged_by channel_of r)))) read
      ∙ ap (added_to t) (sym (heard_with x r (judging r (channel x) (width x) (count x)) e))
      ∙ ap (λ (v : Tally). (v, q)) (sym is);
  eight = c.eight;
  few = omega (arith, ap total is, total_few (of_arrival x o));
  sum = λ less.
      let v : u.missing ≡ t.missing + gap_in o = ap (λ (v : Tally). v.missing) is ∙ ap (λ (n : ℕ). t.missing + n) (gap_is x o) in
      omega (arith, less, v, c.more);
}

hearings_next : (managed : ManagedParameters) (f : TransferFrame × List ℕ) (fs : List (TransferFrame × List ℕ)) (t : Tally) (r : ChannelRecord)
    → hearings managed (f ∷ fs) t r ≡ hearings managed fs (added_to t (frame_hearing r f.1 managed)).0 (added_to t (frame_hearing r f.1 managed)).1
unfolding hearings
hearings_next managed f fs t r = refl

hearings_end : (managed : ManagedParameters) (t : Tally) (r : ChannelRecord) → ◌≡◌ {A = Tally × ChannelRecord} (hearings managed [] t r) (t, r)
unfolding hearings
hearings_end managed t r = refl

-- the hearings from the place on complete the whole
pub record Goes (managed : ManagedParameters) (s : List ℕ) (r₀ r : ChannelRecord) (t : Tally) (place : ℕ) : Type 0 where
  pub inside : place ≤ length s
  pub goes_on : hearings managed (cut managed (drop place s)).frames t r ≡ hearings managed (cut managed s).frames no_frames r₀
  pub rest : (cut managed (drop place s)).rest ≡ (cut managed s).rest

pub goes_nothing : (managed : ManagedParameters) (s : List ℕ) (r : ChannelRecord) → Goes managed s r r no_frames 0
goes_nothing managed s r = record { inside = omega arith; goes_on = refl; rest = refl }

module _ {managed : ManagedParameters} {s : List ℕ} {r₀ r : ChannelRecord} {t : Tally} {place : ℕ} (g : Goes managed s r₀ r t place) where
  pub goes_more : (x : TransferFrame) → frame_reading (drop place s) managed ≡ done x → {n : ℕ} → n ≡ len_frame x.primary_header
      → {u : Tally} {q : ChannelRecord}
      → ◌≡◌ {A = Tally × ChannelRecord} (added_to t (frame_hearing r (take (len_frame x.primary_header) (drop place s)) managed)) (u, q)
      → Goes managed s r₀ q u (place + n)
  goes_more x read {n} e {u} {q} step =
      let long = len_frame x.primary_header in
      let whole = (read_done (drop place s) managed x read).whole in
      let left = length-drop place s in
      let c : cut managed (drop place s) ≡ onto (drop place s) x (cut managed (drop (place + n) s)) =
      cut_more managed (drop place s) x read
      ∙ ap (λ (v : List ℕ). onto (drop place s) x (cut managed v)) (drop-drop long place s ∙ ap (λ (m : ℕ). drop (place + m) s) (sym e)) in
      record {
        inside = omega (arith, g.inside);
        goes_on =
            ap (λ (p : Tally × ChannelRecord). hearings managed (cut managed (drop (place + n) s)).frames p.0 p.1) (sym step)
            ∙ sym (hearings_next managed (x, take long (drop place s)) (cut managed (drop (place + n) s)).frames t r)
            ∙ sym (ap (λ (v : Cut). hearings managed v.frames t r) c) ∙ g.goes_on;
        rest = sym (ap (λ (v : Cut). v.rest) c) ∙ g.rest;
      }

  -- nothing more is cut off: the whole is heard
  ended : {o : Outcome (Unit {0})} → cut managed (drop place s) ≡ nothing (drop place s) → o ≡ stopping managed (drop place s)
      → ◌≡◌ {A = KeptMany} (record { place = place; counted = t; stop = o; next = r }) (many_hearing r₀ s managed)
  unfolding many_hearing
  ended {o} c is =
      let rest : drop place s ≡ (cut managed s).rest = sym (ap (λ (v : Cut). v.rest) c) ∙ g.rest in
      let all : ◌≡◌ {A = Tally × ChannelRecord} (t, r) (hearings managed (cut managed s).frames no_frames r₀) =
      sym (hearings_end managed t r) ∙ sym (ap (λ (v : Cut). hearings managed v.frames t r) c) ∙ g.goes_on in
      let place_is : place ≡ length s - length (cut managed s).rest = omega (arith, g.inside, length-drop place s, ap length rest) in
      let stop_is : o ≡ stopping managed (cut managed s).rest = is ∙ ap (stopping managed) rest in
      λ i. record { place = place_is i; counted = (all i).0; stop = stop_is i; next = (all i).1 }

  pub goes_refused : {k : ℕ} {vs : List ℕ} → place < length s → frame_reading (drop place s) managed ≡ refused k vs
      → ◌≡◌ {A = KeptMany} (record { place = place; counted = t; stop = refused k vs; next = r }) (many_hearing r₀ s managed)
  goes_refused low read =
      ended (cut_refused managed (drop place s) read) (sym (stopping_refused managed (drop place s) (omega (arith, length-drop place s)) read))

  pub goes_all : length s ≤ place → ◌≡◌ {A = KeptMany} (record { place = place; counted = t; stop = done tt; next = r }) (many_hearing r₀ s managed)
  goes_all high =
      let e = drop_of_length-le s {i = place} high in
      ended (ap (cut managed) e ∙ cut_end managed ∙ ap nothing (sym e)) (ap (stopping managed) (sym e))

-- and the machine's numbers hold what was counted
pub record Heard (managed : ManagedParameters) (s : List ℕ) (r₀ r : ChannelRecord) (t : Tally) (place : ℕ) : Type 0 where
  pub goes : Goes managed s r₀ r t place
  pub eight : length r.slots ≡ 8
  pub few : total t ≤ place
  pub sum : t.missing ≤ up_to_in r.slots

module _ {managed : ManagedParameters} {s : List ℕ} {r₀ r : ChannelRecord} {t : Tally} {place : ℕ} (h : Heard managed s r₀ r t place) where
  pub heard_small : place + 1 < 2 ^ 64 → Small t
  heard_small low =
      let sum = slots_most r.slots in
      record {
        new = omega (arith, h.few);
        missing = omega (arith, h.sum, sum, h.eight);
        repeats = omega (arith, h.few);
        late = omega (arith, h.few);
        not_open = omega (arith, h.few);
        other_width = omega (arith, h.few);
        total_full = omega (arith, h.few);
      }

  pub heard_more : (x : TransferFrame) → frame_reading (drop place s) managed ≡ done x → {n : ℕ} → n ≡ len_frame x.primary_header
      → {u : Tally} {q : ChannelRecord} → Stepped managed (take (len_frame x.primary_header) (drop place s)) t r u q → Heard managed s r₀ q u (place + n)
  heard_more x read e step =
      let eight = frame_eight (drop place s) managed read in
      record {
        goes = goes_more h.goes x read e step.is;
        eight = step.eight;
        few = omega (arith, e, h.few, step.few);
        sum = step.sum h.sum;
      }
