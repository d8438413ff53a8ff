-- What an arrival of the channel does: it is answered by its place and the furthest before it, and its slot is replaced.
use mathlib.Core.Path.{◌≡◌, refl, sym, ◌∙◌, ap}
use mathlib.Core.Bool.{Bool, true, false, cond}
use mathlib.Core.List.{List, [], ◌∷◌, ◌++◌}
use Prim.Native.Nat.{ℕ, ◌+◌, ◌-◌, ◌^◌, ◌%◌, ◌/◌, ◌<◌, ◌≤◌}
use native.Mathlib.Nat.{mod-lt}
use native.Mathlib.Omega.{arith}
use Rattle.uslp_kinds.specs.Outcome.{Outcome, done, and_then}
use Rattle.uslp_kinds.proofs.Outcomes.{not_done}
use Rattle.uslp_kinds.specs.declared.ManagedParameters.{ManagedParameters}
use Rattle.uslp_record.specs.Slots.{same_channel, find, put, Change}
use Rattle.uslp_record.specs.Record.{keeping, applied}
use Rattle.uslp_record.specs.Judging.{ahead, arrival_of, overfull, arrival_at, totals_at, width_at, judging}
use Rattle.uslp_record.specs.declared.Channel.{Channel}
use Rattle.uslp_record.specs.declared.SlotState.{SlotState}
use Rattle.uslp_record.specs.declared.SlotState.TheVariants.{Heard}
use Rattle.uslp_record.specs.declared.ChannelRecord.{ChannelRecord}
use Rattle.uslp_record.specs.declared.Arrival.{Arrival}
use Rattle.uslp_record.specs.declared.Arrival.TheVariants.{New, Repeat, Late}
use Rattle.uslp_record.proofs.Count.{counts_positive, arrives_again, arrives_new, arrives_late}
use Rattle.uslp_record.proofs.Hears.{judged_full, judged_done}
use Rattle.uslp_record.proofs.Slots.{same_self, same_one}
use Rattle.uslp_reader.specs.Reader.{frame_reading, contents_in}
use Rattle.uslp_reader.specs.declared.TransferFrame.{TransferFrame}
use Rattle.uslp_hearing.specs.Hearing.{Naming, frame_arrival, with_frame, judged_by, hearing_by}
use Rattle.uslp_hearing.specs.declared.FrameArrival.TheVariants as frame_arrival_mod
use Rattle.uslp_roundtrip.specs.Laid.{frame_of}
use Rattle.uslp_roundtrip.proofs.Complete.{complete, complete_contents}
use Rattle.uslp_counting.specs.History.{answer_of, handing, Roomy, Sender, frame_at, handing_at}
use Rattle.uslp_counting.specs.History.Call.{hears}
use Rattle.uslp_counting.proofs.Ahead.{half_twice, ahead_on, ahead_back}
use Rattle.uslp_counting.proofs.Stands.{Stands}
use Rattle.uslp_counting.proofs.Agrees.{Agrees}

module _ {name : Naming} {K : Channel} {width : ℕ} {managed : ManagedParameters} (S : Sender name K width managed) where
  -- the count at a place, and the frame that the reader finds there
  abbrev pub count_at : ℕ → ℕ
  count_at p = (S.start + p) % 256 ^ width

  count_fits : (p : ℕ) → count_at p < 256 ^ width
  count_fits p = mod-lt (S.start + p) (counts_positive width)

  abbrev pub sent_at : ℕ → TransferFrame
  sent_at p = frame_of (S.fields p)

  module _ (p : ℕ) (behind : List ℕ) where
    pub reads : frame_reading (frame_at S p ++ behind) managed ≡ done (sent_at p)
    reads = complete managed (S.spare p) (S.fields p) behind (S.spare_fits p) (S.well_formed p)

    same_here : same_channel (name (S.fields p).header) K ≡ true
    same_here = ap (λ (k : Channel). same_channel k K) (S.of_channel p) ∙ same_self K

    -- what is handed on where the answer is NEW
    pub handing_new : (gap : ℕ) → handing name K (frame_at S p ++ behind) (done (frame_arrival_mod.New gap (sent_at p))) ≡ handing_at S gap p ∷ []
    handing_new gap =
        ap (λ (b : Bool). cond b ((gap, sent_at p, contents_in (sent_at p) (frame_at S p ++ behind)) ∷ []) []) same_here
        ∙ ap (λ (l : List ℕ). (gap, sent_at p, l) ∷ [])
        (complete_contents managed (S.spare p) (S.fields p) behind (S.spare_fits p) (S.well_formed p))

    -- a console that names channels by `by`, which agrees on this frame
    module _ (by : Naming) (agree : Agrees name by K (hears (frame_at S p ++ behind) managed)) (r : ChannelRecord) (t : SlotState) (at : Stands K r t)
        (hi : width ≤ 7) (wide : width ≡ width_at t) where
      frame_heard : hearing_by by r (frame_at S p ++ behind) managed ≡ applied r (with_frame (sent_at p) (judging r K width (count_at p)))
      frame_heard =
          ap (λ (o : Outcome TransferFrame). applied r (and_then o (judged_by by r))) reads
          ∙ ap (λ (k : Channel). applied r (with_frame (sent_at p) (judging r k (S.fields p).header.vc_frame_count_len (S.fields p).header.vc_frame_count)))
          (same_one (by (S.fields p).header) K (agree (sent_at p) reads ∙ same_here))
          ∙ ap (λ (w : ℕ). applied r (with_frame (sent_at p) (judging r K w (S.fields p).header.vc_frame_count))) (S.of_width p)
          ∙ ap (λ (n : ℕ). applied r (with_frame (sent_at p) (judging r K width n))) (S.numbered p)

      pub arrival_done : overfull (totals_at t (count_at p)) ≡ false
          → hearing_by by r (frame_at S p ++ behind) managed
          ≡ keeping (done (frame_arrival (sent_at p) (arrival_at t (count_at p)))) (put r (find K r.slots) (Heard K width (totals_at t (count_at p))))
      arrival_done e = frame_heard ∙ ap (λ (o : Outcome (Arrival × Change)). applied r (with_frame (sent_at p) o))
          (judged_done r K width (count_at p) hi (count_fits p) at.there t at.state wide e)

      -- a hearing that does not get TOTAL_FULL, and totals that are not full
      pub room_in : Roomy name (hearing_by by) K r (hears (frame_at S p ++ behind) managed) → overfull (totals_at t (count_at p)) ≡ false
      room_in room = go (overfull (totals_at t (count_at p))) refl
        where
          go : (b : Bool) → overfull (totals_at t (count_at p)) ≡ b → b ≡ false
          go true e =
              absurd
              (room (sent_at p) reads same_here
              (ap answer_of
              (frame_heard ∙ ap (λ (o : Outcome (Arrival × Change)). applied r (with_frame (sent_at p) o))
              (judged_full r K width (count_at p) hi (count_fits p) at.there t at.state wide e))))
          go false e = refl

      pub room_out : overfull (totals_at t (count_at p)) ≡ false → Roomy name (hearing_by by) K r (hears (frame_at S p ++ behind) managed)
      room_out e x d same f = not_done (sym (sym (ap answer_of (arrival_done e)) ∙ f))

  -- p arrives after the furthest was q
  module _ (lo : 1 ≤ width) (hi : width ≤ 7) (p q last : ℕ) (is : last ≡ count_at q) where
    by_ahead : (d : ℕ) → ahead width (count_at p) (count_at q) ≡ d → arrival_of width (ahead width (count_at p) last) ≡ arrival_of width d
    by_ahead d e = ap (λ (v : ℕ). arrival_of width (ahead width (count_at p) v)) is ∙ ap (arrival_of width) e

    pub arrival_repeat : p ≡ q → arrival_of width (ahead width (count_at p) last) ≡ Repeat
    arrival_repeat e =
        let z = counts_positive width in
        by_ahead (p - q) (ahead_on width hi S.start p q (omega arith) (omega arith)) ∙ sym (arrives_again width (p - q) (omega arith))

    pub arrival_new : q < p → p ≤ q + 256 ^ width / 2 → arrival_of width (ahead width (count_at p) last) ≡ New (p - q - 1)
    arrival_new a b =
        let z = counts_positive width in
        let y = half_twice width lo in
        by_ahead (p - q) (ahead_on width hi S.start p q (omega arith) (omega arith))
        ∙ sym (arrives_new width (p - q) (λ e. omega arith) (256 ^ width) refl (omega arith))

    pub arrival_late : p < q → q < p + 256 ^ width / 2 → arrival_of width (ahead width (count_at p) last) ≡ Late
    arrival_late a b =
        let z = counts_positive width in
        let y = half_twice width lo in
        by_ahead (256 ^ width - (q - p)) (ahead_back width hi S.start p q a (omega arith))
        ∙ sym (arrives_late width (256 ^ width - (q - p)) (λ e. omega arith) (256 ^ width) refl (omega arith))
