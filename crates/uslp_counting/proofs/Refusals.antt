-- A call that is refused changes no record.
use mathlib.Core.Path.{◌≡◌, refl, sym}
use mathlib.Core.List.{List}
use Prim.Native.Nat.{ℕ}
use Rattle.uslp_kinds.specs.Outcome.{refused}
use Rattle.uslp_kinds.proofs.Outcomes.{not_done}
use Rattle.uslp_kinds.specs.declared.ManagedParameters.{ManagedParameters}
use Rattle.uslp_record.specs.Record.{Kept, opening, closing}
use Rattle.uslp_record.specs.declared.Channel.{Channel}
use Rattle.uslp_record.specs.declared.ChannelRecord.{ChannelRecord}
use Rattle.uslp_hearing.specs.Hearing.{channel_of, frame_hearing}
use Rattle.uslp_counting.specs.History.{record_of, answer_of}
use Rattle.uslp_record.proofs.Ways.{opening_ways, closing_ways}
use Rattle.uslp_hearing.proofs.Ways.{frame_ways}

module _ (r : ChannelRecord) (k : ℕ) (vs : List ℕ) where
  abbrev Unchanged : {A : Type 0} → Kept A → Type 0
  Unchanged q = answer_of q ≡ refused k vs → record_of q ≡ r

  pub hearing_refused : (s : List ℕ) (managed : ManagedParameters) → answer_of (frame_hearing r s managed) ≡ refused k vs
      → record_of (frame_hearing r s managed) ≡ r
  hearing_refused s managed = frame_ways channel_of Unchanged r s managed (λ j ws e. refl) (λ x d g e. absurd (not_done (sym e)))

  module _ (c : Channel) where
    pub opening_refused : (w : ℕ) → answer_of (opening r c w) ≡ refused k vs → record_of (opening r c w) ≡ r
    opening_refused w = opening_ways r c Unchanged w (λ j ws e. refl) (λ o e. absurd (not_done (sym e)))

    pub closing_refused : answer_of (closing r c) ≡ refused k vs → record_of (closing r c) ≡ r
    closing_refused = closing_ways r c Unchanged (λ j ws e. refl) (λ low e. absurd (not_done (sym e)))
