-- The promise of `uslp_end_to_end` settles its call, and shuts out wrong ones: three of every record, octets and managed parameters, one on a frame.
use mathlib.Core.Path.{◌≡◌, refl, sym, ap, ◌∙◌}
use mathlib.Core.List.{List, []}
use Prim.Native.Nat.{ℕ, ◌≤◌}
use native.Mathlib.Omega.{arith}
use lib.ListN.{drop}
use Rattle.uslp_kinds.specs.Managed.{no_fecf}
use Rattle.uslp_kinds.specs.Outcome.{done, refused}
use Rattle.uslp_kinds.specs.declared.ManagedParameters.{ManagedParameters}
use Rattle.uslp_primary_header.specs.Header.{header_reading}
use Rattle.uslp_data_field_header.specs.Field.{field_reading}
use Rattle.uslp_reader.specs.Reader.{frame_reading}
use Rattle.uslp_reader.specs.EndToEnd.{cut_up_to}
use Rattle.uslp_reader.specs.declared.TransferFrame.{TransferFrame}
use Rattle.uslp_record.specs.Slots.{find}
use Rattle.uslp_record.specs.Judging.{judging}
use Rattle.uslp_record.specs.declared.ChannelRecord.{ChannelRecord}
use Rattle.uslp_end_to_end.specs.Many.{no_frames, hearings, KeptMany, many_hearing}
use Rattle.uslp_end_to_end.specs.declared.ManyHearing.{ManyHearing}
use Rattle.uslp_end_to_end.proofs.Stops.{no_frame_there, stop_up_to, refused_first}
use Rattle.uslp_end_to_end.proofs as many
use Rattle.uslp_demands.specs.Promise.{Function, function, at, Allows, Settles}
use Rattle.uslp_roundtrip.specs.Samples.{octets_f}
use Rattle.uslp_demands.proofs.Alike.{alike, done_alike}
use Rattle.uslp_demands.proofs.OfRecord.{full}
use Rattle.uslp_kinds.specs.Answers.{paper}

-- the function with its promise
abbrev pub fn_hear_many : Function
fn_hear_many = function many.hear_many.Kinds.ps many.hear_many.Kinds.r many.hear_many.Reads.Pre many.hear_many.Reads.Learnt

pub hear_many_settles : Settles fn_hear_many
hear_many_settles = record {
  total = λ κs a. tt;
  same = λ κs a x y s t.
      let e = s ∙ sym t in
      alike
      (λ i. record {
        place = ap (λ (q : KeptMany). q.place) e i;
        tally = ap (λ (q : KeptMany). q.counted) e i;
        stop = done_alike {x = x.0.stop} {y = y.0.stop} (ap (λ (q : KeptMany). q.stop) e) i;
        next = ap (λ (q : KeptMany). q.next) e i;
      })
      refl;
}

-- the promise allows this outcome
abbrev Comes : ChannelRecord → List ℕ → ManagedParameters → ManyHearing → Type 0
Comes r s managed a = Allows fn_hear_many ([], tt) (r, (at s, (managed, tt))) (a, (tt, (tt, (tt, tt))))

module _ (r : ChannelRecord) (s : List ℕ) (managed : ManagedParameters) (a : ManyHearing) (e : Comes r s managed a) where
  -- stopping at 13, 14 or 17: what stops it is a refusal of the reader
  pub hear_many_stops : (k : ℕ) (vs : List ℕ) → paper a.stop ≡ refused k vs → k ≤ 7
  hear_many_stops k vs h = stop_up_to managed s r (sym (ap (λ (q : KeptMany). q.stop) e) ∙ h)

  -- a stopping place one frame early: a frame would stand there
  pub hear_many_early : (x : TransferFrame) → frame_reading (drop a.place s) managed ≡ done x → ⊥
  hear_many_early x h =
      no_frame_there managed s r (ap (λ (q : KeptMany). frame_reading (drop q.place s) managed) (sym e) ∙ h)

  -- going on past a refusal of the reader: nothing is heard of what stands behind it
  pub hear_many_past : (k : ℕ) (vs : List ℕ) → frame_reading s managed ≡ refused k vs → (a.place ≡ 0) × (a.tally ≡ no_frames) × (a.next ≡ r)
  hear_many_past k vs h =
      let q = refused_first managed s r h in
      (ap (λ (q : KeptMany). q.place) e ∙ q.0, ap (λ (q : KeptMany). q.counted) e ∙ q.1, ap (λ (q : KeptMany). q.next) e ∙ q.2)

-- counting a 17 as NEW, where a total of frame F's channel is full
pub hear_many_full : (a : ManyHearing) → Comes full octets_f no_fecf a → a.tally.new ≡ 1 → ⊥
unfolding many_hearing hearings cut_up_to frame_reading header_reading field_reading judging find
hear_many_full a e h = let z : ◌≡◌ {A = ℕ} 0 1 = sym (ap (λ (q : KeptMany). q.counted.new) e) ∙ h in omega arith
