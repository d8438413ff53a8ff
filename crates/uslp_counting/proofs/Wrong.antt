-- No hearing that has demand 3, and does not answer TOTAL_FULL on these few frames, is one of the tempting wrong ones.
use mathlib.Core.Path.{◌≡◌, refl, sym, ap, ◌∙◌}
use mathlib.Core.Bool.{Bool, true, false, cond}
use mathlib.Core.List.{List, [], ◌∷◌, ◌++◌, map}
use Prim.Native.Nat.{ℕ, ◌-◌, ◌<◌, ◌≤◌}
use native.Mathlib.Omega.{arith}
use lib.ListN.{length, length-append}
use Rattle.uslp_kinds.specs.Managed.{no_fecf}
use Rattle.uslp_kinds.specs.Outcome.{Outcome, done, refused}
use Rattle.uslp_kinds.specs.declared.ManagedParameters.{ManagedParameters}
use Rattle.uslp_reader.specs.Reader.{contents_in}
use Rattle.uslp_record.specs.Slots.{find}
use Rattle.uslp_record.specs.declared.Channel.{Channel}
use Rattle.uslp_record.specs.declared.ChannelRecord.{ChannelRecord}
use Rattle.uslp_hearing.specs.Hearing.{channel_of}
use Rattle.uslp_hearing.specs.declared.FrameArrival.{FrameArrival}
use Rattle.uslp_hearing.specs.declared.FrameArrival.TheVariants.{New, Repeat, Late}
use Rattle.uslp_counting.specs.Places.{ahead_of, leaders, Close, Window}
use Rattle.uslp_counting.specs.History.{Hearer, Handing, record_of, answer_of, is_of, handing, run, handed, Unfilled, missing_for, frame_at, call_of, handings, following, places}
use Rattle.uslp_counting.specs.History.Event.{arrives}
use Rattle.uslp_counting.specs.Demand.{Demand3}
use Rattle.uslp_counting.proofs.Lost.{lost_one}
use Rattle.uslp_counting.proofs.Witness.{craft}
use Rattle.uslp_counting.proofs.Instance.{sender, begun, was_begun, two, calls, near, lost_two}
use Rattle.uslp_counting.proofs.Mixed.{urgent, hurried}

-- an answer hands one frame on at the most
one_at_most : (K : Channel) (s : List ℕ) (o : Outcome FrameArrival) → length (handing channel_of K s o) ≤ 1
one_at_most K s (done (New gap x)) = go (is_of channel_of K x)
  where
    go : (b : Bool) → length {A = Handing} (cond b ((gap, x, contents_in x s) ∷ []) []) ≤ 1
    go true = omega arith
    go false = omega arith
one_at_most K s (done Repeat) = omega arith
one_at_most K s (done Late) = omega arith
one_at_most K s (refused k vs) = omega arith

-- the octets of the oven's frame at a place
abbrev sent : ℕ → List ℕ
sent p = frame_at sender p ++ []

module _ (H : Hearer) (demand : Demand3 channel_of H) (room : (q : ℕ) → Unfilled channel_of H craft begun (calls 0 q)) where
  -- what is missing after 0 and q comes from the places sent
  pub missing_two : (q : ℕ) → 0 < q → q ≤ 128 → missing_for craft (run channel_of H craft begun (calls 0 q)) ≡ q - 1
  missing_two q some few =
      (demand craft 1 no_fecf sender begun was_begun (two 0 q) (calls 0 q) refl (room q) (near q few)).1
      ∙ lost_two q some

  -- a hearing that changes no record: by the missing total after a gap
  pub no_still : ((r : ChannelRecord) (s : List ℕ) (f : ManagedParameters) → record_of (H r s f) ≡ r) → ⊥
  unfolding run find
  no_still still =
      let z : ◌≡◌ {A = ℕ} 0 1 = sym (ap (missing_for craft) (still _ _ _ ∙ still _ _ _)) ∙ missing_two 2 (omega arith) (omega arith) in omega arith

  -- a missing total kept at zero, or made up: by the places sent
  pub no_made_up : (m : ℕ) → ((r : ChannelRecord) (s : List ℕ) (f : ManagedParameters) → missing_for craft (record_of (H r s f)) ≡ m) → ⊥
  unfolding run
  no_made_up m made =
      let a : m ≡ 1 = sym (made _ _ _) ∙ missing_two 2 (omega arith) (omega arith) in
      let b : m ≡ 2 = sym (made _ _ _) ∙ missing_two 3 (omega arith) (omega arith) in
      omega arith

  -- one that ignores the flag, to which two frames that differ in it alone (`one_bit`) are one: by an expedited frame, of another channel
  pub no_ignorer : Unfilled channel_of H craft begun (map (call_of sender) (arrives 0 [] ∷ hurried ∷ []))
      → ((r : ChannelRecord) → record_of (H r (frame_at urgent 0 ++ []) no_fecf) ≡ record_of (H r (sent 7) no_fecf)) → ⊥
  unfolding run places leaders ahead_of Window Close
  no_ignorer roomy ignores =
      let d = (demand craft 1 no_fecf sender begun was_begun (arrives 0 [] ∷ hurried ∷ []) (map (call_of sender) (arrives 0 [] ∷ hurried ∷ [])) refl roomy (tt, tt)).1 in
      let z : ◌≡◌ {A = ℕ} 0 6 = sym (lost_one 0) ∙ sym d ∙ ap (missing_for craft) (ignores _) ∙ missing_two 7 (omega arith) (omega arith) in omega arith

  -- one that calls all later arrivals REPEAT: by the frames handed on
  pub no_repeater : ((r : ChannelRecord) → answer_of (H r (sent 2) no_fecf) ≡ done Repeat) → ⊥
  unfolding handed places leaders ahead_of handings following
  no_repeater repeats =
      let first = answer_of (H begun (sent 0) no_fecf) in
      let later = record_of (H begun (sent 0) no_fecf) in
      let h = (demand craft 1 no_fecf sender begun was_begun (two 0 2) (calls 0 2) refl (room 2) (near 2 (omega arith))).0 in
      let a = ap length h in
      let b = one_at_most craft (sent 0) first in
      let c =
      ap (λ (o : Outcome FrameArrival). length (handing channel_of craft (sent 0) first ++ (handing channel_of craft (sent 2) o ++ []))) (repeats later) in
      let d = length-append (handing channel_of craft (sent 0) first) [] in
      omega (arith, a, b, c, d)
