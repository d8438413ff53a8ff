-- The promises of `uslp_intake` settle each call, and shut out wrong intakes, each of every buffer, held number, block and managed parameters.
use mathlib.Core.Path.{◌≡◌, refl, ap, sym, ◌∙◌}
use mathlib.Core.Bool.{true, false}
use mathlib.Core.List.{List, [], ◌∷◌, ◌++◌}
use Prim.Native.Nat.{ℕ, ◌+◌, ◌≤◌}
use native.Mathlib.Omega.{arith}
use lib.ListN.{length, take}
use Rattle.uslp_octets.specs.Octets.{AreOctets}
use Rattle.uslp_kinds.specs.Managed.{no_fecf}
use Rattle.uslp_kinds.specs.Outcome.{Outcome, done, refused, leaving}
use Rattle.uslp_kinds.specs.Answers.{short}
use Rattle.uslp_kinds.specs.declared.ManagedParameters.{ManagedParameters}
use Rattle.std.specs.Prelude.{Result, Ok, Err}
use Rattle.uslp_kinds.specs.declared.Refusal.{Refusal}
use Rattle.uslp_kinds.specs.declared.Refusal.TheVariants.{Truncated}
use Rattle.uslp_kinds.proofs.Back.{refusal_of, refusal_back, one_to_one, leaving_one}
use Rattle.uslp_primary_header.specs.Header.{len_frame, header_reading}
use Rattle.uslp_data_field_header.specs.Field.{field_reading}
use Rattle.uslp_reader.specs.Reader.{frame_reading}
use Rattle.uslp_reader.specs.declared.TransferFrame.{TransferFrame}
use Rattle.uslp_roundtrip.specs.Samples.{octets_f, read_f}
use Rattle.uslp_intake.specs.Intake.{Intake, waiting, frame, stopped, paper_intake, taken_by, taking}
use Rattle.uslp_intake.specs.declared.IntakeAnswer.{IntakeAnswer}
use Rattle.uslp_intake.specs.declared.IntakeAnswer.TheVariants.{Waiting, Frame, Stopped}
use Rattle.uslp_intake.proofs as intake
use Rattle.uslp_intake.proofs.Steps.{intaking_done}
use Rattle.uslp_cutting.specs.Offering as cutting
use Rattle.uslp_intake.proofs.Calls.{takes_least, takes_none, wait_short}
use Rattle.uslp_cutting.proofs.Calls.{frame_whole}
use Rattle.uslp_demands.specs.Promise.{Function, function, at, at_mut, Allows, Settles}
use Rattle.uslp_demands.proofs.Alike.{alike}

-- the functions, each with its promise
abbrev pub fn_take_block : Function
fn_take_block = function intake.take_block.Kinds.ps intake.take_block.Kinds.r intake.take_block.Reads.Pre intake.take_block.Reads.Learnt

abbrev fn_taken : Function
fn_taken =
    function intake.taken_by.Kinds.ps intake.taken_by.Kinds.r
    intake.taken_by.Reads.Pre intake.taken_by.Reads.Learnt

abbrev fn_held : Function
fn_held =
    function intake.held_by.Kinds.ps intake.held_by.Kinds.r
    intake.held_by.Reads.Pre intake.held_by.Reads.Learnt

-- the way back from an answer on paper
abbrev back_intake : Outcome Intake → Result IntakeAnswer Refusal
back_intake (done (waiting n m)) = Ok (Waiting n m)
back_intake (done (frame n x)) = Ok (Frame n x)
back_intake (done (stopped n m k vs)) = Ok (Stopped n m (refusal_of k vs))
back_intake (refused k vs) = Err (refusal_of k vs)

intake_back : (r : Result IntakeAnswer Refusal) → back_intake (paper_intake r) ≡ r
intake_back (Ok (Waiting n m)) = refl
intake_back (Ok (Frame n x)) = refl
intake_back (Ok (Stopped n m r)) = ap (λ (q : Refusal). Ok (Stopped n m q)) (refusal_back r)
intake_back (Err r) = ap Err (refusal_back r)

pub take_block_settles : Settles fn_take_block
take_block_settles = record {
  total = λ κs a. tt;
  same = λ κs a x y s t.
      let e = leaving_one (s ∙ sym t) in
      alike (one_to_one paper_intake back_intake intake_back {x = x.0} {y = y.0} e.0) (λ i. (e.1 i, (tt, (tt, (tt, tt)))));
}

-- the promise allows this answer, and these octets of the holding buffer after it
abbrev pub Takes : List ℕ → ℕ → List ℕ → ManagedParameters → Result IntakeAnswer Refusal → List ℕ → Type 0
Takes s held block managed a left = Allows fn_take_block ([], ([], tt)) (at_mut s, (held, (at block, (managed, tt)))) (a, (left, (tt, (tt, (tt, tt)))))

module _ (s : List ℕ) (held : ℕ) (block : List ℕ) (managed : ManagedParameters) (a : Result IntakeAnswer Refusal) (left : List ℕ) (e : Takes s held block managed a left) where
  -- taking the whole block: where octets of its front decide, no more than these are taken
  pub take_block_whole : (m : ℕ) → short (frame_reading (take held s ++ take m block) managed) ≡ false → taken_by (paper_intake a) ≤ m
  take_block_whole = takes_least managed s held block left (paper_intake a) (sym e)

  -- reading on after a stop: where what is held decides, nothing is taken and nothing written
  pub take_block_on : short (frame_reading (take held s) managed) ≡ false → (taken_by (paper_intake a) ≡ 0) × (left ≡ s)
  take_block_on = takes_none managed s held block left (paper_intake a) (sym e)

  -- giving a frame out one octet late, or early
  pub take_block_late : cutting.NoFrameYet managed s held → AreOctets block → (n : ℕ) (x : TransferFrame) → a ≡ Ok (Frame n x)
      → held + n ≡ len_frame x.primary_header
  take_block_late w oct n x f = (frame_whole managed s held block left w oct (sym e ∙ ap (λ (b : Result IntakeAnswer Refusal). leaving (paper_intake b) left) f)).0

  -- waiting on what the reader refuses otherwise, or gives out
  pub take_block_waits : (n m : ℕ) → a ≡ Ok (Waiting n m) → short (frame_reading (take m left) managed) ≡ true
  take_block_waits n m f = wait_short managed s held block left (sym e ∙ ap (λ (b : Result IntakeAnswer Refusal). leaving (paper_intake b) left) f)

-- so of frame F with an octet behind it, eleven octets at the most are taken, whatever the buffer
pub take_block_greedy : (s : List ℕ) (a : Result IntakeAnswer Refusal) (left : List ℕ) → Takes s 0 (octets_f ++ 0 ∷ []) no_fecf a left → taken_by (paper_intake a) ≡ 12 → ⊥
unfolding frame_reading header_reading field_reading
take_block_greedy s a left e h = omega (arith, take_block_whole s 0 (octets_f ++ 0 ∷ []) no_fecf a left e 11 refl, h)

-- dropping what was held at a wait is shut out by `wait_kept` (Demand1.antt). Waiting on a truncated frame of four octets: it stops, whatever the buffer
pub take_block_truncated : (s : List ℕ) → 65536 ≤ length s → (managed : ManagedParameters) (a : Result IntakeAnswer Refusal) (left : List ℕ)
    → Takes s 0 (0xC1 ∷ 0x23 ∷ 0x48 ∷ 0xA7 ∷ []) managed a left → a ≡ Ok (Stopped 4 4 Truncated)
unfolding taking frame_reading header_reading
take_block_truncated s room managed a left e =
    one_to_one paper_intake back_intake intake_back (leaving_one (e ∙ intaking_done managed s 0 (0xC1 ∷ 0x23 ∷ 0x48 ∷ 0xA7 ∷ []) room (omega arith))).0

pub taken_settles : Settles fn_taken
taken_settles = record { total = λ κs a. tt; same = λ κs a x y s t. alike (s ∙ sym t) refl }

-- none for a frame; those held for those taken
pub taken_none : (n m : ℕ) → Allows fn_taken tt (Ok (Frame (n + 1) read_f), tt) (m, (tt, tt)) → m ≡ 0 → ⊥
taken_none n m e h = omega (arith, e, h)

pub taken_held : Allows fn_taken tt (Ok (Waiting 1 4), tt) (4, (tt, tt)) → ⊥
taken_held e = omega (arith, e)

pub held_settles : Settles fn_held
held_settles = record { total = λ κs a. tt; same = λ κs a x y s t. alike (s ∙ sym t) refl }

-- a frame that is still held after it was given out; a refused call that drops what was held
pub held_frame : Allows fn_held tt (0, (Ok (Frame 11 read_f), tt)) (11, (tt, (tt, tt))) → ⊥
held_frame e = omega (arith, e)

pub held_refused : Allows fn_held tt (5, (Err Truncated, tt)) (0, (tt, (tt, tt))) → ⊥
held_refused e = omega (arith, e)
