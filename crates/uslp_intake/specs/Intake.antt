-- The intake (docs/RULES.md, section 5.3): what a call answers, and what it leaves in the holding buffer.
use Rattle.std.specs.Prelude.{ℕ, suc, ◌+◌, cond, List, [], ◌∷◌, ◌++◌, length, take, drop, ltb, eqb, Result, Ok, Err}
use Rattle.uslp_kinds.specs.Outcome.{Outcome, done, refused, Written, only_if_done, first_of}
use Rattle.uslp_kinds.specs.Answers.{refusal_number, carried, refusal, short}
use Rattle.uslp_kinds.specs.declared.ManagedParameters.{ManagedParameters}
use Rattle.uslp_kinds.specs.declared.Refusal.{Refusal}
use Rattle.uslp_reader.specs.Reader.{frame_reading}
use Rattle.uslp_reader.specs.declared.TransferFrame.{TransferFrame}
use Rattle.uslp_intake.specs.declared.IntakeAnswer.{IntakeAnswer}
use Rattle.uslp_intake.specs.declared.IntakeAnswer.TheVariants as intake_answer

-- WAITING, with the octets of the block that were taken and those now held; FRAME, with the octets taken and what the reader found, nothing is held
-- then; STOPPED, with the octets taken, those held, and the reader's refusal
pub data Intake : Type 0 where
  waiting : ℕ → ℕ → Intake
  frame : ℕ → TransferFrame → Intake
  stopped : ℕ → ℕ → ℕ → List ℕ → Intake

abbrev pub paper_intake : Result IntakeAnswer Refusal → Outcome Intake
paper_intake (Ok (intake_answer.Waiting taken held)) = done (waiting taken held)
paper_intake (Ok (intake_answer.Frame taken x)) = done (frame taken x)
paper_intake (Ok (intake_answer.Stopped taken held r)) = done (stopped taken held (refusal_number r) (carried r))
paper_intake (Err r) = refusal r

-- how many octets of its block a call took, and how many are held after it, of so many before it
abbrev pub taken_by : Outcome Intake → ℕ
taken_by (done (waiting taken held)) = taken
taken_by (done (frame taken x)) = taken
taken_by (done (stopped taken held k vs)) = taken
taken_by (refused k vs) = 0

abbrev pub held_by : ℕ → Outcome Intake → ℕ
held_by before (done (waiting taken held)) = held
held_by before (done (frame taken x)) = 0
held_by before (done (stopped taken held k vs)) = held
held_by before (refused k vs) = before

-- how many octets of a block are taken behind those held: one more as long as the reader's answer is SHORT_SOURCE
unfoldable pub taking : ManagedParameters → List ℕ → List ℕ → ℕ
taking managed held [] = 0
taking managed held (o ∷ block) = cond (short (frame_reading held managed)) (suc (taking managed (held ++ o ∷ []) block)) 0

-- what is then held
abbrev pub gathered : ManagedParameters → List ℕ → List ℕ → List ℕ
gathered managed held block = held ++ take (taking managed held block) block

-- and what the reader says of it: a frame is given out, SHORT_SOURCE waits, any other refusal stops
abbrev pub deciding : Outcome TransferFrame → ℕ → ℕ → Intake
deciding (done x) taken held = frame taken x
deciding (refused k vs) taken held = cond (eqb k 1) (waiting taken held) (stopped taken held k vs)

-- a call over the octets s of the holding buffer: 10 for a held number above 65,536, then 2 for a buffer below it; the octets behind those that
-- are then held stay
unfoldable pub intaking : ManagedParameters → List ℕ → ℕ → List ℕ → Written Intake
intaking managed s held block =
    let n = taking managed (take held s) block in
    let kept = gathered managed (take held s) block in
    only_if_done
    (first_of
    ((ltb 65536 held, refused 10 []) ∷ (ltb (length s) 65536, refused 2 (length s ∷ 65536 ∷ [])) ∷ [])
    (done (deciding (frame_reading kept managed) n (held + n))))
    (kept ++ drop (held + n) s)
    s
