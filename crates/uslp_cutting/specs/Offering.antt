-- Blocks offered one after the other (docs/RULES.md, section 5.3): what the calls give out, where they stop, and what is still held.
use Rattle.std.specs.Prelude.{◌≡◌, ℕ, ◌+◌, ◌-◌, ◌≤◌, true, cond, List, [], ◌∷◌, ◌++◌, eqb, length, take, drop}
use Rattle.uslp_octets.specs.Octets.{AreOctets}
use Rattle.uslp_kinds.specs.Outcome.{Outcome, done, refused, Written, leaving}
use Rattle.uslp_kinds.specs.Answers.{short}
use Rattle.uslp_kinds.specs.declared.ManagedParameters.{ManagedParameters}
use Rattle.uslp_reader.specs.Reader.{frame_reading}
use Rattle.uslp_reader.specs.EndToEnd.{cut}
use Rattle.uslp_reader.specs.declared.TransferFrame.{TransferFrame}
use Rattle.uslp_intake.specs.Intake.{Intake, waiting, frame, stopped, taking, intaking}

-- the blocks end while the intake waits; it stops with the reader's refusal; or a call is refused
pub data Ending : Type 0 where
  blocks_end : Ending
  stops : ℕ → List ℕ → Ending
  refuses : ℕ → List ℕ → Ending

-- the frames given out, each with its octets; how many octets were taken in all, which is the stopping place; how it ended; the octets still held
pub record Passage : Type 0 where
  pub frames : List (TransferFrame × List ℕ)
  pub place : ℕ
  pub ending : Ending
  pub held : List ℕ

abbrev pub ended : ℕ → Ending → List ℕ → Passage
ended n e s = record { frames = []; place = n; ending = e; held = s }

-- so many octets taken before, and a frame given out before
abbrev pub after : ℕ → Passage → Passage
after n p = record { frames = p.frames; place = n + p.place; ending = p.ending; held = p.held }

abbrev pub behind : TransferFrame × List ℕ → Passage → Passage
behind x p = record { frames = x ∷ p.frames; place = p.place; ending = p.ending; held = p.held }

-- a call, as far as its answer and the octets that it leaves go: managed parameters, octets of the holding buffer, number held, block
abbrev pub Call : Type 0
Call = ManagedParameters → List ℕ → ℕ → List ℕ → Written Intake

-- one that keeps the intake's promise
abbrev pub Promised : Call → Type 0
Promised call = (managed : ManagedParameters) (s : List ℕ) (held : ℕ) (block : List ℕ) → call managed s held block ≡ intaking managed s held block

-- from a holding buffer s with so many octets held, a caller who offers these blocks comes to this passage: behind a wait comes the next block,
-- behind a frame the rest of the same block with nothing held, and behind a stop or a refusal nothing more
module _ (call : Call) (managed : ManagedParameters) where
  pub data Offered : List ℕ → ℕ → List (List ℕ) → Passage → Type 0 where
    no_more : {s : List ℕ} {held : ℕ} → Offered s held [] (ended 0 blocks_end (take held s))
    waits_on : {s t block : List ℕ} {held n m : ℕ} {blocks : List (List ℕ)} {p : Passage} → call managed s held block ≡ leaving (done (waiting n m)) t
        → Offered t m blocks p → Offered s held (block ∷ blocks) (after n p)
    gives_out : {s t block : List ℕ} {held n : ℕ} {x : TransferFrame} {blocks : List (List ℕ)} {p : Passage}
        → call managed s held block ≡ leaving (done (frame n x)) t → Offered t 0 (drop n block ∷ blocks) p
        → Offered s held (block ∷ blocks) (after n (behind (x, take (held + n) t) p))
    stops_at : {s t block : List ℕ} {held n m k : ℕ} {vs : List ℕ} {blocks : List (List ℕ)} → call managed s held block ≡ leaving (done (stopped n m k vs)) t
        → Offered s held (block ∷ blocks) (ended n (stops k vs) (take m t))
    is_refused : {s t block : List ℕ} {held k : ℕ} {vs : List ℕ} {blocks : List (List ℕ)} → call managed s held block ≡ leaving (refused k vs) t
        → Offered s held (block ∷ blocks) (ended 0 (refuses k vs) (take held t))

-- the one block made of all
abbrev pub one_block : List (List ℕ) → List ℕ
one_block [] = []
one_block (block ∷ blocks) = block ++ one_block blocks

-- a holding buffer of which so many octets are held, that are no frame yet: so every wait leaves it, and with nothing held so it begins
pub record NoFrameYet (managed : ManagedParameters) (s : List ℕ) (held : ℕ) : Type 0 where
  pub room : 65536 ≤ length s
  pub few : held ≤ 65536
  pub octets : AreOctets (take held s)
  pub undecided : short (frame_reading (take held s) managed) ≡ true

-- by the reader's answer to what is left, which is never a frame
abbrev pub ending_of : Outcome TransferFrame → Ending
ending_of (done x) = blocks_end
ending_of (refused k vs) = cond (eqb k 1) blocks_end (stops k vs)

-- the passage of octets in one piece: the frames that their lengths cut off (section 5.1), and of what is left as many octets as decide, or all
abbrev pub passage : ManagedParameters → List ℕ → Passage
passage managed s =
    let c = cut managed s in
    let n = taking managed [] c.rest in
    record { frames = c.frames; place = length s - length c.rest + n; ending = ending_of (frame_reading c.rest managed); held = take n c.rest }
