-- Hearing frames end to end (docs/RULES.md, section 6.7): one at a time, over what their lengths cut off.
use Rattle.std.specs.Prelude.{ℕ, ◌+◌, ◌-◌, ◌*◌, ◌^◌, ◌<◌, ◌≤◌, cond, List, [], ◌∷◌, eqb, length}
use Rattle.uslp_kinds.specs.Outcome.{Outcome, done, refused}
use Rattle.uslp_kinds.specs.declared.ManagedParameters.{ManagedParameters}
use Rattle.uslp_reader.specs.EndToEnd.{cut, stopping}
use Rattle.uslp_reader.specs.declared.TransferFrame.{TransferFrame}
use Rattle.uslp_record.specs.Record.{Kept, keeping, most}
use Rattle.uslp_record.specs.declared.ChannelRecord.{ChannelRecord}
use Rattle.uslp_hearing.specs.Hearing.{frame_hearing}
use Rattle.uslp_hearing.specs.declared.FrameArrival.{FrameArrival}
use Rattle.uslp_hearing.specs.declared.FrameArrival.TheVariants.{New, Repeat, Late}
use Rattle.uslp_end_to_end.specs.declared.Tally.{Tally}
use Rattle.uslp_end_to_end.specs.declared.ManyHearing.{ManyHearing}
use Rattle.uslp_kinds.specs.Answers.{paper}

-- NEW, the sum of their gaps, REPEAT, LATE, 13, 14, 17
abbrev pub tally : ℕ → ℕ → ℕ → ℕ → ℕ → ℕ → ℕ → Tally
tally a b c d e f g =
    record { new = a; missing = b; repeats = c; late = d; not_open = e; other_width = f; total_full = g }

abbrev pub no_frames : Tally
no_frames = tally 0 0 0 0 0 0 0

-- the tally of one answer to a hearing
abbrev pub tally_of : Outcome FrameArrival → Tally
tally_of (done (New gap x)) = tally 1 gap 0 0 0 0 0
tally_of (done Repeat) = tally 0 0 1 0 0 0 0
tally_of (done Late) = tally 0 0 0 1 0 0 0
tally_of (refused k vs) = tally 0 0 0 0 (cond (eqb k 13) 1 0) (cond (eqb k 14) 1 0) (cond (eqb k 17) 1 0)

abbrev pub plus : Tally → Tally → Tally
plus s t =
    tally (s.new + t.new) (s.missing + t.missing) (s.repeats + t.repeats) (s.late + t.late)
    (s.not_open + t.not_open) (s.other_width + t.other_width) (s.total_full + t.total_full)

-- a hearing after others: what it answers is counted, and the record is the one that it leaves
abbrev pub added_to : Tally → Kept FrameArrival → Tally × ChannelRecord
added_to t (keeping o r) = (plus t (tally_of o), r)

-- one hearing after the other, each of a frame's own octets
unfoldable pub hearings : ManagedParameters → List (TransferFrame × List ℕ) → Tally → ChannelRecord → Tally × ChannelRecord
hearings managed [] t r = (t, r)
hearings managed (f ∷ fs) t r =
    let q = added_to t (frame_hearing r f.1 managed) in
    hearings managed fs q.0 q.1

-- what the call leaves: the place reached, the tally, why it stopped there, and the record
pub record KeptMany : Type 0 where
  pub place : ℕ
  pub counted : Tally
  pub stop : Outcome (Unit {0})
  pub next : ChannelRecord

abbrev pub paper_many : ManyHearing → KeptMany
paper_many r = record { place = r.place; counted = r.tally; stop = paper r.stop; next = r.next }

unfoldable pub many_hearing : ChannelRecord → List ℕ → ManagedParameters → KeptMany
many_hearing r s managed =
    let c = cut managed s in
    let q = hearings managed c.frames no_frames r in
    record { place = length s - length c.rest; counted = q.0; stop = stopping managed c.rest; next = q.1 }

-- a tally to which another frame can be added in the machine's numbers
pub record Small (t : Tally) : Type 0 where
  pub new : t.new + 1 < 2 ^ 64
  pub missing : t.missing ≤ 8 * most
  pub repeats : t.repeats + 1 < 2 ^ 64
  pub late : t.late + 1 < 2 ^ 64
  pub not_open : t.not_open + 1 < 2 ^ 64
  pub other_width : t.other_width + 1 < 2 ^ 64
  pub total_full : t.total_full + 1 < 2 ^ 64
