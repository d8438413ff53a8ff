-- The page keeps its buffer, and what is told from the place on completes the text.
use Rattle.std.proofs.Common.{◌≡◌, ◌-◌, length}
use Rattle.uslp_listing.proofs.Passing.{Passed}
use Rattle.uslp_listing.proofs.Page.put_lines.Given as goal

abbrev pub invariant-loop-place : goal.invariant-loop-place
invariant-loop-place l =
    (l.self.out.ghost_name ≡ l.initial.self.out.ghost_name)
    × Passed l.recording l.initial.self.out.now l.initial.self.at l.self.at l.place l.frames l.self.out.now

abbrev pub decreases-loop-place : goal.decreases-loop-place
decreases-loop-place l = length l.recording - l.place
