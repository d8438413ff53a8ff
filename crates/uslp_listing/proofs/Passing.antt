-- The loop over the frames: what holds at a place, and how a frame, a refusal and the end carry it on.
use mathlib.Core.Path.{◌≡◌, refl, ap, sym, ◌∙◌}
use Prim.Native.Nat.{ℕ, ◌+◌, ◌-◌, ◌*◌, ◌<◌, ◌≤◌}
use mathlib.Core.List.{List, ◌++◌}
use native.Mathlib.Omega.{arith}
use lib.ListN.{length, drop, length-append, length-drop, drop_of_length-le}
use lib.Seq.{drop-drop}
use Rattle.uslp_kinds.specs.Managed.{no_fecf}
use Rattle.uslp_kinds.specs.Outcome.{done, refused}
use Rattle.uslp_primary_header.specs.Header.{len_frame}
use Rattle.uslp_reader.specs.Reader.{frame_reading}
use Rattle.uslp_reader.specs.declared.TransferFrame.{TransferFrame}
use Rattle.uslp_reader.proofs.Done.{read_done}
use Rattle.uslp_reader.proofs.EndToEnd.{frame_eight}
use Rattle.uslp_text.specs.Text.{Told}
use Rattle.uslp_text.proofs.Telling.{told_as, told_more}
use Rattle.uslp_listing.specs.Listing.{heading, line, summary, lines_of, room}
use Rattle.uslp_listing.proofs.Lines.{Small, line_short, summary_short, lines_from, lines_all, lines_end, lines_more, lines_refused}

-- the whole text is told, and has its room behind the heading
abbrev pub Complete : List ℕ → ℕ → List ℕ → ℕ → List ℕ → Type 0
Complete s start found end left = Told (lines_of s) start found end left × (length (heading ++ lines_of s) ≤ room)

-- what is told from the place on completes the whole, and the lines before it have eight characters or less for each octet passed
pub record Passed (s found : List ℕ) (start at place frames : ℕ) (left : List ℕ) : Type 0 where
  pub inside : place ≤ length s
  pub few : frames ≤ place
  pub short : length (lines_of s) ≤ 8 * place + length (lines_from place frames (drop place s))
  pub told : (end : ℕ) (last : List ℕ) → Told (lines_from place frames (drop place s)) at left end last → Told (lines_of s) start found end last

pub passed_none : (s found : List ℕ) (start : ℕ) → Passed s found start start 0 0 found
passed_none s found start =
    record {
      inside = omega arith;
      few = omega arith;
      short = omega (arith, ap length (lines_all s));
      told = λ (end : ℕ) (last : List ℕ) (q : Told (lines_from 0 0 s) start found end last). told_as (lines_all s) q;
    }

module _ {s found left : List ℕ} {start at place frames : ℕ} (long : length s ≤ 65536) (p : Passed s found start at place frames left) where
  pub passed_more : {n end : ℕ} {last : List ℕ} (x : TransferFrame) → place < length s → frame_reading (drop place s) no_fecf ≡ done x → Small x
      → n ≡ len_frame x.primary_header → Told (line place x) at left end last → Passed s found start end (place + n) (frames + 1) last
  passed_more {n} {end} {last} x h read small e a =
      let eight = frame_eight (drop place s) no_fecf read in
      let r = read_done (drop place s) no_fecf x read in
      let left_over = length-drop place s in
      let inside : len_frame x.primary_header ≤ length s - place = omega (arith, r.whole) in
      let contents : x.data_len ≤ 65536 = omega (arith, ap (λ (y : TransferFrame). y.data_len) r.frame) in
      let short = line_short place x (omega arith) (omega arith) contents small in
      let next : List ℕ = lines_from (place + n) (frames + 1) (drop (place + n) s) in
      let l : lines_from place frames (drop place s) ≡ line place x ++ next =
      lines_more place frames (drop place s) x read ∙ rw (drop-drop (len_frame x.primary_header) place s, sym e) refl in
      record {
        inside = omega arith;
        few = omega (arith, p.few);
        short = omega (arith, p.short, ap length l, length-append (line place x) next);
        told = λ (stop : ℕ) (final : List ℕ) (q : Told next end last stop final). p.told stop final (told_as (sym l) (told_more a q));
      }

  -- the summary that is the rest of the text ends it
  ended : {k end : ℕ} {last : List ℕ} → k < 256 → lines_from place frames (drop place s) ≡ summary frames place k
      → Told (summary frames place k) at left end last → Complete s start found end last
  ended {k} {end} {last} small l a =
      let short = summary_short frames place k (omega (arith, p.few, p.inside)) (omega (arith, p.inside)) small in
      (p.told end last (told_as (sym l) a), omega (arith, p.short, p.inside, ap length l))

  pub passed_refused : {k end : ℕ} {vs last : List ℕ} → place < length s → k < 256 → frame_reading (drop place s) no_fecf ≡ refused k vs
      → Told (summary frames place k) at left end last → Complete s start found end last
  passed_refused h small read a =
      ended small (lines_refused place frames (drop place s) (omega (arith, length-drop place s)) read) a

  pub passed_all : {end : ℕ} {last : List ℕ} → length s ≤ place → Told (summary frames place 0) at left end last → Complete s start found end last
  passed_all h a =
      ended (omega arith) (ap (lines_from place frames) (drop_of_length-le s {i = place} h) ∙ lines_end place frames) a
