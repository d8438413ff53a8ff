-- What the definitions of the listing say, path by path, and how long its lines are.
use mathlib.Core.Path.{◌≡◌, refl, ap, ap₂, subst, ◌∙◌}
use Prim.Native.Nat.{ℕ, suc, ◌+◌, ◌-◌, ◌^◌, ◌<◌, ◌≤◌}
use mathlib.Core.List.{List, [], ◌∷◌, ◌++◌, append_assoc}
use native.Mathlib.Nat.{zero-add}
use native.Mathlib.Omega.{arith}
use borrow.Author.Tests.{lt-ltb, le-ltb}
use lib.ListN.{length, drop, length-append, length-drop}
use Rattle.uslp_kinds.specs.Managed.{no_fecf}
use Rattle.uslp_kinds.specs.Outcome.{done, refused, leaving}
use Rattle.uslp_primary_header.specs.Header.{len_frame}
use Rattle.uslp_reader.specs.Reader.{frame_reading}
use Rattle.uslp_reader.specs.EndToEnd.{Cut, cut, stopping}
use Rattle.uslp_reader.specs.declared.TransferFrame.{TransferFrame}
use Rattle.uslp_reader.proofs.Done.{read_done}
use Rattle.uslp_reader.proofs.EndToEnd.{nothing, cut_refused, cut_more, cut_end, stopping_refused, rest_short}
use Rattle.uslp_text.specs.Text.{decimal, Told}
use Rattle.uslp_text.proofs.Width.{decimal_short}
use Rattle.uslp_text.proofs.Telling.{told_whole}
use Rattle.uslp_listing.specs.Listing.{heading, spaced, line, summary, lines, answer_of, lines_of, listing, room, listing_over}

spaced_short : (k n : ℕ) → n < 10 ^ suc k → length (spaced n) ≤ 2 + k
spaced_short k n h = omega (arith, decimal_short k n h, length-append (decimal n) (32 ∷ []))

-- what the machine's numbers hold
pub record Small (x : TransferFrame) : Type 0 where
  pub spacecraft : x.primary_header.spacecraft_id < 65536
  pub channel : x.primary_header.vc_id < 256
  pub map : x.primary_header.map_id < 256
  pub count : x.primary_header.vc_frame_count < 2 ^ 64

-- seven words
sum_seven : (a b c d e f g : List ℕ)
    → length (a ++ (b ++ (c ++ (d ++ (e ++ (f ++ g)))))) ≡ length a + length b + length c + length d + length e + length f + length g
sum_seven a b c d e f g = simp length-append (omega arith)

pub line_short : (place : ℕ) (x : TransferFrame) → place ≤ 65536 → len_frame x.primary_header ≤ 65536 → x.data_len ≤ 65536 → Small x
    → length (line place x) ≤ 64
line_short place x h long contents k =
    let hd = x.primary_header in
    let sum = sum_seven (spaced place) (spaced (len_frame hd)) (spaced hd.spacecraft_id) (spaced hd.vc_id) (spaced hd.map_id)
    (spaced hd.vc_frame_count) (decimal x.data_len ++ (10 ∷ [])) in
    let a = spaced_short 4 place (omega arith) in
    let b = spaced_short 4 (len_frame hd) (omega arith) in
    let c = spaced_short 4 hd.spacecraft_id (omega (arith, k.spacecraft)) in
    let d = spaced_short 2 hd.vc_id (omega (arith, k.channel)) in
    let e = spaced_short 2 hd.map_id (omega (arith, k.map)) in
    let f = spaced_short 19 hd.vc_frame_count (omega (arith, k.count)) in
    let g = decimal_short 4 x.data_len (omega arith) in
    let z = length-append (decimal x.data_len) (10 ∷ []) in
    omega arith

pub summary_short : (frames place answer : ℕ) → frames ≤ 65536 → place ≤ 65536 → answer < 256 → length (summary frames place answer) ≤ 64
summary_short frames place answer h k l =
    let a = decimal_short 4 frames (omega arith) in
    let b = decimal_short 4 place (omega arith) in
    let c = decimal_short 2 answer (omega arith) in
    simp length-append (omega arith)

-- what is told of the octets s from a place on, after so many frames
unfoldable pub lines_from : ℕ → ℕ → List ℕ → List ℕ
lines_from place frames s =
    let c = cut no_fecf s in
    lines place c.frames ++ summary (frames + length c.frames) (place + (length s - length c.rest)) (answer_of (stopping no_fecf c.rest))

-- by what is cut off
lines_by : (place frames : ℕ) (s : List ℕ) {c : Cut} → cut no_fecf s ≡ c
    → lines_from place frames s
    ≡ lines place c.frames ++ summary (frames + length c.frames) (place + (length s - length c.rest)) (answer_of (stopping no_fecf c.rest))
unfolding lines_from
lines_by place frames s e =
    ap (λ (c : Cut). lines place c.frames ++ summary (frames + length c.frames) (place + (length s - length c.rest))
    (answer_of (stopping no_fecf c.rest))) e

pub lines_all : (s : List ℕ) → lines_from 0 0 s ≡ lines_of s
unfolding lines_from
lines_all s =
    let c = cut no_fecf s in
    ap₂ (λ (a b : ℕ). lines 0 c.frames ++ summary a b (answer_of (stopping no_fecf c.rest))) (zero-add (length c.frames))
    (zero-add (length s - length c.rest))

-- the lines behind a reading: at the end, at a frame, at a refusal
module _ (place frames : ℕ) where
  none : {s : List ℕ} {k : ℕ} → cut no_fecf s ≡ nothing s → answer_of (stopping no_fecf s) ≡ k → lines_from place frames s ≡ summary frames place k
  unfolding lines
  none {s} {k} c e =
      let a : frames + 0 ≡ frames = omega arith in
      let b : place + (length s - length s) ≡ place = omega arith in
      lines_by place frames s c ∙ ap (λ (n : ℕ). summary (frames + 0) (place + (length s - length s)) n) e
      ∙ ap₂ (λ (m n : ℕ). summary m n k) a b

  pub lines_end : lines_from place frames [] ≡ summary frames place 0
  lines_end = none (cut_end no_fecf) refl

  pub lines_refused : (s : List ℕ) {k : ℕ} {vs : List ℕ} → 0 < length s → frame_reading s no_fecf ≡ refused k vs
      → lines_from place frames s ≡ summary frames place k
  lines_refused s h e = none (cut_refused no_fecf s e) (ap answer_of (stopping_refused no_fecf s h e))

  pub lines_more : (s : List ℕ) (x : TransferFrame) → frame_reading s no_fecf ≡ done x
      → lines_from place frames s
      ≡ line place x ++ lines_from (place + len_frame x.primary_header) (frames + 1) (drop (len_frame x.primary_header) s)
  unfolding lines lines_from
  lines_more s x e =
      let n = len_frame x.primary_header in
      let c = cut no_fecf (drop n s) in
      let less = length-drop n s in
      let short = rest_short no_fecf (drop n s) in
      let whole = (read_done s no_fecf x e).whole in
      let a : frames + suc (length c.frames) ≡ frames + 1 + length c.frames = omega arith in
      let b : place + (length s - length c.rest) ≡ place + n + (length (drop n s) - length c.rest) = omega arith in
      lines_by place frames s (cut_more no_fecf s x e)
      ∙ append_assoc (line place x) (lines (place + n) c.frames) _
      ∙ ap₂ (λ (i j : ℕ). line place x ++ (lines (place + n) c.frames ++ summary i j (answer_of (stopping no_fecf c.rest)))) a b

-- the whole text: too long, or line by line
pub listing_long : (s : List ℕ) → 65536 < length s → listing s ≡ heading ++ summary 0 0 12
unfolding listing
listing_long s h = simp (lt-ltb 65536 (length s) h)

pub listing_lines : (s : List ℕ) → length s ≤ 65536 → listing s ≡ heading ++ lines_of s
unfolding listing
listing_lines s h = simp (le-ltb 65536 (length s) h)

-- over a buffer: below the room, or with the text over its front
module _ (s t : List ℕ) where
  pub over_short : length t < room → leaving (refused 2 (length t ∷ room ∷ [])) t ≡ listing_over s t
  unfolding listing_over
  over_short h = simp (lt-ltb (length t) room h)

  pub over_done : {end : ℕ} {text left : List ℕ} → room ≤ length t → listing s ≡ text → length text ≤ room → Told text 0 t end left
      → leaving (done end) left ≡ listing_over s t
  unfolding listing_over
  over_done h is fits p =
      let w = told_whole (omega arith) p in
      simp (le-ltb (length t) room h, is) (ap₂ (λ (n : ℕ) (x : List ℕ). leaving (done n) x) w.0 w.1)

  -- the same where the text stands on a page over that buffer, which the page leaves to its lender
  pub over_put : {end : ℕ} {text now left : List ℕ} → room ≤ length t → listing s ≡ text → length text ≤ room
      → Told text 0 t end now → now ≡ left
      → leaving (done end) left ≡ listing_over s t
  over_put {end} {text} h is fits p e = over_done h is fits (subst (λ (x : List ℕ). Told text 0 t end x) e p)
