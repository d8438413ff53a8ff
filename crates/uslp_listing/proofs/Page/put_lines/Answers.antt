-- A frame, a refusal and the end of the recording, each by its step of `Passing`.
use Rattle.std.proofs.Common.{◌≡◌, ◌-◌, refl, ap, sym, ◌∙◌, ℕ, List, arith, length, take, drop}
use Rattle.uslp_kinds.specs.Managed.{no_fecf}
use Rattle.uslp_kinds.specs.Outcome.{Outcome}
use Rattle.uslp_reader.specs.Reader.{frame_reading}
use Rattle.uslp_reader.specs.declared.TransferFrame.{TransferFrame}
use Rattle.uslp_reader.proofs.Parts.{rest_part}
use Rattle.uslp_text.proofs.Telling.{told_as}
use Rattle.uslp_listing.specs.Listing.{summary}
use Rattle.uslp_listing.proofs.Passing.{passed_none, passed_more, passed_refused, passed_all}
use Rattle.uslp_listing.proofs.Page.put_lines.Goals as goal

-- an answer to the reading at the place names what stands there
answered : (s : List ℕ) (place : ℕ) {o : Outcome TransferFrame} → o ≡ frame_reading (take (length s - place) (drop place s)) no_fecf
    → frame_reading (drop place s) no_fecf ≡ o
answered s place e = ap (λ (t : List ℕ). frame_reading t no_fecf) (sym (rest_part s place place refl)) ∙ sym e

pub loop-place-init : goal.loop-place-init
loop-place-init c = (refl, passed_none _ _ _)

pub loop-place-preserved : goal.loop-place-preserved
loop-place-preserved c =
    let i = c.loop-place.invariant in (
      c.put_line.ensures.same_out ∙ i.0,
      passed_more c.requires i.1 c.in-Ok.frame (omega arith)
          (answered c.args.recording.now c.loop-place.place c.in-Ok.ensures)
          (record { spacecraft = omega arith; channel = omega arith; map = omega arith; count = omega arith })
          c.len_frame-place.ensures
          c.put_line.ensures.told,
    )

pub returns-in-Err : goal.returns-in-Err
returns-in-Err c =
    let l = c.loop-place in
    let whole = passed_refused c.requires l.invariant.1 (omega arith) (omega (arith, c.number.ensures))
    (answered c.args.recording.now l.place c.in-Err.ensures)
    (told_as (ap (summary l.frames l.place) c.number.ensures) c.put_summary.ensures.told) in
    record { added = record { same_out = c.put_summary.ensures.same_out ∙ l.invariant.0; told = whole.0 }; recording_len_bound = whole.1 }

pub returns : goal.returns
returns c =
    let whole = passed_all c.requires c.loop-place.invariant.1 (omega arith) c.put_summary-2.ensures.told in
    let same = c.put_summary-2.ensures.same_out ∙ c.loop-place.invariant.0 in
    record { added = record { same_out = same; told = whole.0 }; recording_len_bound = whole.1 }
