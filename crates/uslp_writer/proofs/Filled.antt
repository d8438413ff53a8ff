-- Reserving, filling the data area and finishing is writing the frame.
use mathlib.Core.Path.{◌≡◌, refl, ap, sym, ◌∙◌}
use Prim.Native.Nat.{ℕ, ◌+◌, ◌≤◌, min}
use mathlib.Core.List.{List, ◌++◌, append_assoc}
use native.Mathlib.Omega.{arith}
use lib.ListN.{length, take, drop, length-append, length-drop}
use lib.Seq.{length-take-le, take_at, drop_at}
use Rattle.uslp_kinds.specs.Outcome.{Outcome, done, refused, Written, leaving}
use Rattle.uslp_kinds.proofs.Back.{leaving_one}
use Rattle.uslp_data_field_header.specs.Field.{field_checking}
use Rattle.uslp_layout.specs.Layout.{data_start, ocf_octets, body}
use Rattle.uslp_writer.specs.Frame.{total, fields_of, header_octets, frame_octets, frame_writing}
use Rattle.uslp_writer.specs.Reserved.{reservation, reserved_octets, reserving, claimed, finish_length, finishing, filled, filling, in_turn}
use Rattle.uslp_writer.specs.declared.TransferFrameCreator.{TransferFrameCreator}
use Rattle.uslp_writer.specs.declared.TransferFrameCreatorWithReservedData.{TransferFrameCreatorWithReservedData}
use Rattle.uslp_writer.proofs.Flags.{total_parts}
use Rattle.uslp_writer.proofs.Lengths.{Ready}
use Rattle.uslp_writer.proofs.Headers.{length_headers}
use Rattle.uslp_writer.proofs.Parts.{overlaid_whole, drop_past, body_sealed}
use Rattle.uslp_writer.proofs.Finishes.{finish_done, filling_done}
use Rattle.uslp_writer.proofs.Paths.{writing_done, refused_other, reserved_through}

abbrev start : TransferFrameCreator → ℕ
start c = data_start c.primary_header c.data_field_header

-- the octets before the FECF, and how many they are
abbrev body_of : TransferFrameCreator → List ℕ → List ℕ
body_of c d = body 0 (fields_of c d)

abbrev before : TransferFrameCreator → ℕ → ℕ
before c n = start c + n + length (ocf_octets c.operational_control_field)

module _ (c : TransferFrameCreator) (d : List ℕ) where
  body_parts : body_of c d ≡ header_octets c (total c (length d)) ++ (d ++ ocf_octets c.operational_control_field)
  body_parts = sym (simp append_assoc)

  length_body : field_checking c.data_field_header ≡ done c.data_field_header → length (body_of c d) ≡ before c (length d)
  length_body f =
      ap length body_parts
      ∙ omega (
        arith,
        length-append (header_octets c (total c (length d))) (d ++ ocf_octets c.operational_control_field),
        length_headers c (total c (length d)) f,
        length-append d (ocf_octets c.operational_control_field),
      )

length_area : (c : TransferFrameCreator) (n : ℕ) (s : List ℕ) → Ready c n → total c n ≤ length s → length (take n (drop (start c) s)) ≡ n
length_area c n s r room = length-take-le n (drop (start c) s) (omega (arith, length-drop (start c) s, total_parts c n r.ocf_given))

module _ (c : TransferFrameCreator) (d s : List ℕ) (r : Ready c (length d)) (room : total c (length d) ≤ length s) where
  length_reserved : length (reserved_octets c (length d) s) ≡ length s
  length_reserved =
      let n = length d in
      let p = header_octets c (total c n) in
      let q = take n (drop (start c) s) in
      let o = ocf_octets c.operational_control_field in
      omega (
        arith,
        length-append p (q ++ (o ++ drop (before c n) s)),
        length-append q (o ++ drop (before c n) s),
        length-append o (drop (before c n) s),
        length-drop (before c n) s,
        length_headers c (total c n) r.field_passes,
        length_area c n s r room,
        total_parts c n r.ocf_given,
      )

  -- a buffer that has room for the total is finished, and filled
  finishes : (t : List ℕ) → total c (length d) ≤ length t → finish_length (reservation c (length d)) (length t) ≡ done (total c (length d))
  finishes t long =
      let whole : claimed (reservation c (length d)) ≤ total c (length d) = omega (arith, total_parts c (length d) r.ocf_given) in
      finish_done (reservation c (length d)) (length t) r.fits (omega (arith, whole, r.fits)) whole long

  fill_whole : filling (reservation c (length d)) d (reserved_octets c (length d) s)
      ≡ leaving (done (length d)) (filled (reservation c (length d)) d (reserved_octets c (length d) s))
  fill_whole =
      let n = length d in
      let t = reserved_octets c n s in
      let area : length (take n (drop (start c) t)) ≡ n =
      length-take-le n (drop (start c) t) (omega (arith, length-drop (start c) t, length_reserved, total_parts c n r.ocf_given)) in
      let all : min n n ≡ n = omega arith in
      filling_done (reservation c n) t d (finishes t (omega (arith, length_reserved))) ∙ rw (all, overlaid_whole d (take n (drop (start c) t)) area)

  -- the frame up to its OCF, and behind it the octets that were found
  filled_body : filled (reservation c (length d)) d (reserved_octets c (length d) s) ≡ body_of c d ++ drop (before c (length d)) s
  filled_body =
      let n = length d in
      let p = header_octets c (total c n) in
      let t = ocf_octets c.operational_control_field ++ drop (before c n) s in
      let lp : length p ≡ start c = length_headers c (total c n) r.field_passes in
      let q = take n (drop (start c) s) in
      rw (take_at p (q ++ t) (start c) lp, drop_past p (q ++ t) (start c) n lp, drop_at q t n (length_area c n s r room))
      (simp append_assoc)

  finish_body : finishing (reservation c (length d)) (body_of c d ++ drop (before c (length d)) s)
      ≡ leaving (done (total c (length d))) (frame_octets c d ++ drop (total c (length d)) s)
  finish_body =
      let b = body_of c d ++ drop (before c (length d)) s in
      let parts = total_parts c (length d) r.ocf_given in
      let lb = length_body c d r.field_passes in
      let long : total c (length d) ≤ length b = omega
      (arith, length-append (body_of c d) (drop (before c (length d)) s), length-drop (before c (length d)) s, lb, parts, room) in
      rw (finishes b long)
      (ap (leaving (done (total c (length d)))) (body_sealed c.has_fecf (total c (length d)) (before c (length d)) (body_of c d) s lb parts))

-- what filling and finishing a reservation that was made leaves
module _ (c : TransferFrameCreator) (d s s₁ : List ℕ) (k : TransferFrameCreatorWithReservedData) (e : reserving c (length d) s ≡ leaving (done k) s₁) where
  pub fill_reserved : filling k d s₁ ≡ leaving (done (length d)) (filled k d s₁)
  fill_reserved =
      let w = reserved_through c (length d) s e in
      rw (← w.2, ← w.3) (fill_whole c d s w.0 w.1)

  pub finish_filled : finishing k (filled k d s₁) ≡ frame_writing c d s
  finish_filled =
      let w = reserved_through c (length d) s e in
      rw (← w.2, ← w.3, filled_body c d s w.0 w.1)
      (finish_body c d s w.0 w.1 ∙ sym (writing_done c d s w.0 w.1))

  -- whatever filling answers and leaves
  pub fill_finish : {o : Outcome ℕ} {s₂ : List ℕ} → leaving o s₂ ≡ filling k d s₁ → finishing k s₂ ≡ frame_writing c d s
  fill_finish p = ap (finishing k) (leaving_one (p ∙ fill_reserved)).1 ∙ finish_filled

pub reserve_refused : (c : TransferFrameCreator) (d s s₁ : List ℕ) (n : ℕ) (vs : List ℕ)
    → reserving c (length d) s ≡ leaving (refused n vs) s₁ → frame_writing c d s ≡ leaving (refused n vs) s₁
unfolding reserving frame_writing
reserve_refused c d s s₁ n vs e =
    refused_other c (length d) s (reservation c (length d)) (total c (length d)) (reserved_octets c (length d) s)
    (frame_octets c d ++ drop (total c (length d)) s) e

-- end to end, refusals too: the same answer and the same octets
pub reserve_fill_finish : (c : TransferFrameCreator) (d s : List ℕ) → in_turn c d s ≡ frame_writing c d s
reserve_fill_finish c d s = by (reserving c (length d) s) refl
  where
    by : (w : Written TransferFrameCreatorWithReservedData) → reserving c (length d) s ≡ w → in_turn c d s ≡ frame_writing c d s
    by (leaving (refused n vs) t) e = rw e (sym (reserve_refused c d s t n vs e))
    by (leaving (done k) t) e = rw (e, fill_reserved c d s t k e) (finish_filled c d s t k e)
