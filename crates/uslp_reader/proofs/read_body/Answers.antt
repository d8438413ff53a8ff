-- At each `return` the tests that led there say which law of `frame_reading` holds.
use mathlib.Core.Bool.{true, false≢true}
use Rattle.std.proofs.Common.{arith, ℕ, List, ◌≡◌, ◌↔◌, ap, sym, ◌∙◌, ◌-◌, ◌≤◌, ◌<◌, take, get_or, length}
use Rattle.uslp_checksum.specs.Checksum.{checksum_of}
use Rattle.uslp_checksum.proofs.Laws.{residue}
use Rattle.uslp_primary_header.specs.Header.{len_frame}
use Rattle.uslp_primary_header.specs.declared.PrimaryHeader.{PrimaryHeader}
use Rattle.uslp_reader.specs.Reader.{stored_fecf, computed_fecf}
use Rattle.uslp_reader.proofs.Parts.{first_part, last_two}
use Rattle.uslp_reader.proofs.Paths.{reading_checksum, reading_frame}
use Rattle.uslp_reader.proofs.read_body.Goals as goal
use Rattle.uslp_reader.proofs.read_body.Goals.{then-managed+else-stored-computed, else-managed}

-- a frame passes where what the code compares is equal, and only there
tied : (h : PrimaryHeader) (s : List ℕ) → ((i : ℕ) → get_or s i 0 < 256) → 2 ≤ len_frame h → len_frame h ≤ length s
    → (checksum_of (take (len_frame h) s) ≡ 0) ↔ (computed_fecf h s ≡ stored_fecf h s)
tied h s o two fits = residue _ s (λ i. o i) two fits

pub returns-then-stored-computed : goal.returns-then-stored-computed
returns-then-stored-computed c =
    let p = c.requires in
    let l = c.len_frame-length.ensures in
    let a = c.args in
    let two : 2 ≤ len_frame a.header = omega (arith, l, c.needed_len-needed.ensures) in
    let stored = c.from_be_bytes-stored.ensures ∙ last_two a.buf.now _ _ l two in
    let computed = c.checksum-computed.ensures ∙ ap checksum_of (first_part a.buf.now _ _ (ap (λ (n : ℕ). n - 2) l)) in
    let t = tied a.header a.buf.now (λ i. omega (arith, c.type_inv.buf i)) two p.1 in
    sym
    (reading_checksum _ _ _ p.0 p.1 _ p.2 (omega (arith, l, c.needed_len-needed.ensures)) c.if-managed.true
    (λ z. omega (arith, stored, computed, t.0 z)) (omega (arith, stored)) (omega (arith, computed)))

pub returns : goal.returns
returns c =
    let p = c.requires in
    let l = c.len_frame-length.ensures in
    let a = c.args in
    let good : a.managed.has_fecf ≡ true → checksum_of (take (len_frame a.header) a.buf.now) ≡ 0 =
    λ m. elim c.if-managed.branch [
      | then-managed+else-stored-computed w ↦
          let two : 2 ≤ len_frame a.header = omega (arith, l, c.needed_len-needed.ensures) in
          let stored = w.from_be_bytes-stored.ensures ∙ last_two a.buf.now _ _ l two in
          let computed = w.checksum-computed.ensures ∙ ap checksum_of (first_part a.buf.now _ _ (ap (λ (n : ℕ). n - 2) l)) in
          (tied a.header a.buf.now (λ i. omega (arith, c.type_inv.buf i)) two p.1).1 (omega (arith, w.if-stored-computed, stored, computed))
      | else-managed w ↦ absurd (false≢true (sym w.if-managed.false ∙ m))
    ] in
    sym
    (reading_frame _ _ _ p.0 p.1 _ p.2 (omega (arith, l, c.needed_len-needed.ensures)) good l c.needed_len-needed.ensures c.frame_of.ensures)
