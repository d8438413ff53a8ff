-- A header that was written is read back, and one that was read is written back.
use mathlib.Core.Path.{◌≡◌, refl, ap, sym, ◌∙◌}
use mathlib.Core.Bool.{Bool, true, false, cond, not, ◌&&◌}
use mathlib.Core.List.{List, [], ◌∷◌, ◌++◌}
use Prim.Native.Nat.{ℕ, ◌/◌, ◌%◌, ◌<◌, ◌≤◌}
use native.Mathlib.Omega.{arith}
use borrow.Author.Tests.{ltb-false}
use lib.Dec.{ltb}
use lib.ListN.{length, take, drop, get_or}
use lib.Seq.{take-suc, take-add}
use Rattle.uslp_octets.specs.Octets.{AreOctets, pack, octets, word}
use Rattle.uslp_octets.proofs.Laws.{word_octets, octets_word, word_lt, cons_eq}
use Rattle.uslp_kinds.specs.Outcome.{Outcome, done, refused, and_then, leaving}
use Rattle.uslp_kinds.specs.Kinds.{rule_number, rule_of, fixed_length, protocol_number, protocol_of}
use Rattle.uslp_kinds.specs.declared.ConstructionRule.{ConstructionRule}
use Rattle.uslp_kinds.specs.declared.UslpProtocolId.{UslpProtocolId}
use Rattle.uslp_kinds.proofs.Cases.{rule_back, rule_number_lem, protocol_case, protocol_lt}
use Rattle.uslp_data_field_header.specs.Field.{pointer_bad, field_table, len_field, field_checking, rule_in, number_in, pointer_in, with_protocol, field_reading, field_writing, Fitting}
use Rattle.uslp_data_field_header.specs.declared.TransferFrameDataFieldHeader.{TransferFrameDataFieldHeader}
use Rattle.uslp_kinds.proofs.Outcomes.{not_done, passed, written_done}
use Rattle.uslp_kinds.proofs.Protocol.{protocol_number_lem}
use Rattle.uslp_data_field_header.proofs.Checks.{checking_good, checks_done, pointer_fixed, pointer_len, none_other, none_len}
use Rattle.uslp_data_field_header.proofs.Reading.{rule_at, number_at, reading_pointer, reading_other, with_known}
use Rattle.uslp_data_field_header.proofs.Writing.{writing_done, first_octet, octets_none, octets_pointer}
use Rattle.std.specs.Prelude.{Option, Some, None}

-- the table has as many octets as the header
length_of_lem : (f : TransferFrameDataFieldHeader) (x : Option ℕ) → f.fhp_or_lvo ≡ x → field_checking f ≡ done f → length (pack (field_table f)) ≡ len_field f
length_of_lem f None e ok = rw e (sym (none_len f ok e))
length_of_lem f (Some p) e ok = rw e (sym (pointer_len f ok p e))

pub length_table : (f : TransferFrameDataFieldHeader) → field_checking f ≡ done f → length (pack (field_table f)) ≡ len_field f
length_table f ok = length_of_lem f f.fhp_or_lvo refl ok

-- reading what was laid out
module _ (f : TransferFrameDataFieldHeader) (s : List ℕ) (first : get_or s 0 0 ≡ first_octet f) where
  rule_first : rule_in s ≡ f.construction_rule
  rule_first =
      let q : get_or s 0 0 / 32 ≡ rule_number f.construction_rule = omega (arith, protocol_lt f.uslp_protocol_id) in
      rule_at s ∙ ap rule_of q ∙ rule_back f.construction_rule

  number_first : number_in s ≡ protocol_number f.uslp_protocol_id
  number_first =
      let q : get_or s 0 0 % 32 ≡ protocol_number f.uslp_protocol_id = omega (arith, protocol_lt f.uslp_protocol_id) in
      number_at s ∙ q

known : (f : TransferFrameDataFieldHeader) (x : Option ℕ) → f.fhp_or_lvo ≡ x
    → with_protocol f.construction_rule (protocol_number f.uslp_protocol_id) x ≡ done f
known f x e =
    ap (with_protocol f.construction_rule (protocol_number f.uslp_protocol_id)) (sym e)
    ∙ with_known _ (protocol_number f.uslp_protocol_id) _ (protocol_case f.uslp_protocol_id)

layout_of : (f : TransferFrameDataFieldHeader) (t : List ℕ) (x : Option ℕ) → f.fhp_or_lvo ≡ x → Fitting f → field_reading (pack (field_table f) ++ t) ≡ done f
layout_of f t None e fit =
    let s = first_octet f ∷ t in
    rw (octets_none f e)
    (reading_other s (omega arith) _ _ (rule_first f s refl) (number_first f s refl) (none_other f fit.checks_pass e) ∙ known f None e)
layout_of f t (Some p) e fit =
    let fits : p < 65536 = fit.pointer_fits p e in
    let s = first_octet f ∷ (octets 2 p ++ t) in
    rw (octets_pointer f p e fits)
    (reading_pointer s (omega arith) _ _ (rule_first f s refl) (number_first f s refl) (pointer_fixed f fit.checks_pass p e) p
    (word_octets (first_octet f ∷ []) t 2 p fits) (omega arith)
    ∙ known f (Some p) e)

pub layout_read : (f : TransferFrameDataFieldHeader) (t : List ℕ) → Fitting f → field_reading (pack (field_table f) ++ t) ≡ done f
layout_read f t fit = layout_of f t f.fhp_or_lvo refl fit

-- whatever was written is read back
pub written_read : (f : TransferFrameDataFieldHeader) (s s' : List ℕ) (n : ℕ) → ((p : ℕ) → f.fhp_or_lvo ≡ Some p → p < 65536)
    → field_writing f s ≡ leaving (done n) s' → field_reading s' ≡ done f
unfolding field_writing
written_read f s s' n fits e =
    let w = written_done _ (pack (field_table f) ++ drop (len_field f) s) s e in
    let c = checks_done f ((ltb (length s) (len_field f), refused 2 (length s ∷ len_field f ∷ [])) ∷ []) (done (len_field f)) w.0 in
    ap field_reading (sym w.1) ∙ layout_read f (drop (len_field f) s) (record { pointer_fits = fits; checks_pass = c.0 })

-- the parts of a header that a known id makes
with_parts : (rule : ConstructionRule) (pointer : Option ℕ) (o : Outcome UslpProtocolId) {f : TransferFrameDataFieldHeader}
    → and_then o (λ (id : UslpProtocolId). done (record { construction_rule = rule; uslp_protocol_id = id; fhp_or_lvo = pointer })) ≡ done f
    → (f.construction_rule ≡ rule) × (o ≡ done f.uslp_protocol_id) × (f.fhp_or_lvo ≡ pointer)
with_parts rule pointer (done id) {f} e =
    let g : f ≡ record { construction_rule = rule; uslp_protocol_id = id; fhp_or_lvo = pointer } = cc in (
      ap (λ (h : TransferFrameDataFieldHeader). h.construction_rule) g,
      ap (λ (h : TransferFrameDataFieldHeader). done h.uslp_protocol_id) (sym g),
      ap (λ (h : TransferFrameDataFieldHeader). h.fhp_or_lvo) g,
    )
with_parts rule pointer (refused k vs) e = absurd (not_done e)

-- what a header that was read tells of the octets
record ReadFrom (s : List ℕ) (f : TransferFrameDataFieldHeader) : Type 0 where
  one : 1 ≤ length s
  enough : fixed_length (rule_in s) && ltb (length s) 3 ≡ false
  rule : f.construction_rule ≡ rule_in s
  number : protocol_number f.uslp_protocol_id ≡ number_in s
  pointer : f.fhp_or_lvo ≡ pointer_in s

read_from : (s : List ℕ) (f : TransferFrameDataFieldHeader) → field_reading s ≡ done f → ReadFrom s f
unfolding field_reading
read_from s f e =
    let a = passed 1 (length s ∷ 1 ∷ []) (ltb (length s) 1) _ e in
    let b = passed 1 (length s ∷ 3 ∷ []) (fixed_length (rule_in s) && ltb (length s) 3) _ a.1 in
    let w = with_parts (rule_in s) (pointer_in s) (protocol_of (number_in s)) b.1 in
    record { one = ltb-false _ _ a.0; enough = b.0; rule = w.0; number = protocol_number_lem _ w.1; pointer = w.2 }

long_enough : (fixed : Bool) (n : ℕ) → 1 ≤ n → fixed && ltb n 3 ≡ false → cond fixed 3 1 ≤ n
long_enough true n one h = ltb-false n 3 h
long_enough false n one h = one

-- a pointer that was read stands behind the first octet, and the check passes
pointer_word : (fixed : Bool) (w p : ℕ) → cond fixed (Some w) None ≡ Some p → p ≡ w
pointer_word true w p e = cc
pointer_word false w p e = let z : ◌≡◌ {A = ℕ} 0 1 = cc in absurd (omega arith)

read_good : (rule : ConstructionRule) (fixed : Bool) (w : ℕ) → fixed_length rule ≡ fixed → pointer_bad rule (cond fixed (Some w) None) ≡ false
read_good rule true w e = ap not e
read_good rule false w e = e

pub read_long : (s : List ℕ) (f : TransferFrameDataFieldHeader) → field_reading s ≡ done f → len_field f ≤ length s
read_long s f e =
    let r = read_from s f e in
    rw r.rule (long_enough (fixed_length (rule_in s)) (length s) r.one r.enough)

module _ (s : List ℕ) (f : TransferFrameDataFieldHeader) (oct : AreOctets s) (e : field_reading s ≡ done f) where
  read_word : (p : ℕ) → f.fhp_or_lvo ≡ Some p → p ≡ word 1 2 s
  read_word p h = pointer_word (fixed_length (rule_in s)) (word 1 2 s) p (sym (read_from s f e).pointer ∙ h)

  pub read_fitting : Fitting f
  read_fitting =
      let r = read_from s f e in
      record {
        pointer_fits = λ p h. rw (read_word p h) (word_lt s 1 oct 2);
        checks_pass = checking_good f (rw (r.rule, r.pointer) (read_good (rule_in s) (fixed_length (rule_in s)) (word 1 2 s) refl));
      }

  first_back : take 1 s ≡ first_octet f ∷ []
  first_back =
      let r = read_from s f e in
      let high : rule_number f.construction_rule ≡ get_or s 0 0 / 32 =
      ap rule_number (r.rule ∙ rule_at s) ∙ rule_number_lem (get_or s 0 0 / 32) (omega (arith, oct 0)) in
      let low : protocol_number f.uslp_protocol_id ≡ get_or s 0 0 % 32 = r.number ∙ number_at s in
      take-suc s 0 0 r.one ∙ cons_eq (omega (arith, high, low)) refl

  layout_back : (x : Option ℕ) → f.fhp_or_lvo ≡ x → take (len_field f) s ≡ pack (field_table f)
  layout_back None h = rw (none_len f read_fitting.checks_pass h, octets_none f h) first_back
  layout_back (Some p) h =
      let long : 3 ≤ length s = omega (arith, read_long s f e, pointer_len f read_fitting.checks_pass p h) in
      rw (pointer_len f read_fitting.checks_pass p h, octets_pointer f p h (read_fitting.pointer_fits p h), read_word p h, take-add 1 2 s, first_back)
      (ap (λ (l : List ℕ). first_octet f ∷ l) (sym (octets_word s 1 oct 2 long)))

-- what was read is what its table lays out, and so is written back
pub read_layout : (s : List ℕ) (f : TransferFrameDataFieldHeader) → AreOctets s → field_reading s ≡ done f → take (len_field f) s ≡ pack (field_table f)
read_layout s f oct e = layout_back s f oct e f.fhp_or_lvo refl

pub read_written : (s t : List ℕ) (f : TransferFrameDataFieldHeader) → AreOctets s → field_reading s ≡ done f → len_field f ≤ length t
    → field_writing f t ≡ leaving (done (len_field f)) (take (len_field f) s ++ drop (len_field f) t)
read_written s t f oct e room =
    rw (read_layout s f oct e) (writing_done f t (read_fitting s f oct e).checks_pass (len_field f) refl room)
