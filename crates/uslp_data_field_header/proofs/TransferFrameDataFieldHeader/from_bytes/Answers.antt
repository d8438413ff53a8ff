-- The tests that led to each `return` say which law of `field_reading` holds.
use Rattle.std.proofs.Common.{arith, ◌≡◌, sym, ◌∙◌}
use Rattle.uslp_octets.specs.Octets.{word}
use Rattle.uslp_data_field_header.proofs.Reading.{rule_at, number_at, reading_pointer, reading_other}
use Rattle.uslp_data_field_header.proofs.TransferFrameDataFieldHeader.from_bytes.Goals as goal

pub returns-then-applicable_to_fixed_len_tfdz : goal.returns-then-applicable_to_fixed_len_tfdz
returns-then-applicable_to_fixed_len_tfdz c =
    let r = c.from-rule in
    let s = c.args.buf.now in
    let p : word 1 2 s ≡ c.from_be_bytes.result = omega (arith, c.from_be_bytes.ensures) in
    c.with_protocol.ensures
    ∙ sym
    (reading_pointer s (omega arith) r.result _ (rule_at s ∙ sym r.ensures) (number_at s)
    (sym c.applicable_to_fixed_len_tfdz.ensures ∙ c.if-applicable_to_fixed_len_tfdz.true) _ p (omega arith))

pub returns : goal.returns
returns c =
    let r = c.from-rule in
    let s = c.args.buf.now in
    c.with_protocol-2.ensures
    ∙ sym
    (reading_other s (omega arith) r.result _ (rule_at s ∙ sym r.ensures) (number_at s)
    (sym c.applicable_to_fixed_len_tfdz.ensures ∙ c.if-applicable_to_fixed_len_tfdz.false))
