-- At each `return` the tests that led there say which law of `frame_length` holds.
use Rattle.std.proofs.Common.{◌≡◌, ap, sym, ◌∙◌, arith, ℕ, ◌+◌, false}
use Rattle.uslp_kinds.specs.Outcome.{done}
use Rattle.uslp_primary_header.specs.declared.PrimaryHeader.{PrimaryHeader}
use Rattle.uslp_layout.specs.Layout.{needed}
use Rattle.uslp_writer.specs.Frame.{flagged, managed_of, ocf_missing}
use Rattle.uslp_writer.specs.declared.TransferFrameCreator.{TransferFrameCreator}
use Rattle.uslp_writer.proofs.Lengths.{length_ocf, length_long, length_done}
use Rattle.uslp_writer.proofs.total_of.Goals as goal

-- the octets besides the data
abbrev besides_of : TransferFrameCreator → PrimaryHeader → ℕ
besides_of k h = needed h k.data_field_header (managed_of k)

pub returns-then-ocf_missing : goal.returns-then-ocf_missing
returns-then-ocf_missing c =
    sym (length_ocf c.args.frame c.args.data_len c.requires.0 c.requires.1 (sym c.ocf_missing.ensures ∙ c.if-ocf_missing.true))

pub returns-then-data_len-gt-MAX_FRAME_LEN : goal.returns-then-data_len-gt-MAX_FRAME_LEN
returns-then-data_len-gt-MAX_FRAME_LEN c =
    let given : ocf_missing c.args.frame ≡ false = sym c.ocf_missing.ensures ∙ c.if-ocf_missing.false in
    sym (length_long c.args.frame c.args.data_len c.requires.0 c.requires.1 given (omega arith))

pub returns-then-total-gt-MAX_FRAME_LEN : goal.returns-then-total-gt-MAX_FRAME_LEN
returns-then-total-gt-MAX_FRAME_LEN c =
    let k = c.args.frame in
    let given : ocf_missing k ≡ false = sym c.ocf_missing.ensures ∙ c.if-ocf_missing.false in
    let besides : c.needed_len.result ≡ besides_of k (flagged k) = c.needed_len.ensures ∙ ap (besides_of k) c.with_ocf_flag-header.ensures in
    sym (length_long k c.args.data_len c.requires.0 c.requires.1 given (omega arith))

pub returns : goal.returns
returns c =
    let k = c.args.frame in
    let besides : c.needed_len.result ≡ besides_of k (flagged k) = c.needed_len.ensures ∙ ap (besides_of k) c.with_ocf_flag-header.ensures in
    ap (λ (n : ℕ). done (n + c.args.data_len)) besides
    ∙ sym
    (length_done k c.args.data_len
    (record {
      header_passes = c.requires.0;
      field_passes = c.requires.1;
      ocf_given = sym c.ocf_missing.ensures ∙ c.if-ocf_missing.false;
      fits = omega arith;
    }))
