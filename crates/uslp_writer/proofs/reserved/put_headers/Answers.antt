-- One header is written, and the other into what stands behind it.
use Rattle.std.proofs.Common.{◌≡◌, ap, ◌∙◌}
use Rattle.uslp_primary_header.specs.declared.PrimaryHeader.{PrimaryHeader}
use Rattle.uslp_layout.specs.Layout.{data_start}
use Rattle.uslp_writer.proofs.Headers.{both_put}
use Rattle.uslp_writer.proofs.reserved.put_headers.Goals as goal

pub returns : goal.returns
returns c =
    let k = c.args.frame in
    let made = c.completed_header-header.ensures in
    let start : c.data_start.result ≡ data_start k.primary_header k.data_field_header =
    c.data_start.ensures ∙ ap (λ (h : PrimaryHeader). data_start h k.data_field_header) made in (
      start,
      rw start
          (both_put k c.args.total c.args.buf.now c.requires.0 c.requires.1 c.requires.3 made c.write_to_slice.ensures
          _ c.len_header-at.ensures c.write_to_slice-2.ensures),
    )
