-- Both headers, and the OCF behind the data area.
use Rattle.std.proofs.Common.{arith}
use Rattle.uslp_writer.proofs.Reserves.{put_ready, end_in, ocf_in, reserved_put}
use Rattle.uslp_writer.proofs.reserved.put_reserved.Goals as goal

pub put_headers-start-requires : goal.put_headers-start-requires
put_headers-start-requires c = put_ready c.args.frame c.args.data_size _ c.args.buf.now c.requires.0 c.requires.1

pub overflow_add-end : goal.overflow_add-end
overflow_add-end c =
    let p = c.put_headers-start.ensures in
    omega (arith, end_in c.args.frame c.args.data_size _ c.args.buf.now c.requires.0 c.requires.1 _ _ p.0 p.1)

pub put_ocf-requires : goal.put_ocf-requires
put_ocf-requires c =
    let p = c.put_headers-start.ensures in
    ocf_in c.args.frame c.args.data_size _ c.args.buf.now c.requires.0 c.requires.1 _ _ p.0 p.1

pub returns : goal.returns
returns c =
    let p = c.put_headers-start.ensures in
    reserved_put c.args.frame c.args.data_size _ c.args.buf.now c.requires.0 c.requires.1 _ _ p.0 p.1 _ c.put_ocf.ensures
