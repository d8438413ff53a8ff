-- The promises of `uslp_timing` settle each call, and shut out a wrong answer that would make a time look better.
use mathlib.Core.Path.{refl, sym, ◌∙◌}
use mathlib.Core.List.{[], ◌∷◌}
use native.Mathlib.Omega.{arith}
use Rattle.uslp_checksum.specs.Checksum.{bit, step, feed, lows, bits, checksum_of}
use Rattle.uslp_primary_header.specs.Header.{header_reading}
use Rattle.uslp_reader.specs.Reader.{frame_reading}
use Rattle.uslp_writer.specs.Frame.{frame_writing}
use Rattle.uslp_timing.proofs as timing
use Rattle.uslp_demands.specs.Promise.{Function, function, at, at_mut, Allows, Settles}
use Rattle.uslp_demands.proofs.Alike.{alike}

-- the functions, each with its promise
abbrev fn_timing_checksum : Function
fn_timing_checksum =
    function timing.uslp_timing_checksum.Kinds.ps timing.uslp_timing_checksum.Kinds.r
    timing.uslp_timing_checksum.Reads.Pre timing.uslp_timing_checksum.Reads.Learnt

abbrev fn_timing_read : Function
fn_timing_read =
    function timing.uslp_timing_read.Kinds.ps timing.uslp_timing_read.Kinds.r
    timing.uslp_timing_read.Reads.Pre timing.uslp_timing_read.Reads.Learnt

abbrev fn_timing_write : Function
fn_timing_write =
    function timing.uslp_timing_write.Kinds.ps timing.uslp_timing_write.Kinds.r
    timing.uslp_timing_write.Reads.Pre timing.uslp_timing_write.Reads.Learnt

pub timing_checksum_settles : Settles fn_timing_checksum
timing_checksum_settles = record { total = λ κs a. tt; same = λ κs a x y s t. alike (s ∙ sym t) refl }

-- sums nothing
pub timing_checksum_idle : Allows fn_timing_checksum ([], tt) (at (1 ∷ []), tt) (0xFFFF, (tt, tt)) → ⊥
unfolding checksum_of feed bits lows bit step
timing_checksum_idle e = omega arith

pub timing_read_settles : Settles fn_timing_read
timing_read_settles = record { total = λ κs a. tt; same = λ κs a x y s t. alike (s.0 ∙ sym t.0) (λ i. (tt, ((s.1 ∙ sym t.1) i, tt))) }

-- takes anything for a frame
pub timing_read_lax : Allows fn_timing_read ([], ([], tt)) (at [], (at_mut [], tt)) (0, (tt, ([], tt))) → ⊥
unfolding frame_reading header_reading
timing_read_lax e = omega (arith, e.0)

pub timing_write_settles : Settles fn_timing_write
timing_write_settles = record {
  total = λ κs a. tt;
  same = λ κs a x y s t. alike (s.0 ∙ sym t.0)
      (λ i. (tt, (tt, (tt, (tt, (tt, (tt, ((s.1 ∙ sym t.1) i, tt))))))));
}

-- writes nothing and says that it did
pub timing_write_idle : Allows fn_timing_write ([], ([], tt)) (0, (0, (0, (0, (0, (at [], (at_mut [], tt)))))))
    (10, (tt, (tt, (tt, (tt, (tt, (tt, ([], tt)))))))) → ⊥
unfolding frame_writing
timing_write_idle e = omega (arith, e.0)
