-- The OCF of a frame, given or not: how long the frame is with it.
use mathlib.Core.Path.{◌≡◌, refl}
use Prim.Native.Nat.{ℕ, ◌+◌}
use mathlib.Core.Bool.{Bool, true, false, not, cond, ◌&&◌, ◌||◌}
use native.Mathlib.Omega.{arith}
use lib.ListN.{length}
use Rattle.uslp_layout.specs.Layout.{data_start, present, ocf_octets}
use Rattle.uslp_writer.specs.Frame.{total, ocf_missing}
use Rattle.uslp_writer.specs.declared.TransferFrameCreator.{TransferFrameCreator}
use Rattle.std.specs.Prelude.{Option, Some, None}

ocf_len_lem : (x : Option ℕ) (b : Bool) → b && not (present x) ≡ false → length (ocf_octets x) ≡ cond (present x || b) 4 0
ocf_len_lem None true e = let z : ◌≡◌ {A = ℕ} 0 1 = cc in absurd (omega arith)
ocf_len_lem None false e = refl
ocf_len_lem (Some v) b e = refl

-- where no OCF is missing, its octets are as many as the flag says
pub total_parts : (c : TransferFrameCreator) (n : ℕ) → ocf_missing c ≡ false
    → total c n ≡ data_start c.primary_header c.data_field_header + n + length (ocf_octets c.operational_control_field) + cond c.has_fecf 2 0
total_parts c n e = omega (arith, ocf_len_lem c.operational_control_field c.primary_header.ocf_flag e)
