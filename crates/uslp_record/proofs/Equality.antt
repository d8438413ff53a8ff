-- `==` of two channels, as a derive writes it, is the equality of the definitions.
use mathlib.Core.Path.{◌≡◌, refl}
use mathlib.Core.Bool.{Bool, true, false, ◌&&◌}
use lib.Dec.{eqb}
use Rattle.uslp_kinds.specs.Kinds.{bypass_number}
use Rattle.uslp_kinds.proofs.Equality.{bypass_is}
use Rattle.uslp_record.specs.Slots.{same_channel}
use Rattle.uslp_record.specs.declared.Channel.{Channel}
use Rattle.uslp_record.specs.contracts.ChannelPartialEq.TheImpl as derived

chain : (a b c : Bool) → a && (b && c) ≡ (a && b && c)
chain false b c = refl
chain true false c = refl
chain true true c = refl

pub equal_is : (a b : Channel) → derived.ghosts.eq a b ≡ same_channel a b
equal_is a b =
    let flags = bypass_is a.sequence_control_flag b.sequence_control_flag in
    rw flags
    (chain (eqb a.spacecraft_id b.spacecraft_id) (eqb a.vc_id b.vc_id)
    (eqb (bypass_number a.sequence_control_flag) (bypass_number b.sequence_control_flag)))
