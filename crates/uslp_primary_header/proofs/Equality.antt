-- `==` of two headers, as a derive writes it, is the equality of the definitions.
use mathlib.Core.Path.{◌≡◌, refl}
use mathlib.Core.Bool.{Bool, true, false, ◌&&◌}
use lib.Dec.{eqb}
use Rattle.uslp_kinds.specs.Kinds.{source_or_dest_number, bypass_number, command_number}
use Rattle.uslp_kinds.proofs.Equality.{role_is, bypass_is, command_is}
use Rattle.uslp_primary_header.specs.Header.{flag, same_but_width}
use Rattle.uslp_primary_header.specs.declared.PrimaryHeader.{PrimaryHeader}
use Rattle.uslp_primary_header.specs.contracts.PrimaryHeaderPartialEq.TheImpl as derived

flag_is : (x y : Bool) → mathlib.Core.Bool.beq x y ≡ eqb (flag x) (flag y)
flag_is true true = refl
flag_is true false = refl
flag_is false true = refl
flag_is false false = refl

chain : (a b c d e f g h i : Bool) → a && (b && (c && (d && (e && (f && (g && (h && i))))))) ≡ (a && b && c && d && e && f && g && h && i)
chain false b c d e f g h i = refl
chain true false c d e f g h i = refl
chain true true false d e f g h i = refl
chain true true true false e f g h i = refl
chain true true true true false f g h i = refl
chain true true true true true false g h i = refl
chain true true true true true true false h i = refl
chain true true true true true true true false i = refl
chain true true true true true true true true false = refl
chain true true true true true true true true true = refl

pub equal_is : (a b : PrimaryHeader) → derived.ghosts.eq a b ≡ same_but_width a b
equal_is a b =
    rw (
      role_is a.source_or_dest_field b.source_or_dest_field,
      bypass_is a.sequence_control_flag b.sequence_control_flag,
      command_is a.protocol_control_command_flag b.protocol_control_command_flag,
      flag_is a.ocf_flag b.ocf_flag,
    )
    (chain (eqb a.spacecraft_id b.spacecraft_id) (eqb (source_or_dest_number a.source_or_dest_field) (source_or_dest_number b.source_or_dest_field))
    (eqb a.vc_id b.vc_id) (eqb a.map_id b.map_id) (eqb a.frame_len_field b.frame_len_field)
    (eqb (bypass_number a.sequence_control_flag) (bypass_number b.sequence_control_flag))
    (eqb (command_number a.protocol_control_command_flag) (command_number b.protocol_control_command_flag))
    (eqb (flag a.ocf_flag) (flag b.ocf_flag)) (eqb a.vc_frame_count b.vc_frame_count))
