-- `==` of two cases of a flag, as a derive writes it, compares their numbers.
use mathlib.Core.Path.{◌≡◌, refl}
use lib.Dec.{eqb}
use Rattle.uslp_kinds.specs.Kinds.{source_or_dest_number, bypass_number, command_number}
use Rattle.uslp_kinds.specs.declared.SourceOrDestField.{SourceOrDestField}
use Rattle.uslp_kinds.specs.declared.SourceOrDestField.TheVariants.{Source, Dest}
use Rattle.uslp_kinds.specs.declared.BypassSequenceControlFlag.{BypassSequenceControlFlag}
use Rattle.uslp_kinds.specs.declared.BypassSequenceControlFlag.TheVariants.{SequenceControlledQoS, ExpeditedQoS}
use Rattle.uslp_kinds.specs.declared.ProtocolControlCommandFlag.{ProtocolControlCommandFlag}
use Rattle.uslp_kinds.specs.declared.ProtocolControlCommandFlag.TheVariants.{TfdfContainsUserData, TfdfContainsProtocolInfo}
use Rattle.uslp_kinds.specs.contracts.SourceOrDestFieldPartialEq.TheImpl as role
use Rattle.uslp_kinds.specs.contracts.BypassSequenceControlFlagPartialEq.TheImpl as bypass
use Rattle.uslp_kinds.specs.contracts.ProtocolControlCommandFlagPartialEq.TheImpl as command

pub role_is : (x y : SourceOrDestField) → role.ghosts.eq x y ≡ eqb (source_or_dest_number x) (source_or_dest_number y)
role_is Source Source = refl
role_is Source Dest = refl
role_is Dest Source = refl
role_is Dest Dest = refl

pub bypass_is : (x y : BypassSequenceControlFlag) → bypass.ghosts.eq x y ≡ eqb (bypass_number x) (bypass_number y)
bypass_is SequenceControlledQoS SequenceControlledQoS = refl
bypass_is SequenceControlledQoS ExpeditedQoS = refl
bypass_is ExpeditedQoS SequenceControlledQoS = refl
bypass_is ExpeditedQoS ExpeditedQoS = refl

pub command_is : (x y : ProtocolControlCommandFlag) → command.ghosts.eq x y ≡ eqb (command_number x) (command_number y)
command_is TfdfContainsUserData TfdfContainsUserData = refl
command_is TfdfContainsUserData TfdfContainsProtocolInfo = refl
command_is TfdfContainsProtocolInfo TfdfContainsUserData = refl
command_is TfdfContainsProtocolInfo TfdfContainsProtocolInfo = refl
