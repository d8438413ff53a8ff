-- There is a sender for every flag, first count, width and managed parameters, so that what `counted` asks can be met.
use mathlib.Core.Path.{◌≡◌, refl}
use mathlib.Core.Bool.{false, cond}
use mathlib.Core.List.{List, [], ◌∷◌}
use Prim.Native.Nat.{ℕ, zero, suc, ◌+◌, ◌%◌, ◌^◌, ◌≤◌}
use native.Mathlib.Nat.{mod-lt}
use native.Mathlib.Omega.{arith}
use lib.Dec.{lit<}
use Rattle.uslp_octets.specs.Octets.{AreOctets}
use Rattle.uslp_octets.proofs.Laws.{pos}
use Rattle.uslp_kinds.specs.Outcome.{done}
use Rattle.uslp_kinds.specs.declared.ManagedParameters.{ManagedParameters}
use Rattle.uslp_kinds.specs.declared.SourceOrDestField.TheVariants.{Dest}
use Rattle.uslp_kinds.specs.declared.BypassSequenceControlFlag.{BypassSequenceControlFlag}
use Rattle.uslp_kinds.specs.declared.BypassSequenceControlFlag.TheVariants.{SequenceControlledQoS}
use Rattle.uslp_kinds.specs.declared.ProtocolControlCommandFlag.TheVariants.{TfdfContainsUserData}
use Rattle.uslp_kinds.specs.declared.ConstructionRule.TheVariants.{NoSegmentation}
use Rattle.uslp_kinds.specs.declared.UslpProtocolId.TheVariants.{UserDefinedOctetStream}
use Rattle.uslp_primary_header.specs.declared.PrimaryHeader.{PrimaryHeader}
use Rattle.uslp_primary_header.proofs.Checks.{checks_done}
use Rattle.uslp_data_field_header.specs.Field.{field_checking}
use Rattle.uslp_data_field_header.specs.declared.TransferFrameDataFieldHeader.{TransferFrameDataFieldHeader}
use Rattle.uslp_layout.proofs.Laws.{cond_le}
use Rattle.uslp_record.specs.declared.Channel.{Channel}
use Rattle.uslp_hearing.specs.Hearing.{channel_of}
use Rattle.uslp_counting.specs.History.{Sender}
use Rattle.std.specs.Prelude.{None}

-- channel 5 of spacecraft 0x1234, by flag; the sequence-controlled one
abbrev pub craft_by : BypassSequenceControlFlag → Channel
craft_by flag = record { spacecraft_id = 0x1234; vc_id = 5; sequence_control_flag = flag }

abbrev pub craft : Channel
craft = craft_by SequenceControlledQoS

-- a reading of two octets
abbrev pub reading : List ℕ
reading = 0x0A ∷ 0xF0 ∷ []

abbrev pub whole : TransferFrameDataFieldHeader
whole = record { construction_rule = NoSegmentation; uslp_protocol_id = UserDefinedOctetStream; fhp_or_lvo = None }

pub are_octets : AreOctets reading
are_octets zero = lit< tt
are_octets (suc zero) = lit< tt
are_octets (suc (suc i)) = lit< tt

pub whole_passes : field_checking whole ≡ done whole
unfolding field_checking
whole_passes = refl

module _ (flag : BypassSequenceControlFlag) (start width : ℕ) (narrow : width ≤ 7) (managed : ManagedParameters) where
  abbrev pub header_at : ℕ → PrimaryHeader
  header_at p =
      record {
        spacecraft_id = 0x1234;
        source_or_dest_field = Dest;
        vc_id = 5;
        map_id = 3;
        frame_len_field = 9 + width + cond managed.has_fecf 2 0;
        sequence_control_flag = flag;
        protocol_control_command_flag = TfdfContainsUserData;
        ocf_flag = false;
        vc_frame_count_len = width;
        vc_frame_count = (start + p) % 256 ^ width;
      }

  unfoldable pub oven : Sender channel_of (craft_by flag) width managed
  oven = record {
    start = start;
    fields = λ p. record { header = header_at p; field = whole; contents = reading; ocf = None };
    spare = λ p. 0;
    well_formed = λ p. record {
      header_fits = record {
        spacecraft_fits = lit< tt;
        length_fits = omega (arith, cond_le managed.has_fecf 2 0 (omega arith));
        checks_pass = checks_done (header_at p) (omega arith) (omega arith) narrow (mod-lt (start + p) (pos width));
      };
      field_fits = record { pointer_fits = λ q e. let z : ◌≡◌ {A = ℕ} 0 1 = cc in absurd (omega arith); checks_pass = whole_passes };
      contents_fit = are_octets;
      ocf_fits = λ n e. let z : ◌≡◌ {A = ℕ} 0 1 = cc in absurd (omega arith);
      ocf_flagged = refl;
      is_total = omega arith;
    };
    spare_fits = λ p. lit< tt;
    of_channel = λ p. refl;
    of_width = λ p. refl;
    numbered = λ p. refl;
  }
