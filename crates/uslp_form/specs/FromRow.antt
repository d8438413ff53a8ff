-- What a row of a saved record says of its entry, and how long it is: the way back from columns. No public promise cites these.
use Rattle.std.specs.Prelude.{List, ℕ, ◌+◌}
use Rattle.uslp_octets.specs.Octets.{BitField, named}
use Rattle.uslp_kinds.specs.Kinds.{bypass_of}
use Rattle.uslp_record.specs.declared.Channel.{Channel}
use Rattle.uslp_record.specs.declared.Totals.{Totals}
use Rattle.uslp_record.specs.declared.SlotState.{SlotState}
use Rattle.uslp_record.specs.declared.SlotState.TheVariants.{Opened, Heard}
use Rattle.uslp_form.specs.declared.Form.{Form}
use Rattle.uslp_form.specs.declared.Form.TheVariants.{One, Two}

-- how many octets the flag's column has, and an entry
abbrev pub flag_long : Form → ℕ
flag_long One = 0
flag_long Two = 1

abbrev pub unheard_long : Form → ℕ
unheard_long f = 4 + flag_long f

abbrev pub heard_long : Form → ℕ
heard_long f = 44 + flag_long f

-- a column that is left out says 0
abbrev pub channel_by : List BitField → Channel
channel_by fs =
    record { spacecraft_id = named "spacecraft" fs; vc_id = named "channel" fs; sequence_control_flag = bypass_of (named "bypass" fs) }

abbrev pub totals_by : List BitField → Totals
totals_by fs =
    record {
      last = named "last" fs;
      handed_on = named "handed on" fs;
      missing = named "missing" fs;
      repeats = named "repeats" fs;
      late = named "late" fs;
    }

abbrev pub opened_by : List BitField → SlotState
opened_by fs = Opened (channel_by fs) (named "width" fs)

abbrev pub heard_by : List BitField → SlotState
heard_by fs = Heard (channel_by fs) (named "width" fs) (totals_by fs)
