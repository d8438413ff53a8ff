-- The cases hold, computed over the definitions that the promises cite.
use mathlib.Core.Path.{refl}
use Rattle.uslp_primary_header.specs.Header.{count_setting, header_reading}
use Rattle.uslp_data_field_header.specs.Field.{field_reading}
use Rattle.uslp_writer.specs.Frame.{frame_writing}
use Rattle.uslp_reader.specs.Reader.{frame_reading}
use Rattle.uslp_record.specs.Slots.{find}
use Rattle.uslp_record.specs.Judging.{judging}
use Rattle.uslp_demands.specs.Cases.{AllAnswered}

pub all_answered : AllAnswered
unfolding frame_reading header_reading field_reading frame_writing count_setting judging find
all_answered = refl
