-- A console may name channels in another way than the frames' senders do, if both agree on what it hears.
use mathlib.Core.Path.{◌≡◌, refl}
use mathlib.Core.List.{List, [], ◌∷◌}
use Rattle.uslp_kinds.specs.Outcome.{done}
use Rattle.uslp_reader.specs.Reader.{frame_reading}
use Rattle.uslp_reader.specs.declared.TransferFrame.{TransferFrame}
use Rattle.uslp_record.specs.declared.Channel.{Channel}
use Rattle.uslp_hearing.specs.Hearing.{Naming}
use Rattle.uslp_counting.specs.History.{Call, EachCall, is_of}
use Rattle.uslp_counting.specs.History.Call.{hears, hears_many, opens, closes}

-- of a frame that is heard by itself, both say alike whether it is of the channel K
abbrev pub Agrees : Naming → Naming → Channel → Call → Type 0
Agrees name by K (hears s managed) =
    (x : TransferFrame) → frame_reading s managed ≡ done x → is_of by K x ≡ is_of name K x
Agrees name by K (hears_many s managed) = Unit {0}
Agrees name by K (opens k width) = Unit {0}
Agrees name by K (closes k) = Unit {0}

pub agrees_self : (name : Naming) (K : Channel) (c : Call) → Agrees name name K c
agrees_self name K (hears s managed) = λ x e. refl
agrees_self name K (hears_many s managed) = tt
agrees_self name K (opens k width) = tt
agrees_self name K (closes k) = tt

pub all_agree : (name : Naming) (K : Channel) (cs : List Call) → EachCall (Agrees name name K) cs
all_agree name K [] = tt
all_agree name K (c ∷ cs) = (agrees_self name K c, all_agree name K cs)
