-- What a console not yet updated saved (docs/RULES.md, section 7): it counts without the flag, and its octets are a saving for the channels of
-- whose spacecraft and number it heard no expedited frame.
use Rattle.std.specs.Prelude.{◌≡◌, true, List, [], ◌∷◌, ◌++◌, ℕ}
use Rattle.uslp_kinds.specs.declared.ManagedParameters.{ManagedParameters}
use Rattle.uslp_kinds.specs.declared.BypassSequenceControlFlag.TheVariants.{SequenceControlledQoS}
use Rattle.uslp_reader.specs.declared.TransferFrame.{TransferFrame}
use Rattle.uslp_record.specs.declared.Channel.{Channel}
use Rattle.uslp_record.specs.declared.ChannelRecord.{ChannelRecord}
use Rattle.uslp_hearing.specs.Hearing.{Naming, channel_of, hearing_by}
use Rattle.uslp_counting.specs.History.{Hearer, Handing, is_of, Sender, Event, places}
use Rattle.uslp_counting.specs.History.Event.{arrives, damaged, elsewhere, misfits, opened, closed, again}
use Rattle.uslp_counting.specs.Demand.{Begun, Counts}
use Rattle.uslp_counting.specs.Restarts.{Restart, Leads}

-- It names a channel by spacecraft and number alone; such a channel stands here as the sequence-controlled one, as restoring gives it.
abbrev pub unflagged : Naming
unflagged h =
    record { spacecraft_id = h.spacecraft_id; vc_id = h.vc_id; sequence_control_flag = SequenceControlledQoS }

-- a frame that is no expedited one of K's spacecraft and number
abbrev pub Sequenced : Channel → TransferFrame → Type 0
Sequenced K x = is_of unflagged K x ≡ true → x.primary_header.sequence_control_flag ≡ SequenceControlledQoS

-- an event in which no expedited frame of that number is heard; the sender's own frames are of K, and so sequence-controlled
abbrev pub NoExpedited : (K : Channel) (width : ℕ) → Event channel_of K width → Type 0
NoExpedited K width (arrives p behind) = Unit {0}
NoExpedited K width (damaged s f k vs e) = Unit {0}
NoExpedited K width (elsewhere s f x e o) = Sequenced K x
NoExpedited K width (misfits s f x e o) = Sequenced K x
NoExpedited K width (opened k w o) = Unit {0}
NoExpedited K width (closed k o) = Unit {0}
NoExpedited K width (again w) = Unit {0}

abbrev pub EachEvent : {name : Naming} {K : Channel} {width : ℕ} → (Event name K width → Type 0) → List (Event name K width) → Type 0
EachEvent P [] = Unit {0}
EachEvent P (e ∷ es) = P e × EachEvent P es

-- Demand 3 of a sequence-controlled channel that was opened at such a console: events es led there to the record m, each as `Allowed` asks; it is
-- saved, and restored here, whatever record is found (`Restart`); events ds follow here, heard by H. Then it is as if all had happened here.
abbrev pub Demand3Updated : ((K : Channel) (width : ℕ) → Event channel_of K width → Type 0) → Hearer → Type 0
Demand3Updated Allowed H =
    (K : Channel) → K.sequence_control_flag ≡ SequenceControlledQoS
    → (width : ℕ) (managed : ManagedParameters) (S : Sender channel_of K width managed) (r : ChannelRecord) → Begun K width r
    → (es : List (Event channel_of K width)) (hs : List Handing) (m : ChannelRecord) → Leads Restart (hearing_by unflagged) S r es hs m
    → EachEvent (Allowed K width) es
    → (q : ChannelRecord) → Restart m q
    → (ds : List (Event channel_of K width)) (gs : List Handing) (z : ChannelRecord) → Leads Restart H S q ds gs z
    → Counts S (places es ++ places ds) (hs ++ gs) z

-- A run over consoles of both kinds: its legs are here, heard by H, or at such a console, each event there as `Allowed` asks. From the one to the other
-- the record goes as octets, converted where need be: by a restart, which is a step of a leg.
module _ (Allowed : (K : Channel) (width : ℕ) → Event channel_of K width → Type 0) (H : Hearer) {K : Channel} {width : ℕ} {managed : ManagedParameters}
    (S : Sender channel_of K width managed) where
  pub data Shares : ChannelRecord → List (Event channel_of K width) → List Handing → ChannelRecord → Type 0 where
    ends : {r : ChannelRecord} → Shares r [] [] r
    here : {r m q : ChannelRecord} {es ds : List (Event channel_of K width)} {hs gs : List Handing}
        → Leads Restart H S r es hs m → Shares m ds gs q → Shares r (es ++ ds) (hs ++ gs) q
    there : {r m q : ChannelRecord} {es ds : List (Event channel_of K width)} {hs gs : List Handing}
        → Leads Restart (hearing_by unflagged) S r es hs m → EachEvent (Allowed K width) es → Shares m ds gs q → Shares r (es ++ ds) (hs ++ gs) q

-- Demand 3 of a sequence-controlled channel over such a run: it is as if all had happened here.
abbrev pub Demand3Shared : ((K : Channel) (width : ℕ) → Event channel_of K width → Type 0) → Hearer → Type 0
Demand3Shared Allowed H =
    (K : Channel) → K.sequence_control_flag ≡ SequenceControlledQoS
    → (width : ℕ) (managed : ManagedParameters) (S : Sender channel_of K width managed) (r : ChannelRecord) → Begun K width r
    → (es : List (Event channel_of K width)) (hs : List Handing) (q : ChannelRecord) → Shares Allowed H S r es hs q → Counts S (places es) hs q
