-- Histories of calls as the console makes them, octets in; the sender of a channel; and what may happen while the channel is open.
use Rattle.std.specs.Prelude.{◌≡◌, Bool, true, false, cond, List, [], ◌∷◌, ◌++◌, map, ℕ, suc, ◌+◌, ◌-◌, ◌^◌, ◌%◌, ◌<◌}
use Rattle.uslp_kinds.specs.Outcome.{Outcome, done, refused}
use Rattle.uslp_kinds.specs.declared.ManagedParameters.{ManagedParameters}
use Rattle.uslp_layout.specs.Layout.{Fields, layout, WellFormed}
use Rattle.uslp_reader.specs.Reader.{frame_reading, contents_in}
use Rattle.uslp_reader.specs.EndToEnd.{cut}
use Rattle.uslp_reader.specs.declared.TransferFrame.{TransferFrame}
use Rattle.uslp_record.specs.Slots.{same_channel, find, state_at}
use Rattle.uslp_record.specs.Record.{Kept, keeping, opening, closing, missing_of}
use Rattle.uslp_record.specs.declared.Channel.{Channel}
use Rattle.uslp_record.specs.declared.ChannelRecord.{ChannelRecord}
use Rattle.uslp_roundtrip.specs.Laid.{frame_of}
use Rattle.uslp_hearing.specs.Hearing.{Naming}
use Rattle.uslp_hearing.specs.declared.FrameArrival.{FrameArrival}
use Rattle.uslp_hearing.specs.declared.FrameArrival.TheVariants.{New, Repeat, Late}

-- a hearing: of a record, octets and the managed parameters, the answer and the record after it
abbrev pub Hearer : Type 0
Hearer = ChannelRecord → List ℕ → ManagedParameters → Kept FrameArrival

-- a call of the console: it hears octets with a frame at their front, or with frames end to end; it opens or closes a channel
pub data Call : Type 0 where
  hears : List ℕ → ManagedParameters → Call
  hears_many : List ℕ → ManagedParameters → Call
  opens : Channel → ℕ → Call
  closes : Channel → Call

-- it holds of each call
abbrev pub EachCall : (Call → Type 0) → List Call → Type 0
EachCall P [] = Unit {0}
EachCall P (c ∷ cs) = P c × EachCall P cs

abbrev pub record_of : {A : Type 0} → Kept A → ChannelRecord
record_of (keeping o r) = r

abbrev pub answer_of : {A : Type 0} → Kept A → Outcome A
answer_of (keeping o r) = o

-- a frame handed on: its gap, the frame with its headers and OCF, and its data
abbrev pub Handing : Type 0
Handing = ℕ × TransferFrame × List ℕ

-- What follows is said over how a frame names its channel, `name`: by spacecraft, number and flag as here, or in any other way.
module _ (name : Naming) where
  -- whether a frame is of the channel K
  abbrev pub is_of : Channel → TransferFrame → Bool
  is_of K x = same_channel (name x.primary_header) K

  -- what one hearing of the octets s hands on for the channel K
  abbrev pub handing : Channel → List ℕ → Outcome FrameArrival → List Handing
  handing K s (done (New gap x)) = cond (is_of K x) ((gap, x, contents_in x s) ∷ []) []
  handing K s (done Repeat) = []
  handing K s (done Late) = []
  handing K s (refused k vs) = []

module _ (name : Naming) (H : Hearer) (K : Channel) where
  -- what hearing octets hands on for the channel K, and the record after it
  abbrev pub heard : ChannelRecord → List ℕ → ManagedParameters → List Handing × ChannelRecord
  heard r s managed = (handing name K s (answer_of (H r s managed)), record_of (H r s managed))

  -- the same of frames that are heard one after the other
  unfoldable pub heard_all : ChannelRecord → List (TransferFrame × List ℕ) → ManagedParameters → List Handing × ChannelRecord
  heard_all r [] managed = ([], r)
  heard_all r (f ∷ fs) managed =
      let q = heard r f.1 managed in
      let rest = heard_all q.1 fs managed in
      (q.0 ++ rest.0, rest.1)

  -- what a call hands on for the channel K, and the record after it; one of frames end to end stands for hearing each of them
  abbrev pub called : ChannelRecord → Call → List Handing × ChannelRecord
  called r (hears s managed) = heard r s managed
  called r (hears_many s managed) = heard_all r (cut managed s).frames managed
  called r (opens k width) = ([], record_of (opening r k width))
  called r (closes k) = ([], record_of (closing r k))

  -- a hearing does not get TOTAL_FULL for a frame of the channel K
  abbrev pub NotFull : ChannelRecord → List ℕ → ManagedParameters → Type 0
  NotFull r s managed =
      (x : TransferFrame) → frame_reading s managed ≡ done x → is_of name K x ≡ true → answer_of (H r s managed) ≡ refused 17 [] → ⊥

  unfoldable pub NoneFull : ChannelRecord → List (TransferFrame × List ℕ) → ManagedParameters → Type 0
  NoneFull r [] managed = Unit {0}
  NoneFull r (f ∷ fs) managed = NotFull r f.1 managed × NoneFull (heard r f.1 managed).1 fs managed

  -- no hearing of a call gets it
  abbrev pub Roomy : ChannelRecord → Call → Type 0
  Roomy r (hears s managed) = NotFull r s managed
  Roomy r (hears_many s managed) = NoneFull r (cut managed s).frames managed
  Roomy r (opens k width) = Unit {0}
  Roomy r (closes k) = Unit {0}

  -- the same over a history of calls
  unfoldable pub run : ChannelRecord → List Call → ChannelRecord
  run r [] = r
  run r (c ∷ cs) = run (called r c).1 cs

  unfoldable pub handed : ChannelRecord → List Call → List Handing
  handed r [] = []
  handed r (c ∷ cs) = (called r c).0 ++ handed (called r c).1 cs

  unfoldable pub Unfilled : ChannelRecord → List Call → Type 0
  Unfilled r [] = Unit {0}
  Unfilled r (c ∷ cs) = Roomy r c × Unfilled (called r c).1 cs

-- the calls of one frame at the most that a call stands for
abbrev pub stands_for : Call → List Call
stands_for (hears s managed) = hears s managed ∷ []
stands_for (hears_many s managed) = map (λ (f : TransferFrame × List ℕ). hears f.1 managed) (cut managed s).frames
stands_for (opens k width) = opens k width ∷ []
stands_for (closes k) = closes k ∷ []

abbrev pub singly : List Call → List Call
singly [] = []
singly (c ∷ cs) = stands_for c ++ singly cs

-- what the record has missing for the channel K
abbrev pub missing_for : Channel → ChannelRecord → ℕ
missing_for K r = missing_of (state_at r (find K r.slots))

-- the sender of the channel K: a frame of the layout for each place, of this width, numbered consecutively
pub record Sender (name : Naming) (K : Channel) (width : ℕ) (managed : ManagedParameters) : Type 0 where
  pub start : ℕ
  pub fields : ℕ → Fields
  pub spare : ℕ → ℕ
  pub well_formed : (p : ℕ) → WellFormed managed (fields p)
  pub spare_fits : (p : ℕ) → spare p < 4
  pub of_channel : (p : ℕ) → name (fields p).header ≡ K
  pub of_width : (p : ℕ) → (fields p).header.vc_frame_count_len ≡ width
  pub numbered : (p : ℕ) → (fields p).header.vc_frame_count ≡ (start + p) % 256 ^ width

-- the octets of the frame at a place
abbrev pub frame_at : {name : Naming} {K : Channel} {width : ℕ} {managed : ManagedParameters} → Sender name K width managed → ℕ → List ℕ
frame_at {managed = managed} S p = layout managed (S.spare p) (S.fields p)

-- What may happen while the channel K is open: the undamaged frame at a place arrives, perhaps with octets behind it; octets that the
-- reader refuses; a frame of another channel; a frame of this channel in another width; other channels are opened and closed; this one
-- is opened again.
pub data Event (name : Naming) (K : Channel) (width : ℕ) : Type 0 where
  arrives : ℕ → List ℕ → Event name K width
  damaged : (s : List ℕ) (managed : ManagedParameters) (k : ℕ) (vs : List ℕ) → frame_reading s managed ≡ refused k vs → Event name K width
  elsewhere : (s : List ℕ) (managed : ManagedParameters) (x : TransferFrame) → frame_reading s managed ≡ done x → is_of name K x ≡ false → Event name K width
  misfits : (s : List ℕ) (managed : ManagedParameters) (x : TransferFrame) → frame_reading s managed ≡ done x
      → (x.primary_header.vc_frame_count_len ≡ width → ⊥)
      → Event name K width
  opened : (k : Channel) (w : ℕ) → same_channel k K ≡ false → Event name K width
  closed : (k : Channel) → same_channel k K ≡ false → Event name K width
  again : ℕ → Event name K width

module _ {name : Naming} {K : Channel} {width : ℕ} {managed : ManagedParameters} (S : Sender name K width managed) where
  -- the call that the console makes
  abbrev pub call_of : Event name K width → Call
  call_of (arrives p behind) = hears (frame_at S p ++ behind) managed
  call_of (damaged s f k vs e) = hears s f
  call_of (elsewhere s f x e o) = hears s f
  call_of (misfits s f x e o) = hears s f
  call_of (opened k w o) = opens k w
  call_of (closed k o) = closes k
  call_of (again w) = opens K w

  -- the frame sent at a place, handed on with this gap
  abbrev pub handing_at : ℕ → ℕ → Handing
  handing_at gap p = (gap, frame_of (S.fields p), (S.fields p).contents)

  -- frames handed on at these places, each with the gap to the one before
  unfoldable pub following : ℕ → List ℕ → List Handing
  following q [] = []
  following q (p ∷ ps) = handing_at (p - suc q) p ∷ following p ps

  unfoldable pub handings : List ℕ → List Handing
  handings [] = []
  handings (p ∷ ps) = handing_at 0 p ∷ following p ps

-- the places that arrive, in order
module _ {name : Naming} {K : Channel} {width : ℕ} where
  abbrev pub places_of : Event name K width → List ℕ
  places_of (arrives p behind) = p ∷ []
  places_of (damaged s f k vs e) = []
  places_of (elsewhere s f x e o) = []
  places_of (misfits s f x e o) = []
  places_of (opened k w o) = []
  places_of (closed k o) = []
  places_of (again w) = []

  unfoldable pub places : List (Event name K width) → List ℕ
  places [] = []
  places (e ∷ es) = places_of e ++ places es
