-- A saved record as octets (docs/RULES.md, section 6.6): two sections, each after a one-octet count; an entry is a row of columns.
use Rattle.std.specs.Prelude.{◌≡◌, Bool, true, cond, ◌&&◌, List, [], ◌∷◌, ◌++◌, map, ℕ, ◌-◌, ◌<◌, ◌≤◌, eqb, leb, length, replicate}
use Rattle.uslp_octets.specs.Octets.{BitField, Fits, pack, value_of}
use Rattle.uslp_kinds.specs.Kinds.{bypass_number}
use Rattle.uslp_record.specs.Slots.{slot_of, state_at}
use Rattle.uslp_record.specs.Made.{Sound}
use Rattle.uslp_record.specs.declared.Channel.{Channel}
use Rattle.uslp_record.specs.declared.Totals.{Totals}
use Rattle.uslp_record.specs.declared.SlotState.{SlotState}
use Rattle.uslp_record.specs.declared.SlotState.TheVariants.{Closed, Opened, Heard}
use Rattle.uslp_record.specs.declared.Slot.{Slot}
use Rattle.uslp_record.specs.declared.ChannelRecord.{ChannelRecord}
use Rattle.uslp_form.specs.declared.Form.{Form}
use Rattle.uslp_form.specs.declared.Form.TheVariants.{One, Two}
use Rattle.uslp_form.specs.Entries.{is_opened, is_heard, Each, Once}

-- the column of the bypass flag: form 1 is form 2 with this one left out
abbrev pub flag_column : Form → Channel → List BitField
flag_column One k = []
flag_column Two k = ("bypass", 8, bypass_number k.sequence_control_flag) ∷ []

-- the columns that say which channel it is; both sections ascend by them, the first counting most
abbrev pub columns : Form → Channel → List BitField
columns f k = ("spacecraft", 16, k.spacecraft_id) ∷ ("channel", 8, k.vc_id) ∷ flag_column f k

-- so form 1 says sequence-controlled channels alone, and form 2 says every channel
abbrev pub says : Form → Channel → Bool
says One k = eqb (bypass_number k.sequence_control_flag) 0
says Two k = true

abbrev pub totals_row : Totals → List BitField
totals_row t =
    ("last", 64, t.last)
    ∷ ("handed on", 64, t.handed_on)
    ∷ ("missing", 64, t.missing)
    ∷ ("repeats", 64, t.repeats)
    ∷ ("late", 64, t.late)
    ∷ []

module _ (f : Form) where
  -- the row of an entry, and its place in the order
  abbrev pub row : SlotState → List BitField
  row Closed = []
  row (Opened k width) = columns f k ++ ("width", 8, width) ∷ []
  row (Heard k width totals) = columns f k ++ ("width", 8, width) ∷ totals_row totals

  abbrev pub rank : SlotState → ℕ
  rank Closed = 0
  rank (Opened k width) = value_of (columns f k)
  rank (Heard k width totals) = value_of (columns f k)

  -- it says the channel of an entry, and each that is open among slots
  abbrev pub says_entry : SlotState → Bool
  says_entry Closed = true
  says_entry (Opened k width) = says f k
  says_entry (Heard k width totals) = says f k

  unfoldable pub says_all : List Slot → Bool
  says_all [] = true
  says_all (x ∷ l) = says_entry x.state && says_all l

  abbrev pub EntrySaid : SlotState → Type 0
  EntrySaid x = says_entry x ≡ true

  abbrev pub RecordSaid : ChannelRecord → Type 0
  RecordSaid r = says_all r.slots ≡ true

  unfoldable pub rows : List SlotState → List ℕ
  rows [] = []
  rows (x ∷ l) = pack (row x) ++ rows l

  abbrev pub section : List SlotState → List ℕ
  section l = length l ∷ rows l

  -- first the channels opened but not heard, then those heard
  abbrev pub form : List SlotState → List SlotState → List ℕ
  form us hs = section us ++ section hs

  -- sorted by rank; of two with the same rank the one from the earlier slot comes first
  unfoldable pub insert : SlotState → List SlotState → List SlotState
  insert x [] = x ∷ []
  insert x (y ∷ l) = cond (leb (rank x) (rank y)) (x ∷ y ∷ l) (y ∷ insert x l)

  unfoldable pub sorted : (SlotState → Bool) → List Slot → List SlotState
  sorted test [] = []
  sorted test (x ∷ l) = cond (test x.state) (insert x.state (sorted test l)) (sorted test l)

  -- what saving a record writes
  abbrev pub form_of : ChannelRecord → List ℕ
  form_of r = form (sorted is_opened r.slots) (sorted is_heard r.slots)

  -- each number of a record fits its column, as the machine's own do
  abbrev pub Fitting : ChannelRecord → Type 0
  Fitting r = (i : ℕ) → Fits (row (state_at r i))

  abbrev pub Ascending : List SlotState → Type 0
  Ascending [] = Unit {0}
  Ascending (x ∷ l) = Each (λ (y : SlotState). rank x < rank y) l × Ascending l

  -- octets that are a good form, of these entries
  pub record GoodForm (s : List ℕ) (us hs : List SlotState) : Type 0 where
    pub octets : s ≡ form us hs
    pub unheard : Each (λ (x : SlotState). is_opened x ≡ true) us
    pub heard : Each (λ (x : SlotState). is_heard x ≡ true) hs
    pub flags : Each EntrySaid (us ++ hs)
    pub sound : Each Sound (us ++ hs)
    pub unheard_ascend : Ascending us
    pub heard_ascend : Ascending hs
    pub once : Once (us ++ hs)
    pub few : length (us ++ hs) ≤ 8

-- the record that restoring gives: the slots from the first, in saved order
abbrev pub restored : List SlotState → ChannelRecord
restored l = record { slots = map slot_of l ++ replicate (8 - length l) (slot_of Closed) }
