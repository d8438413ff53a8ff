-- The entries that octets have, if they have the form, and what is asked of each: what the code reads on its way. `save` and `restore`
-- promise nothing of these.
use Rattle.std.specs.Prelude.{◌≡◌, Bool, true, false, cond, List, [], ◌∷◌, ◌++◌, ℕ, zero, suc, ◌+◌, ◌*◌, ◌-◌, ◌<◌, ◌≤◌, ltb, length, drop, get_or}
use Rattle.uslp_octets.specs.Octets.{word, unpack}
use Rattle.uslp_kinds.specs.Kinds.{bypass_of}
use Rattle.uslp_kinds.specs.declared.BypassSequenceControlFlag.TheVariants.{SequenceControlledQoS}
use Rattle.uslp_record.specs.Slots.{state_holds, find, state_at}
use Rattle.uslp_record.specs.Made.{Sound}
use Rattle.uslp_record.specs.declared.Channel.{Channel}
use Rattle.uslp_record.specs.declared.Totals.{Totals}
use Rattle.uslp_record.specs.declared.SlotState.{SlotState}
use Rattle.uslp_record.specs.declared.SlotState.TheVariants.{Opened, Heard}
use Rattle.uslp_record.specs.declared.ChannelRecord.{ChannelRecord}
use Rattle.uslp_form.specs.declared.Form.{Form}
use Rattle.uslp_form.specs.Form.{row, rank}
use Rattle.uslp_saved.specs.declared.columns.Section.{Section}
use Rattle.uslp_saved.specs.declared.columns.Section.TheVariants.{Unheard, Heard as HeardSection}
use Rattle.uslp_form.specs.FromRow.{flag_long, unheard_long, heard_long, opened_by, heard_by}

-- a channel and totals of zeros: their rows have the columns' names and widths
abbrev pub no_channel : Channel
no_channel = record { spacecraft_id = 0; vc_id = 0; sequence_control_flag = SequenceControlledQoS }

abbrev pub no_totals : Totals
no_totals = record { last = 0; handed_on = 0; missing = 0; repeats = 0; late = 0 }

-- what stands from a place on: a channel, and totals
abbrev pub channel_from : Form → ℕ → List ℕ → Channel
channel_from f at s =
    record {
      spacecraft_id = word at 2 s;
      vc_id = word (at + 2) 1 s;
      sequence_control_flag = bypass_of (word (at + 3) (flag_long f) s);
    }

abbrev pub totals_from : ℕ → List ℕ → Totals
totals_from at s =
    record {
      last = word at 8 s;
      handed_on = word (at + 8) 8 s;
      missing = word (at + 16) 8 s;
      repeats = word (at + 24) 8 s;
      late = word (at + 32) 8 s;
    }

-- so many entries, one behind the other
abbrev pub entries_in : (List ℕ → SlotState) → ℕ → ℕ → List ℕ → List SlotState
entries_in read long zero s = []
entries_in read long (suc n) s = read s ∷ entries_in read long n (drop long s)

-- a test that was made tells whether P holds
abbrev pub Tells : Bool → Type 0 → Type 0
Tells b P = (b ≡ true → P) × (b ≡ false → P → ⊥)

-- the slot i is the first that holds the channel of x
abbrev pub FirstAt : ChannelRecord → ℕ → SlotState → Type 0
FirstAt q i x = (k : Channel) → state_holds k x ≡ true → find k q.slots ≡ i

-- how long an entry of a section is
abbrev pub long_of : Form → Section → ℕ
long_of f Unheard = unheard_long f
long_of f HeardSection = heard_long f

module _ (f : Form) where
  abbrev pub unheard_in : List ℕ → SlotState
  unheard_in s = opened_by (unpack (row f (Opened no_channel 0)) s)

  abbrev pub heard_in : List ℕ → SlotState
  heard_in s = heard_by (unpack (row f (Heard no_channel 0 no_totals)) s)

  -- the counts of both sections, where the second begins, and how long all is
  abbrev pub first_count : List ℕ → ℕ
  first_count s = get_or s 0 0

  abbrev pub second : List ℕ → ℕ
  second s = 1 + first_count s * unheard_long f

  abbrev pub second_count : List ℕ → ℕ
  second_count s = get_or s (second s) 0

  abbrev pub form_long : List ℕ → ℕ
  form_long s = second s + 1 + second_count s * heard_long f

  abbrev pub unheard_of_octets : List ℕ → List SlotState
  unheard_of_octets s = entries_in unheard_in (unheard_long f) (first_count s) (drop 1 s)

  abbrev pub heard_of_octets : List ℕ → List SlotState
  heard_of_octets s = entries_in heard_in (heard_long f) (second_count s) (drop (second s + 1) s)

  abbrev pub entries_of_octets : List ℕ → List SlotState
  entries_of_octets s = unheard_of_octets s ++ heard_of_octets s

  -- where entry i begins, where the first n are not heard
  abbrev pub place_of : ℕ → ℕ → ℕ
  place_of n i = cond (ltb i n) (1 + i * unheard_long f) (2 + n * unheard_long f + (i - n) * heard_long f)

  -- the counts are small, and there are as many octets as they say
  pub record Shaped (s : List ℕ) : Type 0 where
    pub long : form_long s ≡ length s
    pub few : first_count s + second_count s ≤ 8

  -- the flag of an entry at the front is 0 or 1, and that of each entry
  abbrev pub FlagFits : List ℕ → Type 0
  FlagFits s = word 3 (flag_long f) s < 2

  abbrev pub Flagged : List ℕ → Type 0
  Flagged s = (i : ℕ) → i < first_count s + second_count s → FlagFits (drop (place_of (first_count s) i) s)

  -- it stands above the one before it in its section
  abbrev pub Above : ChannelRecord → ℕ → ℕ → Type 0
  Above q n i = 0 < i → (i ≡ n → ⊥) → rank f (state_at q (i - 1)) < rank f (state_at q i)

  -- what is asked of slot i, where the first n are not heard
  pub record Admitted (q : ChannelRecord) (n i : ℕ) : Type 0 where
    pub sound : Sound (state_at q i)
    pub above : Above q n i
    pub first : FirstAt q i (state_at q i)

  abbrev pub AllAdmitted : ChannelRecord → ℕ → ℕ → Type 0
  AllAdmitted q n total = (i : ℕ) → i < total → Admitted q n i
