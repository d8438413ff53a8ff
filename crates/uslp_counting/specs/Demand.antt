-- Demand 3 (docs/RULES.md, section 7) as a claim on any hearing: the places sent, and what arrives of them, say what it hands on and what is missing.
-- It speaks up to the first TOTAL_FULL of the channel, so a hearing that always answers TOTAL_FULL meets it; what shuts that one out is
-- that ours does not, for fewer than 2^60 arrivals and lost places (`unfilled`).
use Rattle.std.specs.Prelude.{◌≡◌, List, [], map, ℕ, ◌^◌, ◌/◌, length}
use Rattle.uslp_kinds.specs.Outcome.{done}
use Rattle.uslp_kinds.specs.declared.ManagedParameters.{ManagedParameters}
use Rattle.uslp_record.specs.Record.{keeping, opening}
use Rattle.uslp_record.specs.declared.Channel.{Channel}
use Rattle.uslp_record.specs.declared.ChannelRecord.{ChannelRecord}
use Rattle.uslp_hearing.specs.Hearing.{Naming}
use Rattle.uslp_counting.specs.Places.{leaders, Window, lost}
use Rattle.uslp_counting.specs.History.{Hearer, Call, Handing, run, handed, Unfilled, singly, missing_for, Sender, Event, call_of, handings, places}

-- the channel K was opened for counts of this width, in a record of eight slots, and r is the record after that
pub record Begun (K : Channel) (width : ℕ) (r : ChannelRecord) : Type 0 where
  pub before : ChannelRecord
  pub eight : length before.slots ≡ 8
  pub opens : opening before K width ≡ keeping (done tt) r

-- Of the places that arrived, where each is near those before it: the frames handed on are those ahead of all before them, and what the record has
-- missing is what was lost between them.
abbrev pub Counts : {name : Naming} {K : Channel} {width : ℕ} {managed : ManagedParameters} → Sender name K width managed → List ℕ → List Handing
    → ChannelRecord → Type 0
Counts {K = K} {width = width} S ps hs q =
    Window (256 ^ width / 2) [] ps → (hs ≡ handings S (leaders [] ps)) × (missing_for K q ≡ lost (leaders [] ps))

-- The channel is opened; then come calls that stand for events, and no hearing of the channel's frames gets TOTAL_FULL. `name` says which channel a
-- frame is of; here it is `channel_of`.
abbrev pub Demand3 : Naming → Hearer → Type 0
Demand3 name H =
    (K : Channel) (width : ℕ) (managed : ManagedParameters) (S : Sender name K width managed) (r : ChannelRecord) → Begun K width r
    → (es : List (Event name K width)) (cs : List Call) → singly cs ≡ map (call_of S) es → Unfilled name H K r cs
    → Counts S (places es) (handed name H K r cs) (run name H K r cs)
