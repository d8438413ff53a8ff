-- Demand 3 of a console that takes octets in blocks and does other things between them (docs/RULES.md, section 7): it opens and closes channels, hears
-- other octets, and restarts.
use Rattle.std.specs.Prelude.{◌≡◌, List, [], ◌∷◌, ◌++◌, map, ℕ, ◌+◌, take, drop}
use Rattle.uslp_kinds.specs.Outcome.{done, refused, leaving}
use Rattle.uslp_kinds.specs.declared.ManagedParameters.{ManagedParameters}
use Rattle.uslp_reader.specs.declared.TransferFrame.{TransferFrame}
use Rattle.uslp_intake.specs.Intake.{waiting, frame, stopped}
use Rattle.uslp_cutting.specs.Offering as intake
use Rattle.uslp_record.specs.declared.Channel.{Channel}
use Rattle.uslp_record.specs.declared.ChannelRecord.{ChannelRecord}
use Rattle.uslp_hearing.specs.Hearing.{Naming}
use Rattle.uslp_counting.specs.History.{Hearer, Call, Handing, run, handed, Unfilled, singly, Sender, Event, call_of, places}
use Rattle.uslp_counting.specs.History.Call.{hears}
use Rattle.uslp_counting.specs.Demand.{Begun, Counts}

-- what the console does: it takes a block as the link delivers it, or makes a call
pub data Doing : Type 0 where
  takes : List ℕ → Doing
  calls : Call → Doing

abbrev pub blocks_in : List Doing → List (List ℕ)
blocks_in [] = []
blocks_in (takes block ∷ ds) = block ∷ blocks_in ds
blocks_in (calls c ∷ ds) = blocks_in ds

abbrev pub calls_in : List Doing → List Call
calls_in [] = []
calls_in (takes block ∷ ds) = calls_in ds
calls_in (calls c ∷ ds) = c ∷ calls_in ds

-- From a holding buffer s with so many octets held, doing this gives out these frames, each with its octets, and makes these calls on the record: a
-- hearing of each frame as it is given out, and the other calls where they stand. Behind a stop or a refusal no frame is given out any more.
module _ (call : intake.Call) (managed : ManagedParameters) where
  pub data Live : List ℕ → ℕ → List Doing → List (TransferFrame × List ℕ) → List Call → Type 0 where
    no_more : {s : List ℕ} {held : ℕ} → Live s held [] [] []
    other : {s : List ℕ} {held : ℕ} {ds : List Doing} {fs : List (TransferFrame × List ℕ)} {cs : List Call} (c : Call) → Live s held ds fs cs
        → Live s held (calls c ∷ ds) fs (c ∷ cs)
    waits_on : {s t block : List ℕ} {held n m : ℕ} {ds : List Doing} {fs : List (TransferFrame × List ℕ)} {cs : List Call}
        → call managed s held block ≡ leaving (done (waiting n m)) t → Live t m ds fs cs → Live s held (takes block ∷ ds) fs cs
    gives_out : {s t block : List ℕ} {held n : ℕ} {x : TransferFrame} {ds : List Doing} {fs : List (TransferFrame × List ℕ)} {cs : List Call}
        → call managed s held block ≡ leaving (done (frame n x)) t → Live t 0 (takes (drop n block) ∷ ds) fs cs
        → Live s held (takes block ∷ ds) ((x, take (held + n) t) ∷ fs) (hears (take (held + n) t) managed ∷ cs)
    stops_at : {s t block : List ℕ} {held n m k : ℕ} {vs : List ℕ} {ds : List Doing} → call managed s held block ≡ leaving (done (stopped n m k vs)) t
        → Live s held (takes block ∷ ds) [] (calls_in ds)
    is_refused : {s t block : List ℕ} {held k : ℕ} {vs : List ℕ} {ds : List Doing} → call managed s held block ≡ leaving (refused k vs) t
        → Live s held (takes block ∷ ds) [] (calls_in ds)

-- A run of such legs, each from nothing held, and of restarts, which are steps of R and at which what is held is lost; no hearing of the channel's frames
-- gets TOTAL_FULL.
module _ (R : ChannelRecord → ChannelRecord → Type 0) {name : Naming} (H : Hearer) (call : intake.Call) {K : Channel} {width : ℕ} {managed : ManagedParameters}
    (S : Sender name K width managed) where
  pub data LiveRun : ChannelRecord → List (Event name K width) → List Handing → ChannelRecord → Type 0 where
    ends : {r : ChannelRecord} → LiveRun r [] [] r
    leg : {r q : ChannelRecord} {es : List (Event name K width)} {hs : List Handing} (ms : List (Event name K width)) (link : ManagedParameters)
        (holding : List ℕ) (ds : List Doing) (fs : List (TransferFrame × List ℕ)) (cs : List Call)
        → Live call link holding 0 ds fs cs → singly cs ≡ map (call_of S) ms → Unfilled name H K r cs → LiveRun (run name H K r cs) es hs q
        → LiveRun r (ms ++ es) (handed name H K r cs ++ hs) q
    restart : {r m q : ChannelRecord} {es : List (Event name K width)} {hs : List Handing} → R r m → LiveRun m es hs q → LiveRun r es hs q

abbrev pub Demand3Live : (ChannelRecord → ChannelRecord → Type 0) → Naming → Hearer → intake.Call → Type 0
Demand3Live R name H call =
    (K : Channel) (width : ℕ) (managed : ManagedParameters) (S : Sender name K width managed) (r : ChannelRecord) → Begun K width r
    → (es : List (Event name K width)) (hs : List Handing) (q : ChannelRecord) → LiveRun R H call S r es hs q → Counts S (places es) hs q
