-- Demand 3 of octets that came in blocks (docs/RULES.md, section 7): each frame is heard as the intake gives it out.
use Rattle.std.specs.Prelude.{◌≡◌, List, ◌∷◌, ◌++◌, map, ℕ, ◌≤◌, length}
use Rattle.uslp_octets.specs.Octets.{AreOctets}
use Rattle.uslp_kinds.specs.declared.ManagedParameters.{ManagedParameters}
use Rattle.uslp_reader.specs.declared.TransferFrame.{TransferFrame}
use Rattle.uslp_cutting.specs.Offering.{Passage, Offered, one_block}
use Rattle.uslp_cutting.specs.Offering as intake
use Rattle.uslp_record.specs.declared.Channel.{Channel}
use Rattle.uslp_record.specs.declared.ChannelRecord.{ChannelRecord}
use Rattle.uslp_hearing.specs.Hearing.{Naming}
use Rattle.uslp_counting.specs.History.{Hearer, Call, run, handed, Unfilled, singly, Sender, Event, call_of, places}
use Rattle.uslp_counting.specs.History.Call.{hears, hears_many}
use Rattle.uslp_counting.specs.Demand.{Begun, Counts}

-- the hearings of the frames that a passage gives out, each by its own octets
abbrev pub as_they_come : ManagedParameters → Passage → List Call
as_they_come managed p = map (λ (f : TransferFrame × List ℕ). hears f.1 managed) p.frames

-- `Demand3`, where among the calls are the hearings of octets that an intake took in blocks: what happened is said of the octets in one piece
abbrev pub Demand3InBlocks : Naming → Hearer → intake.Call → Type 0
Demand3InBlocks name H call =
    (K : Channel) (width : ℕ) (managed : ManagedParameters) (S : Sender name K width managed) (r : ChannelRecord) → Begun K width r
    → (link : ManagedParameters) (holding : List ℕ) (blocks : List (List ℕ)) (p : Passage) → 65536 ≤ length holding → AreOctets (one_block blocks)
    → Offered call link holding 0 blocks p
    → (before after : List Call) (es : List (Event name K width)) → singly (before ++ (hears_many (one_block blocks) link ∷ after)) ≡ map (call_of S) es
    → Unfilled name H K r (before ++ (as_they_come link p ++ after))
    → Counts S (places es) (handed name H K r (before ++ (as_they_come link p ++ after))) (run name H K r (before ++ (as_they_come link p ++ after)))
