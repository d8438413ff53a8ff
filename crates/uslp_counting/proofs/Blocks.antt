-- Octets that came in blocks: hearing each frame as the intake gives it out stands for the call for many frames of all the octets, so demand 3
-- holds of it.
use mathlib.Core.Path.{◌≡◌, refl, ap, sym, ◌∙◌, subst}
use mathlib.Core.List.{List, [], ◌∷◌, ◌++◌, map, append_assoc, append-nil}
use Prim.Native.Nat.{ℕ, ◌+◌, ◌≤◌}
use lib.ListN.{length, take}
use Rattle.uslp_octets.specs.Octets.{AreOctets}
use Rattle.uslp_octets.proofs.Laws.{are_append}
use Rattle.uslp_kinds.specs.Outcome.{done, leaving}
use Rattle.uslp_kinds.specs.Managed.{no_fecf}
use Rattle.uslp_kinds.specs.declared.ManagedParameters.{ManagedParameters}
use Rattle.uslp_reader.specs.declared.TransferFrame.{TransferFrame}
use Rattle.uslp_intake.specs.Intake.{frame, intaking}
use Rattle.uslp_intake.proofs.Calls.{frame_read}
use Rattle.uslp_cutting.specs.Offering.{Passage, Promised, Offered, one_block}
use Rattle.uslp_cutting.specs.Offering as intake
use Rattle.uslp_cutting.proofs.Cutting.{from_nothing}
use Rattle.uslp_record.specs.declared.ChannelRecord.{ChannelRecord}
use Rattle.uslp_hearing.specs.Hearing.{Naming, channel_of, hearing_of_frame, frame_hearing}
use Rattle.uslp_hearing.proofs.Heard.{frame_heard}
use Rattle.uslp_counting.specs.History.{Hearer, Call, run, handed, stands_for, singly, missing_for, frame_at, handing_at}
use Rattle.uslp_counting.specs.History.Call.{hears, hears_many}
use Rattle.uslp_counting.specs.Demand.{Demand3}
use Rattle.uslp_counting.specs.Blocks.{as_they_come, Demand3InBlocks}
use Rattle.uslp_counting.proofs.Instance.{sender, are_sent, begun, calls, frames, stands, one_missing}
use Rattle.uslp_counting.proofs.Witness.{craft}

-- the frame that a call gives out, heard as it was read, is the hearing of the octets at the front of the holding buffer
pub as_it_comes : (r : ChannelRecord) (managed : ManagedParameters) (s : List ℕ) (held : ℕ) (block t : List ℕ) {n : ℕ} {x : TransferFrame}
    → intaking managed s held block ≡ leaving (done (frame n x)) t
    → hearing_of_frame r x ≡ frame_hearing r (take (held + n) t) managed
as_it_comes r managed s held block t {n} e = frame_heard r (take (held + n) t) managed (frame_read managed s held block t e)

singly_append : (cs ds : List Call) → singly (cs ++ ds) ≡ singly cs ++ singly ds
singly_append [] ds = refl
singly_append (c ∷ cs) ds = ap (λ (l : List Call). stands_for c ++ l) (singly_append cs ds) ∙ sym (append_assoc (stands_for c) (singly cs) (singly ds))

-- hearings of single frames stand for themselves
singly_hears : (managed : ManagedParameters) (fs : List (TransferFrame × List ℕ))
    → singly (map (λ (f : TransferFrame × List ℕ). hears f.1 managed) fs) ≡ map (λ (f : TransferFrame × List ℕ). hears f.1 managed) fs
singly_hears managed [] = refl
singly_hears managed (f ∷ fs) = ap (λ (l : List Call). hears f.1 managed ∷ l) (singly_hears managed fs)

module _ (call : intake.Call) (promised : Promised call) (managed : ManagedParameters) (holding : List ℕ) (room : 65536 ≤ length holding) (blocks : List (List ℕ)) (p : Passage)
    (oct : AreOctets (one_block blocks)) (o : Offered call managed holding 0 blocks p) where
  -- the frames are those of the octets in one piece
  pub stands_for_many : as_they_come managed p ≡ stands_for (hears_many (one_block blocks) managed)
  stands_for_many = ap (as_they_come managed) ((from_nothing call promised managed holding room blocks p oct).0 o)

  -- among other calls too
  pub among_calls : (before after : List Call)
      → singly (before ++ (as_they_come managed p ++ after)) ≡ singly (before ++ (hears_many (one_block blocks) managed ∷ after))
  among_calls before after =
      let h = as_they_come managed p in
      singly_append before (h ++ after)
      ∙ ap (λ (l : List Call). singly before ++ l)
      (singly_append h after ∙ ap (λ (l : List Call). l ++ singly after) (singly_hears managed p.frames ∙ stands_for_many))
      ∙ sym (singly_append before (hears_many (one_block blocks) managed ∷ after))

pub in_blocks : (name : Naming) (H : Hearer) → Demand3 name H → (call : intake.Call) → Promised call → Demand3InBlocks name H call
in_blocks name H demand call promised K width managed S r begun link holding blocks p room oct o before after es stand unfull =
    demand K width managed S r begun es _ (among_calls call promised link holding room blocks p oct o before after ∙ stand) unfull

-- the places 0 and 2 of the oven, their octets cut anyhow: both are handed on, and one is missing
pub one_missing_in_blocks : (call : intake.Call) → Promised call → (holding : List ℕ) → 65536 ≤ length holding
    → (blocks : List (List ℕ)) (p : Passage) → one_block blocks ≡ frames → Offered call no_fecf holding 0 blocks p
    → (handed channel_of frame_hearing craft begun (as_they_come no_fecf p) ≡ handing_at sender 0 0 ∷ handing_at sender 1 2 ∷ [])
    × (missing_for craft (run channel_of frame_hearing craft begun (as_they_come no_fecf p)) ≡ 1)
one_missing_in_blocks call promised holding room blocks p e o =
    let oct : AreOctets (one_block blocks) = subst AreOctets (sym e) (are_append (frame_at sender 0) (frame_at sender 2) (are_sent 0) (are_sent 2)) in
    let heard : as_they_come no_fecf p ≡ calls 0 2 =
    stands_for_many call promised no_fecf holding room blocks p oct o
    ∙ ap (λ (l : List ℕ). stands_for (hears_many l no_fecf)) e ∙ sym (append-nil (stands_for (hears_many frames no_fecf))) ∙ stands in (
      ap (handed channel_of frame_hearing craft begun) heard ∙ one_missing.0,
      ap (λ (cs : List Call). missing_for craft (run channel_of frame_hearing craft begun cs)) heard ∙ one_missing.1,
    )
