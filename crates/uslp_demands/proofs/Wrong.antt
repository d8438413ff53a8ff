-- Any program that keeps the promise of the reader, of the writer or of the hearing has demand 2 or 3, over restarts and in blocks too, so the programs that
-- those demands shut out (`uslp_roundtrip/proofs/Wrong.antt`, `uslp_counting/proofs/Wrong.antt`) keep none of them. And none reports a too-long
-- total wrapped.
use mathlib.Core.Path.{◌≡◌, refl, sym, ◌∙◌, ap, subst}
use mathlib.Core.Bool.{true}
use mathlib.Core.Logic.{◌↔◌}
use mathlib.Core.List.{List, [], ◌∷◌}
use Prim.Native.Nat.{ℕ, ◌≤◌}
use native.Mathlib.Omega.{arith}
use lib.ListN.{length}
use Rattle.uslp_octets.specs.Octets.{AreOctets}
use Rattle.uslp_kinds.specs.Outcome.{Outcome, done, refused, leaving}
use Rattle.uslp_kinds.proofs.Back.{leaving_one}
use Rattle.uslp_kinds.proofs.Outcomes.{not_done}
use Rattle.uslp_kinds.specs.declared.ManagedParameters.{ManagedParameters}
use Rattle.uslp_primary_header.specs.Header.{header_checking}
use Rattle.uslp_data_field_header.specs.Field.{field_checking}
use Rattle.uslp_writer.proofs.Lengths.{length_long}
use Rattle.uslp_writer.proofs.Paths.{writing_refused}
use Rattle.uslp_reader.specs.Reader.{frame_reading}
use Rattle.uslp_reader.specs.declared.TransferFrame.{TransferFrame}
use Rattle.uslp_record.specs.Record.{keeping}
use Rattle.uslp_record.specs.declared.Channel.{Channel}
use Rattle.uslp_record.specs.declared.ChannelRecord.{ChannelRecord}
use Rattle.uslp_hearing.specs.Hearing.{channel_of}
use Rattle.uslp_roundtrip.specs.Samples.{plain}
use Rattle.uslp_roundtrip.specs.Laid.{WrongFecf}
use Rattle.uslp_roundtrip.proofs.Unequal.{refused_exactly}
use Rattle.uslp_roundtrip.specs.Demand as frames
use Rattle.uslp_roundtrip.proofs.Demand.{reads, writes}
use Rattle.uslp_counting.specs.History as histories
use Rattle.uslp_counting.specs.Demand.{Demand3}
use Rattle.uslp_counting.specs.Restarts.{Restart, Demand3Over}
use Rattle.uslp_counting.specs.History.Call.{hears_many}
use Rattle.uslp_counting.specs.Updated.{NoExpedited, Demand3Updated, Demand3Shared}
use Rattle.uslp_counting.proofs.Theorem.{counted_over, over}
use Rattle.uslp_counting.proofs.Updated.{shared, updated}
use Rattle.uslp_counting.proofs.MadeByCalls.{many_called}
use Rattle.uslp_end_to_end.specs.Many.{no_frames, KeptMany, paper_many}
use Rattle.uslp_end_to_end.specs.Singly.{Singly}
use Rattle.uslp_end_to_end.proofs.Singly.{one_at_a_time}
use Rattle.uslp_hearing.proofs.Heard.{frame_heard}
use Rattle.uslp_intake.specs.Intake.{stopped, paper_intake}
use Rattle.uslp_cutting.specs.Offering.{Passage, Call, Promised, Offered, one_block, NoFrameYet, passage}
use Rattle.uslp_intake.proofs.Calls.{stop_stops}
use Rattle.uslp_cutting.proofs.Cutting.{cutting, from_nothing}
use Rattle.uslp_counting.specs.Blocks.{Demand3InBlocks}
use Rattle.uslp_counting.proofs.Blocks.{in_blocks}
use Rattle.uslp_demands.specs.Promise.{at, at_mut, Program, Keeps}
use Rattle.uslp_demands.proofs.OfWriter.{fn_write_to_slice}
use Rattle.uslp_demands.proofs.OfReader.{fn_from_bytes}
use Rattle.uslp_demands.proofs.OfIntake.{fn_take_block}
use Rattle.uslp_demands.proofs.OfHearing.{fn_hear, fn_hear_frame}
use Rattle.uslp_demands.proofs.OfMany.{fn_hear_many}
use Rattle.uslp_kinds.specs.Answers.{paper}

-- what a program does, as the demands see it
abbrev pub reader_of : Program fn_from_bytes → frames.Reader
reader_of f s managed = paper (f ([], tt) (at s, (managed, tt))).0

abbrev pub writer_of : Program fn_write_to_slice → frames.Writer
writer_of f c d s =
    leaving (paper (f ([], ([], tt)) (c, (at d, (at_mut s, tt)))).0) (f ([], ([], tt)) (c, (at d, (at_mut s, tt)))).1.1.1.0

abbrev pub hearer_of : Program fn_hear → histories.Hearer
hearer_of f r s managed = keeping (paper (f ([], tt) (r, (at s, (managed, tt)))).0.answer) (f ([], tt) (r, (at s, (managed, tt)))).0.next

pub reader_demand : (f : Program fn_from_bytes) → Keeps fn_from_bytes f → frames.Demand2Reader (reader_of f)
reader_demand f k = subst frames.Demand2Reader (λ i s managed. sym (k ([], tt) (at s, (managed, tt))) i) reads

-- and it refuses with 6 exactly if the FECF as stored and as computed differ, and shows these two
pub reader_unequal : (f : Program fn_from_bytes) → Keeps fn_from_bytes f → (s : List ℕ) → AreOctets s → (managed : ManagedParameters) (a b : ℕ)
    → (reader_of f s managed ≡ refused 6 (a ∷ b ∷ [])) ↔ ((managed.has_fecf ≡ true) × WrongFecf s a b)
reader_unequal f k s oct managed a b =
    subst (λ (o : Outcome TransferFrame). (o ≡ refused 6 (a ∷ b ∷ [])) ↔ ((managed.has_fecf ≡ true) × WrongFecf s a b)) (sym (k ([], tt) (at s, (managed, tt))))
    (refused_exactly s oct managed a b)

pub writer_demand : (f : Program fn_write_to_slice) → Keeps fn_write_to_slice f → frames.Demand2Writer (writer_of f)
writer_demand f k = subst frames.Demand2Writer (λ i c d s. sym (k ([], ([], tt)) (c, (at d, (at_mut s, tt)))) i) writes

pub hearer_demand_over : (f : Program fn_hear) → Keeps fn_hear f → Demand3Over Restart channel_of (hearer_of f)
hearer_demand_over f k = subst (Demand3Over Restart channel_of) (λ i r s managed. sym (k ([], tt) (r, (at s, (managed, tt)))) i) (counted_over channel_of)

pub hearer_demand : (f : Program fn_hear) → Keeps fn_hear f → Demand3 channel_of (hearer_of f)
hearer_demand f k = over Restart channel_of (hearer_of f) (hearer_demand_over f k)

-- and so does what it hears after the octets of a console not yet updated were restored
pub hearer_updated : (f : Program fn_hear) → Keeps fn_hear f → Demand3Updated NoExpedited (hearer_of f)
hearer_updated f k = subst (Demand3Updated NoExpedited) (λ i r s managed. sym (k ([], tt) (r, (at s, (managed, tt)))) i) updated

-- and what it hears in its legs of a run that consoles of both kinds share
pub hearer_shared : (f : Program fn_hear) → Keeps fn_hear f → Demand3Shared NoExpedited (hearer_of f)
hearer_shared f k = subst (Demand3Shared NoExpedited) (λ i r s managed. sym (k ([], tt) (r, (at s, (managed, tt)))) i) shared

-- whatever keeps the promise of the call for many frames comes to what hearing them one at a time comes to, for all managed parameters
pub many_single : (g : Program fn_hear_many) → Keeps fn_hear_many g → (r : ChannelRecord) (s : List ℕ) (managed : ManagedParameters) → AreOctets s
    → Singly managed s 0 no_frames r (paper_many (g ([], tt) (r, (at s, (managed, tt)))).0)
many_single g k r s managed oct = (one_at_a_time managed s oct r _).1 (k ([], tt) (r, (at s, (managed, tt))))

-- and the record that it leaves is the one that the call has in a history: so it may stand in any run
pub many_stands : (f : Program fn_hear) → Keeps fn_hear f → (g : Program fn_hear_many) → Keeps fn_hear_many g
    → (K : Channel) (r : ChannelRecord) (s : List ℕ) (managed : ManagedParameters)
    → (g ([], tt) (r, (at s, (managed, tt)))).0.next ≡ (histories.called channel_of (hearer_of f) K r (hears_many s managed)).1
many_stands f k g l K r s managed =
    ap (λ (q : KeptMany). q.next) (l ([], tt) (r, (at s, (managed, tt)))) ∙ many_called K r s managed
    ∙ ap (λ (H : histories.Hearer). (histories.called channel_of H K r (hears_many s managed)).1) (λ i r s managed. sym (k ([], tt) (r, (at s, (managed, tt)))) i)

-- whatever keeps the intake's promise gives the same for octets cut anyhow, and what stops it goes on to stop it
abbrev pub intake_of : Program fn_take_block → Call
intake_of f managed s held block =
    let x = f ([], ([], tt)) (at_mut s, (held, (at block, (managed, tt)))) in
    leaving (paper_intake x.0) x.1.0

intake_promised : (f : Program fn_take_block) → Keeps fn_take_block f → Promised (intake_of f)
intake_promised f k managed s held block = k ([], ([], tt)) (at_mut s, (held, (at block, (managed, tt))))

pub intake_cutting : (f : Program fn_take_block) → Keeps fn_take_block f → (managed : ManagedParameters) (s : List ℕ) (held : ℕ) → NoFrameYet managed s held
    → (blocks : List (List ℕ)) (p : Passage) → AreOctets (one_block blocks)
    → Offered (intake_of f) managed s held blocks p ↔ Offered (intake_of f) managed s held (one_block blocks ∷ []) p
intake_cutting f k managed s held w = cutting (intake_of f) (intake_promised f k) managed s held w

pub intake_passage : (f : Program fn_take_block) → Keeps fn_take_block f → (managed : ManagedParameters) (s : List ℕ) → 65536 ≤ length s
    → (blocks : List (List ℕ)) (p : Passage) → AreOctets (one_block blocks) → Offered (intake_of f) managed s 0 blocks p ↔ (p ≡ passage managed (one_block blocks))
intake_passage f k managed s room = from_nothing (intake_of f) (intake_promised f k) managed s room

pub intake_stops : (f : Program fn_take_block) → Keeps fn_take_block f
    → (managed : ManagedParameters) (s : List ℕ) (held : ℕ) (block t : List ℕ) (n m k : ℕ) (vs : List ℕ)
    → intake_of f managed s held block ≡ leaving (done (stopped n m k vs)) t → (next : List ℕ)
    → intake_of f managed t m next ≡ leaving (done (stopped 0 m k vs)) t
intake_stops f l managed s held block t n m k vs e next =
    intake_promised f l managed t m next ∙ stop_stops managed s held block t (sym (intake_promised f l managed s held block) ∙ e) next

-- and with whatever keeps the hearing's promise, the console knows what it lacks of octets that came in blocks
pub in_blocks_demand : (f : Program fn_hear) → Keeps fn_hear f → (g : Program fn_take_block) → Keeps fn_take_block g
    → Demand3InBlocks channel_of (hearer_of f) (intake_of g)
in_blocks_demand f k g l = in_blocks channel_of (hearer_of f) (hearer_demand f k) (intake_of g) (intake_promised g l)

-- hearing a frame as it was read is hearing its octets
pub frame_hearing_lem : (f : Program fn_hear) → Keeps fn_hear f → (g : Program fn_hear_frame) → Keeps fn_hear_frame g
    → (r : ChannelRecord) (s : List ℕ) (managed : ManagedParameters) (x : TransferFrame) → frame_reading s managed ≡ done x
    → keeping (paper (g tt (r, (x, tt))).0.answer) (g tt (r, (x, tt))).0.next ≡ hearer_of f r s managed
frame_hearing_lem f k g l r s managed x e = l tt (r, (x, tt)) ∙ frame_heard r s managed e ∙ sym (k ([], tt) (r, (at s, (managed, tt))))

-- a too-long total reported by a wrapped field: whatever the data and the buffer, 65,529 octets of data get TOO_LONG
plain_passes : (header_checking plain.primary_header ≡ done plain.primary_header) ×
    (field_checking plain.data_field_header ≡ done plain.data_field_header)
unfolding header_checking field_checking
plain_passes = (refl, refl)

pub no_wrapper : (f : Program fn_write_to_slice) → Keeps fn_write_to_slice f → (d s : List ℕ) → length d ≡ 65529
    → (n : ℕ) → paper (f ([], ([], tt)) (plain, (at d, (at_mut s, tt)))).0 ≡ done n → ⊥
no_wrapper f k d s long n e =
    let refused = writing_refused plain d s (length_long plain (length d) plain_passes.0 plain_passes.1 refl (omega arith)) in
    not_done (sym (leaving_one (k ([], ([], tt)) (plain, (at d, (at_mut s, tt))) ∙ refused)).0 ∙ e)
