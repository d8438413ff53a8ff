-- A console that takes octets in blocks and does other things between them: the frames are those of its blocks in one piece, and demand 3 over
-- restarts covers what it does.
use mathlib.Core.Path.{◌≡◌, refl, ap, sym, ◌∙◌, subst}
use mathlib.Core.List.{List, [], ◌∷◌, ◌++◌, map, append_assoc}
use Prim.Native.Nat.{ℕ, ◌+◌, ◌≤◌}
use lib.ListN.{length, take}
use Rattle.uslp_octets.specs.Octets.{AreOctets}
use Rattle.uslp_kinds.specs.declared.ManagedParameters.{ManagedParameters}
use Rattle.uslp_reader.specs.EndToEnd.{cut}
use Rattle.uslp_reader.specs.declared.TransferFrame.{TransferFrame}
use Rattle.uslp_cutting.specs.Offering.{Passage, Promised, Offered, one_block}
use Rattle.uslp_cutting.specs.Offering as intake
use Rattle.uslp_cutting.specs.Offering.Offered.{no_more as offers_none, waits_on as offers_wait, gives_out as offers_frame, stops_at as offers_stop, is_refused as offers_refused}
use Rattle.uslp_cutting.proofs.Cutting.{from_nothing}
use Rattle.uslp_record.specs.declared.Channel.{Channel}
use Rattle.uslp_record.specs.declared.ChannelRecord.{ChannelRecord}
use Rattle.uslp_hearing.specs.Hearing.{Naming}
use Rattle.uslp_counting.specs.History.{Hearer, Call, Handing, called, run, handed, Unfilled, Sender, Event}
use Rattle.uslp_counting.specs.Blocks.{as_they_come}
use Rattle.uslp_counting.specs.Restarts.{Leads, Demand3Over}
use Rattle.uslp_counting.specs.Restarts.Leads.{ends as leads_end, next as leads_next, restart as leads_restart_mod}
use Rattle.uslp_counting.specs.Live.{Doing, takes, blocks_in, calls_in, Live, LiveRun, Demand3Live}
use Rattle.uslp_counting.specs.Live.Live.{no_more, other, waits_on, gives_out, stops_at, is_refused}
use Rattle.uslp_counting.specs.Live.LiveRun.{ends, leg, restart}
use Rattle.uslp_counting.proofs.Singly.{run_singly, handed_singly, unfilled_singly}
use Rattle.uslp_counting.proofs.Theorem.{leads_of}

module _ (call : intake.Call) (managed : ManagedParameters) where
  -- the blocks alone, offered one after the other, come to a passage with these frames
  record Gives (s : List ℕ) (held : ℕ) (ds : List Doing) (fs : List (TransferFrame × List ℕ)) : Type 0 where
    comes_to : Passage
    offers : Offered call managed s held (blocks_in ds) comes_to
    same : comes_to.frames ≡ fs

  gives : {s : List ℕ} {held : ℕ} {ds : List Doing} {fs : List (TransferFrame × List ℕ)} {cs : List Call} → Live call managed s held ds fs cs
      → Gives s held ds fs
  gives no_more = record { comes_to = _; offers = offers_none; same = refl }
  gives (other c l) = let g = gives l in record { comes_to = g.comes_to; offers = g.offers; same = g.same }
  gives (waits_on e l) = let g = gives l in record { comes_to = _; offers = offers_wait e g.offers; same = g.same }
  gives (gives_out {t = t} {held = held} {n = n} {x = x} e l) =
      let g = gives l in
      record { comes_to = _; offers = offers_frame e g.offers; same = ap (λ (fs : List (TransferFrame × List ℕ)). (x, take (held + n) t) ∷ fs) g.same }
  gives (stops_at e) = record { comes_to = _; offers = offers_stop e; same = refl }
  gives (is_refused e) = record { comes_to = _; offers = offers_refused e; same = refl }

  -- so they are the frames that the lengths cut off in the octets of all the blocks, whatever is done between them
  pub live_frames : Promised call → (s : List ℕ) → 65536 ≤ length s → {ds : List Doing} {fs : List (TransferFrame × List ℕ)} {cs : List Call}
      → AreOctets (one_block (blocks_in ds)) → Live call managed s 0 ds fs cs → fs ≡ (cut managed (one_block (blocks_in ds))).frames
  live_frames promised s room {ds} oct l =
      let g = gives l in
      sym g.same ∙ ap (λ (p : Passage). p.frames) ((from_nothing call promised managed s room (blocks_in ds) g.comes_to oct).0 g.offers)

  no_calls : (blocks : List (List ℕ)) → calls_in (map takes blocks) ≡ []
  no_calls [] = refl
  no_calls (block ∷ blocks) = no_calls blocks

  -- blocks with nothing between them are a case
  pub live_blocks : {s : List ℕ} {held : ℕ} {blocks : List (List ℕ)} {p : Passage} → Offered call managed s held blocks p
      → Live call managed s held (map takes blocks) p.frames (as_they_come managed p)
  live_blocks offers_none = no_more
  live_blocks (offers_wait e o) = waits_on e (live_blocks o)
  live_blocks (offers_frame e o) = gives_out e (live_blocks o)
  live_blocks (offers_stop {blocks = blocks} e) = subst (Live call managed _ _ _ []) (no_calls blocks) (stops_at e)
  live_blocks (offers_refused {blocks = blocks} e) = subst (Live call managed _ _ _ []) (no_calls blocks) (is_refused e)

module _ (R : ChannelRecord → ChannelRecord → Type 0) {name : Naming} (H : Hearer) {K : Channel} {width : ℕ} {managed : ManagedParameters}
    (S : Sender name K width managed) where
  -- a run, and one that follows it
  leads_append : {r m q : ChannelRecord} {es ds : List (Event name K width)} {hs gs : List Handing} → Leads R H S r es hs m → Leads R H S m ds gs q
      → Leads R H S r (es ++ ds) (hs ++ gs) q
  leads_append leads_end k = k
  leads_append {q = q} {ds = ds} {gs = gs} (leads_next {r = r} {es = es} {hs = hs} ms c stand room l) k =
      let hand = (called name H K r c).0 in
      subst (λ (v : List (Event name K width)). Leads R H S r v ((hand ++ hs) ++ gs) q) (sym (append_assoc ms es ds))
      (subst (λ (v : List Handing). Leads R H S r (ms ++ (es ++ ds)) v q) (sym (append_assoc hand hs gs)) (leads_next ms c stand room (leads_append l k)))
  leads_append (leads_restart_mod g l) k = leads_restart_mod g (leads_append l k)

  module _ (call : intake.Call) where
    pub live_leads : {r q : ChannelRecord} {es : List (Event name K width)} {hs : List Handing} → LiveRun R H call S r es hs q → Leads R H S r es hs q
    live_leads ends = leads_end
    live_leads (restart g l) = leads_restart_mod g (live_leads l)
    live_leads (leg {r = r} ms link holding ds fs cs lives stand room l) =
        let a = leads_of R H S ms r (subst (Unfilled name H K r) stand (unfilled_singly name H K cs r room)) in
        let h = handed_singly name H K cs r ∙ ap (handed name H K r) stand in
        let e = run_singly name H K cs r ∙ ap (run name H K r) stand in
        leads_append
        (subst (λ (v : List Handing). Leads R H S r ms v (run name H K r cs)) (sym h) (subst (Leads R H S r ms _) (sym e) a))
        (live_leads l)

-- so any hearing that has demand 3 over restarts has it of such a console, whatever intake it uses
pub live : (R : ChannelRecord → ChannelRecord → Type 0) (name : Naming) (H : Hearer) → Demand3Over R name H → (call : intake.Call) → Demand3Live R name H call
live R name H demand call K width managed S r begun es hs q l = demand K width managed S r begun es hs q (live_leads R H S call l)
