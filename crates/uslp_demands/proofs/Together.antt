-- Hearing, saving, converting and restoring as programs together: whatever keeps the four promises, the console knows what it lacks over restarts.
use mathlib.Core.Path.{◌≡◌, refl, sym, ◌∙◌, subst}
use mathlib.Core.List.{List, []}
use Prim.Native.Nat.{ℕ}
use lib.ListN.{take}
use Rattle.uslp_kinds.specs.Outcome.{done, refused, leaving}
use Rattle.uslp_record.specs.Record.{keeping}
use Rattle.uslp_record.specs.declared.ChannelRecord.{ChannelRecord}
use Rattle.uslp_form.specs.declared.Form.{Form}
use Rattle.uslp_form.specs.Form.{Fitting}
use Rattle.uslp_form.specs.Saved.{Restoring, Converting}
use Rattle.uslp_hearing.specs.Hearing.{channel_of}
use Rattle.uslp_counting.specs.Restarts.{SavingOf, Restart, Demand3Over}
use Rattle.uslp_counting.specs.Restarts.SavingOf.{wrote as was_written, converted as was_converted}
use Rattle.uslp_counting.specs.Restarts.Restart.{resumes as goes_on, refuses as stays}
use Rattle.uslp_counting.specs.Live.{Demand3Live}
use Rattle.uslp_counting.proofs.Restarts.{leads_mono}
use Rattle.uslp_counting.proofs.Live.{live}
use Rattle.uslp_demands.specs.Promise.{at_mut, Program, Keeps}
use Rattle.uslp_demands.proofs.OfHearing.{fn_hear}
use Rattle.uslp_demands.proofs.OfIntake.{fn_take_block}
use Rattle.uslp_demands.proofs.OfSaved.{fn_save, fn_restore, saver_of, restorer_of, restores}
use Rattle.uslp_demands.proofs.OfConverting.{fn_convert, converter_of, converts}
use Rattle.uslp_demands.proofs.Wrong.{hearer_of, intake_of, hearer_demand_over}

module _ (s : Program fn_save) (c : Program fn_convert) (t : Program fn_restore) where
  -- octets that these programs left as a saving of r: what the one wrote, and what the other made of it
  pub data SavingBy (r : ChannelRecord) : Form → List ℕ → Type 0 where
    wrote : {f : Form} (b left : List ℕ) (n : ℕ) → Fitting f r → saver_of s f r b ≡ leaving (done n) left → SavingBy r f (take n left)
    converted : {f g : Form} {o : List ℕ} → SavingBy r f o → (b left : List ℕ) (n : ℕ) → converter_of c f g o b ≡ leaving (done n) left
        → SavingBy r g (take n left)

  -- a restart by them
  pub data RestartBy : ChannelRecord → ChannelRecord → Type 0 where
    resumes : {r q : ChannelRecord} {o : List ℕ} (f : Form) (found : ChannelRecord) → SavingBy r f o → restorer_of t f found o ≡ keeping (done tt) q
        → RestartBy r q
    refuses : {r q : ChannelRecord} {k : ℕ} {vs : List ℕ} (f : Form) (o : List ℕ) → restorer_of t f r o ≡ keeping (refused k vs) q → RestartBy r q

  module _ (save : Keeps fn_save s) (convert : Keeps fn_convert c) (restore : Keeps fn_restore t) where
    saving_by : {r : ChannelRecord} {f : Form} {o : List ℕ} → SavingBy r f o → SavingOf r f o
    saving_by {r} (wrote {f = f} b left n fit e) =
        was_written fit (record { buffer = b; left = left; count = n; saves = sym (save ([], tt) (r, (f, (at_mut b, tt)))) ∙ e; octets = refl })
    saving_by (converted {f = f} {g = g} {o = o} h b left n e) =
        was_converted (saving_by h)
        (record { buffer = b; left = left; count = n; converts = subst (Converting f g o b) e (converts c convert f g o b); octets = refl })

    restart_by : (r q : ChannelRecord) → RestartBy r q → Restart r q
    restart_by r q (resumes {o = o} f found h e) = goes_on f (saving_by h) (subst (Restoring f found o) e (restores t restore f found o))
    restart_by r q (refuses f o e) = stays f o (subst (Restoring f r o) e (restores t restore f r o))

    pub together : (f : Program fn_hear) → Keeps fn_hear f → Demand3Over RestartBy channel_of (hearer_of f)
    together f k K width managed S r begun es hs q l =
        hearer_demand_over f k K width managed S r begun es hs q (leads_mono RestartBy Restart restart_by (hearer_of f) S l)

    -- and where octets come in blocks, with other calls and restarts between them
    pub together_live : (f : Program fn_hear) → Keeps fn_hear f → (g : Program fn_take_block) → Demand3Live RestartBy channel_of (hearer_of f) (intake_of g)
    together_live f k g = live RestartBy channel_of (hearer_of f) (together f k) (intake_of g)
