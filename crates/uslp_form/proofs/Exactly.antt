-- Converting from new to old is done exactly if every flag is 0, and each refusal of converting is given exactly where the rules have it.
use mathlib.Core.Path.{◌≡◌, refl, sym, ◌∙◌, ap}
use mathlib.Core.Logic.{◌↔◌}
use mathlib.Core.Bool.{Bool, true, false}
use mathlib.Core.List.{List, [], ◌++◌}
use Prim.Native.Nat.{ℕ, ◌<◌, ◌≤◌}
use native.Mathlib.Omega.{arith}
use native.Mathlib.Decide.{dec_lt}
use lib.Dec.{eqb}
use lib.ListN.{length}
use Rattle.uslp_kinds.specs.Kinds.{bypass_number}
use Rattle.uslp_kinds.specs.Outcome.{refused, Written, leaving}
use Rattle.uslp_kinds.proofs.Back.{leaving_one}
use Rattle.uslp_kinds.proofs.Outcomes.{not_done}
use Rattle.uslp_record.specs.declared.SlotState.{SlotState}
use Rattle.uslp_record.specs.declared.SlotState.TheVariants.{Closed, Opened, Heard}
use Rattle.uslp_record.specs.declared.ChannelRecord.{ChannelRecord}
use Rattle.uslp_form.specs.Entries.{Each}
use Rattle.uslp_form.specs.declared.Form.{Form}
use Rattle.uslp_form.specs.declared.Form.TheVariants.{One, Two}
use Rattle.uslp_form.specs.Form.{says_all, EntrySaid, form, form_of, GoodForm, restored}
use Rattle.uslp_form.specs.Saved.{saving, Converting}
use Rattle.uslp_form.specs.Saved.Converting.{good, bad}
use Rattle.uslp_form.proofs.Each.{each_map}
use Rattle.uslp_form.proofs.Flags.{is_controlled, Expedited, lacks_exactly, said_two}
use Rattle.uslp_form.proofs.Across.{said_restored, entries_said}
use Rattle.uslp_form.proofs.Claims.{saving_lacks, saving_done, saving_short, saving_said, lacks_of}
use Rattle.uslp_form.proofs.Converted.{Done, done_exactly, converting_lacks}

-- the flag of an entry is 0: form 1 says it exactly then
abbrev pub FlagZero : SlotState → Type 0
FlagZero Closed = Unit {0}
FlagZero (Opened k width) = bypass_number k.sequence_control_flag ≡ 0
FlagZero (Heard k width totals) = bypass_number k.sequence_control_flag ≡ 0

said_zero : (x : SlotState) → EntrySaid One x → FlagZero x
said_zero Closed e = tt
said_zero (Opened k w) e = ap bypass_number (is_controlled k.sequence_control_flag e)
said_zero (Heard k w t) e = ap bypass_number (is_controlled k.sequence_control_flag e)

zero_said : (x : SlotState) → FlagZero x → EntrySaid One x
zero_said Closed e = refl
zero_said (Opened k w) e = ap (λ (n : ℕ). eqb n 0) e
zero_said (Heard k w t) e = ap (λ (n : ℕ). eqb n 0) e

-- new to old is done exactly if the octets are a good form 2, every flag is 0, and there is room
pub record Downable (s b : List ℕ) : Type 0 where
  pub unheard : List SlotState
  pub heard : List SlotState
  pub from : GoodForm Two s unheard heard
  pub flags : Each FlagZero (unheard ++ heard)
  pub room : length (form One unheard heard) ≤ length b

pub down_exactly : (s b : List ℕ) → Done Two One s b ↔ Downable s b
down_exactly s b = (
  λ d.
      let c = (done_exactly Two One s b).0 d in
      let l = c.unheard ++ c.heard in
      record {
        unheard = c.unheard;
        heard = c.heard;
        from = c.from;
        flags = each_map (EntrySaid One) FlagZero said_zero l (entries_said Two One l c.said);
        room = c.room;
      },
  λ c.
      (done_exactly Two One s b).1 (record {
        unheard = c.unheard;
        heard = c.heard;
        from = c.from;
        said = said_restored Two One c.unheard c.heard c.from
            (each_map FlagZero (EntrySaid One) zero_said (c.unheard ++ c.heard) c.flags);
        room = c.room;
      }),
)

-- 18 only where the octets are no good form
saving_form : (g : Form) (r : ChannelRecord) (b : List ℕ) {vs t : List ℕ} → saving g r b ≡ leaving (refused 18 vs) t → ⊥
saving_form g r b {vs} {t} e = go (says_all g r.slots) refl (dec_lt (length b) (length (form_of g r)))
  where
    go : (x : Bool) → says_all g r.slots ≡ x → Dec (length b < length (form_of g r)) → ⊥
    go true w (yes h) = let d = (leaving_one (sym (saving_short g r b w h) ∙ e)).0 in let z : ◌≡◌ {A = ℕ} 2 18 = cc in omega arith
    go true w (no h) = not_done (sym (leaving_one (sym (saving_done g r b w (omega arith)) ∙ e)).0)
    go false w h = let d = (leaving_one (sym (saving_lacks g r b w) ∙ e)).0 in let z : ◌≡◌ {A = ℕ} 19 18 = cc in omega arith

pub form_only : (f g : Form) (s b : List ℕ) {vs t : List ℕ} → Converting f g s b (leaving (refused 18 vs) t)
    → (us hs : List SlotState) → GoodForm f s us hs → ⊥
form_only f g s b {vs} {t} h = go h refl
  where
    go : {o : Written ℕ} → Converting f g s b o → o ≡ leaving (refused 18 vs) t → (us hs : List SlotState) → GoodForm f s us hs → ⊥
    go (good us hs k) e = absurd (saving_form g (restored (us ++ hs)) b e)
    go (bad m) e = m

-- 19 exactly if the octets are a good form, form 1 is to be written, and a channel in them is expedited, whatever room there is
pub record Lacking (f : Form) (s : List ℕ) : Type 0 where
  pub unheard : List SlotState
  pub heard : List SlotState
  pub from : GoodForm f s unheard heard
  pub expedited : Expedited (restored (unheard ++ heard))

pub down_lacks : (s b : List ℕ) → Lacking Two s → {o : Written ℕ} → Converting Two One s b o → o ≡ leaving (refused 19 []) b
down_lacks s b k h =
    converting_lacks Two One s b k.unheard k.heard k.from h ((lacks_exactly (restored (k.unheard ++ k.heard))).1 k.expedited)

pub lacks_only : (f : Form) (s b : List ℕ) {vs t : List ℕ} → Converting f One s b (leaving (refused 19 vs) t) → Lacking f s
lacks_only f s b {vs} {t} h = go h refl
  where
    go : {o : Written ℕ} → Converting f One s b o → o ≡ leaving (refused 19 vs) t → Lacking f s
    go (good us hs k) e = record { unheard = us; heard = hs; from = k; expedited = lacks_of (restored (us ++ hs)) b e }
    go (bad m) e = let d = (leaving_one e).0 in let z : ◌≡◌ {A = ℕ} 18 19 = cc in absurd (omega arith)

-- to form 2 it is never given
pub up_lacks_none : (f : Form) (s b : List ℕ) {vs t : List ℕ} → Converting f Two s b (leaving (refused 19 vs) t) → ⊥
up_lacks_none f s b {vs} {t} h = go h refl
  where
    go : {o : Written ℕ} → Converting f Two s b o → o ≡ leaving (refused 19 vs) t → ⊥
    go (good us hs k) e = saving_said Two (restored (us ++ hs)) b (said_two (restored (us ++ hs))) e
    go (bad m) e = let d = (leaving_one e).0 in let z : ◌≡◌ {A = ℕ} 18 19 = cc in omega arith
