-- The promise of `uslp_converting` settles its call, shuts out the tempting wrong programs, and makes passes go both ways.
use mathlib.Core.Path.{◌≡◌, sym, ◌∙◌, subst}
use mathlib.Core.Logic.{◌↔◌}
use mathlib.Core.List.{List, [], ◌∷◌, ◌++◌}
use Prim.Native.Nat.{ℕ, ◌+◌, ◌<◌, ◌≤◌}
use native.Mathlib.Omega.{arith}
use lib.Dec.{lit<, lit≤}
use lib.ListN.{length, take, drop}
use Rattle.uslp_octets.specs.Octets.{word}
use Rattle.uslp_kinds.specs.Outcome.{done, refused, Written, leaving}
use Rattle.uslp_kinds.proofs.Back.{leaving_one, paper_one}
use Rattle.uslp_kinds.proofs.Outcomes.{not_done}
use Rattle.uslp_record.specs.declared.SlotState.{SlotState}
use Rattle.uslp_record.specs.declared.ChannelRecord.{ChannelRecord}
use Rattle.uslp_form.specs.declared.Form.{Form}
use Rattle.uslp_form.specs.declared.Form.TheVariants.{One, Two}
use Rattle.uslp_form.specs.Form.{form, Ascending, GoodForm}
use Rattle.uslp_form.specs.FromRow.{flag_long}
use Rattle.uslp_form.specs.Saved.{Converting}
use Rattle.uslp_form.proofs.Converted as claims
use Rattle.uslp_form.proofs.Exactly as exactly
use Rattle.uslp_saved.specs.Reading.{first_count, second_count, place_of}
use Rattle.uslp_saved.proofs.Entries.{flags_read}
use Rattle.uslp_converting.proofs as converting
use Rattle.uslp_demands.specs.Promise.{Function, function, at, at_mut, Settles, Program, Keeps}
use Rattle.uslp_demands.proofs.Alike.{alike}
use Rattle.uslp_demands.proofs.OfSaved.{fn_restore, restorer_of, restores}
use Rattle.uslp_kinds.specs.Answers.{paper}

abbrev pub fn_convert : Function
fn_convert = function converting.convert.Kinds.ps converting.convert.Kinds.r converting.convert.Reads.Pre converting.convert.Reads.Learnt

pub convert_settles : Settles fn_convert
convert_settles = record {
  total = λ κs a. tt;
  same = λ κs a x y s t. let e = leaving_one (claims.converting_one a.0 a.1.1.0 _ _ s t) in
      alike (paper_one e.0) (λ i. (tt, (tt, (tt, (e.1 i, tt)))));
}

-- what a program leaves that converts, as the definition sees it
abbrev pub converter_of : Program fn_convert → Form → Form → List ℕ → List ℕ → Written ℕ
converter_of c f g s b = let x = c ([], ([], tt)) (f, (at s, (g, (at_mut b, tt)))) in leaving (paper x.0) x.1.1.1.1.0

-- octets are the form of some entries, and each section of it ascends
pub record Ascends (g : Form) (s : List ℕ) : Type 0 where
  pub unheard : List SlotState
  pub heard : List SlotState
  pub is : s ≡ form g unheard heard
  pub unheard_ascend : Ascending g unheard
  pub heard_ascend : Ascending g heard

-- any program that keeps the promise of `convert`
module _ (c : Program fn_convert) (keeps : Keeps fn_convert c) where
  pub converts : (f g : Form) (s b : List ℕ) → Converting f g s b (converter_of c f g s b)
  converts f g s b = keeps ([], ([], tt)) (f, (at s, (g, (at_mut b, tt))))

  done_so : (f g : Form) (s b : List ℕ) {n : ℕ} {t : List ℕ} → converter_of c f g s b ≡ leaving (done n) t → Converting f g s b (leaving (done n) t)
  done_so f g s b e = subst (Converting f g s b) e (converts f g s b)

  -- old to new to old gives the same octets, and new to old to new, into whatever buffer has room for them
  pub there_and_back : (f g : Form) (s b : List ℕ) {n : ℕ} {t : List ℕ} → converter_of c f g s b ≡ leaving (done n) t
      → (d : List ℕ) → length s ≤ length d → converter_of c g f (take n t) d ≡ leaving (done (length s)) (s ++ drop (length s) d)
  there_and_back f g s b {n} {t} e d room = claims.there_and_back (done_so f g s b e) d room (converts g f (take n t) d)

  -- new to old is done exactly if the octets are a good form 2, every flag is 0, and there is room
  pub record Downs (s b : List ℕ) : Type 0 where
    pub count : ℕ
    pub left : List ℕ
    pub is : converter_of c Two One s b ≡ leaving (done count) left

  pub down_exactly : (s b : List ℕ) → Downs s b ↔ exactly.Downable s b
  down_exactly s b = (
    λ d. (exactly.down_exactly s b).0 (record { count = d.count; left = d.left; is = done_so Two One s b d.is }),
    λ k.
        let d = (exactly.down_exactly s b).1 k in
        record { count = d.count; left = d.left; is = claims.converting_one Two One s b (converts Two One s b) d.is },
  )

  -- restoring what was converted leaves what restoring the original leaves, whichever program restores, and whatever record it finds
  pub restores_alike : (p : Program fn_restore) → Keeps fn_restore p → (f g : Form) (s b : List ℕ) {n : ℕ} {t : List ℕ}
      → converter_of c f g s b ≡ leaving (done n) t → (r : ChannelRecord) → restorer_of p g r (take n t) ≡ restorer_of p f r s
  restores_alike p kept f g s b {n} {t} e r =
      sym (claims.restores_alike (done_so f g s b e) (restores p kept f r s) (restores p kept g r (take n t)))

  -- 18 only where the octets are no good form, and 19 only where form 1 is to be written and a channel in them is expedited
  pub form_only : (f g : Form) (s b : List ℕ) {vs t : List ℕ} → converter_of c f g s b ≡ leaving (refused 18 vs) t
      → (us hs : List SlotState) → GoodForm f s us hs → ⊥
  form_only f g s b e = exactly.form_only f g s b (subst (Converting f g s b) e (converts f g s b))

  pub lacks_only : (f : Form) (s b : List ℕ) {vs t : List ℕ} → converter_of c f One s b ≡ leaving (refused 19 vs) t → exactly.Lacking f s
  lacks_only f s b e = exactly.lacks_only f s b (subst (Converting f One s b) e (converts f One s b))

  pub lacks_never : (f : Form) (s b : List ℕ) {vs t : List ℕ} → converter_of c f Two s b ≡ leaving (refused 19 vs) t → ⊥
  lacks_never f s b e = exactly.up_lacks_none f s b (subst (Converting f Two s b) e (converts f Two s b))

  -- converting that drops an expedited channel: it answers 19, whatever room there is, and writes nothing
  module _ (s b : List ℕ) (k : exactly.Lacking Two s) where
    pub lacks_answer : converter_of c Two One s b ≡ leaving (refused 19 []) b
    lacks_answer = exactly.down_lacks s b k (converts Two One s b)

    pub no_channel_dropped : {n : ℕ} {t : List ℕ} → converter_of c Two One s b ≡ leaving (done n) t → ⊥
    no_channel_dropped e = not_done (sym (leaving_one (sym e ∙ lacks_answer)).0)

    -- 2 before 19
    pub no_late_lack : {vs t : List ℕ} → converter_of c Two One s b ≡ leaving (refused 2 vs) t → ⊥
    no_late_lack e = let d = (leaving_one (sym e ∙ lacks_answer)).0 in let z : ◌≡◌ {A = ℕ} 2 19 = cc in omega arith

  -- converting that leaves the sort of the other form: each section of what it writes ascends as its own form does
  pub no_other_sort : (f g : Form) (s b : List ℕ) {n : ℕ} {t : List ℕ} → converter_of c f g s b ≡ leaving (done n) t → Ascends g (take n t)
  no_other_sort f g s b e =
      let h = done_so f g s b e in
      let k = claims.good_wrote h in
      record { unheard = (claims.told h).unheard; heard = (claims.told h).heard; is = k.octets; unheard_ascend = k.unheard_ascend; heard_ascend = k.heard_ascend }

  -- a flag other than 0 or 1 taken: 18, of whatever entry, in whichever form it is to be written
  pub no_flag_taken : (f g : Form) (s b : List ℕ) (i : ℕ) → i < first_count f s + second_count f s
      → 2 ≤ word 3 (flag_long f) (drop (place_of f (first_count f s) i) s) → converter_of c f g s b ≡ leaving (refused 18 []) b
  no_flag_taken f g s b i low h = claims.converting_bad f g s b (λ us hs k. omega (arith, flags_read f s us hs k i low)) (converts f g s b)

  pub no_flag_two : (b : List ℕ) → converter_of c Two One (1 ∷ 0x12 ∷ 0x34 ∷ 5 ∷ 2 ∷ 1 ∷ 0 ∷ []) b ≡ leaving (refused 18 []) b
  no_flag_two b = no_flag_taken Two One (1 ∷ 0x12 ∷ 0x34 ∷ 5 ∷ 2 ∷ 1 ∷ 0 ∷ []) b 0 (lit< tt) (lit≤ tt)
