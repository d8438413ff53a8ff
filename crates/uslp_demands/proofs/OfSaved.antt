-- The promises of `uslp_saved` settle each call, and shut out the tempting wrong programs.
use mathlib.Core.Path.{◌≡◌, refl, sym, ◌∙◌, subst}
use mathlib.Core.List.{List, [], ◌∷◌, ◌++◌}
use mathlib.Core.Bool.{true}
use mathlib.Core.Logic.{◌⊎◌}
use Prim.Native.Nat.{ℕ, ◌+◌, ◌^◌, ◌<◌, ◌≤◌}
use native.Mathlib.Omega.{arith}
use lib.Dec.{lit<, lit≤}
use lib.ListN.{length, drop}
use Rattle.uslp_octets.specs.Octets.{word}
use Rattle.uslp_kinds.specs.Outcome.{done, refused, Written, leaving}
use Rattle.uslp_kinds.proofs.Back.{leaving_one, paper_one}
use Rattle.uslp_kinds.proofs.Outcomes.{not_done}
use Rattle.uslp_record.specs.Slots.{state_holds}
use Rattle.uslp_record.specs.Record.{Kept, keeping, most}
use Rattle.uslp_record.specs.declared.Channel.{Channel}
use Rattle.uslp_record.specs.declared.Totals.{Totals}
use Rattle.uslp_record.specs.declared.SlotState.{SlotState}
use Rattle.uslp_record.specs.declared.SlotState.TheVariants.{Heard}
use Rattle.uslp_record.specs.declared.ChannelRecord.{ChannelRecord}
use Rattle.uslp_record.proofs.Back.{keeping_one}
use Rattle.uslp_form.specs.Entries.{is_opened, is_heard, Each, Once}
use Rattle.uslp_form.specs.Form.{says_all, rows, insert, sorted, form, Ascending, GoodForm}
use Rattle.uslp_form.specs.declared.Form.{Form}
use Rattle.uslp_form.specs.declared.Form.TheVariants.{One, Two}
use Rattle.uslp_form.specs.FromRow.{flag_long}
use Rattle.uslp_form.specs.Saved.{saving, Restoring}
use Rattle.uslp_form.proofs.Each.{Has}
use Rattle.uslp_form.proofs.Rows.{Entry, restoring_one}
use Rattle.uslp_form.proofs.Flags.{Expedited, lacks_exactly, said_two}
use Rattle.uslp_form.proofs.Claims as claims
use Rattle.uslp_form.proofs.Wrong as wrong
use Rattle.uslp_saved.specs.Reading.{first_count, second_count, place_of}
use Rattle.uslp_saved.proofs.Entries.{flags_read}
use Rattle.uslp_saved.proofs as saved
use Rattle.uslp_demands.specs.Promise.{Function, function, at, at_mut, Allows, Settles, Program, Keeps}
use Rattle.uslp_demands.proofs.Alike.{alike, done_alike}
use Rattle.std.specs.Prelude.{Ok}
use Rattle.uslp_kinds.specs.Answers.{paper}

-- the functions, each with its promise
abbrev pub fn_save : Function
fn_save = function saved.save.Kinds.ps saved.save.Kinds.r saved.save.Reads.Pre saved.save.Reads.Learnt

abbrev pub fn_restore : Function
fn_restore = function saved.restore.Kinds.ps saved.restore.Kinds.r saved.restore.Reads.Pre saved.restore.Reads.Learnt

pub save_settles : Settles fn_save
save_settles = record {
  total = λ κs a. tt;
  same = λ κs a x y s t. let e = leaving_one (s ∙ sym t) in
      alike (paper_one e.0) (λ i. (tt, (tt, (e.1 i, tt))));
}

pub restore_settles : Settles fn_restore
restore_settles = record {
  total = λ κs a. tt;
  same = λ κs a x y s t. let e = keeping_one (restoring_one a.1.0 s t) in
      alike (λ i. record { answer = done_alike {x = x.0.answer} {y = y.0.answer} e.0 i; next = e.1 i }) refl;
}

-- saves in slot order; saves form 2 in the order of form 1; puts the later of two slots of one rank first; says done and writes nothing
abbrev zeros : List ℕ
zeros = 0 ∷ 0 ∷ 0 ∷ 0 ∷ 0 ∷ 0 ∷ 0 ∷ 0 ∷ 0 ∷ 0 ∷ 0 ∷ 0 ∷ []

pub save_unsorted : Allows fn_save ([], tt) (wrong.two, (One, (at_mut zeros, tt)))
    (Ok 10, (tt, (tt, (2 ∷ 0x12 ∷ 0x34 ∷ 5 ∷ 1 ∷ 0x12 ∷ 0x33 ∷ 63 ∷ 7 ∷ 0 ∷ 0 ∷ 0 ∷ [], tt)))) → ⊥
unfolding saving says_all rows insert sorted
save_unsorted e = let z : ◌≡◌ {A = ℕ} 0x34 0x33 = cc in omega arith

pub save_flag_unsorted : Allows fn_save ([], tt) (wrong.mixed, (Two, (at_mut zeros, tt)))
    (Ok 12, (tt, (tt, (2 ∷ 0x12 ∷ 0x34 ∷ 5 ∷ 1 ∷ 1 ∷ 0x12 ∷ 0x34 ∷ 5 ∷ 0 ∷ 7 ∷ 0 ∷ [], tt)))) → ⊥
unfolding saving says_all rows insert sorted
save_flag_unsorted e = let z : ◌≡◌ {A = ℕ} 1 0 = cc in omega arith

pub save_late_slot : Allows fn_save ([], tt) (wrong.twice, (One, (at_mut zeros, tt)))
    (Ok 10, (tt, (tt, (2 ∷ 0x12 ∷ 0x34 ∷ 5 ∷ 1 ∷ 0x12 ∷ 0x34 ∷ 5 ∷ 7 ∷ 0 ∷ 0 ∷ 0 ∷ [], tt)))) → ⊥
unfolding saving says_all rows insert sorted
save_late_slot e = let z : ◌≡◌ {A = ℕ} 1 7 = cc in omega arith

pub save_idle : Allows fn_save ([], tt) (wrong.two, (One, (at_mut zeros, tt))) (Ok 10, (tt, (tt, (zeros, tt)))) → ⊥
unfolding saving says_all rows insert sorted
save_idle e = let z : ◌≡◌ {A = ℕ} 0 2 = cc in omega arith

-- what a program leaves that saves, as the definition sees it
abbrev pub saver_of : Program fn_save → Form → ChannelRecord → List ℕ → Written ℕ
saver_of f g r b = let x = f ([], tt) (r, (g, (at_mut b, tt))) in leaving (paper x.0) x.1.1.1.0

-- any program that keeps the promise of `save`
module _ (f : Program fn_save) (keeps : Keeps fn_save f) (r : ChannelRecord) (b : List ℕ) where
  -- saving form 1, it answers 19 exactly if an open channel is expedited, whatever room there is, and then writes nothing
  pub lacks_answer : Expedited r → saver_of f One r b ≡ leaving (refused 19 []) b
  lacks_answer x = keeps ([], tt) (r, (One, (at_mut b, tt))) ∙ claims.saving_lacks One r b ((lacks_exactly r).1 x)

  pub lacks_only : {vs t : List ℕ} → saver_of f One r b ≡ leaving (refused 19 vs) t → Expedited r
  lacks_only {vs} {t} e = claims.lacks_of r b (sym (keeps ([], tt) (r, (One, (at_mut b, tt)))) ∙ e)

  -- saving form 2, it never does
  pub lacks_never : {vs t : List ℕ} → saver_of f Two r b ≡ leaving (refused 19 vs) t → ⊥
  lacks_never {vs} {t} e = claims.saving_said Two r b (said_two r) (sym (keeps ([], tt) (r, (Two, (at_mut b, tt)))) ∙ e)

  -- saving form 1 and dropping the flag
  pub no_flag_dropped : Expedited r → {n : ℕ} {t : List ℕ} → saver_of f One r b ≡ leaving (done n) t → ⊥
  no_flag_dropped x e = not_done (sym (leaving_one (sym e ∙ lacks_answer x)).0)

  -- a 19 that is given after 2
  pub no_late_lack : Expedited r → {vs t : List ℕ} → saver_of f One r b ≡ leaving (refused 2 vs) t → ⊥
  no_late_lack x e = let d = (leaving_one (sym e ∙ lacks_answer x)).0 in let z : ◌≡◌ {A = ℕ} 2 19 = cc in omega arith

-- what a program leaves that restores, as the definition sees it
abbrev pub restorer_of : Program fn_restore → Form → ChannelRecord → List ℕ → Kept (Unit {0})
restorer_of f g r s = let x = f ([], tt) (r, (g, (at s, tt))) in keeping (paper x.0.answer) x.0.next

-- any program that keeps the promise of `restore`, of either form
module _ (f : Program fn_restore) (keeps : Keeps fn_restore f) (g : Form) (r : ChannelRecord) where
  pub restores : (s : List ℕ) → Restoring g r s (restorer_of f g r s)
  restores s = keeps ([], tt) (r, (g, (at s, tt)))

  abbrev Refuses : List ℕ → Type 0
  Refuses s = restorer_of f g r s ≡ keeping (refused 18 []) r

  -- octets left over
  pub no_left_over : (s : List ℕ) (us hs : List SlotState) → GoodForm g s us hs → (x : ℕ) (t : List ℕ) → Refuses (s ++ (x ∷ t))
  no_left_over s us hs k x t = claims.left_over g r s us hs x t _ k (restores (s ++ (x ∷ t)))

  -- octets wanting at the end
  pub no_too_few : (s : List ℕ) (us hs : List SlotState) (x : ℕ) (t : List ℕ) → GoodForm g (s ++ (x ∷ t)) us hs → Refuses s
  no_too_few s us hs x t k = wrong.too_few g r s us hs x t _ k (restores s)

  -- a flag other than 0 or 1, of whatever entry
  pub no_flag_taken : (s : List ℕ) (i : ℕ) → i < first_count g s + second_count g s
      → 2 ≤ word 3 (flag_long g) (drop (place_of g (first_count g s) i) s) → Refuses s
  no_flag_taken s i low h = claims.restoring_bad g r s _ (λ us hs k. omega (arith, flags_read g s us hs k i low)) (restores s)

  -- entries that fit their columns, but are not good
  module _ (us hs : List SlotState) (a : Each (Entry g is_opened) us) (b : Each (Entry g is_heard) hs) where
    abbrev octets : List ℕ
    octets = form g us hs

    pub no_nine : 8 < length (us ++ hs) → Refuses octets
    no_nine = wrong.no_nine g r us hs a b _ (restores octets)

    -- a channel twice, once in each section among the ways
    pub no_twice : (Once (us ++ hs) → ⊥) → Refuses octets
    no_twice = wrong.no_twice g r us hs a b _ (restores octets)

    pub no_in_each : (k : Channel) (x y : SlotState) → Has us x → Has hs y → state_holds k x ≡ true → state_holds k y ≡ true → Refuses octets
    no_in_each = wrong.no_in_each g r us hs a b _ (restores octets)

    pub no_none_handed : (k : Channel) (w : ℕ) (t : Totals) → Has (us ++ hs) (Heard k w t) → t.handed_on ≡ 0 → Refuses octets
    no_none_handed = wrong.no_none_handed g r us hs a b _ (restores octets)

    pub no_far_last : (k : Channel) (w : ℕ) (t : Totals) → Has (us ++ hs) (Heard k w t) → 256 ^ w ≤ t.last → Refuses octets
    no_far_last = wrong.no_far_last g r us hs a b _ (restores octets)

    pub no_high_total : (k : Channel) (w : ℕ) (t : Totals) → Has (us ++ hs) (Heard k w t)
        → (most < t.handed_on) ⊎ ((most < t.missing) ⊎ ((most < t.repeats) ⊎ (most < t.late))) → Refuses octets
    no_high_total = wrong.no_high_total g r us hs a b _ (restores octets)

    pub no_bad_field : (k : Channel) (w : ℕ) (x : SlotState) → Has (us ++ hs) x → wrong.Names k w x → (63 < k.vc_id) ⊎ ((w ≡ 0) ⊎ (7 < w)) → Refuses octets
    no_bad_field = wrong.no_bad_field g r us hs a b _ (restores octets)

    pub no_descending : (Ascending g us × Ascending g hs → ⊥) → Refuses octets
    no_descending = wrong.no_descending g r us hs a b _ (restores octets)

  -- restoring that keeps old channels: what it leaves of a good form is the same, whatever record it found
  pub no_old : (r' : ChannelRecord) (s : List ℕ) (us hs : List SlotState) → GoodForm g s us hs → restorer_of f g r s ≡ restorer_of f g r' s
  no_old r' s us hs k =
      claims.restoring_good g r s us hs _ k (restores s) ∙ sym (claims.restoring_good g r' s us hs _ k (keeps ([], tt) (r', (g, (at s, tt)))))

module _ (f : Program fn_restore) (keeps : Keeps fn_restore f) (r : ChannelRecord) where
  -- restoring form 1 that gives an expedited channel
  pub no_expedited : (s : List ℕ) {q : ChannelRecord} → restorer_of f One r s ≡ keeping (done tt) q → Expedited q → ⊥
  no_expedited s {q} e = wrong.none_expedited r q s (subst (Restoring One r s) e (restores f keeps One r s))

  -- a flag of 2 taken as 1: one channel that was not heard
  pub no_flag_two : restorer_of f Two r (1 ∷ 0x12 ∷ 0x34 ∷ 5 ∷ 2 ∷ 1 ∷ 0 ∷ []) ≡ keeping (refused 18 []) r
  no_flag_two = no_flag_taken f keeps Two r (1 ∷ 0x12 ∷ 0x34 ∷ 5 ∷ 2 ∷ 1 ∷ 0 ∷ []) 0 (lit< tt) (lit≤ tt)
