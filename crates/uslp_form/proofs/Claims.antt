-- What saving and restoring answer and leave, both ways round; how long a form is, and how it ascends.
use mathlib.Core.Path.{◌≡◌, refl, sym, ◌∙◌, ap}
use mathlib.Core.Logic.{◌↔◌, ◌⊎◌, inl, inr}
use mathlib.Core.Bool.{Bool, true, false, not}
use mathlib.Core.List.{List, [], ◌∷◌, ◌++◌, append_assoc, append-nil}
use Prim.Native.Nat.{ℕ, suc, ◌+◌, ◌*◌, ◌<◌, ◌≤◌}
use native.Mathlib.Omega.{arith}
use native.Mathlib.Nat.{mul-le-mul_right}
use native.Mathlib.Decide.{dec_lt}
use lib.Dec.{ltb}
use lib.ListN.{length, drop, replicate, length-append}
use borrow.Author.Tests.{le-ltb, lt-ltb}
use Rattle.uslp_octets.specs.Octets.{value_of, pack}
use Rattle.uslp_kinds.specs.Outcome.{done, refused, leaving, first_of}
use Rattle.uslp_kinds.specs.declared.BypassSequenceControlFlag.TheVariants.{SequenceControlledQoS}
use Rattle.uslp_kinds.proofs.Back.{leaving_one}
use Rattle.uslp_kinds.proofs.Cases.{bypass_lt}
use Rattle.uslp_kinds.proofs.Outcomes.{not_done, done_one, refused_keeps}
use Rattle.uslp_record.proofs.Back.{keeping_one}
use Rattle.uslp_record.specs.Slots.{slot_of}
use Rattle.uslp_record.specs.Record.{Kept, keeping, showing, console_total}
use Rattle.uslp_record.specs.declared.Channel.{Channel}
use Rattle.uslp_record.specs.declared.SlotState.{SlotState}
use Rattle.uslp_record.specs.declared.SlotState.TheVariants.{Closed, Opened, Heard}
use Rattle.uslp_record.specs.declared.ChannelRecord.{ChannelRecord}
use Rattle.uslp_form.specs.Entries.{is_opened, is_heard}
use Rattle.uslp_record.specs.Made.{Made}
use Rattle.uslp_form.specs.declared.Form.{Form}
use Rattle.uslp_form.specs.Form.{flag_column, columns, row, says_all, RecordSaid, rows, section, insert, sorted, form_of, GoodForm, restored}
use Rattle.uslp_form.specs.declared.Form.TheVariants.{One, Two}
use Rattle.uslp_form.specs.FromRow.{heard_long}
use Rattle.uslp_form.specs.Saved.{saving, Restoring}
use Rattle.uslp_form.specs.Saved.Restoring.{good, bad}
use Rattle.uslp_form.proofs.Flags.{Expedited, lacks_exactly}
use Rattle.uslp_form.proofs.Sorted.{not_both, sorted_length}
use Rattle.uslp_form.proofs.Trips.{unheard_of, heard_of, entries_of, good_saved, saved_again, said_good}
use Rattle.uslp_form.proofs.Asked.{asked_again, total_again}
use Rattle.uslp_form.proofs.Rows.{opened_size, heard_size, good_unheard, good_heard, good_one, section_opened, section_heard, restores_done}
use Rattle.std.specs.Prelude.{Result, Ok}
use Rattle.uslp_kinds.specs.Answers.{paper}
use Rattle.uslp_kinds.specs.declared.Refusal.{Refusal}

-- saving: 19 where the form does not say every open channel, whatever room there is; else with room it is done, the octets behind the form
-- stay; else 2, and nothing is written
module _ (f : Form) (r : ChannelRecord) (b : List ℕ) where
  pub saving_lacks : says_all f r.slots ≡ false → saving f r b ≡ leaving (refused 19 []) b
  unfolding saving
  saving_lacks e = simp e

  module _ (said : RecordSaid f r) where
    pub saving_done : length (form_of f r) ≤ length b → saving f r b ≡ leaving (done (length (form_of f r))) (form_of f r ++ drop (length (form_of f r)) b)
    unfolding saving
    saving_done h = simp (said, le-ltb (length b) (length (form_of f r)) h)

    pub saving_short : length b < length (form_of f r) → saving f r b ≡ leaving (refused 2 (length b ∷ length (form_of f r) ∷ [])) b
    unfolding saving
    saving_short h = simp (said, lt-ltb (length b) (length (form_of f r)) h)

  -- a saving that is done: the form says every open channel, and what it leaves is the form with the octets behind it
  pub record Saves (n : ℕ) (t : List ℕ) : Type 0 where
    pub said : RecordSaid f r
    pub count : n ≡ length (form_of f r)
    pub left : t ≡ form_of f r ++ drop (length (form_of f r)) b

  pub saves : {n : ℕ} {t : List ℕ} → leaving (done n) t ≡ saving f r b → Saves n t
  saves {n} {t} e = go (says_all f r.slots) refl (dec_lt (length b) (length (form_of f r)))
    where
      go : (x : Bool) → says_all f r.slots ≡ x → Dec (length b < length (form_of f r)) → Saves n t
      go true w (yes h) = absurd (not_done (sym (leaving_one (e ∙ saving_short w h)).0))
      go true w (no h) =
          let d = leaving_one (e ∙ saving_done w (omega arith)) in
          record { said = w; count = done_one d.0; left = d.1 }
      go false w h = absurd (not_done (sym (leaving_one (e ∙ saving_lacks w)).0))

  -- what was written stands in the buffer
  pub saving_fits : {n : ℕ} {t : List ℕ} → leaving (done n) t ≡ saving f r b → n ≤ length t
  saving_fits e =
      let d = saves e in omega (arith, d.count, ap length d.left, length-append (form_of f r) (drop (length (form_of f r)) b))

-- the same of the answer of a call
pub saved_within : (f : Form) (r : ChannelRecord) (b t : List ℕ) (a : Result ℕ Refusal) (n : ℕ) → a ≡ Ok n
    → leaving (paper a) t ≡ saving f r b → n ≤ length t
saved_within f r b t a n e h = saving_fits f r b (ap (λ (x : Result ℕ Refusal). leaving (paper x) t) (sym e) ∙ h)

-- refused, it leaves what it found
pub saving_kept : (f : Form) (r : ChannelRecord) (b : List ℕ) {n : ℕ} {vs t : List ℕ} → saving f r b ≡ leaving (refused n vs) t → t ≡ b
unfolding saving
saving_kept f r b e =
    let n = length (form_of f r) in
    refused_keeps
    (first_of ((not (says_all f r.slots), refused 19 []) ∷ (ltb (length b) n, refused 2 (length b ∷ n ∷ [])) ∷ []) (done n))
    (form_of f r ++ drop n b) b e

-- 19 is given only where the form does not say every open channel: form 1 exactly if one is expedited
pub saving_said : (f : Form) (r : ChannelRecord) (b : List ℕ) → RecordSaid f r → {vs t : List ℕ} → saving f r b ≡ leaving (refused 19 vs) t → ⊥
saving_said f r b w {vs} {t} e = go (dec_lt (length b) (length (form_of f r)))
  where
    go : Dec (length b < length (form_of f r)) → ⊥
    go (yes h) = let d = (leaving_one (sym (saving_short f r b w h) ∙ e)).0 in let z : ◌≡◌ {A = ℕ} 2 19 = cc in omega arith
    go (no h) = not_done (sym (leaving_one (sym (saving_done f r b w (omega arith)) ∙ e)).0)

pub lacks_of : (r : ChannelRecord) (b : List ℕ) {vs t : List ℕ} → saving One r b ≡ leaving (refused 19 vs) t → Expedited r
lacks_of r b {vs} {t} e = go (says_all One r.slots) refl
  where
    go : (x : Bool) → says_all One r.slots ≡ x → Expedited r
    go true w = absurd (saving_said One r b w e)
    go false w = (lacks_exactly r).0 w

-- restoring: done exactly if the octets are a good form, and then with the record of its entries (`restores_done` is the way back)
module _ (f : Form) (r : ChannelRecord) (s : List ℕ) where
  pub restoring_good : (us hs : List SlotState) (o : Kept (Unit {0})) → GoodForm f s us hs → Restoring f r s o → o ≡ keeping (done tt) (restored (us ++ hs))
  restoring_good us hs o g (good vs gs k) =
      let h = good_one f k g in
      λ i. keeping (done tt) (restored (h.0 i ++ h.1 i))
  restoring_good us hs o g (bad n) = absurd (n us hs g)

  -- else 18, and the record is kept
  pub restoring_bad : (o : Kept (Unit {0})) → ((us hs : List SlotState) → GoodForm f s us hs → ⊥) → Restoring f r s o → o ≡ keeping (refused 18 []) r
  restoring_bad o n (good vs gs k) = absurd (n vs gs k)
  restoring_bad o n (bad m) = refl

  pub refused_bad : {k : ℕ} {vs : List ℕ} {q : ChannelRecord} → Restoring f r s (keeping (refused k vs) q)
      → (us hs : List SlotState) → GoodForm f s us hs → ⊥
  refused_bad h us hs g = not_done (keeping_one (restoring_good us hs _ g h)).0

  -- restoring, then saving: the same octets, whatever record stood before
  pub saves_same : {q : ChannelRecord} → Restoring f r s (keeping (done tt) q) → (b : List ℕ) → length s ≤ length b
      → saving f q b ≡ leaving (done (length s)) (s ++ drop (length s) b)
  saves_same {q} h b room =
      let d = restores_done f h in
      let e : form_of f q ≡ s = ap (form_of f) (sym d.is) ∙ saved_again f s d.unheard d.heard d.is_good in
      let w : RecordSaid f q =
      ap (λ (x : ChannelRecord). says_all f x.slots) (sym d.is) ∙ said_good f s d.unheard d.heard d.is_good in
      saving_done f q b w (omega (arith, ap length e, room)) ∙ ap (λ (l : List ℕ). leaving (done (length l)) (l ++ drop (length l) b)) e

-- a record that calls made and whose open channels the form says, saved and restored, whatever record was found: done, and what is asked is
-- answered as before
pub record Back (f : Form) (r q : ChannelRecord) : Type 0 where
  pub asked : (K : Channel) → showing q K ≡ showing r K
  pub total : console_total q ≡ console_total r
  pub again : form_of f q ≡ form_of f r

module _ (f : Form) (r : ChannelRecord) (made : Made r) (said : RecordSaid f r) (found : ChannelRecord) where
  pub restores_saved : Restoring f found (form_of f r) (keeping (done tt) (restored (entries_of f r)))
  restores_saved = good (unheard_of f r) (heard_of f r) (good_saved f r made said)

  pub comes_back : Back f r (restored (entries_of f r))
  comes_back = record {
    asked = asked_again f r made said;
    total = total_again f r made said;
    again = saved_again f (form_of f r) (unheard_of f r) (heard_of f r) (good_saved f r made said);
  }

-- octets left over are refused
pub left_over : (f : Form) (r : ChannelRecord) (s : List ℕ) (us hs : List SlotState) (x : ℕ) (t : List ℕ) (o : Kept (Unit {0}))
    → GoodForm f s us hs → Restoring f r (s ++ (x ∷ t)) o → o ≡ keeping (refused 18 []) r
left_over f r s us hs x t o g = restoring_bad f r (s ++ (x ∷ t)) o (λ vs gs k. never vs gs k)
  where
    never : (vs gs : List SlotState) → GoodForm f (s ++ (x ∷ t)) vs gs → ⊥
    never vs gs k =
        let e : section f us ++ (section f hs ++ (x ∷ t)) ≡ section f vs ++ section f gs =
        sym (append_assoc (section f us) (section f hs) (x ∷ t)) ∙ ap (λ (l : List ℕ). l ++ (x ∷ t)) (sym g.octets) ∙ k.octets in
        let a = section_opened f us vs (good_unheard f g) (good_unheard f k) (section f hs ++ (x ∷ t)) (section f gs) e in
        let b = section_heard f hs gs (good_heard f g) (good_heard f k) (x ∷ t) [] (a.1 ∙ sym (append-nil (section f gs))) in
        let z : suc (length t) ≡ 0 = ap length b.1 in
        omega arith

-- no form has more octets than two counts and eight channels that were heard: 354 in form 1, 362 in form 2; and eight such channels have as many
row_long : (f : Form) (x : SlotState) → length (pack (row f x)) ≤ heard_long f
row_long f Closed = omega arith
row_long f (Opened k w) = omega (arith, opened_size f k w)
row_long f (Heard k w t) = omega (arith, heard_size f k w t)

rows_long : (f : Form) (l : List SlotState) → length (rows f l) ≤ length l * heard_long f
unfolding rows
rows_long f [] = omega arith
rows_long f (x ∷ l) = omega (arith, length-append (pack (row f x)) (rows f l), row_long f x, rows_long f l)

eight_long : (f : Form) (n m : ℕ) → n + m ≤ 8 → n * heard_long f + m * heard_long f ≤ 8 * heard_long f
eight_long One n m h = omega arith
eight_long Two n m h = omega arith

pub form_long_lem : (f : Form) (r : ChannelRecord) → length r.slots ≡ 8 → length (form_of f r) ≤ 2 + 8 * heard_long f
form_long_lem f r long =
    let us = unheard_of f r in
    let hs = heard_of f r in
    let few : length us + length hs ≤ 8 = omega (arith, sorted_length f is_opened is_heard not_both r.slots) in
    omega (
      arith,
      length-append (section f us) (section f hs),
      rows_long f us,
      rows_long f hs,
      eight_long f (length us) (length hs) few,
    )

-- so none has more than 362
pub form_within : (f : Form) (r : ChannelRecord) → length r.slots ≡ 8 → length (form_of f r) ≤ 362
form_within One r long = omega (arith, form_long_lem One r long)
form_within Two r long = omega (arith, form_long_lem Two r long)

abbrev eight_heard : ChannelRecord
eight_heard = record {
  slots = replicate 8 (slot_of
      (Heard (record { spacecraft_id = 9; vc_id = 0; sequence_control_flag = SequenceControlledQoS }) 2
      (record { last = 258; handed_on = 3; missing = 1; repeats = 0; late = 0 })));
}

pub form_longest : (f : Form) → length (form_of f eight_heard) ≡ 2 + 8 * heard_long f
unfolding rows insert sorted
form_longest One = refl
form_longest Two = refl

-- two numbers of two digits each, the first counting most
module _ (m x y p q : ℕ) (a : p < m) (b : q < m) where
  lex_there : x * m + p < y * m + q → (x < y) ⊎ ((x ≡ y) × (p < q))
  lex_there h = go (dec_lt x y) (dec_lt y x)
    where
      go : Dec (x < y) → Dec (y < x) → (x < y) ⊎ ((x ≡ y) × (p < q))
      go (yes u) v = inl u
      go (no u) (yes v) = let z : suc y * m ≤ x * m = mul-le-mul_right m v in absurd (omega arith)
      go (no u) (no v) = let e : x ≡ y = omega arith in inr (e, omega (arith, ap (λ (n : ℕ). n * m) e))

  lex_back : (x < y) ⊎ ((x ≡ y) × (p < q)) → x * m + p < y * m + q
  lex_back (inl u) = let z : suc x * m ≤ y * m = mul-le-mul_right m u in omega arith
  lex_back (inr u) = omega (arith, ap (λ (n : ℕ). n * m) u.0, u.1)

-- a form ascends by spacecraft, then channel, then flag where it has the column
abbrev Before : Form → Channel → Channel → Type 0
Before f a b =
    (a.spacecraft_id < b.spacecraft_id) ⊎ ((a.spacecraft_id ≡ b.spacecraft_id) ×
    ((a.vc_id < b.vc_id) ⊎ ((a.vc_id ≡ b.vc_id) × (value_of (flag_column f a) < value_of (flag_column f b)))))

-- what a column counts before the flag's
scale : Form → ℕ
scale One = 1
scale Two = 256

module _ (f : Form) (k : Channel) where
  low : ℕ
  low = k.vc_id * scale f + value_of (flag_column f k)

  in_columns : value_of (columns f k) ≡ k.spacecraft_id * (256 * scale f) + low
  unfolding scale low
  in_columns = go f
    where
      go : (g : Form) → value_of (columns g k) ≡ k.spacecraft_id * (256 * scale g) + (k.vc_id * scale g + value_of (flag_column g k))
      go One = omega arith
      go Two = omega arith

  flag_small : value_of (flag_column f k) < scale f
  unfolding scale
  flag_small = go f
    where
      go : (g : Form) → value_of (flag_column g k) < scale g
      go One = omega arith
      go Two = omega (arith, bypass_lt k.sequence_control_flag)

  low_small : k.vc_id < 256 → low < 256 * scale f
  unfolding low
  low_small h = let z : suc k.vc_id * scale f ≤ 256 * scale f = mul-le-mul_right (scale f) h in omega (arith, flag_small)

pub rank_order : (f : Form) (a b : Channel) → a.vc_id < 256 → b.vc_id < 256
    → (value_of (columns f a) < value_of (columns f b)) ↔ Before f a b
unfolding low
rank_order f a b h k = (
  λ e. go (lex_there (256 * scale f) _ _ _ _ (low_small f a h) (low_small f b k) (omega (arith, in_columns f a, in_columns f b))),
  λ u.
      let z = lex_back (256 * scale f) a.spacecraft_id b.spacecraft_id _ _ (low_small f a h) (low_small f b k) (back u) in
      omega (arith, in_columns f a, in_columns f b),
)
  where
    go : (a.spacecraft_id < b.spacecraft_id) ⊎ ((a.spacecraft_id ≡ b.spacecraft_id) × (low f a < low f b)) → Before f a b
    go (inl u) = inl u
    go (inr u) = inr (u.0, lex_there (scale f) _ _ _ _ (flag_small f a) (flag_small f b) u.1)

    back : Before f a b → (a.spacecraft_id < b.spacecraft_id) ⊎ ((a.spacecraft_id ≡ b.spacecraft_id) × (low f a < low f b))
    back (inl u) = inl u
    back (inr u) = inr (u.0, lex_back (scale f) _ _ _ _ (flag_small f a) (flag_small f b) u.1)
