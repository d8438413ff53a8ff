-- Converting: done, it leaves the form of the same entries; both ways round; and what is restored from either is the same.
use mathlib.Core.Path.{◌≡◌, refl, sym, ◌∙◌, ap, subst}
use mathlib.Core.Logic.{◌↔◌}
use mathlib.Core.Bool.{false}
use mathlib.Core.List.{List, [], ◌∷◌, ◌++◌}
use Prim.Native.Nat.{ℕ, ◌<◌, ◌≤◌}
use native.Mathlib.Omega.{arith}
use native.Mathlib.Decide.{dec_lt}
use lib.ListN.{length, take, drop, length-append}
use lib.Seq.{take-append_seam}
use Rattle.uslp_kinds.specs.Outcome.{Outcome, done, refused, Written, leaving}
use Rattle.uslp_kinds.proofs.Back.{leaving_one}
use Rattle.uslp_kinds.proofs.Outcomes.{not_done}
use Rattle.uslp_record.proofs.Back.{keeping_one}
use Rattle.uslp_record.specs.Record.{Kept, keeping}
use Rattle.uslp_record.specs.declared.SlotState.{SlotState}
use Rattle.uslp_record.specs.declared.ChannelRecord.{ChannelRecord}
use Rattle.uslp_form.specs.Entries.{Each}
use Rattle.uslp_form.specs.declared.Form.{Form}
use Rattle.uslp_form.specs.Form.{says_all, EntrySaid, RecordSaid, form, GoodForm, restored}
use Rattle.uslp_form.specs.Saved.{saving, Restoring, Converting}
use Rattle.uslp_form.specs.Saved.Converting.{good, bad}
use Rattle.uslp_form.proofs.Across.{good_across, saved_across, said_restored, entries_said}
use Rattle.uslp_form.proofs.Rows.{good_one, restores_done}
use Rattle.uslp_form.proofs.Claims.{saving_lacks, saving_done, saving_short, saves, saving_kept, restoring_good, restoring_bad, refused_bad}
use Rattle.std.specs.Prelude.{Result, Ok}
use Rattle.uslp_kinds.specs.Answers.{paper}
use Rattle.uslp_kinds.specs.declared.Refusal.{Refusal}

-- a refusal is the same of whatever result
refused_alike : {A B : Type 0} {n m : ℕ} {vs ws : List ℕ} → ◌≡◌ {A = Outcome A} (refused n vs) (refused m ws)
    → ◌≡◌ {A = Outcome B} (refused n vs) (refused m ws)
refused_alike e = cc

module _ (f g : Form) where
  module _ (s b : List ℕ) where
    -- A converting that is done: octets s are a good form of some entries, and what it wrote is the other form of the same. The octets behind
    -- it stay.
    pub record Converts (n : ℕ) (t : List ℕ) : Type 0 where
      pub unheard : List SlotState
      pub heard : List SlotState
      pub from : GoodForm f s unheard heard
      pub to : GoodForm g (form g unheard heard) unheard heard
      pub count : n ≡ length (form g unheard heard)
      pub left : t ≡ form g unheard heard ++ drop (length (form g unheard heard)) b

    pub converts : {n : ℕ} {t : List ℕ} → Converting f g s b (leaving (done n) t) → Converts n t
    converts {n} {t} h = go h refl
      where
        go : {o : Written ℕ} → Converting f g s b o → o ≡ leaving (done n) t → Converts n t
        go (good us hs k) e =
            let d = saves g (restored (us ++ hs)) b (sym e) in
            let w = entries_said f g (us ++ hs) d.said in
            let a = saved_across f g us hs k w in
            record {
              unheard = us;
              heard = hs;
              from = k;
              to = good_across f g us hs k w;
              count = d.count ∙ ap length a;
              left = d.left ∙ ap (λ (l : List ℕ). l ++ drop (length l) b) a;
            }
        go (bad m) e = absurd (not_done (leaving_one e).0)

    -- what it wrote is that form
    pub wrote_across : {n : ℕ} {t : List ℕ} (c : Converts n t) → take n t ≡ form g c.unheard c.heard
    wrote_across c =
        let w = form g c.unheard c.heard in
        (λ i. take (c.count i) (c.left i)) ∙ take-append_seam w (drop (length w) b)

    -- which stands in the buffer; the same of the answer of a call
    converting_fits : {n : ℕ} {t : List ℕ} → Converting f g s b (leaving (done n) t) → n ≤ length t
    converting_fits h =
        let d = converts h in
        let w = form g d.unheard d.heard in
        omega (arith, d.count, ap length d.left, length-append w (drop (length w) b))

    pub converted_within : (t : List ℕ) (a : Result ℕ Refusal) (n : ℕ) → a ≡ Ok n → Converting f g s b (leaving (paper a) t) → n ≤ length t
    converted_within t a n e h = converting_fits (subst (λ (x : Result ℕ Refusal). Converting f g s b (leaving (paper x) t)) e h)

    -- a converting leaves one thing only
    pub converting_good : (us hs : List SlotState) {o : Written ℕ} → GoodForm f s us hs → Converting f g s b o → o ≡ saving g (restored (us ++ hs)) b
    converting_good us hs k (good vs gs j) =
        let e = good_one f j k in
        λ i. saving g (restored (e.0 i ++ e.1 i)) b
    converting_good us hs k (bad m) = absurd (m us hs k)

    pub converting_bad : {o : Written ℕ} → ((us hs : List SlotState) → GoodForm f s us hs → ⊥) → Converting f g s b o → o ≡ leaving (refused 18 []) b
    converting_bad n (good us hs k) = absurd (n us hs k)
    converting_bad n (bad m) = refl

    pub converting_one : {o p : Written ℕ} → Converting f g s b o → Converting f g s b p → o ≡ p
    converting_one (good us hs k) q = sym (converting_good us hs k q)
    converting_one (bad m) q = sym (converting_bad m q)

    -- done exactly if the octets are a good form whose channels the other says, and there is room
    pub record Convertible : Type 0 where
      pub unheard : List SlotState
      pub heard : List SlotState
      pub from : GoodForm f s unheard heard
      pub said : RecordSaid g (restored (unheard ++ heard))
      pub room : length (form g unheard heard) ≤ length b

    pub record Done : Type 0 where
      pub count : ℕ
      pub left : List ℕ
      pub is : Converting f g s b (leaving (done count) left)

    pub converting_done : (c : Convertible)
        → let w = form g c.unheard c.heard in Converting f g s b (leaving (done (length w)) (w ++ drop (length w) b))
    converting_done c =
        let r = restored (c.unheard ++ c.heard) in
        let a = saved_across f g c.unheard c.heard c.from (entries_said f g (c.unheard ++ c.heard) c.said) in
        subst (Converting f g s b)
        (saving_done g r b c.said (omega (arith, ap length a, c.room)) ∙ ap (λ (l : List ℕ). leaving (done (length l)) (l ++ drop (length l) b)) a)
        (good c.unheard c.heard c.from)

    pub done_exactly : Done ↔ Convertible
    done_exactly = (there, λ c. record { count = _; left = _; is = converting_done c })
      where
        there : Done → Convertible
        there d =
            let c = converts d.is in
            let us = c.unheard in
            let hs = c.heard in
            let w = said_restored f g us hs c.from c.to.flags in
            let a = saved_across f g us hs c.from c.to.flags in
            let e = converting_good us hs c.from d.is in
            record {
              unheard = us;
              heard = hs;
              from = c.from;
              said = w;
              room = elim (dec_lt (length b) (length (form g us hs))) [
                | yes h ↦ absurd (not_done (sym (leaving_one (e ∙ saving_short g (restored (us ++ hs)) b w (omega (arith, ap length a)))).0))
                | no h ↦ omega arith
              ];
            }

    -- 19 where the other form does not say every entry, whatever room there is; else 2 where there is none
    module _ (us hs : List SlotState) (k : GoodForm f s us hs) {o : Written ℕ} (h : Converting f g s b o) where
      pub converting_lacks : says_all g (restored (us ++ hs)).slots ≡ false → o ≡ leaving (refused 19 []) b
      converting_lacks e = converting_good us hs k h ∙ saving_lacks g (restored (us ++ hs)) b e

      pub converting_short : Each (EntrySaid g) (us ++ hs) → length b < length (form g us hs)
          → o ≡ leaving (refused 2 (length b ∷ length (form g us hs) ∷ [])) b
      converting_short w e =
          let a = saved_across f g us hs k w in
          converting_good us hs k h
          ∙ saving_short g (restored (us ++ hs)) b (said_restored f g us hs k w) (omega (arith, ap length a))
          ∙ ap (λ (l : List ℕ). leaving (refused 2 (length b ∷ length l ∷ [])) b) a

    -- it is restoring, whatever record is found, and then saving
    pub converting_restored : {r q : ChannelRecord} → Restoring f r s (keeping (done tt) q) → Converting f g s b (saving g q b)
    converting_restored h =
        let d = restores_done f h in
        subst (λ (q : ChannelRecord). Converting f g s b (saving g q b)) d.is (good d.unheard d.heard d.is_good)

    pub converting_unrestored : {r q : ChannelRecord} {n : ℕ} {vs : List ℕ} → Restoring f r s (keeping (refused n vs) q)
        → Converting f g s b (leaving (refused n vs) b)
    converting_unrestored {r} {q} {n} {vs} h =
        let none = refused_bad f r s h in
        subst (λ (o : Outcome ℕ). Converting f g s b (leaving o b)) (refused_alike (keeping_one (sym (restoring_bad f r s _ none h))).0) (bad none)

    -- refused, it leaves what it found
    pub converting_kept : {n : ℕ} {vs t : List ℕ} → Converting f g s b (leaving (refused n vs) t) → t ≡ b
    converting_kept {n} {vs} {t} h = go h refl
      where
        go : {o : Written ℕ} → Converting f g s b o → o ≡ leaving (refused n vs) t → t ≡ b
        go (good us hs k) e = saving_kept g (restored (us ++ hs)) b e
        go (bad m) e = sym (leaving_one e).1

-- There and back: what a converting wrote, converted back into whatever buffer has room, is the octets that it came from. From form 1 this is old to
-- new to old, from form 2 new to old to new.
module _ {f g : Form} {s b : List ℕ} {n : ℕ} {t : List ℕ} (h : Converting f g s b (leaving (done n) t)) where
  pub told : Converts f g s b n t
  told = converts f g s b h

  -- what it wrote is a good form of the same entries
  pub good_wrote : GoodForm g (take n t) told.unheard told.heard
  good_wrote = subst (λ (l : List ℕ). GoodForm g l told.unheard told.heard) (sym (wrote_across f g s b told)) told.to

  pub there_and_back : (c : List ℕ) → length s ≤ length c → {o : Written ℕ} → Converting g f (take n t) c o
      → o ≡ leaving (done (length s)) (s ++ drop (length s) c)
  there_and_back c room k =
      let us = told.unheard in
      let hs = told.heard in
      let is = told.from.octets in
      let back : Convertible g f (take n t) c = record {
        unheard = us;
        heard = hs;
        from = good_wrote;
        said = said_restored g f us hs good_wrote told.from.flags;
        room = omega (arith, ap length is);
      } in
      converting_one g f (take n t) c k (converting_done g f (take n t) c back)
      ∙ ap (λ (l : List ℕ). leaving (done (length l)) (l ++ drop (length l) c)) (sym is)

  -- to its own form: the octets that it came from
  pub to_itself : f ≡ g → take n t ≡ s
  to_itself e = wrote_across f g s b told ∙ ap (λ (x : Form). form x told.unheard told.heard) (sym e) ∙ sym told.from.octets

  -- what is restored from either is the same, whatever record is found: done, and the record of the entries
  pub restores_alike : {r : ChannelRecord} {o p : Kept (Unit {0})} → Restoring f r s o → Restoring g r (take n t) p → o ≡ p
  restores_alike {r} {o} {p} a b =
      restoring_good f r s told.unheard told.heard o told.from a ∙ sym (restoring_good g r (take n t) told.unheard told.heard p good_wrote b)
