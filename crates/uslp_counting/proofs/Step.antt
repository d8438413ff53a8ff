-- One step of the count: what an arrival makes of it when it is the first, ahead, a repeat, late. No record stands here.
use mathlib.Core.Path.{◌≡◌, refl, sym, ◌∙◌, ap, ap₂, subst}
use mathlib.Core.Bool.{Bool, false, cond}
use mathlib.Core.List.{List, [], ◌∷◌, ◌++◌, append_assoc}
use Prim.Native.Nat.{ℕ, suc, ◌+◌, ◌-◌, ◌^◌, ◌/◌, ◌<◌, ◌≤◌}
use native.Mathlib.Omega.{arith}
use native.Mathlib.Decide.{dec_lt}
use lib.ListN.{length}
use Rattle.uslp_kinds.specs.Outcome.{done}
use Rattle.uslp_kinds.specs.declared.ManagedParameters.{ManagedParameters}
use Rattle.uslp_record.specs.Record.{most, missing_of}
use Rattle.uslp_record.specs.Judging.{ahead, arrival_of, totals_after, first_totals, overfull, arrival_at, totals_at, width_at}
use Rattle.uslp_record.specs.declared.Channel.{Channel}
use Rattle.uslp_record.specs.declared.Totals.{Totals}
use Rattle.uslp_record.specs.declared.SlotState.{SlotState}
use Rattle.uslp_record.specs.declared.SlotState.TheVariants.{Opened, Heard}
use Rattle.uslp_record.specs.declared.Arrival.{Arrival}
use Rattle.uslp_record.specs.declared.Arrival.TheVariants.{New, Repeat, Late}
use Rattle.uslp_record.proofs.Count.{not_full}
use Rattle.uslp_hearing.specs.Hearing.{Naming, frame_arrival}
use Rattle.uslp_counting.specs.Places.{furthest, ahead_of, Close, lost}
use Rattle.uslp_counting.specs.History.{Handing, handing, Sender, frame_at, handing_at, following, handings}
use Rattle.uslp_counting.proofs.Arrival.{count_at, sent_at, handing_new, arrival_repeat, arrival_new, arrival_late}
use Rattle.uslp_counting.proofs.Lost.{furthest_more, furthest_new, furthest_old, lost_more, lost_one, ahead_yes, ahead_no}

module _ {name : Naming} {K : Channel} {width : ℕ} {managed : ManagedParameters} (S : Sender name K width managed) where
  -- the state of the channel, after the places seen, of which `before` were handed on
  pub data Counting : List ℕ → List ℕ → SlotState → Type 0 where
    quiet : Counting [] [] (Opened K width)
    going : (k : ℕ) (ks : List ℕ) (f : ℕ) (l : List ℕ) (t : Totals) → t.last ≡ count_at S (furthest (k ∷ ks)) → furthest (f ∷ l) ≡ furthest (k ∷ ks)
        → t.missing ≡ lost (f ∷ l) → t.handed_on + t.repeats + t.late ≡ length (k ∷ ks) → Counting (k ∷ ks) (f ∷ l) (Heard K width t)

  pub counting_width : {seen before : List ℕ} {t : SlotState} → Counting seen before t → width ≡ width_at t
  counting_width quiet = refl
  counting_width (going k ks f l t last top gone all) = refl

  pub counting_missing : {seen before : List ℕ} {t : SlotState} → Counting seen before t → missing_of t ≡ lost before
  unfolding lost
  counting_missing quiet = refl
  counting_missing (going k ks f l t last top gone all) = gone

  -- the handings of leaders, after the places seen
  abbrev pub handings_after : List ℕ → List ℕ → List Handing
  handings_after [] ls = handings S ls
  handings_after (k ∷ ks) ls = following S (furthest (k ∷ ks)) ls

  module _ (p : ℕ) (behind : List ℕ) where
    abbrev pub octets : List ℕ
    octets = frame_at S p ++ behind

    -- p arrives as `arrival`, which leaves the totals `after`: what is handed on is what the leaders ask for, and the count goes on
    pub record Advanced (seen before : List ℕ) (arrival : Arrival) (after : Totals) : Type 0 where
      pub leading : List ℕ
      pub counting : Counting (p ∷ seen) leading (Heard K width after)
      pub leads : (ls : List ℕ) → leading ++ ls ≡ before ++ cond (ahead_of seen p) (p ∷ ls) ls
      pub hands : (ls : List ℕ) → handing name K octets (done (frame_arrival (sent_at S p) arrival)) ++ handings_after (p ∷ seen) ls
          ≡ handings_after seen (cond (ahead_of seen p) (p ∷ ls) ls)

    advance_first : Advanced [] [] (New 0) (first_totals (count_at S p))
    unfolding ahead_of handings furthest
    advance_first =
        let high = furthest_new p [] (omega arith) in
        record {
          leading = p ∷ [];
          counting = going p [] p [] (first_totals (count_at S p)) (sym (ap (count_at S) high)) refl (sym (lost_one p)) refl;
          leads = λ ls. refl;
          hands = λ ls.
              ap (λ (hs : List Handing). hs ++ following S (furthest (p ∷ [])) ls) (handing_new S p behind 0)
              ∙ ap (λ (v : ℕ). handing_at S 0 p ∷ following S v ls) high;
        }

    -- after the first, with q the furthest before
    module _ (lo : 1 ≤ width) (hi : width ≤ 7) (k : ℕ) (ks : List ℕ) (f : ℕ) (l : List ℕ) (t : Totals)
        (last : t.last ≡ count_at S (furthest (k ∷ ks))) (top : furthest (f ∷ l) ≡ furthest (k ∷ ks)) (gone : t.missing ≡ lost (f ∷ l))
        (all : t.handed_on + t.repeats + t.late ≡ length (k ∷ ks)) where
      abbrev q : ℕ
      q = furthest (k ∷ ks)

      abbrev By : Arrival → Type 0
      By a = Advanced (k ∷ ks) (f ∷ l) a (totals_after a (count_at S p) t)

      arrives_by : (a : Arrival) → arrival_of width (ahead width (count_at S p) t.last) ≡ a → By a
          → By (arrival_of width (ahead width (count_at S p) t.last))
      arrives_by a e = subst By (sym e)

      advance_ahead : q < p → By (New (p - q - 1))
      unfolding following
      advance_ahead a =
          let high = furthest_new p (k ∷ ks) (omega arith) in
          let gap : p - q - 1 ≡ p - suc q = omega arith in
          record {
            leading = (f ∷ l) ++ (p ∷ []);
            counting =
                going p (k ∷ ks) f (l ++ (p ∷ [])) (totals_after (New (p - q - 1)) (count_at S p) t) (sym (ap (count_at S) high))
                (omega (arith, furthest_more p (f ∷ l))) (omega (arith, lost_more f p l (omega arith))) (omega arith);
            leads = λ ls. append_assoc (f ∷ l) (p ∷ []) ls ∙ sym (ap (λ (z : Bool). (f ∷ l) ++ cond z (p ∷ ls) ls) (ahead_yes p (k ∷ ks) a));
            hands = λ ls.
                ap (λ (hs : List Handing). hs ++ following S (furthest (p ∷ k ∷ ks)) ls) (handing_new S p behind (p - q - 1))
                ∙ ap₂ (λ (g v : ℕ). handing_at S g p ∷ following S v ls) gap high
                ∙ sym (ap (λ (z : Bool). following S q (cond z (p ∷ ls) ls)) (ahead_yes p (k ∷ ks) a));
          }

      -- an arrival that hands nothing on and leaves last and missing
      advance_behind : (a : Arrival) → p ≤ q → handing name K octets (done (frame_arrival (sent_at S p) a)) ≡ []
          → (totals_after a (count_at S p) t).last ≡ t.last → (totals_after a (count_at S p) t).missing ≡ t.missing
          → (totals_after a (count_at S p) t).handed_on + (totals_after a (count_at S p) t).repeats + (totals_after a (count_at S p) t).late ≡ length (p ∷ k ∷ ks)
          → By a
      advance_behind a h nothing same-last same-missing more =
          let high = furthest_old p (k ∷ ks) h in
          record {
            leading = f ∷ l;
            counting =
                going p (k ∷ ks) f l (totals_after a (count_at S p) t) (same-last ∙ last ∙ sym (ap (count_at S) high)) (top ∙ sym high)
                (same-missing ∙ gone) more;
            leads = λ ls. sym (ap (λ (z : Bool). (f ∷ l) ++ cond z (p ∷ ls) ls) (ahead_no k ks p h));
            hands = λ ls.
                ap₂ (λ (hs : List Handing) (v : ℕ). hs ++ following S v ls) nothing high
                ∙ sym (ap (λ (z : Bool). following S q (cond z (p ∷ ls) ls)) (ahead_no k ks p h));
          }

      pub advance_going : p ≤ q + 256 ^ width / 2 → q < p + 256 ^ width / 2 → By (arrival_of width (ahead width (count_at S p) t.last))
      advance_going near far = go (dec_lt q p) (dec_lt p q)
        where
          go : Dec (q < p) → Dec (p < q) → By (arrival_of width (ahead width (count_at S p) t.last))
          go (yes a) b = arrives_by (New (p - q - 1)) (arrival_new S lo hi p q t.last last a near) (advance_ahead a)
          go (no a) (yes b) =
              arrives_by Late (arrival_late S lo hi p q t.last last b far) (advance_behind Late (omega arith) refl refl refl (omega arith))
          go (no a) (no b) =
              arrives_by Repeat (arrival_repeat S lo hi p q t.last last (omega arith)) (advance_behind Repeat (omega arith) refl refl refl (omega arith))

    -- any arrival in the window
    pub advance : 1 ≤ width → width ≤ 7 → {seen before : List ℕ} {t : SlotState} → Counting seen before t → Close (256 ^ width / 2) seen p
        → Advanced seen before (arrival_at t (count_at S p)) (totals_at t (count_at S p))
    unfolding Close
    advance lo hi quiet near = advance_first
    advance lo hi (going k ks f l t last top gone all) near = advance_going lo hi k ks f l t last top gone all near.0 near.1

  heard_room : {seen before : List ℕ} {x : SlotState} → Counting seen before x → (t : Totals) → x ≡ Heard K width t → length seen ≤ most
      → lost before ≤ most → overfull t ≡ false
  heard_room quiet t e few less = cc
  heard_room (going k ks f l u last top gone all) t e few less =
      let same : u ≡ t = cc in
      subst (λ (v : Totals). overfull v ≡ false) same (not_full u (omega arith) (omega arith) (omega arith) (omega arith))

  -- totals of few arrivals, of which few are lost, are not full
  pub counting_room : {k : ℕ} {ks before : List ℕ} {t : Totals} → Counting (k ∷ ks) before (Heard K width t) → length (k ∷ ks) ≤ most → lost before ≤ most
      → overfull t ≡ false
  counting_room {t = t} c few less = heard_room c t refl few less
