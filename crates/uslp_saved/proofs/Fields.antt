-- The fields of the rows of a form, from a place on.
use mathlib.Core.Path.{◌≡◌, refl, ap, ap₂, sym, ◌∙◌}
use Prim.Native.Nat.{ℕ, ◌+◌, ◌*◌, ◌<◌}
use Prim.Native.String.{String}
use mathlib.Core.List.{List, [], ◌∷◌, ◌++◌}
use native.Mathlib.Omega.{arith}
use native.Mathlib.Nat.{add-zero}
use lib.ListN.{get_or, drop}
use lib.Seq.{drop-drop}
use Rattle.uslp_octets.specs.Octets.{AreOctets, BitField, bits_in, unpack, word}
use Rattle.uslp_octets.proofs.Laws.{field_eq, unpack_cons, are_drop, word_drop}
use Rattle.uslp_kinds.proofs.Cases.{bypass_number_lem}
use Rattle.uslp_record.specs.declared.Channel.{Channel}
use Rattle.uslp_record.specs.declared.SlotState.TheVariants.{Opened, Heard}
use Rattle.uslp_record.specs.declared.Totals.{Totals}
use Rattle.uslp_form.specs.declared.Form.{Form}
use Rattle.uslp_form.specs.declared.Form.TheVariants.{One, Two}
use Rattle.uslp_form.specs.Form.{flag_column, columns, totals_row}
use Rattle.uslp_form.specs.FromRow.{flag_long, opened_by, heard_by}
use Rattle.uslp_saved.specs.Reading.{no_channel, no_totals, channel_from, totals_from, unheard_in, heard_in}
use Rattle.uslp_saved.proofs.Puts.{flag_bits}

module _ (s : List ℕ) (oct : AreOctets s) (at : ℕ) where
  abbrev from : ℕ → List ℕ
  from k = drop k (drop at s)

  oct_at : (k : ℕ) → AreOctets (from k)
  oct_at k = are_drop k (drop at s) (are_drop at s oct)

  -- a field of k octets that stands j octets behind the front, before a row of m
  field_at : (name : String) (j k m : ℕ) (fs : List BitField) → bits_in fs ≡ 8 * m
      → unpack ((name, 8 * k, 0) ∷ fs) (from j) ≡ (name, 8 * k, word (at + j) k s) ∷ unpack fs (from (j + k))
  field_at name j k m fs whole =
      unpack_cons name k 0 m fs whole (from j) (oct_at j)
      ∙ field_eq
      (word_drop j 0 k (drop at s) ∙ word_drop at (j + 0) k s ∙ ap (λ (n : ℕ). word (at + n) k s) (add-zero j))
      (ap (unpack fs) (drop-drop k j (drop at s)))

  octet : (j : ℕ) → word (at + j) 1 s ≡ get_or s (at + j) 0
  octet j = omega (arith, ap (λ (n : ℕ). get_or s n 0) (add-zero (at + j)))

  totals_fields : unpack (totals_row no_totals) (from 0) ≡ totals_row (totals_from at s)
  totals_fields =
      field_at "last" 0 8 32 (("handed on", 64, 0) ∷ ("missing", 64, 0) ∷ ("repeats", 64, 0) ∷ ("late", 64, 0) ∷ []) refl
      ∙ field_eq (ap (λ (n : ℕ). word n 8 s) (add-zero at))
      (field_at "handed on" 8 8 24 (("missing", 64, 0) ∷ ("repeats", 64, 0) ∷ ("late", 64, 0) ∷ []) refl
      ∙ field_eq refl (field_at "missing" 16 8 16 (("repeats", 64, 0) ∷ ("late", 64, 0) ∷ []) refl
      ∙ field_eq refl (field_at "repeats" 24 8 8 (("late", 64, 0) ∷ []) refl
      ∙ field_eq refl (field_at "late" 32 8 0 [] refl))))

  -- the octets that say the channel and its width, before a row
  abbrev flag_field : Form → List BitField
  flag_field One = []
  flag_field Two = ("bypass", 8, word (at + 3) 1 s) ∷ []

  abbrev before : Form → List BitField → List BitField
  before f fs =
      ("spacecraft", 16, word at 2 s) ∷ ("channel", 8, word (at + 2) 1 s)
      ∷ (flag_field f ++ ("width", 8, word (at + (3 + flag_long f)) 1 s) ∷ fs)

  pub channel_fields : (f : Form) (m : ℕ) (fs : List BitField) → bits_in fs ≡ 8 * m
      → unpack (columns f no_channel ++ ("width", 8, 0) ∷ fs) (from 0) ≡ before f (unpack fs (from (4 + flag_long f)))
  channel_fields f m fs whole =
      let rest : List BitField = ("width", 8, 0) ∷ fs in
      let bits : bits_in rest ≡ 8 * (1 + m) = omega arith in
      let long = flag_bits no_channel (1 + m) rest bits f in
      field_at "spacecraft" 0 2 (1 + (flag_long f + (1 + m))) (("channel", 8, 0) ∷ (flag_column f no_channel ++ rest)) (omega (arith, long))
      ∙ field_eq (ap (λ (n : ℕ). word n 2 s) (add-zero at))
      (field_at "channel" 2 1 (flag_long f + (1 + m)) (flag_column f no_channel ++ rest) long
      ∙ field_eq refl (tail f))
    where
      tail : (g : Form) → unpack (flag_column g no_channel ++ ("width", 8, 0) ∷ fs) (from 3)
          ≡ flag_field g ++ ("width", 8, word (at + (3 + flag_long g)) 1 s) ∷ unpack fs (from (4 + flag_long g))
      tail One = field_at "width" 3 1 m fs whole
      tail Two =
          field_at "bypass" 3 1 (1 + m) (("width", 8, 0) ∷ fs) (omega arith) ∙ field_eq refl (field_at "width" 4 1 m fs whole)

  -- what they say
  said_opened : (f : Form) → opened_by (before f []) ≡ Opened (channel_from f at s) (word (at + (3 + flag_long f)) 1 s)
  said_opened One = refl
  said_opened Two = refl

  said_heard : (f : Form) (t : Totals) → heard_by (before f (totals_row t)) ≡ Heard (channel_from f at s) (word (at + (3 + flag_long f)) 1 s) t
  said_heard One t = refl
  said_heard Two t = refl

  -- and the columns of what they say are those that were read, where the flag is 0 or 1
  pub columns_again : (f : Form) (fs : List BitField) → word (at + 3) (flag_long f) s < 2
      → columns f (channel_from f at s) ++ ("width", 8, word (at + (3 + flag_long f)) 1 s) ∷ fs ≡ before f fs
  columns_again One fs h = refl
  columns_again Two fs h = field_eq refl (field_eq refl (field_eq (bypass_number_lem (word (at + 3) 1 s) h) refl))

module _ (s : List ℕ) (oct : AreOctets s) (at : ℕ) (f : Form) where
  totals_behind : unpack (totals_row no_totals) (from s oct at (4 + flag_long f)) ≡ totals_row (totals_from (at + (4 + flag_long f)) s)
  totals_behind =
      ap (unpack (totals_row no_totals)) (drop-drop (4 + flag_long f) at s) ∙ totals_fields s oct (at + (4 + flag_long f))

  said_at : (w : ℕ) → w ≡ at + 3 + flag_long f → get_or s w 0 ≡ word (at + (3 + flag_long f)) 1 s
  said_at w e = let z : w ≡ at + (3 + flag_long f) = omega arith in ap (λ (n : ℕ). get_or s n 0) z ∙ sym (octet s oct at (3 + flag_long f))

  -- the entry that stands there
  pub opened_in : unheard_in f (drop at s) ≡ Opened (channel_from f at s) (word (at + (3 + flag_long f)) 1 s)
  opened_in = ap opened_by (channel_fields s oct at f 0 [] refl) ∙ said_opened s oct at f

  pub heard_fields : unpack (columns f no_channel ++ ("width", 8, 0) ∷ totals_row no_totals) (from s oct at 0)
      ≡ before s oct at f (totals_row (totals_from (at + (4 + flag_long f)) s))
  heard_fields = channel_fields s oct at f 40 (totals_row no_totals) refl ∙ ap (before s oct at f) totals_behind

  pub heard_in_lem : heard_in f (drop at s) ≡ Heard (channel_from f at s) (word (at + (3 + flag_long f)) 1 s) (totals_from (at + (4 + flag_long f)) s)
  heard_in_lem = ap heard_by heard_fields ∙ said_heard s oct at f (totals_from (at + (4 + flag_long f)) s)

  module _ (k : Channel) (found : k ≡ channel_from f at s) (w : ℕ) (spot : w ≡ at + 3 + flag_long f) where
    pub unheard_at : Opened k (get_or s w 0) ≡ unheard_in f (drop at s)
    unheard_at = ap₂ Opened found (said_at w spot) ∙ sym opened_in

    pub heard_at : (t : Totals) (p : ℕ) → p ≡ at + 4 + flag_long f → t ≡ totals_from p s → Heard k (get_or s w 0) t ≡ heard_in f (drop at s)
    heard_at t p e d =
        let z : p ≡ at + (4 + flag_long f) = omega arith in
        (λ i. Heard (found i) (said_at w spot i) (d i))
        ∙ ap (λ (n : ℕ). Heard (channel_from f at s) (word (at + (3 + flag_long f)) 1 s) (totals_from n s)) z ∙ sym heard_in_lem
