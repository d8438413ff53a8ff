-- Octets put behind those that stand.
use mathlib.Core.Path.{◌≡◌, refl, sym, ◌∙◌, ap, ap₂}
use mathlib.Core.List.{List, [], ◌∷◌, ◌++◌, append_assoc}
use Prim.Native.Nat.{ℕ, ◌+◌, ◌*◌, ◌-◌, ◌<◌, ◌≤◌}
use native.Mathlib.Omega.{arith}
use lib.ListN.{length, take, drop, length-append}
use lib.Seq.{take_at, length-take-le}
use borrow.Rule.Slice.PartMut.{put_mid, mid_of, mid_len}
use Rattle.uslp_octets.specs.Octets.{BitField, Fits, bits_in, octets, pack}
use Rattle.uslp_octets.proofs.Laws.{length_octets, pack_cons}
use Rattle.uslp_kinds.specs.Kinds.{bypass_number}
use Rattle.uslp_kinds.proofs.Cases.{bypass_lt}
use Rattle.uslp_record.specs.declared.Channel.{Channel}
use Rattle.uslp_record.specs.declared.Totals.{Totals}
use Rattle.uslp_record.specs.declared.SlotState.TheVariants.{Opened, Heard}
use Rattle.uslp_saved.specs.Choice.{Wide}
use Rattle.uslp_form.specs.declared.Form.{Form}
use Rattle.uslp_form.specs.declared.Form.TheVariants.{One, Two}
use Rattle.uslp_form.specs.Form.{flag_column, columns, row, totals_row}
use Rattle.uslp_form.specs.FromRow.{flag_long}

module _ (s ys : List ℕ) (at width n : ℕ) (fits : at + width ≤ length s) (is : ys ≡ octets (length (mid_of at (at + width - at) s)) n) where
  pub put_behind : take (at + width) (put_mid at (at + width - at) s ys) ≡ take at s ++ octets width n
  put_behind =
      let k : at + width - at ≡ width = omega arith in
      let long : length (mid_of at (at + width - at) s) ≡ width = mid_len at (at + width) s fits ∙ k in
      let e : ys ≡ octets width n = is ∙ ap (λ (m : ℕ). octets m n) long in
      ap (take (at + width)) (ap (λ (z : List ℕ). take at s ++ (z ++ drop (at + width - at) (drop at s))) e ∙ sym (append_assoc (take at s) (octets width n) _))
      ∙ take_at (take at s ++ octets width n) _ (at + width)
      (length-append (take at s) (octets width n) ∙ ap₂ (λ (a b : ℕ). a + b) (length-take-le at s (omega arith)) (length_octets width n))

-- the flag's column before a row of n octets
module _ (k : Channel) (n : ℕ) (fs : List BitField) (whole : bits_in fs ≡ 8 * n) where
  pub flag_bits : (f : Form) → bits_in (flag_column f k ++ fs) ≡ 8 * (flag_long f + n)
  flag_bits One = omega arith
  flag_bits Two = omega arith

  flag_fits : (f : Form) → Fits fs → Fits (flag_column f k ++ fs)
  flag_fits One h = h
  flag_fits Two h = (omega (arith, bypass_lt k.sequence_control_flag), h)

  flag_before : (f : Form) → Fits fs → pack (flag_column f k ++ fs) ≡ octets (flag_long f) (bypass_number k.sequence_control_flag) ++ pack fs
  flag_before One h = refl
  flag_before Two h = pack_cons "bypass" 1 (bypass_number k.sequence_control_flag) n fs whole h

-- rows, field by field: the channel and its width before a row of m octets, and the totals
pub channel_before : (f : Form) (k : Channel) (w m : ℕ) (fs : List BitField) → bits_in fs ≡ 8 * m → Fits fs → k.vc_id < 256 → w < 256
    → pack (columns f k ++ ("width", 8, w) ∷ fs)
    ≡ octets 2 k.spacecraft_id ++ (octets 1 k.vc_id ++ (octets (flag_long f) (bypass_number k.sequence_control_flag) ++ (octets 1 w ++ pack fs)))
channel_before f k w m fs whole h a b =
    let rest : List BitField = ("width", 8, w) ∷ fs in
    let bits : bits_in rest ≡ 8 * (1 + m) = omega arith in
    let long = flag_bits k (1 + m) rest bits f in
    let fits = flag_fits k (1 + m) rest bits f (b, h) in
    pack_cons "spacecraft" 2 k.spacecraft_id (1 + (flag_long f + (1 + m))) (("channel", 8, k.vc_id) ∷ (flag_column f k ++ rest))
    (omega (arith, long)) (a, fits)
    ∙ ap (λ (l : List ℕ). octets 2 k.spacecraft_id ++ l)
    (pack_cons "channel" 1 k.vc_id (flag_long f + (1 + m)) (flag_column f k ++ rest) long fits
    ∙ ap (λ (l : List ℕ). octets 1 k.vc_id ++ l)
    (flag_before k (1 + m) rest bits f (b, h)
    ∙ ap (λ (l : List ℕ). octets (flag_long f) (bypass_number k.sequence_control_flag) ++ l) (pack_cons "width" 1 w m fs whole h)))

pub channel_row : (f : Form) (k : Channel) (w : ℕ) → k.vc_id < 256 → w < 256
    → pack (row f (Opened k w))
    ≡ octets 2 k.spacecraft_id ++ (octets 1 k.vc_id ++ (octets (flag_long f) (bypass_number k.sequence_control_flag) ++ octets 1 w))
channel_row f k w a b = channel_before f k w 0 [] refl tt a b

pub totals_row_lem : (t : Totals) → Wide t
    → pack (totals_row t)
    ≡ octets 8 t.last ++ (octets 8 t.handed_on ++ (octets 8 t.missing ++ (octets 8 t.repeats ++ octets 8 t.late)))
totals_row_lem t f =
    let h = t.handed_on in
    let m = t.missing in
    let p = t.repeats in
    let l = t.late in
    pack_cons "last" 8 t.last 32 (("handed on", 64, h) ∷ ("missing", 64, m) ∷ ("repeats", 64, p) ∷ ("late", 64, l) ∷ []) refl
    (f.1, (f.2, (f.3, (f.4, tt))))
    ∙ ap (λ (z : List ℕ). octets 8 t.last ++ z)
    (pack_cons "handed on" 8 h 24 (("missing", 64, m) ∷ ("repeats", 64, p) ∷ ("late", 64, l) ∷ []) refl (f.2, (f.3, (f.4, tt)))
    ∙ ap (λ (z : List ℕ). octets 8 h ++ z)
    (pack_cons "missing" 8 m 16 (("repeats", 64, p) ∷ ("late", 64, l) ∷ []) refl (f.3, (f.4, tt))
    ∙ ap (λ (z : List ℕ). octets 8 m ++ z)
    (pack_cons "repeats" 8 p 8 (("late", 64, l) ∷ []) refl (f.4, tt)
    ∙ ap (λ (z : List ℕ). octets 8 p ++ z) (pack_cons "late" 8 l 0 [] refl tt))))

pub heard_row : (f : Form) (k : Channel) (w : ℕ) (t : Totals) → Wide t → k.vc_id < 256 → w < 256
    → pack (row f (Heard k w t)) ≡ pack (row f (Opened k w)) ++ pack (totals_row t)
heard_row f k w t d a b =
    let flag = octets (flag_long f) (bypass_number k.sequence_control_flag) in
    channel_before f k w 40 (totals_row t) refl (d.0, (d.1, (d.2, (d.3, (d.4, tt))))) a b
    ∙ ap (λ (l : List ℕ). octets 2 k.spacecraft_id ++ (octets 1 k.vc_id ++ l)) (sym (append_assoc flag (octets 1 w) (pack (totals_row t))))
    ∙ sym (ap (λ (l : List ℕ). l ++ pack (totals_row t)) (channel_row f k w a b))

-- five puts one behind the other
pub five : (o v w x y z : List ℕ) {a b d e r : List ℕ} → a ≡ o ++ v → b ≡ a ++ w → d ≡ b ++ x → e ≡ d ++ y → r ≡ e ++ z
    → r ≡ o ++ (v ++ (w ++ (x ++ (y ++ z))))
five o v w x y z p q s t u = rw (u, t, s, q, p) (simp append_assoc)
