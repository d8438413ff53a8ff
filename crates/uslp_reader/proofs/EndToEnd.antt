-- Laws of frames end to end: what is cut off at a frame, at a refusal and at the end, for all managed parameters.
use mathlib.Core.Path.{◌≡◌, refl, ap, sym, ◌∙◌}
use Prim.Native.Nat.{ℕ, zero, suc, ◌<◌, ◌≤◌}
use mathlib.Core.Bool.{Bool, true, false, cond}
use mathlib.Core.List.{List, [], ◌∷◌, ◌++◌, append_assoc}
use native.Mathlib.Omega.{arith}
use lib.ListN.{length, take, drop, length-append, length-drop, take-append-drop}
use Rattle.uslp_kinds.specs.Outcome.{Outcome, done, refused}
use Rattle.uslp_kinds.specs.Kinds.{fixed_length}
use Rattle.uslp_kinds.proofs.Outcomes.{not_done}
use Rattle.uslp_kinds.specs.declared.ManagedParameters.{ManagedParameters}
use Rattle.uslp_primary_header.specs.Header.{len_frame}
use Rattle.uslp_reader.specs.Reader.{frame_reading}
use Rattle.uslp_reader.specs.EndToEnd.{Cut, cut_at, cut_up_to, cut, stopping}
use Rattle.uslp_reader.specs.declared.TransferFrame.{TransferFrame}
use Rattle.uslp_reader.proofs.Done.{read_done}

-- a frame that is read has eight octets or more: its header's seven and its data field header's one
one_more : (b : Bool) → 1 ≤ cond b 3 1
one_more true = omega arith
one_more false = omega arith

pub frame_eight : (s : List ℕ) (managed : ManagedParameters) {x : TransferFrame} → frame_reading s managed ≡ done x → 8 ≤ len_frame x.primary_header
frame_eight s managed {x} e = omega (arith, (read_done s managed x e).room, one_more (fixed_length x.data_field_header.construction_rule))

-- a frame before others
abbrev pub onto : List ℕ → TransferFrame → Cut → Cut
onto s x c = record { frames = (x, take (len_frame x.primary_header) s) ∷ c.frames; rest = c.rest }

abbrev pub nothing : List ℕ → Cut
nothing s = record { frames = []; rest = s }

module _ (managed : ManagedParameters) where
  -- by what the reader says
  up_to_refused : (most : ℕ) (s : List ℕ) {k : ℕ} {vs : List ℕ} → frame_reading s managed ≡ refused k vs → cut_up_to most managed s ≡ nothing s
  unfolding cut_up_to
  up_to_refused zero s e = refl
  up_to_refused (suc most) s e = rw e

  up_to_more : (most : ℕ) (s : List ℕ) (x : TransferFrame) → frame_reading s managed ≡ done x
      → cut_up_to (suc most) managed s ≡ onto s x (cut_up_to most managed (drop (len_frame x.primary_header) s))
  unfolding cut_up_to
  up_to_more most s x e = rw e

  by_none : (s : List ℕ) → length s ≤ 0 → (m n : ℕ) → cut_up_to m managed s ≡ cut_up_to n managed s
  by_none s none m n = go (frame_reading s managed) refl
    where
      go : (o : Outcome TransferFrame) → frame_reading s managed ≡ o → cut_up_to m managed s ≡ cut_up_to n managed s
      go (refused j vs) e = up_to_refused m s e ∙ sym (up_to_refused n s e)
      go (done x) e = absurd (omega (arith, frame_eight s managed e, (read_done s managed x e).whole))

  -- a bound that is no less than the octets makes no difference
  bounds : (m n : ℕ) (s : List ℕ) → length s ≤ m → length s ≤ n → cut_up_to m managed s ≡ cut_up_to n managed s
  bounds zero n s h k = by_none s (omega arith) zero n
  bounds (suc m) zero s h k = by_none s (omega arith) (suc m) zero
  bounds (suc m) (suc n) s h k = go (frame_reading s managed) refl (λ t a b. bounds m n t a b)
    where
      go : (o : Outcome TransferFrame) → frame_reading s managed ≡ o → ((t : List ℕ) → length t ≤ m → length t ≤ n → cut_up_to m managed t ≡ cut_up_to n managed t)
          → cut_up_to (suc m) managed s ≡ cut_up_to (suc n) managed s
      go (refused j vs) e same = up_to_refused (suc m) s e ∙ sym (up_to_refused (suc n) s e)
      go (done x) e same =
          let long = len_frame x.primary_header in
          let less = length-drop long s in
          let eight = frame_eight s managed e in
          up_to_more m s x e ∙ ap (onto s x) (same (drop long s) (omega arith) (omega arith)) ∙ sym (up_to_more n s x e)

  pub cut_refused : (s : List ℕ) {k : ℕ} {vs : List ℕ} → frame_reading s managed ≡ refused k vs → cut managed s ≡ nothing s
  cut_refused s e = up_to_refused (length s) s e

  pub cut_more : (s : List ℕ) (x : TransferFrame) → frame_reading s managed ≡ done x
      → cut managed s ≡ onto s x (cut managed (drop (len_frame x.primary_header) s))
  cut_more s x e =
      let long = len_frame x.primary_header in
      let less = length-drop long s in
      let eight = frame_eight s managed e in
      bounds (length s) (suc (length s)) s (omega arith) (omega arith) ∙ up_to_more (length s) s x e
      ∙ ap (onto s x) (bounds (length s) (length (drop long s)) (drop long s) (omega arith) (omega arith))

  pub cut_end : cut managed [] ≡ nothing []
  unfolding cut_up_to
  cut_end = refl

  -- what is left where the reader refuses it, and something is
  pub stopping_refused : (s : List ℕ) {k : ℕ} {vs : List ℕ} → 0 < length s → frame_reading s managed ≡ refused k vs → stopping managed s ≡ refused k vs
  stopping_refused [] h e = absurd (omega arith)
  stopping_refused (o ∷ s) h e = rw e

  -- what is left is no frame
  rest_up_to : (most : ℕ) (s : List ℕ) → length s ≤ most → {x : TransferFrame} → frame_reading (cut_up_to most managed s).rest managed ≡ done x → ⊥
  unfolding cut_up_to
  rest_up_to zero s h {x} e = omega (arith, frame_eight s managed e, (read_done s managed x e).whole)
  rest_up_to (suc most) s h {x} e = go (frame_reading s managed) refl (λ t a d. rest_up_to most t a d) e
    where
      go : (o : Outcome TransferFrame) → frame_reading s managed ≡ o
          → ((t : List ℕ) → length t ≤ most → frame_reading (cut_up_to most managed t).rest managed ≡ done x → ⊥)
          → frame_reading (cut_at s o (cut_up_to most managed)).rest managed ≡ done x → ⊥
      go (refused k vs) r none d = not_done (sym r ∙ d)
      go (done y) r none d =
          let long = len_frame y.primary_header in none (drop long s) (omega (arith, length-drop long s, frame_eight s managed r)) d

  pub rest_no_frame : (s : List ℕ) {x : TransferFrame} → frame_reading (cut managed s).rest managed ≡ done x → ⊥
  rest_no_frame s = rest_up_to (length s) s (omega arith)

-- the frames' octets, one behind the other
abbrev pub joined : List (TransferFrame × List ℕ) → List ℕ
joined [] = []
joined (f ∷ fs) = f.1 ++ joined fs

-- with what is left behind them they are the octets that were cut
joined_up_to : (managed : ManagedParameters) (most : ℕ) (s : List ℕ) → joined (cut_up_to most managed s).frames ++ (cut_up_to most managed s).rest ≡ s
unfolding cut_up_to
joined_up_to managed zero s = refl
joined_up_to managed (suc most) s = go (frame_reading s managed) (λ t. joined_up_to managed most t)
  where
    go : (o : Outcome TransferFrame) → ((t : List ℕ) → joined (cut_up_to most managed t).frames ++ (cut_up_to most managed t).rest ≡ t)
        → joined (cut_at s o (cut_up_to most managed)).frames ++ (cut_at s o (cut_up_to most managed)).rest ≡ s
    go (refused k vs) ih = refl
    go (done x) ih =
        let n = len_frame x.primary_header in
        let c = cut_up_to most managed (drop n s) in
        append_assoc (take n s) (joined c.frames) c.rest ∙ ap (λ (t : List ℕ). take n s ++ t) (ih (drop n s)) ∙ take-append-drop n s

pub cut_joined : (managed : ManagedParameters) (s : List ℕ) → joined (cut managed s).frames ++ (cut managed s).rest ≡ s
cut_joined managed s = joined_up_to managed (length s) s

pub rest_short : (managed : ManagedParameters) (s : List ℕ) → length (cut managed s).rest ≤ length s
rest_short managed s =
    let c = cut managed s in omega (arith, ap length (cut_joined managed s), length-append (joined c.frames) c.rest)
