-- The reader's answer when octets are added behind, for all managed parameters: one other than SHORT_SOURCE stays, and SHORT_SOURCE stays as long as
-- fewer are added than it lacks.
use mathlib.Core.Path.{◌≡◌, refl, ap, ap₂, sym, ◌∙◌}
use mathlib.Core.Bool.{Bool, true, false, not, cond, ◌&&◌, false≢true}
use mathlib.Core.List.{List, [], ◌∷◌, ◌++◌}
use Prim.Native.Nat.{ℕ, ◌+◌, ◌-◌, ◌<◌, ◌≤◌}
use native.Mathlib.Omega.{arith}
use borrow.Author.Tests.{ltb-false, le-leb}
use lib.ListN.{length, take, drop, length-append, length-drop}
use lib.Seq.{drop-append-le, take-append-le}
use lib.Dec.{eqb}
use Rattle.uslp_octets.specs.Octets.{AreOctets}
use Rattle.uslp_octets.proofs.Laws.{word_front}
use Rattle.uslp_checksum.specs.Checksum.{checksum_of}
use Rattle.uslp_kinds.specs.Outcome.{Outcome, done, refused}
use Rattle.uslp_kinds.specs.Answers.{short, lacking}
use Rattle.uslp_kinds.specs.declared.ManagedParameters.{ManagedParameters}
use Rattle.uslp_kinds.proofs.Behind.{Follows, length_row, same_row, same_end, follows_then}
use Rattle.uslp_primary_header.specs.Header.{len_header, len_frame}
use Rattle.uslp_primary_header.specs.declared.PrimaryHeader.{PrimaryHeader}
use Rattle.uslp_primary_header.proofs.RoundTrip as header_trip
use Rattle.uslp_primary_header.proofs.Behind.{header_follows}
use Rattle.uslp_data_field_header.specs.declared.TransferFrameDataFieldHeader.{TransferFrameDataFieldHeader}
use Rattle.uslp_data_field_header.proofs.Behind.{field_follows}
use Rattle.uslp_layout.specs.Layout.{data_start, needed}
use Rattle.uslp_reader.specs.Reader.{ocf_at, frame_with, body_reading, frame_reading, contents_in, contents_at, contents_read, contents_read_at}
use Rattle.uslp_reader.specs.declared.TransferFrame.{TransferFrame}
use Rattle.uslp_reader.proofs.Done.{read_done}
use Rattle.uslp_reader.proofs.Paths.{contents_there}
use Rattle.std.specs.Prelude.{Some}

-- with both headers read, all that is looked at stands within the frame
module _ (s t : List ℕ) (managed : ManagedParameters) (h : PrimaryHeader) (whole : len_frame h ≤ length s) (f : TransferFrameDataFieldHeader) where
  ocf_front : (b : Bool) (i : ℕ) → i + cond b 4 0 ≤ length s → ocf_at b i (s ++ t) ≡ ocf_at b i s
  ocf_front true i h = ap Some (word_front s t i 4 h)
  ocf_front false i h = refl

  frame_front : needed h f managed ≤ len_frame h → frame_with h f (len_frame h - needed h f managed) (s ++ t) ≡ frame_with h f (len_frame h - needed h f managed) s
  frame_front room =
      let n : ℕ = len_frame h - needed h f managed in
      let o = ocf_front h.ocf_flag (data_start h f + n) (omega arith) in
      λ i. record {
        primary_header = h;
        data_field_header = f;
        operational_control_field = o i;
        data_start = data_start h f;
        data_len = n;
      }

  body_follows : Follows (length t) (body_reading h f managed s) (body_reading h f managed (s ++ t))
  body_follows =
      same_row _ 7 _ _ _ _ _ _ refl refl refl
      (λ a.
      let room : needed h f managed ≤ len_frame h = ltb-false _ _ a in
      same_row _ 6 _ _ _ _ _ _ refl
      (ap₂ (λ (m n : ℕ). m ∷ n ∷ []) (word_front s t (len_frame h - 2) 2 (omega arith))
      (ap checksum_of (take-append-le (len_frame h - 2) s t (omega arith))))
      (ap (λ (l : List ℕ). managed.has_fecf && not (eqb (checksum_of l) 0)) (take-append-le (len_frame h) s t whole))
      (λ b. same_end _ _ _ refl (ap done (frame_front room))))

module _ (s t : List ℕ) (managed : ManagedParameters) (oct : AreOctets (s ++ t)) where
  frame_follows : Follows (length t) (frame_reading s managed) (frame_reading (s ++ t) managed)
  unfolding frame_reading
  frame_follows =
      follows_then _ _ _ _ _ (header_follows s t oct)
      (λ h e.
      length_row s t (len_frame h) _ _ _ refl
      (λ a.
      let u : drop (len_header h) (s ++ t) ≡ drop (len_header h) s ++ t = drop-append-le (len_header h) s t (header_trip.read_long s h e) in
      rw u
      (follows_then _ _ _ _ _ (field_follows (drop (len_header h) s) t)
      (λ f r. body_follows s t managed h (ltb-false _ _ a) f))))

  pub reading_stays : short (frame_reading s managed) ≡ false → frame_reading (s ++ t) managed ≡ frame_reading s managed
  reading_stays = frame_follows.stays

  pub reading_still : length t < lacking (frame_reading s managed) → short (frame_reading (s ++ t) managed) ≡ true
  reading_still = frame_follows.still

  -- so octets that get SHORT_SOURCE got it before the last of them came
  pub reading_before : short (frame_reading (s ++ t) managed) ≡ true → short (frame_reading s managed) ≡ true
  reading_before e = go (short (frame_reading s managed)) refl
    where
      go : (b : Bool) → short (frame_reading s managed) ≡ b → short (frame_reading s managed) ≡ true
      go true r = r
      go false r = absurd (false≢true (sym (ap short (reading_stays r) ∙ r) ∙ e))

-- the data of a frame stay too, and where they stand
module _ (s t : List ℕ) (managed : ManagedParameters) where
  data_inside : (x : TransferFrame) → frame_reading s managed ≡ done x → x.data_start + x.data_len ≤ length s
  data_inside x e =
      let r = read_done s managed x e in
      omega (arith, r.whole, r.room, ap (λ (y : TransferFrame). y.data_start) r.frame, ap (λ (y : TransferFrame). y.data_len) r.frame)

  data_front : (x : TransferFrame) → x.data_start + x.data_len ≤ length s → contents_in x (s ++ t) ≡ contents_in x s
  data_front x h =
      contents_there x (s ++ t) (omega (arith, length-append s t))
      ∙ ap (take x.data_len) (drop-append-le x.data_start s t (omega arith))
      ∙ take-append-le x.data_len (drop x.data_start s) t (omega (arith, length-drop x.data_start s))
      ∙ sym (contents_there x s h)

  place_front : (x : TransferFrame) → x.data_start + x.data_len ≤ length s → contents_at x (s ++ t) ≡ contents_at x s
  place_front x h = simp (le-leb _ _ h, le-leb (x.data_start + x.data_len) (length (s ++ t)) (omega (arith, length-append s t)))

  pub data_stays : AreOctets (s ++ t) → short (frame_reading s managed) ≡ false
      → (contents_read (frame_reading (s ++ t) managed) (s ++ t) ≡ contents_read (frame_reading s managed) s)
      × (contents_read_at (frame_reading (s ++ t) managed) (s ++ t) ≡ contents_read_at (frame_reading s managed) s)
  data_stays oct e =
      let r = reading_stays s t managed oct e in
      let go = by (frame_reading s managed) refl in
      (ap (λ (o : Outcome TransferFrame). contents_read o (s ++ t)) r ∙ go.0, ap (λ (o : Outcome TransferFrame). contents_read_at o (s ++ t)) r ∙ go.1)
    where
      by : (o : Outcome TransferFrame) → frame_reading s managed ≡ o
          → (contents_read o (s ++ t) ≡ contents_read o s) × (contents_read_at o (s ++ t) ≡ contents_read_at o s)
      by (done x) q = let h = data_inside x q in (data_front x h, place_front x h)
      by (refused k vs) q = (refl, refl)
