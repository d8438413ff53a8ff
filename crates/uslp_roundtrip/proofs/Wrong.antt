-- No reader and no writer that has demand 2 is one of the tempting wrong ones.
use mathlib.Core.Path.{◌≡◌, refl, sym, ap, ◌∙◌}
use mathlib.Core.List.{List, [], ◌∷◌}
use Prim.Native.Nat.{ℕ, zero, suc, ◌<◌}
use native.Mathlib.Omega.{arith}
use lib.Dec.{lit<}
use lib.ListN.{get_or}
use Rattle.uslp_octets.specs.Octets.{AreOctets}
use Rattle.uslp_kinds.specs.Outcome.{done, refused, leaving}
use Rattle.uslp_kinds.specs.Managed.{no_fecf}
use Rattle.uslp_kinds.proofs.Outcomes.{not_done, done_one}
use Rattle.uslp_kinds.specs.declared.ManagedParameters.{ManagedParameters}
use Rattle.uslp_primary_header.specs.Header.{with_count, header_reading}
use Rattle.uslp_data_field_header.specs.Field.{field_reading}
use Rattle.uslp_layout.specs.Layout.{Fields}
use Rattle.uslp_reader.specs.Reader.{frame_reading}
use Rattle.uslp_reader.specs.declared.TransferFrame.{TransferFrame}
use Rattle.uslp_roundtrip.specs.Samples.{some, whole, plain, zeros}
use Rattle.uslp_roundtrip.specs.Laid.{frame_of, Laid}
use Rattle.uslp_writer.specs.declared.TransferFrameCreator.{TransferFrameCreator}
use Rattle.uslp_roundtrip.specs.Bounds.{Bounds}
use Rattle.uslp_roundtrip.specs.Demand.{Reader, Demand2Reader, Writer, Demand2Writer}
use Rattle.uslp_roundtrip.proofs.Exactly.{exactly}
use Rattle.std.specs.Prelude.{None}

-- frame F with this count
abbrev counting : ℕ → List ℕ
counting n = 0xC1 ∷ 0x23 ∷ 0x48 ∷ 0xA6 ∷ 0x00 ∷ 0x0A ∷ 0x01 ∷ n ∷ 0xE4 ∷ 0x0A ∷ 0xF0 ∷ []

abbrev fields : ℕ → Fields
fields n = record { header = with_count 1 n some; field = whole; contents = 0x0A ∷ 0xF0 ∷ []; ocf = None }

abbrev read : ℕ → TransferFrame
read n = frame_of (fields n)

are_octets : (n : ℕ) → n < 256 → AreOctets (counting n)
are_octets n h zero = lit< tt
are_octets n h (suc zero) = lit< tt
are_octets n h (suc (suc zero)) = lit< tt
are_octets n h (suc (suc (suc zero))) = lit< tt
are_octets n h (suc (suc (suc (suc zero)))) = lit< tt
are_octets n h (suc (suc (suc (suc (suc zero))))) = lit< tt
are_octets n h (suc (suc (suc (suc (suc (suc zero)))))) = lit< tt
are_octets n h (suc (suc (suc (suc (suc (suc (suc zero))))))) = h
are_octets n h (suc (suc (suc (suc (suc (suc (suc (suc zero)))))))) = lit< tt
are_octets n h (suc (suc (suc (suc (suc (suc (suc (suc (suc zero))))))))) = lit< tt
are_octets n h (suc (suc (suc (suc (suc (suc (suc (suc (suc (suc zero)))))))))) = lit< tt
are_octets n h (suc (suc (suc (suc (suc (suc (suc (suc (suc (suc (suc i))))))))))) = lit< tt

laid : (n : ℕ) → n < 256 → frame_reading (counting n) no_fecf ≡ done (read n) → Laid (counting n) no_fecf (fields n)
laid n h e = (exactly (counting n) no_fecf (fields n) (are_octets n h)).0 (e, refl)

seven : frame_reading (counting 7) no_fecf ≡ done (read 7)
unfolding frame_reading header_reading field_reading
seven = refl

nine : frame_reading (counting 9) no_fecf ≡ done (read 9)
unfolding frame_reading header_reading field_reading
nine = refl

module _ (R : Reader) (demand : Demand2Reader R) where
  reads : (n : ℕ) → n < 256 → frame_reading (counting n) no_fecf ≡ done (read n) → R (counting n) no_fecf ≡ done (read n)
  reads n h e = ((demand (counting n) no_fecf (fields n) (are_octets n h)).1 (laid n h e)).0

  -- a reader that refuses everything
  pub no_refuser : ((s : List ℕ) (managed : ManagedParameters) → (k : ℕ) × (vs : List ℕ) × (R s managed ≡ refused k vs)) → ⊥
  no_refuser all = not_done (sym (all (counting 7) no_fecf).2 ∙ reads 7 (lit< tt) seven)

  -- a reader that answers F's fields for all input
  pub no_fixed : ((s : List ℕ) (managed : ManagedParameters) → R s managed ≡ done (read 7)) → ⊥
  no_fixed all =
      let e = done_one (sym (all (counting 9) no_fecf) ∙ reads 9 (lit< tt) nine) in
      let z : ◌≡◌ {A = ℕ} 7 9 = ap (λ (x : TransferFrame). x.primary_header.vc_frame_count) e in omega arith

-- two octets of data, and what is given with them fits the machine's numbers
reading_octets : AreOctets (0x0A ∷ 0xF0 ∷ [])
reading_octets zero = lit< tt
reading_octets (suc zero) = lit< tt
reading_octets (suc (suc i)) = lit< tt

bounds : Bounds plain (0x0A ∷ 0xF0 ∷ [])
bounds = record {
  spacecraft_fits = lit< tt;
  pointer_fits = λ p e. let z : ◌≡◌ {A = ℕ} 0 1 = cc in absurd (omega arith);
  ocf_fits = λ n e. let z : ◌≡◌ {A = ℕ} 0 1 = cc in absurd (omega arith);
  contents_fit = reading_octets;
}

-- a writer that writes nothing but says DONE
pub no_idle : (W : Writer) → Demand2Writer W → ((c : TransferFrameCreator) (d s : List ℕ) → (n : ℕ) × (W c d s ≡ leaving (done n) s)) → ⊥
no_idle W demand all =
    let said = all plain (0x0A ∷ 0xF0 ∷ []) zeros in
    let left = (demand.wrote plain (0x0A ∷ 0xF0 ∷ []) zeros zeros said.0 bounds said.1).3 in
    let z : ◌≡◌ {A = ℕ} 0 0xC1 = ap (λ (l : List ℕ). get_or l 0 0) left in omega arith
