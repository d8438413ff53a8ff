-- What `header_reading` says of four octets or more, path by path, in the words of the code: n is the number that the first seven octets make.
use mathlib.Core.Path.{◌≡◌, ap, sym, ◌∙◌}
use Prim.Native.Nat.{ℕ, ◌+◌, ◌/◌, ◌%◌, ◌^◌, ◌<◌, ◌≤◌}
use mathlib.Core.Bool.{false}
use mathlib.Core.List.{List, [], ◌∷◌}
use native.Mathlib.Omega.{arith}
use native.Mathlib.Nat.{div-one}
use borrow.Author.Tests.{le-ltb, lt-ltb, eq-eqb, ne_eqb}
use lib.Dec.{eqb}
use lib.ListN.{length, get_or}
use Rattle.uslp_octets.specs.Octets.{AreOctets, split, named, word}
use Rattle.uslp_kinds.specs.Outcome.{done, refused}
use Rattle.uslp_primary_header.specs.Header.{format, header_of, reading_of, header_reading}

module _ (s : List ℕ) (oct : AreOctets s) (n : ℕ) (e : n ≡ word 0 7 s) where
  reading_is : header_reading s ≡ reading_of (split format n) s
  unfolding header_reading
  reading_is = sym (ap (λ (k : ℕ). reading_of (split format k) s) e)

  -- the fourth octet alone tells it
  pub truncated_at : named "truncated" (split format n) ≡ get_or s 3 0 % 2
  truncated_at = omega (arith, oct 0, oct 1, oct 2, oct 3, oct 4, oct 5, oct 6)

  module _ (four : 4 ≤ length s) where
    pub reading_truncated : get_or s 3 0 % 2 ≡ 1 → header_reading s ≡ refused 3 []
    reading_truncated h = reading_is ∙ simp (le-ltb _ _ four, eq-eqb _ _ (truncated_at ∙ h))

    module _ (whole : get_or s 3 0 % 2 ≡ 1 → ⊥) where
      not_truncated : eqb (named "truncated" (split format n)) 1 ≡ false
      not_truncated = ne_eqb _ _ (λ h. whole (sym truncated_at ∙ h))

      pub reading_short_7 : length s < 7 → header_reading s ≡ refused 1 (length s ∷ 7 ∷ [])
      reading_short_7 h = reading_is ∙ simp (le-ltb _ _ four, not_truncated, lt-ltb _ _ h)

      module _ (seven : 7 ≤ length s) where
        pub reading_version : (n / 2 ^ 52 % 16 ≡ 12 → ⊥) → header_reading s ≡ refused 4 (n / 2 ^ 52 % 16 ∷ [])
        reading_version h = reading_is ∙ simp (le-ltb _ _ four, not_truncated, le-ltb _ _ seven, ne_eqb _ _ h)

        module _ (version : n / 2 ^ 52 % 16 ≡ 12) where
          pub reading_short_count : length s < 7 + n % 8 → header_reading s ≡ refused 1 (length s ∷ (7 + n % 8) ∷ [])
          reading_short_count h =
              reading_is ∙ simp (div-one, le-ltb _ _ four, not_truncated, le-ltb _ _ seven, eq-eqb _ _ version, lt-ltb _ _ h)

          pub reading_done : 7 + n % 8 ≤ length s → {count : ℕ} → count ≡ word 7 (n % 8) s → header_reading s ≡ done (header_of (split format n) count)
          reading_done h {count} c =
              reading_is ∙ simp (div-one, le-ltb _ _ four, not_truncated, le-ltb _ _ seven, eq-eqb _ _ version, le-ltb _ _ h, sym c)
