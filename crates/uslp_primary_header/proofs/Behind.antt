-- Reading a header when octets are added behind, and which octets SHORT_SOURCE lacks.
use mathlib.Core.Path.{◌≡◌, refl, ap, ap₂, sym, ◌∙◌}
use mathlib.Core.Bool.{not}
use mathlib.Core.List.{List, [], ◌∷◌, ◌++◌}
use Prim.Native.Nat.{ℕ, ◌+◌, ◌-◌, ◌%◌, ◌<◌, ◌≤◌}
use native.Mathlib.Omega.{arith}
use borrow.Author.Tests.{ltb-true, ltb-false}
use lib.Dec.{eqb, ltb}
use lib.ListN.{length, get_or-append}
use Rattle.uslp_octets.specs.Octets.{AreOctets, BitField, named, word}
use Rattle.uslp_octets.proofs.Laws.{are_front, word_front, unpack_front}
use Rattle.uslp_kinds.specs.Outcome.{done}
use Rattle.uslp_kinds.proofs.Behind.{Follows, Says, length_row, same_row, same_end, says_row, says_other, says_end}
use Rattle.uslp_primary_header.specs.Header.{len_header, header_of, format, rows_in, header_reading}
use Rattle.uslp_primary_header.proofs.ReadPaths.{truncated_at}
use Rattle.uslp_primary_header.proofs.RoundTrip.{header_in}

module _ (s t : List ℕ) where
  -- with seven octets the fields of the table stand, and with four the truncated flag
  pub rows_front : 7 ≤ length s → rows_in (s ++ t) ≡ rows_in s
  rows_front h = unpack_front format s t h

  truncated_front : AreOctets (s ++ t) → 4 ≤ length s → named "truncated" (rows_in (s ++ t)) ≡ named "truncated" (rows_in s)
  truncated_front oct h =
      truncated_at (s ++ t) oct _ refl
      ∙ ap (λ (n : ℕ). n % 2) (get_or-append s t 0 3 (omega arith))
      ∙ sym (truncated_at s (are_front s t oct) _ refl)

  pub header_follows : AreOctets (s ++ t) → Follows (length t) (header_reading s) (header_reading (s ++ t))
  unfolding header_reading
  header_follows oct =
      length_row s t 4 4 _ _ refl
      (λ four.
      same_row _ 3 _ _ _ _ _ _ refl refl (ap (λ (n : ℕ). eqb n 1) (truncated_front oct (ltb-false _ _ four)))
      (λ a.
      length_row s t 7 7 _ _ refl
      (λ seven.
      let rows = rows_front (ltb-false _ _ seven) in
      let w : ℕ = named "count width" (rows_in s) in
      let width = ap (named "count width") rows in
      same_row _ 4 _ _ _ _ _ _ refl (ap (λ (l : List BitField). named "version" l ∷ []) rows) (ap (λ (l : List BitField). not (eqb (named "version" l) 12)) rows)
      (λ b.
      length_row s t (7 + w) _ _ _ (ap (λ (n : ℕ). 7 + n) width)
      (λ count.
      same_end _ _ _ refl
      (ap done
      (ap₂ header_of rows (ap (λ (n : ℕ). word 7 n (s ++ t)) width ∙ word_front s t 7 w (ltb-false _ _ count)))))))))

-- four octets, seven, or those of the count
pub header_says : (s : List ℕ) (P : ℕ → Type 0) → (length s < 4 → P (4 - length s)) → (4 ≤ length s → length s < 7 → P (7 - length s))
    → (7 ≤ length s → length s < len_header (header_in s) → P (len_header (header_in s) - length s)) → Says P (header_reading s)
unfolding header_reading
header_says s P four seven count =
    let rows = rows_in s in
    let w : ℕ = named "count width" rows in
    says_row P (length s) 4 _ _ (λ a. four (ltb-true (length s) 4 a))
    (λ a.
    says_other P 3 [] (eqb (named "truncated" rows) 1) _ refl
    (λ b.
    says_row P (length s) 7 _ _ (λ c. seven (ltb-false (length s) 4 a) (ltb-true (length s) 7 c))
    (λ c.
    says_other P 4 (named "version" rows ∷ []) (not (eqb (named "version" rows) 12)) _ refl
    (λ d.
    says_row P (length s) (7 + w) (ltb (length s) (7 + w)) (done (header_in s)) (λ f. count (ltb-false (length s) 7 c) (ltb-true (length s) (7 + w) f))
    (λ f. says_end P (done (header_in s)) refl)))))
