-- A reading of octets s, and of the same with octets t behind: which rows of its order of checks keep the answer, for any reading.
use mathlib.Core.Path.{◌≡◌, refl, ap, sym, ◌∙◌}
use mathlib.Core.Bool.{Bool, true, false, cond, false≢true}
use mathlib.Core.List.{List, [], ◌∷◌, ◌++◌}
use Prim.Native.Nat.{ℕ, ◌-◌, ◌<◌}
use native.Mathlib.Omega.{arith}
use borrow.Author.Tests.{ltb-false, lt-ltb, le-ltb}
use lib.Dec.{eqb, ltb}
use lib.ListN.{length, length-append}
use Rattle.uslp_kinds.specs.Outcome.{Outcome, done, refused, and_then}
use Rattle.uslp_kinds.specs.Answers.{short, lacking}

-- o is the answer of octets, o' that of the same with n octets more behind: an answer other than SHORT_SOURCE stays, and fewer octets than it
-- lacks leave it SHORT_SOURCE
pub record Follows {A : Type 0} (n : ℕ) (o o' : Outcome A) : Type 0 where
  pub stays : short o ≡ false → o' ≡ o
  pub still : n < lacking o → short o' ≡ true

-- what SHORT_SOURCE says of the number that it lacks
abbrev pub Says : {A : Type 0} → (ℕ → Type 0) → Outcome A → Type 0
Says P o = short o ≡ true → P (lacking o)

-- an answer other than SHORT_SOURCE lacks nothing
pub lacking_none : {A : Type 0} (o : Outcome A) → short o ≡ false → lacking o ≡ 0
lacking_none (done x) e = refl
lacking_none (refused k vs) e = rw e

-- a length that is long enough stays so, and one that is too short stays so below what it lacks
module _ (s t : List ℕ) (k k' : ℕ) (e : k' ≡ k) where
  pub longer : ltb (length s) k ≡ false → ltb (length (s ++ t)) k' ≡ false
  longer h = le-ltb (length (s ++ t)) k' (omega (arith, ltb-false (length s) k h, length-append s t))

  pub shorter : length t < k - length s → ltb (length (s ++ t)) k' ≡ true
  shorter h = lt-ltb (length (s ++ t)) k' (omega (arith, length-append s t))

module _ {A : Type 0} where
  -- a row that answers SHORT_SOURCE
  pub short_row : (n found found' expected expected' : ℕ) (b b' : Bool) (o o' : Outcome A)
      → (b ≡ false → b' ≡ false) → (b ≡ true → n < expected - found → b' ≡ true) → (b ≡ false → Follows n o o')
      → Follows n (cond b (refused 1 (found ∷ expected ∷ [])) o) (cond b' (refused 1 (found' ∷ expected' ∷ [])) o')
  short_row n f f' e e' true b' o o' p q r =
      record { stays = λ z. absurd (false≢true (sym z)); still = λ l. rw (q refl l) }
  short_row n f f' e e' false b' o o' p q r =
      record { stays = λ z. rw (p refl) ((r refl).stays z); still = λ l. rw (p refl) ((r refl).still l) }

  -- one of a length alone
  pub length_row : (s t : List ℕ) (k k' : ℕ) (o o' : Outcome A) → k' ≡ k → (ltb (length s) k ≡ false → Follows (length t) o o')
      → Follows (length t) (cond (ltb (length s) k) (refused 1 (length s ∷ k ∷ [])) o)
      (cond (ltb (length (s ++ t)) k') (refused 1 (length (s ++ t) ∷ k' ∷ [])) o')
  length_row s t k k' o o' e r = short_row _ _ _ _ _ _ _ o o' (longer s t k k' e) (λ a. shorter s t k k' e) r

  -- a row of another answer, that reads the same
  pub same_row : (n k : ℕ) (vs vs' : List ℕ) (b b' : Bool) (o o' : Outcome A)
      → eqb k 1 ≡ false → (vs' ≡ vs) → b' ≡ b → (b ≡ false → Follows n o o') → Follows n (cond b (refused k vs) o) (cond b' (refused k vs') o')
  same_row n k vs vs' true b' o o' other e p r =
      record { stays = λ z. rw (p, e); still = λ l. absurd (let z : n < 0 = rw other at l in omega arith) }
  same_row n k vs vs' false b' o o' other e p r =
      record { stays = λ z. rw p ((r refl).stays z); still = λ l. rw p ((r refl).still l) }

  -- an answer that reads the same, and is not SHORT_SOURCE
  pub same_end : (n : ℕ) (o o' : Outcome A) → short o ≡ false → o' ≡ o → Follows n o o'
  same_end n o o' other e = record { stays = λ z. e; still = λ l. absurd (omega (arith, lacking_none o other)) }

  pub says_row : (P : ℕ → Type 0) (found expected : ℕ) (b : Bool) (o : Outcome A) → (b ≡ true → P (expected - found)) → (b ≡ false → Says P o)
      → Says P (cond b (refused 1 (found ∷ expected ∷ [])) o)
  says_row P f e true o p r z = p refl
  says_row P f e false o p r z = r refl z

  pub says_other : (P : ℕ → Type 0) (k : ℕ) (vs : List ℕ) (b : Bool) (o : Outcome A) → eqb k 1 ≡ false → (b ≡ false → Says P o)
      → Says P (cond b (refused k vs) o)
  says_other P k vs true o other r z = absurd (false≢true (sym other ∙ z))
  says_other P k vs false o other r z = r refl z

  pub says_end : (P : ℕ → Type 0) (o : Outcome A) → short o ≡ false → Says P o
  says_end P o other z = absurd (false≢true (sym other ∙ z))

-- one reading after another
module _ {A B : Type 0} (f : A → Outcome B) where
  pub follows_then : (n : ℕ) (f' : A → Outcome B) (o o' : Outcome A) → Follows n o o' → ((x : A) → o ≡ done x → Follows n (f x) (f' x))
      → Follows n (and_then o f) (and_then o' f')
  follows_then n f' (done x) o' p r = rw (p.stays refl) (r x refl)
  follows_then n f' (refused k vs) o' p r =
      record { stays = λ z. ap (λ (y : Outcome A). and_then y f') (p.stays z); still = λ l. still_then o' (p.still l) }
    where
      still_then : (y : Outcome A) → short y ≡ true → short (and_then y f') ≡ true
      still_then (done x) e = absurd (false≢true e)
      still_then (refused j ws) e = e

  pub says_then : (P : ℕ → Type 0) (o : Outcome A) → Says P o → ((x : A) → o ≡ done x → Says P (f x)) → Says P (and_then o f)
  says_then P (done x) p r z = r x refl z
  says_then P (refused k vs) p r z = p z
