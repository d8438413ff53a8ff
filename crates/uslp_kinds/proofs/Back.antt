-- An answer on paper loses nothing: it has a way back, so two answers that say the same on paper are one.
use mathlib.Core.Path.{◌≡◌, refl, ap, sym, ◌∙◌}
use Prim.Native.Nat.{ℕ}
use mathlib.Core.List.{List, [], ◌∷◌}
use mathlib.Core.Bool.{cond}
use lib.Dec.{eqb}
use Rattle.std.specs.Prelude.{Result, Ok, Err, IsErrAnd}
use Rattle.uslp_kinds.specs.Outcome.{Outcome, done, refused, leaving}
use Rattle.uslp_kinds.specs.Kinds.{rule_of}
use Rattle.uslp_kinds.specs.Answers.{refusal_number, carried, refusal, paper}
use Rattle.uslp_kinds.proofs.Cases.{rule_back}
use Rattle.uslp_kinds.specs.declared.Refusal.{Refusal}
use Rattle.uslp_kinds.specs.declared.Refusal.TheVariants.{ShortSource, ShortTarget, Truncated, BadVersion, BadProtocol, BadChecksum, FrameTooShort, BadCount, BadPointer, BadField, OcfMissing, TooLong, NotOpen, OtherWidth, AlreadyOpen, TableFull, TotalFull, BadForm, LacksFlag}

-- the refusals by number, those that carry nothing, one value and two
abbrev bare : List (ℕ × Refusal)
bare =
    (3, Truncated) ∷ (10, BadField) ∷ (11, OcfMissing) ∷ (12, TooLong) ∷ (13, NotOpen) ∷ (15, AlreadyOpen) ∷ (16, TableFull) ∷ (17, TotalFull)
    ∷ (18, BadForm) ∷ (19, LacksFlag) ∷ []

abbrev single : ℕ → List (ℕ × Refusal)
single a = (4, BadVersion a) ∷ (5, BadProtocol a) ∷ (9, BadPointer (rule_of a)) ∷ []

abbrev double : ℕ → ℕ → List (ℕ × Refusal)
double a b =
    (1, ShortSource a b) ∷ (2, ShortTarget a b) ∷ (6, BadChecksum a b) ∷ (7, FrameTooShort a b) ∷ (8, BadCount a b) ∷ (14, OtherWidth a b) ∷ []

abbrev numbered : ℕ → List (ℕ × Refusal) → Refusal
numbered k [] = Truncated
numbered k (row ∷ rows) = cond (eqb k row.0) row.1 (numbered k rows)

-- the refusal of this number that carries these values
abbrev pub refusal_of : ℕ → List ℕ → Refusal
refusal_of k [] = numbered k bare
refusal_of k (a ∷ []) = numbered k (single a)
refusal_of k (a ∷ b ∷ vs) = numbered k (double a b)

pub refusal_back : (r : Refusal) → refusal_of (refusal_number r) (carried r) ≡ r
refusal_back (ShortSource a b) = refl
refusal_back (ShortTarget a b) = refl
refusal_back Truncated = refl
refusal_back (BadVersion a) = refl
refusal_back (BadProtocol a) = refl
refusal_back (BadChecksum a b) = refl
refusal_back (FrameTooShort a b) = refl
refusal_back (BadCount a b) = refl
refusal_back (BadPointer p) = ap BadPointer (rule_back p)
refusal_back BadField = refl
refusal_back OcfMissing = refl
refusal_back TooLong = refl
refusal_back NotOpen = refl
refusal_back (OtherWidth a b) = refl
refusal_back AlreadyOpen = refl
refusal_back TableFull = refl
refusal_back TotalFull = refl
refusal_back BadForm = refl
refusal_back LacksFlag = refl

-- the way back for an answer
abbrev pub answer_of : {A : Type 0} → Outcome A → Result A Refusal
answer_of (done x) = Ok x
answer_of (refused k vs) = Err (refusal_of k vs)

pub paper_back : {A : Type 0} (r : Result A Refusal) → answer_of (paper r) ≡ r
paper_back (Ok x) = refl
paper_back (Err r) = ap Err (refusal_back r)

-- a function that has a way back is one-to-one
pub one_to_one : {A B : Type 0} (out : A → B) (way : B → A) → ((x : A) → way (out x) ≡ x) → {x y : A} → out x ≡ out y → x ≡ y
one_to_one out way same {x} {y} e = sym (same x) ∙ ap way e ∙ same y

pub paper_one : {A : Type 0} {x y : Result A Refusal} → paper x ≡ paper y → x ≡ y
paper_one = one_to_one paper answer_of paper_back

-- one equation of what a writing leaves is two
pub leaving_one : {A : Type 0} {o p : Outcome A} {s t : List ℕ} → leaving o s ≡ leaving p t → (o ≡ p) × (s ≡ t)
leaving_one e = (cc, cc)

-- a refusal that `?` passes on says the same on paper
pub passed_on : {A : Type 0} (r : Result A Refusal) (e : Refusal) {o : Outcome A} → IsErrAnd r (λ x. x ≡ e) → refusal e ≡ o → paper r ≡ o
passed_on (Ok x) e p q = absurd p
passed_on (Err x) e p q = ap refusal p ∙ q
