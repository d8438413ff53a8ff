-- What it is for a promise to settle a call, and to shut an outcome out. A promise is what the checker reads off the source: `pre` its
-- `requires`, `post` its `ensures`.
use Rattle.std.specs.Prelude.{ℕ, ◌≡◌, List}
use contract.Lifetimes.{Lfts}
use Rattle.std.specs.Borrow.{Bor, MutBor}
use denote.Triple.Entry.{Args, Res}
use denote.Triple.Clauses.{Ended, Lasts, at_exit}
use borrow.Fn.Kind.{ParamKind, ResultKind}
use borrow.Fn.Kinds.{In, Out, Dens, res_t, ended_of}

-- a slice that holds these octets
abbrev pub at : List ℕ → Bor (List ℕ)
at s = record { ref_ptr = (0, 0); now = s }

-- and one that is lent for writing
abbrev pub at_mut : List ℕ → MutBor (List ℕ)
at_mut s = record { ref_ptr = (0, 0); ghost_name = 0; now = s }

-- two parts of what was lent that are one: they lie at the same place and show the same
abbrev pub SamePart : Bor (List ℕ) → Bor (List ℕ) → Type 0
SamePart p q = (p.ref_ptr ≡ q.ref_ptr) × (p.now ≡ q.now)

-- what a call with the arguments a leaves: its answer, and the last contents of each `&mut`
abbrev pub LeftBy : (T : Ended) (κs : Lfts T.signature.lifetimes) → Args T.signature κs → Type 0
LeftBy T κs a = Res T.signature κs × Lasts T κs a

-- a function as its promise is read: the kinds of its parameters and of its result, its `requires`, and its `ensures`
pub record Function : Type 3 where
  pub lifetimes : ℕ
  pub params : List (ParamKind lifetimes)
  pub result : ResultKind lifetimes
  pub asks : In lifetimes params
  pub learnt : Out lifetimes params result

abbrev pub function : {n : ℕ} (ps : List (ParamKind n)) (r : ResultKind n) → In n ps → Out n ps r → Function
function {n} ps r pre post = record { lifetimes = n; params = ps; result = r; asks = pre; learnt = post }

module _ (F : Function) where
  abbrev pub Left : (κs : Lfts F.lifetimes) → Dens κs F.params → Type 0
  Left = LeftBy (ended_of F.lifetimes F.params F.result)

  -- the promise allows this outcome of a call with the arguments a
  abbrev pub Allows : (κs : Lfts F.lifetimes) (a : Dens κs F.params) → Left κs a → Type 0
  Allows κs a x = F.learnt κs a x.0 (at_exit (ended_of F.lifetimes F.params F.result) κs a x.1)

  -- every argument may be passed, and R holds of any two outcomes that the promise allows
  pub record AnyTwo (R : (κs : Lfts F.lifetimes) (a : Dens κs F.params) → Left κs a → Left κs a → Type 0) : Type 0 where
    pub total : (κs : Lfts F.lifetimes) (a : Dens κs F.params) → F.asks κs a
    pub same : (κs : Lfts F.lifetimes) (a : Dens κs F.params) (x y : Left κs a) → Allows κs a x → Allows κs a y → R κs a x y

  -- they are equal
  abbrev pub Settles : Type 0
  Settles = AnyTwo (λ κs a x y. x ≡ y)

  -- of a function that hands back a part of what it was lent: the part lies at one place and shows one thing
  abbrev pub Shows : ((κs : Lfts F.lifetimes) (a : Dens κs F.params) → (res_t F.result κs).Denot → Bor (List ℕ)) → Type 0
  Shows part = AnyTwo (λ κs a x y. SamePart (part κs a x.0) (part κs a y.0))

  -- a program, as far as a promise sees it: what it leaves on each argument
  abbrev pub Program : Type 0
  Program = (κs : Lfts F.lifetimes) (a : Dens κs F.params) → Left κs a

  abbrev pub Keeps : Program → Type 0
  Keeps f = (κs : Lfts F.lifetimes) (a : Dens κs F.params) → Allows κs a (f κs a)
