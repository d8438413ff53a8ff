-- What the reader says of what is held decides: a frame, a stop, a wait, or as many octets as it lacks and once more.
use Rattle.std.proofs.Common.{arith, ◌≡◌, ap, sym, ◌∙◌, ◌+◌, ◌-◌, ◌≤◌, ℕ, List, ◌++◌, refl, length, take, drop, length-drop}
use Rattle.std.proofs.Math.ListN.{length-take}
use Rattle.std.proofs.Math.Seq.{paste, take_all, length-take-le}
use Rattle.std.specs.Prelude.{Result}
use Rattle.uslp_kinds.specs.Answers.{paper}
use Rattle.uslp_kinds.specs.declared.Refusal.{Refusal}
use Rattle.uslp_kinds.specs.Outcome.{Outcome, Written, done, leaving}
use Rattle.uslp_reader.specs.declared.TransferFrame.{TransferFrame}
use Rattle.uslp_reader.proofs.Parts.{rest_part}
use Rattle.uslp_intake.specs.Intake.{Intake, waiting}
use Rattle.uslp_intake.proofs.Steps.{taken_none, taken_decided, taken_stops, taken_waits, taken_more, taken_room, taken_fewer}
use Rattle.uslp_intake.proofs.take_wanted.Goals as goal

-- an answer to the reading names what is held
answered : {o : Outcome TransferFrame} {r a : Result TransferFrame Refusal} → paper r ≡ o → r ≡ a → o ≡ paper a
answered e is = sym e ∙ ap paper is

-- the rest of the block, and how long it is
rest_is : (block : List ℕ) (taken : ℕ) → take (length block - taken) (drop taken block) ≡ drop taken block
rest_is block taken = rest_part block taken taken refl

rest_long : (block : List ℕ) (taken : ℕ) → length (take (length block - taken) (drop taken block)) ≡ length block - taken
rest_long block taken = ap length (rest_is block taken) ∙ length-drop taken block

-- octets that are the front of others: they have their room where that many have it, and a copy of them is one of that many
module _ (q : List ℕ) (n : ℕ) {x : List ℕ} (front : x ≡ take n q) where
  room_of : (at : ℕ) {m : ℕ} → at + n ≤ m → at + length x ≤ m
  room_of at h = omega (arith, ap length front, length-take n q)

  copied : (t : List ℕ) (at : ℕ) {t' : List ℕ} → n ≤ length q → t' ≡ paste t at x (length x) → t' ≡ paste t at q n
  copied t at h e =
      let long : length (take n q) ≡ n = length-take-le n q h in
      e ∙ ap (λ (v : List ℕ). paste t at v (length v)) front ∙ ap (paste t at (take n q)) long
      ∙ ap (λ (v : List ℕ). take at t ++ v ++ drop (at + n) t) (take_all n (take n q) (omega (arith, long)))

-- a wait by how much is taken
waited : (taken held : ℕ) {n m : ℕ} {t : List ℕ} {w : Written Intake} → n ≡ m → leaving (done (waiting (taken + m) (held + m))) t ≡ w
    → leaving (done (waiting (taken + n) (held + n))) t ≡ w
waited taken held e h = rw e h

pub loop-frame-init : goal.loop-frame-init
loop-frame-init c = ((λ k. omega (arith, c.type_inv.holding k)), taken_none _ _ _ _ (omega arith))

pub returns-in-Ok : goal.returns-in-Ok
returns-in-Ok c = taken_decided c.requires.1 c.loop-frame.invariant.1 (answered c.from_bytes.ensures c.in-Ok.is) refl

pub returns-then-wanted-eq0 : goal.returns-then-wanted-eq0
returns-then-wanted-eq0 c =
    taken_stops c.requires.1 c.loop-frame.invariant.1 (answered c.from_bytes.ensures c.in-Err.is)
    (sym c.lacking-wanted.ensures ∙ c.if-wanted-eq0.true)

-- the block ends before what is lacking: its rest is less
pub hold-requires : goal.hold-requires
hold-requires c =
    let long = rest_long c.args.block.now c.loop-frame.taken in
    room_of (drop c.loop-frame.taken c.args.block.now) (length c.args.block.now - c.loop-frame.taken) refl _
    (taken_room c.requires.1 c.loop-frame.invariant.1 (answered c.from_bytes.ensures c.in-Err.is)
    (omega (arith, long, c.if-rest-wanted.true, c.lacking-wanted.ensures)))

pub returns-then-rest-wanted : goal.returns-then-rest-wanted
returns-then-rest-wanted c =
    let taken = c.loop-frame.taken in
    let block = c.args.block.now in
    let long = rest_long block taken in
    waited _ _ long
    (taken_waits c.requires.1 c.loop-frame.invariant.1 (answered c.from_bytes.ensures c.in-Err.is) c.loop-frame.invariant.0
    (λ k. omega (arith, c.type_inv.block k))
    (omega (arith, long, c.if-rest-wanted.true, c.lacking-wanted.ensures))
    (copied (drop taken block) (length block - taken) refl _ _ (omega (arith, length-drop taken block)) c.hold.ensures))

-- the block has all that is lacking
pub hold-requires-in-Err : goal.hold-requires-in-Err
hold-requires-in-Err c =
    let n = c.lacking-wanted.result in
    room_of (drop c.loop-frame.taken c.args.block.now) n (ap (take n) (rest_is c.args.block.now c.loop-frame.taken)) _
    (taken_room c.requires.1 c.loop-frame.invariant.1 (answered c.from_bytes.ensures c.in-Err.is) (omega (arith, c.lacking-wanted.ensures)))

pub loop-frame-preserved : goal.loop-frame-preserved
loop-frame-preserved c =
    let n = c.lacking-wanted.result in
    let taken = c.loop-frame.taken in
    let block = c.args.block.now in
    let long = rest_long block taken in
    let fits : n ≤ length block - taken = omega (arith, long, c.if-rest-wanted.false) in (
      c.loop-frame.invariant.0,
      taken_more c.requires.1 c.loop-frame.invariant.1 (answered c.from_bytes.ensures c.in-Err.is) n c.loop-frame.invariant.0
          (λ k. omega (arith, c.type_inv.block k)) (omega (arith, c.lacking-wanted.ensures))
          (omega (arith, fits, c.loop-frame.invariant.1.inside))
          (copied (drop taken block) n (ap (take n) (rest_is block taken)) _ _ (omega (arith, fits, length-drop taken block))
          c.hold-in-Err.ensures),
    )

pub loop-frame-smaller : goal.loop-frame-smaller
loop-frame-smaller c =
    taken_fewer c.lacking-wanted.result c.requires.1 c.loop-frame.invariant.1 (loop-frame-preserved c).1
    (answered c.from_bytes.ensures c.in-Err.is) c.lacking-wanted.ensures c.if-wanted-eq0.false
