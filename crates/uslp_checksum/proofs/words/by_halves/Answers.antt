use Rattle.std.proofs.Common.{◌≡◌, arith, refl, sym, ap, ap₂, ◌∙◌, ℕ, zero, suc, ◌+◌, ◌*◌, ◌%◌, ◌≤◌, ◌<◌, ◌^◌, ◌-◌, List, [], ◌∷◌, get_or, length, subst, length-drop, drop_of_length-le}
use Rattle.uslp_octets.specs.Octets.{AreOctets, word}
use Rattle.uslp_octets.proofs.Laws.{pow_eight, word_lt, are_drop}
use Rattle.uslp_checksum.specs.Checksum.{feed, lows, bits}
use Rattle.uslp_checksum.proofs.Lows.{front_number, front_fed}
use Rattle.uslp_checksum.proofs.Message.{feed_none}
use Rattle.uslp_checksum.proofs.words.by_halves.Goals as goal
use Rattle.uslp_checksum.proofs.words.by_halves.Goals.{then-k-rest, else-k-rest}

abbrev half : ℕ → ℕ
half i = get_or (4 ∷ 2 ∷ 1 ∷ []) i 0

halves : (i : ℕ) → i < 3 → (half i ≤ 4) × (2 ^ (3 - i) ≡ half i + half i) × (2 ^ (3 - (i + 1)) ≡ half i)
halves zero h = (omega arith, refl, refl)
halves (suc zero) h = (omega arith, refl, refl)
halves (suc (suc zero)) h = (omega arith, refl, refl)
halves (suc (suc (suc i))) h = absurd (omega arith)

pub take-current-requires : goal.take-current-requires
take-current-requires c =
    let l = c.loop-k in
    let s = l.rest.now in
    let k = half l.k-index in
    let e = halves l.k-index c.loop-k-test.true in
    let n = c.be_number.ensures ∙ ap (λ (x : List ℕ). word 0 (length x) x % 2 ^ 64) c.split_at.ensures.front
    ∙ front_number s l.invariant.0 k c.if-k-rest.true (omega (arith, e.0)) in
    (omega (arith, e.0), rw (n, pow_eight k) (word_lt s 0 l.invariant.0 k))

pub loop-k-preserved : goal.loop-k-preserved
loop-k-preserved c =
    let l = c.loop-k in
    let s = l.rest.now in
    let k = half l.k-index in
    let e = halves l.k-index c.loop-k-test.true in
    elim c.if-k-rest.branch [
      | then-k-rest w ↦
          let behind = ap (λ (b : _). b.now) w.rest-is ∙ w.split_at.ensures.back in
          let n = w.be_number.ensures ∙ ap (λ (x : List ℕ). word 0 (length x) x % 2 ^ 64) w.split_at.ensures.front
          ∙ front_number s l.invariant.0 k w.if-k-rest.true (omega (arith, e.0)) in (
            subst AreOctets (sym behind) (are_drop k s l.invariant.0),
            omega (arith, ap length behind, length-drop k s, e.1, e.2, l.invariant.1),
            ap₂ (λ (x : ℕ) (y : List ℕ). feed x (bits y))
                (w.current-is ∙ w.take-current.ensures ∙ ap (λ (x : ℕ). feed l.current (lows (8 * k) x)) n) behind
                ∙ front_fed s l.invariant.0 k w.if-k-rest.true l.current
                ∙ l.invariant.2,
          )
      | else-k-rest w ↦
          let same = ap (λ (b : _). b.now) w.rest-is in (
            subst AreOctets (sym same) l.invariant.0,
            omega (arith, ap length same, e.2, w.if-k-rest.false),
            ap₂ (λ (x : ℕ) (y : List ℕ). feed x (bits y)) w.current-is same ∙ l.invariant.2,
          )
    ]

pub returns : goal.returns
returns c =
    let l = c.loop-k in
    let all : 3 ≡ l.k-index = omega arith in
    let few : length l.rest.now ≤ 0 = omega (arith, l.invariant.1, ap (λ (i : ℕ). 2 ^ (3 - i)) all) in
    sym (feed_none l.current) ∙ ap (λ (x : List ℕ). feed l.current (bits x)) (sym (drop_of_length-le l.rest.now {i = 0} few))
    ∙ l.invariant.2
