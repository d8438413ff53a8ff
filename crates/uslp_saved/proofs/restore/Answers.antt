-- The octets are a good form exactly if they have its shape, each flag is 0 or 1, and each entry is admitted.
use Rattle.std.proofs.Common.{◌≡◌, List, [], ℕ, sym, subst, arith}
use Rattle.uslp_kinds.specs.Outcome.{done, refused}
use Rattle.uslp_kinds.specs.Answers.{paper}
use Rattle.uslp_record.specs.Record.{keeping}
use Rattle.uslp_record.specs.declared.ChannelRecord.{ChannelRecord}
use Rattle.uslp_record.specs.declared.Recorded.{Recorded}
use Rattle.uslp_form.specs.declared.Form.{Form}
use Rattle.uslp_form.specs.Saved.{Restoring}
use Rattle.uslp_saved.specs.Reading.{AllAdmitted}
use Rattle.uslp_saved.proofs.Told.{restores_good, restores_shapeless, restores_flagless, restores_bad}
use Rattle.uslp_saved.proofs.restore.Goals as goal
use Rattle.uslp_saved.proofs.restore.Goals.{in-Some+then-flags_fit+else-admits, in-Some+else-flags_fit, in_default}

-- the answer and the record of a call that was refused or done
abbrev Leaves : Form → ChannelRecord → List ℕ → Recorded (Unit {0}) → Type 0
Leaves f r s x = Restoring f r s (keeping (paper x.answer) x.next)

abbrev Refuses : ChannelRecord → Form → List ℕ → Type 0
Refuses r f s = Restoring f r s (keeping (refused 18 []) r)

-- what is so of the octets that were shaped is so of those that were given
of_octets : (P : Form → List ℕ → Type 0) {g f : Form} {t s : List ℕ} → (g ≡ f) × (t ≡ s) → P g t → P f s
of_octets P {g} {f} {t} {s} e p = subst (P f) e.1 (subst (λ (h : Form). P h t) e.0 p)

same : (f : Form) {q p : ChannelRecord} {n m i j : ℕ} → q ≡ p → n ≡ m → i ≡ j → AllAdmitted f q n i → AllAdmitted f p m j
same f {q} {p} {n} {m} {i} {j} e d g a =
    subst (AllAdmitted f p m) g (subst (λ (k : ℕ). AllAdmitted f p k i) d (subst (λ (r : ChannelRecord). AllAdmitted f r n i) e a))

pub returns-then-admits : goal.returns-then-admits
returns-then-admits c =
    let a = c.args in
    let o = c.in-Some.octets in
    let s = o.from.now in
    of_octets (λ f t. Restoring f a.channels t (keeping (done tt) c.read_all-next.result)) c.in-Some.ensures
    (subst (λ (q : ChannelRecord). Restoring o.form a.channels s (keeping (done tt) q)) (sym c.read_all-next.ensures)
    (restores_good o.form s a.channels o.octets (record { long = o.long; few = omega (arith, o.all, o.few) })
    (c.flags_fit.ensures.0 c.if-flags_fit.true)
    (same o.form c.read_all-next.ensures o.first o.all (c.admits.ensures.0 c.if-admits.true))))

pub returns : goal.returns
returns c =
    let a = c.args in
    subst (Leaves a.form a.channels a.from.now) (sym c.refused.ensures)
    (elim c.match-shaped.branch [
      | in-Some+then-flags_fit+else-admits w ↦
          of_octets (Refuses a.channels) w.in-Some.ensures
          (restores_bad w.in-Some.octets.form w.in-Some.octets.from.now a.channels
          (λ all. w.admits.ensures.1 w.if-admits.false
          (same w.in-Some.octets.form (sym w.read_all-next.ensures) (sym w.in-Some.octets.first) (sym w.in-Some.octets.all) all)))
      | in-Some+else-flags_fit w ↦
          of_octets (Refuses a.channels) w.in-Some.ensures
          (restores_flagless w.in-Some.octets.form w.in-Some.octets.from.now a.channels (w.flags_fit.ensures.1 w.if-flags_fit.false))
      | in_default w ↦ restores_shapeless a.form a.from.now a.channels w.in_default.ensures
    ])
