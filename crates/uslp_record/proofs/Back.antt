-- What a call leaves is one answer with one record, and a refusal leaves the record that was given.
use Rattle.std.proofs.Common.{◌≡◌, ℕ, List, sym}
use Rattle.uslp_kinds.specs.Outcome.{Outcome, done, refused}
use Rattle.uslp_kinds.proofs.Outcomes.{not_done}
use Rattle.uslp_record.specs.Slots.{Change}
use Rattle.uslp_record.specs.Record.{keeping, applied}
use Rattle.uslp_record.specs.declared.ChannelRecord.{ChannelRecord}

pub keeping_one : {A : Type 0} {o p : Outcome A} {r q : ChannelRecord} → keeping o r ≡ keeping p q → (o ≡ p) × (r ≡ q)
keeping_one e = (cc, cc)

-- a refusal of a call that changes a slot leaves the record
pub applied_keeps : {A : Type 0} (r : ChannelRecord) (o : Outcome (A × Change)) {k : ℕ} {vs : List ℕ} {q : ChannelRecord}
    → applied r o ≡ keeping (refused k vs) q
    → q ≡ r
applied_keeps r (done x) e = absurd (not_done (sym (keeping_one e).0))
applied_keeps r (refused k vs) e = sym (keeping_one e).1
