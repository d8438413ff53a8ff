-- Octets that come one part after the other (docs/RULES.md, section 5.2): the parts that SHORT_SOURCE asks for.
use Rattle.std.specs.Prelude.{ℕ, zero, suc, ◌≡◌, true, List, ◌++◌, length}
use Rattle.uslp_kinds.specs.Answers.{short, lacking}
use Rattle.uslp_kinds.specs.declared.ManagedParameters.{ManagedParameters}
use Rattle.uslp_reader.specs.Reader.{frame_reading}

-- the octets get SHORT_SOURCE, as many are added as it lacks, and these get it again: n times in all
pub data Asks (managed : ManagedParameters) : List ℕ → ℕ → Type 0 where
  no_more : {s : List ℕ} → Asks managed s zero
  again : {s : List ℕ} {n : ℕ} (t : List ℕ) → short (frame_reading s managed) ≡ true → length t ≡ lacking (frame_reading s managed) → Asks managed (s ++ t) n
      → Asks managed s (suc n)
