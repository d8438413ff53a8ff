-- The table's rule: each entry is the register after the eight bits of its place, from 0.
use mathlib.Core.Path.{◌≡◌, ◌∙◌}
use mathlib.Core.Bool.{Bool}
use mathlib.Core.List.{List}
use Prim.Native.Nat.{ℕ, ◌*◌, ◌<◌}
use lib.Dec.{T, eqb, eqb→eq}
use lib.ListN.{length, get_or}
use Rattle.uslp_checksum.specs.Checksum.{feed, lows}
use Rattle.uslp_checksum.proofs.Every.{at, every}
use Rattle.uslp_checksum.proofs.Register.{zsteps}
use Rattle.uslp_checksum.proofs.Message.{feed_octet}

unfoldable pub right : ℕ → ℕ → Bool
right k x = eqb x (feed 0 (lows 8 k))

unfoldable pub Good : List ℕ → Type 0
Good t = T (every right 0 t)

pub entry : (t : List ℕ) → Good t → (k : ℕ) → k < length t → k < 256 → get_or t k 0 ≡ zsteps 8 (k * 256)
unfolding Good right
entry t g k l h = eqb→eq (get_or t k 0) (feed 0 (lows 8 k)) (at right t g k l) ∙ feed_octet 0 k h
