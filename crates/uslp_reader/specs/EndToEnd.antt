-- Frames end to end (docs/RULES.md, section 5.1): what their lengths cut off, until a refusal of the reader or the end.
use Rattle.std.specs.Prelude.{ℕ, zero, suc, List, [], ◌∷◌, length, take, drop}
use Rattle.uslp_kinds.specs.Outcome.{Outcome, done, refused, and_then}
use Rattle.uslp_kinds.specs.declared.ManagedParameters.{ManagedParameters}
use Rattle.uslp_primary_header.specs.Header.{len_frame}
use Rattle.uslp_reader.specs.Reader.{frame_reading}
use Rattle.uslp_reader.specs.declared.TransferFrame.{TransferFrame}

-- frames as they are read, each with its octets, and what is left behind them
pub record Cut : Type 0 where
  pub frames : List (TransferFrame × List ℕ)
  pub rest : List ℕ

-- what follows a reading of the octets s: the frame's length cuts it off, or nothing is cut off any more
abbrev pub cut_at : List ℕ → Outcome TransferFrame → (List ℕ → Cut) → Cut
cut_at s (done x) next =
    let n = len_frame x.primary_header in
    record { frames = (x, take n s) ∷ (next (drop n s)).frames; rest = (next (drop n s)).rest }
cut_at s (refused k vs) next = record { frames = []; rest = s }

-- the first number bounds the frames
unfoldable pub cut_up_to : ℕ → ManagedParameters → List ℕ → Cut
cut_up_to zero managed s = record { frames = []; rest = s }
cut_up_to (suc most) managed s = cut_at s (frame_reading s managed) (cut_up_to most managed)

-- each frame has an octet or more, so there are no more frames than octets
abbrev pub cut : ManagedParameters → List ℕ → Cut
cut managed s = cut_up_to (length s) managed s

-- why nothing more is cut off: nothing is left, or the reader refuses what is
abbrev pub stopping : ManagedParameters → List ℕ → Outcome (Unit {0})
stopping managed [] = done tt
stopping managed (o ∷ s) = and_then (frame_reading (o ∷ s) managed) (λ (x : TransferFrame). done tt)
