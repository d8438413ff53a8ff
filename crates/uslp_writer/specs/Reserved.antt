-- The writer that reserves the data area (docs/RULES.md, section 4.2): what making, filling and finishing answer and leave, in their order.
use Rattle.std.specs.Prelude.{ℕ, ◌+◌, ◌-◌, min, true, cond, ◌||◌, List, [], ◌∷◌, ◌++◌, length, take, drop, ltb}
use Rattle.uslp_octets.specs.Octets.{overlaid}
use Rattle.uslp_kinds.specs.Outcome.{Outcome, done, refused, and_then, Written, leaving, only_if_done, first_of}
use Rattle.uslp_layout.specs.Layout.{data_start, ocf_octets, with_fecf}
use Rattle.uslp_writer.specs.Frame.{total, header_octets, frame_checks}
use Rattle.uslp_writer.specs.declared.TransferFrameCreator.{TransferFrameCreator}
use Rattle.uslp_writer.specs.declared.TransferFrameCreatorWithReservedData.{TransferFrameCreatorWithReservedData}

-- data start, data size, total and FECF
abbrev pub reservation : TransferFrameCreator → ℕ → TransferFrameCreatorWithReservedData
reservation c n =
    record {
      data_index = data_start c.primary_header c.data_field_header;
      data_size = n;
      len_written = total c n;
      has_fecf = c.has_fecf;
    }

-- headers and OCF are written; the data area and what stands behind the OCF stay as found
abbrev pub reserved_octets : TransferFrameCreator → ℕ → List ℕ → List ℕ
reserved_octets c n s =
    header_octets c (total c n)
    ++ (take n (drop (data_start c.primary_header c.data_field_header) s)
    ++ (ocf_octets c.operational_control_field
    ++ drop (data_start c.primary_header c.data_field_header + n + length (ocf_octets c.operational_control_field)) s))

-- making it over octets s: 10, 8, 9, 11, 12, 2
unfoldable pub reserving : TransferFrameCreator → ℕ → List ℕ → Written TransferFrameCreatorWithReservedData
reserving c n s =
    only_if_done
    (first_of (frame_checks c n ++ (ltb (length s) (total c n), refused 2 (length s ∷ total c n ∷ [])) ∷ []) (done (reservation c n)))
    (reserved_octets c n s)
    s

-- start plus size plus FECF
abbrev pub claimed : TransferFrameCreatorWithReservedData → ℕ
claimed k = k.data_index + k.data_size + cond k.has_fecf 2 0

-- finishing with a buffer of this length: 12, 7, 2
unfoldable pub finish_length : TransferFrameCreatorWithReservedData → ℕ → Outcome ℕ
finish_length k found =
    first_of
    ((ltb 65536 k.len_written || ltb 65536 (claimed k), refused 12 [])
    ∷ (ltb k.len_written (claimed k), refused 7 (k.len_written ∷ claimed k ∷ []))
    ∷ (ltb found k.len_written, refused 2 (found ∷ k.len_written ∷ []))
    ∷ [])
    (done k.len_written)

-- the FECF's two octets are written if asked for, else nothing
abbrev pub finishing : TransferFrameCreatorWithReservedData → List ℕ → Written ℕ
finishing k s =
    only_if_done
    (finish_length k (length s))
    (cond k.has_fecf (with_fecf true (take (k.len_written - 2) s) ++ drop k.len_written s) s)
    s

abbrev pub if_done : {A : Type 0} → Outcome ℕ → A → A → A
if_done (done n) x y = x
if_done (refused k vs) x y = y

-- the data area, and an empty part where finishing would refuse
abbrev pub area_in : TransferFrameCreatorWithReservedData → List ℕ → List ℕ
area_in k s = if_done (finish_length k (length s)) (take k.data_size (drop k.data_index s)) []

-- where that part starts in the octets: where the data do, and at the front where finishing would refuse
abbrev pub area_at : TransferFrameCreatorWithReservedData → List ℕ → ℕ
area_at k s = if_done (finish_length k (length s)) k.data_index 0

-- the octets with these laid into the data area
abbrev pub filled : TransferFrameCreatorWithReservedData → List ℕ → List ℕ → List ℕ
filled k d s = take k.data_index s ++ (d ++ drop (k.data_index + k.data_size) s)

-- octets laid over the data area as far as both reach, and how many: refused like finishing, 12, 7, 2
abbrev pub filling : TransferFrameCreatorWithReservedData → List ℕ → List ℕ → Written ℕ
filling k d s =
    only_if_done
    (and_then (finish_length k (length s)) (λ (n : ℕ). done (min (length d) k.data_size)))
    (filled k (overlaid d (area_in k s)) s)
    s

-- a call that writes, then another on what it leaves; a refusal stands
abbrev pub and_on : {A B : Type 0} → Written A → (A → List ℕ → Written B) → Written B
and_on (leaving (done x) s) next = next x s
and_on (leaving (refused k vs) s) next = leaving (refused k vs) s

-- reserving as much as the data need, filling, finishing
abbrev pub in_turn : TransferFrameCreator → List ℕ → List ℕ → Written ℕ
in_turn c d s =
    and_on (reserving c (length d) s) (λ (k : TransferFrameCreatorWithReservedData) (t : List ℕ). and_on (filling k d t) (λ (n : ℕ). finishing k))
