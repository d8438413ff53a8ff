-- Reading a frame (docs/RULES.md, section 5): what stands in the octets, and what the reader answers, in its order.
use Rattle.std.specs.Prelude.{ℕ, ◌+◌, ◌-◌, Bool, not, cond, ◌&&◌, List, [], ◌∷◌, length, take, drop, ltb, eqb, Option, Some, None}
use Rattle.uslp_octets.specs.Octets.{word, part_in, part_at}
use Rattle.uslp_checksum.specs.Checksum.{checksum_of}
use Rattle.uslp_kinds.specs.Outcome.{Outcome, done, refused, and_then, first_of}
use Rattle.uslp_kinds.specs.declared.ManagedParameters.{ManagedParameters}
use Rattle.uslp_primary_header.specs.Header.{len_header, len_frame, header_reading}
use Rattle.uslp_primary_header.specs.declared.PrimaryHeader.{PrimaryHeader}
use Rattle.uslp_data_field_header.specs.Field.{field_reading}
use Rattle.uslp_data_field_header.specs.declared.TransferFrameDataFieldHeader.{TransferFrameDataFieldHeader}
use Rattle.uslp_layout.specs.Layout.{data_start, needed}
use Rattle.uslp_reader.specs.declared.TransferFrame.{TransferFrame}

-- the OCF, if its flag is set, stands behind the data
abbrev pub ocf_at : Bool → ℕ → List ℕ → Option ℕ
ocf_at flag i s = cond flag (Some (word i 4 s)) None

-- the frame that stands in the octets with n octets of data
abbrev pub frame_with : PrimaryHeader → TransferFrameDataFieldHeader → ℕ → List ℕ → TransferFrame
frame_with h f n s =
    record {
      primary_header = h;
      data_field_header = f;
      operational_control_field = ocf_at h.ocf_flag (data_start h f + n) s;
      data_start = data_start h f;
      data_len = n;
    }

-- the FECF as it is stored in a frame, and as it is computed from the octets before it
abbrev pub stored_fecf : PrimaryHeader → List ℕ → ℕ
stored_fecf h s = word (len_frame h - 2) 2 s

abbrev pub computed_fecf : PrimaryHeader → List ℕ → ℕ
computed_fecf h s = checksum_of (take (len_frame h - 2) s)

-- both headers stand: 7, 6; a frame passes when the checksum over all of it is 0, and 6 carries the FECF as stored and as computed;
-- the data are what the frame's length leaves over
abbrev pub body_reading : PrimaryHeader → TransferFrameDataFieldHeader → ManagedParameters → List ℕ → Outcome TransferFrame
body_reading h f managed s =
    first_of
    ((ltb (len_frame h) (needed h f managed), refused 7 (len_frame h ∷ needed h f managed ∷ []))
    ∷ (managed.has_fecf && not (eqb (checksum_of (take (len_frame h) s)) 0), refused 6 (stored_fecf h s ∷ computed_fecf h s ∷ []))
    ∷ [])
    (done (frame_with h f (len_frame h - needed h f managed) s))

-- the primary header's refusals, 1 (whole frame), the data field header's, looked for in all of the lent octets, then 7, 6
unfoldable pub frame_reading : List ℕ → ManagedParameters → Outcome TransferFrame
frame_reading s managed =
    and_then (header_reading s)
    (λ (h : PrimaryHeader).
    first_of
    ((ltb (length s) (len_frame h), refused 1 (length s ∷ len_frame h ∷ [])) ∷ [])
    (and_then (field_reading (drop (len_header h) s)) (λ (f : TransferFrameDataFieldHeader). body_reading h f managed s)))

-- the data as a part of the octets; nothing where they do not reach so far
abbrev pub contents_in : TransferFrame → List ℕ → List ℕ
contents_in x s = part_in x.data_start x.data_len s

-- where that part starts in the octets: where the data do, and at the front where it is empty for want of octets
abbrev pub contents_at : TransferFrame → List ℕ → ℕ
contents_at x s = part_at x.data_start x.data_len s

-- and nothing on a refusal
abbrev pub contents_read : Outcome TransferFrame → List ℕ → List ℕ
contents_read (done x) s = contents_in x s
contents_read (refused k vs) s = []

abbrev pub contents_read_at : Outcome TransferFrame → List ℕ → ℕ
contents_read_at (done x) s = contents_at x s
contents_read_at (refused k vs) s = 0
