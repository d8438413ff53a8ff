-- The listing of a recording (docs/RULES.md, section 8): a line for each frame without FECF, end to end, until a refusal or the end.
use Rattle.std.specs.Prelude.{ℕ, ◌+◌, ◌-◌, cond, List, [], ◌∷◌, ◌++◌, length, drop, ltb}
use Rattle.uslp_kinds.specs.Outcome.{Outcome, done, refused, Written, only_if_done, first_of}
use Rattle.uslp_kinds.specs.Managed.{no_fecf}
use Rattle.uslp_primary_header.specs.Header.{len_frame}
use Rattle.uslp_reader.specs.EndToEnd.{cut, stopping}
use Rattle.uslp_reader.specs.declared.TransferFrame.{TransferFrame}
use Rattle.uslp_text.specs.Text.{text, decimal}

abbrev pub heading : List ℕ
heading = text "at length spacecraft channel map count data\n"

-- a numeral and a blank behind it
abbrev pub spaced : ℕ → List ℕ
spaced n = decimal n ++ text " "

-- the line of a frame that stands at a place
abbrev pub line : ℕ → TransferFrame → List ℕ
line at x =
    spaced at
    ++ (spaced (len_frame x.primary_header)
    ++ (spaced x.primary_header.spacecraft_id
    ++ (spaced x.primary_header.vc_id
    ++ (spaced x.primary_header.map_id
    ++ (spaced x.primary_header.vc_frame_count
    ++ (decimal x.data_len ++ text "\n"))))))

abbrev pub summary : ℕ → ℕ → ℕ → List ℕ
summary frames at answer =
    text "frames " ++ (decimal frames ++ (text " stopped " ++ (decimal at ++ (text " answer " ++ (decimal answer ++ text "\n")))))

-- the lines of frames that stand one behind the other from a place on
unfoldable pub lines : ℕ → List (TransferFrame × List ℕ) → List ℕ
lines at [] = []
lines at (f ∷ fs) = line at f.0 ++ lines (at + len_frame f.0.primary_header) fs

-- nothing left is the end, answer 0
abbrev pub answer_of : Outcome (Unit {0}) → ℕ
answer_of (done u) = 0
answer_of (refused k vs) = k

-- the lines of the frames end to end, then how many they are, the place reached, and why nothing more was read there
abbrev pub lines_of : List ℕ → List ℕ
lines_of s =
    let c = cut no_fecf s in
    lines 0 c.frames ++ summary (length c.frames) (length s - length c.rest) (answer_of (stopping no_fecf c.rest))

-- the whole text
unfoldable pub listing : List ℕ → List ℕ
listing s = heading ++ cond (ltb 65536 (length s)) (summary 0 0 12) (lines_of s)

-- a buffer of this length holds the listing of any recording
abbrev pub room : ℕ
room = 524400

-- the listing over octets t: 2 for a buffer below the room; the octets past the text stay
unfoldable pub listing_over : List ℕ → List ℕ → Written ℕ
listing_over s t =
    only_if_done
    (first_of ((ltb (length t) room, refused 2 (length t ∷ room ∷ [])) ∷ []) (done (length (listing s))))
    (listing s ++ drop (length (listing s)) t)
    t
