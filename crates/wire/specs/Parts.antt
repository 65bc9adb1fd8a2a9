-- Names read part by part (RFC 1035, section 4.1.4).
use Rattle.std.specs.Prelude.{ℕ, zero, suc, ◌+◌, ◌-◌, ◌*◌, nat_eq, nat_le, nat_lt, if◌then◌else◌, Result, Ok, Err, List, [], ◌∷◌, length, slice_index, slice_range}
use Rattle.dname.specs.Labels.{folded_labels}
use Rattle.wire.specs.declared.error.WireError.{WireError}
use Rattle.wire.specs.declared.error.WireError.TheVariants.{Short, BadLabel, PointerNotEarlier, NameTooLong, BadRdataLength, BadRdataName}
use Rattle.wire.specs.declared.parts.Part.{Part}
use Rattle.wire.specs.declared.parts.Part.TheVariants.{End, Label, Pointer}
use Rattle.wire.specs.declared.parts.Faults.{Faults}
use Rattle.wire.specs.Results.{and_then}

-- The refusals of a name in a question or an owner, and of one in RDATA. A name's own part must end at its
-- border: that of the message, or that of RDATA.
abbrev pub message_faults : Faults
message_faults = record { border = Short; bad_label = BadLabel; not_earlier = PointerNotEarlier; too_long = NameTooLong }

abbrev pub rdata_faults : Faults
rdata_faults = record { border = BadRdataLength; bad_label = BadRdataName; not_earlier = BadRdataName; too_long = BadRdataName }

-- The meaning of a byte of a name: the end, a label's length, or half a pointer.
abbrev pub part_by : List ℕ → ℕ → WireError → WireError → ℕ → ℕ → Result Part WireError
part_by bytes limit border bad_label at byte =
    if nat_eq byte 0 then Ok End
    else (if nat_lt byte 64 then Ok (Label byte)
    else (if nat_lt byte 192 then Err bad_label
    else (if nat_le limit (at + 1) then Err border else Ok (Pointer ((byte - 192) * 256 + slice_index bytes (at + 1))))))

abbrev pub part_at : List ℕ → ℕ → WireError → WireError → ℕ → Result Part WireError
part_at bytes limit border bad_label at = if nat_le limit at then Err border else part_by bytes limit border bad_label at (slice_index bytes at)

-- A name goes on behind a label, and behind a pointer at its target.
abbrev pub behind_label : List ℕ → List (List ℕ) × ℕ → Result (List (List ℕ) × ℕ) WireError
behind_label label (rest, end) = Ok (label ∷ rest, end)

abbrev pub ends_at : ℕ → List (List ℕ) × ℕ → Result (List (List ℕ) × ℕ) WireError
ends_at end (labels, past) = Ok (labels, end)

-- The border of a part, the refusal there, the part's start, a place, and the bytes that the name can still
-- take.
abbrev pub followed : (ℕ → WireError → ℕ → ℕ → ℕ → Result (List (List ℕ) × ℕ) WireError) → List ℕ → Faults → ℕ → WireError → ℕ → ℕ → ℕ → Part → Result (List (List ℕ) × ℕ) WireError
followed go bytes faults limit border start at room End = Ok ([] ∷ [], at + 1)
followed go bytes faults limit border start at room (Label size) =
    if nat_lt room (size + 2) then Err faults.too_long
    else (if nat_lt limit (at + 1 + size) then Err border
    else and_then (go limit border start (at + 1 + size) (room - (size + 1))) (behind_label (slice_range bytes (at + 1) (at + 1 + size))))
followed go bytes faults limit border start at room (Pointer target) =
    if nat_lt target start then and_then (go (length bytes) Short target target room) (ends_at (at + 2)) else Err faults.not_earlier

-- The labels from a place on, in their own letters, and the end of the name's own part.
abbrev pub spelt_from : ℕ → List ℕ → Faults → ℕ → WireError → ℕ → ℕ → ℕ → Result (List (List ℕ) × ℕ) WireError
spelt_from zero bytes faults limit border start at room = Err border
spelt_from (suc fuel) bytes faults limit border start at room =
    and_then (part_at bytes limit border faults.bad_label at) (followed (spelt_from fuel bytes faults) bytes faults limit border start at room)

-- The labels of a name whose pointers in its own part lead strictly before `start`. Each step takes a byte of the name
-- or leads to an earlier part, so this many steps are enough.
unfoldable pub spelt_before : List ℕ → Faults → ℕ → ℕ → ℕ → Result (List (List ℕ) × ℕ) WireError
spelt_before bytes faults limit start at = spelt_from (start + 256) bytes faults limit faults.border start at 255

-- The labels of a name whose own part starts at its place.
abbrev pub spelt_at : List ℕ → Faults → ℕ → ℕ → Result (List (List ℕ) × ℕ) WireError
spelt_at bytes faults limit at = spelt_before bytes faults limit at at

abbrev pub in_lower_case : List (List ℕ) × ℕ → Result (List (List ℕ) × ℕ) WireError
in_lower_case (labels, end) = Ok (folded_labels labels, end)

-- The name at a place, and the end of its own part.
unfoldable pub name_at : List ℕ → Faults → ℕ → ℕ → Result (List (List ℕ) × ℕ) WireError
name_at bytes faults limit at = and_then (spelt_at bytes faults limit at) in_lower_case

-- The name at a place in full: no place is before 0, so that each pointer leads to none that is earlier.
unfoldable pub full_name_at : List ℕ → Faults → ℕ → ℕ → Result (List (List ℕ) × ℕ) WireError
full_name_at bytes faults limit at = and_then (spelt_before bytes faults limit 0 at) in_lower_case
