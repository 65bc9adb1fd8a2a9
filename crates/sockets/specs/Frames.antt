-- The frames of a TCP stream (RFC 1035, section 4.2.2). The bytes that a reader has left and those that a writer holds
-- are `Some` where they are known.
use Rattle.std.specs.Prelude.{◌≡◌, ℕ, ◌+◌, ◌<◌, ◌^◌, List, ◌++◌, length, Some, None}
use Rattle.std.specs.declared.option.Option.{Option}
use Rattle.std.specs.Io.KnownBytes.{Appends, Consumes, IsAtEnd}
use Rattle.byteorder.specs.Endian.{big_bytes, big_number}
use Rattle.sockets.specs.declared.fault.FrameError.{FrameError}
use Rattle.sockets.specs.declared.fault.FrameError.TheVariants.{Short, Read, Write, Memory}

-- The frame of these bytes: their number in two bytes, the higher first, and then the bytes.
abbrev pub frame : List ℕ → List ℕ
frame bytes = big_bytes 2 (length bytes) ++ bytes

-- What ends inside a frame: it has a byte, and fewer than the length takes and says.
abbrev pub EndsInside : List ℕ → Type 0
EndsInside xs = (0 < length xs) × (length xs < 2 + big_number 2 xs)

-- The frame of these bytes stands first.
pub record BeginsWith (got bytes : List ℕ) : Type 0 where
  pub rest : List ℕ
  pub is : got ≡ frame bytes ++ rest
  pub short : length bytes < 2 ^ 16

-- It has fewer bytes than the length takes and says.
abbrev pub IsIncomplete : List ℕ → Type 0
IsIncomplete got = length got < 2 + big_number 2 got

abbrev pub Holds : (List ℕ → Type 0) → Option (List ℕ) → Type 0
Holds P None = Unit {0}
Holds P (Some xs) = P xs

-- The stream was at its end.
abbrev pub IsOver : Option (List ℕ) → Option (List ℕ) → Type 0
IsOver old new = IsAtEnd old × IsAtEnd new

-- The stream began with the frame of these bytes, and the rest of it is unread.
abbrev pub IsTaken : Option (List ℕ) → Option (List ℕ) → List ℕ → Type 0
IsTaken old new bytes = (length bytes < 2 ^ 16) × Consumes old new (frame bytes)

-- Why no frame was taken. Of faults and of memory nothing is known.
abbrev pub IsNotTaken : Option (List ℕ) → Option (List ℕ) → FrameError → Type 0
IsNotTaken old new Short = Holds EndsInside old × IsAtEnd new
IsNotTaken old new Read = Unit {0}
IsNotTaken old new Write = ⊥
IsNotTaken old new Memory = Unit {0}

-- A front of these bytes was written, and no more.
abbrev pub IsBegun : Option (List ℕ) → Option (List ℕ) → List ℕ → Type 0
IsBegun old new bytes = (front rest : List ℕ) × (bytes ≡ front ++ rest) × Appends old new front

-- Why no frame was written: what was written before the fault stands.
abbrev pub IsNotWritten : Option (List ℕ) → Option (List ℕ) → List ℕ → FrameError → Type 0
IsNotWritten old new bytes e = (e ≡ Write) × IsBegun old new bytes

-- Why so many bytes were not read: where the stream ends, it has fewer.
abbrev pub IsLacking : Option (List ℕ) → Option (List ℕ) → ℕ → FrameError → Type 0
IsLacking old new n Short = Holds (λ xs. length xs < n) old × IsAtEnd new
IsLacking old new n Read = Unit {0}
IsLacking old new n Write = ⊥
IsLacking old new n Memory = Unit {0}
