-- The laws about frames that the functions of this crate state: each way in which one starts or grows.
use Rattle.std.specs.Prelude.{◌≡◌, ℕ, List, [], Contains}
use Rattle.dname.specs.Labels.{Name, root, IsName, IsAtOrUnder}
use Rattle.rdata.specs.Data.{Ipv4}
use Rattle.rdata.specs.Records.{Record}
use Rattle.zone.specs.Zones.{Zone, IsBeneath, a_type}
use Rattle.zone.specs.Links.{Link, Found}
use Rattle.zone.specs.Look.{Linked, Cut, NotHere}
use Rattle.message_grammar.specs.Messages.{Message}
use Rattle.authority.specs.Catalogs.{IsLooked}
use Rattle.world_truth.specs.Worlds.{Address, World, IsWorld}
use Rattle.world_truth.specs.Truths.{IsTrueLink}
use Rattle.world_truth.specs.Serving.{MayServe}
use Rattle.world_truth.specs.Reading.{IsReferralTo}
use Rattle.world_truth.specs.Frames.{AreHeld, MayAsk, IsDelegation, Frame, IsFrame, IsGrown, frame_at, AreTargets, AreAddresses, AreTaken}

-- What the zones that the resolver holds say of a question is true.
abbrev pub LocalIsTrue : Type 0
LocalIsTrue = (W : World) (zs : List Zone) (q : Name) (t : ℕ) (l : Link) → IsWorld W → AreHeld W zs → IsLooked zs q t (Linked l) → IsTrueLink W q t l

-- A frame starts from hints where no held zone is over the name.
abbrev pub HintsStart : Type 0
HintsStart = (W : World) (zs : List Zone) (q : Name) (t : ℕ) (addresses : List Address) → IsWorld W → AreHeld W zs → IsName q → IsLooked zs q t NotHere
    → ((a : Address) → Contains addresses a → Contains W.hints a) → IsFrame W q (frame_at root [] addresses)

-- A frame starts from a cut of a held zone.
abbrev pub CutStarts : Type 0
CutStarts = (W : World) (zs : List Zone) (q : Name) (t : ℕ) (c : Name) (ns glue : List Record) (names : List Name) (addresses : List Address) → IsWorld W → AreHeld W zs
    → IsLooked zs q t (Cut c ns glue) → AreTargets names ns → AreAddresses addresses glue → IsFrame W q (frame_at c names addresses)

-- A frame starts from a kept delegation over the name: where no held zone is over it, or a cut of one is
-- strictly above the delegation.
abbrev pub KeptStarts : Type 0
KeptStarts = (W : World) (zs : List Zone) (q : Name) (t : ℕ) (c : Name) (names : List Name) (addresses : List Address) → AreHeld W zs → IsDelegation W c names addresses → IsAtOrUnder q c
    → IsLooked zs q t NotHere → IsFrame W q (frame_at c names addresses)

abbrev pub KeptBelowStarts : Type 0
KeptBelowStarts = (W : World) (zs : List Zone) (q : Name) (t : ℕ) (d c : Name) (ns glue : List Record) (names : List Name) (addresses : List Address) → IsWorld W → AreHeld W zs
    → IsDelegation W c names addresses → IsAtOrUnder q c → IsLooked zs q t (Cut d ns glue) → IsBeneath c d → IsFrame W q (frame_at c names addresses)

-- What is taken from an honest referral may be kept, and starts the next frame.
abbrev pub ReferralKept : Type 0
ReferralKept = (W : World) (a : Address) (f q : Name) (t : ℕ) (m : Message) (c : Name) (names : List Name) (addresses : List Address) → IsWorld W → MayAsk W a f q → MayServe W a q t m
    → IsReferralTo f q t m c → AreTaken f m c names addresses → IsDelegation W c names addresses

abbrev pub ReferralStarts : Type 0
ReferralStarts = (W : World) (a : Address) (f q : Name) (t : ℕ) (m : Message) (c : Name) (names : List Name) (addresses : List Address) → IsWorld W → MayAsk W a f q → MayServe W a q t m
    → IsReferralTo f q t m c → AreTaken f m c names addresses → IsFrame W q (frame_at c names addresses)

-- An address that was looked up for one of the frame's names may be added.
abbrev pub AddressAdds : Type 0
AddressAdds = (W : World) (q : Name) (f g : Frame) (n : Name) (set : List Record) (r : Record) (a : Address) → IsWorld W → IsFrame W q f → Contains f.names n
    → IsTrueLink W n a_type (Found set) → Contains set r → r.value ≡ Ipv4 a → IsGrown f a g → IsFrame W q g

-- Each address of a frame may be asked.
abbrev pub FrameAsks : Type 0
FrameAsks = (W : World) (q : Name) (f : Frame) (a : Address) → IsFrame W q f → Contains f.addresses a → MayAsk W a f.zone q
