-- What an NXDOMAIN says of the names beneath the name (RFC 8020, section 2).
use Rattle.std.specs.Prelude.{ℕ, List, Contains}
use Rattle.dname.specs.Labels.{Name, IsAtOrUnder}
use Rattle.rdata.specs.Records.{Record}
use Rattle.zone.specs.Zones.{Zone, IsBeneath}
use Rattle.zone.specs.Links.{NxDomain}
use Rattle.zone.specs.Look.{Local, Linked, Cut, NotHere}
use Rattle.authority.specs.Catalogs.{IsLooked}
use Rattle.world_truth.specs.Worlds.{World, IsWorld}
use Rattle.world_truth.specs.Truths.{IsTrueLink}
use Rattle.world_truth.specs.Frames.{IsHeld, AreHeld}

-- Whether an NXDOMAIN of p may count for a question beneath it, by what the zones at hand say of that question:
-- a name at or under the cut that they give, and any name where they give nothing.
abbrev pub MayDeny : Local → Name → Type 0
MayDeny (Linked l) p = ⊥
MayDeny (Cut c ns glue) p = IsAtOrUnder p c
MayDeny NotHere p = Unit {0}

-- Each zone beneath a name that does not exist lies at or under one that the resolver holds, which is beneath
-- that name too: no other zone delegates it.
abbrev pub OriginsBeneath : Type 0
OriginsBeneath = (W : World) (p : Name) (t : ℕ) (soa : Record) (y : Zone) → IsWorld W → IsTrueLink W p t (NxDomain soa) → Contains W.zones y → IsBeneath y.origin p
    → (z : Zone) × IsHeld W z × IsAtOrUnder y.origin z.origin × IsBeneath z.origin p

-- A true NXDOMAIN holds for each name beneath for which it may count.
abbrev pub ErrorBeneath : Type 0
ErrorBeneath = (W : World) (zs : List Zone) (p q : Name) (t u : ℕ) (soa : Record) (said : Local) → IsWorld W → AreHeld W zs → IsLooked zs q u said → MayDeny said p → IsAtOrUnder q p
    → IsTrueLink W p t (NxDomain soa) → IsTrueLink W q u (NxDomain soa)
