-- Results of the local zones that are the same but for TTLs, order and repeats.
use Rattle.std.specs.Prelude.{◌≡◌, List, Contains}
use Rattle.rdata.specs.Records.{Record}
use Rattle.zone.specs.Same.{SameLink}
use Rattle.zone.specs.Look.{Local, Linked, Cut, NotHere}

-- The same records, whatever their order.
abbrev pub AreSame : List Record → List Record → Type 0
AreSame rs ss = ((r : Record) → Contains rs r → Contains ss r) × ((r : Record) → Contains ss r → Contains rs r)

-- Two links are one but for TTLs, order and repeats; two referrals are one but for the order of their records.
abbrev pub SameLocal : Local → Local → Type 0
SameLocal (Linked k) (Linked l) = SameLink k l
SameLocal (Linked k) (Cut d more others) = ⊥
SameLocal (Linked k) NotHere = ⊥
SameLocal (Cut c servers addresses) (Linked l) = ⊥
SameLocal (Cut c servers addresses) (Cut d more others) = (c ≡ d) × AreSame servers more × AreSame addresses others
SameLocal (Cut c servers addresses) NotHere = ⊥
SameLocal NotHere (Linked l) = ⊥
SameLocal NotHere (Cut d more others) = ⊥
SameLocal NotHere NotHere = Unit {0}
