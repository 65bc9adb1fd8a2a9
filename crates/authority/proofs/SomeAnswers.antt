-- A name that a zone is over has an answer.
use Rattle.std.proofs.Common.{◌≡◌, ℕ, Option, Some, None, List, refl}
use Rattle.std.specs.Prelude.{Contains}
use Rattle.dname.specs.Labels.{IsAtOrUnder}
use Rattle.zone.specs.Zones.{Zone}
use Rattle.zone.specs.Ruled.{IsNamed, IsZone}
use Rattle.zone.specs.Look.{Local, local_by}
use Rattle.zone.specs.Referrals.{IsLocal}
use Rattle.zone.proofs.LawReferral.{local_law}
use Rattle.zone.proofs.LawZones.{soa_at_origin, has_denial}
use Rattle.authority.specs.Catalogs.{IsInCharge, AreNamed, zone_over}
use Rattle.authority.proofs.Charges.{charge_is, nobody_over}

answer_of : (zs : List Zone) (q : List (List ℕ)) (t : ℕ) (y : Zone) (o : Option Zone) → ((z : Zone) → Contains zs z → IsNamed z × IsZone z) → AreNamed zs
    → Contains zs y → IsAtOrUnder q y.origin → zone_over zs q ≡ o → (z : Zone) × (l : Local) × IsInCharge zs q z × IsLocal z q t l
answer_of zs q t y None rules named m u e = absurd (nobody_over zs q y named m e u)
answer_of zs q t y (Some z) rules named m u e =
    let charge : IsInCharge zs q z = charge_is zs q z e in
    let n : IsNamed z = (rules z charge.stands).0 in
    let k : IsZone z = (rules z charge.stands).1 in
    let (soa, d) = has_denial z k in
    (z, local_by soa z q t, charge, local_law z q t soa n (soa_at_origin z k) k.ttls d charge.over)

pub some_answer : (zs : List Zone) (q : List (List ℕ)) (t : ℕ) (y : Zone) → ((z : Zone) → Contains zs z → IsNamed z × IsZone z) → AreNamed zs
    → Contains zs y → IsAtOrUnder q y.origin → (z : Zone) × (l : Local) × IsInCharge zs q z × IsLocal z q t l
some_answer zs q t y rules named m u = answer_of zs q t y (zone_over zs q) rules named m u refl
