-- The zones that are looked through: all, or those whose origins are listed.
use Rattle.std.proofs.Common.{ℕ, Option, Some, None, List}
use Rattle.zone.specs.Zones.{Zone}
use Rattle.zone.proofs.LawLists.{filter_of}
use Rattle.authority.specs.Catalogs.{AreNamed, has_origin_in, chosen}

-- The zones that are listed are zones of the catalog.
pub chosen_named : (listed : Option (List (List (List ℕ)))) (zs : List Zone) → AreNamed zs → AreNamed (chosen listed zs)
chosen_named None zs named = named
chosen_named (Some origins) zs named = λ z m. named z (filter_of (has_origin_in origins) zs z m).0
