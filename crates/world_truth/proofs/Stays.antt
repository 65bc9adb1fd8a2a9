-- What is true stays true where TTLs, order and repeats alone change; each record of a set stands once.
use Rattle.std.proofs.Common.{◌≡◌, ℕ, List, [], ◌∷◌, refl, sym, ◌∙◌, subst}
use Rattle.std.specs.Prelude.{Contains}
use Rattle.dname.specs.Labels.{Name}
use Rattle.rdata.specs.Records.{Record}
use Rattle.zone.specs.Zones.{Zone, At}
use Rattle.zone.specs.Links.{Link, Found, IsFrom, Distinct, IsLink}
use Rattle.zone.specs.Ruled.{IsZone}
use Rattle.zone.specs.Same.{Same, SameLink}
use Rattle.zone.specs.Look.{Linked}
use Rattle.zone.proofs.LawLists.{first_in, later_in}
use Rattle.authority.specs.Catalogs.{IsLooked}
use Rattle.world_truth.specs.Worlds.{World, IsWorld}
use Rattle.world_truth.specs.Truths.{IsTrueLink}
use Rattle.world_truth.specs.Replies.{Once}
use Rattle.world_truth.specs.Frames.{AreHeld, IsHeld}
use Rattle.world_truth.proofs.Sames.{link_on}
use Rattle.world_truth.proofs.Grown.{looked_link}

pub same_is_true : (W : World) (q : Name) (t : ℕ) (k l : Link) → SameLink k l → IsTrueLink W q t l → IsTrueLink W q t k
same_is_true W q t k l e (z, charge, (m, link, same)) = (z, charge, (m, link, link_on k l m e same))

pub stays_true : (change : Link → Link) → ((l : Link) → SameLink (change l) l) → (W : World) (q : Name) (t : ℕ) (l : Link) → IsTrueLink W q t l → IsTrueLink W q t (change l)
stays_true change same W q t l h = same_is_true W q t (change l) l (same l) h

-- Two records of one set that are the same are equal: a set has one TTL.
one_in_set : (z : Zone) (s q : Name) (t : ℕ) (x y : Record) → IsZone z → IsFrom z s q t x → IsFrom z s q t y → Same x y → y ≡ x
one_in_set z s q t x y rules h k same =
    let a : At z s t (record x { owner = s }) = h.1 in
    let b : At z s t (record y { owner = s }) = k.1 in
    let ttl : y.ttl ≡ x.ttl = rules.ttls (record y { owner = s }) (record x { owner = s }) b.stands a.stands refl (b.kind ∙ sym a.kind) in
    λ i. record { owner = sym same.0 i; ttl = ttl i; value = sym same.1 i }

all_once : (z : Zone) (s q : Name) (t : ℕ) (set : List Record) → IsZone z → ((r : Record) → Contains set r → IsFrom z s q t r) → Distinct set → Once set
all_once z s q t [] rules from apart = tt
all_once z s q t (r ∷ rs) rules from apart = (
  λ h. let (y, m, same) = h in
      apart.0 (subst (Contains rs) (one_in_set z s q t r y rules (from r (first_in r rs)) (from y (later_in r y rs m)) same) m),
  all_once z s q t rs rules (λ x m. from x (later_in r x rs m)) apart.1,
)

pub found_once : (z : Zone) (q : Name) (t : ℕ) (set : List Record) → IsZone z → IsLink z q t (Found set) → Once set
found_once z q t set rules link = let (s, source, says) = link.says in all_once z s q t set rules says.0 says.2

pub held_once : (W : World) (zs : List Zone) (q : Name) (t : ℕ) (set : List Record) → IsWorld W → AreHeld W zs → IsLooked zs q t (Linked (Found set)) → Once set
held_once W zs q t set w held looked =
    let (z, charge, link) = looked_link zs q t (Found set) looked in
    let here : IsHeld W z = (held z).0 charge.stands in
    found_once z q t set (w.zones z here.0) link
