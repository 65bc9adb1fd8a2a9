-- The small world is well formed.
use Rattle.std.proofs.Common.{◌≡◌, ◌≢◌, ◌≤◌, ◌⊎◌, inl, inr, List, [], ◌∷◌, length, refl, sym, ◌∙◌, ap, subst, arith}
use Rattle.std.specs.Prelude.{Contains}
use Rattle.dname.specs.Labels.{Name, root, IsLabel, IsName}
use Rattle.rdata.specs.Data.{Ipv4, Ns, type_of}
use Rattle.rdata.specs.Records.{Record}
use Rattle.zone.specs.Zones.{Zone, At, IsCut, IsBeneath, a_type, ns_type}
use Rattle.zone.specs.Links.{IsFrom}
use Rattle.zone.specs.Ruled.{IsZone, IsNamed}
use Rattle.zone.proofs.LawRules.{zone_is}
use Rattle.zone.proofs.LawLists.{none_in, first_in, later_in, in_cases}
use Rattle.world_truth.specs.Worlds.{Address, Host, Serves, IsOrigin, IsParent, IsAddressOf, IsWorld}
use Rattle.world_truth.specs.Sample.{server_name, lower_name, server_address, soa_data, entry, root_zone, lower_zone, sample_host, sample, SampleStands}

-- Each member of a list that is written out.
abbrev Each : {X : Type 0} → (X → Type 0) → List X → Type 0
Each P [] = Unit {0}
Each P (x ∷ xs) = P x × Each P xs

each_of : {X : Type 0} (P : X → Type 0) (xs : List X) → Each P xs → (x : X) → Contains xs x → P x
each_of P [] all x m = absurd (none_in x m)
each_of P (y ∷ ys) all x m = elim (in_cases y x ys m) [
  | inl e ↦ subst P e all.0
  | inr n ↦ each_of P ys all.1 x n
]

-- Both zones.
both : (P : Zone → Type 0) → P root_zone → P lower_zone → (z : Zone) → Contains sample.zones z → P z
both P h k z m = each_of P sample.zones (h, (k, tt)) z m

abbrev HasOwner : Record → Type 0
HasOwner r = r.owner ≢ []

root_named : IsNamed root_zone
root_named r m = each_of HasOwner root_zone.records (λ e. cc, (λ e. cc, (λ e. cc, (λ e. cc, tt)))) r m

lower_named : IsNamed lower_zone
lower_named r m = each_of HasOwner lower_zone.records (λ e. cc, (λ e. cc, (λ e. cc, (λ e. cc, tt)))) r m

root_rules : IsZone root_zone
root_rules = zone_is root_zone root_named refl

lower_rules : IsZone lower_zone
lower_rules = zone_is lower_zone lower_named refl

root_name : IsName root
root_name = record { labels = refl; short = omega arith }

lower_label : IsLabel (108 ∷ [])
lower_label = record { nonempty = omega arith; short = omega arith; bytes = (omega arith, refl, tt) }

lower_is_name : IsName lower_name
lower_is_name = record { labels = (lower_label, refl); short = omega arith }

-- NS records stand at their zone's origin or at the one cut.
abbrev IsServersOwner : Name → Record → Type 0
IsServersOwner origin r = type_of r.value ≡ ns_type → (r.owner ≡ origin) ⊎ (r.owner ≡ lower_name)

cut_is : (z : Zone) → Contains sample.zones z → (c : Name) → IsCut z c → c ≡ lower_name
cut_is z m c (apart, (r, at)) = elim (owners z m r at.stands at.kind) [
  | inl e ↦ absurd (apart (sym at.owner ∙ e))
  | inr e ↦ sym at.owner ∙ e
]
  where
    owners : (z : Zone) → Contains sample.zones z → (r : Record) → Contains z.records r → IsServersOwner z.origin r
    owners z m = both (λ (y : Zone). (r : Record) → Contains y.records r → IsServersOwner y.origin r)
        (each_of (IsServersOwner root) root_zone.records (λ e. absurd (omega (arith, e)), (λ e. inl refl, (λ e. absurd (omega (arith, e)), (λ e. inr refl, tt)))))
        (each_of (IsServersOwner lower_name) lower_zone.records (λ e. absurd (omega (arith, e)), (λ e. inl refl, (λ e. absurd (omega (arith, e)), (λ e. absurd (omega (arith, e)), tt)))))
        z m

-- Each address is the server's.
abbrev IsItsAddress : Record → Type 0
IsItsAddress r = (a : Address) → r.value ≡ Ipv4 a → a ≡ server_address

addresses : (z : Zone) → Contains sample.zones z → (r : Record) → Contains z.records r → IsItsAddress r
addresses z m = both (λ (y : Zone). (r : Record) → Contains y.records r → IsItsAddress r)
    (each_of IsItsAddress root_zone.records (λ a e. cc, (λ a e. cc, (λ a e. cc, (λ a e. cc, tt)))))
    (each_of IsItsAddress lower_zone.records (λ a e. cc, (λ a e. cc, (λ a e. cc, (λ a e. cc, tt)))))
    z m

address_is : (n : Name) (a : Address) → IsAddressOf sample n a → a ≡ server_address
address_is n a (inl (z, r, mz, m, owner, e)) = addresses z mz r m a e
address_is n a (inr (z, set, r, charge, link, m, e)) =
    let f : IsFrom z link.says.0 n a_type r = link.says.2.0 r m in
    let at : At z link.says.0 a_type (record r { owner = link.says.0 }) = f.1 in
    addresses z charge.stands (record r { owner = link.says.0 }) at.stands a e

serves_root : Serves sample server_address root
serves_root = (sample_host, first_in sample_host [], refl, first_in root (lower_name ∷ []))

serves_lower : Serves sample server_address lower_name
serves_lower = (sample_host, first_in sample_host [], refl, later_in root lower_name (lower_name ∷ []) (first_in lower_name []))

lower_there : Contains sample.zones lower_zone
lower_there = later_in root_zone lower_zone (lower_zone ∷ []) (first_in lower_zone [])

origins : (a : Address) (o : Name) → Serves sample a o → IsOrigin sample o
origins a o (h, m, e, stands) =
    let here : Contains (root ∷ lower_name ∷ []) o = subst (λ (x : Host). Contains x.origins o) (sym (elim (in_cases sample_host h [] m) [
      | inl same ↦ same
      | inr n ↦ absurd (none_in h n)
    ])) stands in
    each_of (IsOrigin sample) (root ∷ lower_name ∷ []) ((root_zone, first_in root_zone (lower_zone ∷ []), refl), ((lower_zone, lower_there, refl), tt)) o here

apart : lower_name ≢ root
apart e = omega (arith, ap length e)

sample_cut : IsCut root_zone lower_name
sample_cut = (
  apart,
  (
    entry lower_name (Ns server_name),
    record {
      stands = later_in (entry root soa_data) (entry lower_name (Ns server_name)) (entry root (Ns server_name) ∷ entry server_name (Ipv4 server_address) ∷ entry lower_name (Ns server_name) ∷ [])
          (later_in (entry root (Ns server_name)) (entry lower_name (Ns server_name)) (entry server_name (Ipv4 server_address) ∷ entry lower_name (Ns server_name) ∷ [])
          (later_in (entry server_name (Ipv4 server_address)) (entry lower_name (Ns server_name)) (entry lower_name (Ns server_name) ∷ []) (first_in (entry lower_name (Ns server_name)) [])));
      owner = refl;
      kind = refl;
    },
  ),
)

lower_parent : IsParent sample lower_name root_zone
lower_parent = record {
  stands = first_in root_zone (lower_zone ∷ []);
  over = (((108 ∷ []) ∷ [], refl), apart);
  longest = both (λ (y : Zone). IsBeneath lower_name y.origin → length y.origin ≤ length root) (λ h. omega arith) (λ h. absurd (h.1 refl));
}

abbrev IsDelegated : Zone → Type 0
IsDelegated z = (z.origin ≡ root) ⊎ Contains sample.locals z.origin ⊎ ((p : Zone) × IsParent sample z.origin p × IsCut p z.origin)

no_twin : (y : Zone) → Contains (lower_zone ∷ []) y → y.origin ≢ root
no_twin y m e = elim (in_cases lower_zone y [] m) [
  | inl same ↦ apart (ap (λ (z : Zone). z.origin) same ∙ e)
  | inr n ↦ none_in y n
]

sample_world : IsWorld sample
sample_world = record {
  zones = both IsZone root_rules lower_rules;
  names = both (λ (z : Zone). IsName z.origin) root_name lower_is_name;
  parted = (no_twin, (λ y m. absurd (none_in y m), tt));
  rooted = (root_zone, first_in root_zone (lower_zone ∷ []), refl);
  cuts = λ z c m cut. (lower_zone, lower_there, sym (cut_is z m c cut));
  delegated = both IsDelegated (inl refl) (inr (inr (root_zone, lower_parent, sample_cut)));
  servers = λ c n a named address. let (z, r, m, cut, at, e) = named in
      subst (λ (b : Address). Serves sample b c) (sym (address_is n a address)) (subst (Serves sample server_address) (sym (cut_is z m c cut)) serves_lower);
  hosts = origins;
  hints = λ a m. elim (in_cases server_address a [] m) [
    | inl e ↦ subst (λ (b : Address). Serves sample b root) e serves_root
    | inr n ↦ absurd (none_in a n)
  ];
  start = inr (server_address, first_in server_address []);
}

pub sample_stands : SampleStands
sample_stands = record { world = sample_world; cut = sample_cut }
