-- What is true of a name for one type says what is true for others.
use Rattle.std.proofs.Common.{◌≡◌, ◌≢◌, ℕ, List, [], ◌∷◌, refl, sym, ◌∙◌, ap, subst}
use Rattle.std.specs.Prelude.{Contains}
use Rattle.dname.specs.Labels.{Name}
use Rattle.rdata.specs.Data.{type_of}
use Rattle.rdata.specs.Records.{Record}
use Rattle.zone.specs.Zones.{Zone, At, cname_type}
use Rattle.zone.specs.Links.{Found, Alias, NxDomain, IsFrom, HasNone, Says}
use Rattle.zone.specs.Ruled.{IsZone}
use Rattle.zone.proofs.LawLists.{none_in, first_in}
use Rattle.world_truth.specs.Worlds.{World, IsWorld}
use Rattle.world_truth.specs.Truths.{IsTrueLink}
use Rattle.world_truth.proofs.Sames.{only_in, same_one, found_shown, alias_shown, nx_domain_shown}

-- An NXDOMAIN holds for all types.
pub error_for_all : (W : World) (q : Name) (t u : ℕ) (soa : Record) → IsTrueLink W q t (NxDomain soa) → IsTrueLink W q u (NxDomain soa)
error_for_all W q t u soa (z, charge, shows) =
    let (x, link, e) = nx_domain_shown z q t soa shows in
    (z, charge, (NxDomain x, record { inside = link.inside; uncut = link.uncut; says = link.says }, record { kinds = refl; records = same_one soa x e }))

-- A CNAME stands alone: no record of another type beside it.
alone_at : (z : Zone) (q s : Name) (u : ℕ) (x : Record) → IsZone z → IsFrom z s q cname_type x → u ≢ cname_type → HasNone z s u
alone_at z q s u x rules from other r at =
    let a : At z s cname_type (record x { owner = s }) = from.1 in
    let b : At z s u r = at in
    let e = rules.alone (record x { owner = s }) r a.stands b.stands (sym b.owner) a.kind in
    other (sym b.kind ∙ (ap type_of (sym e) ∙ a.kind))

-- An alias holds for all types but CNAME.
pub alias_for_all : (W : World) (q : Name) (t u : ℕ) (r : Record) → IsWorld W → IsTrueLink W q t (Alias r) → u ≢ cname_type → IsTrueLink W q u (Alias r)
alias_for_all W q t u r w (z, charge, shows) other =
    let (x, link, e) = alias_shown z q t r shows in
    let (s, source, (none, from)) = link.says in
    (z, charge, (Alias x, record { inside = link.inside; uncut = link.uncut; says = (s, source, (alone_at z q s u x (w.zones z charge.stands) from other, from)) }, record { kinds = refl; records = same_one r x e }))

-- A CNAME that was asked for is an alias for all other types.
pub found_as_alias : (W : World) (q : Name) (u : ℕ) (set : List Record) (r : Record) → IsWorld W → IsTrueLink W q cname_type (Found set) → Contains set r → u ≢ cname_type → IsTrueLink W q u (Alias r)
found_as_alias W q u set r w (z, charge, shows) m other =
    let (xs, link, e) = found_shown z q cname_type set shows in
    let (x, n, same) = e.0 r m in
    let (s, source, says) = link.says in
    let from : IsFrom z s q cname_type x = says.0 x n in
    (z, charge, (Alias x, record { inside = link.inside; uncut = link.uncut; says = (s, source, (alone_at z q s u x (w.zones z charge.stands) from other, from)) }, record { kinds = refl; records = same_one r x same }))

-- Where CNAME is asked for, an alias is all that is found.
one_from : (z : Zone) (q s : Name) (x y : Record) → IsZone z → IsFrom z s q cname_type x → IsFrom z s q cname_type y → x ≡ y
one_from z q s x y rules h k =
    let a : At z s cname_type (record x { owner = s }) = h.1 in
    let b : At z s cname_type (record y { owner = s }) = k.1 in
    let value : x.value ≡ y.value = rules.alone (record x { owner = s }) (record y { owner = s }) a.stands b.stands refl a.kind in
    let ttl : x.ttl ≡ y.ttl = rules.ttls (record x { owner = s }) (record y { owner = s }) a.stands b.stands refl (ap type_of value) in
    let owner : x.owner ≡ y.owner = h.0 ∙ sym k.0 in
    λ i. record { owner = owner i; ttl = ttl i; value = value i }

some_there : (r : Record) (rs : List Record) → (r ∷ rs) ≢ []
some_there r rs e = cc

pub alias_as_found : (W : World) (q : Name) (t : ℕ) (r : Record) → IsWorld W → IsTrueLink W q t (Alias r) → IsTrueLink W q cname_type (Found (r ∷ []))
alias_as_found W q t r w (z, charge, shows) =
    let (x, link, e) = alias_shown z q t r shows in
    let (s, source, (none, from)) = link.says in
    let all : Says z s q cname_type (Found (x ∷ [])) = (
      λ y m. subst (λ (v : Record). IsFrom z s q cname_type v) (only_in x y m) from,
      λ y h. subst (λ (v : Record). Contains (x ∷ []) v) (one_from z q s x y (w.zones z charge.stands) from h) (first_in x []),
      (λ m. none_in x m, tt),
      some_there x [],
    ) in
    (z, charge, (Found (x ∷ []), record { inside = link.inside; uncut = link.uncut; says = (s, source, all) }, record { kinds = refl; records = same_one r x e }))
