-- What look-up does with names that exist, names that do not, and names beneath a cut.
use Rattle.std.proofs.Common.{◌≡◌, ℕ, ⊎_elim, List, ◌∷◌, sym, ◌∙◌, ap, subst}
use Rattle.std.specs.Prelude.{Contains}
use Rattle.dname.specs.Labels.{IsAtOrUnder, star}
use Rattle.rdata.specs.Records.{Record}
use Rattle.zone.specs.Zones.{Zone, At, IsCut, Exists, IsEncloser, cname_type}
use Rattle.zone.specs.Links.{Link, Found, Alias, NxDomain, IsSource, IsFrom, IsEmpty, IsLink}
use Rattle.zone.proofs.LawLists.{under_under}
use Rattle.zone.proofs.LawOne.{one_encloser}

-- A name that exists is its own source.
pub own_source : (z : Zone) (q s : List (List ℕ)) → Exists z q → IsSource z q s → s ≡ q
own_source z q s x h = ⊎_elim (λ p. p.1) (λ p. absurd (p.0 x)) h

own_record : (z : Zone) (q s : List (List ℕ)) (t : ℕ) (r : Record) → s ≡ q → IsFrom z s q t r → At z q t r
own_record z q s t r e h =
    let same : record { owner = s; ttl = r.ttl; value = r.value } ≡ r = λ i. record { owner = (e ∙ sym h.0) i; ttl = r.ttl; value = r.value } in
    let at = h.1 in
    record { stands = subst (λ (x : Record). Contains z.records x) same at.stands; owner = h.0; kind = at.kind }

pub own_set : (z : Zone) (q : List (List ℕ)) (t : ℕ) (set : List Record) (r : Record) → Exists z q → IsLink z q t (Found set) → Contains set r → At z q t r
own_set z q t set r x l m = let (s, source, says) = l.says in own_record z q s t r (own_source z q s x source) (says.0 r m)

pub own_alias : (z : Zone) (q : List (List ℕ)) (t : ℕ) (r : Record) → Exists z q → IsLink z q t (Alias r) → At z q cname_type r
own_alias z q t r x l = let (s, source, says) = l.says in own_record z q s cname_type r (own_source z q s x source) says.1

-- What is at or under a name makes it exist.
above_exists : (z : Zone) (q n : List (List ℕ)) → IsAtOrUnder n q → Exists z n → Exists z q
above_exists z q n u (r, m, v, h) = (r, m, under_under r.owner n q v u, h)

pub nothing_under : (z : Zone) (q n : List (List ℕ)) (t : ℕ) (soa : Record) → IsLink z q t (NxDomain soa) → IsAtOrUnder n q → Exists z n → ⊥
nothing_under z q n t soa l u x = let (s, source, says) = l.says in says.1 (above_exists z q n u x)

pub no_wildcard : (z : Zone) (q e : List (List ℕ)) (t : ℕ) (soa : Record) → IsLink z q t (NxDomain soa) → IsEncloser z q e → IsEmpty z (star ∷ e)
no_wildcard z q e t soa l k =
    let (s, source, says) = l.says in
    ⊎_elim (λ p. absurd (says.1 p.0))
    (λ p. let (d, h, i) = p.1 in subst (λ (n : List (List ℕ)). IsEmpty z n) (i ∙ ap (λ (n : List (List ℕ)). star ∷ n) (one_encloser z q d e h k)) says.0)
    source

pub delegated : (z : Zone) (q c : List (List ℕ)) (t : ℕ) (l : Link) → IsCut z c → IsAtOrUnder q c → IsLink z q t l → ⊥
delegated z q c t l k u h = h.uncut c k u
