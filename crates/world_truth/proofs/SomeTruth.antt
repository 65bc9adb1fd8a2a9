-- Each question has a link, and how chains of aliases grow and end.
use Rattle.std.proofs.Common.{◌≡◌, ◌≤◌, ℕ, inl, inr, List, [], ◌∷◌, ◌++◌, length, refl, sym, ◌∙◌, ap, subst, arith}
use Rattle.std.specs.Prelude.{Contains}
use Rattle.dname.specs.Labels.{Name, IsName, IsAtOrUnder}
use Rattle.rdata.specs.Data.{Cname}
use Rattle.rdata.specs.Records.{Record}
use Rattle.zone.specs.Zones.{Zone, cname_type}
use Rattle.zone.specs.Links.{Link, Alias}
use Rattle.zone.specs.Look.{link_by}
use Rattle.zone.specs.Ruled.{IsZone, IsNamed}
use Rattle.zone.specs.Same.{Same}
use Rattle.zone.proofs.LawExists.{some_or_none}
use Rattle.zone.proofs.LawLists.{under_length}
use Rattle.zone.proofs.LawLink.{link_law}
use Rattle.zone.proofs.LawTests.{uncut_is}
use Rattle.zone.proofs.LawZones.{soa_at_origin, has_denial}
use Rattle.authority.specs.Catalogs.{IsInCharge, AreNamed, zone_over}
use Rattle.authority.proofs.Charges.{charge_is, nobody_over}
use Rattle.world_truth.specs.Worlds.{World, IsWorld}
use Rattle.world_truth.specs.Truths.{IsTrueLink, IsEnd, ChainLeads, Truth}
use Rattle.world_truth.proofs.Sames.{link_itself, one_same}
use Rattle.world_truth.proofs.Charges.{charge_uncut}
use Rattle.world_truth.proofs.Nearest.{origin_long}
use Rattle.world_truth.proofs.Honest.{alias_is}
use Rattle.world_truth.proofs.Grown.{under_root}
use Rattle.world_truth.proofs.OneTruth.{one_true_link, one_target, no_alias}

-- Each name has a zone in charge: the root's at least.
all_named : (W : World) → IsWorld W → AreNamed W.zones
all_named W w z m e = let long = origin_long W z w m in omega (arith, ap length e, long)

pub some_charge : (W : World) (q : Name) → IsWorld W → IsName q → (z : Zone) × IsInCharge W.zones q z
some_charge W q w name = elim (some_or_none (zone_over W.zones q)) [
  | inl none ↦ absurd (let (z, m, e) = w.rooted in nobody_over W.zones q z (all_named W w) m none (subst (IsAtOrUnder q) (sym e) (under_root q name.labels)))
  | inr (z, e) ↦ (z, charge_is W.zones q z e)
]

owners_named : (W : World) (z : Zone) → IsWorld W → Contains W.zones z → IsNamed z
owners_named W z w m r stands e =
    let rules : IsZone z = w.zones z m in
    let long = origin_long W z w m in
    let inside = under_length r.owner z.origin (rules.inside r stands) in
    omega (arith, ap length e, long, inside)

-- Each question has a link.
pub some_true_link : (W : World) (q : Name) (t : ℕ) → IsWorld W → IsName q → (l : Link) × IsTrueLink W q t l
some_true_link W q t w name =
    let (z, charge) = some_charge W q w name in
    let rules : IsZone z = w.zones z charge.stands in
    let (soa, denied) = has_denial z rules in
    let link = link_law z q t soa (owners_named W z w charge.stands) (soa_at_origin z rules) rules.ttls denied charge.over (uncut_is z q (charge_uncut W q z w charge)) in
    (link_by soa z q t, (z, charge, (link_by soa z q t, link, link_itself (link_by soa z q t))))

-- No chain is longer than the one that ends.
no_longer_way : (W : World) (t : ℕ) (from m n : Name) (rs ss : List Record) (k : Link) → IsWorld W → ChainLeads W t from rs m → IsTrueLink W m t k → IsEnd k → ChainLeads W t from ss n → length ss ≤ length rs
no_longer_way W t from m n [] [] k w a h x b = omega arith
no_longer_way W t from m n [] (s ∷ ss) k w a h x b =
    absurd (no_alias k s x (one_true_link W from t k (Alias s) w (subst (λ (p : Name). IsTrueLink W p t k) a h) b.0))
no_longer_way W t from m n (r ∷ rs) [] k w a h x b = omega arith
no_longer_way W t from m n (r ∷ rs) (s ∷ ss) k w (ar, (c, ec, at)) h x (bs, (d, ed, bt)) =
    let both = one_true_link W from t (Alias r) (Alias s) w ar bs in
    let same : Same r s = one_same r s both.records in
    let target : d ≡ c = one_target d c (sym ed ∙ (sym same.1 ∙ ec)) in
    let rest = no_longer_way W t c m n rs ss k w at h x (subst (λ (p : Name). ChainLeads W t p ss n) target bt) in
    omega (arith, rest)

-- With nine aliases there is no truth.
pub nine_have_none : (W : World) (q : Name) (t : ℕ) (aliases : List Record) (n : Name) (c : List Record) (l : Link) → IsWorld W → ChainLeads W t q aliases n → length aliases ≡ 9 → Truth W q t c l → ⊥
nine_have_none W q t aliases n c l w leads nine truth =
    let short = no_longer_way W t q truth.to n c aliases l w truth.leads truth.link truth.ends leads in
    let few = truth.few in
    omega (arith, short, few, nine)

-- Where CNAME is asked for there are no aliases.
pub cname_is_plain : (W : World) (q : Name) (c : List Record) (l : Link) → Truth W q cname_type c l → c ≡ []
cname_is_plain W q [] l truth = refl
cname_is_plain W q (r ∷ rs) l truth =
    let (z, charge, shows) = truth.leads.0 in
    let is = alias_is z q cname_type r shows in
    absurd (is.other refl)

-- A chain grows by the alias at its end.
pub chain_grows : (W : World) (t : ℕ) (from to n : Name) (chain : List Record) (r : Record) → ChainLeads W t from chain to → IsTrueLink W to t (Alias r) → r.value ≡ Cname n → ChainLeads W t from (chain ++ r ∷ []) n
chain_grows W t from to n [] r leads link target = (subst (λ (p : Name). IsTrueLink W p t (Alias r)) leads link, (n, target, refl))
chain_grows W t from to n (s ∷ ss) r (first, (m, e, rest)) link target = (first, (m, e, chain_grows W t m to n ss r rest link target))
