-- A question has one truth.
use Rattle.std.proofs.Common.{◌≡◌, ℕ, List, [], ◌∷◌, sym, ◌∙◌, subst, arith}
use Rattle.dname.specs.Labels.{Name}
use Rattle.rdata.specs.Data.{Cname}
use Rattle.rdata.specs.Records.{Record}
use Rattle.zone.specs.Zones.{Zone}
use Rattle.zone.specs.Links.{Link, Found, Alias, NoData, NxDomain}
use Rattle.zone.specs.Same.{Same, SameLink}
use Rattle.zone.proofs.LawOne.{one_link}
use Rattle.zone.proofs.LawZones.{one_soa, one_alias_name}
use Rattle.authority.specs.Catalogs.{IsInCharge}
use Rattle.world_truth.specs.Worlds.{World, IsWorld}
use Rattle.world_truth.specs.Truths.{Shows, IsTrueLink, IsEnd, ChainLeads, Truth, SameList}
use Rattle.world_truth.specs.Laws.{IsSameTruth}
use Rattle.world_truth.proofs.Sames.{link_back, link_on, one_same}
use Rattle.world_truth.proofs.Charges.{one_charge}

one_shown : (W : World) (q : Name) (t : ℕ) (z : Zone) (k l : Link) → IsWorld W → IsInCharge W.zones q z → Shows z q t k → Shows z q t l → SameLink k l
one_shown W q t z k l w c (x, hx, ex) (y, hy, ey) =
    let rules = w.zones z c.stands in
    let e = one_link z q t x y (one_alias_name z rules) (one_soa z rules) hx hy in
    link_on k x l ex (link_on x y l e (link_back l y ey))

-- A question has one link.
pub one_true_link : (W : World) (q : Name) (t : ℕ) (k l : Link) → IsWorld W → IsTrueLink W q t k → IsTrueLink W q t l → SameLink k l
one_true_link W q t k l w (y, a, h) (z, b, m) =
    one_shown W q t z k l w b (subst (λ (x : Zone). Shows x q t k) (one_charge W q y z w a b) h) m

-- An end is no alias.
pub no_alias : (k : Link) (r : Record) → IsEnd k → SameLink k (Alias r) → ⊥
no_alias (Found xs) r e h = absurd (omega (arith, h.kinds))
no_alias (Alias x) r e h = e
no_alias (NoData x) r e h = absurd (omega (arith, h.kinds))
no_alias (NxDomain x) r e h = absurd (omega (arith, h.kinds))

pub one_target : (m n : Name) → Cname m ≡ Cname n → m ≡ n
one_target m n e = cc

-- Two chains that end are one, and so are their last names.
one_way : (W : World) (t : ℕ) (from m n : Name) (rs ss : List Record) (k l : Link) → IsWorld W → ChainLeads W t from rs m → IsTrueLink W m t k → IsEnd k
    → ChainLeads W t from ss n → IsTrueLink W n t l → IsEnd l → SameList rs ss × (m ≡ n)
one_way W t from m n [] [] k l w a h x b i y = (tt, a ∙ sym b)
one_way W t from m n [] (s ∷ ss) k l w a h x b i y =
    absurd (no_alias k s x (one_true_link W from t k (Alias s) w (subst (λ (p : Name). IsTrueLink W p t k) a h) b.0))
one_way W t from m n (r ∷ rs) [] k l w a h x b i y =
    absurd (no_alias l r y (one_true_link W from t l (Alias r) w (subst (λ (p : Name). IsTrueLink W p t l) b i) a.0))
one_way W t from m n (r ∷ rs) (s ∷ ss) k l w (ar, (c, ec, at)) h x (bs, (d, ed, bt)) i y =
    let both = one_true_link W from t (Alias r) (Alias s) w ar bs in
    let same : Same r s = one_same r s both.records in
    let target : d ≡ c = one_target d c (sym ed ∙ (sym same.1 ∙ ec)) in
    let rest = one_way W t c m n rs ss k l w at h x (subst (λ (p : Name). ChainLeads W t p ss n) target bt) i y in
    ((same, rest.0), rest.1)

pub one_truth : (W : World) (q : Name) (t : ℕ) (c d : List Record) (k l : Link) → IsWorld W → Truth W q t c k → Truth W q t d l → IsSameTruth c k d l
one_truth W q t c d k l w a b =
    let way = one_way W t q a.to b.to c d k l w a.leads a.link a.ends b.leads b.link b.ends in
    record {
      chain = way.0;
      last = one_true_link W b.to t k l w (subst (λ (p : Name). IsTrueLink W p t k) way.1 a.link) b.link;
    }
