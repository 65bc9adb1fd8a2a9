-- A reply is right exactly where each of its aliases, and then its end, is the world's.
use Rattle.std.proofs.Common.{◌≡◌, ◌≢◌, ◌≤◌, ◌<◌, IsTrue, ◌-◌, ℕ, inl, inr, Bool, true, false, ◌&&◌, not, nat_eq, List, [], ◌∷◌, ◌++◌, length, take, drop, get_or, refl, sym, ◌∙◌, ap, subst, arith}
use Rattle.std.specs.Prelude.{Contains}
use Rattle.std.proofs.Math.Seq.{take-length}
use Rattle.std.proofs.lemmas.Bool.{eqb-true, eq-eqb}
use Rattle.dname.specs.Labels.{Name, IsName}
use Rattle.rdata.specs.Data.{Datum, Cname, same_data}
use Rattle.rdata.specs.Records.{Record}
use Rattle.rdata.specs.Sets.{is_repeat}
use Rattle.rdata.proofs.Exact.{same_data-exact, same_data-refl}
use Rattle.zone.specs.Links.{Link, Found, Alias, NoData, NxDomain}
use Rattle.zone.specs.Same.{Same, Has, SameSet, SameLink}
use Rattle.zone.specs.Zones.{IsCutOver}
use Rattle.zone.specs.Look.{Linked, Cut, NotHere}
use Rattle.authority.specs.Catalogs.{IsLooked}
use Rattle.world_truth.specs.Worlds.{World, IsWorld}
use Rattle.world_truth.specs.Truths.{IsTrueLink, IsEnd, ChainLeads}
use Rattle.world_truth.specs.Replies.{Ends, Once}
use Rattle.world_truth.proofs.Charges.{charge_uncut}
use Rattle.world_truth.proofs.SomeTruth.{some_charge}
use Rattle.world_truth.proofs.Sames.{link_itself, link_on, one_same, same_one}
use Rattle.world_truth.proofs.OneTruth.{one_true_link, no_alias}
use Rattle.worlds.specs.Judging.{IsRest, has, lacks_some, once, is_set, is_only, is_none}
use Rattle.worlds.proofs.Decided.{Yes, fails, yes_and, yes_not, no_not, yes_un, yes_any, no_any, yes_as, yes_same}

-- Tests of records.
yes_data : (d e : Datum) → Yes (same_data d e) (d ≡ e)
yes_data d e = record { so = same_data-exact d e; test = λ p. ap (same_data d) (sym p) ∙ same_data-refl d }

pub yes_record : (r s : Record) → Yes (is_repeat r s) (Same r s)
yes_record r s = yes_and (yes_same r.owner s.owner) (yes_data r.value s.value)

yes_has : (rs : List Record) (r : Record) → Yes (has rs r) (Has rs r)
yes_has rs r = yes_any (λ s. yes_record r s) rs

yes_all : (rs ss : List Record) → Yes (not (lacks_some rs ss)) ((r : Record) → Contains ss r → Has rs r)
yes_all rs ss = yes_not (no_any (λ r. no_not (yes_has rs r)) ss)

yes_once : (rs : List Record) → Yes (once rs) (Once rs)
yes_once [] = record { so = λ h. tt; test = λ p. refl }
yes_once (r ∷ rs) = yes_and (yes_un (yes_has rs r)) (yes_once rs)

yes_set : (rs set : List Record) → Yes (is_set rs set) ((((r : Record) → Contains rs r → Has set r) × ((r : Record) → Contains set r → Has rs r)) × Once rs)
yes_set rs set = yes_and (yes_and (yes_all set rs) (yes_all rs set)) (yes_once rs)

pub yes_none : (rs : List Record) → Yes (is_none rs) (rs ≡ [])
yes_none [] = record { so = λ h. refl; test = λ p. refl }
yes_none (r ∷ rs) = record { so = λ h. absurd (cc); test = λ p. absurd (cc) }

abbrev Only : Record → List Record → Type 0
Only soa rs = (s : Record) × (rs ≡ s ∷ []) × Same s soa

yes_only : (soa : Record) (rs : List Record) → Yes (is_only soa rs) (Only soa rs)
yes_only soa [] = record { so = λ h. absurd (cc); test = λ p. absurd (none p.0 p.1) }
  where
    none : (s : Record) → [] ≡ s ∷ [] → ⊥
    none s e = cc
yes_only soa (s ∷ []) = yes_as (λ p. (s, refl, p)) (λ p. subst (λ (x : Record). Same x soa) (sym (first s p.0 p.1)) p.2) (yes_record s soa)
  where
    first : (s x : Record) → (s ∷ []) ≡ x ∷ [] → s ≡ x
    first s x e = cc
yes_only soa (s ∷ u ∷ ss) = record { so = λ h. absurd (cc); test = λ p. absurd (more s u p.0 ss p.1) }
  where
    more : (s u x : Record) (ss : List Record) → (s ∷ u ∷ ss) ≡ x ∷ [] → ⊥
    more s u x ss e = cc

pub yes_code : (m n : ℕ) → Yes (nat_eq m n) (m ≡ n)
yes_code m n = record { so = eqb-true m n; test = eq-eqb m n }

-- A link that is the world's but for TTLs, order and repeats is the world's.
pub link_same : (W : World) (q : Name) (t : ℕ) (k l : Link) → IsTrueLink W q t k → SameLink l k → IsTrueLink W q t l
link_same W q t k l (z, charge, (m, link, same)) e = (z, charge, (m, link, link_on l k m e same))

-- The end of a reply for a link that is no alias, told by the message's own records.
pub record AtEnd (l : Link) (answer : List Record) (rcode : ℕ) (authority : List Record) : Type 0 where
  pub last : Link
  pub same : SameLink last l
  pub ends : Ends last answer rcode authority

ends_stop : (l : Link) (rs : List Record) (rcode : ℕ) (ss : List Record) → Ends l rs rcode ss → IsEnd l
ends_stop (Found set) rs rcode ss h = tt
ends_stop (Alias r) rs rcode ss h = h
ends_stop (NoData soa) rs rcode ss h = tt
ends_stop (NxDomain soa) rs rcode ss h = tt

starts_here : (W : World) (t : ℕ) (q : Name) (left : ℕ) (l : Link) (answer : List Record) (rcode : ℕ) (authority : List Record)
    → IsTrueLink W q t l → AtEnd l answer rcode authority → IsRest W t q left answer rcode authority
starts_here W t q left l answer rcode authority link e = record {
  chain = [];
  rest = answer;
  last = e.last;
  to = q;
  leads = refl;
  few = omega arith;
  link = link_same W q t l e.last link e.same;
  stops = ends_stop e.last answer rcode authority e.ends;
  is = refl;
  ends = e.ends;
}

at_once : (W : World) (t : ℕ) (q to : Name) (l last : Link) (chain rest answer : List Record) (rcode : ℕ) (authority : List Record) → IsWorld W → IsTrueLink W q t l → IsEnd l
    → ChainLeads W t q chain to → IsTrueLink W to t last → answer ≡ chain ++ rest → Ends last rest rcode authority → AtEnd l answer rcode authority
at_once W t q to l last [] rest answer rcode authority w link stops leads final is ends = record {
  last = last;
  same = one_true_link W q t last l w (subst (λ (n : Name). IsTrueLink W n t last) leads final) link;
  ends = subst (λ (rs : List Record). Ends last rs rcode authority) (sym is) ends;
}
at_once W t q to l last (r ∷ rs) rest answer rcode authority w link stops (first, onward) final is ends = absurd (no_alias l r stops (one_true_link W q t l (Alias r) w link first))

stops_here : (W : World) (t : ℕ) (q : Name) (left : ℕ) (l : Link) (answer : List Record) (rcode : ℕ) (authority : List Record)
    → IsWorld W → IsTrueLink W q t l → IsEnd l → IsRest W t q left answer rcode authority → AtEnd l answer rcode authority
stops_here W t q left l answer rcode authority w link stops h = at_once W t q h.to l h.last h.chain h.rest answer rcode authority w link stops h.leads h.link h.is h.ends

yes_rest : (W : World) (t : ℕ) (q : Name) (left : ℕ) (l : Link) (answer : List Record) (rcode : ℕ) (authority : List Record) (b : Bool)
    → IsWorld W → IsTrueLink W q t l → IsEnd l → Yes b (AtEnd l answer rcode authority) → Yes b (IsRest W t q left answer rcode authority)
yes_rest W t q left l answer rcode authority b w link stops y = yes_as (starts_here W t q left l answer rcode authority link) (stops_here W t q left l answer rcode authority w link stops) y

-- Each end by its test.
found_end : (set answer : List Record) (rcode : ℕ) (authority : List Record) (last : Link) → SameLink last (Found set) → Ends last answer rcode authority
    → (((((r : Record) → Contains answer r → Has set r) × ((r : Record) → Contains set r → Has answer r)) × Once answer) × (rcode ≡ 0)) × (authority ≡ [])
found_end set answer rcode authority (Found xs) same (is, once, code, none) =
    let k : SameSet xs set = same.records in
    let j : SameSet answer set = subst (λ (rs : List Record). SameSet rs set) (sym is) k in
    (((j, subst Once (sym is) once), code), none)
found_end set answer rcode authority (Alias r) same ends = absurd ends
found_end set answer rcode authority (NoData r) same ends = absurd (omega (arith, same.kinds))
found_end set answer rcode authority (NxDomain r) same ends = absurd (omega (arith, same.kinds))

pub yes_found : (set answer : List Record) (rcode : ℕ) (authority : List Record) → Yes (is_set answer set && nat_eq rcode 0 && is_none authority) (AtEnd (Found set) answer rcode authority)
yes_found set answer rcode authority = yes_as
    (λ p. record { last = Found answer; same = record { kinds = refl; records = p.0.0.0 }; ends = (refl, p.0.0.1, p.0.1, p.1) })
    (λ e. let k : AtEnd (Found set) answer rcode authority = e in found_end set answer rcode authority k.last k.same k.ends)
    (yes_and (yes_and (yes_set answer set) (yes_code rcode 0)) (yes_none authority))

no_data_end : (soa : Record) (answer : List Record) (rcode : ℕ) (authority : List Record) (last : Link) → SameLink last (NoData soa) → Ends last answer rcode authority
    → ((answer ≡ []) × (rcode ≡ 0)) × Only soa authority
no_data_end soa answer rcode authority (Found xs) same ends = absurd (omega (arith, same.kinds))
no_data_end soa answer rcode authority (Alias r) same ends = absurd ends
no_data_end soa answer rcode authority (NoData r) same (is, code, only) = ((is, code), (r, only, one_same r soa same.records))
no_data_end soa answer rcode authority (NxDomain r) same ends = absurd (omega (arith, same.kinds))

pub yes_no_data : (soa : Record) (answer : List Record) (rcode : ℕ) (authority : List Record) → Yes (is_none answer && nat_eq rcode 0 && is_only soa authority) (AtEnd (NoData soa) answer rcode authority)
yes_no_data soa answer rcode authority = yes_as
    (λ p. record { last = NoData p.1.0; same = record { kinds = refl; records = same_one p.1.0 soa p.1.2 }; ends = (p.0.0, p.0.1, p.1.1) })
    (λ e. let k : AtEnd (NoData soa) answer rcode authority = e in no_data_end soa answer rcode authority k.last k.same k.ends)
    (yes_and (yes_and (yes_none answer) (yes_code rcode 0)) (yes_only soa authority))

nx_domain_end : (soa : Record) (answer : List Record) (rcode : ℕ) (authority : List Record) (last : Link) → SameLink last (NxDomain soa) → Ends last answer rcode authority
    → ((answer ≡ []) × (rcode ≡ 3)) × Only soa authority
nx_domain_end soa answer rcode authority (Found xs) same ends = absurd (omega (arith, same.kinds))
nx_domain_end soa answer rcode authority (Alias r) same ends = absurd ends
nx_domain_end soa answer rcode authority (NoData r) same ends = absurd (omega (arith, same.kinds))
nx_domain_end soa answer rcode authority (NxDomain r) same (is, code, only) = ((is, code), (r, only, one_same r soa same.records))

pub yes_nx_domain : (soa : Record) (answer : List Record) (rcode : ℕ) (authority : List Record) → Yes (is_none answer && nat_eq rcode 3 && is_only soa authority) (AtEnd (NxDomain soa) answer rcode authority)
yes_nx_domain soa answer rcode authority = yes_as
    (λ p. record { last = NxDomain p.1.0; same = record { kinds = refl; records = same_one p.1.0 soa p.1.2 }; ends = (p.0.0, p.0.1, p.1.1) })
    (λ e. let k : AtEnd (NxDomain soa) answer rcode authority = e in nx_domain_end soa answer rcode authority k.last k.same k.ends)
    (yes_and (yes_and (yes_none answer) (yes_code rcode 3)) (yes_only soa authority))

-- A reply that is to begin with an alias.
module _ (W : World) (t : ℕ) (q : Name) (w : IsWorld W) (r : Record) (link : IsTrueLink W q t (Alias r)) where
  -- What a right rest has at its front.
  pub record Begins (left : ℕ) (answer : List Record) (rcode : ℕ) (authority : List Record) : Type 0 where
    pub first : Record
    pub others : List Record
    pub is : answer ≡ first ∷ others
    pub same : Same first r
    pub next : Name
    pub target : first.value ≡ Cname next
    pub room : 1 ≤ left
    pub behind : IsRest W t next (left - 1) others rcode authority

  begins_so : (to : Name) (last : Link) (chain rest answer : List Record) (left rcode : ℕ) (authority : List Record)
      → ChainLeads W t q chain to → length chain ≤ left → IsTrueLink W to t last → IsEnd last → answer ≡ chain ++ rest → Ends last rest rcode authority → Begins left answer rcode authority
  begins_so to last [] rest answer left rcode authority leads few final stops is ends =
      absurd (no_alias last r stops (one_true_link W q t last (Alias r) w (subst (λ (n : Name). IsTrueLink W n t last) leads final) link))
  begins_so to last (s ∷ ss) rest answer left rcode authority (first, (n, target, onward)) few final stops is ends =
      let e : SameLink (Alias s) (Alias r) = one_true_link W q t (Alias s) (Alias r) w first link in
      record {
        first = s;
        others = ss ++ rest;
        is = is;
        same = one_same s r e.records;
        next = n;
        target = target;
        room = omega (arith, few);
        behind = record { chain = ss; rest = rest; last = last; to = to; leads = onward; few = omega (arith, few); link = final; stops = stops; is = refl; ends = ends };
      }

  pub begins : (left : ℕ) (answer : List Record) (rcode : ℕ) (authority : List Record) → IsRest W t q left answer rcode authority → Begins left answer rcode authority
  begins left answer rcode authority h = begins_so h.to h.last h.chain h.rest answer left rcode authority h.leads h.few h.link h.stops h.is h.ends

  pub goes_on : (left : ℕ) (answer : List Record) (rcode : ℕ) (authority : List Record) → Begins left answer rcode authority → IsRest W t q left answer rcode authority
  goes_on left answer rcode authority b =
      let h : IsRest W t b.next (left - 1) b.others rcode authority = b.behind in
      record {
        chain = b.first ∷ h.chain;
        rest = h.rest;
        last = h.last;
        to = h.to;
        leads = (link_same W q t (Alias r) (Alias b.first) link (record { kinds = refl; records = same_one b.first r b.same }), (b.next, b.target, h.leads));
        few = omega (arith, h.few, b.room);
        link = h.link;
        stops = h.stops;
        is = b.is ∙ ap (λ (rs : List Record). b.first ∷ rs) h.is;
        ends = h.ends;
      }

-- What the look-up gives in a world is the world's link.
pub looked_true : (W : World) (q : Name) (t : ℕ) (k : Link) → IsLooked W.zones q t (Linked k) → IsTrueLink W q t k
looked_true W q t k (inl (z, charge, link)) = (z, charge, (k, link, link_itself k))
looked_true W q t k (inr (none, bad)) = absurd (cc)

pub no_cut : (W : World) (q : Name) (t : ℕ) (c : Name) (ns glue : List Record) → IsWorld W → IsLooked W.zones q t (Cut c ns glue) → ⊥
no_cut W q t c ns glue w (inl (z, charge, referral)) = let over : IsCutOver z q c = referral.over in charge_uncut W q z w charge c over.cut over.over
no_cut W q t c ns glue w (inr (none, bad)) = cc

pub not_nowhere : (W : World) (q : Name) (t : ℕ) → IsWorld W → IsName q → IsLooked W.zones q t NotHere → ⊥
not_nowhere W q t w name (inl (z, charge, away)) = away charge.over
not_nowhere W q t w name (inr (none, same)) = let (z, charge) = some_charge W q w name in none z charge.stands charge.over

-- The same as clauses of functions.
pub clause : {b : Bool} {P : Type 0} (x : Bool) → x ≡ b → Yes b P → (IsTrue x → P) × (P → IsTrue x)
clause x e y = (λ h. y.so (sym e ∙ h), λ p. e ∙ y.test p)

pub never : {P : Type 0} → (P → ⊥) → (IsTrue false → P) × (P → IsTrue false)
never f = (λ h. absurd (cc), λ p. absurd (f p))

-- Where the records cannot begin with the alias.
pub lacks_first : (W : World) (t : ℕ) (q : Name) (r : Record) (left : ℕ) (answer : List Record) (rcode : ℕ) (authority : List Record) → IsWorld W → IsTrueLink W q t (Alias r)
    → length answer < 1 → IsRest W t q left answer rcode authority → ⊥
lacks_first W t q r left answer rcode authority w link short h =
    let b : Begins W t q w r link left answer rcode authority = begins W t q w r link left answer rcode authority h in
    omega (arith, short, ap length b.is)

pub lacks_room : (W : World) (t : ℕ) (q : Name) (r : Record) (left : ℕ) (answer : List Record) (rcode : ℕ) (authority : List Record) → IsWorld W → IsTrueLink W q t (Alias r)
    → left ≡ 0 → IsRest W t q left answer rcode authority → ⊥
lacks_room W t q r left answer rcode authority w link none h =
    let b : Begins W t q w r link left answer rcode authority = begins W t q w r link left answer rcode authority h in
    omega (arith, none, b.room)

head_is : (xs : List Record) (x : Record) → 1 ≤ length xs → x ≡ get_or xs 0 x → xs ≡ x ∷ take (length xs - 1) (drop 1 xs)
head_is [] x h e = absurd (omega arith)
head_is (y ∷ xs) x h e =
    let size : length (y ∷ xs) - 1 ≡ length xs = omega arith in
    λ i. sym e i ∷ sym (ap (λ (n : ℕ). take n xs) size ∙ take-length xs) i

first_same : (x y : Record) (xs ys : List Record) → (x ∷ xs) ≡ y ∷ ys → x ≡ y
first_same x y xs ys e = cc

others_same : (x y : Record) (xs ys : List Record) → (x ∷ xs) ≡ y ∷ ys → xs ≡ ys
others_same x y xs ys e = cc

pub not_same : (W : World) (t : ℕ) (q : Name) (r : Record) (left : ℕ) (answer : List Record) (rcode : ℕ) (authority : List Record) (first : Record) → IsWorld W → IsTrueLink W q t (Alias r)
    → 1 ≤ length answer → first ≡ get_or answer 0 first → is_repeat first r ≡ false → IsRest W t q left answer rcode authority → ⊥
not_same W t q r left answer rcode authority first w link some is differs h =
    let b : Begins W t q w r link left answer rcode authority = begins W t q w r link left answer rcode authority h in
    let e : first ≡ b.first = first_same first b.first (take (length answer - 1) (drop 1 answer)) b.others (sym (head_is answer first some is) ∙ b.is) in
    fails (yes_record first r) differs (subst (λ (x : Record). Same x r) (sym e) b.same)

pub no_target : (W : World) (t : ℕ) (q : Name) (r : Record) (left : ℕ) (answer : List Record) (rcode : ℕ) (authority : List Record) (first : Record) → IsWorld W → IsTrueLink W q t (Alias r)
    → 1 ≤ length answer → first ≡ get_or answer 0 first → ((n : Name) → first.value ≡ Cname n → ⊥) → IsRest W t q left answer rcode authority → ⊥
no_target W t q r left answer rcode authority first w link some is none h =
    let b : Begins W t q w r link left answer rcode authority = begins W t q w r link left answer rcode authority h in
    let e : first ≡ b.first = first_same first b.first (take (length answer - 1) (drop 1 answer)) b.others (sym (head_is answer first some is) ∙ b.is) in
    none b.next (ap (λ (x : Record). x.value) e ∙ b.target)

one_name : (m n : Name) → Cname m ≡ Cname n → m ≡ n
one_name m n e = cc

pub goes_so : (W : World) (t : ℕ) (q : Name) (r : Record) (left : ℕ) (answer : List Record) (rcode : ℕ) (authority : List Record) (first : Record) (next : Name) (x : Bool) → IsWorld W
    → IsTrueLink W q t (Alias r) → 1 ≤ length answer → first ≡ get_or answer 0 first → is_repeat first r ≡ true → first.value ≡ Cname next → left ≢ 0
    → (IsTrue x → IsRest W t next (left - 1) (take (length answer - 1) (drop 1 answer)) rcode authority) × (IsRest W t next (left - 1) (take (length answer - 1) (drop 1 answer)) rcode authority → IsTrue x)
    → (IsTrue x → IsRest W t q left answer rcode authority) × (IsRest W t q left answer rcode authority → IsTrue x)
goes_so W t q r left answer rcode authority first next x w link some is same target room rest = (
  λ h. goes_on W t q w r link left answer rcode authority (record {
    first = first;
    others = take (length answer - 1) (drop 1 answer);
    is = head_is answer first some is;
    same = Yes.so (yes_record first r) same;
    next = next;
    target = target;
    room = omega (arith, room);
    behind = rest.0 h;
  }),
  λ h. rest.1 (behind h),
)
  where
    behind : IsRest W t q left answer rcode authority → IsRest W t next (left - 1) (take (length answer - 1) (drop 1 answer)) rcode authority
    behind h =
        let b : Begins W t q w r link left answer rcode authority = begins W t q w r link left answer rcode authority h in
        let e = sym (head_is answer first some is) ∙ b.is in
        let f : first ≡ b.first = first_same first b.first (take (length answer - 1) (drop 1 answer)) b.others e in
        let o : take (length answer - 1) (drop 1 answer) ≡ b.others = others_same first b.first (take (length answer - 1) (drop 1 answer)) b.others e in
        let n : next ≡ b.next = one_name next b.next (sym target ∙ (ap (λ (y : Record). y.value) f ∙ b.target)) in
        subst (λ (m : Name). IsRest W t m (left - 1) (take (length answer - 1) (drop 1 answer)) rcode authority) (sym n)
        (subst (λ (rs : List Record). IsRest W t b.next (left - 1) rs rcode authority) (sym o) b.behind)

-- The ends.
pub found_so : (W : World) (t : ℕ) (q : Name) (left : ℕ) (set answer : List Record) (rcode : ℕ) (authority : List Record) → IsWorld W → IsTrueLink W q t (Found set)
    → Yes (is_set answer set && nat_eq rcode 0 && is_none authority) (IsRest W t q left answer rcode authority)
found_so W t q left set answer rcode authority w link =
    yes_rest W t q left (Found set) answer rcode authority (is_set answer set && nat_eq rcode 0 && is_none authority) w link tt (yes_found set answer rcode authority)

pub no_data_so : (W : World) (t : ℕ) (q : Name) (left : ℕ) (soa : Record) (answer : List Record) (rcode : ℕ) (authority : List Record) → IsWorld W → IsTrueLink W q t (NoData soa)
    → Yes (is_none answer && nat_eq rcode 0 && is_only soa authority) (IsRest W t q left answer rcode authority)
no_data_so W t q left soa answer rcode authority w link =
    yes_rest W t q left (NoData soa) answer rcode authority (is_none answer && nat_eq rcode 0 && is_only soa authority) w link tt (yes_no_data soa answer rcode authority)

pub nx_domain_so : (W : World) (t : ℕ) (q : Name) (left : ℕ) (soa : Record) (answer : List Record) (rcode : ℕ) (authority : List Record) → IsWorld W → IsTrueLink W q t (NxDomain soa)
    → Yes (is_none answer && nat_eq rcode 3 && is_only soa authority) (IsRest W t q left answer rcode authority)
nx_domain_so W t q left soa answer rcode authority w link =
    yes_rest W t q left (NxDomain soa) answer rcode authority (is_none answer && nat_eq rcode 3 && is_only soa authority) w link tt (yes_nx_domain soa answer rcode authority)
