-- The class of a message at a zone is its class at the root, narrowed to the zone.
use Rattle.std.proofs.Common.{◌≡◌, ℕ, Bool, true, false, ◌&&◌, ◌||◌, not, cond, nat_eq, inl, inr, Option, Some, None, List, [], ◌∷◌, take, refl, sym, ◌∙◌, ap, subst}
use Rattle.std.specs.Prelude.{Contains, filter}
use Rattle.std.specs.List.{list_any}
use Rattle.limits.specs.Limits.{max_glue}
use Rattle.dname.specs.Labels.{Name, root, same_name, is_under, IsName, IsAtOrUnder, AreLabels}
use Rattle.dname.specs.Laws.{same_name-exact, same_name-equal}
use Rattle.dname.proofs.Under.{under_is, is_under_holds}
use Rattle.rdata.specs.Records.{Record}
use Rattle.rdata.specs.Selected.{records_at}
use Rattle.rdata.specs.Sets.{one_set}
use Rattle.message_grammar.specs.Messages.{Message}
use Rattle.message_grammar.specs.Laws.{AreUnderRoot}
use Rattle.zone.specs.Links.{Link, Found, Alias, NoData, NxDomain}
use Rattle.zone.specs.Zones.{a_type, ns_type, cname_type, soa_type}
use Rattle.zone.specs.Look.{is_type}
use Rattle.zone.proofs.LawLists.{find_of, first_in, later_in}
use Rattle.wire.specs.declared.via.Via.{Via}
use Rattle.wire.specs.declared.via.Via.TheVariants.{Udp, Tcp}
use Rattle.classify.specs.Classes.{Class, Answer, Failed, first_of, names_server, is_taken, refer, answer_by, refer_by, servers_of, by_servers, denial_by, by_denial, by_alias, by_set, by_code, truncated_over, class_of}
use Rattle.classify.specs.Narrowed.{all_addresses, uncut, may_stand, leads_within, addresses_within, narrowed, SameUse}
use Rattle.classify.specs.declared.class.Failure.TheVariants.{BadCode, NoAuthority, Empty, Foreign}

-- ---- names

-- The root lies beneath no other name.
root_under : (f : Name) → AreLabels f → is_under root f ≡ true → root ≡ f
root_under f labels h = by (under_is root f h)
  where
    by : IsAtOrUnder root f → root ≡ f
    by ([], e) = e
    by (l ∷ [], e) = let none : f ≡ [] = cc in absurd (subst AreLabels none labels)
    by (l ∷ k ∷ front, e) = absurd (cc)

-- ---- addresses

module _ (f : Name) (servers : List Record) where
  one_within : (r : Record) (xs ys : List Record) (typed at_root within listed : Bool) → at_root ≡ true → is_under r.owner f ≡ within
      → xs ≡ filter (λ (s : Record). is_under s.owner f) ys
      → cond (typed && within && listed) (r ∷ xs) xs ≡ filter (λ (s : Record). is_under s.owner f) (cond (typed && at_root && listed) (r ∷ ys) ys)
  one_within r xs ys false at_root within listed rooted is same = same
  one_within r xs ys true false within listed rooted is same = absurd (cc)
  one_within r xs ys true true true true rooted is same = ap (λ (zs : List Record). r ∷ zs) same ∙ ap (λ (b : Bool). cond b (r ∷ filter (λ (s : Record). is_under s.owner f) ys) (filter (λ (s : Record). is_under s.owner f) ys)) (sym is)
  one_within r xs ys true true true false rooted is same = same
  one_within r xs ys true true false true rooted is same = same ∙ ap (λ (b : Bool). cond b (r ∷ filter (λ (s : Record). is_under s.owner f) ys) (filter (λ (s : Record). is_under s.owner f) ys)) (sym is)
  one_within r xs ys true true false false rooted is same = same

  all_within : (rs : List Record) → ((r : Record) → Contains rs r → IsAtOrUnder r.owner root)
      → filter (is_taken f servers) rs ≡ filter (λ (s : Record). is_under s.owner f) (all_addresses root servers rs)
  all_within [] rooted = refl
  all_within (r ∷ rs) rooted =
      one_within r (filter (is_taken f servers) rs) (all_addresses root servers rs) (is_type a_type r) (is_under r.owner root) (is_under r.owner f)
      (list_any (λ (s : Record). names_server r.owner s.value) servers) (is_under_holds r.owner root (rooted r (first_in r rs))) refl
      (all_within rs (λ s h. rooted s (later_in r s rs h)))

-- ---- the table

module _ (f q : Name) (t : ℕ) (m : Message) (rooted : AreUnderRoot m) (labels : AreLabels f) where
  abbrev Narrows : Class → Class → Type 0
  Narrows a b = SameUse a (narrowed f (uncut root m b))

  -- Line 6. `led`: whether the cut leads over the name; the zone, and the root, are strictly above it or not.
  referred : (c : Name) (at_f same_f at_root same_root led : Bool) → is_under c f ≡ at_f → same_name c f ≡ same_f → at_root ≡ true → (at_f ≡ true → same_f ≡ false → same_root ≡ false)
      → Narrows (cond (at_f && not same_f && led) (refer_by f c (servers_of c m) m) (Failed Foreign)) (cond (at_root && not same_root && led) (refer_by root c (servers_of c m) m) (Failed Foreign))
  referred c at_f same_f false same_root led is same all strict = absurd (cc)
  referred c true false true true led is same all strict = absurd (let no = strict refl refl in cc)
  referred c true false true false true is same all strict =
      let within : leads_within f c ≡ true = (λ i. is i && not (same i)) in
      let servers = servers_of c m in
      inl (ap (λ (rs : List Record). refer c servers (take max_glue rs)) (all_within f servers m.additional rooted.additional)
      ∙ ap (λ (b : Bool). cond b (refer c servers (addresses_within f (all_addresses root servers m.additional))) (Failed Foreign)) (sym within))
  referred c true false true false false is same all strict = inl refl
  referred c true true true true led is same all strict = inl refl
  referred c true true true false true is same all strict =
      let within : leads_within f c ≡ false = (λ i. is i && not (same i)) in
      inl (ap (λ (b : Bool). cond b (refer c (servers_of c m) (addresses_within f (all_addresses root (servers_of c m) m.additional))) (Failed Foreign)) (sym within))
  referred c true true true false false is same all strict = inl refl
  referred c false same_f true true led is same all strict = inl refl
  referred c false same_f true false true is same all strict =
      let within : leads_within f c ≡ false = (λ i. is i && not (same_name c f)) in
      inl (ap (λ (b : Bool). cond b (refer c (servers_of c m) (addresses_within f (all_addresses root (servers_of c m) m.additional))) (Failed Foreign)) (sym within))
  referred c false same_f true false false is same all strict = inl refl

  below_zone : (c : Name) → is_under c f ≡ true → same_name c f ≡ false → (b : Bool) → same_name c root ≡ b → b ≡ false
  below_zone c under other true is =
      let at : c ≡ root = same_name-exact c root is in
      let zone : root ≡ f = root_under f labels (ap (λ (n : Name). is_under n f) (sym at) ∙ under) in
      sym (same_name-equal c f (at ∙ zone)) ∙ other
  below_zone c under other false is = refl

  first_server : (o : Option Record) → first_of ns_type m.authority ≡ o → Narrows (by_servers f q m o) (by_servers root q m o)
  first_server None first = inl refl
  first_server (Some r) first =
      let c = r.owner in
      referred c (is_under c f) (same_name c f) (is_under c root) (same_name c root) (is_under q c) refl refl
      (is_under_holds c root (rooted.authority r ((find_of (is_type ns_type) m.authority r first).0))) (λ under other. below_zone c under other (same_name c root) refl)

  without_soa : (b : Bool) → Narrows (cond b (Failed Empty) (by_servers f q m (first_of ns_type m.authority))) (cond b (Failed Empty) (by_servers root q m (first_of ns_type m.authority)))
  without_soa true = inl refl
  without_soa false = first_server (first_of ns_type m.authority) refl

  -- Line 5. The SOA's owner stands over the name or not, and at or under the zone or not.
  denied : (l : Link) (over at_f at_root aa : Bool) → may_stand f l ≡ at_f → at_root ≡ true
      → Narrows (cond (over && at_f) (cond aa (Answer l) (Failed NoAuthority)) (Failed Foreign)) (cond (over && at_root) (cond aa (Answer l) (Failed NoAuthority)) (Failed Foreign))
  denied l over at_f false aa is all = absurd (cc)
  denied l false at_f true aa is all = inl refl
  denied l true true true true is all = inl (ap (λ (b : Bool). cond b (Answer l) (Failed Foreign)) (sym is))
  denied l true true true false is all = inl refl
  denied l true false true true is all = inl (ap (λ (b : Bool). cond b (Answer l) (Failed Foreign)) (sym is))
  denied l true false true false is all = inr (Foreign, NoAuthority, refl, refl)

  stands_by : (soa : Record) (b : Bool) → may_stand f (cond b (NxDomain soa) (NoData soa)) ≡ is_under soa.owner f
  stands_by soa true = refl
  stands_by soa false = refl

  first_soa : (o : Option Record) → first_of soa_type m.authority ≡ o → Narrows (by_denial f q m o) (by_denial root q m o)
  first_soa None first = without_soa (nat_eq m.header.rcode 3)
  first_soa (Some soa) first =
      denied (denial_by m.header.rcode soa) (is_under q soa.owner) (is_under soa.owner f) (is_under soa.owner root) m.header.aa (stands_by soa (nat_eq m.header.rcode 3))
      (is_under_holds soa.owner root (rooted.authority soa ((find_of (is_type soa_type) m.authority soa first).0)))

  -- Lines 3 and 4, which the zone does not change.
  answered : (l : Link) (b : Bool) → may_stand f l ≡ true → Narrows (cond b (Answer l) (Failed NoAuthority)) (cond b (Answer l) (Failed NoAuthority))
  answered l true is = inl (ap (λ (b : Bool). cond b (Answer l) (Failed Foreign)) (sym is))
  answered l false is = inl refl

  aliases : (rs : List Record) → Narrows (by_alias f q m rs) (by_alias root q m rs)
  aliases [] = first_soa (first_of soa_type m.authority) refl
  aliases (r ∷ rs) = answered (Alias r) m.header.aa refl

  found : (set : List Record) (b : Bool) → Narrows (cond b (Failed BadCode) (answer_by m (Found set))) (cond b (Failed BadCode) (answer_by m (Found set)))
  found set true = inl refl
  found set false = answered (Found set) m.header.aa refl

  records : (rs : List Record) → Narrows (by_set f q m rs) (by_set root q m rs)
  records [] = aliases (one_set (records_at q cname_type m.answer))
  records (r ∷ rs) = found (r ∷ rs) (nat_eq m.header.rcode 3)

  coded : (b : Bool) → Narrows (cond b (by_set f q m (one_set (records_at q t m.answer))) (Failed BadCode)) (cond b (by_set root q m (one_set (records_at q t m.answer))) (Failed BadCode))
  coded true = records (one_set (records_at q t m.answer))
  coded false = inl refl

  truncated : (via : Via) → Narrows (truncated_over via) (truncated_over via)
  truncated Udp = inl refl
  truncated Tcp = inl refl

  whole : (via : Via) (b : Bool) → Narrows (cond b (truncated_over via) (by_code f q t m)) (cond b (truncated_over via) (by_code root q t m))
  whole via true = truncated via
  whole via false = coded (nat_eq m.header.rcode 0 || nat_eq m.header.rcode 3)

pub narrows : (f : Name) → IsName f → (q : Name) (t : ℕ) (via : Via) (m : Message) → AreUnderRoot m → SameUse (class_of f q t via m) (narrowed f (uncut root m (class_of root q t via m)))
narrows f named q t via m rooted = whole f q t m rooted named.labels via m.header.tc
