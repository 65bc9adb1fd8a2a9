-- Each line of the table uses a message as the RFCs read it: the class of each is followed once, from the
-- last line to the first.
use Rattle.std.proofs.Common.{◌≡◌, ◌≢◌, ℕ, Bool, true, false, ◌&&◌, ◌||◌, not, cond, nat_eq, ◌⊎◌, inl, inr, Option, Some, None, List, [], ◌∷◌, take, refl, sym, ◌∙◌, ap, subst, eqb-true, eq-eqb}
use Rattle.std.specs.Prelude.{Contains, filter}
use Rattle.std.specs.List.{list_any}
use Rattle.std.proofs.lemmas.Bool.{and_parts, and_from, both_ways, not-true}
use Rattle.dname.specs.Labels.{Name, same_name, is_under, IsAtOrUnder}
use Rattle.dname.specs.Laws.{same_name-exact, same_name-equal}
use Rattle.dname.proofs.Under.{under_is, is_under_holds}
use Rattle.rdata.specs.Data.{Datum, Ipv4, Ns, Cname, Soa, Ptr, Mx, Txt, Ipv6, Srv, type_of}
use Rattle.rdata.specs.Records.{Record}
use Rattle.rdata.specs.Selected.{records_at}
use Rattle.rdata.specs.Sets.{lowest_ttl, with_ttl, one_set}
use Rattle.rdata.proofs.SetMembers.{set_of, set_in}
use Rattle.limits.specs.Limits.{max_referral_servers, max_glue}
use Rattle.message_grammar.specs.Messages.{Message}
use Rattle.wire.specs.declared.via.Via.{Via}
use Rattle.wire.specs.declared.via.Via.TheVariants.{Udp, Tcp}
use Rattle.zone.specs.Zones.{a_type, ns_type, cname_type, soa_type}
use Rattle.zone.specs.Links.{Link, Found, Alias, NoData, NxDomain}
use Rattle.zone.specs.Same.{Same}
use Rattle.zone.proofs.LawLists.{any_from, any_of, filter_of, filter_in}
use Rattle.world_truth.specs.Worlds.{Address}
use Rattle.world_truth.specs.Reading.{IsIn, HasNo, IsFirst, IsDenied, Reads, IsAnswer, IsReferralTo, NamesServer, GivesAddress}
use Rattle.classify.specs.Classes.{Class, Answer, Referral, Truncated, Failed, first_of, answer_by, names_server, is_taken, addresses_of, refer_by, servers_of, leads_down, by_servers, denial_by, denies, by_denial, by_alias, by_set, by_code, truncated_over, class_of}
use Rattle.classify.specs.declared.class.Failure.TheVariants.{BadCode, NoAuthority, Empty, Foreign}
use Rattle.classify.specs.Laws.{AreServers, IsServer, AreAddresses}
use Rattle.classify.proofs.Walking.{taken_in, few_taken, all_taken, set_few}
use Rattle.classify.proofs.Firsts.{selected_in, in_selected, none_selected, first_selected, first_of_type, none_of_type, ns_of, ipv4_of}

-- Servers of a referral.
ns_in : (m : Message) (c : Name) (r : Record) → Contains (servers_of c m) r → (s : Record) × IsIn m.authority c ns_type s × Same r s
ns_in m c r h =
    let (s, n, e) = set_of (take max_referral_servers (records_at c ns_type m.authority)) r h in
    (s, selected_in m.authority c ns_type s (taken_in max_referral_servers (records_at c ns_type m.authority) s n), e)

named_server : (m : Message) (c : Name) (r : Record) → Contains (servers_of c m) r → (n : Name) × (r.value ≡ Ns n) × NamesServer m c n
named_server m c r h =
    let (s, i, e) = ns_in m c r h in
    let (n, v) = ns_of s.value i.2 in
    (n, e.1 ∙ v, (s, i, v))

servers_are : (m : Message) (c : Name) → AreServers m c (servers_of c m)
servers_are m c = record {
  owner = λ r h. let (s, i, e) = ns_in m c r h in e.0 ∙ i.1;
  named = named_server m c;
  all = set_in (take max_referral_servers (records_at c ns_type m.authority));
  few = set_few max_referral_servers (records_at c ns_type m.authority);
}

-- Addresses of its servers.
names_is : (n : Name) (d : Datum) → names_server n d ≡ true → d ≡ Ns n
names_is n (Ipv4 a) h = absurd (cc)
names_is n (Ns target) h = ap Ns (same_name-exact target n h)
names_is n (Cname target) h = absurd (cc)
names_is n (Soa s) h = absurd (cc)
names_is n (Ptr target) h = absurd (cc)
names_is n (Mx p target) h = absurd (cc)
names_is n (Txt ts) h = absurd (cc)
names_is n (Ipv6 a) h = absurd (cc)
names_is n (Srv v) h = absurd (cc)

names_holds : (n : Name) (d : Datum) → d ≡ Ns n → names_server n d ≡ true
names_holds n d e = ap (names_server n) e ∙ same_name-equal n n refl

taken_server : (m : Message) (c n : Name) → list_any (λ (s : Record). names_server n s.value) (servers_of c m) ≡ true → NamesServer m c n
taken_server m c n h =
    let (r, k, t) = any_of (λ (s : Record). names_server n s.value) (servers_of c m) h in
    let (s, i, e) = ns_in m c r k in
    (s, i, sym e.1 ∙ names_is n r.value t)

server_taken : (n : Name) (servers : List Record) → IsServer servers n → list_any (λ (s : Record). names_server n s.value) servers ≡ true
server_taken n servers (s, i, v) = any_from (λ (x : Record). names_server n x.value) servers s i (names_holds n s.value v)

given_address : (f : Name) (m : Message) (c : Name) (r : Record) → Contains (addresses_of f (servers_of c m) m.additional) r → (a : Address) × (r.value ≡ Ipv4 a) × GivesAddress f m c a
given_address f m c r h =
    let (stands, taken) = filter_of (is_taken f (servers_of c m)) m.additional r (taken_in max_glue (filter (is_taken f (servers_of c m)) m.additional) r h) in
    let p = and_parts (nat_eq (type_of r.value) a_type && is_under r.owner f) (list_any (λ (s : Record). names_server r.owner s.value) (servers_of c m)) taken in
    let k = and_parts (nat_eq (type_of r.value) a_type) (is_under r.owner f) p.0 in
    let (a, v) = ipv4_of r.value (eqb-true (type_of r.value) a_type k.0) in
    (a, v, (r.owner, r, taken_server m c r.owner p.1, under_is r.owner f k.1, stands, refl, v))

address_given : (f : Name) (servers additional : List Record) (r : Record) (a : Address) → Contains additional r → r.value ≡ Ipv4 a → IsServer servers r.owner → IsAtOrUnder r.owner f
    → Contains (filter (is_taken f servers) additional) r
address_given f servers additional r a stands v named inside =
    filter_in (is_taken f servers) additional r stands
    (and_from (nat_eq (type_of r.value) a_type && is_under r.owner f) (list_any (λ (s : Record). names_server r.owner s.value) servers)
    (and_from (nat_eq (type_of r.value) a_type) (is_under r.owner f) (eq-eqb (type_of r.value) a_type (ap type_of v)) (is_under_holds r.owner f inside))
    (server_taken r.owner servers named))

addresses_are : (f : Name) (m : Message) (c : Name) → AreAddresses f m c (servers_of c m) (addresses_of f (servers_of c m) m.additional)
addresses_are f m c = record {
  given = given_address f m c;
  all = λ less r a stands v named inside.
      subst (λ (rs : List Record). Contains rs r) (sym (all_taken max_glue (filter (is_taken f (servers_of c m)) m.additional) less))
      (address_given f (servers_of c m) m.additional r a stands v named inside);
  few = few_taken max_glue (filter (is_taken f (servers_of c m)) m.additional);
}

module _ (f q : Name) (t : ℕ) (m : Message) where
  -- What a class says of the message that has it.
  abbrev pub Says : Class → Type 0
  Says (Answer l) = IsAnswer f q t m l
  Says (Referral c servers addresses ttl) = IsReferralTo f q t m c × AreServers m c servers × AreAddresses f m c servers addresses
  Says Truncated = m.header.tc ≡ true
  Says (Failed e) = Unit {0}

  by_authority : (l : Link) (b : Bool) → m.header.aa ≡ b → m.header.tc ≡ false → Reads f q t m l → Says (cond b (Answer l) (Failed NoAuthority))
  by_authority l true aa tc reads = record { tc = tc; aa = aa; reads = reads }
  by_authority l false aa tc reads = tt

  -- Neither an answer nor an alias stands in it.
  record IsBare : Type 0 where
    tc : m.header.tc ≡ false
    answer : HasNo m.answer q t
    alias : HasNo m.answer q cname_type

  refers : IsBare → m.header.rcode ≡ 0 → ((r : Record) → Contains m.authority r → type_of r.value ≢ soa_type) → (r : Record) → IsFirst m.authority ns_type r
      → (b : Bool) → leads_down f q r.owner ≡ b → Says (cond b (refer_by f r.owner (servers_of r.owner m) m) (Failed Foreign))
  refers bare code soa r first true e =
      let p = and_parts (is_under r.owner f && not (same_name r.owner f)) (is_under q r.owner) e in
      let k = and_parts (is_under r.owner f) (not (same_name r.owner f)) p.0 in (
        record {
          tc = bare.tc;
          rcode = code;
          answer = bare.answer;
          alias = bare.alias;
          soa = soa;
          first = (r, first, refl);
          beneath = (under_is r.owner f k.0, λ s. both_ways (same_name r.owner f) (not-true (same_name r.owner f) k.1) (same_name-equal r.owner f s));
          over = under_is q r.owner p.1;
        },
        servers_are m r.owner,
        addresses_are f m r.owner,
      )
  refers bare code soa r first false e = tt

  by_first_server : IsBare → m.header.rcode ≡ 0 → ((r : Record) → Contains m.authority r → type_of r.value ≢ soa_type) → (o : Option Record) → first_of ns_type m.authority ≡ o
      → Says (by_servers f q m o)
  by_first_server bare code soa None e = tt
  by_first_server bare code soa (Some r) e = refers bare code soa r (first_of_type m.authority ns_type r e) (leads_down f q r.owner) refl

  abbrev IsTold : Type 0
  IsTold = (m.header.rcode ≡ 0) ⊎ (m.header.rcode ≡ 3)

  no_error : IsTold → nat_eq m.header.rcode 3 ≡ false → m.header.rcode ≡ 0
  no_error (inl z) e = z
  no_error (inr h) e = absurd (let k = eq-eqb m.header.rcode 3 h in cc)

  denial_reads : (soa : Record) → IsDenied f q t m soa → IsTold → (b : Bool) → nat_eq m.header.rcode 3 ≡ b → Reads f q t m (cond b (NxDomain soa) (NoData soa))
  denial_reads soa denied told true e = (eqb-true m.header.rcode 3 e, (soa, denied, (refl, refl)))
  denial_reads soa denied told false e = (no_error told e, (soa, denied, (refl, refl)))

  denied_by : IsBare → IsTold → (soa : Record) → IsFirst m.authority soa_type soa → (b : Bool) → denies f q soa.owner ≡ b
      → Says (cond b (answer_by m (denial_by m.header.rcode soa)) (Failed Foreign))
  denied_by bare told soa first true e =
      let p = and_parts (is_under q soa.owner) (is_under soa.owner f) e in
      by_authority (denial_by m.header.rcode soa) m.header.aa refl bare.tc
      (denial_reads soa (record { answer = bare.answer; alias = bare.alias; first = first; over = under_is q soa.owner p.0; inside = under_is soa.owner f p.1 }) told
      (nat_eq m.header.rcode 3) refl)
  denied_by bare told soa first false e = tt

  without_soa : IsBare → IsTold → first_of soa_type m.authority ≡ None → (b : Bool) → nat_eq m.header.rcode 3 ≡ b
      → Says (cond b (Failed Empty) (by_servers f q m (first_of ns_type m.authority)))
  without_soa bare told none true e = tt
  without_soa bare told none false e = by_first_server bare (no_error told e) (none_of_type m.authority soa_type none) (first_of ns_type m.authority) refl

  by_first_soa : IsBare → IsTold → (o : Option Record) → first_of soa_type m.authority ≡ o → Says (by_denial f q m o)
  by_first_soa bare told None e = without_soa bare told e (nat_eq m.header.rcode 3) refl
  by_first_soa bare told (Some soa) e = denied_by bare told soa (first_of_type m.authority soa_type soa e) (denies f q soa.owner) refl

  by_aliases : m.header.tc ≡ false → IsTold → HasNo m.answer q t → (rs : List Record) → records_at q cname_type m.answer ≡ rs → Says (by_alias f q m (one_set rs))
  by_aliases tc told none [] e =
      by_first_soa (record { tc = tc; answer = none; alias = none_selected m.answer q cname_type e }) told (first_of soa_type m.authority) refl
  by_aliases tc told none (r ∷ rs) e =
      by_authority (Alias (with_ttl (lowest_ttl (r ∷ rs)) r)) m.header.aa refl tc (told, none, (r, first_selected m.answer rs q cname_type r e, (refl, refl)))

  found_reads : (r : Record) (rs : List Record) → m.header.rcode ≡ 0 → records_at q t m.answer ≡ r ∷ rs → Reads f q t m (Found (one_set (r ∷ rs)))
  found_reads r rs code e = (
    code,
    λ x h. let (s, n, l) = set_of (r ∷ rs) x h in (s, selected_in m.answer q t s (subst (λ (xs : List Record). Contains xs s) (sym e) n), l),
    λ s h. set_in (r ∷ rs) s (subst (λ (xs : List Record). Contains xs s) e (in_selected m.answer q t s h)),
    λ h. cc,
  )

  found_by : m.header.tc ≡ false → IsTold → (r : Record) (rs : List Record) → records_at q t m.answer ≡ r ∷ rs → (b : Bool) → nat_eq m.header.rcode 3 ≡ b
      → Says (cond b (Failed BadCode) (answer_by m (Found (one_set (r ∷ rs)))))
  found_by tc told r rs e true k = tt
  found_by tc told r rs e false k = by_authority (Found (one_set (r ∷ rs))) m.header.aa refl tc (found_reads r rs (no_error told k) e)

  by_records : m.header.tc ≡ false → IsTold → (rs : List Record) → records_at q t m.answer ≡ rs → Says (by_set f q m (one_set rs))
  by_records tc told [] e = by_aliases tc told (none_selected m.answer q t e) (records_at q cname_type m.answer) refl
  by_records tc told (r ∷ rs) e = found_by tc told r rs e (nat_eq m.header.rcode 3) refl

  told_by : (a b : Bool) → nat_eq m.header.rcode 0 ≡ a → nat_eq m.header.rcode 3 ≡ b → (a || b) ≡ true → IsTold
  told_by true b ea eb h = inl (eqb-true m.header.rcode 0 ea)
  told_by false true ea eb h = inr (eqb-true m.header.rcode 3 eb)
  told_by false false ea eb h = absurd (cc)

  coded : m.header.tc ≡ false → (b : Bool) → (nat_eq m.header.rcode 0 || nat_eq m.header.rcode 3) ≡ b → Says (cond b (by_set f q m (one_set (records_at q t m.answer))) (Failed BadCode))
  coded tc true e = by_records tc (told_by (nat_eq m.header.rcode 0) (nat_eq m.header.rcode 3) refl refl e) (records_at q t m.answer) refl
  coded tc false e = tt

  short : (via : Via) → m.header.tc ≡ true → Says (truncated_over via)
  short Udp e = e
  short Tcp e = tt

  whole : (via : Via) (b : Bool) → m.header.tc ≡ b → Says (cond b (truncated_over via) (by_code f q t m))
  whole via true e = short via e
  whole via false e = coded e (nat_eq m.header.rcode 0 || nat_eq m.header.rcode 3) refl

  pub says : (via : Via) → Says (class_of f q t via m)
  says via = whole via m.header.tc refl

  pub answer_read : (via : Via) (l : Link) → class_of f q t via m ≡ Answer l → IsAnswer f q t m l
  answer_read via l e = subst (λ (c : Class). Says c) e (says via)

  pub referral_read : (via : Via) (c : Name) (servers addresses : List Record) (ttl : ℕ) → class_of f q t via m ≡ Referral c servers addresses ttl
      → IsReferralTo f q t m c × AreServers m c servers × AreAddresses f m c servers addresses
  referral_read via c servers addresses ttl e = subst (λ (x : Class). Says x) e (says via)

  pub truncated_read : (via : Via) → class_of f q t via m ≡ Truncated → m.header.tc ≡ true
  truncated_read via e = subst (λ (c : Class). Says c) e (says via)
