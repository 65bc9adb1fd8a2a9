-- What the RFCs take for an answer or a referral is used as one; a set that is used has each record once.
use Rattle.std.proofs.Common.{◌≡◌, ◌≢◌, ℕ, Bool, true, false, ◌&&◌, ◌||◌, not, cond, nat_eq, min, ◌⊎◌, inl, inr, Some, None, List, [], ◌∷◌, ◌++◌, refl, sym, ◌∙◌, ap, subst, eqb-true, eq-eqb}
use Rattle.std.specs.Prelude.{Contains, filter, find, map}
use Rattle.std.proofs.lemmas.Bool.{and_from, both_ways, not-true}
use Rattle.dname.specs.Labels.{Name, same_name, is_under, IsAtOrUnder}
use Rattle.dname.specs.Laws.{same_name-exact, same_name-equal}
use Rattle.dname.proofs.Under.{is_under_holds}
use Rattle.rdata.specs.Data.{same_data, type_of}
use Rattle.rdata.specs.Records.{Record}
use Rattle.rdata.specs.Selected.{is_at, records_at}
use Rattle.rdata.specs.Sets.{is_repeat, once, lowest_ttl, with_ttl, one_set}
use Rattle.rdata.proofs.Exact.{same_data-refl}
use Rattle.rdata.proofs.SetMembers.{set_of, set_in, with_ttl_of}
use Rattle.message_grammar.specs.Messages.{Message}
use Rattle.wire.specs.declared.via.Via.{Via}
use Rattle.wire.specs.declared.via.Via.TheVariants.{Udp, Tcp}
use Rattle.zone.specs.Zones.{ns_type, cname_type, soa_type}
use Rattle.zone.specs.Links.{Link, Found, Alias, NoData, NxDomain}
use Rattle.zone.specs.Look.{is_type}
use Rattle.zone.specs.Same.{Same, Has, SameLink}
use Rattle.zone.proofs.LawLists.{none_in, first_in, later_in, filter_of}
use Rattle.world_truth.specs.Replies.{Once}
use Rattle.world_truth.specs.Reading.{HasNo, IsFirst, IsFirstOf, IsDenied, Reads, IsAnswer, IsReferralTo}
use Rattle.world_truth.proofs.Sames.{same_back, same_on, same_one}
use Rattle.classify.specs.Classes.{Answer, Referral, Truncated, Failed, first_of, answer_by, addresses_of, refer, refer_by, servers_of, leads_down, by_servers, denial_by, by_denial, by_alias, by_set, by_code, truncated_over, class_of}
use Rattle.classify.specs.declared.class.Failure.TheVariants.{BadCode, NoAuthority, Empty, Foreign}
use Rattle.classify.proofs.Firsts.{at_is, at_holds, selected_in, in_selected}
use Rattle.classify.proofs.Readings.{answer_read, referral_read, truncated_read}

is_false : (b : Bool) → (b ≡ true → ⊥) → b ≡ false
is_false true h = absurd (h refl)
is_false false h = refl

-- The first of a list that passes a test is found, and is kept first.
module _ {X : Type 0} (p : X → Bool) where
  find_first : (front back : List X) (x : X) → p x ≡ true → ((y : X) → Contains front y → p y ≡ false) → find p (front ++ x ∷ back) ≡ Some x
  find_first [] back x e h = ap (λ b. cond b (Some x) (find p back)) e
  find_first (y ∷ front) back x e h = ap (λ b. cond b (Some y) (find p (front ++ x ∷ back))) (h y (first_in y front)) ∙ find_first front back x e (λ z k. h z (later_in y z front k))

  find_none : (xs : List X) → ((y : X) → Contains xs y → p y ≡ false) → find p xs ≡ None
  find_none [] h = refl
  find_none (x ∷ xs) h = ap (λ b. cond b (Some x) (find p xs)) (h x (first_in x xs)) ∙ find_none xs (λ y k. h y (later_in x y xs k))

  filter_first : (front back : List X) (x : X) → p x ≡ true → ((y : X) → Contains front y → p y ≡ false) → filter p (front ++ x ∷ back) ≡ x ∷ filter p back
  filter_first [] back x e h = ap (λ b. cond b (x ∷ filter p back) (filter p back)) e
  filter_first (y ∷ front) back x e h =
      ap (λ b. cond b (y ∷ filter p (front ++ x ∷ back)) (filter p (front ++ x ∷ back))) (h y (first_in y front)) ∙ filter_first front back x e (λ z k. h z (later_in y z front k))

  filter_none : (xs : List X) → ((y : X) → Contains xs y → p y ≡ false) → filter p xs ≡ []
  filter_none [] h = refl
  filter_none (x ∷ xs) h = ap (λ b. cond b (x ∷ filter p xs) (filter p xs)) (h x (first_in x xs)) ∙ filter_none xs (λ y k. h y (later_in x y xs k))

-- Of an owner and a type, and of a type.
none_at : (rs : List Record) (q : Name) (t : ℕ) → HasNo rs q t → records_at q t rs ≡ []
none_at rs q t h = filter_none (is_at q t) rs (λ r k. is_false (is_at q t r) (λ e. let a = at_is q t r e in h r (k, a.0, a.1)))

first_at : (rs : List Record) (q : Name) (t : ℕ) (r : Record) → IsFirstOf rs q t r → (xs : List Record) × (records_at q t rs ≡ r ∷ xs)
first_at rs q t r h = (
  records_at q t h.back,
  ap (records_at q t) h.is
      ∙ filter_first (is_at q t) h.front h.back r (at_holds q t r h.owner h.kind) (λ s k. is_false (is_at q t s) (λ e. let a = at_is q t s e in h.before s (k, a.0, a.1))),
)

first_is : (rs : List Record) (t : ℕ) (r : Record) → IsFirst rs t r → first_of t rs ≡ Some r
first_is rs t r h = ap (find (is_type t)) h.is
    ∙ find_first (is_type t) h.front h.back r (eq-eqb (type_of r.value) t h.kind) (λ s k. is_false (is_type t s) (λ e. h.before s k (eqb-true (type_of s.value) t e)))

none_of : (rs : List Record) (t : ℕ) → ((r : Record) → Contains rs r → type_of r.value ≢ t) → first_of t rs ≡ None
none_of rs t h = find_none (is_type t) rs (λ s k. is_false (is_type t s) (λ e. h s k (eqb-true (type_of s.value) t e)))

module _ (f q : Name) (t : ℕ) (m : Message) where
  told_so : (m.header.rcode ≡ 0) ⊎ (m.header.rcode ≡ 3) → (nat_eq m.header.rcode 0 || nat_eq m.header.rcode 3) ≡ true
  told_so (inl e) = ap (λ n. nat_eq n 0 || nat_eq n 3) e
  told_so (inr e) = ap (λ n. nat_eq n 0 || nat_eq n 3) e

  -- The class of a whole message by each line of the table.
  at_set : (via : Via) → m.header.tc ≡ false → (m.header.rcode ≡ 0) ⊎ (m.header.rcode ≡ 3) → class_of f q t via m ≡ by_set f q m (one_set (records_at q t m.answer))
  at_set via tc told = ap (λ b. cond b (truncated_over via) (by_code f q t m)) tc ∙ ap (λ b. cond b (by_set f q m (one_set (records_at q t m.answer))) (Failed BadCode)) (told_so told)

  at_alias : (via : Via) → m.header.tc ≡ false → (m.header.rcode ≡ 0) ⊎ (m.header.rcode ≡ 3) → HasNo m.answer q t → class_of f q t via m ≡ by_alias f q m (one_set (records_at q cname_type m.answer))
  at_alias via tc told none = at_set via tc told ∙ ap (λ (rs : List Record). by_set f q m (one_set rs)) (none_at m.answer q t none)

  at_denial : (via : Via) → m.header.tc ≡ false → (m.header.rcode ≡ 0) ⊎ (m.header.rcode ≡ 3) → HasNo m.answer q t → HasNo m.answer q cname_type
      → class_of f q t via m ≡ by_denial f q m (first_of soa_type m.authority)
  at_denial via tc told none bare = at_alias via tc told none ∙ ap (λ (rs : List Record). by_alias f q m (one_set rs)) (none_at m.answer q cname_type bare)

  answered : (l : Link) → m.header.aa ≡ true → answer_by m l ≡ Answer l
  answered l aa = ap (λ b. cond b (Answer l) (Failed NoAuthority)) aa

  -- A set.
  found_class : (via : Via) (r : Record) (rs : List Record) → m.header.tc ≡ false → m.header.aa ≡ true → m.header.rcode ≡ 0 → records_at q t m.answer ≡ r ∷ rs
      → class_of f q t via m ≡ Answer (Found (one_set (r ∷ rs)))
  found_class via r rs tc aa code e = at_set via tc (inl code)
      ∙ (ap (λ (xs : List Record). by_set f q m (one_set xs)) e
      ∙ (ap (λ n. cond (nat_eq n 3) (Failed BadCode) (answer_by m (Found (one_set (r ∷ rs))))) code ∙ answered (Found (one_set (r ∷ rs))) aa))

  found_same : (set xs : List Record) → Reads f q t m (Found set) → records_at q t m.answer ≡ xs → SameLink (Found (one_set xs)) (Found set)
  found_same set xs (code, theirs, all, some) e = record {
    kinds = refl;
    records = (
      λ r k. let (s, n, l) = set_of xs r k in
          let (y, j, o) = all s (selected_in m.answer q t s (subst (λ (ys : List Record). Contains ys s) (sym e) n)) in
          (y, j, same_on r s y l o),
      λ s k. let (r, i, o) = theirs s k in
          let (y, j, l) = set_in xs r (subst (λ (ys : List Record). Contains ys r) e (in_selected m.answer q t r i)) in
          (y, j, same_on s r y o l),
    );
  }

  -- What is found has a record.
  some_found : (set : List Record) → Reads f q t m (Found set) → records_at q t m.answer ≡ [] → ⊥
  some_found [] (code, theirs, all, some) e = some refl
  some_found (r ∷ rs) (code, theirs, all, some) e = let (s, i, o) = theirs r (first_in r rs) in none_in s (subst (λ (ys : List Record). Contains ys s) e (in_selected m.answer q t s i))

  IsUsed : Via → Link → Type 0
  IsUsed via l = (k : Link) × (class_of f q t via m ≡ Answer k) × SameLink k l

  found_used : (via : Via) (set : List Record) → m.header.tc ≡ false → m.header.aa ≡ true → Reads f q t m (Found set) → (xs : List Record) → records_at q t m.answer ≡ xs → IsUsed via (Found set)
  unfolding IsUsed
  found_used via set tc aa reads [] e = absurd (some_found set reads e)
  found_used via set tc aa reads (r ∷ rs) e = (Found (one_set (r ∷ rs)), found_class via r rs tc aa reads.0 e, found_same set (r ∷ rs) reads e)

  -- An alias.
  alias_used : (via : Via) (r : Record) → m.header.tc ≡ false → m.header.aa ≡ true → Reads f q t m (Alias r) → IsUsed via (Alias r)
  unfolding IsUsed
  alias_used via r tc aa (told, none, (s, first, same)) =
      let (xs, e) = first_at m.answer q cname_type s first in
      let kept : Record = with_ttl (lowest_ttl (s ∷ xs)) s in (
        Alias kept,
        at_alias via tc told none ∙ (ap (λ (rs : List Record). by_alias f q m (one_set rs)) e ∙ answered (Alias kept) aa),
        record { kinds = refl; records = same_one kept r (same_back r s same) },
      )

  -- A negative answer.
  denied_class : (via : Via) (soa : Record) → m.header.tc ≡ false → m.header.aa ≡ true → (m.header.rcode ≡ 0) ⊎ (m.header.rcode ≡ 3) → IsDenied f q t m soa
      → class_of f q t via m ≡ Answer (denial_by m.header.rcode soa)
  denied_class via soa tc aa told denied = at_denial via tc told denied.answer denied.alias
      ∙ (ap (by_denial f q m) (first_is m.authority soa_type soa denied.first)
      ∙ (ap (λ b. cond b (answer_by m (denial_by m.header.rcode soa)) (Failed Foreign)) (and_from (is_under q soa.owner) (is_under soa.owner f) (is_under_holds q soa.owner denied.over) (is_under_holds soa.owner f denied.inside))
      ∙ answered (denial_by m.header.rcode soa) aa))

  pub used : (via : Via) (l : Link) → IsAnswer f q t m l → (k : Link) × (class_of f q t via m ≡ Answer k) × SameLink k l
  unfolding IsUsed
  used via (Found set) a = found_used via set a.tc a.aa a.reads (records_at q t m.answer) refl
  used via (Alias r) a = alias_used via r a.tc a.aa a.reads
  used via (NoData r) a =
      let (code, (soa, denied, same)) = a.reads in (
        NoData soa,
        denied_class via soa a.tc a.aa (inl code) denied ∙ ap (λ n. Answer (denial_by n soa)) code,
        record { kinds = refl; records = same_one soa r (same_back r soa same) },
      )
  used via (NxDomain r) a =
      let (code, (soa, denied, same)) = a.reads in (
        NxDomain soa,
        denied_class via soa a.tc a.aa (inr code) denied ∙ ap (λ n. Answer (denial_by n soa)) code,
        record { kinds = refl; records = same_one soa r (same_back r soa same) },
      )

  -- A referral.
  referral_class : (via : Via) (c : Name) → IsReferralTo f q t m c → class_of f q t via m ≡ refer_by f c (servers_of c m) m
  referral_class via c is =
      let (r, first, owner) = is.first in
      let down : leads_down f q c ≡ true = and_from (is_under c f && not (same_name c f)) (is_under q c)
      (and_from (is_under c f) (not (same_name c f)) (is_under_holds c f is.beneath.0) (ap not (is_false (same_name c f) (λ e. is.beneath.1 (same_name-exact c f e)))))
      (is_under_holds q c is.over) in
      at_denial via is.tc (inl is.rcode) is.answer is.alias
      ∙ (ap (by_denial f q m) (none_of m.authority soa_type is.soa)
      ∙ (ap (λ n. cond (nat_eq n 3) (Failed Empty) (by_servers f q m (first_of ns_type m.authority))) is.rcode
      ∙ (ap (by_servers f q m) (first_is m.authority ns_type r first)
      ∙ (ap (λ (n : Name). cond (leads_down f q n) (refer_by f n (servers_of n m) m) (Failed Foreign)) owner
      ∙ ap (λ b. cond b (refer_by f c (servers_of c m) m) (Failed Foreign)) down))))

  pub followed : (via : Via) (c : Name) → IsReferralTo f q t m c → (servers : List Record) × (addresses : List Record) × (ttl : ℕ) × (class_of f q t via m ≡ Referral c servers addresses ttl)
  followed via c is = (
    servers_of c m,
    addresses_of f (servers_of c m) m.additional,
    min (lowest_ttl (servers_of c m)) (lowest_ttl (addresses_of f (servers_of c m) m.additional)),
    referral_class via c is,
  )

  -- Its TTL is the lowest.
  lowest : (via : Via) (c : Name) (servers addresses : List Record) (ttl : ℕ) (ns glue : List Record) → Referral c servers addresses ttl ≡ refer c ns glue → ttl ≡ min (lowest_ttl servers) (lowest_ttl addresses)
  lowest via c servers addresses ttl ns glue e =
      let s : servers ≡ ns = cc in
      let a : addresses ≡ glue = cc in
      let n : ttl ≡ min (lowest_ttl ns) (lowest_ttl glue) = cc in
      n ∙ sym (λ i. min (lowest_ttl (s i)) (lowest_ttl (a i)))

  pub referral_ttl : (via : Via) (c : Name) (servers addresses : List Record) (ttl : ℕ) → class_of f q t via m ≡ Referral c servers addresses ttl → ttl ≡ min (lowest_ttl servers) (lowest_ttl addresses)
  referral_ttl via c servers addresses ttl e =
      lowest via c servers addresses ttl (servers_of c m) (addresses_of f (servers_of c m) m.additional) (sym e ∙ referral_class via c (referral_read f q t m via c servers addresses ttl e).0)

  pub referral_over : (via : Via) (c : Name) (servers addresses : List Record) (ttl : ℕ) → class_of f q t via m ≡ Referral c servers addresses ttl → IsAtOrUnder q c
  referral_over via c servers addresses ttl e = (referral_read f q t m via c servers addresses ttl e).0.over

  -- What was truncated over UDP, and nothing else.
  truncated_way : (via : Via) → truncated_over via ≡ Truncated → via ≡ Udp
  truncated_way Udp e = refl
  truncated_way Tcp e = absurd (cc)

  at_truncated : (via : Via) → m.header.tc ≡ true → class_of f q t via m ≡ truncated_over via
  at_truncated via tc = ap (λ b. cond b (truncated_over via) (by_code f q t m)) tc

  pub truncated_is : (via : Via) → class_of f q t via m ≡ Truncated → (via ≡ Udp) × (m.header.tc ≡ true)
  truncated_is via e = let tc = truncated_read f q t m via e in (truncated_way via (sym (at_truncated via tc) ∙ e), tc)

  pub is_truncated : (via : Via) → (via ≡ Udp) × (m.header.tc ≡ true) → class_of f q t via m ≡ Truncated
  is_truncated via (way, tc) = at_truncated via tc ∙ ap truncated_over way

-- ---- each record once

module _ (p : Record → Bool) where
  split_once : (r : Record) (rs : List Record) (b : Bool) → (Has rs r → ⊥) → Once (filter p rs) → Once (cond b (r ∷ filter p rs) (filter p rs))
  split_once r rs true apart h = ((λ (s, k, e). apart (s, (filter_of p rs s k).0, e)), h)
  split_once r rs false apart h = h

  filter_once : (rs : List Record) → Once rs → Once (filter p rs)
  filter_once [] h = tt
  filter_once (r ∷ rs) h = split_once r rs (p r) h.0 (filter_once rs h.1)

repeats : (r s : Record) → Same r s → is_repeat r s ≡ true
repeats r s e = and_from (same_name r.owner s.owner) (same_data r.value s.value) (same_name-equal r.owner s.owner e.0) (subst (λ d. same_data r.value d ≡ true) e.1 (same_data-refl r.value))

none_repeats : (r : Record) (rs : List Record) → Has (filter (λ (s : Record). not (is_repeat r s)) rs) r → ⊥
none_repeats r rs (s, k, e) = both_ways (is_repeat r s) (not-true (is_repeat r s) ((filter_of (λ (x : Record). not (is_repeat r x)) rs s k).1)) (repeats r s e)

each_once : (rs : List Record) → Once (once rs)
each_once [] = tt
each_once (r ∷ rs) = (none_repeats r (once rs), filter_once (λ (s : Record). not (is_repeat r s)) (once rs) (each_once rs))

timed_once : (ttl : ℕ) (rs : List Record) → Once rs → Once (map (with_ttl ttl) rs)
timed_once ttl [] h = tt
timed_once ttl (r ∷ rs) h = ((λ (s, k, e). let (y, j, l) = with_ttl_of ttl rs s k in h.0 (y, j, (e.0 ∙ l.0, e.1 ∙ l.1))), timed_once ttl rs h.1)

pub set_once : (rs : List Record) → Once (one_set rs)
set_once rs = timed_once (lowest_ttl rs) (once rs) (each_once rs)

found_is : (a b : List Record) → Answer (Found a) ≡ Answer (Found b) → a ≡ b
found_is a b e = cc

module _ (f q : Name) (t : ℕ) (m : Message) where
  once_by : (via : Via) (set xs : List Record) → class_of f q t via m ≡ Answer (Found set) → IsAnswer f q t m (Found set) → records_at q t m.answer ≡ xs → Once set
  once_by via set [] e a h = absurd (some_found f q t m set a.reads h)
  once_by via set (r ∷ rs) e a h = subst Once (found_is (one_set (r ∷ rs)) set (sym (found_class f q t m via r rs a.tc a.aa a.reads.0 h) ∙ e)) (set_once (r ∷ rs))

  pub found_once : (via : Via) (set : List Record) → class_of f q t via m ≡ Answer (Found set) → Once set
  found_once via set e = once_by via set (records_at q t m.answer) e (answer_read f q t m via (Found set) e) refl

-- Where CNAME is asked for, an alias is found as such.
pub no_alias_of_cname : (f q : Name) (m : Message) (r : Record) → IsAnswer f q cname_type m (Alias r) → ⊥
no_alias_of_cname f q m r a =
    let (told, none, (s, first, same)) = a.reads in
    let (xs, e) = first_at m.answer q cname_type s first in
    none s (selected_in m.answer q cname_type s (subst (λ (ys : List Record). Contains ys s) (sym e) (first_in s xs)))

pub no_alias_class : (f q : Name) (via : Via) (m : Message) (r : Record) → class_of f q cname_type via m ≡ Answer (Alias r) → ⊥
no_alias_class f q via m r e = no_alias_of_cname f q m r (answer_read f q cname_type m via (Alias r) e)
