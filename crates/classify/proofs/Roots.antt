-- An answer of a zone's server is the same answer of a root server.
use Rattle.std.proofs.Common.{◌≡◌, ℕ, Bool, true, false, ◌||◌, cond, nat_eq, Option, Some, None, List, [], ◌∷◌, refl, ◌∙◌, ap}
use Rattle.std.proofs.lemmas.Bool.{and_parts, and_from}
use Rattle.dname.specs.Labels.{Name, root, is_under}
use Rattle.dname.proofs.Under.{is_under_holds}
use Rattle.rdata.specs.Records.{Record}
use Rattle.rdata.specs.Selected.{records_at}
use Rattle.rdata.specs.Sets.{one_set}
use Rattle.message_grammar.specs.Messages.{Message}
use Rattle.wire.specs.declared.via.Via.{Via}
use Rattle.zone.specs.Zones.{ns_type, cname_type, soa_type}
use Rattle.zone.specs.Links.{Link}
use Rattle.zone.specs.Look.{is_type}
use Rattle.zone.proofs.LawLists.{find_of}
use Rattle.classify.specs.Classes.{Answer, Failed, first_of, answer_by, refer_by, servers_of, leads_down, by_servers, denial_by, denies, by_denial, by_alias, by_set, by_code, truncated_over, class_of}
use Rattle.classify.specs.declared.class.Failure.TheVariants.{BadCode, Empty, Foreign}
use Rattle.classify.specs.Laws.{EndInRoot}

module _ (f q : Name) (t : ℕ) (m : Message) (l : Link) (rooted : EndInRoot m) where
  no_answer : (r : Record) (b : Bool) → cond b (refer_by f r.owner (servers_of r.owner m) m) (Failed Foreign) ≡ Answer l → ⊥
  no_answer r true e = absurd (cc)
  no_answer r false e = absurd (cc)

  no_answer_by_servers : (o : Option Record) → by_servers f q m o ≡ Answer l → ⊥
  no_answer_by_servers None e = absurd (cc)
  no_answer_by_servers (Some r) e = no_answer r (leads_down f q r.owner) e

  without_soa : (b : Bool) → cond b (Failed Empty) (by_servers f q m (first_of ns_type m.authority)) ≡ Answer l → ⊥
  without_soa true e = absurd (cc)
  without_soa false e = no_answer_by_servers (first_of ns_type m.authority) e

  denies_at_root : (soa : Record) → first_of soa_type m.authority ≡ Some soa → denies f q soa.owner ≡ true → denies root q soa.owner ≡ true
  denies_at_root soa first e =
      and_from (is_under q soa.owner) (is_under soa.owner root) ((and_parts (is_under q soa.owner) (is_under soa.owner f) e).0)
      (is_under_holds soa.owner root (rooted soa ((find_of (is_type soa_type) m.authority soa first).0)))

  denied : (soa : Record) → first_of soa_type m.authority ≡ Some soa → (b : Bool) → denies f q soa.owner ≡ b
      → cond b (answer_by m (denial_by m.header.rcode soa)) (Failed Foreign) ≡ Answer l → by_denial root q m (Some soa) ≡ Answer l
  denied soa first true e h = ap (λ (b : Bool). cond b (answer_by m (denial_by m.header.rcode soa)) (Failed Foreign)) (denies_at_root soa first e) ∙ h
  denied soa first false e h = absurd (cc)

  by_first_soa : (o : Option Record) → first_of soa_type m.authority ≡ o → by_denial f q m o ≡ Answer l → by_denial root q m o ≡ Answer l
  by_first_soa None first h = absurd (without_soa (nat_eq m.header.rcode 3) h)
  by_first_soa (Some soa) first h = denied soa first (denies f q soa.owner) refl h

  by_aliases : (rs : List Record) → by_alias f q m rs ≡ Answer l → by_alias root q m rs ≡ Answer l
  by_aliases [] h = by_first_soa (first_of soa_type m.authority) refl h
  by_aliases (r ∷ rs) h = h

  by_records : (rs : List Record) → by_set f q m rs ≡ Answer l → by_set root q m rs ≡ Answer l
  by_records [] h = by_aliases (one_set (records_at q cname_type m.answer)) h
  by_records (r ∷ rs) h = h

  coded : (b : Bool) → cond b (by_set f q m (one_set (records_at q t m.answer))) (Failed BadCode) ≡ Answer l
      → cond b (by_set root q m (one_set (records_at q t m.answer))) (Failed BadCode) ≡ Answer l
  coded true h = by_records (one_set (records_at q t m.answer)) h
  coded false h = h

  whole : (via : Via) (b : Bool) → cond b (truncated_over via) (by_code f q t m) ≡ Answer l → cond b (truncated_over via) (by_code root q t m) ≡ Answer l
  whole via true h = h
  whole via false h = coded (nat_eq m.header.rcode 0 || nat_eq m.header.rcode 3) h

pub of_root : (f q : Name) (t : ℕ) (via : Via) (m : Message) (l : Link) → EndInRoot m → class_of f q t via m ≡ Answer l → class_of root q t via m ≡ Answer l
of_root f q t via m l rooted h = whole f q t m l rooted via m.header.tc h
