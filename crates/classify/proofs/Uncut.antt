-- What the class of a message says of its addresses.
use Rattle.std.proofs.Common.{◌≡◌, ℕ, Bool, true, false, ◌||◌, cond, nat_eq, Option, Some, None, List, [], ◌∷◌, refl, ap, ◌∙◌, ◌<◌, length, arith}
use Rattle.std.specs.Prelude.{filter}
use Rattle.limits.specs.Limits.{max_glue}
use Rattle.dname.specs.Labels.{Name}
use Rattle.rdata.specs.Records.{Record}
use Rattle.rdata.specs.Selected.{records_at}
use Rattle.rdata.specs.Sets.{one_set}
use Rattle.message_grammar.specs.Messages.{Message}
use Rattle.zone.specs.Links.{Link, Found, Alias}
use Rattle.zone.specs.Zones.{ns_type, cname_type, soa_type}
use Rattle.wire.specs.declared.via.Via.{Via}
use Rattle.wire.specs.declared.via.Via.TheVariants.{Udp, Tcp}
use Rattle.classify.specs.Classes.{Class, Answer, Referral, Truncated, Failed, first_of, is_taken, addresses_of, refer, answer_by, refer_by, servers_of, leads_down, by_servers, denial_by, denies, by_denial, by_alias, by_set, by_code, truncated_over, class_of}
use Rattle.classify.specs.Narrowed.{all_addresses, IsCut}
use Rattle.classify.specs.declared.class.Failure.TheVariants.{BadCode, NoAuthority, Empty, Foreign}
use Rattle.classify.proofs.Walking.{all_taken}

module _ (f q : Name) (t : ℕ) (m : Message) where
  authority_cut : (l : Link) (b : Bool) → IsCut f m (cond b (Answer l) (Failed NoAuthority))
  authority_cut l true = tt
  authority_cut l false = tt

  referral_cut : (c : Name) (b : Bool) → IsCut f m (cond b (refer_by f c (servers_of c m) m) (Failed Foreign))
  referral_cut c true = refl
  referral_cut c false = tt

  servers_cut : (o : Option Record) → IsCut f m (by_servers f q m o)
  servers_cut None = tt
  servers_cut (Some r) = referral_cut r.owner (leads_down f q r.owner)

  no_soa_cut : (b : Bool) → IsCut f m (cond b (Failed Empty) (by_servers f q m (first_of ns_type m.authority)))
  no_soa_cut true = tt
  no_soa_cut false = servers_cut (first_of ns_type m.authority)

  soa_cut : (soa : Record) (b : Bool) → IsCut f m (cond b (answer_by m (denial_by m.header.rcode soa)) (Failed Foreign))
  soa_cut soa true = authority_cut (denial_by m.header.rcode soa) m.header.aa
  soa_cut soa false = tt

  denial_cut : (o : Option Record) → IsCut f m (by_denial f q m o)
  denial_cut None = no_soa_cut (nat_eq m.header.rcode 3)
  denial_cut (Some soa) = soa_cut soa (denies f q soa.owner)

  alias_cut : (rs : List Record) → IsCut f m (by_alias f q m rs)
  alias_cut [] = denial_cut (first_of soa_type m.authority)
  alias_cut (r ∷ rs) = authority_cut (Alias r) m.header.aa

  found_cut : (l : Link) (b : Bool) → IsCut f m (cond b (Failed BadCode) (answer_by m l))
  found_cut l true = tt
  found_cut l false = authority_cut l m.header.aa

  set_cut : (rs : List Record) → IsCut f m (by_set f q m rs)
  set_cut [] = alias_cut (one_set (records_at q cname_type m.answer))
  set_cut (r ∷ rs) = found_cut (Found (r ∷ rs)) (nat_eq m.header.rcode 3)

  code_cut : (b : Bool) → IsCut f m (cond b (by_set f q m (one_set (records_at q t m.answer))) (Failed BadCode))
  code_cut true = set_cut (one_set (records_at q t m.answer))
  code_cut false = tt

  truncated_cut : (via : Via) → IsCut f m (truncated_over via)
  truncated_cut Udp = tt
  truncated_cut Tcp = tt

  whole_cut : (via : Via) (b : Bool) → IsCut f m (cond b (truncated_over via) (by_code f q t m))
  whole_cut via true = truncated_cut via
  whole_cut via false = code_cut (nat_eq m.header.rcode 0 || nat_eq m.header.rcode 3)

  pub class_cut : (via : Via) → IsCut f m (class_of f q t via m)
  class_cut via = whole_cut via m.header.tc

-- The addresses of a referral, where they are fewer than are used at most, are all of them.
addresses_in : Class → List Record
addresses_in (Answer l) = []
addresses_in (Referral c servers addresses ttl) = addresses
addresses_in Truncated = []
addresses_in (Failed e) = []

pub all_of_few : (f c : Name) (m : Message) (servers addresses : List Record) (ttl : ℕ) → IsCut f m (Referral c servers addresses ttl) → length addresses < 256
    → Referral c servers addresses ttl ≡ refer c servers (all_addresses f servers m.additional)
unfolding addresses_in
all_of_few f c m servers addresses ttl cut few =
    let same : addresses ≡ addresses_of f servers m.additional = ap addresses_in cut in
    let all : addresses_of f servers m.additional ≡ all_addresses f servers m.additional = all_taken max_glue (filter (is_taken f servers) m.additional) (omega (arith, few, ap length same)) in
    cut ∙ ap (refer c servers) all
