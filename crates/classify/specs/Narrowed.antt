-- The class of a message at the root, which is known before the zone is whose server was asked, and the same narrowed to
-- a zone.
use Rattle.std.specs.Prelude.{◌≡◌, ℕ, Bool, true, ◌&&◌, not, cond, ◌⊎◌, List, take, filter}
use Rattle.limits.specs.Limits.{max_glue}
use Rattle.dname.specs.Labels.{Name, root, same_name, is_under}
use Rattle.rdata.specs.Records.{Record}
use Rattle.message_grammar.specs.Messages.{Message}
use Rattle.message_grammar.specs.Laws.{AreUnderRoot}
use Rattle.zone.specs.Links.{Link, Found, Alias, NoData, NxDomain}
use Rattle.wire.specs.declared.via.Via.{Via}
use Rattle.classify.specs.declared.class.Failure.{Failure}
use Rattle.classify.specs.declared.class.Failure.TheVariants.{Foreign}
use Rattle.classify.specs.Classes.{Class, Answer, Referral, Truncated, Failed, is_taken, addresses_of, refer, class_of}

-- All addresses of a referral's servers that stand at or under the zone, however many.
abbrev pub all_addresses : Name → List Record → List Record → List Record
all_addresses f servers additional = filter (is_taken f servers) additional

-- The class with all addresses of a referral's servers.
abbrev pub uncut : Name → Message → Class → Class
uncut f m (Answer l) = Answer l
uncut f m (Referral c servers addresses ttl) = refer c servers (all_addresses f servers m.additional)
uncut f m Truncated = Truncated
uncut f m (Failed e) = Failed e

-- The addresses of a referral are the first ones of these, and its TTL is the lowest of its records.
abbrev pub IsCut : Name → Message → Class → Type 0
IsCut f m (Answer l) = Unit {0}
IsCut f m (Referral c servers addresses ttl) = Referral c servers addresses ttl ≡ refer c servers (addresses_of f servers m.additional)
IsCut f m Truncated = Unit {0}
IsCut f m (Failed e) = Unit {0}

abbrev pub class_at_root : Name → ℕ → Via → Message → Class
class_at_root q t via m = uncut root m (class_of root q t via m)

-- A server of the zone may deny a name by an SOA at or under the zone, and it leads strictly beneath the zone. Of the
-- addresses the first ones at or under the zone are used.
abbrev pub may_stand : Name → Link → Bool
may_stand f (Found rs) = true
may_stand f (Alias r) = true
may_stand f (NoData soa) = is_under soa.owner f
may_stand f (NxDomain soa) = is_under soa.owner f

abbrev pub link_within : Name → Link → Class
link_within f l = cond (may_stand f l) (Answer l) (Failed Foreign)

abbrev pub leads_within : Name → Name → Bool
leads_within f c = is_under c f && not (same_name c f)

abbrev pub addresses_within : Name → List Record → List Record
addresses_within f addresses = take max_glue (filter (λ (r : Record). is_under r.owner f) addresses)

abbrev pub narrowed : Name → Class → Class
narrowed f (Answer l) = link_within f l
narrowed f (Referral c servers addresses ttl) = cond (leads_within f c) (refer c servers (addresses_within f addresses)) (Failed Foreign)
narrowed f Truncated = Truncated
narrowed f (Failed e) = Failed e

-- The same use: one class, or both of no use, whatever the reasons.
abbrev pub SameUse : Class → Class → Type 0
SameUse a b = (a ≡ b) ⊎ ((x : Failure) × (y : Failure) × (a ≡ Failed x) × (b ≡ Failed y))

-- The class of a message at a zone is its class at the root, narrowed to that zone.
abbrev pub ZoneNarrows : Name → Type 0
ZoneNarrows f = (q : Name) (t : ℕ) (via : Via) (m : Message) → AreUnderRoot m → SameUse (class_of f q t via m) (narrowed f (class_at_root q t via m))
