-- Events that were read are seen alike where they are the same: what is seen of one gives it back.
use Rattle.std.proofs.Common.{◌≡◌, ◌∙◌, Option, Some, None, refl, sym, ap}
use Rattle.rdata.specs.Types.{type_by}
use Rattle.rdata.specs.declared.rtype.RType.{RType}
use Rattle.rdata.specs.declared.rtype.RType.TheVariants as kind
use Rattle.rdata.proofs.Words.{number_names_type}
use Rattle.zone.specs.Links as plain_link
use Rattle.zone.specs.Views.{link_view}
use Rattle.zone.specs.declared.link.Link.{Link}
use Rattle.zone.specs.declared.link.Link.TheVariants as link
use Rattle.front.specs.declared.queries.Request.{Request}
use Rattle.front.specs.declared.queries.Request.TheVariants as request
use Rattle.classify.specs.Classes as plain_class
use Rattle.classify.specs.Read.{Reading as ReadingSpec}
use Rattle.classify.specs.Views.{class_view, reading_view, read_view}
use Rattle.classify.specs.declared.class.Class.{Class}
use Rattle.classify.specs.declared.class.Class.TheVariants as class
use Rattle.classify.specs.declared.reading.Reading.{Reading}
use Rattle.runs.specs.States.{Endpoint as EndpointSpec, Plain}
use Rattle.events.specs.Paths.{endpoint_view}
use Rattle.events.specs.Plain.{plain_asked}
use Rattle.events.specs.declared.path.Endpoint.{Endpoint}
use Rattle.typed.specs.Events as plain
use Rattle.typed.specs.Views.{parsed_view}
use Rattle.typed.specs.declared.event.Parsed.{Parsed}
use Rattle.typed.specs.declared.event.Parsed.TheVariants as parsed

abbrev kind_told : Option RType → RType
kind_told None = kind.A
kind_told (Some t) = t

abbrev link_told : {A : Type 0} → plain_link.Link → Link A
link_told (plain_link.Found set) = link.Found set
link_told (plain_link.Alias r) = link.Alias r
link_told (plain_link.NoData soa) = link.NoData soa
link_told (plain_link.NxDomain soa) = link.NxDomain soa

abbrev class_told : {A : Type 0} → plain_class.Class → Class A
class_told (plain_class.Answer l) = class.Answer (link_told l)
class_told (plain_class.Referral owner servers addresses ttl) = class.Referral (record { owner = owner; servers = servers; addresses = addresses; ttl = ttl })
class_told plain_class.Truncated = class.Truncated
class_told (plain_class.Failed f) = class.Failed f

abbrev reading_told : {A : Type 0} → ReadingSpec → Reading A
reading_told r = record { id = r.id; name = r.name; kind = kind_told (type_by r.kind); failed = r.failed; class = class_told r.class }

abbrev read_told : {A : Type 0} → Option ReadingSpec → Option (Reading A)
read_told None = None
read_told (Some r) = Some (reading_told r)

abbrev asked_told : {A : Type 0} → Request Plain → Request A
asked_told request.Drop = request.Drop
asked_told (request.Refuse refusal start echo) = request.Refuse refusal start echo
asked_told (request.Query q) = request.Query (record { start = q.start; name = q.name; kind = q.kind; echo = q.echo })

abbrev endpoint_told : EndpointSpec → Endpoint
endpoint_told e = record { address = e.address; port = e.port }

abbrev parsed_told : {A : Type 0} → plain.Parsed → Parsed A
parsed_told (plain.Client now client way request) = parsed.Client now client way (asked_told request)
parsed_told (plain.Datagram now sock from reading) = parsed.Datagram now sock (endpoint_told from) (reading_told reading)
parsed_told (plain.TcpReply now number reading) = parsed.TcpReply now number (read_told reading)
parsed_told (plain.TcpFailed now number) = parsed.TcpFailed now number
parsed_told (plain.Tick now) = parsed.Tick now

link_again : {A : Type 0} (l : Link A) → link_told (link_view l) ≡ l
link_again (link.Found set) = refl
link_again (link.Alias r) = refl
link_again (link.NoData soa) = refl
link_again (link.NxDomain soa) = refl

class_again : {A : Type 0} (c : Class A) → class_told (class_view c) ≡ c
class_again (class.Answer l) = ap class.Answer (link_again l)
class_again (class.Referral r) = refl
class_again class.Truncated = refl
class_again (class.Failed f) = refl

reading_again : {A : Type 0} (r : Reading A) → reading_told (reading_view r) ≡ r
reading_again r = λ i. record { id = r.id; name = r.name; kind = ap kind_told (number_names_type r.kind) i; failed = r.failed; class = class_again r.class i }

read_again : {A : Type 0} (o : Option (Reading A)) → read_told (read_view o) ≡ o
read_again None = refl
read_again (Some r) = ap Some (reading_again r)

asked_again : {A : Type 0} (q : Request A) → asked_told (plain_asked q) ≡ q
asked_again request.Drop = refl
asked_again (request.Refuse refusal start echo) = refl
asked_again (request.Query q) = refl

parsed_again : {A : Type 0} (p : Parsed A) → parsed_told (parsed_view p) ≡ p
parsed_again (parsed.Client now client way request) = ap (parsed.Client now client way) (asked_again request)
parsed_again (parsed.Datagram now sock from reading) = ap (parsed.Datagram now sock from) (reading_again reading)
parsed_again (parsed.TcpReply now number reading) = ap (parsed.TcpReply now number) (read_again reading)
parsed_again (parsed.TcpFailed now number) = refl
parsed_again (parsed.Tick now) = refl

pub seen_alike : {A : Type 0} (p q : Parsed A) → parsed_view p ≡ parsed_view q → p ≡ q
seen_alike p q e = sym (parsed_again p) ∙ (ap parsed_told e ∙ parsed_again q)
