-- The code's classes, seen as the plain values of their definition.
use Rattle.std.specs.Prelude.{ℕ, Option, Some, None}
use Rattle.rdata.specs.Types.{type_number}
use Rattle.zone.specs.Views.{link_view}
use Rattle.classify.specs.Classes as plain
use Rattle.classify.specs.Read.{Reading as ReadingSpec}
use Rattle.classify.specs.declared.class.Failure.{Failure}
use Rattle.classify.specs.declared.class.Failure.TheVariants as failure
use Rattle.classify.specs.declared.class.Class.{Class}
use Rattle.classify.specs.declared.class.Class.TheVariants as class
use Rattle.classify.specs.declared.reading.Reading.{Reading}

abbrev pub failure_number : Failure → ℕ
failure_number failure.BadCode = 1
failure_number failure.NoAuthority = 2
failure_number failure.Empty = 3
failure_number failure.Foreign = 4
failure_number failure.TruncatedOverTcp = 5

abbrev pub class_view : {A : Type 0} → Class A → plain.Class
class_view (class.Answer l) = plain.Answer (link_view l)
class_view (class.Referral r) = plain.Referral r.owner r.servers r.addresses r.ttl
class_view class.Truncated = plain.Truncated
class_view (class.Failed f) = plain.Failed f

abbrev pub reading_view : {A : Type 0} → Reading A → ReadingSpec
reading_view r = record { id = r.id; name = r.name; kind = type_number r.kind; failed = r.failed; class = class_view r.class }

abbrev pub read_view : {A : Type 0} → Option (Reading A) → Option ReadingSpec
read_view None = None
read_view (Some r) = Some (reading_view r)
