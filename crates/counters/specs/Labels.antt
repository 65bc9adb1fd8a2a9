-- What the labels of counters say: by number from the wire, and as the words that are printed.
use Rattle.std.specs.Prelude.{ℕ, cond, nat_eq, nat_le, List, codes}
use Rattle.causes.specs.declared.cause.Cause.{Cause}
use Rattle.causes.specs.declared.cause.Cause.TheVariants as cause
use Rattle.counters.specs.declared.labels.Way.{Way}
use Rattle.counters.specs.declared.labels.Way.TheVariants as way
use Rattle.counters.specs.declared.labels.QueryType.{QueryType}
use Rattle.counters.specs.declared.labels.QueryType.TheVariants as kind
use Rattle.counters.specs.declared.labels.Rcode.{Rcode}
use Rattle.counters.specs.declared.labels.Rcode.TheVariants as rcode
use Rattle.counters.specs.declared.labels.Source.{Source}
use Rattle.counters.specs.declared.labels.Source.TheVariants as source
use Rattle.counters.specs.declared.labels.AskFault.{AskFault}
use Rattle.counters.specs.declared.labels.AskFault.TheVariants as fault
use Rattle.counters.specs.declared.labels.SocketFault.{SocketFault}
use Rattle.counters.specs.declared.labels.SocketFault.TheVariants as socket
use Rattle.counters.specs.declared.labels.Bucket.{Bucket}
use Rattle.counters.specs.declared.labels.Bucket.TheVariants as bucket

abbrev pub way_word : Way → List ℕ
way_word way.Udp = codes "udp"
way_word way.Tcp = codes "tcp"

-- By the number of a type (RFC 1035, section 3.2.2; RFC 3596; RFC 2782; RFC 9460).
abbrev pub type_of : ℕ → QueryType
type_of n =
    cond (nat_eq n 1) kind.A (cond (nat_eq n 2) kind.Ns (cond (nat_eq n 5) kind.Cname (cond (nat_eq n 6) kind.Soa
    (cond (nat_eq n 12) kind.Ptr (cond (nat_eq n 15) kind.Mx (cond (nat_eq n 16) kind.Txt (cond (nat_eq n 28) kind.Aaaa
    (cond (nat_eq n 33) kind.Srv (cond (nat_eq n 65) kind.Https kind.Other)))))))))

abbrev pub type_word : QueryType → List ℕ
type_word kind.A = codes "A"
type_word kind.Ns = codes "NS"
type_word kind.Cname = codes "CNAME"
type_word kind.Soa = codes "SOA"
type_word kind.Ptr = codes "PTR"
type_word kind.Mx = codes "MX"
type_word kind.Txt = codes "TXT"
type_word kind.Aaaa = codes "AAAA"
type_word kind.Srv = codes "SRV"
type_word kind.Https = codes "HTTPS"
type_word kind.Other = codes "other"

-- By the number of an RCODE (RFC 1035, section 4.1.1).
abbrev pub rcode_of : ℕ → Rcode
rcode_of n =
    cond (nat_eq n 0) rcode.NoError (cond (nat_eq n 1) rcode.FormErr (cond (nat_eq n 2) rcode.ServFail
    (cond (nat_eq n 3) rcode.NxDomain (cond (nat_eq n 4) rcode.NotImp (cond (nat_eq n 5) rcode.Refused rcode.Other)))))

abbrev pub rcode_word : Rcode → List ℕ
rcode_word rcode.NoError = codes "NOERROR"
rcode_word rcode.FormErr = codes "FORMERR"
rcode_word rcode.ServFail = codes "SERVFAIL"
rcode_word rcode.NxDomain = codes "NXDOMAIN"
rcode_word rcode.NotImp = codes "NOTIMP"
rcode_word rcode.Refused = codes "REFUSED"
rcode_word rcode.Other = codes "other"

abbrev pub cause_word : Cause → List ℕ
cause_word cause.TooManyOpen = codes "too_many_open"
cause_word cause.DeadlineOver = codes "deadline_over"
cause_word cause.ChainTooLong = codes "chain_too_long"
cause_word cause.TooManyAsks = codes "too_many_asks"
cause_word cause.NoServerLeft = codes "no_server_left"
cause_word cause.ReplyTooLarge = codes "reply_too_large"
cause_word cause.KnownFailure = codes "known_failure"
cause_word cause.TooManyLookUps = codes "too_many_look_ups"

abbrev pub source_word : Source → List ℕ
source_word source.Local = codes "local"
source_word source.Cache = codes "cache"
source_word source.Servers = codes "servers"

abbrev pub fault_word : AskFault → List ℕ
fault_word fault.Barred = codes "barred"
fault_word fault.Descriptors = codes "descriptors"
fault_word fault.Refused = codes "refused"
fault_word fault.Reset = codes "reset"
fault_word fault.Crowded = codes "crowded"
fault_word fault.Silent = codes "silent"

abbrev pub socket_fault_word : SocketFault → List ℕ
socket_fault_word socket.Send = codes "send"
socket_fault_word socket.Receive = codes "receive"
socket_fault_word socket.Accept = codes "accept"
socket_fault_word socket.Descriptors = codes "descriptors"
socket_fault_word socket.Stream = codes "stream"
socket_fault_word socket.Poll = codes "poll"

-- The first bucket that milliseconds are within.
abbrev pub bucket_of : ℕ → Bucket
bucket_of ms =
    cond (nat_le ms 1) bucket.Ms1 (cond (nat_le ms 5) bucket.Ms5 (cond (nat_le ms 10) bucket.Ms10
    (cond (nat_le ms 25) bucket.Ms25 (cond (nat_le ms 50) bucket.Ms50 (cond (nat_le ms 100) bucket.Ms100
    (cond (nat_le ms 250) bucket.Ms250 (cond (nat_le ms 500) bucket.Ms500 (cond (nat_le ms 1000) bucket.Ms1000
    (cond (nat_le ms 2500) bucket.Ms2500 (cond (nat_le ms 5000) bucket.Ms5000 (cond (nat_le ms 10000) bucket.Ms10000
    bucket.Longer)))))))))))

-- Its bound in seconds.
abbrev pub bound_word : Bucket → List ℕ
bound_word bucket.Ms1 = codes "0.001"
bound_word bucket.Ms5 = codes "0.005"
bound_word bucket.Ms10 = codes "0.01"
bound_word bucket.Ms25 = codes "0.025"
bound_word bucket.Ms50 = codes "0.05"
bound_word bucket.Ms100 = codes "0.1"
bound_word bucket.Ms250 = codes "0.25"
bound_word bucket.Ms500 = codes "0.5"
bound_word bucket.Ms1000 = codes "1"
bound_word bucket.Ms2500 = codes "2.5"
bound_word bucket.Ms5000 = codes "5"
bound_word bucket.Ms10000 = codes "10"
bound_word bucket.Longer = codes "+Inf"
