-- The counters: what each counts, its place, and its name with its labels (https://prometheus.io/docs/practices/naming).
use Rattle.std.specs.Prelude.{ℕ, ◌+◌, ◌*◌, List, ◌++◌, codes}
use Rattle.causes.specs.Causes.{cause_number}
use Rattle.counters.specs.declared.counter.Counter.{Counter}
use Rattle.counters.specs.declared.counter.Counter.TheVariants.{Query, Reply, Truncated, Failure, Answer, Ask, FailedAsk, ForeignDatagram, HeldQuery, DroppedQuery, RefusedMemory, FailedSocket, Waited, WaitedMillis}
use Rattle.counters.specs.Labels.{way_word, type_word, rcode_word, cause_word, source_word, fault_word, socket_fault_word, bound_word}
use Rattle.counters.specs.declared.labels.Way.{Way}
use Rattle.counters.specs.declared.labels.Way.TheVariants as way
use Rattle.counters.specs.declared.labels.QueryType.{QueryType}
use Rattle.counters.specs.declared.labels.QueryType.TheVariants as kind
use Rattle.counters.specs.declared.labels.Rcode.{Rcode}
use Rattle.counters.specs.declared.labels.Rcode.TheVariants as rcode
use Rattle.counters.specs.declared.labels.Source.{Source}
use Rattle.counters.specs.declared.labels.Source.TheVariants as source
use Rattle.counters.specs.declared.labels.AskFault.{AskFault}
use Rattle.counters.specs.declared.labels.AskFault.TheVariants as fault
use Rattle.counters.specs.declared.labels.SocketFault.{SocketFault}
use Rattle.counters.specs.declared.labels.SocketFault.TheVariants as socket
use Rattle.counters.specs.declared.labels.Bucket.{Bucket}
use Rattle.counters.specs.declared.labels.Bucket.TheVariants as bucket

-- ---- Places: each label has one among its kind.

abbrev pub way_place : Way → ℕ
way_place way.Udp = 0
way_place way.Tcp = 1

abbrev pub type_place : QueryType → ℕ
type_place kind.A = 0
type_place kind.Ns = 1
type_place kind.Cname = 2
type_place kind.Soa = 3
type_place kind.Ptr = 4
type_place kind.Mx = 5
type_place kind.Txt = 6
type_place kind.Aaaa = 7
type_place kind.Srv = 8
type_place kind.Https = 9
type_place kind.Other = 10

abbrev pub rcode_place : Rcode → ℕ
rcode_place rcode.NoError = 0
rcode_place rcode.FormErr = 1
rcode_place rcode.ServFail = 2
rcode_place rcode.NxDomain = 3
rcode_place rcode.NotImp = 4
rcode_place rcode.Refused = 5
rcode_place rcode.Other = 6

abbrev pub source_place : Source → ℕ
source_place source.Local = 0
source_place source.Cache = 1
source_place source.Servers = 2

abbrev pub fault_place : AskFault → ℕ
fault_place fault.Barred = 0
fault_place fault.Descriptors = 1
fault_place fault.Refused = 2
fault_place fault.Reset = 3
fault_place fault.Crowded = 4
fault_place fault.Silent = 5

abbrev pub socket_fault_place : SocketFault → ℕ
socket_fault_place socket.Send = 0
socket_fault_place socket.Receive = 1
socket_fault_place socket.Accept = 2
socket_fault_place socket.Descriptors = 3
socket_fault_place socket.Stream = 4
socket_fault_place socket.Poll = 5

abbrev pub bucket_place : Bucket → ℕ
bucket_place bucket.Ms1 = 0
bucket_place bucket.Ms5 = 1
bucket_place bucket.Ms10 = 2
bucket_place bucket.Ms25 = 3
bucket_place bucket.Ms50 = 4
bucket_place bucket.Ms100 = 5
bucket_place bucket.Ms250 = 6
bucket_place bucket.Ms500 = 7
bucket_place bucket.Ms1000 = 8
bucket_place bucket.Ms2500 = 9
bucket_place bucket.Ms5000 = 10
bucket_place bucket.Ms10000 = 11
bucket_place bucket.Longer = 12

-- How many counters there are.
abbrev pub counters : ℕ
counters = 79

-- The place of a counter: no two have the same (`places_law`).
abbrev pub place : Counter → ℕ
place (Query w t) = 11 * way_place w + type_place t
place (Reply r) = 22 + rcode_place r
place Truncated = 29
place (Failure c) = 29 + cause_number c
place (Answer s) = 38 + source_place s
place (Ask w) = 41 + way_place w
place (FailedAsk w f) = 43 + (6 * way_place w + fault_place f)
place ForeignDatagram = 55
place HeldQuery = 56
place DroppedQuery = 57
place RefusedMemory = 58
place (FailedSocket f) = 59 + socket_fault_place f
place (Waited b) = 65 + bucket_place b
place WaitedMillis = 78

-- ---- Names and labels.

abbrev pub series : Counter → List ℕ
series (Query w t) = codes "resolverd_queries_total{way=\"" ++ way_word w ++ codes "\",type=\"" ++ type_word t ++ codes "\"}"
series (Reply r) = codes "resolverd_replies_total{rcode=\"" ++ rcode_word r ++ codes "\"}"
series Truncated = codes "resolverd_truncated_replies_total"
series (Failure c) = codes "resolverd_failures_total{cause=\"" ++ cause_word c ++ codes "\"}"
series (Answer s) = codes "resolverd_answers_total{source=\"" ++ source_word s ++ codes "\"}"
series (Ask w) = codes "resolverd_asks_total{way=\"" ++ way_word w ++ codes "\"}"
series (FailedAsk w f) = codes "resolverd_failed_asks_total{way=\"" ++ way_word w ++ codes "\",reason=\"" ++ fault_word f ++ codes "\"}"
series ForeignDatagram = codes "resolverd_foreign_datagrams_total"
series HeldQuery = codes "resolverd_held_queries_total"
series DroppedQuery = codes "resolverd_dropped_queries_total"
series RefusedMemory = codes "resolverd_refused_memory_total"
series (FailedSocket f) = codes "resolverd_socket_faults_total{kind=\"" ++ socket_fault_word f ++ codes "\"}"
series (Waited b) = codes "resolverd_reply_seconds_bucket{le=\"" ++ bound_word b ++ codes "\"}"
series WaitedMillis = codes "resolverd_reply_seconds_sum"
