-- The text of the counters, in the exposition format of Prometheus (version 0.0.4).
use Rattle.std.specs.Prelude.{ℕ, ◌+◌, List, [], ◌∷◌, ◌++◌, codes, decimal, slice_index_or}
use Rattle.std.specs.List.{flat_map}
use Rattle.causes.specs.declared.cause.Cause.TheVariants as cause
use Rattle.counters.specs.Counters.{place, series}
use Rattle.counters.specs.declared.counter.Counter.{Counter}
use Rattle.counters.specs.declared.counter.Counter.TheVariants as counter
use Rattle.counters.specs.declared.labels.Way.TheVariants as way
use Rattle.counters.specs.declared.labels.QueryType.TheVariants as kind
use Rattle.counters.specs.declared.labels.Rcode.TheVariants as rcode
use Rattle.counters.specs.declared.labels.Source.TheVariants as source
use Rattle.counters.specs.declared.labels.AskFault.TheVariants as fault
use Rattle.counters.specs.declared.labels.SocketFault.TheVariants as socket
use Rattle.counters.specs.declared.labels.Bucket.{Bucket}
use Rattle.counters.specs.declared.labels.Bucket.TheVariants as bucket
use Rattle.counters.specs.declared.stores.StoreSizes.{StoreSizes}

-- What the cell of a counter holds.
abbrev pub value : List ℕ → Counter → ℕ
value cells c = slice_index_or cells (place c) 0

-- The lines before those of a metric: what it is, in words, and its kind.
abbrev pub head : List ℕ → List ℕ → List ℕ → List ℕ
head name help kind = codes "# HELP " ++ name ++ codes " " ++ help ++ codes "\n# TYPE " ++ name ++ codes " " ++ kind ++ codes "\n"

-- The line of a counter.
abbrev pub counter_line : List ℕ → Counter → List ℕ
counter_line cells c = series c ++ codes " " ++ decimal (value cells c) ++ codes "\n"

-- The lines of a metric of counters.
unfoldable pub metric : List ℕ → List ℕ → List ℕ → List Counter → List ℕ
metric cells name help cs = head name help (codes "counter") ++ flat_map (counter_line cells) cs

-- ---- The times from query to reply. Each bucket has those before it in it.

abbrev pub bucket_line : Bucket → ℕ → List ℕ
bucket_line b n = series (counter.Waited b) ++ codes " " ++ decimal n ++ codes "\n"

abbrev pub bucket_lines : List ℕ → ℕ → List Bucket → List ℕ
bucket_lines cells before [] = []
bucket_lines cells before (b ∷ bs) =
    bucket_line b (before + value cells (counter.Waited b)) ++ bucket_lines cells (before + value cells (counter.Waited b)) bs

-- How many times stand in these buckets.
abbrev pub times_in : List ℕ → List Bucket → ℕ
times_in cells [] = 0
times_in cells (b ∷ bs) = value cells (counter.Waited b) + times_in cells bs

abbrev pub buckets : List Bucket
buckets =
    bucket.Ms1 ∷ bucket.Ms5 ∷ bucket.Ms10 ∷ bucket.Ms25 ∷ bucket.Ms50 ∷ bucket.Ms100 ∷
    bucket.Ms250 ∷ bucket.Ms500 ∷ bucket.Ms1000 ∷ bucket.Ms2500 ∷ bucket.Ms5000 ∷ bucket.Ms10000 ∷ bucket.Longer ∷ []

-- The sum of the times. Milliseconds as seconds: `3e-3` is a number of the format, three thousandths.
abbrev pub sum_line : List ℕ → List ℕ
sum_line cells = series counter.WaitedMillis ++ codes " " ++ decimal (value cells counter.WaitedMillis) ++ codes "e-3\n"

-- The number of the times.
abbrev pub count_line : ℕ → List ℕ
count_line n = codes "resolverd_reply_seconds_count " ++ decimal n ++ codes "\n"

abbrev pub totals : List ℕ → ℕ → List ℕ
totals cells n = sum_line cells ++ count_line n

unfoldable pub times : List ℕ → List ℕ
times cells =
    head (codes "resolverd_reply_seconds") (codes "Seconds from query to reply.") (codes "histogram")
    ++ (bucket_lines cells 0 buckets ++ totals cells (times_in cells buckets))

-- ---- All metrics, in their order.

abbrev pub queries : List Counter
queries =
    counter.Query way.Udp kind.A ∷ counter.Query way.Udp kind.Ns ∷ counter.Query way.Udp kind.Cname ∷
    counter.Query way.Udp kind.Soa ∷ counter.Query way.Udp kind.Ptr ∷ counter.Query way.Udp kind.Mx ∷
    counter.Query way.Udp kind.Txt ∷ counter.Query way.Udp kind.Aaaa ∷ counter.Query way.Udp kind.Srv ∷
    counter.Query way.Udp kind.Https ∷ counter.Query way.Udp kind.Other ∷ counter.Query way.Tcp kind.A ∷
    counter.Query way.Tcp kind.Ns ∷ counter.Query way.Tcp kind.Cname ∷ counter.Query way.Tcp kind.Soa ∷
    counter.Query way.Tcp kind.Ptr ∷ counter.Query way.Tcp kind.Mx ∷ counter.Query way.Tcp kind.Txt ∷
    counter.Query way.Tcp kind.Aaaa ∷ counter.Query way.Tcp kind.Srv ∷ counter.Query way.Tcp kind.Https ∷
    counter.Query way.Tcp kind.Other ∷ []

abbrev pub replies : List Counter
replies =
    counter.Reply rcode.NoError ∷ counter.Reply rcode.FormErr ∷ counter.Reply rcode.ServFail ∷ counter.Reply rcode.NxDomain ∷
    counter.Reply rcode.NotImp ∷ counter.Reply rcode.Refused ∷ counter.Reply rcode.Other ∷ []

abbrev pub truncated : List Counter
truncated =
    counter.Truncated ∷ []

abbrev pub causes : List Counter
causes =
    counter.Failure cause.TooManyOpen ∷ counter.Failure cause.DeadlineOver ∷ counter.Failure cause.ChainTooLong ∷ counter.Failure cause.TooManyAsks ∷
    counter.Failure cause.NoServerLeft ∷ counter.Failure cause.ReplyTooLarge ∷ counter.Failure cause.KnownFailure ∷ counter.Failure cause.TooManyLookUps ∷ []

abbrev pub sources : List Counter
sources =
    counter.Answer source.Local ∷ counter.Answer source.Cache ∷ counter.Answer source.Servers ∷ []

abbrev pub asks : List Counter
asks =
    counter.Ask way.Udp ∷ counter.Ask way.Tcp ∷ []

abbrev pub failed : List Counter
failed =
    counter.FailedAsk way.Udp fault.Barred ∷ counter.FailedAsk way.Udp fault.Descriptors ∷ counter.FailedAsk way.Udp fault.Refused ∷
    counter.FailedAsk way.Udp fault.Reset ∷ counter.FailedAsk way.Udp fault.Crowded ∷ counter.FailedAsk way.Udp fault.Silent ∷
    counter.FailedAsk way.Tcp fault.Barred ∷ counter.FailedAsk way.Tcp fault.Descriptors ∷ counter.FailedAsk way.Tcp fault.Refused ∷
    counter.FailedAsk way.Tcp fault.Reset ∷ counter.FailedAsk way.Tcp fault.Crowded ∷ counter.FailedAsk way.Tcp fault.Silent ∷ []

abbrev pub foreign : List Counter
foreign =
    counter.ForeignDatagram ∷ []

abbrev pub held : List Counter
held =
    counter.HeldQuery ∷ []

abbrev pub dropped : List Counter
dropped =
    counter.DroppedQuery ∷ []

abbrev pub refused : List Counter
refused =
    counter.RefusedMemory ∷ []

abbrev pub socket_faults : List Counter
socket_faults =
    counter.FailedSocket socket.Send ∷ counter.FailedSocket socket.Receive ∷ counter.FailedSocket socket.Accept ∷
    counter.FailedSocket socket.Descriptors ∷ counter.FailedSocket socket.Stream ∷ counter.FailedSocket socket.Poll ∷ []

-- A number that goes up and down.
unfoldable pub gauge : List ℕ → List ℕ → ℕ → List ℕ
gauge name help n = head name help (codes "gauge") ++ (name ++ codes " " ++ decimal n ++ codes "\n")

-- What replies came of: a SERVFAIL of its cause, an answer of where its records were found.
unfoldable pub origin_metrics : List ℕ → List ℕ
origin_metrics cells =
    metric cells (codes "resolverd_failures_total") (codes "Replies of SERVFAIL, by the cause.") causes
    ++ metric cells (codes "resolverd_answers_total") (codes "Replies of NOERROR and NXDOMAIN, by what they were made of.") sources

-- Queries, and their replies.
unfoldable pub client_metrics : List ℕ → List ℕ
client_metrics cells =
    metric cells (codes "resolverd_queries_total") (codes "Queries that came, by the way and the type.") queries
    ++ (metric cells (codes "resolverd_replies_total") (codes "Replies that went to clients, by the RCODE.") replies
    ++ (metric cells (codes "resolverd_truncated_replies_total") (codes "Replies that were cut to fit into a datagram.") truncated
    ++ origin_metrics cells))

-- Asks to other servers.
unfoldable pub ask_metrics : List ℕ → List ℕ
ask_metrics cells =
    metric cells (codes "resolverd_asks_total") (codes "Asks to other servers, by the way.") asks
    ++ (metric cells (codes "resolverd_failed_asks_total") (codes "Asks without a reply, by the way and the reason.") failed
    ++ metric cells (codes "resolverd_foreign_datagrams_total") (codes "Datagrams to an open ask that did not repeat it.") foreign)

-- What was held or dropped, and what failed.
unfoldable pub loss_metrics : List ℕ → List ℕ
loss_metrics cells =
    metric cells (codes "resolverd_held_queries_total") (codes "Queries that waited for an equal one.") held
    ++ (metric cells (codes "resolverd_dropped_queries_total") (codes "Queries that were dropped before the resolver.") dropped
    ++ (metric cells (codes "resolverd_refused_memory_total") (codes "Growths that were refused for want of memory.") refused
    ++ metric cells (codes "resolverd_socket_faults_total") (codes "Sockets that failed, by what failed.") socket_faults))

-- The entries of each store.
abbrev pub store_line : List ℕ → ℕ → List ℕ
store_line store n = codes "resolverd_store_entries{store=\"" ++ store ++ codes "\"} " ++ decimal n ++ codes "\n"

unfoldable pub store_sizes : StoreSizes → List ℕ
store_sizes s =
    head (codes "resolverd_store_entries") (codes "Entries of each store, expired ones among them.") (codes "gauge")
    ++ (store_line (codes "cache") s.cache ++ (store_line (codes "delegations") s.delegations
    ++ (store_line (codes "penalties") s.penalties ++ store_line (codes "failures") s.failures)))

-- The counters' cells, how many queries wait for other servers, and the entries of each store.
unfoldable pub exposition : List ℕ → ℕ → StoreSizes → List ℕ
exposition cells waiting stores =
    client_metrics cells ++ (ask_metrics cells ++ (loss_metrics cells
    ++ (times cells ++ (gauge (codes "resolverd_open_queries") (codes "Queries that wait for other servers.") waiting
    ++ store_sizes stores))))
