-- Limits, each stated once.
use Rattle.std.specs.Prelude.{ℕ}

-- The most CNAME records that an answer follows.
abbrev pub max_aliases : ℕ
max_aliases = 8

-- The most asks for a query, over UDP and TCP together.
abbrev pub max_asks : ℕ
max_asks = 40

-- The most turns of servers' names that a query takes to look their addresses up.
abbrev pub max_look_ups : ℕ
max_look_ups = 64

-- The most queries that are open at once.
abbrev pub max_open : ℕ
max_open = 1024

-- How deep the search for a server's address may stand in another one.
abbrev pub max_nesting : ℕ
max_nesting = 3

-- The most names, and the most addresses, that are taken from a delegation.
abbrev pub max_servers : ℕ
max_servers = 16

-- The most NS records that are read of a referral, and the most addresses that are taken of its glue.
abbrev pub max_referral_servers : ℕ
max_referral_servers = 64

abbrev pub max_glue : ℕ
max_glue = 256

-- The most entries of a store.
abbrev pub max_entries : ℕ
max_entries = 1000000

-- The most sockets from which servers are asked.
abbrev pub max_sockets : ℕ
max_sockets = 16

-- The most threads that ask servers over TCP.
abbrev pub max_workers : ℕ
max_workers = 16

-- How long a query has, and how long a reply over TCP is waited for, in milliseconds.
abbrev pub query_lifetime : ℕ
query_lifetime = 10000

abbrev pub tcp_wait : ℕ
tcp_wait = 3000

-- A week, and three hours, in seconds (RFC 2181, section 8; RFC 2308, section 5).
abbrev pub max_ttl : ℕ
max_ttl = 604800

abbrev pub max_negative_ttl : ℕ
max_negative_ttl = 10800

-- How long a server's failure is remembered, in seconds (RFC 2308, section 7.1).
abbrev pub failure_lifetime : ℕ
failure_lifetime = 30

-- Moments above 2^62 milliseconds count as 2^62.
abbrev pub latest_moment : ℕ
latest_moment = 4611686018427387904
