-- What a server's file says that is taken and may not be meant, and what it makes.
use Rattle.std.specs.Prelude.{ℕ, Bool, false, cond, is_some, Option, Some, None, length, nat_eq, not, nat_lt, List, [], ◌∷◌, ◌++◌, codes, decimal}
use Rattle.limits.specs.Limits.{max_servers, max_sockets}
use Rattle.rdata.specs.Text.{ipv4_text}
use Rattle.config.specs.Configs.{Config, End}

-- An address in 127.0.0.0/8, which no other machine reaches.
abbrev pub is_loopback : List ℕ → Bool
is_loopback [] = false
is_loopback (first ∷ rest) = nat_eq first 127

-- A line, where something holds.
abbrev pub note : Bool → List ℕ → List ℕ
note holds line = cond holds line []

abbrev pub strangers_line : List ℕ → List ℕ
strangers_line address = codes "note: listen " ++ ipv4_text address ++ codes ": it answers whoever reaches this address: a packet filter has to say who may\n"

abbrev pub open_text : End → List ℕ
open_text e = note (not (is_loopback e.address)) (strangers_line e.address)

abbrev pub hints_text : ℕ → List ℕ
hints_text n =
    note (nat_eq n 0) (codes "note: no hint: a recursive query for a name outside of the local zones ends as SERVFAIL\n")
    ++ note (nat_lt max_servers n) (codes "note: more than 16 hints: those behind the sixteenth are not used\n")

abbrev pub listen_text : End → List ℕ
listen_text e = open_text e ++ note (nat_eq e.port 0) (codes "note: port 0: it listens at any port that is free, another one after each start\n")

abbrev pub readers_line : List ℕ → List ℕ
readers_line address = codes "note: metrics " ++ ipv4_text address ++ codes ": whoever reaches this address reads the counters\n"

-- Where the counters are served, if they are.
abbrev pub metrics_text : Option End → List ℕ
metrics_text None = []
metrics_text (Some e) = note (not (is_loopback e.address)) (readers_line e.address)

abbrev pub sockets_text : ℕ → List ℕ
sockets_text n = note (nat_lt n max_sockets) (codes "note: sockets: 16 is usual; with fewer, each ask draws its number and its ID from fewer pairs\n")

abbrev pub seed_line : List ℕ
seed_line = codes "note: seed: for tests alone: whoever knows it foretells each ID\n"

abbrev pub notes_text : Config → List ℕ
notes_text c = hints_text (length c.hints) ++ listen_text c.listen ++ metrics_text c.metrics ++ sockets_text c.sockets ++ note (is_some c.seed) seed_line

abbrev pub total_text : ℕ → ℕ → ℕ → List ℕ
total_text zones records hints = codes "ok " ++ decimal zones ++ codes " zones " ++ decimal records ++ codes " records " ++ decimal hints ++ codes " hints\n"
