-- The run: a client's query comes and the root's server is asked; its referral is followed; the answer of the
-- lower zone's server goes to the client. IDs and sockets are whatever the generator gives.
use Rattle.std.proofs.Common.{ℕ, inr, None, true, [], ◌∷◌, refl, arith}
use Rattle.rdata.specs.declared.addr.Addr.{Addr}
use Rattle.rdata.specs.declared.rtype.RType.TheVariants.{A}
use Rattle.zone.specs.Links.{Found}
use Rattle.zone.specs.Look as local
use Rattle.zone.proofs.LawLists.{none_in, first_in}
use Rattle.message_grammar.specs.Messages.{encoding}
use Rattle.message_grammar.specs.Pieces.{put, put_flat}
use Rattle.wire.specs.declared.via.Via.TheVariants.{Udp}
use Rattle.front.specs.Queries.{IsRequest, one_heard}
use Rattle.front.specs.declared.queries.Request.TheVariants as request
use Rattle.front.specs.declared.queries.Query.{Query}
use Rattle.referral.specs.Cuts.{Cut, after_keep}
use Rattle.frames.specs.Frames.{opened}
use Rattle.resolution.specs.Jobs.{Home, Stores, level_of, Taken, received_link, root_cut, Search, search_at, Job, Start, Told, AskUdp, Done, asked, Seek, Take, Go, point, cut_from, hit_from}
use Rattle.resolution.specs.Rules.{Misses, asks, Advances, sends, done}
use Rattle.cache.specs.Cached as cache
use Rattle.runs.specs.States.{Reply, Plain, ClientQuery, client_query, job_for, Site}
use Rattle.runs.specs.Messages.{IsReply, outcome_of}
use Rattle.world_truth.specs.Sample.{server_name, lower_name, host_name, server_address}
use Rattle.witness.proofs.Talk.{question, found, client_message, referral_message, answer_message, reply_message, client_bytes, client_is, client_spelt, reply_is, host_is_name}
use Rattle.witness.proofs.Place.{root_address}

abbrev pub root_server : Addr
root_server = record { 0 = root_address }

abbrev pub lower_server : Addr
lower_server = record { 0 = server_address }

abbrev pub home : Home
home = record { zones = []; hints = root_server ∷ [] }

abbrev pub site : Site
site = record { home = home; port = 53; sockets = 4 }

abbrev pub query : Query Plain
query = record { start = record { id = 7; opcode = 0; rd = true }; name = host_name; kind = A; echo = question }

abbrev pub who : ClientQuery
who = client_query 1 Udp query

pub is_asked : IsRequest {A = Plain} client_bytes (request.Query query)
is_asked = inr (record { whole = omega arith; query = omega arith; heard = one_heard client_message question host_name; hears = (client_is, refl, (17, client_spelt)); is = refl })

-- ---- its work

abbrev pub stores0 : Stores
stores0 = record { cache = []; cache_cap = 16; delegations = []; delegations_cap = 16; penalties = []; penalties_cap = 16; failures = []; failures_cap = 16 }

abbrev pub job0 : Job
job0 = job_for 0 query

abbrev pub search1 : Search
search1 = search_at host_name 1 (opened (level_of stores0) 0 (root_cut home))

abbrev pub at1 : Job
at1 = record job0 { searches = search1 ∷ [] }

abbrev pub job1 : Job
job1 = asked at1 search1 []

misses : Misses home 0 host_name 1 stores0 (root_cut home) stores0
misses = record {
  name = host_is_name;
  what = local.NotHere;
  says = (refl, inr (λ z m. absurd (none_in z m), refl));
  miss = refl;
  best = None;
  is_best = λ m j named lives over. let e = lives.0 in absurd (cc);
  begins = refl;
  stores = refl;
}

pub work1 : Advances home 0 Start job0 stores0 (AskUdp root_server host_name 1) job1 stores0
work1 = record {
  first = point Seek job0 stores0;
  count = 1;
  last = point Go at1 stores0;
  enters = refl;
  rules = (point Seek job0 stores0, refl, asks (root_cut home) refl misses refl refl);
  leaves = sends root_server search1 [] (record { task = refl; searches = refl; next = refl; known = first_in root_server []; free = refl }) (record { early = omega arith; few = omega arith }) refl refl refl;
}

abbrev pub cut2 : Cut
cut2 = record { owner = lower_name; names = server_name ∷ []; addresses = record { name = server_name; address = lower_server } ∷ [] }

abbrev pub stores2 : Stores
stores2 = record stores0 { delegations = after_keep 16 (cut_from cut2 300 20) [] }

abbrev pub search2 : Search
search2 = search_at host_name 1 (opened (level_of stores0) 0 cut2)

abbrev pub at2 : Job
at2 = record job1 { searches = search2 ∷ [] }

abbrev pub job2 : Job
job2 = asked at2 search2 []

pub work2 : (id : ℕ) → Advances home 20 (Told Udp root_server (referral_message id)) job1 stores0 (AskUdp lower_server host_name 1) job2 stores2
work2 id = record {
  first = point Go at2 stores2;
  count = 0;
  last = point Go at2 stores2;
  enters = inr (_, [], refl, record { cut = cut2; is_cut = record { owner = refl; names = refl; addresses = refl }; task = refl; job = refl; stored = refl });
  rules = refl;
  leaves = sends lower_server search2 [] (record { task = refl; searches = refl; next = refl; known = first_in lower_server []; free = refl }) (record { early = omega arith; few = omega arith }) refl refl refl;
}

abbrev pub last : Taken
last = received_link host_name (Found found) 40

abbrev pub stores3 : Stores
stores3 = record stores2 { cache = cache.after_keep 16 host_name 1 (hit_from (Found found) 40) [] }

abbrev pub job3 : Job
job3 = record job2 { searches = [] }

unfoldable pub work3 : (id : ℕ) → Advances home 40 (Told Udp lower_server (answer_message id)) job2 stores2 (Done [] last) job3 stores3
work3 id = record {
  first = point (Take last) job3 stores3;
  count = 0;
  last = point (Take last) job3 stores3;
  enters = inr (_, [], refl, (refl, refl, record { stores = refl }));
  rules = refl;
  leaves = done last refl tt (refl, tt) refl refl;
}

pub is_reply : IsReply who (outcome_of 40 [] last) (Reply 1 Udp (encoding reply_message) None)
unfolding encoding put put_flat
is_reply = (encoding reply_message, (refl, reply_is), refl)
