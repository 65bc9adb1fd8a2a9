-- A run in which an alias is followed: a referral leads to its zone's server, which says that the name is an alias, and
-- then the address of its target.
use Rattle.std.proofs.Common.{◌≡◌, ◌+◌, ℕ, inl, inr, true, Some, None, List, [], ◌∷◌, refl, sym, arith}
use Rattle.std.specs.Prelude.{Contains}
use Rattle.rdata.specs.Data.{Ipv4}
use Rattle.rdata.specs.declared.addr.Addr.{Addr}
use Rattle.rdata.specs.declared.rtype.RType.TheVariants.{A}
use Rattle.zone.specs.Links.{Found, Alias}
use Rattle.zone.specs.Look as local
use Rattle.zone.proofs.LawLists.{none_in, first_in, later_in}
use Rattle.message_grammar.specs.Messages.{encoding}
use Rattle.message_grammar.specs.Pieces.{put, put_flat}
use Rattle.wire.specs.declared.via.Via.TheVariants.{Udp}
use Rattle.front.specs.Queries.{IsRequest, one_heard}
use Rattle.front.specs.declared.queries.Request.TheVariants as request
use Rattle.front.specs.declared.queries.Query.{Query}
use Rattle.rand_chacha.specs.ChaCha.{ChaCha, of_seed}
use Rattle.referral.specs.Cuts.{Cut, after_best, after_keep}
use Rattle.referral.proofs.Steps.{cut_is_best}
use Rattle.frames.specs.Frames.{opened}
use Rattle.cache.specs.Cached as cache
use Rattle.resolution.specs.Jobs.{Stores, level_of, Taken, received_link, root_cut, Search, search_at, Job, wait_of_job, Start, Told, AskUdp, Done, asked, Seek, Take, Go, point, cut_from, hit_from}
use Rattle.resolution.specs.Rules.{Misses, asks, follows, Advances, sends, done}
use Rattle.runs.specs.States.{endpoint, Client, Datagram, Action, Reply, Send, OpenQuery, Turn, Plain, ClientQuery, client_query, ByUdp, Ask, Open, open_query, State, job_for, word_taken}
use Rattle.runs.specs.Messages.{IsSent, IsReply, outcome_of}
use Rattle.runs.specs.Steps.{IsUdpAsk, admitted, Step}
use Rattle.runs.specs.Runs.{IsOpenAskOf, Accepts}
use Rattle.world_truth.specs.Sample.{lower_name, alias_name, host_name, server_address, entry}
use Rattle.laws.specs.Headline.{IsHonest}
use Rattle.witness.specs.Stands.{AliasStands}
use Rattle.witness.proofs.AliasTalk.{question, alias, client_message, ask_message, referral_message, alias_message, reply_message, client_bytes, alias_is_name, client_is, client_spelt, ask_is, referral_is, alias_is, reply_is, may_refer, may_lead, brought_here}
use Rattle.witness.proofs.Talk.{found, answer_message, host_is_name, answer_is}
use Rattle.witness.proofs.Place.{world, world_stands, may_answer}
use Rattle.witness.proofs.Steps.{root_server, lower_server, home, site, stores0, cut2}
use Rattle.witness.proofs.Course.{sock_by, id_by, id_fits, ask_by, sending_by, is_sent, state_with, goes, only_one, numbered, brought, at_home, is_new}

-- ---- the work

abbrev query : Query Plain
query = record { start = record { id = 7; opcode = 0; rd = true }; name = alias_name; kind = A; echo = question }

abbrev who : ClientQuery
who = client_query 1 Udp query

is_asked : IsRequest {A = Plain} client_bytes (request.Query query)
is_asked = inr (record { whole = omega arith; query = omega arith; heard = one_heard client_message question alias_name; hears = (client_is, refl, (17, client_spelt)); is = refl })

abbrev job0 : Job
job0 = job_for 0 query

abbrev search1 : Search
search1 = search_at alias_name 1 (opened (level_of stores0) 0 (root_cut home))

abbrev at1 : Job
at1 = record job0 { searches = search1 ∷ [] }

abbrev job1 : Job
job1 = asked at1 search1 []

misses1 : Misses home 0 alias_name 1 stores0 (root_cut home) stores0
misses1 = record {
  name = alias_is_name;
  what = local.NotHere;
  says = (refl, inr (λ z m. absurd (none_in z m), refl));
  miss = refl;
  best = None;
  is_best = λ m j named lives over. let e = lives.0 in absurd (cc);
  begins = refl;
  stores = refl;
}

work1 : Advances home 0 Start job0 stores0 (AskUdp root_server alias_name 1) job1 stores0
work1 = record {
  first = point Seek job0 stores0;
  count = 1;
  last = point Go at1 stores0;
  enters = refl;
  rules = (point Seek job0 stores0, refl, asks (root_cut home) refl misses1 refl refl);
  leaves = sends root_server search1 [] (record { task = refl; searches = refl; next = refl; known = first_in root_server []; free = refl }) (record { early = omega arith; few = omega arith }) refl refl refl;
}

abbrev stores2 : Stores
stores2 = record stores0 { delegations = after_keep 16 (cut_from cut2 300 20) [] }

abbrev search2 : Search
search2 = search_at alias_name 1 (opened (level_of stores0) 0 cut2)

abbrev at2 : Job
at2 = record job1 { searches = search2 ∷ [] }

abbrev job2 : Job
job2 = asked at2 search2 []

work2 : (id : ℕ) → Advances home 20 (Told Udp root_server (referral_message id)) job1 stores0 (AskUdp lower_server alias_name 1) job2 stores2
work2 id = record {
  first = point Go at2 stores2;
  count = 0;
  last = point Go at2 stores2;
  enters = inr (_, [], refl, record { cut = cut2; is_cut = record { owner = refl; names = refl; addresses = refl }; task = refl; job = refl; stored = refl });
  rules = refl;
  leaves = sends lower_server search2 [] (record { task = refl; searches = refl; next = refl; known = first_in lower_server []; free = refl }) (record { early = omega arith; few = omega arith }) refl refl refl;
}

abbrev led : Taken
led = received_link alias_name (Alias alias) 40

abbrev taken3 : Stores
taken3 = record stores2 { cache = cache.after_keep 16 alias_name 1 (hit_from (Alias alias) 40) [] }

abbrev stores3 : Stores
stores3 = record taken3 { delegations = after_best host_name 40 stores2.delegations }

abbrev bare3 : Job
bare3 = record job2 { searches = [] }

abbrev seek3 : Job
seek3 = record bare3 { chain = led ∷ []; name = host_name }

abbrev lower_cut : Cut
lower_cut = (cut_from cut2 300 20).cut

abbrev search3 : Search
search3 = search_at host_name 1 (opened (level_of stores3) 0 lower_cut)

abbrev at3 : Job
at3 = record seek3 { searches = search3 ∷ [] }

abbrev job3 : Job
job3 = asked at3 search3 []

misses3 : Misses home 40 host_name 1 taken3 lower_cut stores3
misses3 = record {
  name = host_is_name;
  what = local.NotHere;
  says = (refl, inr (λ z m. absurd (none_in z m), refl));
  miss = refl;
  best = Some lower_cut;
  is_best = cut_is_best host_name 40 stores2.delegations;
  begins = refl;
  stores = refl;
}

work3 : (id : ℕ) → Advances home 40 (Told Udp lower_server (alias_message id)) job2 stores2 (AskUdp lower_server host_name 1) job3 stores3
work3 id = record {
  first = point (Take led) bare3 taken3;
  count = 2;
  last = point Go at3 stores3;
  enters = inr (_, [], refl, (refl, refl, record { stores = refl }));
  rules = (
    point Seek seek3 taken3,
    (point (Take led) bare3 taken3, refl, follows led alias refl refl (omega arith) refl refl refl),
    asks lower_cut refl misses3 refl refl,
  );
  leaves = sends lower_server search3 [] (record { task = refl; searches = refl; next = refl; known = first_in lower_server []; free = refl }) (record { early = omega arith; few = omega arith }) refl refl refl;
}

abbrev last : Taken
last = received_link host_name (Found found) 60

abbrev stores4 : Stores
stores4 = record stores3 { cache = cache.after_keep 16 host_name 1 (hit_from (Found found) 60) stores3.cache }

abbrev job4 : Job
job4 = record job3 { searches = [] }

work4 : (id : ℕ) → Advances home 60 (Told Udp lower_server (answer_message id)) job3 stores3 (Done (led ∷ []) last) job4 stores4
work4 id = record {
  first = point (Take last) job4 stores4;
  count = 0;
  last = point (Take last) job4 stores4;
  enters = inr (_, [], refl, (refl, refl, record { stores = refl }));
  rules = refl;
  leaves = done last refl tt (refl, (refl, tt)) refl refl;
}

is_reply : IsReply who (outcome_of 60 (led ∷ []) last) (Reply 1 Udp (encoding reply_message) None)
unfolding encoding put put_flat
is_reply = (encoding reply_message, (refl, reply_is), refl)

-- ---- asks for the alias

abbrev asking : ChaCha → Addr → Ask
asking g server = record { path = ByUdp (sock_by g); server = server; id = id_by g; name = alias_name; kind = 1 }

abbrev sending : ChaCha → Addr → Action
sending g server = Send (sock_by g) (endpoint server 53) (encoding (ask_message (id_by g)))

is_sent_here : (g : ChaCha) (server : Addr) → IsSent 53 (asking g server) (sending g server)
is_sent_here g server = (encoding (ask_message (id_by g)), (refl, ask_is (id_by g) (id_fits g)), refl)

goes_here : (g : ChaCha) (clock : ℕ) (stores : Stores) (queries : List Open) (opened_so : ℕ) (server : Addr) → ((q : Open) → Contains queries q → q.number ≡ 0)
    → IsUdpAsk (state_with clock stores queries opened_so g) 0 (asking g server)
goes_here g clock stores queries opened_so server all = record {
  sock = sock_by g;
  sock_is = refl;
  path = refl;
  id = record { steps = 0; is = refl; free = λ used. let (q, m, other, path, to, id) = used in other (all q m); first = λ k less. absurd (omega (arith, less)) };
}

-- ---- the steps

module _ (g : ChaCha) where
  abbrev second_g : ChaCha
  second_g = word_taken g

  abbrev third_g : ChaCha
  third_g = word_taken second_g

  abbrev last_g : ChaCha
  last_g = word_taken third_g

  abbrev open1 : Open
  open1 = open_query 0 who job1 (asking g root_server) (wait_of_job job1)

  abbrev open2 : Open
  open2 = open_query 0 who job2 (asking second_g lower_server) (20 + wait_of_job job2)

  abbrev open3 : Open
  open3 = open_query 0 who job3 (ask_by third_g lower_server) (40 + wait_of_job job3)

  abbrev state0 : State
  state0 = state_with 0 stores0 [] 0 g

  abbrev state1 : State
  state1 = state_with 0 stores0 (open1 ∷ []) 1 second_g

  abbrev state2 : State
  state2 = state_with 20 stores2 (open2 ∷ []) 1 third_g

  abbrev state3 : State
  state3 = state_with 40 stores3 (open3 ∷ []) 1 last_g

  abbrev state4 : State
  state4 = state_with 60 stores4 [] 1 last_g

  abbrev turn1 : Turn
  turn1 = record { event = Client 0 1 Udp client_bytes; served = OpenQuery 0; out = Some (sending g root_server ∷ []) }

  abbrev turn2 : Turn
  turn2 = record {
    event = Datagram 20 (sock_by g) (endpoint root_server 53) (encoding (referral_message (id_by g)));
    served = OpenQuery 0;
    out = Some (sending second_g lower_server ∷ []);
  }

  abbrev turn3 : Turn
  turn3 = record {
    event = Datagram 40 (sock_by second_g) (endpoint lower_server 53) (encoding (alias_message (id_by second_g)));
    served = OpenQuery 0;
    out = Some (sending_by third_g lower_server ∷ []);
  }

  abbrev turn4 : Turn
  turn4 = record {
    event = Datagram 60 (sock_by third_g) (endpoint lower_server 53) (encoding (answer_message (id_by third_g)));
    served = OpenQuery 0;
    out = Some (Reply 1 Udp (encoding reply_message) None ∷ []);
  }

  step1 : Step state0 turn1.event turn1.served turn1.out state1
  step1 = record {
    turn = (
      request.Query query,
      is_asked,
      inr (
        refl,
        record {
          next = AskUdp root_server alias_name 1;
          job = job1;
          stores = stores0;
          advances = work1;
          opened = admitted refl tt (omega arith) (record {
            ask = asking g root_server;
            for = record { server = refl; name = refl; kind = refl };
            goes = goes_here g 0 stores0 [] 0 root_server (λ q m. absurd (none_in q m));
            waits = record {
              action = sending g root_server;
              sent = is_sent_here g root_server;
              out_is = refl;
              queries = record { is = first_in open1 []; stay = λ q m other. absurd (none_in q m); only = λ q m. inl (sym (only_one open1 q m)) };
              state = refl;
            };
          });
        },
      ),
    );
    apart = (λ p m. absurd (none_in p m), tt);
  }

  step2 : Step state1 turn2.event turn2.served turn2.out state2
  step2 = record {
    turn = inr (record {
      query = open1;
      input = Told Udp root_server (referral_message (id_by g));
      served_is = refl;
      brings = (referral_message (id_by g), (refl, refl, referral_is (id_by g) (id_fits g), record { qr = refl; opcode = refl; id = refl; question = refl }), refl);
      serves = record {
        stands = first_in open1 [];
        next = AskUdp lower_server alias_name 1;
        job = job2;
        stores = stores2;
        advances = work2 (id_by g);
        comes = record {
          ask = asking second_g lower_server;
          for = record { server = refl; name = refl; kind = refl };
          goes = goes_here second_g 20 stores0 (open1 ∷ []) 1 lower_server (numbered open1 refl);
          waits = record {
            action = sending second_g lower_server;
            sent = is_sent_here second_g lower_server;
            out_is = refl;
            queries = record { is = first_in open2 []; stay = λ q m other. absurd (other (numbered open1 refl q m)); only = λ q m. inl (sym (only_one open2 q m)) };
            state = refl;
          };
        };
      };
    });
    apart = (λ p m. absurd (none_in p m), tt);
  }

  step3 : Step state2 turn3.event turn3.served turn3.out state3
  step3 = record {
    turn = inr (record {
      query = open2;
      input = Told Udp lower_server (alias_message (id_by second_g));
      served_is = refl;
      brings = (alias_message (id_by second_g), (refl, refl, alias_is (id_by second_g) (id_fits second_g), record { qr = refl; opcode = refl; id = refl; question = refl }), refl);
      serves = record {
        stands = first_in open2 [];
        next = AskUdp lower_server host_name 1;
        job = job3;
        stores = stores3;
        advances = work3 (id_by second_g);
        comes = record {
          ask = ask_by third_g lower_server;
          for = record { server = refl; name = refl; kind = refl };
          goes = goes third_g 40 stores2 (open2 ∷ []) 1 lower_server (numbered open2 refl);
          waits = record {
            action = sending_by third_g lower_server;
            sent = is_sent third_g lower_server;
            out_is = refl;
            queries = record { is = first_in open3 []; stay = λ q m other. absurd (other (numbered open2 refl q m)); only = λ q m. inl (sym (only_one open3 q m)) };
            state = refl;
          };
        };
      };
    });
    apart = (λ p m. absurd (none_in p m), tt);
  }

  step4 : Step state3 turn4.event turn4.served turn4.out state4
  step4 = record {
    turn = inr (record {
      query = open3;
      input = Told Udp lower_server (answer_message (id_by third_g));
      served_is = refl;
      brings = (answer_message (id_by third_g), (refl, refl, answer_is (id_by third_g) (id_fits third_g), record { qr = refl; opcode = refl; id = refl; question = refl }), refl);
      serves = record {
        stands = first_in open3 [];
        next = Done (led ∷ []) last;
        job = job4;
        stores = stores4;
        advances = work4 (id_by third_g);
        comes = record {
          action = Reply 1 Udp (encoding reply_message) None;
          reply = is_reply;
          out_is = refl;
          queries = record { stay = λ q m other. absurd (other (numbered open3 refl q m)); only = λ q m. absurd (none_in q m) };
          state = refl;
        };
      };
    });
    apart = tt;
  }

  abbrev run : List Turn
  run = turn4 ∷ turn3 ∷ turn2 ∷ turn1 ∷ []

  honest : IsHonest world 53 run
  honest = (
    λ k a m accepts. brought (sock_by third_g) lower_server 60 (encoding (answer_message (id_by third_g))) (answer_message (id_by third_g))
        (answer_is (id_by third_g) (id_fits third_g)) refl (may_answer (id_by third_g)) a m accepts.brings,
    (
      λ k a m accepts. brought_here (sock_by second_g) lower_server 40 (encoding (alias_message (id_by second_g))) (alias_message (id_by second_g))
          (alias_is (id_by second_g) (id_fits second_g)) refl (may_lead (id_by second_g)) a m accepts.brings,
      (
        λ k a m accepts. brought_here (sock_by g) root_server 20 (encoding (referral_message (id_by g))) (referral_message (id_by g))
            (referral_is (id_by g) (id_fits g)) refl (may_refer (id_by g)) a m accepts.brings,
        (λ k a m accepts. absurd accepts.brings, tt),
      ),
    ),
  )

  asks2 : IsOpenAskOf 53 0 (asking second_g lower_server) (turn2 ∷ turn1 ∷ [])
  asks2 = inl (refl, (sending second_g lower_server, first_in (sending second_g lower_server) [], is_sent_here second_g lower_server))

  accepted : Accepts 53 0 (asking second_g lower_server) (alias_message (id_by second_g)) turn3 (turn2 ∷ turn1 ∷ [])
  accepted = record {
    served = refl;
    ask = asks2;
    brings = (refl, refl, alias_is (id_by second_g) (id_fits second_g), record { qr = refl; opcode = refl; id = refl; question = refl });
  }

  stands_by : (seed : List ℕ) → g ≡ of_seed seed → AliasStands
  stands_by seed by_seed = (
    world,
    site,
    run,
    state4,
    record {
      world = world_stands;
      home = at_home;
      leads = (state3, (state2, (state1, (state0, is_new g seed by_seed, step1), step2), step3), step4);
      honest = honest;
    },
    record {
      k = 0;
      who = who;
      last = turn4;
      led = turn3;
      past = turn2 ∷ turn1 ∷ [];
      run_is = refl;
      ask = asking second_g lower_server;
      message = alias_message (id_by second_g);
      accepts = accepted;
      zone = lower_name;
      alias = alias;
      leads = refl;
      next = ask_by third_g lower_server;
      action = sending_by third_g lower_server;
      gives = first_in (sending_by third_g lower_server) [];
      sent = is_sent third_g lower_server;
      target = refl;
      kind = refl;
      served = refl;
      bytes = encoding reply_message;
      replied = first_in (Reply 1 Udp (encoding reply_message) None) [];
      reply = reply_message;
      is = reply_is;
      first = first_in alias found;
      second = entry host_name (Ipv4 server_address);
      behind = later_in alias (entry host_name (Ipv4 server_address)) found (first_in (entry host_name (Ipv4 server_address)) []);
      owner = refl;
    },
  )

pub alias_stands : AliasStands
alias_stands = stands_by (of_seed []) [] refl
