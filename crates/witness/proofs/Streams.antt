-- The run in which the answer is truncated at first, and comes over TCP.
use Rattle.std.proofs.Common.{◌≡◌, ℕ, ◌<◌, inl, inr, Some, None, List, [], ◌∷◌, refl, sym, subst, arith}
use Rattle.rdata.specs.Data.{Ipv4}
use Rattle.zone.specs.Links.{Found}
use Rattle.zone.proofs.LawLists.{none_in, first_in}
use Rattle.message_grammar.specs.Messages.{Message, encoding}
use Rattle.message_grammar.proofs.Single.{message_one}
use Rattle.message_grammar.specs.Pieces.{put, put_flat}
use Rattle.wire.specs.declared.via.Via.TheVariants.{Udp, Tcp}
use Rattle.rand_chacha.specs.ChaCha.{ChaCha, of_seed}
use Rattle.cache.specs.Cached as cache
use Rattle.resolution.specs.Jobs.{Stores, with_told, Taken, received_link, Search, given, Job, asked_again, Told, AskTcp, Done, Take, Again, point, hit_from}
use Rattle.resolution.specs.Rules.{Advances, sends_again, done}
use Rattle.runs.specs.States.{endpoint, Datagram, TcpReply, Action, Reply, TcpAsk, OpenQuery, Turn, ByTcp, Ask, Open, open_query, State, word_of, word_taken, low_half}
use Rattle.runs.specs.Messages.{IsSent, IsReply, outcome_of}
use Rattle.runs.specs.Steps.{Step}
use Rattle.runs.specs.Runs.{IsOpenAskOf, Accepts}
use Rattle.world_truth.specs.Serving.{MayServe}
use Rattle.laws.proofs.OrderlySent.{one_sent}
use Rattle.laws.specs.Headline.{IsHonest}
use Rattle.world_truth.specs.Sample.{host_name, server_address, entry}
use Rattle.witness.specs.Stands.{RepliesWithRecord, StreamStands}
use Rattle.witness.proofs.Talk.{found, ask_message, answer_message, cut_message, referral_message, reply_message, ask_is, answer_is, cut_is, referral_is, reply_is}
use Rattle.witness.proofs.Place.{world, world_stands, may_refer, may_answer, may_cut}
use Rattle.witness.proofs.Steps.{root_server, lower_server, home, site, who, stores2, search2, job2}
use Rattle.witness.proofs.Course.{sock_by, id_by, id_fits, ask_by, sending_by, is_sent, state_with, only_one, numbered, brought, at_home, next_g, last_g, open2, state0, state1, state2, turn1, turn2, step1, step2, is_new}

-- ---- the work

abbrev search_asked : Search
search_asked = given search2

abbrev stores_cut : Stores
stores_cut = with_told 40 search_asked lower_server (cut_message 0) stores2

abbrev job_cut : Job
job_cut = asked_again job2

work_cut : (id : ℕ) → Advances home 40 (Told Udp lower_server (cut_message id)) job2 stores2 (AskTcp lower_server host_name 1) job_cut stores_cut
work_cut id = record {
  first = point (Again lower_server) job2 stores_cut;
  count = 0;
  last = point (Again lower_server) job2 stores_cut;
  enters = inr (search_asked, [], refl, refl);
  rules = refl;
  leaves = sends_again lower_server search_asked [] (record { task = refl; searches = refl }) (record { early = omega arith; few = omega arith }) refl refl refl;
}

abbrev end : Taken
end = received_link host_name (Found found) 60

abbrev stores_end : Stores
stores_end = record stores_cut { cache = cache.after_keep 16 host_name 1 (hit_from (Found found) 60) [] }

abbrev job_end : Job
job_end = record job_cut { searches = [] }

work_end : (id : ℕ) → Advances home 60 (Told Tcp lower_server (answer_message id)) job_cut stores_cut (Done [] end) job_end stores_end
work_end id = record {
  first = point (Take end) job_end stores_end;
  count = 0;
  last = point (Take end) job_end stores_end;
  enters = inr (search_asked, [], refl, (refl, refl, record { stores = refl }));
  rules = refl;
  leaves = done end refl tt (refl, tt) refl refl;
}

is_reply : IsReply who (outcome_of 60 [] end) (Reply 1 Udp (encoding reply_message) None)
unfolding encoding put put_flat
is_reply = (encoding reply_message, (refl, reply_is), refl)

-- ---- the ask

abbrev tcp_id : ChaCha → ℕ
tcp_id g = low_half (word_of g)

tcp_fits : (g : ChaCha) → tcp_id g < 65536
tcp_fits g = omega arith

abbrev tcp_ask : ChaCha → Ask
tcp_ask g = record { path = ByTcp 0; server = lower_server; id = tcp_id g; name = host_name; kind = 1 }

abbrev sending_tcp : ChaCha → Action
sending_tcp g = TcpAsk 0 (endpoint lower_server 53) (encoding (ask_message (tcp_id g)))

tcp_sent : (g : ChaCha) → IsSent 53 (tcp_ask g) (sending_tcp g)
tcp_sent g = (encoding (ask_message (tcp_id g)), (refl, ask_is (tcp_id g) (tcp_fits g)), refl)

-- ---- the steps

module _ (g : ChaCha) where
  abbrev open_cut : Open
  open_cut = open_query 0 who job_cut (tcp_ask (last_g g)) 3040

  abbrev state_cut : State
  state_cut = record (state_with 40 stores_cut (open_cut ∷ []) 1 (word_taken (last_g g))) { tcp_asks = 1 }

  abbrev state_end : State
  state_end = record (state_with 60 stores_end [] 1 (word_taken (last_g g))) { tcp_asks = 1 }

  abbrev turn_cut : Turn
  turn_cut = record {
    event = Datagram 40 (sock_by (next_g g)) (endpoint lower_server 53) (encoding (cut_message (id_by (next_g g))));
    served = OpenQuery 0;
    out = Some (sending_tcp (last_g g) ∷ []);
  }

  abbrev turn_end : Turn
  turn_end = record {
    event = TcpReply 60 0 (encoding (answer_message (tcp_id (last_g g))));
    served = OpenQuery 0;
    out = Some (Reply 1 Udp (encoding reply_message) None ∷ []);
  }

  step_cut : Step (state2 g) turn_cut.event turn_cut.served turn_cut.out state_cut
  step_cut = record {
    turn = inr (record {
      query = open2 g;
      input = Told Udp lower_server (cut_message (id_by (next_g g)));
      served_is = refl;
      brings = (cut_message (id_by (next_g g)), (refl, refl, cut_is (id_by (next_g g)) (id_fits (next_g g)), record { qr = refl; opcode = refl; id = refl; question = refl }), refl);
      serves = record {
        stands = first_in (open2 g) [];
        next = AskTcp lower_server host_name 1;
        job = job_cut;
        stores = stores_cut;
        advances = work_cut (id_by (next_g g));
        comes = record {
          ask = tcp_ask (last_g g);
          for = record { server = refl; name = refl; kind = refl };
          goes = record { path = refl; id = refl };
          waits = record {
            action = sending_tcp (last_g g);
            sent = tcp_sent (last_g g);
            out_is = refl;
            queries = record {
              is = first_in open_cut [];
              stay = λ q m other. absurd (other (numbered (open2 g) refl q m));
              only = λ q m. inl (sym (only_one open_cut q m));
            };
            state = refl;
          };
        };
      };
    });
    apart = (λ p m. absurd (none_in p m), tt);
  }

  step_end : Step state_cut turn_end.event turn_end.served turn_end.out state_end
  step_end = record {
    turn = inr (record {
      query = open_cut;
      input = Told Tcp lower_server (answer_message (tcp_id (last_g g)));
      served_is = refl;
      brings = inl (answer_message (tcp_id (last_g g)), (refl, answer_is (tcp_id (last_g g)) (tcp_fits (last_g g)), record { qr = refl; opcode = refl; id = refl; question = refl }), refl);
      serves = record {
        stands = first_in open_cut [];
        next = Done [] end;
        job = job_end;
        stores = stores_end;
        advances = work_end (tcp_id (last_g g));
        comes = record {
          action = Reply 1 Udp (encoding reply_message) None;
          reply = is_reply;
          out_is = refl;
          queries = record { stay = λ q m other. absurd (other (numbered open_cut refl q m)); only = λ q m. absurd (none_in q m) };
          state = refl;
        };
      };
    });
    apart = tt;
  }

  abbrev past : List Turn
  past = turn2 g ∷ turn1 g ∷ []

  asks2 : IsOpenAskOf 53 0 (ask_by (next_g g) lower_server) past
  asks2 = inl (refl, (sending_by (next_g g) lower_server, first_in (sending_by (next_g g) lower_server) [], is_sent (next_g g) lower_server))

  -- What comes over TCP is for that ask alone.
  over_tcp : (k : ℕ) (a : Ask) (m : Message) → Accepts 53 k a m turn_end (turn_cut ∷ past) → MayServe world (a.server).0 a.name a.kind m
  over_tcp k a m accepts = by accepts.ask
    where
      said : answer_message (tcp_id (last_g g)) ≡ m
      said = message_one (encoding (answer_message (tcp_id (last_g g)))) (answer_message (tcp_id (last_g g))) m (answer_is (tcp_id (last_g g)) (tcp_fits (last_g g))) (accepts.brings).1

      by : IsOpenAskOf 53 k a (turn_cut ∷ past) → MayServe world (a.server).0 a.name a.kind m
      by (inl (served, (action, gives, sent))) =
          let is : sending_tcp (last_g g) ≡ action = only_one (sending_tcp (last_g g)) action gives in
          let same : tcp_ask (last_g g) ≡ a = sym (one_sent 53 a (tcp_ask (last_g g)) action sent (subst (IsSent 53 (tcp_ask (last_g g))) is (tcp_sent (last_g g)))) in
          subst (λ (x : Ask). MayServe world (x.server).0 x.name x.kind m) same
          (subst (λ (n : Message). MayServe world server_address host_name 1 n) said (may_answer (tcp_id (last_g g))))
      by (inr (other, inl (served, sent))) = absurd (other served)
      by (inr (other, inr (more, inl (served, sent)))) = absurd (other served)
      by (inr (other, inr (more, inr (rest, none)))) = absurd none

  honest : IsHonest world 53 (turn_end ∷ turn_cut ∷ past)
  honest = (
    over_tcp,
    (
      λ k a m accepts. brought (sock_by (next_g g)) lower_server 40 (encoding (cut_message (id_by (next_g g)))) (cut_message (id_by (next_g g)))
          (cut_is (id_by (next_g g)) (id_fits (next_g g))) refl (may_cut (id_by (next_g g))) a m accepts.brings,
      (
        λ k a m accepts. brought (sock_by g) root_server 20 (encoding (referral_message (id_by g))) (referral_message (id_by g))
            (referral_is (id_by g) (id_fits g)) refl (may_refer (id_by g)) a m accepts.brings,
        (λ k a m accepts. absurd accepts.brings, tt),
      ),
    ),
  )

  answered : RepliesWithRecord 0 who turn_end (turn_cut ∷ past)
  answered = record {
    served = refl;
    bytes = encoding reply_message;
    gives = first_in (Reply 1 Udp (encoding reply_message) None) [];
    message = reply_message;
    is = reply_is;
    rcode = refl;
    first = entry host_name (Ipv4 server_address);
    answer = first_in (entry host_name (Ipv4 server_address)) [];
  }

  stream_by : (seed : List ℕ) → g ≡ of_seed seed → StreamStands
  stream_by seed by_seed = (
    world,
    site,
    turn_end ∷ turn_cut ∷ past,
    state_end,
    record {
      world = world_stands;
      home = at_home;
      leads = (state_cut, (state2 g, (state1 g, (state0 g, is_new g seed by_seed, step1 g), step2 g), step_cut), step_end);
      honest = honest;
    },
    record {
      k = 0;
      who = who;
      last = turn_end;
      cut = turn_cut;
      past = past;
      run_is = refl;
      ask = ask_by (next_g g) lower_server;
      message = cut_message (id_by (next_g g));
      accepts = record {
        served = refl;
        ask = asks2;
        brings = (refl, refl, cut_is (id_by (next_g g)) (id_fits (next_g g)), record { qr = refl; opcode = refl; id = refl; question = refl });
      };
      truncated = refl;
      again = tcp_ask (last_g g);
      number = 0;
      path = refl;
      same = (refl, refl, refl);
      action = sending_tcp (last_g g);
      gives = first_in (sending_tcp (last_g g)) [];
      sent = tcp_sent (last_g g);
      moment = 60;
      bytes = encoding (answer_message (tcp_id (last_g g)));
      event = refl;
      replies = answered;
    },
  )

pub stream_stands : StreamStands
stream_stands = stream_by (of_seed []) [] refl
