-- A run in which a server's name is looked up: a referral names a server without an address, the root's server is asked
-- for that, and the server at it gives the answer.
use Rattle.std.proofs.Common.{◌≡◌, ◌≤◌, ◌<◌, ◌+◌, ℕ, inl, inr, true, false, Some, None, List, [], ◌∷◌, length, refl, sym, ◌∙◌, ap, subst, arith}
use Rattle.std.specs.Prelude.{Contains}
use Rattle.dname.specs.Labels.{Name, root, IsAtOrUnder}
use Rattle.rdata.specs.Data.{Ipv4}
use Rattle.rdata.specs.Records.{Record}
use Rattle.rdata.specs.declared.addr.Addr.{Addr}
use Rattle.zone.specs.Zones.{Zone}
use Rattle.zone.specs.Links.{Found, IsLink}
use Rattle.zone.specs.Look as local
use Rattle.zone.specs.Same.{SameLink}
use Rattle.zone.specs.Referrals.{IsReferral}
use Rattle.zone.proofs.LawLists.{none_in, first_in}
use Rattle.zone.proofs.LawReferral.{local_law}
use Rattle.zone.proofs.LawZones.{soa_at_origin}
use Rattle.message_grammar.specs.Messages.{Question, Message, IsQuestion, IsSpelling, IsMessage, encoding}
use Rattle.message_grammar.specs.Pieces.{put, put_flat}
use Rattle.message_grammar.proofs.Whole.{encoding_holds}
use Rattle.message_grammar.proofs.Single.{message_one}
use Rattle.wire.specs.declared.via.Via.TheVariants.{Udp}
use Rattle.rand_chacha.specs.ChaCha.{ChaCha, of_seed}
use Rattle.referral.specs.Cuts.{Cut, after_best, after_keep}
use Rattle.referral.proofs.Steps.{cut_is_best}
use Rattle.frames.specs.Frames.{opened, after_add, fresh_addresses}
use Rattle.cache.specs.Cached as cache
use Rattle.resolution.specs.Jobs.{Stores, level_of, Taken, received_link, root_cut, Search, search_at, with_frame, Job, wait_of_job, Told, AskUdp, Done, asked, Take, Go, point, cut_from, hit_from}
use Rattle.resolution.specs.Rules.{Misses, turned, descends, Advances, sends, done}
use Rattle.runs.specs.States.{Endpoint, endpoint, Datagram, Action, Reply, Send, OpenQuery, Turn, ByUdp, Ask, Open, open_query, State, word_taken}
use Rattle.runs.specs.Messages.{question_for, IsSent, Brings, IsReply, outcome_of}
use Rattle.runs.specs.Steps.{IsUdpAsk, Step}
use Rattle.runs.specs.Runs.{IsOpenAskOf, Accepts}
use Rattle.world_truth.specs.Worlds.{Address, Serves}
use Rattle.world_truth.specs.Serving.{AnswersFrom, MayServe}
use Rattle.world_truth.specs.Sample.{server_name, lower_name, host_name, server_address, soa_data, entry, root_zone}
use Rattle.laws.specs.Headline.{IsHonest}
use Rattle.witness.specs.Stands.{RepliesWithRecord, LookUpStands}
use Rattle.witness.proofs.Talk.{header, servers, glue, found, answer_message, reply_message, server_record, glue_record, is_header, server_is_name, answer_is, reply_is}
use Rattle.witness.proofs.Talk as talk
use Rattle.witness.proofs.Place.{root_address, world, world_stands, serves_root, each_of, root_there, root_named, root_rules, not_lower, by_root, may_answer}
use Rattle.witness.proofs.Steps.{root_server, lower_server, home, site, who, stores0, job1}
use Rattle.witness.proofs.Course.{sock_by, id_by, id_fits, ask_by, sending_by, is_sent, state_with, goes, only_one, numbered, brought, at_home, next_g, last_g, open1, state0, state1, turn1, step1, asks1, is_new}

-- ---- the messages

abbrev question : Question
question = question_for server_name 1

-- The referral without the server's address, the ask for it, and its answer.
abbrev referral_message : ℕ → Message
referral_message id = record { header = header id true false false false; questions = talk.question ∷ []; answer = []; authority = servers; additional = [] }

abbrev ask_message : ℕ → Message
ask_message id = record { header = header id false false false false; questions = question ∷ []; answer = []; authority = []; additional = [] }

abbrev address_message : ℕ → Message
address_message id = record { header = header id true true false false; questions = question ∷ []; answer = glue; authority = []; additional = [] }

referral_long : (id : ℕ) → length (encoding (referral_message id)) ≡ 36
unfolding encoding put put_flat
referral_long id = refl

ask_long : (id : ℕ) → length (encoding (ask_message id)) ≡ 19
unfolding encoding put put_flat
ask_long id = refl

address_long : (id : ℕ) → length (encoding (address_message id)) ≡ 35
unfolding encoding put put_flat
address_long id = refl

spelling : IsSpelling server_name
spelling = record { spelled = (omega arith, omega arith, refl); short = omega arith }

is_question : IsQuestion question
is_question = record { name = spelling; qtype = omega arith; qclass = omega arith }

referral_is : (id : ℕ) → id < 65536 → IsMessage (encoding (referral_message id)) (referral_message id)
referral_is id fits =
    encoding_holds (referral_message id)
    (record { header = is_header id true false false false fits; questions = (talk.is_question, tt); answer = tt; authority = (server_record, tt); additional = tt })
    (let e = referral_long id in omega (arith, e))

ask_is : (id : ℕ) → id < 65536 → IsMessage (encoding (ask_message id)) (ask_message id)
ask_is id fits =
    encoding_holds (ask_message id) (record { header = is_header id false false false false fits; questions = (is_question, tt); answer = tt; authority = tt; additional = tt })
    (let e = ask_long id in omega (arith, e))

address_is : (id : ℕ) → id < 65536 → IsMessage (encoding (address_message id)) (address_message id)
address_is id fits =
    encoding_holds (address_message id) (record { header = is_header id true true false false fits; questions = (is_question, tt); answer = (glue_record, tt); authority = tt; additional = tt })
    (let e = address_long id in omega (arith, e))

-- ---- what the servers may say

refers : IsReferral root_zone host_name lower_name servers glue
refers = local_law root_zone host_name 1 (entry root soa_data) root_named (soa_at_origin root_zone root_rules) root_rules.ttls refl ((120 ∷ []) ∷ (108 ∷ []) ∷ [], refl)

is_address : IsLink root_zone server_name 1 (Found glue)
is_address = local_law root_zone server_name 1 (entry root soa_data) root_named (soa_at_origin root_zone root_rules) root_rules.ttls refl ((110 ∷ []) ∷ [], refl)

abbrev IsShorter : Address → Zone → Zone → Type 0
IsShorter a z y = Serves world a y.origin → IsAtOrUnder server_name y.origin → length y.origin ≤ length z.origin

by_root_too : AnswersFrom world root_address server_name root_zone
by_root_too = record {
  stands = root_there;
  served = serves_root;
  over = ((110 ∷ []) ∷ [], refl);
  longest = each_of (IsShorter root_address root_zone) world.zones (λ s u. omega arith, (λ s u. absurd (not_lower s), tt));
}

may_refer : (id : ℕ) → MayServe world root_address host_name 1 (referral_message id)
may_refer id = inl (
  root_zone,
  by_root,
  inl (
    lower_name,
    refers.over,
    record {
      aa = refl;
      rcode = refl;
      answer = refl;
      only = λ r m. (r, refers.named r m, (refl, refl));
      whole = λ s at. (s, refers.all_named s at, (refl, refl));
      addresses = λ r m. absurd (none_in r m);
    },
  ),
)

same_address : SameLink (Found glue) (Found glue)
same_address = record { kinds = refl; records = (λ r m. (r, m, (refl, refl)), λ r m. (r, m, (refl, refl))) }

address_owner : (r : Record) → Contains glue r → r.owner ≡ server_name
address_owner r m = each_of (λ (x : Record). x.owner ≡ server_name) glue (refl, tt) r m

may_tell : (id : ℕ) → MayServe world root_address server_name 1 (address_message id)
may_tell id = inl (root_zone, by_root_too, inr (Found glue, (refl, refl, (λ r m e. m, λ r m. (m, address_owner r m)), (Found glue, is_address, same_address))))

-- What is accepted is what the server said, to the question for the server's name.
abbrev first_of : List Question → Question
first_of [] = question
first_of (q ∷ qs) = q

brought_here : (sock : ℕ) (server : Addr) (now : ℕ) (bytes : List ℕ) (said : Message) → IsMessage bytes said → said.questions ≡ question ∷ []
    → MayServe world server.0 server_name 1 said → (a : Ask) (m : Message) → Brings 53 a (Datagram now sock (endpoint server 53) bytes) m
    → MayServe world (a.server).0 a.name a.kind m
brought_here sock server now bytes said is asked_so may a m (path, from, reads, fits) =
    let same : said ≡ m = message_one bytes said m is reads in
    let to : server ≡ a.server = ap (λ (e : Endpoint). e.address) from in
    let of : question ∷ [] ≡ question_for a.name a.kind ∷ [] = sym asked_so ∙ ap (λ (x : Message). x.questions) same ∙ fits.question in
    let name : server_name ≡ a.name = ap (λ (qs : List Question). (first_of qs).name) of in
    let kind : 1 ≡ a.kind = ap (λ (qs : List Question). (first_of qs).qtype) of in
    subst (λ (x : Message). MayServe world (a.server).0 a.name a.kind x) same
    (subst (λ (t : ℕ). MayServe world (a.server).0 a.name t said) kind
    (subst (λ (n : Name). MayServe world (a.server).0 n 1 said) name
    (subst (λ (x : Addr). MayServe world x.0 server_name 1 said) to may)))

-- ---- the work

-- The cut of the referral: its server has no address.
abbrev cut : Cut
cut = record { owner = lower_name; names = server_name ∷ []; addresses = [] }

abbrev stores_cut : Stores
stores_cut = record stores0 { delegations = after_keep 16 (cut_from cut 300 20) [] }

abbrev search_cut : Search
search_cut = search_at host_name 1 (opened (level_of stores0) 0 cut)

abbrev at_cut : Job
at_cut = record job1 { searches = search_cut ∷ [] }

abbrev stores2 : Stores
stores2 = record stores_cut { delegations = after_best server_name 20 stores_cut.delegations }

abbrev inner : Search
inner = search_at server_name 1 (opened (level_of stores2) 1 (root_cut home))

abbrev outer : Search
outer = turned [] search_cut

abbrev at2 : Job
at2 = record at_cut { searches = inner ∷ outer ∷ []; look_ups = 1 }

abbrev job2 : Job
job2 = asked at2 inner (outer ∷ [])

misses2 : Misses home 20 server_name 1 stores_cut (root_cut home) stores2
misses2 = record {
  name = server_is_name;
  what = local.NotHere;
  says = (refl, inr (λ z m. absurd (none_in z m), refl));
  miss = refl;
  best = None;
  is_best = cut_is_best server_name 20 stores_cut.delegations;
  begins = refl;
  stores = refl;
}

work2 : (id : ℕ) → Advances home 20 (Told Udp root_server (referral_message id)) job1 stores0 (AskUdp root_server server_name 1) job2 stores2
work2 id = record {
  first = point Go at_cut stores_cut;
  count = 1;
  last = point Go at2 stores2;
  enters = inr (_, [], refl, record { cut = cut; is_cut = record { owner = refl; names = refl; addresses = refl }; task = refl; job = refl; stored = refl });
  rules = (
    point Go at_cut stores_cut,
    refl,
    descends search_cut [] server_name (root_cut home) refl (record { searches = refl; asked_all = refl; turn = refl; few = omega arith }) misses2 refl refl,
  );
  leaves = sends root_server inner (outer ∷ []) (record { task = refl; searches = refl; next = refl; known = first_in root_server []; free = refl }) (record { early = omega arith; few = omega arith }) refl refl refl;
}

abbrev stores3 : Stores
stores3 = record stores2 { cache = cache.after_keep 16 server_name 1 (hit_from (Found glue) 40) [] }

abbrev search3 : Search
search3 = with_frame outer (after_add (level_of stores3) outer.frame (fresh_addresses outer.frame (lower_server ∷ [])))

abbrev at3 : Job
at3 = record job2 { searches = search3 ∷ [] }

abbrev job3 : Job
job3 = asked at3 search3 []

work3 : (id : ℕ) → Advances home 40 (Told Udp root_server (address_message id)) job2 stores2 (AskUdp lower_server host_name 1) job3 stores3
work3 id = record {
  first = point Go at3 stores3;
  count = 0;
  last = point Go at3 stores3;
  enters = inr (_, outer ∷ [], refl, (search3, [], refl, record { stores = refl }, record { is = inl (glue, lower_server ∷ [], refl, refl, refl, refl) }, refl));
  rules = refl;
  leaves = sends lower_server search3 [] (record { task = refl; searches = refl; next = refl; known = first_in lower_server []; free = refl }) (record { early = omega arith; few = omega arith }) refl refl refl;
}

abbrev last : Taken
last = received_link host_name (Found found) 60

abbrev stores4 : Stores
stores4 = record stores3 { cache = cache.after_keep 16 host_name 1 (hit_from (Found found) 60) stores3.cache }

abbrev job4 : Job
job4 = record job3 { searches = [] }

work4 : (id : ℕ) → Advances home 60 (Told Udp lower_server (answer_message id)) job3 stores3 (Done [] last) job4 stores4
work4 id = record {
  first = point (Take last) job4 stores4;
  count = 0;
  last = point (Take last) job4 stores4;
  enters = inr (_, [], refl, (refl, refl, record { stores = refl }));
  rules = refl;
  leaves = done last refl tt (refl, tt) refl refl;
}

is_reply : IsReply who (outcome_of 60 [] last) (Reply 1 Udp (encoding reply_message) None)
unfolding encoding put put_flat
is_reply = (encoding reply_message, (refl, reply_is), refl)

-- ---- the ask for the server's name

abbrev asking : ChaCha → Addr → Ask
asking g server = record { path = ByUdp (sock_by g); server = server; id = id_by g; name = server_name; kind = 1 }

abbrev sending : ChaCha → Addr → Action
sending g server = Send (sock_by g) (endpoint server 53) (encoding (ask_message (id_by g)))

is_sent_here : (g : ChaCha) (server : Addr) → IsSent 53 (asking g server) (sending g server)
is_sent_here g server = (encoding (ask_message (id_by g)), (refl, ask_is (id_by g) (id_fits g)), refl)

goes_here : (g : ChaCha) (clock : ℕ) (stores : Stores) (queries : List Open) (opened_so : ℕ) (server : Addr) → ((q : Open) → Contains queries q → q.number ≡ 0)
    → IsUdpAsk (state_with clock stores queries opened_so g) 0 (asking g server)
goes_here g clock stores queries opened_so server all = record {
  sock = sock_by g;
  sock_is = refl;
  path = refl;
  id = record { steps = 0; is = refl; free = λ used. let (q, m, other, path, to, id) = used in other (all q m); first = λ k less. absurd (omega (arith, less)) };
}

-- ---- the steps

module _ (g : ChaCha) where
  abbrev second_g : ChaCha
  second_g = next_g g

  abbrev third_g : ChaCha
  third_g = last_g g

  abbrev fourth_g : ChaCha
  fourth_g = word_taken third_g

  abbrev open2 : Open
  open2 = open_query 0 who job2 (asking second_g root_server) (20 + wait_of_job job2)

  abbrev open3 : Open
  open3 = open_query 0 who job3 (ask_by third_g lower_server) (40 + wait_of_job job3)

  abbrev state2 : State
  state2 = state_with 20 stores2 (open2 ∷ []) 1 third_g

  abbrev state3 : State
  state3 = state_with 40 stores3 (open3 ∷ []) 1 fourth_g

  abbrev state4 : State
  state4 = state_with 60 stores4 [] 1 fourth_g

  abbrev turn2 : Turn
  turn2 = record {
    event = Datagram 20 (sock_by g) (endpoint root_server 53) (encoding (referral_message (id_by g)));
    served = OpenQuery 0;
    out = Some (sending second_g root_server ∷ []);
  }

  abbrev turn3 : Turn
  turn3 = record {
    event = Datagram 40 (sock_by second_g) (endpoint root_server 53) (encoding (address_message (id_by second_g)));
    served = OpenQuery 0;
    out = Some (sending_by third_g lower_server ∷ []);
  }

  abbrev turn4 : Turn
  turn4 = record {
    event = Datagram 60 (sock_by third_g) (endpoint lower_server 53) (encoding (answer_message (id_by third_g)));
    served = OpenQuery 0;
    out = Some (Reply 1 Udp (encoding reply_message) None ∷ []);
  }

  step2 : Step (state1 g) turn2.event turn2.served turn2.out state2
  step2 = record {
    turn = inr (record {
      query = open1 g;
      input = Told Udp root_server (referral_message (id_by g));
      served_is = refl;
      brings = (referral_message (id_by g), (refl, refl, referral_is (id_by g) (id_fits g), record { qr = refl; opcode = refl; id = refl; question = refl }), refl);
      serves = record {
        stands = first_in (open1 g) [];
        next = AskUdp root_server server_name 1;
        job = job2;
        stores = stores2;
        advances = work2 (id_by g);
        comes = record {
          ask = asking second_g root_server;
          for = record { server = refl; name = refl; kind = refl };
          goes = goes_here second_g 20 stores0 (open1 g ∷ []) 1 root_server (numbered (open1 g) refl);
          waits = record {
            action = sending second_g root_server;
            sent = is_sent_here second_g root_server;
            out_is = refl;
            queries = record { is = first_in open2 []; stay = λ q m other. absurd (other (numbered (open1 g) refl q m)); only = λ q m. inl (sym (only_one open2 q m)) };
            state = refl;
          };
        };
      };
    });
    apart = (λ p m. absurd (none_in p m), tt);
  }

  step3 : Step state2 turn3.event turn3.served turn3.out state3
  step3 = record {
    turn = inr (record {
      query = open2;
      input = Told Udp root_server (address_message (id_by second_g));
      served_is = refl;
      brings = (address_message (id_by second_g), (refl, refl, address_is (id_by second_g) (id_fits second_g), record { qr = refl; opcode = refl; id = refl; question = refl }), refl);
      serves = record {
        stands = first_in open2 [];
        next = AskUdp lower_server host_name 1;
        job = job3;
        stores = stores3;
        advances = work3 (id_by second_g);
        comes = record {
          ask = ask_by third_g lower_server;
          for = record { server = refl; name = refl; kind = refl };
          goes = goes third_g 40 stores2 (open2 ∷ []) 1 lower_server (numbered open2 refl);
          waits = record {
            action = sending_by third_g lower_server;
            sent = is_sent third_g lower_server;
            out_is = refl;
            queries = record { is = first_in open3 []; stay = λ q m other. absurd (other (numbered open2 refl q m)); only = λ q m. inl (sym (only_one open3 q m)) };
            state = refl;
          };
        };
      };
    });
    apart = (λ p m. absurd (none_in p m), tt);
  }

  step4 : Step state3 turn4.event turn4.served turn4.out state4
  step4 = record {
    turn = inr (record {
      query = open3;
      input = Told Udp lower_server (answer_message (id_by third_g));
      served_is = refl;
      brings = (answer_message (id_by third_g), (refl, refl, answer_is (id_by third_g) (id_fits third_g), record { qr = refl; opcode = refl; id = refl; question = refl }), refl);
      serves = record {
        stands = first_in open3 [];
        next = Done [] last;
        job = job4;
        stores = stores4;
        advances = work4 (id_by third_g);
        comes = record {
          action = Reply 1 Udp (encoding reply_message) None;
          reply = is_reply;
          out_is = refl;
          queries = record { stay = λ q m other. absurd (other (numbered open3 refl q m)); only = λ q m. absurd (none_in q m) };
          state = refl;
        };
      };
    });
    apart = tt;
  }

  abbrev run : List Turn
  run = turn4 ∷ turn3 ∷ turn2 ∷ turn1 g ∷ []

  honest : IsHonest world 53 run
  honest = (
    λ k a m accepts. brought (sock_by third_g) lower_server 60 (encoding (answer_message (id_by third_g))) (answer_message (id_by third_g))
        (answer_is (id_by third_g) (id_fits third_g)) refl (may_answer (id_by third_g)) a m accepts.brings,
    (
      λ k a m accepts. brought_here (sock_by second_g) root_server 40 (encoding (address_message (id_by second_g))) (address_message (id_by second_g))
          (address_is (id_by second_g) (id_fits second_g)) refl (may_tell (id_by second_g)) a m accepts.brings,
      (
        λ k a m accepts. brought (sock_by g) root_server 20 (encoding (referral_message (id_by g))) (referral_message (id_by g))
            (referral_is (id_by g) (id_fits g)) refl (may_refer (id_by g)) a m accepts.brings,
        (λ k a m accepts. absurd accepts.brings, tt),
      ),
    ),
  )

  asks2 : IsOpenAskOf 53 0 (asking second_g root_server) (turn2 ∷ turn1 g ∷ [])
  asks2 = inl (refl, (sending second_g root_server, first_in (sending second_g root_server) [], is_sent_here second_g root_server))

  accepted : Accepts 53 0 (ask_by g root_server) (referral_message (id_by g)) turn2 (turn1 g ∷ [])
  accepted = record { served = refl; ask = asks1 g; brings = (refl, refl, referral_is (id_by g) (id_fits g), record { qr = refl; opcode = refl; id = refl; question = refl }) }

  accepted_too : Accepts 53 0 (asking second_g root_server) (address_message (id_by second_g)) turn3 (turn2 ∷ turn1 g ∷ [])
  accepted_too = record {
    served = refl;
    ask = asks2;
    brings = (refl, refl, address_is (id_by second_g) (id_fits second_g), record { qr = refl; opcode = refl; id = refl; question = refl });
  }

  answered : RepliesWithRecord 0 who turn4 (turn3 ∷ turn2 ∷ turn1 g ∷ [])
  answered = record {
    served = refl;
    bytes = encoding reply_message;
    gives = first_in (Reply 1 Udp (encoding reply_message) None) [];
    message = reply_message;
    is = reply_is;
    rcode = refl;
    first = entry host_name (Ipv4 server_address);
    answer = first_in (entry host_name (Ipv4 server_address)) [];
  }

  stands_by : (seed : List ℕ) → g ≡ of_seed seed → LookUpStands
  stands_by seed by_seed = (
    world,
    site,
    run,
    state4,
    record {
      world = world_stands;
      home = at_home;
      leads = (state3, (state2, (state1 g, (state0 g, is_new g seed by_seed, step1 g), step2), step3), step4);
      honest = honest;
    },
    record {
      k = 0;
      who = who;
      last = turn4;
      found = turn3;
      referred = turn2;
      past = turn1 g ∷ [];
      run_is = refl;
      ask = ask_by g root_server;
      message = referral_message (id_by g);
      accepts = accepted;
      cut = lower_name;
      servers = servers;
      ttl = 300;
      refers = refl;
      server = server_name;
      named = first_in server_name [];
      inner = asking second_g root_server;
      action = sending second_g root_server;
      gives = first_in (sending second_g root_server) [];
      sent = is_sent_here second_g root_server;
      sought = (refl, refl);
      reply = address_message (id_by second_g);
      heard = accepted_too;
      address = entry server_name (Ipv4 server_address);
      stands = first_in (entry server_name (Ipv4 server_address)) [];
      next = ask_by third_g lower_server;
      asking = sending_by third_g lower_server;
      asks_on = first_in (sending_by third_g lower_server) [];
      sent_on = is_sent third_g lower_server;
      same = (refl, refl);
      value = refl;
      replies = answered;
    },
  )

pub look_up_stands : LookUpStands
look_up_stands = stands_by (of_seed []) [] refl
