-- The states of the run and its three steps, whatever words the generator gives.
use Rattle.std.proofs.Common.{◌≡◌, ℕ, ◌+◌, ◌<◌, ◌%◌, inl, inr, Some, None, List, [], ◌∷◌, refl, sym, ◌∙◌, ap, subst, arith}
use Rattle.std.specs.Prelude.{Contains}
use Rattle.dname.specs.Labels.{Name}
use Rattle.rdata.specs.Data.{Ipv4}
use Rattle.rdata.specs.declared.addr.Addr.{Addr}
use Rattle.zone.proofs.LawLists.{none_in, first_in, in_cases}
use Rattle.message_grammar.specs.Messages.{Question, Message, IsMessage, encoding}
use Rattle.message_grammar.proofs.Single.{message_one}
use Rattle.wire.specs.declared.via.Via.TheVariants.{Udp}
use Rattle.front.specs.declared.queries.Request.TheVariants as request
use Rattle.rand_chacha.specs.ChaCha.{ChaCha, of_seed}
use Rattle.resolution.specs.Jobs.{Stores, wait_of_job, Told, AskUdp, Done}
use Rattle.runs.specs.States.{Endpoint, endpoint, Client, Datagram, Action, Reply, Send, OpenQuery, Turn, ByUdp, Ask, Open, open_query, State, IsNew, word_of, word_taken, low_half, socket_of}
use Rattle.runs.specs.Messages.{question_for, IsSent, Brings}
use Rattle.runs.specs.Steps.{IsUdpAsk, admitted, Step}
use Rattle.runs.specs.Runs.{IsOpenAskOf, Came, Accepts}
use Rattle.world_truth.specs.Serving.{MayServe}
use Rattle.world_truth.specs.Sample.{server_name, lower_name, host_name, server_address, entry}
use Rattle.laws.specs.Headline.{IsHonest, IsHomeIn}
use Rattle.witness.specs.Stands.{FollowsReferral, RepliesWithRecord, LawsStand}
use Rattle.witness.proofs.Talk.{question, servers, glue, ask_message, referral_message, answer_message, reply_message, client_bytes, ask_is, referral_is, answer_is, reply_is}
use Rattle.witness.proofs.Place.{world, world_stands, root_address, may_refer, may_answer}
use Rattle.witness.proofs.Steps.{root_server, lower_server, home, site, query, who, is_asked, stores0, job1, work1, stores2, job2, work2, stores3, job3, work3, last, is_reply}

-- The socket and the ID of an ask by the generator's next word.
abbrev pub sock_by : ChaCha → ℕ
sock_by g = socket_of 4 (word_of g)

abbrev pub id_by : ChaCha → ℕ
id_by g = (low_half (word_of g) + 0) % 65536

pub id_fits : (g : ChaCha) → id_by g < 65536
id_fits g = omega arith

abbrev pub ask_by : ChaCha → Addr → Ask
ask_by g server = record { path = ByUdp (sock_by g); server = server; id = id_by g; name = host_name; kind = 1 }

abbrev pub sending_by : ChaCha → Addr → Action
sending_by g server = Send (sock_by g) (endpoint server 53) (encoding (ask_message (id_by g)))

pub is_sent : (g : ChaCha) (server : Addr) → IsSent 53 (ask_by g server) (sending_by g server)
is_sent g server = (encoding (ask_message (id_by g)), (refl, ask_is (id_by g) (id_fits g)), refl)

abbrev pub state_with : ℕ → Stores → List Open → ℕ → ChaCha → State
state_with clock stores queries opened g = record { site = site; clock = clock; stores = stores; queries = queries; opened = opened; tcp_asks = 0; generator = g }

-- An ask by the generator, where no other query than number 0 is open.
pub goes : (g : ChaCha) (clock : ℕ) (stores : Stores) (queries : List Open) (opened : ℕ) (server : Addr) → ((q : Open) → Contains queries q → q.number ≡ 0)
    → IsUdpAsk (state_with clock stores queries opened g) 0 (ask_by g server)
goes g clock stores queries opened server all = record {
  sock = sock_by g;
  sock_is = refl;
  path = refl;
  id = record { steps = 0; is = refl; free = λ used. let (q, m, other, path, to, id) = used in other (all q m); first = λ k less. absurd (omega (arith, less)) };
}

pub only_one : {X : Type 0} (a q : X) → Contains (a ∷ []) q → a ≡ q
only_one a q m = elim (in_cases a q [] m) as (λ x. a ≡ q) [ inl same ↦ same | inr n ↦ absurd (none_in q n) ]

pub numbered : (a : Open) → a.number ≡ 0 → (q : Open) → Contains (a ∷ []) q → q.number ≡ 0
numbered a zero_first q m = subst (λ (x : Open). x.number ≡ 0) (only_one a q m) zero_first

-- What is accepted is what the server said, and to the question that was asked.
abbrev first_of : List Question → Question
first_of [] = question
first_of (q ∷ qs) = q

pub brought : (sock : ℕ) (server : Addr) (now : ℕ) (bytes : List ℕ) (said : Message) → IsMessage bytes said → said.questions ≡ question ∷ []
    → MayServe world server.0 host_name 1 said → (a : Ask) (m : Message) → Brings 53 a (Datagram now sock (endpoint server 53) bytes) m
    → MayServe world (a.server).0 a.name a.kind m
brought sock server now bytes said is asked may a m (path, from, reads, fits) =
    let same : said ≡ m = message_one bytes said m is reads in
    let to : server ≡ a.server = ap (λ (e : Endpoint). e.address) from in
    let of : question ∷ [] ≡ question_for a.name a.kind ∷ [] = sym asked ∙ ap (λ (x : Message). x.questions) same ∙ fits.question in
    let name : host_name ≡ a.name = ap (λ (qs : List Question). (first_of qs).name) of in
    let kind : 1 ≡ a.kind = ap (λ (qs : List Question). (first_of qs).qtype) of in
    subst (λ (x : Message). MayServe world (a.server).0 a.name a.kind x) same
    (subst (λ (t : ℕ). MayServe world (a.server).0 a.name t said) kind
    (subst (λ (n : Name). MayServe world (a.server).0 n 1 said) name
    (subst (λ (x : Addr). MayServe world x.0 host_name 1 said) to may)))

pub at_home : IsHomeIn world home
at_home = record {
  held = λ z. (λ m. absurd (none_in z m), λ h. absurd (none_in z.origin h.1));
  hints = λ a m. subst (λ (x : Addr). Contains world.hints x.0) (only_one root_server a m) (first_in root_address []);
}

module _ (g : ChaCha) where
  abbrev pub next_g : ChaCha
  next_g = word_taken g

  abbrev pub last_g : ChaCha
  last_g = word_taken next_g

  abbrev pub open1 : Open
  open1 = open_query 0 who job1 (ask_by g root_server) (wait_of_job job1)

  abbrev pub open2 : Open
  open2 = open_query 0 who job2 (ask_by next_g lower_server) (20 + wait_of_job job2)

  abbrev pub state0 : State
  state0 = state_with 0 stores0 [] 0 g

  abbrev pub state1 : State
  state1 = state_with 0 stores0 (open1 ∷ []) 1 next_g

  abbrev pub state2 : State
  state2 = state_with 20 stores2 (open2 ∷ []) 1 last_g

  abbrev pub state3 : State
  state3 = state_with 40 stores3 [] 1 last_g

  abbrev pub turn1 : Turn
  turn1 = record { event = Client 0 1 Udp client_bytes; served = OpenQuery 0; out = Some (sending_by g root_server ∷ []) }

  abbrev pub turn2 : Turn
  turn2 = record {
    event = Datagram 20 (sock_by g) (endpoint root_server 53) (encoding (referral_message (id_by g)));
    served = OpenQuery 0;
    out = Some (sending_by next_g lower_server ∷ []);
  }

  abbrev pub turn3 : Turn
  turn3 = record {
    event = Datagram 40 (sock_by next_g) (endpoint lower_server 53) (encoding (answer_message (id_by next_g)));
    served = OpenQuery 0;
    out = Some (Reply 1 Udp (encoding reply_message) None ∷ []);
  }

  pub step1 : Step state0 turn1.event turn1.served turn1.out state1
  step1 = record {
    turn = (
      request.Query query,
      is_asked,
      inr (
        refl,
        record {
          next = AskUdp root_server host_name 1;
          job = job1;
          stores = stores0;
          advances = work1;
          opened = admitted refl tt (omega arith) (record {
            ask = ask_by g root_server;
            for = record { server = refl; name = refl; kind = refl };
            goes = goes g 0 stores0 [] 0 root_server (λ q m. absurd (none_in q m));
            waits = record {
              action = sending_by g root_server;
              sent = is_sent g root_server;
              out_is = refl;
              queries = record { is = first_in open1 []; stay = λ q m other. absurd (none_in q m); only = λ q m. inl (sym (only_one open1 q m)) };
              state = refl;
            };
          });
        },
      ),
    );
    apart = (λ p m. absurd (none_in p m), tt);
  }

  pub step2 : Step state1 turn2.event turn2.served turn2.out state2
  step2 = record {
    turn = inr (record {
      query = open1;
      input = Told Udp root_server (referral_message (id_by g));
      served_is = refl;
      brings = (referral_message (id_by g), (refl, refl, referral_is (id_by g) (id_fits g), record { qr = refl; opcode = refl; id = refl; question = refl }), refl);
      serves = record {
        stands = first_in open1 [];
        next = AskUdp lower_server host_name 1;
        job = job2;
        stores = stores2;
        advances = work2 (id_by g);
        comes = record {
          ask = ask_by next_g lower_server;
          for = record { server = refl; name = refl; kind = refl };
          goes = goes next_g 20 stores0 (open1 ∷ []) 1 lower_server (numbered open1 refl);
          waits = record {
            action = sending_by next_g lower_server;
            sent = is_sent next_g lower_server;
            out_is = refl;
            queries = record {
              is = first_in open2 [];
              stay = λ q m other. absurd (other (numbered open1 refl q m));
              only = λ q m. inl (sym (only_one open2 q m));
            };
            state = refl;
          };
        };
      };
    });
    apart = (λ p m. absurd (none_in p m), tt);
  }

  unfoldable pub step3 : Step state2 turn3.event turn3.served turn3.out state3
  step3 = record {
    turn = inr (record {
      query = open2;
      input = Told Udp lower_server (answer_message (id_by next_g));
      served_is = refl;
      brings = (answer_message (id_by next_g), (refl, refl, answer_is (id_by next_g) (id_fits next_g), record { qr = refl; opcode = refl; id = refl; question = refl }), refl);
      serves = record {
        stands = first_in open2 [];
        next = Done [] last;
        job = job3;
        stores = stores3;
        advances = work3 (id_by next_g);
        comes = record {
          action = Reply 1 Udp (encoding reply_message) None;
          reply = is_reply;
          out_is = refl;
          queries = record { stay = λ q m other. absurd (other (numbered open2 refl q m)); only = λ q m. absurd (none_in q m) };
          state = refl;
        };
      };
    });
    apart = tt;
  }

  abbrev pub run : List Turn
  run = turn3 ∷ turn2 ∷ turn1 ∷ []

  pub asks1 : IsOpenAskOf 53 0 (ask_by g root_server) (turn1 ∷ [])
  asks1 = inl (refl, (sending_by g root_server, first_in (sending_by g root_server) [], is_sent g root_server))

  pub came : Came (OpenQuery 0) who turn1 []
  came = record { is_served = refl; moment = 0; bytes = client_bytes; event = refl; reads = is_asked }

  accepted : Accepts 53 0 (ask_by g root_server) (referral_message (id_by g)) turn2 (turn1 ∷ [])
  accepted = record {
    served = refl;
    ask = asks1;
    brings = (refl, refl, referral_is (id_by g) (id_fits g), record { qr = refl; opcode = refl; id = refl; question = refl });
  }

  followed : FollowsReferral 53 0 turn2 (turn1 ∷ [])
  followed = record {
    ask = ask_by g root_server;
    message = referral_message (id_by g);
    accepts = accepted;
    cut = lower_name;
    servers = servers;
    addresses = glue;
    ttl = 300;
    refers = refl;
    next = ask_by next_g lower_server;
    action = sending_by next_g lower_server;
    gives = first_in (sending_by next_g lower_server) [];
    sent = is_sent next_g lower_server;
    name = refl;
    kind = refl;
    address = entry server_name (Ipv4 server_address);
    stands = first_in (entry server_name (Ipv4 server_address)) [];
    value = refl;
  }

  answered : RepliesWithRecord 0 who turn3 (turn2 ∷ turn1 ∷ [])
  answered = record {
    served = refl;
    bytes = encoding reply_message;
    gives = first_in (Reply 1 Udp (encoding reply_message) None) [];
    message = reply_message;
    is = reply_is;
    rcode = refl;
    first = entry host_name (Ipv4 server_address);
    answer = first_in (entry host_name (Ipv4 server_address)) [];
  }

  pub honest : IsHonest world 53 run
  honest = (
    λ k a m accepts. brought (sock_by next_g) lower_server 40 (encoding (answer_message (id_by next_g))) (answer_message (id_by next_g))
        (answer_is (id_by next_g) (id_fits next_g)) refl (may_answer (id_by next_g)) a m accepts.brings,
    (
      λ k a m accepts. brought (sock_by g) root_server 20 (encoding (referral_message (id_by g))) (referral_message (id_by g))
          (referral_is (id_by g) (id_fits g)) refl (may_refer (id_by g)) a m accepts.brings,
      (λ k a m accepts. absurd accepts.brings, tt),
    ),
  )

  pub is_new : (seed : List ℕ) → g ≡ of_seed seed → IsNew site state0
  is_new seed by_seed = record {
    site = refl;
    clock = refl;
    cache = refl;
    delegations = refl;
    penalties = refl;
    failures = refl;
    queries = refl;
    opened = refl;
    tcp_asks = refl;
    seeded = (seed, by_seed);
  }

  pub stands_by : (seed : List ℕ) → g ≡ of_seed seed → LawsStand
  stands_by seed by_seed = (
    world,
    site,
    run,
    state3,
    record { world = world_stands; home = at_home; leads = (state2, (state1, (state0, is_new seed by_seed, step1), step2), step3); honest = honest },
    (0, who, refl, came, followed, answered),
  )

pub laws_stand_here : LawsStand
laws_stand_here = stands_by (of_seed []) [] refl
