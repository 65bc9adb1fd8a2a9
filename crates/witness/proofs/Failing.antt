-- Runs in which no answer comes: servers are silent, one fails, or memory is refused.
use Rattle.std.proofs.Common.{◌≡◌, ℕ, ◌+◌, ◌≤◌, true, inl, inr, Some, None, List, [], ◌∷◌, refl, sym, ap, subst, arith}
use Rattle.std.specs.Prelude.{Contains}
use Rattle.zone.proofs.LawLists.{none_in, first_in}
use Rattle.message_grammar.specs.Messages.{encoding}
use Rattle.message_grammar.specs.Pieces.{put, put_flat}
use Rattle.causes.specs.declared.cause.Cause.{Cause}
use Rattle.causes.specs.declared.cause.Cause.TheVariants.{NoServerLeft, KnownFailure}
use Rattle.wire.specs.declared.via.Via.TheVariants.{Udp}
use Rattle.front.specs.declared.queries.Outcome.TheVariants as outcome
use Rattle.rand_chacha.specs.ChaCha.{ChaCha, of_seed}
use Rattle.lru_laws.specs.Orders.{used}
use Rattle.cache.specs.Failures.{same_failed}
use Rattle.resolution.specs.Jobs.{Stores, with_timeout, with_told, Search, given, ask_of, wait_of_job, Job, asked, Told, TimedOut, AskUdp, Fail, Go, point}
use Rattle.resolution.specs.Rules.{skips, Advances, sends, spent}
use Rattle.runs.specs.States.{endpoint, Datagram, Tick, Action, Reply, OpenQuery, Turn, Open, open_query, due_moment, State, moved}
use Rattle.runs.specs.Messages.{IsReply}
use Rattle.runs.specs.Steps.{IsFirstDue, SomeDue, Step}
use Rattle.laws.specs.Headline.{IsHonest}
use Rattle.world_truth.specs.Sample.{host_name}
use Rattle.witness.specs.Stands.{SilenceStands, KnownFailureStands, StarvedStands}
use Rattle.witness.proofs.Talk.{failed_reply, failure_message, failed_is, failure_is}
use Rattle.witness.proofs.Place.{world, world_stands}
use Rattle.witness.proofs.Steps.{root_server, home, site, who, stores0, search1, job1}
use Rattle.witness.proofs.Course.{sock_by, id_by, id_fits, ask_by, sending_by, is_sent, goes, state_with, only_one, numbered, at_home, next_g, last_g, open1, state0, state1, turn1, step1, came, asks1, is_new}

-- ---- the work

abbrev search_given : Search
search_given = given search1

-- The server is asked once more, and waited for twice as long.
abbrev stores_late : Stores
stores_late = with_timeout stores0 root_server

abbrev job_again : Job
job_again = asked job1 search_given []

work_again : Advances home 1000 (TimedOut root_server) job1 stores0 (AskUdp root_server host_name 1) job_again stores_late
work_again = record {
  first = point Go job1 stores_late;
  count = 0;
  last = point Go job1 stores_late;
  enters = refl;
  rules = refl;
  leaves = sends root_server search_given [] (record { task = refl; searches = refl; next = refl; known = first_in root_server []; free = refl }) (record { early = omega arith; few = omega arith }) refl refl refl;
}

-- Then no server is left.
abbrev stores_later : Stores
stores_later = with_timeout stores_late root_server

work_spent : Advances home 3000 (TimedOut root_server) job_again stores_late (Fail NoServerLeft) job_again stores_later
work_spent = record {
  first = point Go job_again stores_later;
  count = 0;
  last = point Go job_again stores_later;
  enters = refl;
  rules = refl;
  leaves = spent (given search_given) refl (record { searches = refl; asked_all = refl; none_left = refl }) refl refl;
}

-- A server that fails is passed over.
abbrev stores_told : Stores
stores_told = with_told 20 search_given root_server (failure_message 0) stores0

abbrev stores_failed : Stores
stores_failed = record stores_told { failures = used same_failed (ask_of search_given root_server) stores_told.failures }

abbrev job_failed : Job
job_failed = record job1 { searches = given search_given ∷ []; skipped = true }

work_failed : (id : ℕ) → Advances home 20 (Told Udp root_server (failure_message id)) job1 stores0 (Fail KnownFailure) job_failed stores_failed
work_failed id = record {
  first = point Go job1 stores_told;
  count = 1;
  last = point Go job_failed stores_failed;
  enters = inr (search_given, [], refl, refl);
  rules = (
    point Go job1 stores_told,
    refl,
    skips 0 search_given (given search_given) [] stores_failed.failures refl refl (search_given, stores_told.failures, root_server, (refl, refl), refl, refl, refl, refl)
        (λ server next. absurd (cc)) refl refl refl,
  );
  leaves = spent (given search_given) refl (record { searches = refl; asked_all = refl; none_left = refl }) refl refl;
}

-- ---- the replies

abbrev pub refusing : Cause → Action
refusing c = Reply 1 Udp (encoding failed_reply) (Some c)

none_left_reply : IsReply who (outcome.Fail NoServerLeft) (refusing NoServerLeft)
unfolding encoding put put_flat
none_left_reply = (encoding failed_reply, (refl, failed_is), refl)

known_reply : IsReply who (outcome.Fail KnownFailure) (refusing KnownFailure)
unfolding encoding put put_flat
known_reply = (encoding failed_reply, (refl, failed_is), refl)

-- ---- the steps

only_due : (a : Open) (s : State) → s.queries ≡ a ∷ [] → a.number ≡ 0 → due_moment a ≤ s.clock → IsFirstDue s a
only_due a s queries zero_first due = record {
  stands = subst (λ (qs : List Open). Contains qs a) (sym queries) (first_in a []);
  due = due;
  first = λ p m. let same = only_one a p (subst (λ (qs : List Open). Contains qs p) queries m) in inr (ap due_moment same, subst (λ (x : Open). a.number ≤ x.number) same (omega arith));
}

module _ (g : ChaCha) where
  abbrev open_again : Open
  open_again = open_query 0 who job_again (ask_by (next_g g) root_server) (1000 + wait_of_job job_again)

  abbrev state_again : State
  state_again = state_with 1000 stores_late (open_again ∷ []) 1 (last_g g)

  abbrev state_spent : State
  state_spent = state_with 3000 stores_later [] 1 (last_g g)

  abbrev turn_again : Turn
  turn_again = record { event = Tick 1000; served = OpenQuery 0; out = Some (sending_by (next_g g) root_server ∷ []) }

  abbrev turn_spent : Turn
  turn_spent = record { event = Tick 3000; served = OpenQuery 0; out = Some (refusing NoServerLeft ∷ []) }

  none_due : SomeDue state_again → ⊥
  none_due (q, m, due) = let late : due_moment open_again ≤ 1000 = subst (λ (x : Open). due_moment x ≤ 1000) (sym (only_one open_again q m)) due in absurd (omega arith)

  step_again : Step (state1 g) turn_again.event turn_again.served turn_again.out state_again
  step_again = record {
    turn = inr (
      sending_by (next_g g) root_server ∷ [],
      inr (record {
        query = open1 g;
        input = TimedOut root_server;
        served_is = refl;
        brings = (only_due (open1 g) (moved (state1 g) (Tick 1000)) refl refl (omega arith), omega arith, refl);
        serves = record {
          stands = first_in (open1 g) [];
          next = AskUdp root_server host_name 1;
          job = job_again;
          stores = stores_late;
          advances = work_again;
          comes = record {
            ask = ask_by (next_g g) root_server;
            for = record { server = refl; name = refl; kind = refl };
            goes = goes (next_g g) 1000 stores0 (open1 g ∷ []) 1 root_server (numbered (open1 g) refl);
            waits = record {
              action = sending_by (next_g g) root_server;
              sent = is_sent (next_g g) root_server;
              out_is = refl;
              queries = record {
                is = first_in open_again [];
                stay = λ q m other. absurd (other (numbered (open1 g) refl q m));
                only = λ q m. inl (sym (only_one open_again q m));
              };
              state = refl;
            };
          };
        };
      }),
      inr (refl, none_due),
    );
    apart = (λ p m. absurd (none_in p m), tt);
  }

  step_spent : Step state_again turn_spent.event turn_spent.served turn_spent.out state_spent
  step_spent = record {
    turn = inr (
      refusing NoServerLeft ∷ [],
      inr (record {
        query = open_again;
        input = TimedOut root_server;
        served_is = refl;
        brings = (only_due open_again (moved state_again (Tick 3000)) refl refl (omega arith), omega arith, refl);
        serves = record {
          stands = first_in open_again [];
          next = Fail NoServerLeft;
          job = job_again;
          stores = stores_later;
          advances = work_spent;
          comes = record {
            action = refusing NoServerLeft;
            reply = none_left_reply;
            out_is = refl;
            queries = record { stay = λ q m other. absurd (other (numbered open_again refl q m)); only = λ q m. absurd (none_in q m) };
            state = refl;
          };
        };
      }),
      inr (refl, λ due. absurd (none_in due.0 due.1)),
    );
    apart = tt;
  }

  abbrev silence : List Turn
  silence = turn_spent ∷ turn_again ∷ turn1 g ∷ []

  silent : IsHonest world 53 silence
  silent = (λ k a m accepts. absurd accepts.brings, (λ k a m accepts. absurd accepts.brings, (λ k a m accepts. absurd accepts.brings, tt)))

  silence_by : (seed : List ℕ) → g ≡ of_seed seed → SilenceStands
  silence_by seed by_seed = (
    world,
    site,
    silence,
    state_spent,
    record { world = world_stands; home = at_home; leads = (state_again, (state1 g, (state0 g, is_new g seed by_seed, step1 g), step_again), step_spent); honest = silent },
    record {
      k = 0;
      who = who;
      last = turn_spent;
      between = turn_again ∷ [];
      first = turn1 g;
      run_is = refl;
      came = came g;
      ticks = ((3000, refl), ((1000, refl), tt));
      fails = record { served = refl; bytes = encoding failed_reply; gives = first_in (refusing NoServerLeft) [] };
    },
  )

  -- ---- a server that fails

  abbrev state_known : State
  state_known = state_with 20 stores_failed [] 1 (next_g g)

  abbrev turn_known : Turn
  turn_known = record {
    event = Datagram 20 (sock_by g) (endpoint root_server 53) (encoding (failure_message (id_by g)));
    served = OpenQuery 0;
    out = Some (refusing KnownFailure ∷ []);
  }

  step_known : Step (state1 g) turn_known.event turn_known.served turn_known.out state_known
  step_known = record {
    turn = inr (record {
      query = open1 g;
      input = Told Udp root_server (failure_message (id_by g));
      served_is = refl;
      brings = (failure_message (id_by g), (refl, refl, failure_is (id_by g) (id_fits g), record { qr = refl; opcode = refl; id = refl; question = refl }), refl);
      serves = record {
        stands = first_in (open1 g) [];
        next = Fail KnownFailure;
        job = job_failed;
        stores = stores_failed;
        advances = work_failed (id_by g);
        comes = record {
          action = refusing KnownFailure;
          reply = known_reply;
          out_is = refl;
          queries = record { stay = λ q m other. absurd (other (numbered (open1 g) refl q m)); only = λ q m. absurd (none_in q m) };
          state = refl;
        };
      };
    });
    apart = tt;
  }

  known_by : (seed : List ℕ) → g ≡ of_seed seed → KnownFailureStands
  known_by seed by_seed = (
    site,
    turn_known ∷ turn1 g ∷ [],
    state_known,
    (state1 g, (state0 g, is_new g seed by_seed, step1 g), step_known),
    record {
      k = 0;
      who = who;
      second = turn_known;
      first = turn1 g;
      run_is = refl;
      came = came g;
      ask = ask_by g root_server;
      message = failure_message (id_by g);
      accepts = record { served = refl; ask = asks1 g; brings = (refl, refl, failure_is (id_by g) (id_fits g), record { qr = refl; opcode = refl; id = refl; question = refl }) };
      rcode = refl;
      fails = record { served = refl; bytes = encoding failed_reply; gives = first_in (refusing KnownFailure) [] };
    },
  )

  -- ---- memory is refused

  abbrev state_starved : State
  state_starved = state_with 1000 stores0 [] 1 (next_g g)

  abbrev turn_starved : Turn
  turn_starved = record { event = Tick 1000; served = OpenQuery 0; out = None }

  step_starved : Step (state1 g) turn_starved.event turn_starved.served turn_starved.out state_starved
  step_starved = record {
    turn = (
      open1 g,
      first_in (open1 g) [],
      refl,
      only_due (open1 g) (moved (state1 g) (Tick 1000)) refl refl (omega arith),
      record {
        queries = record { stay = λ q m other. absurd (other (numbered (open1 g) refl q m)); only = λ q m. absurd (none_in q m) };
        stores = inl refl;
        generator = inl refl;
        state = refl;
      },
    );
    apart = tt;
  }

  starved_by : (seed : List ℕ) → g ≡ of_seed seed → StarvedStands
  starved_by seed by_seed = (
    world,
    site,
    turn_starved ∷ turn1 g ∷ [],
    state_starved,
    record {
      world = world_stands;
      home = at_home;
      leads = (state1 g, (state0 g, is_new g seed by_seed, step1 g), step_starved);
      honest = (λ k a m accepts. absurd accepts.brings, (λ k a m accepts. absurd accepts.brings, tt));
    },
    (refl, λ none. absurd (cc)),
  )

pub silence_stands : SilenceStands
silence_stands = silence_by (of_seed []) [] refl

pub known_failure_stands : KnownFailureStands
known_failure_stands = known_by (of_seed []) [] refl

pub starved_stands : StarvedStands
starved_stands = starved_by (of_seed []) [] refl
