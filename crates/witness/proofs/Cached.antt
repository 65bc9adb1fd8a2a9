-- The run goes on: a second later the same question is answered from the cache.
use Rattle.std.proofs.Common.{◌≡◌, ℕ, inl, inr, Some, None, List, [], ◌∷◌, refl, sym, ap, arith}
use Rattle.zone.specs.Links.{Found}
use Rattle.zone.proofs.LawLists.{none_in, first_in}
use Rattle.message_grammar.specs.Messages.{encoding}
use Rattle.message_grammar.specs.Pieces.{put, put_flat}
use Rattle.wire.specs.declared.via.Via.TheVariants.{Udp}
use Rattle.front.specs.declared.queries.Request.TheVariants as request
use Rattle.rand_chacha.specs.ChaCha.{ChaCha, of_seed}
use Rattle.cache.specs.Keys.{Key}
use Rattle.cache.specs.Cached.{Hit, moved, lent}
use Rattle.cache.proofs.Members.{given_held}
use Rattle.resolution.specs.Jobs.{Stores, Taken, kept_link, Job, Start, Done, Seek, Take, point, hit_from}
use Rattle.resolution.specs.Rules.{IsRemote, asked_of, takes, Advances, done}
use Rattle.runs.specs.States.{Client, Reply, Own, Turn, State, job_for}
use Rattle.runs.specs.Messages.{IsReply, outcome_of}
use Rattle.runs.specs.Steps.{at_once, Step}
use Rattle.laws.specs.Uses.{KeptAnswer}
use Rattle.world_truth.specs.Sample.{host_name}
use Rattle.witness.specs.Stands.{AreMet, CacheStands}
use Rattle.witness.proofs.Talk.{found, later_reply, client_bytes, later_is}
use Rattle.witness.proofs.Place.{world, world_stands}
use Rattle.witness.proofs.Steps.{home, site, query, who, is_asked, stores3, work3}
use Rattle.witness.proofs.Course.{state_with, only_one, at_home, last_g, state0, state1, state2, state3, step1, step2, step3, run, honest, is_new}

-- ---- the work

abbrev hit : Hit
hit = hit_from (Found found) 40

abbrev kept : Taken
kept = kept_link host_name hit

abbrev stores4 : Stores
stores4 = record stores3 { cache = moved (lent (asked_of home host_name 1) 1040 stores3.cache) stores3.cache }

abbrev job4 : Job
job4 = job_for 1040 query

remote : IsRemote home host_name 1
remote = inr (refl, inr (λ z m. absurd (none_in z m), refl))

work4 : Advances home 1040 Start job4 stores3 (Done [] kept) job4 stores4
work4 = record {
  first = point Seek job4 stores3;
  count = 1;
  last = point (Take kept) job4 stores4;
  enters = refl;
  rules = (
    point Seek job4 stores3,
    refl,
    takes kept refl (record { is = inr (hit, record { remote = remote; found = refl; held = given_held (asked_of home host_name 1) 1040 stores3.cache hit refl; link = refl; stores = refl }) }) refl refl,
  );
  leaves = done kept refl tt (refl, tt) refl refl;
}

is_reply : IsReply who (outcome_of 1040 [] kept) (Reply 1 Udp (encoding later_reply) None)
unfolding encoding put put_flat
is_reply = (encoding later_reply, (refl, later_is), refl)

-- ---- the step

module _ (g : ChaCha) where
  abbrev state4 : State
  state4 = state_with 1040 stores4 [] 1 (last_g g)

  abbrev turn4 : Turn
  turn4 = record { event = Client 1040 1 Udp client_bytes; served = Own; out = Some (Reply 1 Udp (encoding later_reply) None ∷ []) }

  step4 : Step (state3 g) turn4.event turn4.served turn4.out state4
  step4 = record {
    turn = (
      request.Query query,
      is_asked,
      inr (
        refl,
        record {
          next = Done [] kept;
          job = job4;
          stores = stores4;
          advances = work4;
          opened = at_once refl (λ asks. asks) (record {
            action = Reply 1 Udp (encoding later_reply) None;
            reply = is_reply;
            out_is = refl;
            queries = record { stay = λ q m other. m; only = λ q m. absurd (none_in q m) };
            state = refl;
          });
        },
      ),
    );
    apart = tt;
  }

  met : (seed : List ℕ) → g ≡ of_seed seed → AreMet world site (turn4 ∷ run g) state4
  met seed by_seed = record {
    world = world_stands;
    home = at_home;
    leads = (state3 g, (state2 g, (state1 g, (state0 g, is_new g seed by_seed, step1 g), step2 g), step3 g), step4);
    honest = (λ k a m accepts. absurd accepts.brings, honest g);
  }

  abbrev answer : KeptAnswer
  answer = record { name = host_name; kind = 1; hit = hit }

  cached_by : (seed : List ℕ) → g ≡ of_seed seed → CacheStands
  unfolding met step3 step4 work3 work4
  cached_by seed by_seed = (
    world,
    site,
    turn4 ∷ run g,
    state4,
    met seed by_seed,
    record {
      last = turn4;
      past = run g;
      run_is = refl;
      now = 1040;
      client = 1;
      way = Udp;
      bytes = client_bytes;
      event = refl;
      query = query;
      reads = is_asked;
      recursive_is = refl;
      served = refl;
      replied = encoding later_reply;
      gives = first_in (Reply 1 Udp (encoding later_reply) None) [];
      end = kept;
      held = (inr (remote, (hit, refl, refl)), tt);
      kept = answer;
      count = 1;
      since = (λ none. absurd (cc), inr (λ b e. absurd (cc), (0, (λ none. absurd (cc), inl (refl, refl)), refl)));
      room = omega arith;
      lasting = λ none. absurd (omega arith);
      lives = refl;
      only = λ k h m named other. absurd (other (ap (λ (e : Key × Hit). e.0) (sym (only_one _ (k, h) m))));
    },
  )

pub cache_stands : CacheStands
cache_stands = cached_by (of_seed []) [] refl
