-- A run in which a query fails since 64 names of servers were looked up for it. The local zones answer each look-up, so
-- no server is asked, and the query is over in its own step.
use Rattle.std.proofs.Common.{◌≡◌, ℕ, zero, suc, ◌+◌, ◌<◌, ◌≤◌, inl, inr, Bool, false, ◌||◌, Some, None, List, [], ◌∷◌, get_or, length, refl, sym, ◌∙◌, ap, subst, arith}
use Rattle.std.specs.Prelude.{Contains, slice_get, min}
use Rattle.std.proofs.lemmas.Bool.{false_from_ne_true}
use Rattle.std.proofs.lemmas.Option.{slice_get-get_or}
use Rattle.dname.specs.Labels.{Name, root, folded, is_under, IsName}
use Rattle.rdata.specs.Records.{Record}
use Rattle.rdata.specs.Targets.{targets_of}
use Rattle.zone.specs.Links.{NxDomain}
use Rattle.zone.specs.Look as local
use Rattle.zone.proofs.LawLists.{none_in, first_in}
use Rattle.authority.specs.Catalogs.{zone_over}
use Rattle.authority.proofs.Ascents.{looked_by}
use Rattle.authority.proofs.Charges.{looked_here}
use Rattle.message_grammar.specs.Messages.{encoding}
use Rattle.message_grammar.specs.Pieces.{put, put_flat}
use Rattle.causes.specs.declared.cause.Cause.TheVariants.{TooManyLookUps}
use Rattle.wire.specs.declared.via.Via.TheVariants.{Udp}
use Rattle.front.specs.declared.queries.Request.TheVariants as request
use Rattle.front.specs.declared.queries.Outcome.TheVariants as outcome
use Rattle.rand_chacha.specs.ChaCha.{ChaCha, of_seed}
use Rattle.referral.specs.Cuts.{Cut, Known, after_best}
use Rattle.cache.specs.Cached.{lent, hit_of}
use Rattle.frames.specs.Frames.{Frame, Failed, marked, has_failed, is_skipped, next_place, next_name}
use Rattle.frames.proofs.Marks.{marked_only, has_failed_is}
use Rattle.frames.proofs.Places.{place_here}
use Rattle.resolution.specs.Jobs.{local_link, Search, search_at, Job, Start, Fail, Seek, Go, Point, point}
use Rattle.resolution.specs.Rules.{Says, asked_of, Finds, Misses, turned, Rule, asks, hears, descends, gives_up, Rules, Advances, looked_out}
use Rattle.runs.specs.States.{Client, Own, Turn, State}
use Rattle.runs.specs.Messages.{IsReply}
use Rattle.runs.specs.Steps.{at_once, Step}
use Rattle.world_truth.specs.Sample.{lower_name, host_name, soa_data, entry}
use Rattle.witness.specs.Stands.{TooManyLookUpsStands}
use Rattle.witness.proofs.Talk.{failed_reply, client_bytes, l_label, failed_is, host_is_name}
use Rattle.witness.proofs.Steps.{query, who, is_asked, stores0, job0}
use Rattle.witness.proofs.Failing.{refusing}
use Rattle.witness.proofs.Unaddressed.{numbered, absent, below, outers, served_by, top_zone, cut_zone, world, home, site, top_named, cut_named, top_rules, cut_rules, world_stands, at_home}

-- ---- what the local zones say

abbrev denial : Record
denial = entry root soa_data

absent_is : (c : ℕ) → Says home (numbered c root) 1 (local.Linked (NxDomain denial))
absent_is c = (refl, looked_here home.zones (numbered c root) 1 top_zone denial refl top_named top_rules refl)

finds_none : (c : ℕ) → Finds home 0 (numbered c root) 1 stores0 (local_link (numbered c root) (NxDomain denial)) stores0
finds_none c = record { is = inl (NxDomain denial, absent_is c, refl, refl) }

abbrev cut_of : Name → List Name → Cut
cut_of cut ns = record { owner = cut; names = ns; addresses = [] }

targets : (cut : Name) (ns : List Name) → ns ≡ targets_of (served_by cut ns)
targets cut [] = refl
targets cut (n ∷ ns) = ap (λ (more : List Name). n ∷ more) (targets cut ns)

-- A name at or beneath a cut is remote, and the stores are empty.
misses_at : (n cut : Name) (ns : List Name) → IsName n → Says home n 1 (local.Cut cut (served_by cut ns) []) → hit_of (lent (asked_of home n 1) 0 []) ≡ None → after_best n 0 [] ≡ []
    → Misses home 0 n 1 stores0 (cut_of cut ns) stores0
misses_at n cut ns is says miss none = record {
  name = is;
  what = local.Cut cut (served_by cut ns) [];
  says = says;
  miss = miss;
  best = None;
  is_best = λ m j named lives over. let e = lives.0 in absurd (cc);
  begins = record { owner = refl; names = targets cut ns; addresses = refl };
  stores = ap (λ (es : List (Name × Known)). record stores0 { delegations = es }) (sym none);
}

-- ---- searches whose servers have no address

abbrev frame_at : ℕ → Name → List Name → ℕ → Frame
frame_at nesting zone ns tried = record { nesting = nesting; zone = zone; names = ns; tried = tried; addresses = []; plan = record { order = []; given = 0 } }

abbrev search_of : Name → ℕ → Name → List Name → ℕ → Search
search_of n nesting zone ns tried = search_at n 1 (frame_at nesting zone ns tried)

abbrev job_with : List Search → Failed → ℕ → Job
job_with searches failed count = record job0 { searches = searches; failed = failed; look_ups = count }

abbrev at : Job → Point
at j = point Go j stores0

-- The name whose turn is next, and the search after its turn.
abbrev IsNext : Failed → Frame → ℕ → Name → Type 0
IsNext failed f tried m = (tried < length f.names) × (m ≡ get_or f.names tried m) × (is_skipped failed f m ≡ false)

least_next : (p tried long : ℕ) → p ≡ tried → tried < long → min (p + 1) long ≡ tried + 1
least_next p tried long e lt = omega arith

module _ (failed : Failed) (n : Name) (nesting : ℕ) (zone : Name) (ns : List Name) (tried : ℕ) (m : Name) (is : IsNext failed (frame_at nesting zone ns tried) tried m) where
  place : next_place failed (frame_at nesting zone ns tried) ≡ tried
  place = place_here (is_skipped failed (frame_at nesting zone ns tried)) ns tried m is.0 is.1 is.2

  has_turn : next_name failed (frame_at nesting zone ns tried) ≡ Some m
  has_turn = ap (slice_get ns) place ∙ (slice_get-get_or ns tried m is.0 ∙ ap Some (sym is.1))

  after_turn : turned failed (search_of n nesting zone ns tried) ≡ search_of n nesting zone ns (tried + 1)
  after_turn = ap (search_of n nesting zone ns) (least_next (next_place failed (frame_at nesting zone ns tried)) tried (length ns) place is.0)

-- ---- marks

-- The number of a name; those of all marked names are less than this one.
abbrev number_of : Name → ℕ
number_of ((b ∷ c ∷ l) ∷ ls) = c
number_of _ = 0

abbrev AreBefore : ℕ → Failed → Type 0
AreBefore c failed = (x : Name × ℕ) → Contains failed x → number_of x.0 < c

unmarked : (failed : Failed) (c : ℕ) (o : Name) (d : ℕ) → AreBefore c failed → has_failed failed (numbered c o) d ≡ false
unmarked failed c o d before = false_from_ne_true (has_failed failed (numbered c o) d)
    (λ t. let (least, there, within) = has_failed_is failed (numbered c o) d t in let less = before (numbered c o, least) there in absurd (omega (arith, less)))

marked_before : (failed : Failed) (c b d : ℕ) (o : Name) → AreBefore c failed → b < c → AreBefore c (marked failed (numbered b o) d)
marked_before failed c b d o before less x m = elim (marked_only failed (numbered b o) d x m) as (λ y. number_of x.0 < c) [
  | inl old ↦ before x old
  | inr new ↦ subst (λ (y : Name × ℕ). number_of y.0 < c) (sym new) less
]

later : (failed : Failed) (c e : ℕ) → c ≤ e → AreBefore c failed → AreBefore e failed
later failed c e le before x m = let less = before x m in omega arith

-- ---- the look-ups of names that do not exist

got : (k c i : ℕ) → i < k → numbered (c + i) root ≡ get_or (absent k c) i (numbered (c + i) root)
got zero c i lt = absurd (omega (arith, lt))
got (suc k) c zero lt = ap (λ (x : ℕ). numbered x root) (omega arith)
got (suc k) c (suc i) lt =
    let same : c + suc i ≡ c + 1 + i = omega arith in
    subst (λ (x : ℕ). numbered x root ≡ get_or (absent k (c + 1)) i (numbered x root)) (sym same) (got k (c + 1) i (omega (arith, lt)))

long : (k c : ℕ) → length (absent k c) ≡ k
long zero c = refl
long (suc k) c = ap suc (long k (c + 1))

abbrev Leads : Point → Type 0
Leads p = (count : ℕ) × Rules home 0 count (point Seek job0 stores0) p

on : (a b : Point) → Leads a → Rule home 0 a b → Leads b
on a b (count, rules) rule = (suc count, (a, rules, rule))

-- So many look-ups so far, and all marks are of less numbers.
record LooksUp (searches : List Search) (c count : ℕ) : Type 0 where
  failed : Failed
  before : AreBefore c failed
  leads : Leads (at (job_with searches failed count))

module _ (n zone : Name) (c : ℕ) (rest : List Search) (outside : (x : ℕ) → is_under (numbered x root) zone ≡ false) where
  abbrev inner : ℕ → Search
  inner tried = search_of n 1 zone (absent 16 c) tried

  is_next : (failed : Failed) (tried : ℕ) → tried < 16 → AreBefore (c + tried) failed → IsNext failed (frame_at 1 zone (absent 16 c) tried) tried (numbered (c + tried) root)
  is_next failed tried lt before =
      (omega (arith, lt, long 16 c), got 16 c tried lt, ap (λ (x : Bool). x || false || has_failed failed (numbered (c + tried) root) 2) (outside (c + tried)) ∙ unmarked failed (c + tried) root 2 before)

  looks_up_one : (tried count : ℕ) → tried < 16 → count < 64 → LooksUp (inner tried ∷ rest) (c + tried) count → LooksUp (inner (tried + 1) ∷ rest) (c + tried + 1) (count + 1)
  looks_up_one tried count lt few l =
      let m : Name = numbered (c + tried) root in
      let next : IsNext l.failed (frame_at 1 zone (absent 16 c) tried) tried m = is_next l.failed tried lt l.before in
      record {
        failed = marked l.failed m 0;
        before = marked_before l.failed (c + tried + 1) (c + tried) 0 root (later l.failed (c + tried) (c + tried + 1) (omega arith) l.before) (omega arith);
        leads = on (at (job_with (inner tried ∷ rest) l.failed count)) (at (job_with (inner (tried + 1) ∷ rest) (marked l.failed m 0) (count + 1))) l.leads
            (hears (inner tried) (turned l.failed (inner tried)) rest m (local_link m (NxDomain denial)) (marked l.failed m 0) refl
            (record { searches = refl; asked_all = refl; turn = has_turn l.failed n 1 zone (absent 16 c) tried m next; few = few })
            (finds_none (c + tried)) (record { is = inr (λ set e. cc, refl, refl) }) refl
            (ap (λ (s : Search). job_with (s ∷ rest) (marked l.failed m 0) (count + 1)) (sym (after_turn l.failed n 1 zone (absent 16 c) tried m next))));
      }

  same_counts : (a b d e p q : ℕ) → a ≡ b → d ≡ e → p ≡ q → LooksUp (inner a ∷ rest) d p → LooksUp (inner b ∷ rest) e q
  same_counts a b d e p q f g h l = subst (λ (x : ℕ). LooksUp (inner x ∷ rest) e q) f
      (subst (λ (x : ℕ). LooksUp (inner a ∷ rest) x q) g (subst (λ (x : ℕ). LooksUp (inner a ∷ rest) d x) h l))

  -- So many more.
  looks_up : (more tried count : ℕ) → tried + more ≤ 16 → count + more ≤ 64 → LooksUp (inner tried ∷ rest) (c + tried) count → LooksUp (inner (tried + more) ∷ rest) (c + tried + more) (count + more)
  looks_up zero tried count lt few l = same_counts tried (tried + 0) (c + tried) (c + tried + 0) count (count + 0) (omega arith) (omega arith) (omega arith) l
  looks_up (suc more) tried count lt few l =
      let one : LooksUp (inner (tried + 1) ∷ rest) (c + tried + 1) (count + 1) = looks_up_one tried count (omega (arith, lt)) (omega (arith, few)) l in
      let next : LooksUp (inner (tried + 1) ∷ rest) (c + (tried + 1)) (count + 1) =
      same_counts (tried + 1) (tried + 1) (c + tried + 1) (c + (tried + 1)) (count + 1) (count + 1) refl (omega arith) refl one in
      same_counts (tried + 1 + more) (tried + suc more) (c + (tried + 1) + more) (c + tried + suc more) (count + 1 + more) (count + suc more) (omega arith) (omega arith) (omega arith)
      (looks_up more (tried + 1) (count + 1) (omega (arith, lt)) (omega (arith, few)) next)

-- ---- the look-ups of names beneath other cuts

abbrev outer : ℕ → Search
outer tried = search_of host_name 0 host_name outers tried

numbered_is_name : (c b : ℕ) → c < 256 → folded c ≡ c → b < 256 → folded b ≡ b → IsName (numbered c (below b))
numbered_is_name c b fits lower also too = record {
  labels = (
    record { nonempty = omega arith; short = omega arith; bytes = (omega arith, refl, (fits, lower, tt)) },
    (record { nonempty = omega arith; short = omega arith; bytes = (also, too, tt) }, (l_label, refl)),
  );
  short = omega arith;
}

-- What is so of the next of those names: its number, and the cut above it.
record IsOuter (tried c b : ℕ) : Type 0 where
  there : (tried < 4) × (numbered c (below b) ≡ get_or outers tried (numbered c (below b)))
  outside : is_under (numbered c (below b)) host_name ≡ false
  misses : Misses home 0 (numbered c (below b)) 1 stores0 (cut_of (below b) (absent 16 (c + 1))) stores0

-- Its address is sought, one nesting deeper.
goes_down : (tried c b count : ℕ) → IsOuter tried c b → count < 64 → LooksUp (outer tried ∷ []) c count
    → LooksUp (search_of (numbered c (below b)) 1 (below b) (absent 16 (c + 1)) 0 ∷ outer (tried + 1) ∷ []) (c + 1) (count + 1)
goes_down tried c b count o few l =
    let m : Name = numbered c (below b) in
    let next : IsNext l.failed (frame_at 0 host_name outers tried) tried m =
    (o.there.0, o.there.1, ap (λ (x : Bool). x || false || has_failed l.failed m 1) o.outside ∙ unmarked l.failed c (below b) 1 l.before) in
    record {
      failed = l.failed;
      before = later l.failed c (c + 1) (omega arith) l.before;
      leads = on (at (job_with (outer tried ∷ []) l.failed count))
          (at (job_with (search_of m 1 (below b) (absent 16 (c + 1)) 0 ∷ outer (tried + 1) ∷ []) l.failed (count + 1))) l.leads
          (descends (outer tried) [] m (cut_of (below b) (absent 16 (c + 1))) refl
          (record { searches = refl; asked_all = refl; turn = has_turn l.failed host_name 0 host_name outers tried m next; few = few })
          o.misses refl
          (ap (λ (s : Search). job_with (search_of m 1 (below b) (absent 16 (c + 1)) 0 ∷ s ∷ []) l.failed (count + 1))
          (sym (after_turn l.failed host_name 0 host_name outers tried m next))));
    }

outside_below : (b x : ℕ) → is_under (numbered x root) (below b) ≡ false
outside_below b x = refl

no_more : (a : ℕ) → a ≡ a + 0
no_more a = omega arith

-- All sixteen servers of that cut are looked up in vain, and the search around goes on.
comes_back : (tried c b count : ℕ) → IsOuter tried c b → count + 17 ≤ 64 → LooksUp (outer tried ∷ []) c count → LooksUp (outer (tried + 1) ∷ []) (c + 17) (count + 1 + 16)
comes_back tried c b count o few l =
    let m : Name = numbered c (below b) in
    let down : LooksUp (search_of m 1 (below b) (absent 16 (c + 1)) 0 ∷ outer (tried + 1) ∷ []) (c + 1 + 0) (count + 1) =
    subst (λ (x : ℕ). LooksUp (search_of m 1 (below b) (absent 16 (c + 1)) 0 ∷ outer (tried + 1) ∷ []) x (count + 1)) (no_more (c + 1)) (goes_down tried c b count o (omega (arith, few)) l) in
    let all : LooksUp (search_of m 1 (below b) (absent 16 (c + 1)) 16 ∷ outer (tried + 1) ∷ []) (c + 1 + 0 + 16) (count + 1 + 16) =
    looks_up m (below b) (c + 1) (outer (tried + 1) ∷ []) (outside_below b) 16 0 (count + 1) (omega arith) (omega (arith, few)) down in
    record {
      failed = marked all.failed m 1;
      before = marked_before all.failed (c + 17) c 1 (below b) (later all.failed (c + 1 + 0 + 16) (c + 17) (omega arith) all.before) (omega arith);
      leads = on (at (job_with (search_of m 1 (below b) (absent 16 (c + 1)) 16 ∷ outer (tried + 1) ∷ []) all.failed (count + 1 + 16)))
          (at (job_with (outer (tried + 1) ∷ []) (marked all.failed m 1) (count + 1 + 16))) all.leads
          (gives_up (search_of m 1 (below b) (absent 16 (c + 1)) 16) (outer (tried + 1)) [] refl
          (record { searches = refl; asked_all = refl; none_left = refl }) refl refl refl);
    }

-- ---- the look-ups of this query

abbrev cut_denial : Record
cut_denial = entry lower_name soa_data

says_cut : (q : Name) (what : local.Local) → Some cut_zone ≡ zone_over home.zones q → local.local_by cut_denial cut_zone q 1 ≡ what → Says home q 1 what
says_cut q what over said = subst (Says home q 1) said
    (sym (looked_by home.zones q 1 cut_zone cut_denial over refl), looked_here home.zones q 1 cut_zone cut_denial over cut_named cut_rules refl)

first_outer : IsOuter 0 97 112
first_outer = record {
  there = (omega arith, refl);
  outside = refl;
  misses = misses_at (numbered 97 (below 112)) (below 112) (absent 16 98) (numbered_is_name 97 112 (omega arith) refl (omega arith) refl)
      (says_cut (numbered 97 (below 112)) (local.Cut (below 112) (served_by (below 112) (absent 16 98)) []) refl refl) refl refl;
}

second_outer : IsOuter 1 114 113
second_outer = record {
  there = (omega arith, refl);
  outside = refl;
  misses = misses_at (numbered 114 (below 113)) (below 113) (absent 16 115) (numbered_is_name 114 113 (omega arith) refl (omega arith) refl)
      (says_cut (numbered 114 (below 113)) (local.Cut (below 113) (served_by (below 113) (absent 16 115)) []) refl refl) refl refl;
}

third_outer : IsOuter 2 131 114
third_outer = record {
  there = (omega arith, refl);
  outside = refl;
  misses = misses_at (numbered 131 (below 114)) (below 114) (absent 16 132) (numbered_is_name 131 114 (omega arith) refl (omega arith) refl)
      (says_cut (numbered 131 (below 114)) (local.Cut (below 114) (served_by (below 114) (absent 16 132)) []) refl refl) refl refl;
}

fourth_outer : IsOuter 3 148 115
fourth_outer = record {
  there = (omega arith, refl);
  outside = refl;
  misses = misses_at (numbered 148 (below 115)) (below 115) (absent 16 149) (numbered_is_name 148 115 (omega arith) refl (omega arith) refl)
      (says_cut (numbered 148 (below 115)) (local.Cut (below 115) (served_by (below 115) (absent 16 149)) []) refl refl) refl refl;
}

begins : LooksUp (outer 0 ∷ []) 97 0
begins = record {
  failed = [];
  before = λ x m. absurd (none_in x m);
  leads = (
    1,
    (
      point Seek job0 stores0,
      refl,
      asks (cut_of host_name outers) refl (misses_at host_name host_name outers host_is_name (says_cut host_name (local.Cut host_name (served_by host_name outers) []) refl refl) refl refl) refl refl,
    ),
  );
}

-- Three of the four cuts, with 17 look-ups each.
three : LooksUp (outer 3 ∷ []) 148 51
three = comes_back 2 131 114 34 third_outer (omega arith) (comes_back 1 114 113 17 second_outer (omega arith) (comes_back 0 97 112 0 first_outer (omega arith) begins))

abbrev at_last : ℕ → Search
at_last tried = search_of (numbered 148 (below 115)) 1 (below 115) (absent 16 149) tried

-- The fourth one's name, and twelve of its servers: 64 in all.
enough : LooksUp (at_last 12 ∷ outer 4 ∷ []) 161 64
enough = looks_up (numbered 148 (below 115)) (below 115) 149 (outer 4 ∷ []) (outside_below 115) 12 0 52 (omega arith) (omega arith) (goes_down 3 148 115 51 fourth_outer (omega arith) three)

abbrev job_last : Job
job_last = job_with (at_last 12 ∷ outer 4 ∷ []) enough.failed 64

work : Advances home 0 Start job0 stores0 (Fail TooManyLookUps) job_last stores0
work = record {
  first = point Seek job0 stores0;
  count = enough.leads.0;
  last = at job_last;
  enters = refl;
  rules = enough.leads.1;
  leaves = looked_out (at_last 12) (outer 4 ∷ []) (numbered 161 root) refl
      (record {
        searches = refl;
        asked_all = refl;
        turn = has_turn enough.failed (numbered 148 (below 115)) 1 (below 115) (absent 16 149) 12 (numbered 161 root)
            (is_next (numbered 148 (below 115)) (below 115) 149 (outer 4 ∷ []) (outside_below 115) enough.failed 12 (omega arith) enough.before);
        many = omega arith;
      })
      refl refl;
}

-- ---- the step

look_ups_reply : IsReply who (outcome.Fail TooManyLookUps) (refusing TooManyLookUps)
unfolding encoding put put_flat
look_ups_reply = (encoding failed_reply, (refl, failed_is), refl)

module _ (g : ChaCha) where
  abbrev state0 : State
  state0 = record { site = site; clock = 0; stores = stores0; queries = []; opened = 0; tcp_asks = 0; generator = g }

  abbrev turn1 : Turn
  turn1 = record { event = Client 0 1 Udp client_bytes; served = Own; out = Some (refusing TooManyLookUps ∷ []) }

  step1 : Step state0 turn1.event turn1.served turn1.out state0
  step1 = record {
    turn = (
      request.Query query,
      is_asked,
      inr (
        refl,
        record {
          next = Fail TooManyLookUps;
          job = job_last;
          stores = stores0;
          advances = work;
          opened = at_once refl (λ ask. ask) (record {
            action = refusing TooManyLookUps;
            reply = look_ups_reply;
            out_is = refl;
            queries = record { stay = λ q m other. m; only = λ q m. absurd (none_in q m) };
            state = refl;
          });
        },
      ),
    );
    apart = tt;
  }

  stands_by : (seed : List ℕ) → g ≡ of_seed seed → TooManyLookUpsStands
  stands_by seed by_seed = (
    world,
    site,
    turn1 ∷ [],
    state0,
    record {
      world = world_stands;
      home = at_home;
      leads = (
        state0,
        record { site = refl; clock = refl; cache = refl; delegations = refl; penalties = refl; failures = refl; queries = refl; opened = refl; tcp_asks = refl; seeded = (seed, by_seed) },
        step1,
      );
      honest = (λ k a m accepts. absurd accepts.brings, tt);
    },
    record {
      who = who;
      last = turn1;
      run_is = refl;
      recursive_is = refl;
      came = record { is_served = refl; moment = 0; bytes = client_bytes; event = refl; reads = is_asked };
      bytes = encoding failed_reply;
      gives = first_in (refusing TooManyLookUps) [];
    },
  )

pub too_many_look_ups_stands : TooManyLookUpsStands
too_many_look_ups_stands = stands_by (of_seed []) [] refl
