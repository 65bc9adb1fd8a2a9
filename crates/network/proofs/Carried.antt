-- Along the lines of a network: a run of its resolver in which every accepted message is an honest one.
use Rattle.std.proofs.Common.{◌≡◌, ℕ, ◌-◌, ◌<◌, ◌⊎◌, inl, inr, ⊎_elim, zero, suc, Bool, true, false, cond, nat_eq, Option, Some, None, List, [], ◌∷◌, ◌++◌, slice_get, refl, sym, ap, ◌∙◌, subst, arith}
use Rattle.std.specs.Prelude.{Contains}
use Rattle.zone.proofs.LawLists.{none_in, first_in, later_in, in_cases}
use Rattle.world_truth.specs.Worlds.{World, IsWorld}
use Rattle.world_truth.specs.Serving.{MayServe}
use Rattle.runs.specs.States.{Endpoint, endpoint, Path, ByUdp, ByTcp, Ask, Turn, Site}
use Rattle.runs.specs.States as resolver
use Rattle.runs.specs.Messages.{sending, IsSent}
use Rattle.runs.specs.Runs.{Run, Earlier, GivesOut, IsOpenAskOf, Accepts}
use Rattle.laws.specs.Headline.{IsHonest}
use Rattle.laws.proofs.Every.{sound_run}
use Rattle.laws.proofs.RightLists.{both_cases, front_in}
use Rattle.network.specs.Networks.{Sent, Network, NetworkAction, Reply, sent_at, sends_among, sends_in, NetworkStep, Passes}
use Rattle.network.specs.Laws.{Line, NetworkRun, Shows, IsQuiet, Follows, IsResolverRun, NetworkIsRun, NetworkHeadline}
use Rattle.network.proofs.Asked.{AsksTcp, quiet, asks, step_asks}
use Rattle.network.proofs.Brought.{IsAskOf, reached_serves}
use Rattle.network.proofs.Follows.{lines_right}

-- ---- asks that went out

got_in : (xs : List Sent) (i : ℕ) (x : Sent) → slice_get xs i ≡ Some x → Contains xs x
got_in [] i x e = absurd (cc)
got_in (y ∷ ys) zero x e = let same : y ≡ x = cc in subst (Contains (y ∷ ys)) same (first_in y ys)
got_in (y ∷ ys) (suc i) x e = later_in y x ys (got_in ys i x e)

sent_in : (sends : List Sent) (k : ℕ) (x : Sent) → sent_at sends k ≡ Some x → Contains sends x
sent_in sends k x e = by (nat_eq k 0) e
  where
    by : (b : Bool) → cond b None (slice_get sends (k - 1)) ≡ Some x → Contains sends x
    by true e = absurd (cc)
    by false e = got_in sends (k - 1) x e

tcp_sent : ℕ → Endpoint → List ℕ → Sent
tcp_sent number to bytes = record { path = ByTcp number; to = to; bytes = bytes }

-- What went out over TCP is among the sends, and what is among them went out.
among_out : (out : List resolver.Action) (x : Sent) (number : ℕ) → x.path ≡ ByTcp number → Contains (sends_among out) x → Contains out (resolver.TcpAsk number x.to x.bytes)
among_out [] x number path m = absurd (none_in x m)
among_out (resolver.Reply client way bytes c ∷ out) x number path m = later_in (resolver.Reply client way bytes c) _ out (among_out out x number path m)
among_out (resolver.Send sock to bytes ∷ out) x number path m = ⊎_elim
    (λ e. let f : ByUdp sock ≡ ByTcp number = ap (λ (y : Sent). y.path) e ∙ path in absurd (cc))
    (λ more. later_in (resolver.Send sock to bytes) _ out (among_out out x number path more))
    (in_cases (record { path = ByUdp sock; to = to; bytes = bytes }) x (sends_among out) m)
among_out (resolver.TcpAsk n to bytes ∷ out) x number path m = ⊎_elim
    (λ e. let f : ByTcp n ≡ ByTcp number = ap (λ (y : Sent). y.path) e ∙ path in
    let a : n ≡ number = cc in
    let same : resolver.TcpAsk n to bytes ≡ resolver.TcpAsk number x.to x.bytes = λ i. resolver.TcpAsk (a i) ((ap (λ (y : Sent). y.to) e) i) ((ap (λ (y : Sent). y.bytes) e) i) in
    subst (Contains (resolver.TcpAsk n to bytes ∷ out)) same (first_in (resolver.TcpAsk n to bytes) out))
    (λ more. later_in (resolver.TcpAsk n to bytes) _ out (among_out out x number path more))
    (in_cases (record { path = ByTcp n; to = to; bytes = bytes }) x (sends_among out) m)
among_out (resolver.MoreDue ∷ out) x number path m = later_in resolver.MoreDue _ out (among_out out x number path m)

out_among : (out : List resolver.Action) (number : ℕ) (to : Endpoint) (bytes : List ℕ) → Contains out (resolver.TcpAsk number to bytes) → Contains (sends_among out) (record { path = ByTcp number; to = to; bytes = bytes })
out_among [] number to bytes m = absurd (none_in _ m)
out_among (resolver.Reply client way bs c ∷ out) number to bytes m = ⊎_elim (λ e. absurd (cc)) (λ more. out_among out number to bytes more) (in_cases (resolver.Reply client way bs c) _ out m)
out_among (resolver.Send sock at bs ∷ out) number to bytes m = ⊎_elim (λ e. absurd (cc))
    (λ more. later_in (record { path = ByUdp sock; to = at; bytes = bs }) _ (sends_among out) (out_among out number to bytes more)) (in_cases (resolver.Send sock at bs) _ out m)
out_among (resolver.TcpAsk n at bs ∷ out) number to bytes m = ⊎_elim
    (λ e. let a : n ≡ number = cc in let b : at ≡ to = cc in let c : bs ≡ bytes = cc in
    subst (Contains (sends_among (resolver.TcpAsk n at bs ∷ out))) (λ i. record { path = ByTcp (a i); to = b i; bytes = c i }) (first_in (record { path = ByTcp n; to = at; bytes = bs }) (sends_among out)))
    (λ more. later_in (record { path = ByTcp n; to = at; bytes = bs }) _ (sends_among out) (out_among out number to bytes more)) (in_cases (resolver.TcpAsk n at bs) _ out m)
out_among (resolver.MoreDue ∷ out) number to bytes m = ⊎_elim (λ e. absurd (cc)) (λ more. out_among out number to bytes more) (in_cases resolver.MoreDue _ out m)

in_out : (out : Option (List resolver.Action)) (x : Sent) (number : ℕ) → x.path ≡ ByTcp number → Contains (sends_in out) x → GivesOut out (resolver.TcpAsk number x.to x.bytes)
in_out None x number path m = absurd (none_in x m)
in_out (Some out) x number path m = among_out out x number path m

out_in : (out : Option (List resolver.Action)) (number : ℕ) (to : Endpoint) (bytes : List ℕ) → GivesOut out (resolver.TcpAsk number to bytes) → Contains (sends_in out) (record { path = ByTcp number; to = to; bytes = bytes })
out_in None number to bytes m = absurd m
out_in (Some out) number to bytes m = out_among out number to bytes m

back_in : (xs ys : List Sent) (x : Sent) → Contains ys x → Contains (xs ++ ys) x
back_in [] ys x m = m
back_in (y ∷ xs) ys x m = later_in y x (xs ++ ys) (back_in xs ys x m)

-- One number over TCP is one server's.
pub record AreSends (s : Network) (run : List Turn) : Type 0 where
  pub below : (x : Sent) (n : ℕ) → Contains s.sends x → x.path ≡ ByTcp n → n < (s.resolver).tcp_asks
  pub one : (x y : Sent) (n : ℕ) → Contains s.sends x → Contains s.sends y → x.path ≡ ByTcp n → y.path ≡ ByTcp n → x.to ≡ y.to
  pub went : (n : ℕ) (to : Endpoint) (bytes : List ℕ) → Earlier (λ t past. GivesOut t.out (resolver.TcpAsk n to bytes)) run → (x : Sent) × Contains s.sends x × (x.path ≡ ByTcp n) × (x.to ≡ to)

module _ (old new : Network) (run : List Turn) (t : Turn) (before : AreSends old run) (sends : new.sends ≡ old.sends ++ sends_in t.out) where
  abbrev Where : Sent → Type 0
  Where x = Contains old.sends x ⊎ Contains (sends_in t.out) x

  where_is : (x : Sent) → Contains new.sends x → Where x
  where_is x m = both_cases old.sends (sends_in t.out) x (subst (λ (l : List Sent). Contains l x) sends m)

  kept : (x : Sent) → Contains old.sends x → Contains new.sends x
  kept x m = subst (λ (l : List Sent). Contains l x) (sym sends) (front_in old.sends (sends_in t.out) x m)

  added : (x : Sent) → Contains (sends_in t.out) x → Contains new.sends x
  added x m = subst (λ (l : List Sent). Contains l x) (sym sends) (back_in old.sends (sends_in t.out) x m)

  went_on : (n : ℕ) (to : Endpoint) (bytes : List ℕ) → GivesOut t.out (resolver.TcpAsk n to bytes) ⊎ Earlier (λ u past. GivesOut u.out (resolver.TcpAsk n to bytes)) run
      → (x : Sent) × Contains new.sends x × (x.path ≡ ByTcp n) × (x.to ≡ to)
  went_on n to bytes (inl here) = (record { path = ByTcp n; to = to; bytes = bytes }, added _ (out_in t.out n to bytes here), refl, refl)
  went_on n to bytes (inr earlier) = let (x, there, path, same) = before.went n to bytes earlier in (x, kept x there, path, same)

  sends_on : AsksTcp old.resolver t.out new.resolver → AreSends new (t ∷ run)
  sends_on (quiet none e) = record {
    below = λ x n m path. subst (λ (k : ℕ). n < k) (sym e) (before.below x n (was x n path (where_is x m)) path);
    one = λ x y n mx my px py. before.one x y n (was x n px (where_is x mx)) (was y n py (where_is y my)) px py;
    went = went_on;
  }
    where
      was : (x : Sent) (n : ℕ) → x.path ≡ ByTcp n → Where x → Contains old.sends x
      was x n path (inl m) = m
      was x n path (inr m) = absurd (none n x.to x.bytes (in_out t.out x n path m))
  sends_on (asks at one e) = record {
    below = λ x n m path. below x n path (where_is x m);
    one = λ x y n mx my px py. pair x y n px py (where_is x mx) (where_is y my);
    went = went_on;
  }
    where
      of : (x : Sent) (n : ℕ) → x.path ≡ ByTcp n → Contains (sends_in t.out) x → (n ≡ (old.resolver).tcp_asks) × (x.to ≡ at)
      of x n path m = one n x.to x.bytes (in_out t.out x n path m)

      below : (x : Sent) (n : ℕ) → x.path ≡ ByTcp n → Where x → n < (new.resolver).tcp_asks
      below x n path (inl m) = let less = before.below x n m path in omega (arith, less, e)
      below x n path (inr m) = let same = (of x n path m).0 in omega (arith, same, e)

      pair : (x y : Sent) (n : ℕ) → x.path ≡ ByTcp n → y.path ≡ ByTcp n → Where x → Where y → x.to ≡ y.to
      pair x y n px py (inl mx) (inl my) = before.one x y n mx my px py
      pair x y n px py (inl mx) (inr my) = let less = before.below x n mx px in let same = (of y n py my).0 in absurd (omega (arith, less, same))
      pair x y n px py (inr mx) (inl my) = let less = before.below y n my py in let same = (of x n px mx).0 in absurd (omega (arith, less, same))
      pair x y n px py (inr mx) (inr my) = (of x n px mx).1 ∙ sym (of y n py my).1

-- The server of an open ask over TCP is the one that it went out to.
sending_tcp : (port : ℕ) (a : Ask) (number : ℕ) (action : resolver.Action) → a.path ≡ ByTcp number → IsSent port a action → (bytes : List ℕ) × (action ≡ resolver.TcpAsk number (endpoint a.server port) bytes)
sending_tcp port a number action path (bytes, written, is) = (bytes, is ∙ ap (λ (p : Path). sending port a p bytes) path)

went_out : (port k : ℕ) (a : Ask) (number : ℕ) (run : List Turn) → a.path ≡ ByTcp number → IsOpenAskOf port k a run
    → (bytes : List ℕ) × Earlier (λ t past. GivesOut t.out (resolver.TcpAsk number (endpoint a.server port) bytes)) run
went_out port k a number [] path none = absurd none
went_out port k a number (t ∷ past) path (inl (served, (action, out, sent))) =
    let (bytes, is) = sending_tcp port a number action path sent in (bytes, inl (subst (GivesOut t.out) is out))
went_out port k a number (t ∷ past) path (inr (other, more)) = let (bytes, earlier) = went_out port k a number past path more in (bytes, inr earlier)

ask_of : (s : Network) (run : List Turn) (port k : ℕ) (a : Ask) → AreSends s run → IsOpenAskOf port k a run → (j : ℕ) (x : Sent) → sent_at s.sends j ≡ Some x → IsAskOf a x
ask_of s run port k a sends asked j x at number path is =
    let (bytes, earlier) = went_out port k a number run path asked in
    let (y, there, its, to) = sends.went number (endpoint a.server port) bytes earlier in
    ap (λ (p : Endpoint). p.address) (sends.one x y number (sent_in s.sends j x at) there is its ∙ to)

-- ---- along the lines

pub record Along (W : World) (site : Site) (lines : List Line) (s : Network) : Type 0 where
  pub run : List Turn
  pub legal : Run site run s.resolver
  pub world : s.world ≡ W
  pub honest : IsHonest W site.port run
  pub sends : AreSends s run
  pub follows : Follows lines run

module _ (W : World) (w : IsWorld W) (site : Site) (l : Line) (past : List Line) (old new : Network) (so : Along W site past old) where
  stands_still : new ≡ old → IsQuiet l → Along W site (l ∷ past) new
  stands_still same quiet_line = subst (Along W site (l ∷ past)) (sym same)
      (record { run = so.run; legal = so.legal; world = so.world; honest = so.honest; sends = so.sends; follows = inl (quiet_line, so.follows) })

  passes_on : Passes old l.event l.out new → Along W site (l ∷ past) new
  passes_on h = record {
    run = t ∷ so.run;
    legal = (old.resolver, so.legal, h.step);
    world = h.world ∙ so.world;
    honest = (honest, so.honest);
    sends = sends_on old new so.run t so.sends h.sends (step_asks old.resolver h.brought h.served h.actions new.resolver h.step);
    follows = inr (t, so.run, refl, record { old = old; new = new.resolver; reaches = h.reaches; step = h.step; out = h.out_is }, so.follows);
  }
    where
      t : Turn
      t = record { event = h.brought; served = h.served; out = h.actions }

      honest : (k : ℕ) (a : Ask) (m : _) → Accepts site.port k a m t so.run → MayServe W (a.server).0 a.name a.kind m
      honest k a m accepts = subst (λ (V : World). MayServe V (a.server).0 a.name a.kind m) so.world
          (reached_serves old (subst IsWorld (sym so.world) w) site.port a m l.event h.brought (ask_of old so.run site.port k a so.sends accepts.ask) h.reaches accepts.brings)

  goes_on : NetworkStep old l.event l.out new → Along W site (l ∷ past) new
  goes_on (inl (none, out, same)) = stands_still same (λ client way bytes c m. none_in _ (subst (λ (o : Option (List NetworkAction)). Shows o (Reply client way bytes c)) out m))
  goes_on (inr (inl (out, same))) = stands_still same (λ client way bytes c m. subst (λ (o : Option (List NetworkAction)). Shows o (Reply client way bytes c)) out m)
  goes_on (inr (inr h)) = passes_on h

along : (W : World) (site : Site) (lines : List Line) (s : Network) → IsWorld W → NetworkRun W site lines s → Along W site lines s
along W site [] s w fresh = record {
  run = [];
  legal = fresh.resolver;
  world = fresh.world;
  honest = tt;
  sends = record {
    below = λ x n m path. absurd (none_in x (subst (λ (l : List Sent). Contains l x) fresh.sends m));
    one = λ x y n mx my px py. absurd (none_in x (subst (λ (l : List Sent). Contains l x) fresh.sends mx));
    went = λ n to bytes none. absurd none;
  };
  follows = refl;
}
along W site (l ∷ past) s w (old, legal, step) = goes_on W w site l past old s (along W site past old w legal) step

pub every_network_is_run : NetworkIsRun
every_network_is_run W site lines s w ours legal =
    let so = along W site lines s w legal in
    record { run = so.run; legal = so.legal; follows = so.follows; honest = so.honest; right = (sound_run W site so.run s.resolver w ours so.legal so.honest).1 }

pub every_reply_is_right : NetworkHeadline
every_reply_is_right W site lines s w ours legal = let is : IsResolverRun W site lines s = every_network_is_run W site lines s w ours legal in lines_right W lines is.run is.follows is.right
