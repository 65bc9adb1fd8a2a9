-- The actions of a step, one at most; which query a step serves; and which events are a client's.
use Rattle.std.proofs.Common.{◌≡◌, ℕ, true, false, Option, List, [], ◌∷◌, sym, subst}
use Rattle.std.specs.Prelude.{Contains}
use Rattle.zone.proofs.LawLists.{none_in, first_in}
use Rattle.causes.specs.declared.cause.Cause.{Cause}
use Rattle.wire.specs.declared.via.Via.{Via}
use Rattle.front.specs.declared.queries.Request.{Request}
use Rattle.front.specs.declared.queries.Request.TheVariants as request
use Rattle.runs.specs.States.{Event, Client, Datagram, TcpReply, TcpFailed, Tick, Action, Reply, MoreDue, Nobody, Own, OpenQuery, Plain, Path, ByUdp, ByTcp, Ask}
use Rattle.runs.specs.Messages.{sending}
use Rattle.laws.proofs.RightLists.{only_one}

pub no_reply_sent : {P : Type 0} (port : ℕ) (a : Ask) (path : Path) (bytes sent : List ℕ) (client : ℕ) (way : Via) (c : Option Cause) → sending port a path sent ≡ Reply client way bytes c → P
no_reply_sent port a (ByUdp sock) bytes sent client way c e = cc
no_reply_sent port a (ByTcp number) bytes sent client way c e = cc

pub more_is_no_reply : {P : Type 0} (client : ℕ) (way : Via) (bytes : List ℕ) (c : Option Cause) → MoreDue ≡ Reply client way bytes c → P
more_is_no_reply client way bytes c e = cc

pub reply_parts : {c d : ℕ} {v w : Via} {x y : List ℕ} {e f : Option Cause} → Reply c v x e ≡ Reply d w y f → (c ≡ d) × (v ≡ w) × (x ≡ y)
reply_parts h = (cc, cc, cc)

pub own_not_query : {P : Type 0} (k : ℕ) → Own ≡ OpenQuery k → P
own_not_query k e = cc

pub nobody_not_query : {P : Type 0} (k : ℕ) → Nobody ≡ OpenQuery k → P
nobody_not_query k e = cc

pub one_query : (k n : ℕ) → OpenQuery k ≡ OpenQuery n → k ≡ n
one_query k n e = cc

pub false_not_true : {P : Type 0} → false ≡ true → P
false_not_true e = cc

-- The only action of a step.
pub only_action : (out : List Action) (x y : Action) → out ≡ x ∷ [] → Contains out y → x ≡ y
only_action out x y is m = only_one x y (subst (λ (l : List Action). Contains l y) is m)

pub no_action : {P : Type 0} (out : List Action) (y : Action) → out ≡ [] → Contains out y → P
no_action out y is m = absurd (none_in y (subst (λ (l : List Action). Contains l y) is m))

pub there : (out : List Action) (x : Action) → out ≡ x ∷ [] → Contains out x
there out x is = subst (λ (l : List Action). Contains l x) (sym is) (first_in x [])

abbrev pub IsNoQuery : Request Plain → Type 0
IsNoQuery request.Drop = Unit {0}
IsNoQuery (request.Refuse refusal start echo) = Unit {0}
IsNoQuery (request.Query q) = ⊥

abbrev pub IsNoClient : Event → Type 0
IsNoClient (Client now client way bytes) = ⊥
IsNoClient (Datagram now sock from bytes) = Unit {0}
IsNoClient (TcpReply now number bytes) = Unit {0}
IsNoClient (TcpFailed now number) = Unit {0}
IsNoClient (Tick now) = Unit {0}
