-- A run of workers as a history of the network.
use Rattle.std.proofs.Common.{ℕ, Some, None, Result, Ok, Err, List, [], ◌∷◌, MatchResult, map, reverse, sym, subst}
use Rattle.memory.specs.declared.Starved.{Starved}
use Rattle.book.specs.Histories.{Line, LeadsMachine}
use Rattle.world_truth.specs.Worlds.{World}
use Rattle.runs.specs.States.{Site}
use Rattle.network.specs.Networks.{Network, NetworkEvent, NetworkAction, NetworkStep}
use Rattle.network.specs.Laws.{IsFresh, NetworkRun, Throughout, RepliesAreRight, NetworkHeadline}
use Rattle.simnet.specs.Beginnings.{Begins}
use Rattle.simnet.specs.Promises.{Moves}
use Rattle.simnet.specs.Views.{sim_event_view}
use Rattle.workers.specs.Runs.{HaveRun}
use Rattle.storm.specs.Runs.{Entry, IsRunOf, AreRight, out_of, seen}
use Rattle.storm.specs.declared.query.StormQuery.{StormQuery}

-- a run from one of some starts, all of which are among others
pub begun_as : {S Q E O : Type 0} (moves : S → E → Result O Starved → S → Type 0) (B C : S → Type 0) (event_of : Q → E) (follow_ups : E → Result O Starved → List E)
    (queries : List (List Q)) (h : List (Line E O)) (lists : List (List (Line E O))) → ((s : S) → B s → C s) → HaveRun moves B event_of follow_ups queries h lists → HaveRun moves C event_of follow_ups queries h lists
begun_as moves B C event_of follow_ups queries h lists f r =
    record { start = r.start; begun = f r.start r.begun; state = r.state; legal = r.legal; many = r.many; kept = r.kept; worked = r.worked }

-- a step as the laws speak of it
pub stepped : (old : Network) (event : NetworkEvent) (out : Result (List NetworkAction) Starved) (new : Network)
    → MatchResult out (λ o. NetworkStep old event (Some o) new) (λ _. NetworkStep old event None new) → NetworkStep old event (out_of out) new
stepped old event (Ok out) new h = h
stepped old event (Err e) new h = h

pub along : {A : Type 0} (W : World) (site : Site) (n : ℕ) (start : Network) (es : List (Entry A)) (t : Network) → IsFresh W site start → LeadsMachine Moves n start es t → NetworkRun W site (map seen es) t
along W site n start [] t fresh h = subst (λ s. IsFresh W site s) h fresh
along W site n start (e ∷ es) t fresh h = (h.0, along W site n start es h.0 fresh h.1, stepped h.0 (sim_event_view e.event) e.out t h.2)

-- its replies are right
pub right : {A : Type 0} (start : Network) (queries : List (List (StormQuery A))) (h : List (Entry A)) (lists : List (List (Entry A)))
    → NetworkHeadline → Begins start → IsRunOf start queries h lists → AreRight start h
right start queries h lists law b r =
    let fresh : IsFresh b.world b.site r.start = subst (λ s. IsFresh b.world b.site s) (sym r.begun) b.fresh in
    subst (λ W. Throughout (RepliesAreRight W) (map seen (reverse h))) (sym (b.fresh).world)
    (law b.world b.site (map seen (reverse h)) r.state b.well_formed b.home (along b.world b.site _ r.start (reverse h) r.state fresh r.legal))
