-- One event, from what the network did and what was printed of it.
use Rattle.std.proofs.Common.{◌≡◌, refl, ℕ, Option, Some, None, List, [], ◌∷◌, ◌++◌, codes, sym, subst, append-nil}
use Rattle.network.specs.Networks.{Network, NetworkEvent, NetworkAction, NetworkStep}
use Rattle.play.specs.Counts.{CountsAll}
use Rattle.play.specs.Plays.{Seen, Happens}
use Rattle.play.specs.Seen.{with_text, ActsAll, Heeds}
use Rattle.play.specs.Shown.{client_of, drop_line, PutsOut}

module _ (event : NetworkEvent) (old new : Seen) (N : Network) where
  acted : (out : List NetworkAction) → NetworkStep old.network event (Some out) N → ActsAll out (record old { network = N }) new
      → PutsOut N.sends (client_of event) out old.text new.text → Happens event old new
  acted out step acts puts = record {
    out = Some out;
    step = subst (λ (s : Network). NetworkStep old.network event (Some out) s) (sym acts.network) step;
    clients = acts.clients;
    sends = acts.sends;
    counts = subst (λ (s : Network). CountsAll s.world old.clients out old.count new.count) (sym acts.network) acts.counts;
    prints = subst (λ (s : Network). PutsOut s.sends (client_of event) out old.text new.text) (sym acts.network) puts;
  }

  -- No client's.
  pub happened : (out : List NetworkAction) → client_of event ≡ None → NetworkStep old.network event (Some out) N → ActsAll out (record old { network = N }) new → Happens event old new
  happened out none step acts = acted out step acts (subst (λ (c : Option ℕ). PutsOut N.sends c out old.text new.text) (sym none) acts.prints)

  -- A client's.
  pub heeded : (out : List NetworkAction) (client : ℕ) → client_of event ≡ Some client → NetworkStep old.network event (Some out) N
      → Heeds client out (record old { network = N }) new → Happens event old new
  heeded [] client some step same = subst (λ (s : Seen). Happens event old s) (sym same) (record {
    out = Some [];
    step = step;
    clients = refl;
    sends = sym (append-nil old.sends);
    counts = refl;
    prints = subst (λ (c : Option ℕ). PutsOut N.sends c [] old.text (old.text ++ drop_line client)) (sym some) refl;
  })
  heeded (a ∷ rest) client some step acts = acted (a ∷ rest) step acts (subst (λ (c : Option ℕ). PutsOut N.sends c (a ∷ rest) old.text new.text) (sym some) acts.prints)

  -- Memory was wanting.
  pub starved : NetworkStep old.network event None N → new ≡ with_text (codes "starved\n") (record old { network = N }) → Happens event old new
  starved step same = subst (λ (s : Seen). Happens event old s) (sym same) (record {
    out = None;
    step = step;
    clients = refl;
    sends = sym (append-nil old.sends);
    counts = refl;
    prints = refl;
  })
