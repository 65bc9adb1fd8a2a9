-- One step of a network.
use Rattle.std.proofs.Common.{◌≡◌, ◌∙◌, inl, inr, Option, Some, None, Result, Ok, Err, OnErr, option_map, List, [], ◌∷◌, ◌++◌, length, refl, sym, ap, subst}
use Rattle.std.proofs.lemmas.List.{append-nil}
use Rattle.world_truth.specs.Worlds.{World}
use Rattle.runs.specs.States as resolver
use Rattle.engine.specs.Promises.{Steps}
use Rattle.network.specs.Networks.{Sent, Network, NetworkEvent, NetworkAction, Reaches, NetworkStep, numbered, sends_among, sends_in, shown}
use Rattle.network.specs.Laws.{NetworkHeadline, NetworkIsRun}
use Rattle.simnet.specs.Promises.{StaysRight, StaysRun}

at_err : {T E P : Type 0} (r : Result T E) → P → OnErr r P
at_err (Ok x) h = tt
at_err (Err e) h = h

-- The resolver took a step by what reached it.
module _ (old new : Network) (brought : resolver.Event) (actions : Option (List resolver.Action)) where
  pub passes : Steps old.resolver brought actions new.resolver → new.world ≡ old.world → new.sends ≡ old.sends ++ sends_in actions
      → (e : NetworkEvent) → Reaches old e (Some brought) → NetworkStep old e (shown (length old.sends) actions) new
  passes h world sends e reaches = inr (inr (record {
    brought = brought;
    reaches = reaches;
    served = h.served;
    actions = actions;
    step = h.step;
    world = world;
    sends = sends;
    out_is = refl;
  }))

-- Memory was wanting before that step, or in it.
module _ (old new : Network) (world : new.world ≡ old.world) (sends : new.sends ≡ old.sends) where
  pub stays_put : new.resolver ≡ old.resolver → (e : NetworkEvent) → NetworkStep old e None new
  stays_put resolver e = inr (inl (refl, λ i. record { world = world i; resolver = resolver i; sends = sends i }))

  pub starves : (brought : resolver.Event) → Steps old.resolver brought None new.resolver → (e : NetworkEvent) → Reaches old e (Some brought) → NetworkStep old e None new
  starves brought h e reaches = passes old new brought None h world (sends ∙ sym (append-nil old.sends)) e reaches

-- The same of the network that was lent: its world, its resolver and its asks, before the step and after it.
abbrev pub network_of : World → resolver.State → List Sent → Network
network_of world state sends = record { world = world; resolver = state; sends = sends }

abbrev pub Passing : Network → resolver.Event → Option (List NetworkAction) → Network → Type 0
Passing old brought out new = (e : NetworkEvent) → Reaches old e (Some brought) → NetworkStep old e out new

module _ (world : World) (was : resolver.State) (sends reserved : List Sent) (old : Network) (brought : resolver.Event) (is : network_of world was sends ≡ old) (same : reserved ≡ sends) where
  pub passed : (now : resolver.State) (noted : List Sent) (actions : List resolver.Action) (out : List NetworkAction) → Steps was brought (Some actions) now
      → out ≡ numbered (length reserved) actions → noted ≡ reserved ++ sends_among actions → Passing old brought (Some out) (network_of world now noted)
  passed now noted actions out h out_is noted_is =
      subst (λ (o : Network). Passing o brought (Some out) (network_of world now noted)) is
      (λ e reaches. subst (λ (shows : List NetworkAction). NetworkStep (network_of world was sends) e (Some shows) (network_of world now noted))
      (sym (out_is ∙ ap (λ (l : List Sent). numbered (length l) actions) same))
      (passes (network_of world was sends) (network_of world now noted) brought (Some actions) h refl (noted_is ∙ ap (λ (l : List Sent). l ++ sends_among actions) same) e reaches))

  pub starved_before : {T E : Type 0} (r : Result T E) → OnErr r (Passing old brought None (network_of world was reserved))
  starved_before r =
      at_err r (subst (λ (o : Network). Passing o brought None (network_of world was reserved)) is
      (λ e reaches. stays_put (network_of world was sends) (network_of world was reserved) refl same refl e))

  pub starved_within : {T E : Type 0} (r : Result T E) (now : resolver.State) → Steps was brought None now → OnErr r (Passing old brought None (network_of world now reserved))
  starved_within r now h =
      at_err r (subst (λ (o : Network). Passing o brought None (network_of world now reserved)) is
      (λ e reaches. starves (network_of world was sends) (network_of world now reserved) refl same brought h e reaches))

-- Something reaches the resolver, or nothing.
pub comes : {B : Type 0} (view : B → resolver.Event) (old : Network) (event : NetworkEvent) (reached : Option B) (brought : B)
    → Reaches old event (option_map view reached) → reached ≡ Some brought → Reaches old event (Some (view brought))
comes {B} view old event reached brought reaches some = subst (λ (b : Option B). Reaches old event (option_map view b)) some reaches

pub is_quiet : {B : Type 0} (view : B → resolver.Event) (old : Network) (event : NetworkEvent) (brought : Option B) (out : List NetworkAction)
    → Reaches old event (option_map view brought) → brought ≡ None → out ≡ [] → NetworkStep old event (Some out) old
is_quiet {B} view old event brought out reaches none empty =
    inl (subst (λ (b : Option B). Reaches old event (option_map view b)) none reaches, ap (λ (l : List NetworkAction). Some l) empty, refl)

pub is_starved : {T E : Type 0} (r : Result T E) (old : Network) (event : NetworkEvent) → OnErr r (NetworkStep old event None old)
is_starved r old event = at_err r (inr (inl (refl, refl)))

module _ (law : NetworkHeadline) (s : Network) (event : NetworkEvent) (out : Option (List NetworkAction)) (new : Network) where
  pub stays_right : NetworkStep s event out new → StaysRight s event out
  stays_right step W site past w home run = law W site (record { event = event; out = out } ∷ past) new w home (s, run, step)

module _ (law : NetworkIsRun) (s : Network) (event : NetworkEvent) (out : Option (List NetworkAction)) (new : Network) where
  pub stays_run : NetworkStep s event out new → StaysRun s event out new
  stays_run step W site past w home run = law W site (record { event = event; out = out } ∷ past) new w home (s, run, step)
