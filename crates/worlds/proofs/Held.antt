-- The zones that the resolver itself holds.
use Rattle.std.proofs.Common.{◌≡◌, ◌≢◌, ℕ, ◌+◌, ◌<◌, Bool, true, false, cond, List, [], ◌∷◌, ◌++◌, length, take, get_or, sym, ◌∙◌, ap, subst}
use Rattle.std.proofs.lemmas.List.{append-nil}
use Rattle.std.specs.Prelude.{Contains, filter}
use Rattle.std.proofs.lemmas.List.Elements.{filter_more}
use Rattle.zone.specs.Zones.{Zone}
use Rattle.zone.proofs.LawLists.{filter_of, filter_in}
use Rattle.world_truth.specs.Frames.{AreHeld}
use Rattle.world_truth.specs.Worlds.{World, HaveOwnOrigins}
use Rattle.worlds.specs.Rules.{has_name}
use Rattle.worlds.proofs.Worlds.{yes_name}

module _ (p : Zone → Bool) (zs : List Zone) (i : ℕ) (z : Zone) (old : List Zone) (b : Bool) where
  step : i < length zs → z ≡ get_or zs i z → b ≡ p z → filter p (take (i + 1) zs) ≡ filter p (take i zs) ++ cond b (z ∷ []) []
  step lt e eb =
      filter_more p zs i z lt ∙ (ap (λ (y : Zone). filter p (take i zs) ++ cond (p y) (y ∷ []) []) (sym e)
      ∙ ap (λ (c : Bool). filter p (take i zs) ++ cond c (z ∷ []) []) (sym eb))

  -- A zone more that is held, or that is not.
  pub held_more : (new : List Zone) → i < length zs → z ≡ get_or zs i z → b ≡ p z → b ≡ true → old ≡ filter p (take i zs) → new ≡ old ++ z ∷ [] → new ≡ filter p (take (i + 1) zs)
  held_more new lt e eb t eo en =
      en ∙ (ap (λ (ys : List Zone). ys ++ z ∷ []) eo ∙ sym (step lt e eb ∙ ap (λ (c : Bool). filter p (take i zs) ++ cond c (z ∷ []) []) t))

  pub passed_over : i < length zs → z ≡ get_or zs i z → b ≡ p z → b ≡ false → old ≡ filter p (take i zs) → old ≡ filter p (take (i + 1) zs)
  passed_over lt e eb f eo =
      eo ∙ sym (step lt e eb ∙ (ap (λ (c : Bool). filter p (take i zs) ++ cond c (z ∷ []) []) f ∙ append-nil (filter p (take i zs))))

pub are_held : (W : World) (zs : List Zone) → zs ≡ filter (λ (z : Zone). has_name z.origin W.locals) W.zones → AreHeld W zs
are_held W zs e z = (
  λ m. let k = filter_of (λ (y : Zone). has_name y.origin W.locals) W.zones z (subst (λ (ys : List Zone). Contains ys z) e m) in (k.0, (yes_name z.origin W.locals).so k.1),
  λ h. subst (λ (ys : List Zone). Contains ys z) (sym e) (filter_in (λ (y : Zone). has_name y.origin W.locals) W.zones z h.0 ((yes_name z.origin W.locals).test h.1)),
)

-- Some of the zones are as far apart as all.
parted_with : (p : Zone → Bool) (z : Zone) (zs : List Zone) (b : Bool) → ((y : Zone) → Contains zs y → y.origin ≢ z.origin) → HaveOwnOrigins (filter p zs) → HaveOwnOrigins (cond b (z ∷ filter p zs) (filter p zs))
parted_with p z zs true apart rest = (λ y m. apart y ((filter_of p zs y m).0), rest)
parted_with p z zs false apart rest = rest

pub parted_some : (p : Zone → Bool) (zs : List Zone) → HaveOwnOrigins zs → HaveOwnOrigins (filter p zs)
parted_some p [] h = tt
parted_some p (z ∷ zs) h = parted_with p z zs (p z) h.0 (parted_some p zs h.1)
