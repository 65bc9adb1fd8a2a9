-- Scripts read one after the other, and what a storm is refused for.
use Rattle.std.proofs.Common.{◌≡◌, refl, ℕ, zero, suc, ◌+◌, ◌<◌, inl, inr, List, [], ◌∷◌, ◌++◌, Option, length, take, map, get_or, sym, ◌∙◌, ap, ap₂, subst, arith, Result, Ok, Err, IfOk, IfErr, IsErrAnd}
use Rattle.std.proofs.lemmas.List.{map-append, take_more}
use Rattle.script.specs.Orders.{Order}
use Rattle.pool.specs.declared.fault.PoolError.{PoolError}
use Rattle.pool.specs.declared.fault.PoolError.TheVariants as threads
use Rattle.commands.specs.Faults.{pool_fault}
use Rattle.world_text.specs.Readings.{Said}
use Rattle.world_text.specs.WorldTexts.{zones_of}
use Rattle.world_text.specs.Worlds.{IsWorldOf, said_world}
use Rattle.world_truth.specs.Worlds.{World}
use Rattle.commands.specs.Runs.{IsAllowed, shown}
use Rattle.commands.specs.Storms.{HoldsAsks, HoldsNoAsks, HoldAsks, RefusesOne, IsRunFault}
use Rattle.commands.specs.declared.fault.Fault.{Fault}
use Rattle.commands.specs.declared.fault.Fault.TheVariants.{Memory}

pub run_fault : (e : PoolError) → IsRunFault (pool_fault e)
run_fault threads.Memory = inl refl
run_fault threads.Differs = inr (threads.Differs, refl)
run_fault threads.Forgot = inr (threads.Forgot, refl)
run_fault threads.Stranger = inr (threads.Stranger, refl)

module _ {X : Type 0} (known : X → Option (Option (List ℕ))) where
  asks_more : (xs : List X) (scripts : List (List Order)) (x : X) (orders : List Order) → HoldAsks known xs scripts → HoldsAsks (known x) orders
      → HoldAsks known (xs ++ x ∷ []) (scripts ++ orders ∷ [])
  asks_more [] [] x orders h more = (more, tt)
  asks_more [] (o ∷ os) x orders h more = absurd h
  asks_more (y ∷ ys) [] x orders h more = absurd h
  asks_more (y ∷ ys) (o ∷ os) x orders h more = (h.0, asks_more ys os x orders h.1 more)

  -- One script more is read.
  pub asks_step : {S : Type 0} (view : S → List Order) (xs : List X) (i : ℕ) (x : X) (ss ts : List S) (s : S) → i < length xs → x ≡ get_or xs i x
      → HoldAsks known (take i xs) (map view ss) → HoldsAsks (known x) (view s) → ts ≡ ss ++ s ∷ [] → HoldAsks known (take (i + 1) xs) (map view ts)
  asks_step {S} view xs i x ss ts s lt at_i so_far more is =
      subst (HoldAsks known (take (i + 1) xs)) (sym (map-append view ss (s ∷ [])) ∙ ap (λ (l : List S). map view l) (sym is))
      (subst (λ (ys : List X). HoldAsks known ys (map view ss ++ view s ∷ [])) (sym (take_more xs i x lt ∙ ap (λ (y : X). take i xs ++ y ∷ []) (sym at_i)))
      (asks_more (take i xs) (map view ss) x (view s) so_far more))

module _ {X : Type 0} (held : List ℕ → Option (Option (List ℕ))) (bytes : X → List ℕ) where
  -- Those before one that is refused are read.
  pub refuses_at : (xs : List X) (scripts : List (List Order)) (i : ℕ) (x : X) (f : Fault) → i < length xs → x ≡ get_or xs i x
      → HoldAsks (λ p. held (bytes p)) (take i xs) scripts → HoldsNoAsks held (bytes x) f → RefusesOne held bytes xs f
  refuses_at [] scripts i x f lt at_i so_far bad = absurd (omega (arith, lt))
  refuses_at (y ∷ ys) scripts zero x f lt at_i so_far bad = inl (subst (λ z. HoldsNoAsks held (bytes z) f) at_i bad)
  refuses_at (y ∷ ys) [] (suc i) x f lt at_i so_far bad = absurd so_far
  refuses_at (y ∷ ys) (orders ∷ scripts) (suc i) x f lt at_i so_far bad = inr (orders, so_far.0, refuses_at ys scripts i x f (omega (arith, lt)) at_i so_far.1 bad)

  pub memory_refuses : (xs : List X) (f : Fault) → f ≡ Memory → RefusesOne held bytes xs f
  memory_refuses [] f is = is
  memory_refuses (x ∷ xs) f is = inl (subst (HoldsNoAsks held (bytes x)) (sym is) tt)

-- ---- a text says one world

ok_same : {T E : Type 0} {x y : T} → (let r : Result T E = Ok x in r) ≡ Ok y → x ≡ y
ok_same e = cc

pub one_world : (text : List ℕ) (W V : World) → IsWorldOf text W → IsWorldOf text V → V ≡ W
one_world text W V w v =
    let said : v.said ≡ w.said = ok_same (sym v.says ∙ w.says) in
    let zones : V.zones ≡ W.zones = ok_same (sym (v.stands).zones ∙ ap (λ (s : Said). zones_of s.blocks) said ∙ (w.stands).zones) in
    (v.stands).is ∙ ap₂ said_world said zones ∙ sym (w.stands).is

pub err_weaker : {T E : Type 0} (r : Result T E) (P Q : E → Type 0) → ((e : E) → P e → Q e) → IsErrAnd r P → IfErr r Q
err_weaker (Ok x) P Q f h = tt
err_weaker (Err e) P Q f h = f e h

-- What came out is allowed, where its text is one of these and its fault one of those.
pub ran : {S : Type 0} (bytes : S → List ℕ) (P : List ℕ → Type 0) (Q : Fault → Type 0) (r : Result S Fault) → IfOk r (λ s. P (bytes s)) → IfErr r Q → IsAllowed P Q (shown bytes r)
ran bytes P Q (Ok s) ok err = ok
ran bytes P Q (Err f) ok err = err
