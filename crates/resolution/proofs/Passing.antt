-- Servers that are passed over: what stays of the search and of the failures that are kept.
use Rattle.std.proofs.Common.{◌≡◌, ℕ, zero, suc, ◌+◌, Bool, true, false, cond, Option, Some, None, is_some, List, [], ◌∷◌, ◌++◌, drop, slice_get, inl, inr, refl, sym, ap, ◌∙◌, subst, add-one}
use Rattle.dname.specs.Labels.{Name}
use Rattle.rdata.specs.declared.addr.Addr.{Addr}
use Rattle.lru_laws.specs.Orders.{HasSame}
use Rattle.retry.specs.Plans.{Plan, upcoming, advanced}
use Rattle.cache.specs.Cached.{Hit}
use Rattle.cache.specs.Failures.{FailedAsk, is_failed}
use Rattle.cache.proofs.Failed.{used_fails, used_same}
use Rattle.referral.specs.Cuts.{Cut}
use Rattle.resolution.specs.Jobs.{Home, Stores, Taken, Search, given, ask_of, fails_now, left_of, first_without, next_server}
use Rattle.resolution.specs.Rules.{Finds, Misses, Hits, PassesOver}

abbrev Failures : Type 0
Failures = List (FailedAsk × ℕ)

-- ---- failures

pub passes_fails : (now n : ℕ) (s : Search) (fs : Failures) (t : Search) (gs : Failures) → PassesOver now n s fs t gs → (later : ℕ) (k : FailedAsk) → is_failed later k gs ≡ is_failed later k fs
passes_fails now zero s fs t gs (same, is) later k = ap (is_failed later k) is
passes_fails now (suc n) s fs t gs (mid, held, server, before, next, fails, one, is) later k =
    ap (is_failed later k) is ∙ (used_fails later (ask_of mid server) k held ∙ passes_fails now n s fs mid held before later k)

pub passes_members : (now n : ℕ) (s : Search) (fs : Failures) (t : Search) (gs : Failures) → PassesOver now n s fs t gs → HasSame fs gs
passes_members now zero s fs t gs (same, is) = subst (HasSame fs) (sym is) (λ x h. h, λ x h. h)
passes_members now (suc n) s fs t gs (mid, held, server, before, next, fails, one, is) =
    let first = passes_members now n s fs mid held before in
    let last = used_same (ask_of mid server) held in
    subst (HasSame fs) (sym is) (λ x h. first.0 x (last.0 x h), λ x h. last.1 x (first.1 x h))

pub found_failures : (home : Home) (now : ℕ) (n : Name) (t : ℕ) (old : Stores) (l : Taken) (new : Stores) → Finds home now n t old l new → new.failures ≡ old.failures
found_failures home now n t old l new h = elim h.is [
  | inl w ↦ ap (λ (s : Stores). s.failures) w.3
  | inr w ↦ hit w.0 w.1
]
  where
    hit : (e : Hit) → Hits home now n t old l e new → new.failures ≡ old.failures
    hit e x = ap (λ (s : Stores). s.failures) x.stores

pub missed_failures : (home : Home) (now : ℕ) (n : Name) (t : ℕ) (old : Stores) (c : Cut) (new : Stores) → Misses home now n t old c new → new.failures ≡ old.failures
missed_failures home now n t old c new h = ap (λ (s : Stores). s.failures) h.stores

-- ---- the search

-- What an address that is given out leaves.
pub passes_keep : (P : Search → Type 0) (now n : ℕ) (s : Search) (fs : Failures) (t : Search) (gs : Failures) → ((x : Search) → P x → P (given x)) → PassesOver now n s fs t gs → P s → P t
passes_keep P now zero s fs t gs step (same, is) h = subst P (sym same) h
passes_keep P now (suc n) s fs t gs step (mid, held, server, before, next, fails, one, is) h = subst P (sym one) (step mid (passes_keep P now n s fs mid held step before h))

pub passes_name : (now n : ℕ) (s : Search) (fs : Failures) (t : Search) (gs : Failures) → PassesOver now n s fs t gs → (t.name ≡ s.name) × (t.kind ≡ s.kind)
passes_name now n s fs t gs h = passes_keep (λ x. (x.name ≡ s.name) × (x.kind ≡ s.kind)) now n s fs t gs (λ x e. e) h (refl, refl)

-- The ask of one that is passed over is the search's.
pub passes_ask : (now n : ℕ) (s : Search) (fs : Failures) (t : Search) (gs : Failures) (a : Addr) → PassesOver now n s fs t gs → ask_of t a ≡ ask_of s a
passes_ask now n s fs t gs a h = let (name, kind) = passes_name now n s fs t gs h in λ i. record { name = name i; kind = kind i; server = a }

-- Whether a server fails is the same before and after.
pub passes_fails_now : (now n : ℕ) (s : Search) (fs : Failures) (t : Search) (gs : Failures) (a : Addr) → PassesOver now n s fs t gs → fails_now now gs t a ≡ fails_now now fs s a
passes_fails_now now n s fs t gs a h = passes_fails now n s fs t gs h now (ask_of t a) ∙ ap (λ k. is_failed now k fs) (passes_ask now n s fs t gs a h)

-- Where one is passed over, the next one failed.
pub passes_first : (now n : ℕ) (s : Search) (fs : Failures) (t : Search) (gs : Failures) → PassesOver now (suc n) s fs t gs
    → (server : Addr) × (upcoming (s.frame).plan ≡ Some server) × (fails_now now fs s server ≡ true)
passes_first now zero s fs t gs (mid, held, server, (same, is), next, fails, one, end) =
    (server, subst (λ (x : Search). upcoming (x.frame).plan ≡ Some server) same next, subst (λ (x : Search). fails_now now fs x server ≡ true) same (subst (λ (hs : Failures). fails_now now hs mid server ≡ true) is fails))
passes_first now (suc n) s fs t gs (mid, held, server, before, next, fails, one, end) = passes_first now n s fs mid held before

-- ---- plans

from_place : {X : Type 0} (n : ℕ) (xs : List X) (x : X) → slice_get xs n ≡ Some x → drop n xs ≡ x ∷ drop (suc n) xs
from_place n [] x e = absurd (cc)
from_place zero (y ∷ ys) x e = let same : y ≡ x = cc in ap (λ z. z ∷ ys) same
from_place (suc n) (y ∷ ys) x e = from_place n ys x e

-- What is left begins with what comes next.
pub left_first : (p : Plan) (a : Addr) → upcoming p ≡ Some a → left_of p ≡ a ∷ left_of (advanced p)
left_first p a e =
    let one : (advanced p).given ≡ suc p.given = ap (λ (o : Option Addr). cond (is_some o) (p.given + 1) p.given) e ∙ add-one p.given in
    from_place p.given (p.order ++ p.order) a e ∙ ap (λ (m : ℕ). a ∷ drop m (p.order ++ p.order)) (sym one)

past_end : {X : Type 0} (n : ℕ) (xs : List X) → slice_get xs n ≡ None → drop n xs ≡ []
past_end zero [] e = refl
past_end (suc n) [] e = refl
past_end zero (y ∷ ys) e = absurd (cc)
past_end (suc n) (y ∷ ys) e = past_end n ys e

pub none_left : (p : Plan) → upcoming p ≡ None → left_of p ≡ []
none_left p e = past_end p.given (p.order ++ p.order) e

-- ---- the first that does not fail

pub first_free : (fails : Addr → Bool) (a : Addr) (more : List Addr) → fails a ≡ false → first_without fails (a ∷ more) ≡ Some a
first_free fails a more h = ap (λ (b : Bool). cond b (first_without fails more) (Some a)) h

pub first_fails : (fails : Addr → Bool) (a : Addr) (more : List Addr) → fails a ≡ true → first_without fails (a ∷ more) ≡ first_without fails more
first_fails fails a more h = ap (λ (b : Bool). cond b (first_without fails more) (Some a)) h

pub same_first : (f g : Addr → Bool) (xs : List Addr) → ((a : Addr) → f a ≡ g a) → first_without f xs ≡ first_without g xs
same_first f g [] h = refl
same_first f g (a ∷ xs) h = λ i. cond (h a i) (same_first f g xs h i) (Some a)

-- Whom a search asks next stays.
pub passes_next : (now n : ℕ) (s : Search) (fs : Failures) (t : Search) (gs : Failures) → PassesOver now n s fs t gs → next_server now gs t ≡ next_server now fs s
passes_next now zero s fs t gs (same, is) = λ i. next_server now (is i) (same i)
passes_next now (suc n) s fs t gs (mid, held, server, before, next, fails, one, is) =
    ap (λ (x : Search). next_server now gs x) one
    ∙ (same_first (fails_now now gs (given mid)) (fails_now now held mid) (left_of (advanced (mid.frame).plan)) (λ a. ap (is_failed now (ask_of mid a)) is ∙ used_fails now (ask_of mid server) (ask_of mid a) held)
    ∙ (sym (ap (first_without (fails_now now held mid)) (left_first (mid.frame).plan server next) ∙ first_fails (fails_now now held mid) server (left_of (advanced (mid.frame).plan)) fails)
    ∙ passes_next now n s fs mid held before))
