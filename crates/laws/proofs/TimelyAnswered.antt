-- Whom the replies of a step are for.
use Rattle.std.proofs.Common.{◌≡◌, ℕ, ◌⊎◌, inl, inr, true, Option, List, [], ◌∷◌, Contains, sym, subst}
use Rattle.std.proofs.lemmas.List.Elements.{Contains-append_cases, Contains-append_left}
use Rattle.lru.proofs.Splits.{Contains-nil}
use Rattle.causes.specs.declared.cause.Cause.{Cause}
use Rattle.wire.specs.declared.via.Via.{Via}
use Rattle.front.specs.declared.queries.Outcome.{Outcome}
use Rattle.resolution.specs.Jobs.{Home, Stores}
use Rattle.runs.specs.States.{Action, Reply, MoreDue, Turn, Plain, ClientQuery, recursive, Open, State}
use Rattle.runs.specs.Messages.{IsReply}
use Rattle.runs.specs.Steps.{Ends, Waits, IsFollowed}
use Rattle.runs.specs.Replies.{IsServedFor, Refuses}
use Rattle.laws.specs.Replies.{RepliesWith}
use Rattle.laws.proofs.TimelyOpens.{alone, no_reply}

-- ---- replies

module _ (home : Home) (turn : Turn) (past : List Turn) (Good : ClientQuery → Outcome Plain → Turn → List Turn → Type 0) where
  abbrev pub AreAnswered : List Action → Type 0
  AreAnswered out = (client : ℕ) (way : Via) (bytes : List ℕ) (c : Option Cause) → Contains out (Reply client way bytes c)
      → Refuses (Reply client way bytes c) turn ⊎ RepliesWith home Good (Reply client way bytes c) turn past

  pub ends_answered : (s new : State) (who : ClientQuery) (k : ℕ) (o : Outcome Plain) (stores : Stores) (out : List Action) → Ends s who k o stores out new → IsServedFor who turn past → recursive who.query ≡ true
      → Good who o turn past → AreAnswered out
  ends_answered s new who k o stores out e served wanted good client way bytes c there =
      let same = alone e.action (Reply client way bytes c) (subst (λ (l : List Action). Contains l (Reply client way bytes c)) e.out_is there) in
      inr (record { who = who; served = served; result = o; reply = subst (IsReply who o) same e.reply; is = inr (wanted, good) })

  pub waits_answered : (s after_s : State) (port : ℕ) (after : Open) (opened asks : ℕ) (stores : Stores) (out : List Action) → Waits s after opened asks stores out after_s → AreAnswered out
  waits_answered s new port after opened asks stores out w client way bytes c there =
      let same = alone w.action (Reply client way bytes c) (subst (λ (l : List Action). Contains l (Reply client way bytes c)) w.out_is there) in
      absurd (no_reply (s.site).port after.ask client way bytes c w.action w.sent same)

  pub none_answered : (out : List Action) → out ≡ [] → AreAnswered out
  none_answered out e client way bytes c there = absurd (Contains-nil (Reply client way bytes c) (subst (λ (l : List Action). Contains l (Reply client way bytes c)) e there))

  pub followed_answered : (first out : List Action) (new : State) → IsFollowed first out new → AreAnswered first → AreAnswered out
  followed_answered first out new (inl (e, due)) a client way bytes c there =
      elim (Contains-append_cases first (MoreDue ∷ []) (Reply client way bytes c) (subst (λ (l : List Action). Contains l (Reply client way bytes c)) e there)) [
        | inl d ↦ a client way bytes c d
        | inr d ↦ absurd (no_more (alone MoreDue (Reply client way bytes c) d))
      ]
    where
      no_more : MoreDue ≡ Reply client way bytes c → ⊥
      no_more e = cc
  followed_answered first out new (inr (e, none)) a client way bytes c there = a client way bytes c (subst (λ (l : List Action). Contains l (Reply client way bytes c)) e there)

pub followed_gives : (first out : List Action) (new : State) → IsFollowed first out new → (a : Action) → Contains first a → Contains out a
followed_gives first out new (inl (e, due)) a c = subst (λ (l : List Action). Contains l a) (sym e) (Contains-append_left first (MoreDue ∷ []) a c)
followed_gives first out new (inr (e, none)) a c = subst (λ (l : List Action). Contains l a) (sym e) c
