-- What scripts ask, where they have `at` and `ask` lines only.
use Rattle.std.specs.Prelude.{◌≡◌, ℕ, ◌+◌, Bool, ◌⊎◌, List, [], ◌∷◌, length}
use Rattle.dname.specs.Labels.{Name}
use Rattle.rdata.specs.Types.{type_number}
use Rattle.rdata.specs.declared.rtype.RType.{RType}
use Rattle.wire.specs.declared.via.Via.{Via}
use Rattle.message_grammar.specs.Messages.{encoding}
use Rattle.script.specs.Orders.{Order, at, ask, raw, carry, truncate, lose, run, tick}
use Rattle.score.specs.Clients.{Queries, IsHeard, query_for}
use Rattle.storm.specs.declared.query.StormQuery.{StormQuery}

-- One query more, at a moment: its client has the next number.
pub record AsksOne {A : Type 0} (now : ℕ) (name : Name) (kind : RType) (by : Via) (rd : Bool) (q : StormQuery A) (old new : Queries) : Type 0 where
  pub moment : q.moment ≡ now
  pub client : q.client ≡ length old + 1
  pub way : q.way ≡ by
  pub bytes : q.bytes ≡ encoding (query_for (length old + 1) name (type_number kind) rd)
  pub heard : IsHeard q.bytes old new

-- A script asks these queries, in their order.
abbrev pub AsksQueries : {A : Type 0} → ℕ → List Order → Queries → List (StormQuery A) → Queries → Type 0
AsksQueries now [] old qs new = (qs ≡ []) × (new ≡ old)
AsksQueries now (at n ∷ os) old qs new = AsksQueries n os old qs new
AsksQueries {A} now (ask name kind by rd ∷ os) old qs new =
    (q : StormQuery A) × (rest : List (StormQuery A)) × (middle : Queries) × (qs ≡ q ∷ rest) × AsksOne now name kind by rd q old middle × AsksQueries now os middle rest new
AsksQueries now (raw bytes by ∷ os) old qs new = ⊥
AsksQueries now (carry k ∷ os) old qs new = ⊥
AsksQueries now (truncate k ∷ os) old qs new = ⊥
AsksQueries now (lose k ∷ os) old qs new = ⊥
AsksQueries now (run ∷ os) old qs new = ⊥
AsksQueries now (tick ∷ os) old qs new = ⊥

-- So do several, one list for each, with clients numbered on.
abbrev pub AsksAll : {A : Type 0} → List (List Order) → Queries → List (List (StormQuery A)) → Queries → Type 0
AsksAll [] old lists new = (lists ≡ []) × (new ≡ old)
AsksAll {A} (script ∷ scripts) old lists new =
    (list : List (StormQuery A)) × (rest : List (List (StormQuery A))) × (middle : Queries) × (lists ≡ list ∷ rest)
    × AsksQueries 0 script old list middle × AsksAll scripts middle rest new

-- A script has another line than `at` and `ask`.
abbrev pub HasOther : List Order → Type 0
HasOther [] = ⊥
HasOther (at n ∷ os) = HasOther os
HasOther (ask name kind by rd ∷ os) = HasOther os
HasOther _ = Unit {0}

-- One of several has.
abbrev pub OneHasOther : List (List Order) → Type 0
OneHasOther [] = ⊥
OneHasOther (script ∷ scripts) = HasOther script ⊎ OneHasOther scripts
