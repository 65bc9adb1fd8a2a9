-- What stood in the run stands in the longer run.
use Rattle.std.proofs.Common.{◌≡◌, ℕ, inl, inr, Bool, true, List, [], ◌∷◌, sym, subst}
use Rattle.dname.specs.Labels.{Name}
use Rattle.rdata.specs.Records.{Record}
use Rattle.rdata.specs.declared.addr.Addr.{Addr}
use Rattle.front.specs.Chains.{alias_target}
use Rattle.resolution.specs.Jobs.{Home, Stores, Taken, Search, Job}
use Rattle.runs.specs.States.{Turn}
use Rattle.laws.specs.Spent.{IsAliasOf}
use Rattle.laws.proofs.TimelySearches.{Passed, SomeKnown, IsAsk}
use Rattle.laws.proofs.Grown.{Grows, asking_on, around_on, marks_on}
use Rattle.laws.proofs.Told.{AreTold}
use Rattle.laws.proofs.TimelyPoints.{OnTop}
use Rattle.laws.proofs.Chains.{LeadsOn}
use Rattle.laws.proofs.Leaving.{IsWaitingFor}

module _ (port : ℕ) (home : Home) (turn : Turn) (past : List Turn) where
  pub alias_later : (n : Name) (t : ℕ) (r : Record) → IsAliasOf port home past n t r → IsAliasOf port home (turn ∷ past) n t r
  alias_later n t r (inl s) = inl s
  alias_later n t r (inr (v, l, e, is)) = inr (v, l, inr e, is)

  pub leads_later : (t : ℕ) (from : Name) (chain : List Taken) (to : Name) → LeadsOn port home past t from chain to → LeadsOn port home (turn ∷ past) t from chain to
  leads_later t from [] to h = h
  leads_later t from (l ∷ ls) to (n, (r, is, a, more)) = (n, (r, is, alias_later from t r a, leads_later t (alias_target r) ls to more))

  pub told_later : (stores : Stores) → AreTold port home past stores → AreTold port home (turn ∷ past) stores
  told_later stores h = record {
    links = λ k e c. let (n, u, key, is) = h.links k e c in (n, u, key, inr is);
    cuts = λ n c m. let (name, (s, start, is)) = h.cuts n c m in (name, (s, inl start, is));
    low = h.low;
    failures = λ f since c. inr (h.failures f since c);
  }

-- An open query's work, in a run that grew, and where more is known.
module _ (port : ℕ) (home : Home) (old new : List Turn) (grows : Grows old new) (k : ℕ) (K M : Name → ℕ → Addr → Type 0) (f : (n : Name) (t : ℕ) (a : Addr) → K n t a → M n t a) where
  pub passed_on : (b : Bool) (n : Name) (t : ℕ) (a : Addr) → Passed b K n t a → Passed b M n t a
  passed_on b n t a (is, known) = (is, f n t a known)

  pub some_on : (b : Bool) → (b ≡ true → SomeKnown K) → b ≡ true → SomeKnown M
  some_on b some is = let (n, t, a, known) = some is in (n, t, a, f n t a known)

  leads_on : (t : ℕ) (from : Name) (chain : List Taken) (to : Name) → LeadsOn port home old t from chain to → LeadsOn port home new t from chain to
  leads_on t from chain to h = by grows
    where
      by : Grows old new → LeadsOn port home new t from chain to
      by (inl e) = subst (λ (run : List Turn). LeadsOn port home run t from chain to) (sym e) h
      by (inr (turn, e)) = subst (λ (run : List Turn). LeadsOn port home run t from chain to) (sym e) (leads_later port home turn old t from chain to h)

  pub work_on : (t : ℕ) (from : Name) (server : Addr) (n : Name) (u : ℕ) (j : Job) → IsWaitingFor port home old k K t from server n u j → IsWaitingFor port home new k M t from server n u j
  work_on t from server n u j h = record {
    top = by j.searches h.top;
    marks = marks_on port home old new grows k (Passed j.skipped K) (Passed j.skipped M) (passed_on j.skipped) j.failed h.marks;
    known = some_on j.skipped h.known;
    kind = h.kind;
    leads = leads_on t from j.chain j.name h.leads;
    few = h.few;
  }
    where
      by : (l : List Search) → OnTop port home k old (Passed j.skipped K) j.name j.kind l (λ s. IsAsk port home k old (Passed j.skipped K) s server × (n ≡ s.name) × (u ≡ s.kind))
          → OnTop port home k new (Passed j.skipped M) j.name j.kind l (λ s. IsAsk port home k new (Passed j.skipped M) s server × (n ≡ s.name) × (u ≡ s.kind))
      by [] h = absurd h
      by (s ∷ rest) ((asking, name, kind), around) = (
        (asking_on port home old new grows k (Passed j.skipped K) (Passed j.skipped M) (passed_on j.skipped) s server asking, name, kind),
        around_on port home old new grows k (Passed j.skipped K) (Passed j.skipped M) (passed_on j.skipped) j.name j.kind s.name s.kind (s.frame).nesting rest around,
      )
