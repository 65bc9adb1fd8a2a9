-- The names that the aliases of a query's chain lead through, and that the rules keep them so.
use Rattle.std.proofs.Common.{◌≡◌, ℕ, zero, suc, ◌≤◌, List, [], ◌∷◌, ◌++◌, length, refl, sym, ap, ◌∙◌, subst, arith, length-append}
use Rattle.dname.specs.Labels.{Name}
use Rattle.rdata.specs.Records.{Record}
use Rattle.rdata.specs.declared.addr.Addr.{Addr}
use Rattle.zone.specs.Links.{Alias}
use Rattle.front.specs.Chains.{alias_target}
use Rattle.resolution.specs.Jobs.{Home, Taken, Job, Task, Seek, Take, Go, Again, Point}
use Rattle.resolution.specs.Rules.{Rule, takes, asks, follows, restarts, skips, hears, descends, gives_up, Rules}
use Rattle.runs.specs.States.{Turn}
use Rattle.laws.specs.Spent.{IsAliasOf, AcceptedAliasesLead}
use Rattle.laws.proofs.Told.{AreTold, found_alias, found_name}
use Rattle.laws.proofs.TimelyPoints.{IsSound, Lately, rule_keeps}

module _ (port : ℕ) (home : Home) (run : List Turn) (t : ℕ) where
  abbrev pub LeadsOn : Name → List Taken → Name → Type 0
  LeadsOn from [] to = to ≡ from
  LeadsOn from (l ∷ ls) to = (l.name ≡ from) × ((r : Record) × (l.link ≡ Alias r) × IsAliasOf port home run from t r × LeadsOn (alias_target r) ls to)

  pub leads_more : (from : Name) (chain : List Taken) (to : Name) (l : Taken) (r : Record) → LeadsOn from chain to → l.name ≡ to → l.link ≡ Alias r → IsAliasOf port home run to t r
      → LeadsOn from (chain ++ l ∷ []) (alias_target r)
  leads_more from [] to l r h name is alias = (name ∙ h, (r, is, subst (λ (n : Name). IsAliasOf port home run n t r) h alias, refl))
  leads_more from (x ∷ xs) to l r (n, (q, e, a, more)) name is alias = (n, (q, e, a, leads_more (alias_target q) xs to l r more name is alias))

  nothing_past : {X P : Type 0} (front back : List X) (d : X) → [] ≡ front ++ d ∷ back → P
  nothing_past [] back d e = absurd (cc)
  nothing_past (x ∷ front) back d e = absurd (cc)

  leads_to : (from : Name) (chain : List Taken) (to : Name) (l : Taken) (front : List Taken) (d : Taken) (back : List Taken) → LeadsOn from chain to → l.name ≡ to
      → chain ++ l ∷ [] ≡ front ++ d ∷ back → LeadsOn from front d.name
  leads_to from [] to l [] d back h name e = let same : l ≡ d = cc in sym (ap (λ (x : Taken). x.name) same) ∙ (name ∙ h)
  leads_to from [] to l (y ∷ ys) d back h name e = let rest : [] ≡ ys ++ d ∷ back = cc in nothing_past ys back d rest
  leads_to from (x ∷ xs) to l [] d back h name e = let same : x ≡ d = cc in sym (ap (λ (y : Taken). y.name) same) ∙ h.0
  leads_to from (x ∷ xs) to l (y ∷ ys) d back (n, (r, is, a, more)) name e =
      let same : x ≡ y = cc in
      let rest : xs ++ l ∷ [] ≡ ys ++ d ∷ back = cc in
      (sym (ap (λ (z : Taken). z.name) same) ∙ n, (r, sym (ap (λ (z : Taken). z.link) same) ∙ is, a, leads_to (alias_target r) xs to l ys d back more name rest))

  -- A link that is due is the current name's.
  abbrev pub IsOfName : Name → Task → Type 0
  IsOfName n Seek = Unit {0}
  IsOfName n (Take l) = (l.name ≡ n) × ((r : Record) → l.link ≡ Alias r → IsAliasOf port home run n t r)
  IsOfName n Go = Unit {0}
  IsOfName n (Again a) = Unit {0}

  pub record IsReached (from : Name) (task : Task) (j : Job) : Type 0 where
    pub kind : j.kind ≡ t
    pub leads : LeadsOn from j.chain j.name
    pub few : length j.chain ≤ 8
    pub link : IsOfName j.name task

  reached_at : (from : Name) (p : Point) (task : Task) (j : Job) → p.task ≡ task → p.job ≡ j → IsReached from task j → IsReached from p.task p.job
  reached_at from p task j te je h = subst (λ (x : Task). IsReached from x p.job) (sym te) (subst (IsReached from task) (sym je) h)

  at_take : (from : Name) (p : Point) (l : Taken) → p.task ≡ Take l → IsReached from p.task p.job → IsOfName (p.job).name (Take l)
  at_take from p l te h = subst (IsOfName (p.job).name) te h.link

  short_front : (xs front back : List Taken) (l d : Taken) → length xs ≤ 8 → xs ++ l ∷ [] ≡ front ++ d ∷ back → length front ≤ 8
  short_front xs front back l d le e =
      let long = ap length e in
      let first = length-append xs (l ∷ []) in
      let second = length-append front (d ∷ back) in
      omega arith

  pub rule_reaches : (now : ℕ) (from : Name) (a b : Point) → AreTold port home run a.stores → IsReached from a.task a.job → Rule home now a b → IsReached from b.task b.job
  rule_reaches now from a b told h (takes l task finds to job) = reached_at from b (Take l) a.job to job (record {
    kind = h.kind;
    leads = h.leads;
    few = h.few;
    link = (
      found_name port home run now (a.job).name (a.job).kind a.stores b.stores l finds,
      λ r e. subst (λ (u : ℕ). IsAliasOf port home run (a.job).name u r) h.kind (found_alias port home run now (a.job).name (a.job).kind a.stores b.stores l r told finds e),
    );
  })
  rule_reaches now from a b told h (asks c task misses to job) = reached_at from b Go _ to job (record { kind = h.kind; leads = h.leads; few = h.few; link = tt })
  rule_reaches now from a b told h (follows l r task is few to job stores) =
      let take = at_take from a l task h in
      let sum = length-append (a.job).chain (l ∷ []) in
      reached_at from b Seek _ to job (record { kind = h.kind; leads = leads_more from (a.job).chain (a.job).name l r h.leads take.0 is (take.1 r is); few = omega arith; link = tt })
  rule_reaches now from a b told h (restarts l d front back task ending is fresh dead to job stores) =
      let take = at_take from a l task h in
      reached_at from b Seek _ to job (record { kind = h.kind; leads = leads_to from (a.job).chain (a.job).name l front d back h.leads take.0 is; few = short_front (a.job).chain front back l d h.few is; link = tt })
  rule_reaches now from a b told h (skips n s u rest failures task searches passes free to job stores) = reached_at from b Go _ to job (record { kind = h.kind; leads = h.leads; few = h.few; link = tt })
  rule_reaches now from a b told h (hears before after rest n l marks task turn finds hears_of to job) = reached_at from b Go _ to job (record { kind = h.kind; leads = h.leads; few = h.few; link = tt })
  rule_reaches now from a b told h (descends s rest n c task turn misses to job) = reached_at from b Go _ to job (record { kind = h.kind; leads = h.leads; few = h.few; link = tt })
  rule_reaches now from a b told h (gives_up s around rest task up to job stores) = reached_at from b Go _ to job (record { kind = h.kind; leads = h.leads; few = h.few; link = tt })

  -- The aliases' records.
  pub led : (from : Name) (chain : List Taken) (to : Name) → LeadsOn from chain to → (rs : List Record) × (length rs ≡ length chain) × AcceptedAliasesLead port home run t from rs to
  led from [] to h = ([], refl, h)
  led from (l ∷ ls) to (n, (r, is, a, more)) = let (rs, len, leads) = led (alias_target r) ls to more in (r ∷ rs, ap suc len, (a, leads))

module _ (port : ℕ) (home : Home) (run : List Turn) (t : ℕ) (k : ℕ) (K : Name → ℕ → Addr → Type 0) where
  pub rules_reach : (Truncates : Addr → Name → ℕ → Type 0) (now : ℕ) → Lately port home k run K Truncates now → (n : ℕ) (from : Name) (a b : Point) → IsSound port home k run K Truncates a
      → IsReached port home run t from a.task a.job → Rules home now n a b → IsSound port home k run K Truncates b × IsReached port home run t from b.task b.job
  rules_reach Truncates now lately zero from a b sound h is = (subst (IsSound port home k run K Truncates) (sym is) sound, subst (λ (p : Point). IsReached port home run t from p.task p.job) (sym is) h)
  rules_reach Truncates now lately (suc n) from a b sound h (mid, before, last) =
      let (s, r) = rules_reach Truncates now lately n from a mid sound h before in
      (rule_keeps port home k run K Truncates now lately mid b s last, rule_reaches port home run t now from mid b s.told r last)
