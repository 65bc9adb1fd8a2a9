-- A chain of aliases while it is followed.
use Rattle.std.proofs.Common.{◌≡◌, ◌≢◌, ◌∙◌, sym, ap, subst, inl, inr, arith, true, ℕ, ◌+◌, ◌≤◌, List, [], ◌∷◌, ◌++◌, length, length-append, refl}
use Rattle.rdata.specs.Records.{Record}
use Rattle.zone.specs.Links.{Alias}
use Rattle.zone.specs.Look.{Local, Linked}
use Rattle.causes.specs.declared.cause.Cause.TheVariants.{ChainTooLong}
use Rattle.front.specs.Chains.{AliasesLead, FollowsOn, IsEndAt, alias_target}
use Rattle.front.specs.declared.queries.End.{End}
use Rattle.front.specs.declared.queries.Outcome.TheVariants.{Answer, Fail}

-- From the asked name, of which `first` is said, at most eight aliases led to a name of which `found` is said.
pub record Going (look : List (List ℕ) → Local) (first : Local) (aliases : List Record) (found : Local) : Type 0 where
  pub few : length aliases ≤ 8
  pub so_far : (name : List (List ℕ)) → look name ≡ first → (to : List (List ℕ)) × AliasesLead look name aliases to × (look to ≡ found)

-- One alias more.
pub leads-more : (look : List (List ℕ) → Local) (from to : List (List ℕ)) (rs : List Record) (r : Record) → AliasesLead look from rs to
    → look to ≡ Linked (Alias r) → AliasesLead look from (rs ++ r ∷ []) (alias_target r)
leads-more look from to [] r is says = (ap look (sym is) ∙ says, refl)
leads-more look from to (a ∷ rs) r leads says = (leads.0, leads-more look (alias_target a) to rs r leads.1 says)

long-more : (rs : List Record) (r : Record) → length (rs ++ r ∷ []) ≡ length rs + 1
long-more rs r = length-append rs (r ∷ [])

pub going-more : (look : List (List ℕ) → Local) (first : Local) (rs longer : List Record) (found next : Local) (r : Record) → Going look first rs found
    → found ≡ Linked (Alias r) → length rs ≢ 8 → next ≡ look (alias_target r) → longer ≡ rs ++ r ∷ [] → Going look first longer next
going-more look first rs longer found next r going is other says same = record {
  few = subst (λ (xs : List Record). length xs ≤ 8) (sym same) (let long = long-more rs r in let few : length rs ≤ 8 = going.few in omega arith);
  so_far = λ name from. let at = going.so_far name from in
      (alias_target r, subst (λ (xs : List Record). AliasesLead look name xs (alias_target r)) (sym same) (leads-more look name at.0 rs r at.1 (at.2 ∙ is)), sym says);
}

pub going-ends : {A : Type 0} (look : List (List ℕ) → Local) (first : Local) (rs : List Record) (found : Local) (end : End A) → Going look first rs found
    → IsEndAt found end → (name : List (List ℕ)) → look name ≡ first → FollowsOn look name (Answer true rs end)
going-ends look first rs found end going ends name from =
    let at = going.so_far name from in
    inl (rs, end, record { to = at.0; leads = at.1; few = going.few; ends = subst (λ (l : Local). IsEndAt l end) (sym at.2) ends }, refl)

pub going-long : {A : Type 0} (look : List (List ℕ) → Local) (first : Local) (rs : List Record) (found : Local) (r : Record) → Going look first rs found
    → found ≡ Linked (Alias r) → length rs ≡ 8 → (name : List (List ℕ)) → look name ≡ first → FollowsOn {A = A} look name (Fail ChainTooLong)
going-long look first rs found r going is eight name from =
    let at = going.so_far name from in
    inr (
      record {
        aliases = rs ++ r ∷ [];
        to = alias_target r;
        leads = leads-more look name at.0 rs r at.1 (at.2 ∙ is);
        nine = long-more rs r ∙ ap (λ n. n + 1) eight;
      },
      refl,
    )
