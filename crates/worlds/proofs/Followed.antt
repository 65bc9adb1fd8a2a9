-- A server's chain of aliases, followed to what stands behind it.
use Rattle.std.proofs.Common.{◌≡◌, ◌∙◌, sym, subst, inl, inr, List, length, refl}
use Rattle.dname.specs.Labels.{Name}
use Rattle.rdata.specs.Records.{Record}
use Rattle.zone.specs.Links.{Alias}
use Rattle.zone.specs.Look.{Local, Linked}
use Rattle.front.specs.Chains.{IsEndAt}
use Rattle.front.specs.declared.queries.End.{End}
use Rattle.front.specs.declared.queries.End.TheVariants.{Outside}
use Rattle.front.proofs.Following.{Going}
use Rattle.worlds.specs.Hosting.{IsFollowed}

pub followed_to_end : {A : Type 0} (look : Name → Local) (first : Local) (rs : List Record) (found : Local) (end : End A) → Going look first rs found
    → IsEndAt found end → (name : Name) → look name ≡ first → IsFollowed look name rs end
followed_to_end look first rs found end going ends name from =
    let at = going.so_far name from in
    record { to = at.0; leads = at.1; few = going.few; ends = inl (subst (λ (l : Local). IsEndAt l end) (sym at.2) ends) }

pub followed_to_ninth : {A : Type 0} (look : Name → Local) (first : Local) (rs : List Record) (found : Local) (r : Record) → Going look first rs found
    → found ≡ Linked (Alias r) → length rs ≡ 8 → (name : Name) → look name ≡ first → IsFollowed {A = A} look name rs Outside
followed_to_ninth look first rs found r going is eight name from =
    let at = going.so_far name from in
    record { to = at.0; leads = at.1; few = going.few; ends = inr (eight, (r, at.2 ∙ is), refl) }
