-- The owner of a link's own records.
use Rattle.std.proofs.Common.{◌≡◌, ℕ, ◌<◌, true, List, [], ◌∷◌, length, refl, sym, ap, ◌∙◌, arith}
use Rattle.dname.specs.Labels.{Name, same_name}
use Rattle.dname.specs.Laws.{same_name-exact}
use Rattle.rdata.specs.Data.{Datum}
use Rattle.rdata.specs.Records.{Record}
use Rattle.rdata.specs.Rows.{plain_rows}
use Rattle.zone.specs.Links.{Link as LinkSpec}
use Rattle.zone.specs.Views.{link_view}
use Rattle.zone.specs.declared.link.Link.{Link}
use Rattle.zone.specs.declared.link.Link.TheVariants as held
use Rattle.resolution.specs.Jobs.{Source}
use Rattle.lookup.specs.Views.{owner_of_all, owner_in, taken_at}

rows_owner : (o : Name) (ttl : ℕ) (ds : List Datum) → 0 < length ds → owner_of_all (plain_rows o ttl ds) ≡ o
rows_owner o ttl [] some = absurd (omega (arith, some))
rows_owner o ttl (d ∷ ds) some = refl

pub set_owner : {K : Type 0} (o : Name) (ttl : ℕ) (ds : List Datum) (set : List Record) (l : Link K) → 0 < length ds → plain_rows o ttl ds ≡ set → l ≡ held.Found set → o ≡ owner_in (link_view l)
set_owner o ttl ds set l some view is = sym (rows_owner o ttl ds some) ∙ ap owner_of_all view ∙ ap (λ k. owner_in (link_view k)) (sym is)

-- A link whose own records have the name as their owner.
pub taken_own : (l : LinkSpec) (n : Name) (source : Source) → same_name (owner_in l) n ≡ true → taken_at (owner_in l) l source ≡ taken_at n l source
taken_own l n source same = ap (λ (m : Name). taken_at m l source) (same_name-exact (owner_in l) n same)
