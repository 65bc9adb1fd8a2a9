-- One client more.
use Rattle.std.proofs.Common.{◌≡◌, ◌∙◌, refl, ap, List, [], ◌∷◌, ◌++◌, map, option_map}
use Rattle.events.specs.Plain.{plain}
use Rattle.score.proofs.clients.Clients.push.Goals as goal

map_more : {X Y : Type 0} (f : X → Y) (xs : List X) (x : X) → map f (xs ++ x ∷ []) ≡ map f xs ++ f x ∷ []
map_more f [] x = refl
map_more f (y ∷ xs) x = ap (λ zs. f y ∷ zs) (map_more f xs x)

seen_more : {X Y : Type 0} (f : X → Y) (xs zs : List X) (x : X) (ys : List Y) → zs ≡ xs ++ x ∷ [] → map f xs ≡ ys → map f zs ≡ ys ++ f x ∷ []
seen_more f xs zs x ys longer same = ap (map f) longer ∙ map_more f xs x ∙ ap (λ l. l ++ f x ∷ []) same

pub returns-clause-heard : goal.returns-clause-heard
returns-clause-heard g c = (
  option_map plain c.in_ok-recursive_query.field-0,
  c.in_ok-recursive_query.ensures,
  seen_more (option_map plain) c.self.inside.queries.items c.push.new.self.items c.in_ok-recursive_query.field-0 c.args.self.now c.in_ok-push.ensures.items c.self.view_is,
)
