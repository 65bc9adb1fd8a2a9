-- What a reading says to the search that it is used for.
use Rattle.std.specs.Prelude.{◌≡◌, ℕ, List, ◌∷◌}
use Rattle.dname.specs.Labels.{Name}
use Rattle.message_grammar.specs.Messages.{Message}
use Rattle.wire.specs.declared.via.Via.{Via}
use Rattle.classify.specs.Read.{Reading, IsReadingOf}
use Rattle.resolution.specs.Jobs.{Search, Job}

-- The innermost search, if there is one, is for this name and type.
abbrev pub IsSoughtBy : List Search → Name → ℕ → Type 0
IsSoughtBy searches n t = (s : Search) (rest : List Search) → searches ≡ s ∷ rest → (n ≡ s.name) × (t ≡ s.kind)

-- The question of a reading is that of the innermost search, if there is one.
abbrev pub IsSoughtIn : Job → Reading → Type 0
IsSoughtIn j r = IsSoughtBy j.searches r.name r.kind

-- A reading of a message for the question of a search.
pub record IsReadingFor (s : Search) (via : Via) (m : Message) (r : Reading) : Type 0 where
  pub reads : IsReadingOf via m r
  pub name : r.name ≡ s.name
  pub kind : r.kind ≡ s.kind
