use Rattle.std.proofs.Common.{◌≡◌, Some, None, List, [], ◌∷◌, refl, ◌∙◌, ap}
use Rattle.std.specs.Prelude.{slice_get}
use Rattle.retry.specs.Plans.{wait_of}
use Rattle.resolution.specs.Jobs.{Search, wait_in}
use Rattle.iterate.proofs.search.Searches.wait_ms.Goals as goal

first_wait : (searches : List Search) (s : Search) → Some s ≡ slice_get searches 0 → wait_of s.frame.plan ≡ wait_in searches
first_wait [] s h = absurd (cc)
first_wait (x ∷ rest) s h = let same : s ≡ x = cc in ap (λ (y : Search). wait_of y.frame.plan) same

no_wait : (searches : List Search) → None ≡ slice_get searches 0 → 1000 ≡ wait_in searches
no_wait [] h = refl
no_wait (x ∷ rest) h = absurd (cc)

pub returns-in-Some : goal.returns-in-Some
returns-in-Some g c =
    c.wait_ms.ensures
    ∙ (ap (λ (s : Search). wait_of s.frame.plan) c.search.view_is
    ∙ first_wait c.args.self.now c.in-Some.search.now (c.in-Some.ensures.value ∙ ap (λ (l : List Search). slice_get l 0) (c.deref.ensures.value ∙ c.self.view_is)))

pub returns-in-None : goal.returns-in-None
returns-in-None g c = no_wait c.args.self.now (c.in-None.ensures.value ∙ ap (λ (l : List Search). slice_get l 0) (c.deref.ensures.value ∙ c.self.view_is))
