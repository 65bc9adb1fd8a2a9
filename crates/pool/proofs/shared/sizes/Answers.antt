-- The state is that of the book, to which one history led.
use Rattle.std.proofs.Common.{◌∙◌, ap, sym}
use Rattle.pool.proofs.shared.sizes.Goals as goal

pub returns : goal.returns
returns g c = record {
  book = c.deref.result.now;
  reached = c.reached_law.ensures;
  sizes = c.sizes.ensures ∙ ap (λ s. g.M.Measured.sizes_of s) (c.state.ensures ∙ ap (λ p. p.state) (c.deref-2.ensures ∙ sym c.deref.ensures));
}
