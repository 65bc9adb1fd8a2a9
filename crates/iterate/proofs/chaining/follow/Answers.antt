use Rattle.std.proofs.Common.{refl, ◌∙◌, arith}
use Rattle.resolution.specs.Rules.{follows, too_long}
use Rattle.iterate.specs.Moves.{followed}
use Rattle.iterate.proofs.chaining.follow.Goals as goal

pub returns-then-aliases-ge-MAX_ALIASES : goal.returns-then-aliases-ge-MAX_ALIASES
returns-then-aliases-ge-MAX_ALIASES g c = λ home now stores.
    too_long c.args.link c.requires.0 refl c.requires.1 (omega (arith, c.aliases.ensures, c.if-aliases-ge-MAX_ALIASES.true)) refl refl

pub returns : goal.returns
returns g c = λ home now stores.
    follows c.args.link c.requires.0 refl c.requires.1 (omega (arith, c.aliases.ensures, c.if-aliases-ge-MAX_ALIASES.false)) refl
    (c.in_ok-follow.ensures ∙ (λ i. followed c.args.job.now c.args.link (c.requires.2 i))) refl
