use Rattle.std.proofs.Common.{refl, ap, ◌∙◌, List, [], ◌∷◌, ◌++◌, append_assoc}
use Rattle.resolution.specs.Jobs.{Taken, Job, Done}
use Rattle.resolution.specs.Rules.{restarts, done}
use Rattle.iterate.proofs.Alive.{fresh_whole}
use Rattle.iterate.proofs.chaining.end.Goals as goal

pub returns-then-restart : goal.returns-then-restart
returns-then-restart g c =
    let (dead, front, cut, job) = c.if-restart.ensures in
    let link = c.args.link in
    λ home stores.
    restarts link dead front (cut.back ++ link ∷ []) refl c.requires.ending
    (ap (λ (ls : List Taken). ls ++ link ∷ []) cut.parts ∙ append_assoc front (dead ∷ cut.back) (link ∷ [])) cut.fresh cut.dead refl job refl

pub returns : goal.returns
returns g c =
    let (fresh, same) = c.if-restart.ensures in
    let chain = c.take_chain.ensures ∙ ap (λ (j : Job). j.chain) same in
    λ home stores.
    done c.args.link refl c.requires.ending (fresh_whole c.args.now c.args.job.now.chain c.args.link fresh c.requires.fresh) (λ i. Done (chain i) c.args.link) refl
