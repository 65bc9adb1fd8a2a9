-- The resolver is made of the zones, the seed and the rest of the file.
use Rattle.std.proofs.Common.{◌∙◌, sym, ap, subst, inl}
use Rattle.config.specs.Configs.{Config}
use Rattle.server_start.specs.Resolvers.{IsDescribed}
use Rattle.commands.specs.Servers.{Prepared, IsBounded, IsUnmade}
use Rattle.commands.specs.declared.fault.Fault.{Fault}
use Rattle.commands.proofs.Storms.{err_weaker}
use Rattle.commands.proofs.serve.prepare_zones.Goals as goal

pub returns-in-Ok-clause-ok : goal.returns-in-Ok-clause-ok
returns-in-Ok-clause-ok g c = (
  sym (ap (λ (s : Config). s.listen) c.config.view_is) ∙ sym c.endpoint_of-listen.ensures,
  record {
    seed = c.in_ok-seed.seed;
    seeded = c.in_ok-seed.ensures.ok;
    is = subst (λ (made : Prepared). IsDescribed c.args.config c.args.zones.items c.in_ok-seed.seed made.resolver) (sym c.new.ensures) c.in-Ok.ensures.is;
    bounds = subst (λ (made : Prepared). IsBounded c.args.config made.bounds) (sym c.new.ensures) c.in_ok-bounds.ensures.ok;
  },
)

pub returns-in_err-seed-clause-err : goal.returns-in_err-seed-clause-err
returns-in_err-seed-clause-err g c =
    err_weaker c.from_residual.result _ _
    (λ (f : Fault) is. subst (λ (e : Fault). IsUnmade c.args.config e) (sym is) (inl c.in_err-seed.ensures.err))
    c.from_residual.ensures.1
