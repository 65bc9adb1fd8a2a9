use Rattle.std.proofs.Common.{rules, ◌≡◌, ◌≤◌, sym, subst}
use Rattle.retry.specs.Penalties.{same_addr, penalty}
use Rattle.retry.proofs.Steps.{looked_most}
use Rattle.retry.proofs.penalties.Penalties.of.Goals as goal

pub returns-clause-most : goal.returns-clause-most
returns-clause-most g c =
    let at : c.unwrap_or.result ≡ penalty c.args.addr c.self.inside.levels.entries = search rules in
    subst (λ n. n ≤ 8) (sym at) (looked_most 8 (same_addr c.args.addr) c.self.inside.levels.entries c.self.invariant)
