use Rattle.std.proofs.Common.{rules, ◌≡◌, ◌∙◌, ap, Some, None}
use Rattle.std.specs.Map.{lookup}
use Rattle.dname.specs.Labels.{same_name}
use Rattle.referral.specs.Cuts.{Servers, known_of}
use Rattle.referral.proofs.Shown.{live_found, dead_found, none_found}
use Rattle.referral.proofs.delegations.Delegations.live_at.Goals as goal
use Rattle.referral.proofs.delegations.Delegations.live_at.Goals.{in_default-via-in-Some+else-is_live, in_default-via-in_default}

pub returns-in_ok-clone-in-Some : goal.returns-in_ok-clone-in-Some
returns-in_ok-clone-in-Some g c =
    let found : lookup (same_name c.args.at.now) c.self.inside.entries.entries ≡ Some c.in-Some.servers.now = search rules in
    ap (λ (s : Servers). Some (known_of c.args.at.now s)) c.in_ok-clone-in-Some.ensures.cases
    ∙ live_found c.args.self.now c.self.inside.entries c.self.view_is c.args.now c.args.at.now c.in-Some.servers.now c.is_live.result found (c.is_live.ensures c.args.at.now) c.if-is_live.true

pub returns-in_default : goal.returns-in_default
returns-in_default g c = elim c.in_default.branch [
  | in_default-via-in-Some+else-is_live w ↦
      let found : lookup (same_name c.args.at.now) c.self.inside.entries.entries ≡ Some w.in-Some.servers.now = search rules in
      dead_found c.args.self.now c.self.inside.entries c.self.view_is c.args.now c.args.at.now w.in-Some.servers.now w.is_live.result found (w.is_live.ensures c.args.at.now) w.if-is_live.false
  | in_default-via-in_default w ↦
      let found : lookup (same_name c.args.at.now) c.self.inside.entries.entries ≡ None = search rules in
      none_found c.args.self.now c.self.inside.entries c.self.view_is c.args.now c.args.at.now found
]
