use Rattle.world_text.specs.WorldFaults.{line_fault}
use Rattle.world_text.specs.Seen.{said_seen}
use Rattle.world_text.proofs.Building.{line_refused, world_says, refused_by}
use Rattle.world_text.proofs.build.world_in.Goals as goal

pub returns-in_err-read_world : goal.returns-in_err-read_world
returns-in_err-read_world g c =
    let e = c.in_err-read_world.field-0.0 in
    refused_by c.from_residual.result (line_fault e e.kind) _ _ c.from_residual.ensures.1 (line_refused c.args.text.now e c.in_err-read_world.ensures)

pub returns : goal.returns
returns g c = world_says c.args.text.now (said_seen c.in_ok-read_world.field-0) c.build.result c.in_ok-read_world.ensures c.build.ensures
