use Rattle.std.proofs.Common.{◌≤◌, length, arith}
use Rattle.open_queries.proofs.Free.{taken_fit, taken_by, raised_by}
use Rattle.open_queries.proofs.queries.Queries.free_id.Goals as goal

pub returns-then-is_none : goal.returns-then-is_none
returns-then-is_none g c = raised_by c.args.self.now c.args.socket c.args.server c.args.from c.loop-tried.tried c.find.result c.if-is_none.ensures c.find.ensures c.loop-tried.invariant

pub loop-tried-preserved : goal.loop-tried-preserved
loop-tried-preserved g c = taken_by c.args.self.now c.args.socket c.args.server c.args.from c.loop-tried.tried c.find.result c.if-is_none.ensures c.find.ensures c.loop-tried.invariant

pub unreachable-requires : goal.unreachable-requires
unreachable-requires g c =
    let most : c.loop-tried.tried ≤ 65536 = omega arith in
    let fit : c.loop-tried.tried ≤ length c.args.self.now = taken_fit c.args.self.now c.args.socket c.args.server c.args.from c.loop-tried.tried most c.loop-tried.invariant in
    omega arith
