-- A server that is started is that of the command's path, and a storm is that of the command's paths.
use Rattle.std.proofs.Common.{string_bytes}
use Rattle.commands.specs.Runs.{shown}
use Rattle.commands.proofs.Storms.{ran}
use Rattle.commands.proofs.run.run_command.Goals as goal

pub returns-in-Serve-clause-run : goal.returns-in-Serve-clause-run
returns-in-Serve-clause-run g c = rw c.in-Serve.is (rw c.deref-in-Serve.ensures at c.start_server.ensures.run)

pub returns-in-Serve-clause-starts : goal.returns-in-Serve-clause-starts
returns-in-Serve-clause-starts g c = rw c.in-Serve.is (rw c.deref-in-Serve.ensures at c.start_server.ensures.starts)

pub returns-in-CheckConfig-clause-run : goal.returns-in-CheckConfig-clause-run
returns-in-CheckConfig-clause-run g c =
    rw (c.in-CheckConfig.is, c.without_server.ensures.status) (rw c.deref-in-CheckConfig.ensures at c.check_config-status.ensures.run)

pub returns-in-Storm-clause-run : goal.returns-in-Storm-clause-run
returns-in-Storm-clause-run g c =
    let ok = rw c.deref-in-Storm-2.ensures.value at (rw c.deref-in-Storm.ensures at c.storm.ensures.ok) in
    let err = rw c.deref-in-Storm-2.ensures.value at (rw c.deref-in-Storm.ensures at c.storm.ensures.err) in
    rw c.in-Storm.is (shown string_bytes c.storm.result, ran string_bytes _ _ c.storm.result ok err, c.finished-in-Storm.ensures.ended)

pub returns-in-Trace-clause-run : goal.returns-in-Trace-clause-run
returns-in-Trace-clause-run g c =
    rw (c.in-Trace.is, c.without_server-in-Trace.ensures.status)
    (rw (c.deref-in-Trace.ensures, c.deref-in-Trace-2.ensures, c.deref-in-Trace-3.ensures) at c.trace_query-status.ensures)
