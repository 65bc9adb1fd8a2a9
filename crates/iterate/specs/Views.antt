-- The code's inputs, results and tasks, seen as the plain values of the rules.
use Rattle.rdata.specs.Types.{type_number}
use Rattle.resolution.specs.Jobs as plain
use Rattle.iterate.specs.Moves as moves
use Rattle.iterate.specs.declared.calls.Input.{Input}
use Rattle.iterate.specs.declared.calls.Input.TheVariants as input
use Rattle.iterate.specs.declared.calls.Next.{Next}
use Rattle.iterate.specs.declared.calls.Next.TheVariants as next
use Rattle.iterate.specs.declared.task.Task.{Task}
use Rattle.iterate.specs.declared.task.Task.TheVariants as task
use Rattle.iterate.specs.declared.task.Move.{Move}
use Rattle.iterate.specs.declared.task.Move.TheVariants as moves_of

abbrev pub input_view : Input → plain.Input
input_view input.Start = plain.Start
input_view (input.TimedOut server) = plain.TimedOut server
input_view (input.TcpFailed server) = plain.TcpFailed server

abbrev pub next_view : {A : Type 0} → Next A → plain.Next
next_view (next.AskUdp server n t) = plain.AskUdp server n (type_number t)
next_view (next.AskTcp server n t) = plain.AskTcp server n (type_number t)
next_view (next.Done chain end) = plain.Done chain end
next_view (next.Fail cause) = plain.Fail cause

abbrev pub task_view : {A : Type 0} → Task A → plain.Task
task_view task.Seek = plain.Seek
task_view (task.Take l) = plain.Take l
task_view task.Go = plain.Go
task_view (task.Again server) = plain.Again server

abbrev pub move_view : {A : Type 0} → Move A → moves.Move
move_view (moves_of.Onward t) = moves.Onward (task_view t)
move_view (moves_of.Out n) = moves.Out (next_view n)
