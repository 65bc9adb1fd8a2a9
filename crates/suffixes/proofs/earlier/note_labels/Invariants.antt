use Rattle.std.proofs.Common.{◌+◌, ◌-◌, ◌<◌, ◌≤◌, min, length, vec_len, vec_capacity}
use Rattle.suffixes.specs.Branches.{ArePut}
use Rattle.suffixes.proofs.Steps.{Noting}
use Rattle.suffixes.proofs.earlier.note_labels.Given as goal

abbrev pub invariant-loop : goal.invariant-loop
invariant-loop g l = record {
  noting : Noting l.names l.fn.notes.items l.notes.items l.start l.written l.at l.counter l.place l.rest;
  put : ArePut l.names l.notes.items l.firsts;
  short : length l.rest < 256;
  room : vec_len l.notes + min (l.written - l.counter) (length l.rest) ≤ vec_capacity l.notes;
}
