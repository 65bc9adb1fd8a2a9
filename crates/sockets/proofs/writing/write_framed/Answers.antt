use Rattle.std.proofs.Common.{List, ℕ, ◌-◌, ◌+◌, ◌++◌, length, take, drop, ◌∙◌, ap}
use Rattle.std.proofs.lemmas.List.{take_rest}
use Rattle.sockets.proofs.Streams.{both_written}
use Rattle.sockets.proofs.writing.write_framed.Goals as goal

pub returns : goal.returns
returns g c =
    let bytes = c.args.bytes.now in
    let count = c.begin_frame-count.result in
    let front = take (2 + count) c.begin_frame-count.new.first in
    let rest = take (length bytes - count) (drop count bytes) in
    let whole = ap (λ (l : List ℕ). front ++ l) (take_rest bytes count) ∙ c.begin_frame-count.ensures.frame in
    both_written c.put-2.result (g.W.Write.contents c.args.writer.now) (g.W.Write.contents c.put.new.writer) (g.W.Write.contents c.put-2.new.writer) front rest _ whole c.in_ok-put.ensures c.put-2.ensures
