use Rattle.std.proofs.Common.{◌≡◌, ◌<◌, ◌+◌, ◌*◌, ℕ, slice_index, arith}
use Rattle.sockets.proofs.Streams.{two_bytes}
use Rattle.sockets.proofs.reading.length_in.Goals as goal

pub returns : goal.returns
returns c =
    let small : (k : ℕ) → slice_index c.args.head.now k < 256 = λ k. omega (arith, c.type_inv.head k) in
    let number : c.read_u16.result ≡ slice_index c.args.head.now 0 * 256 + slice_index c.args.head.now 1 = omega (arith, c.read_u16.ensures) in
    two_bytes c.args.head.now c.read_u16.result c.requires small number
