use Rattle.std.proofs.Common.{rules, arith, ◌≡◌, ◌≤◌, ◌<◌, length, ap, ◌∙◌}
use Rattle.frames.proofs.Steps.{server_full, server_known, server_new}
use Rattle.frames.proofs.taken.taken_addresses.Goals as goal
use Rattle.frames.proofs.taken.taken_addresses.Goals.{then-len-lt-MAX_SERVERS+then-not-has_address+in_ok-push, else-len-lt-MAX_SERVERS, else-len-lt-MAX_SERVERS-via-then-len-lt-MAX_SERVERS+else-not-has_address, else-len-lt-MAX_SERVERS-via-else-len-lt-MAX_SERVERS}

pub loop-server-preserved : goal.loop-server-preserved
loop-server-preserved g c =
    let at = ap (λ s. s.address) c.server.view_is in
    let count : c.len.result ≡ length c.loop-server.taken.items = search rules in
    elim c.if-len-lt-MAX_SERVERS.branch [
      | then-len-lt-MAX_SERVERS+then-not-has_address+in_ok-push w ↦
          let room : length c.loop-server.taken.items < 16 = omega (arith, count, w.if-len-lt-MAX_SERVERS.true) in
          ap (λ v. v.items) w.taken-is
          ∙ server_new c.args.servers.now c.loop-server.server-index c.server-item.result c.server.inside.address c.loop-server-test.true c.server-item.is at c.loop-server.taken.items c.loop-server.invariant
          w.deref.result.now w.push.new.self.items w.has_address.result room w.deref.ensures.value w.has_address.ensures w.if-not-has_address.true w.in_ok-push.ensures.items
      | else-len-lt-MAX_SERVERS w ↦
          ap (λ v. v.items) w.taken-is ∙ elim w.else-len-lt-MAX_SERVERS.branch [
            | else-len-lt-MAX_SERVERS-via-then-len-lt-MAX_SERVERS+else-not-has_address v ↦
                server_known c.args.servers.now c.loop-server.server-index c.server-item.result c.server.inside.address c.loop-server-test.true c.server-item.is at c.loop-server.taken.items c.loop-server.invariant
                v.deref.result.now v.has_address.result v.deref.ensures.value v.has_address.ensures v.if-not-has_address.false
            | else-len-lt-MAX_SERVERS-via-else-len-lt-MAX_SERVERS v ↦
                let full : 16 ≤ length c.loop-server.taken.items = omega (arith, count, v.if-len-lt-MAX_SERVERS.false) in
                server_full c.args.servers.now c.loop-server.server-index c.server-item.result c.server.inside.address c.loop-server-test.true c.server-item.is at c.loop-server.taken.items c.loop-server.invariant full
          ]
    ]
