use Rattle.std.proofs.Common.{◌≡◌, ◌∙◌, refl, length, arith}
use Rattle.rdata.specs.Kept.{datum}
use Rattle.message_grammar.specs.Messages.{data_flats}
use Rattle.wire.proofs.Writing.{group_room, group_written}
use Rattle.wire.proofs.writer.Writer.put_group.Goals as goal

pub overflow_sub-size : goal.overflow_sub-size
overflow_sub-size g c =
    let room = group_room (record { start = 0; bytes = c.self.inside.bytes.items; notes = c.self.inside.names }) c.args.self.now c.put_data.new.self
    (record { start = 0; bytes = c.self-2.inside.bytes.items; notes = c.self-2.inside.names }) (data_flats (datum c.args.value.now)) c.len-at.result c.put_bytes.new.self
    c.self.view_is c.in_ok-put_bytes.ensures c.in_ok-put_data.ensures.written c.self-2.view_is (c.len-at.ensures ∙ c.self.inside.bytes.ok.0) in
    let long : c.len.result ≡ length c.self-2.inside.bytes.items = c.len.ensures ∙ c.self-2.inside.bytes.ok.0 in
    omega (arith, room, long)

pub overflow_sub-size-2 : goal.overflow_sub-size-2
overflow_sub-size-2 g c =
    let room = group_room (record { start = 0; bytes = c.self.inside.bytes.items; notes = c.self.inside.names }) c.args.self.now c.put_data.new.self
    (record { start = 0; bytes = c.self-2.inside.bytes.items; notes = c.self-2.inside.names }) (data_flats (datum c.args.value.now)) c.len-at.result c.put_bytes.new.self
    c.self.view_is c.in_ok-put_bytes.ensures c.in_ok-put_data.ensures.written c.self-2.view_is (c.len-at.ensures ∙ c.self.inside.bytes.ok.0) in
    let long : c.len.result ≡ length c.self-2.inside.bytes.items = c.len.ensures ∙ c.self-2.inside.bytes.ok.0 in
    omega (arith, room, long)

pub index_mut-requires : goal.index_mut-requires
index_mut-requires g c =
    let room = group_room (record { start = 0; bytes = c.self.inside.bytes.items; notes = c.self.inside.names }) c.args.self.now c.put_data.new.self
    (record { start = 0; bytes = c.self-2.inside.bytes.items; notes = c.self-2.inside.names }) (data_flats (datum c.args.value.now)) c.len-at.result c.put_bytes.new.self
    c.self.view_is c.in_ok-put_bytes.ensures c.in_ok-put_data.ensures.written c.self-2.view_is (c.len-at.ensures ∙ c.self.inside.bytes.ok.0) in
    let long = c.self-2.inside.bytes.ok.0 in
    omega (arith, room, long)

pub index_mut-requires-2 : goal.index_mut-requires-2
index_mut-requires-2 g c =
    let room = group_room (record { start = 0; bytes = c.self.inside.bytes.items; notes = c.self.inside.names }) c.args.self.now c.put_data.new.self
    (record { start = 0; bytes = c.self-2.inside.bytes.items; notes = c.self-2.inside.names }) (data_flats (datum c.args.value.now)) c.len-at.result c.put_bytes.new.self
    c.self.view_is c.in_ok-put_bytes.ensures c.in_ok-put_data.ensures.written c.self-2.view_is (c.len-at.ensures ∙ c.self.inside.bytes.ok.0) in
    let long = c.self-2.inside.bytes.ok.0 in
    omega (arith, room, long)

pub returns-clause-written : goal.returns-clause-written
returns-clause-written g c =
    group_written (record { start = 0; bytes = c.self.inside.bytes.items; notes = c.self.inside.names }) c.args.self.now c.put_data.new.self
    (record { start = 0; bytes = c.self-2.inside.bytes.items; notes = c.self-2.inside.names }) (data_flats (datum c.args.value.now)) c.len-at.result c.len.result c.put_bytes.new.self
    c.self.view_is c.in_ok-put_bytes.ensures c.in_ok-put_data.ensures.written c.self-2.view_is (c.len-at.ensures ∙ c.self.inside.bytes.ok.0) (c.len.ensures ∙ c.self-2.inside.bytes.ok.0) refl
