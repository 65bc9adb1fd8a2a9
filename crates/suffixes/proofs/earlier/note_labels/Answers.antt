use Rattle.std.proofs.Common.{◌≡◌, ◌+◌, ◌-◌, ◌∙◌, ◌++◌, [], ◌∷◌, List, sym, subst, arith, rules, length, refl, take, drop, replicate}
use Rattle.suffixes.specs.declared.earlier.Noted.{Noted}
use Rattle.suffixes.specs.Kept.{AreKept}
use Rattle.suffixes.specs.Branches.{ArePut}
use Rattle.suffixes.proofs.Steps.{Noting, noting_ends, noting_far, noting_on, noting_linked, written_back, pushed_last, kept_last}
use Rattle.suffixes.proofs.Links.{put_behind, counted}
use Rattle.suffixes.proofs.earlier.note_labels.Goals as goal

pub returns-then-place-ge-POINTER_LIMIT-clause-noted : goal.returns-then-place-ge-POINTER_LIMIT-clause-noted
returns-then-place-ge-POINTER_LIMIT-clause-noted g c = noting_far c.args.names.now c.args.notes.now.items c.loop.notes.items c.args.start c.args.written c.args.at c.loop.counter c.loop.place c.loop.rest.now
    c.in-Some.label.now c.in-Some.after.now c.loop.invariant.noting c.in-Some.ensures (omega arith)

pub link-requires-clause-kept : goal.link-requires-clause-kept
link-requires-clause-kept g c =
    let next = noting_on c.args.names.now c.args.notes.now.items c.loop.notes.items c.push_reserved.new.self.items c.args.start c.args.written c.args.at c.loop.counter c.loop.place c.loop.rest.now
    c.in-Some.label.now c.in-Some.after.now _ c.loop.invariant.noting c.in-Some.ensures (omega arith) c.loop-test.true c.push_reserved.ensures.items (search rules) (search rules) (search rules) refl in
    subst (λ (notes : List Noted). AreKept c.args.names.now notes) (sym c.deref_mut.ensures.value) next.kept

pub link-requires-clause-last : goal.link-requires-clause-last
link-requires-clause-last g c =
    let x : Noted = record { start = length c.args.names.now - length c.loop.rest.now; size = length c.loop.rest.now; place = c.loop.place; next = replicate 4 0 } in
    let put : c.deref_mut.result.now ≡ c.loop.notes.items ++ x ∷ [] = search rules in
    pushed_last c.args.names.now c.loop.notes.items c.deref_mut.result.now x c.loop.rest.now put (kept_last c.args.names.now c.loop.rest.now x c.loop.invariant.noting.last refl refl)

pub link-requires-clause-put : goal.link-requires-clause-put
link-requires-clause-put g c =
    let x : Noted = record { start = length c.args.names.now - length c.loop.rest.now; size = length c.loop.rest.now; place = c.loop.place; next = replicate 4 0 } in
    let put : c.deref_mut.result.now ≡ c.loop.notes.items ++ x ∷ [] = search rules in
    counted _ c.loop.notes.items c.deref_mut.result.now c.loop.firsts x put (put_behind c.args.names.now c.loop.notes.items c.deref_mut.result.now c.loop.firsts x c.loop.invariant.put refl put)

pub loop-preserved : goal.loop-preserved
loop-preserved g c =
    let bytes = c.in-Some.ensures.size in
    let left = c.loop.invariant.room in
    let len = c.push_reserved.ensures.len in
    let capacity = c.push_reserved.ensures.capacity in
    let next = noting_on c.args.names.now c.args.notes.now.items c.loop.notes.items c.push_reserved.new.self.items c.args.start c.args.written c.args.at c.loop.counter c.loop.place c.loop.rest.now
    c.in-Some.label.now c.in-Some.after.now _ c.loop.invariant.noting c.in-Some.ensures (omega arith) c.loop-test.true c.push_reserved.ensures.items (search rules) (search rules) (search rules) refl in
    let same = rw c.deref_mut.ensures.value at c.link.ensures.same in
    let back = written_back c.args.names.now c.link.new.notes c.push_reserved.new.self.items c.push_reserved.new.self.len same (search rules) in
    let linked = noting_linked c.args.names.now c.args.notes.now.items c.push_reserved.new.self.items c.link.new.notes c.args.start c.args.written c.args.at _ _ c.in-Some.after.now next c.link.ensures.kept same in
    record {
      noting = subst (λ (notes : List Noted). Noting c.args.names.now c.args.notes.now.items notes c.args.start c.args.written c.args.at (c.loop.counter + 1) (c.loop.place + (1 + length c.in-Some.label.now))
          c.in-Some.after.now) (sym back) linked;
      put = subst (λ (notes : List Noted). ArePut c.args.names.now notes c.link.new.firsts) (sym back) c.link.ensures.put;
      short = omega arith;
      room = omega arith;
    }

pub returns-in_default-clause-noted : goal.returns-in_default-clause-noted
returns-in_default-clause-noted g c = noting_ends c.args.names.now c.args.notes.now.items c.loop.notes.items c.args.start c.args.written c.args.at c.loop.counter c.loop.place c.loop.rest.now
    c.loop.invariant.noting c.in_default.ensures
