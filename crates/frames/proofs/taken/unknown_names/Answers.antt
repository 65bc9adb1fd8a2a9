use Rattle.std.proofs.Common.{Bool, ◌&&◌, not, sym, ap, ◌∙◌}
use Rattle.std.specs.List.{list_any}
use Rattle.dname.specs.Labels.{Name, same_name}
use Rattle.referral.specs.Cuts.{ServerAddress}
use Rattle.frames.specs.Frames.{has_address}
use Rattle.frames.proofs.Steps.{name_left_out, name_put}
use Rattle.frames.proofs.taken.unknown_names.Goals as goal
use Rattle.frames.proofs.taken.unknown_names.Goals.{then-not-is_known+in_ok-clone+in_ok-push, else-not-is_known}

pub loop-name-preserved : goal.loop-name-preserved
loop-name-preserved g c =
    let stays : Name → Bool = λ n. not (list_any (λ (s : ServerAddress). same_name s.name n && has_address c.args.taken.now s.address) c.args.servers.now) in
    elim c.if-not-is_known.branch [
      | then-not-is_known+in_ok-clone+in_ok-push w ↦
          w.unknown-is
          ∙ name_put stays c.args.names.now c.loop-name.name-index c.name-item.result c.loop-name-test.true c.name-item.is c.loop-name.unknown c.loop-name.invariant
          w.in_ok-clone.field-0 w.push.new.self (ap not (sym c.is_known.ensures ∙ w.if-not-is_known.true)) w.in_ok-clone.ensures.cases w.in_ok-push.ensures.ok
      | else-not-is_known w ↦
          w.unknown-is
          ∙ name_left_out stays c.args.names.now c.loop-name.name-index c.name-item.result c.loop-name-test.true c.name-item.is c.loop-name.unknown c.loop-name.invariant
          (ap not (sym c.is_known.ensures ∙ w.if-not-is_known.false))
    ]
