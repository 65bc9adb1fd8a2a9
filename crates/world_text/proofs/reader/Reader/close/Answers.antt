use Rattle.std.proofs.Common.{◌∙◌, sym, subst}
use Rattle.world_text.specs.Seen.{said_seen, IsLeftBehind}
use Rattle.world_text.proofs.Reading.{closes, stays_closed}
use Rattle.world_text.proofs.reader.Reader.close.Goals as goal

pub block-requires : goal.block-requires
block-requires g c = subst (IsLeftBehind c.args.left.now) (sym c.take.ensures.value ∙ c.in-Some.is) c.requires

pub returns-in_ok-push-clause-says : goal.returns-in_ok-push-clause-says
returns-in_ok-push-clause-says g c =
    closes (said_seen c.args.self.now.world) c.args.self.now.opening c.in-Some.opening c.args.left.now c.block.result c.push.new.self.items
    (sym c.take.ensures.value ∙ c.in-Some.is) c.block.ensures c.in_ok-push.ensures.items

pub returns-in_default-clause-opening : goal.returns-in_default-clause-opening
returns-in_default-clause-opening g c = c.take.ensures.after

pub returns-in_default-clause-says : goal.returns-in_default-clause-says
returns-in_default-clause-says g c = stays_closed (said_seen c.args.self.now.world) c.args.self.now.opening c.args.left.now (sym c.take.ensures.value ∙ c.in_default.is)
