use Rattle.std.proofs.Common.{◌≡◌, ◌++◌, List, ℕ, Ok, take, sym, ◌∙◌, ap}
use Rattle.dname.specs.Wire.{labels_of}
use Rattle.dname.proofs.Origins.{origin_too_long, origin_fits, origin_named}
use Rattle.dname.proofs.builder.Builder.finish_under.Goals as goal

pub returns-then-start-origin-gt-LONGEST_NAME : goal.returns-then-start-origin-gt-LONGEST_NAME
returns-then-start-origin-gt-LONGEST_NAME g c = origin_too_long _ _ _ _ c.self.invariant c.self.view_is c.requires.origin c.if-start-origin-gt-LONGEST_NAME.true

pub from_wire-requires : goal.from_wire-requires
from_wire-requires g c =
    let new : c.extend_from_slice.new.self.items ≡ take c.self.inside.start c.self.inside.bytes.items ++ c.args.origin.now =
    c.in_ok-extend_from_slice.ensures.items ∙ ap (λ (x : List ℕ). x ++ c.args.origin.now) c.truncate.ensures.items in
    rw c.of_vec.ensures (origin_named _ _ _ _ c.self.invariant c.self.view_is c.requires.origin _ c.if-start-origin-gt-LONGEST_NAME.false new).good

pub returns : goal.returns
returns g c =
    let new : c.extend_from_slice.new.self.items ≡ take c.self.inside.start c.self.inside.bytes.items ++ c.args.origin.now =
    c.in_ok-extend_from_slice.ensures.items ∙ ap (λ (x : List ℕ). x ++ c.args.origin.now) c.truncate.ensures.items in
    origin_fits _ _ _ _ c.self.invariant c.self.view_is c.requires.origin c.if-start-origin-gt-LONGEST_NAME.false
    ∙ ap (λ (x : List (List ℕ)). Ok x) (sym (origin_named _ _ _ _ c.self.invariant c.self.view_is c.requires.origin _ c.if-start-origin-gt-LONGEST_NAME.false new).same ∙ sym (c.from_wire.ensures ∙ ap labels_of c.of_vec.ensures))
