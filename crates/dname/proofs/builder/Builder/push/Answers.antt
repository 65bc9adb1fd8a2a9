use Rattle.std.proofs.Common.{◌≡◌, ◌<◌, length, ap, ◌∙◌, sym, subst, arith, rules, ℕ}
use Rattle.dname.specs.Labels.{folded}
use Rattle.dname.specs.Draft.{Draft}
use Rattle.dname.specs.Written.{draft_of}
use Rattle.dname.proofs.Drafts.{pushed_writes, folded_twice, folded_fits}
use Rattle.dname.proofs.builder.Builder.push.Goals as goal

pub invariant_of-self-2 : goal.invariant_of-self-2
invariant_of-self-2 g c =
    let byte : c.fold.result < 256 = subst (λ (n : ℕ). n < 256) (sym c.fold.ensures) (folded_fits c.args.byte c.ranges.byte.fits) in
    let twice : folded c.fold.result ≡ c.fold.result = ap folded c.fold.ensures ∙ (folded_twice c.args.byte ∙ sym c.fold.ensures) in
    let same = ap (λ (d : Draft). length d.opened) c.self.view_is in
    let few : length (draft_of c.self.inside.bytes.items c.self.inside.start).opened < 63 = omega arith in
    let size : c.len.result ≡ length c.self.inside.bytes.items = search rules in
    (pushed_writes c.self.inside.bytes.items c.self.inside.start c.fold.result c.push.new.self.items c.self.invariant byte twice few (omega arith) c.in_ok-push.ensures.items).good
