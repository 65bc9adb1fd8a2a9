use Rattle.std.proofs.Common.{◌≡◌, ◌<◌, ◌-◌, ◌∷◌, [], length, ap, ◌∙◌, arith, rules, ℕ, refl, length-append}
use Rattle.dname.specs.Draft.{Draft, shut}
use Rattle.dname.specs.Written.{draft_of}
use Rattle.dname.proofs.Drafts.{shut_writes}
use Rattle.dname.proofs.builder.Builder.close.Goals as goal
use Rattle.std.specs.Prelude.{slice_set}

pub invariant_of-self-2 : goal.invariant_of-self-2
invariant_of-self-2 g c =
    let same = ap (λ (d : Draft). length d.opened) c.self.view_is in
    let some : 0 < length (draft_of c.self.inside.bytes.items c.self.inside.start).opened = let r = c.requires in omega arith in
    let size : c.len.result ≡ length c.self.inside.bytes.items = search rules in
    let grown : c.len-2.result ≡ length c.push.new.self.items = search rules in
    (shut_writes c.self.inside.bytes.items c.push.new.self.items _ c.self.inside.start (c.len.result - c.self.inside.start - 1) (c.len-2.result - 1) c.self.invariant some (ap (λ (n : ℕ). n - c.self.inside.start - 1) size)
    c.in_ok-push.ensures.items refl (omega (arith, ap length c.in_ok-push.ensures.items, length-append c.self.inside.bytes.items (0 ∷ [])))).good

pub returns-clause-ok : goal.returns-clause-ok
returns-clause-ok g c =
    let same = ap (λ (d : Draft). length d.opened) c.self.view_is in
    let some : 0 < length (draft_of c.self.inside.bytes.items c.self.inside.start).opened = let r = c.requires in omega arith in
    let size : c.len.result ≡ length c.self.inside.bytes.items = search rules in
    let grown : c.len-2.result ≡ length c.push.new.self.items = search rules in
    (shut_writes c.self.inside.bytes.items c.push.new.self.items (slice_set c.push.new.self.items c.self.inside.start (c.len.result - c.self.inside.start - 1)) c.self.inside.start (c.len.result - c.self.inside.start - 1) (c.len-2.result - 1) c.self.invariant some (ap (λ (n : ℕ). n - c.self.inside.start - 1) size)
    c.in_ok-push.ensures.items refl (omega (arith, ap length c.in_ok-push.ensures.items, length-append c.self.inside.bytes.items (0 ∷ [])))).same ∙ ap shut c.self.view_is
