use Rattle.std.proofs.Common.{◌≡◌, Ok, ◌∷◌, subst}
use Rattle.master_lexer.specs.Lexemes.{plain}
use Rattle.masterfile.specs.Entries.{Context, Head, ttl_in, record_of}
use Rattle.masterfile.specs.Given.{GivesEntry}
use Rattle.masterfile.proofs.HeadLemmas.{ttl_found, record_fails, gives_fault}
use Rattle.masterfile.proofs.entries.Context.record.Goals as goal

pub returns-in_err-value-clause-value : goal.returns-in_err-value-clause-value
returns-in_err-value-clause-value g c =
    let before : Context = record { origin = c.self.inside.origin; owner = c.self.inside.owner; standing = c.self.inside.standing; stated = c.self.inside.stated } in
    let words = plain c.args.first.now ∷ c.args.words.now.words in
    let head : Head = record { ttl = c.in_ok-stated.field-0.ttl; kind = c.in_ok-stated.field-0.kind; rest = c.read_head.new.words.words } in
    let time : ttl_in before head.ttl ≡ Ok c.in_ok-ttl.ttl =
    ttl_found head.ttl before.standing before.stated c.or.result c.or-2.result c.in_ok-ttl.ttl c.or.ensures c.or-2.ensures (c.in_ok-ttl.ensures {u = tt}).ok_part in
    subst (λ (x : Context). GivesEntry c.from_residual-in_err-value.result x (record_of x c.args.owner words)) c.self.view_is
    (gives_fault c.from_residual-in_err-value.result c.in_err-value.field-0.0 before (record_of before c.args.owner words) c.from_residual-in_err-value.ensures.1
    (record_fails before c.args.owner words head c.in_ok-ttl.ttl c.in_err-value.field-0.0 (c.in_ok-stated.ensures {u = tt}).value time (c.in_err-value.ensures {u = tt}).value))
