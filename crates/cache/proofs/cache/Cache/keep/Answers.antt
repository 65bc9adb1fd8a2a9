use Rattle.std.proofs.Common.{rules, arith}
use Rattle.rdata.specs.Types.{type_number}
use Rattle.zone.specs.Views.{link_view}
use Rattle.cache.specs.Cached.{as_kept, kept_ttl}
use Rattle.cache.proofs.Steps.{keep_there, keep_only, keep_gone}
use Rattle.cache.proofs.cache.Cache.keep.Goals as goal

pub returns-clause-ok : goal.returns-clause-ok
returns-clause-ok g c = search rules

pub returns-clause-there : goal.returns-clause-there
returns-clause-there g c = λ some.
    keep_there c.args.self.now c.put_back.new.self c.args.name.now (type_number c.args.kind) (as_kept (link_view c.args.link.now) (kept_ttl c.args.ttl) c.args.now) (returns-clause-ok g c)
    (λ none. some (omega (arith, none)))

pub returns-clause-only : goal.returns-clause-only
returns-clause-only g c =
    keep_only c.args.self.now c.put_back.new.self c.args.name.now (type_number c.args.kind) (as_kept (link_view c.args.link.now) (kept_ttl c.args.ttl) c.args.now) (returns-clause-ok g c)

pub returns-clause-gone : goal.returns-clause-gone
returns-clause-gone g c =
    keep_gone c.args.self.now c.put_back.new.self c.args.name.now (type_number c.args.kind) (as_kept (link_view c.args.link.now) (kept_ttl c.args.ttl) c.args.now) (returns-clause-ok g c)
