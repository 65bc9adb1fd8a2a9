use Rattle.std.proofs.Common.{subst, rules}
use Rattle.book.specs.Books.{Reached}
use Rattle.book.proofs.Steps.{told}
use Rattle.book.proofs.book.Book.into_history.Goals as goal

pub returns-clause-whole : goal.returns-clause-whole
returns-clause-whole g c =
    told g.M.Machine.moves g.M.Machine.begins c.args.self _
    (subst (Reached g.M.Machine.moves g.M.Machine.begins) c.self.view_is c.self.invariant.1) c.requires (search rules)
