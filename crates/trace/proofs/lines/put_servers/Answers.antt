-- The words are those that are written.
use Rattle.std.proofs.Common.{◌≡◌, ℕ, List, ◌++◌, codes, decimal, append_assoc}
use Rattle.dname.specs.Labels.{Name}
use Rattle.dname.specs.Text.{name_text}
use Rattle.trace.specs.Lines.{servers_text}
use Rattle.trace.proofs.lines.put_servers.Goals as goal

printed : (zone : Name) (servers addresses : ℕ) (a b : List ℕ)
    → b ≡ a ++ (codes "referral to " ++ (name_text zone ++ (codes ", " ++ (decimal servers ++ (codes " servers, " ++ (decimal addresses ++ codes " addresses"))))))
    → b ≡ a ++ servers_text zone servers addresses
unfolding servers_text
printed zone servers addresses a b is = rw is (simp append_assoc)

pub returns : goal.returns
returns g c = printed c.args.zone.now c.args.servers c.args.addresses _ _ c.in_ok-write.ensures.bytes
