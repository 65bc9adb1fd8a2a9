-- The words are those that are written.
use Rattle.std.proofs.Common.{◌≡◌, ℕ, List, [], ◌++◌, codes, decimal, append_assoc}
use Rattle.rdata.specs.Text.{ipv4_text}
use Rattle.config.specs.Configs.{End}
use Rattle.commands.specs.Checks.{end_text}
use Rattle.commands.specs.Servers.{end_of}
use Rattle.commands.proofs.check_config.end_words.Goals as goal

printed : (word way reason : List ℕ) (e : End) (a b : List ℕ)
    → b ≡ a ++ (word ++ (codes " " ++ (ipv4_text e.address ++ (codes " " ++ (decimal e.port ++ (codes ": " ++ (way ++ (reason ++ codes "\n")))))))) → a ≡ []
    → b ≡ end_text word e ++ codes ": " ++ (way ++ reason) ++ codes "\n"
unfolding end_text
printed word way reason e a b is none = rw (is, none) (simp append_assoc)

pub returns : goal.returns
returns g c = printed c.args.word.now c.args.way.now c.args.reason.now (end_of c.args.at) _ _ c.in_ok-write.ensures.bytes c.new-words.ensures.bytes
