-- The two words behind that of a server's file, one after the other.
use Rattle.std.proofs.Common.{◌≡◌, ◌∙◌, ap₂, ◌||◌, codes}
use Rattle.std.proofs.lemmas.Result.{IfOk-weaker}
use Rattle.clap.specs.Words.{app_of, with_rule}
use Rattle.commandline.specs.Grammar.{config_app, word_rule}
use Rattle.commandline.proofs.grammar.trace_line.Goals as goal

pub returns-clause-app : goal.returns-clause-app
returns-clause-app c =
    let with_name : app_of c.in_ok-arg.field-0 ≡ with_rule (config_app (codes "trace")) (word_rule (codes "name")) =
    c.in_ok-arg.ensures.shape c.word.ensures.local ∙ ap₂ with_rule c.in_ok-config_line.ensures.app c.word.ensures.rule in
    IfOk-weaker c.arg-2.result _ _ (λ r h. h.shape c.word-2.ensures.local ∙ ap₂ with_rule with_name c.word-2.ensures.rule) c.arg-2.ensures

pub returns-clause-local : goal.returns-clause-local
returns-clause-local c =
    let with_name = c.in_ok-arg.ensures.globals ∙ ap₂ (λ a b. a || b) c.in_ok-config_line.ensures.local c.word.ensures.local in
    IfOk-weaker c.arg-2.result _ _ (λ r h. h.globals ∙ ap₂ (λ a b. a || b) with_name c.word-2.ensures.local) c.arg-2.ensures
