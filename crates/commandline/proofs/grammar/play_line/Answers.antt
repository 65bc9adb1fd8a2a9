-- The two words, one after the other.
use Rattle.std.proofs.Common.{◌≡◌, ◌∙◌, ap, ap₂, ◌||◌, codes}
use Rattle.std.proofs.lemmas.Result.{IfOk-weaker}
use Rattle.clap.specs.Simple.{app_of_fields}
use Rattle.clap.specs.Words.{app_of, new_app, with_rule}
use Rattle.commandline.proofs.grammar.play_line.Goals as goal

pub returns-clause-app : goal.returns-clause-app
returns-clause-app c =
    let bare : app_of c.about.result ≡ new_app (codes "play") = ap app_of_fields c.about.ensures ∙ c.new.ensures.app in
    let with_world = c.in_ok-arg.ensures.shape c.word.ensures.local ∙ ap₂ with_rule bare c.word.ensures.rule in
    IfOk-weaker c.arg-2.result _ _ (λ r h. h.shape c.word-2.ensures.local ∙ ap₂ with_rule with_world c.word-2.ensures.rule) c.arg-2.ensures

pub returns-clause-local : goal.returns-clause-local
returns-clause-local c =
    let bare = ap (λ f. f.has_globals) c.about.ensures ∙ c.new.ensures.local in
    let with_world = c.in_ok-arg.ensures.globals ∙ ap₂ (λ a b. a || b) bare c.word.ensures.local in
    IfOk-weaker c.arg-2.result _ _ (λ r h. h.globals ∙ ap₂ (λ a b. a || b) with_world c.word-2.ensures.local) c.arg-2.ensures
