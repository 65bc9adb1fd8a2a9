-- The three words, one after the other.
use Rattle.std.proofs.Common.{◌≡◌, ◌∙◌, ap, ap₂, ◌||◌, codes}
use Rattle.std.proofs.lemmas.Result.{IfOk-weaker}
use Rattle.clap.specs.Simple.{app_of_fields}
use Rattle.clap.specs.Words.{app_of, new_app, with_rule}
use Rattle.commandline.proofs.grammar.storm_line.Goals as goal

pub returns-clause-app : goal.returns-clause-app
returns-clause-app c =
    let bare : app_of c.about.result ≡ new_app (codes "storm") = ap app_of_fields c.about.ensures ∙ c.new.ensures.app in
    let with_keep = c.in_ok-arg.ensures.shape c.keep_word.ensures.local ∙ ap₂ with_rule bare c.keep_word.ensures.rule in
    let with_world = c.in_ok-arg-2.ensures.shape c.word.ensures.local ∙ ap₂ with_rule with_keep c.word.ensures.rule in
    IfOk-weaker c.arg-3.result _ _ (λ r h. h.shape c.script_words.ensures.local ∙ ap₂ with_rule with_world c.script_words.ensures.rule) c.arg-3.ensures

pub returns-clause-local : goal.returns-clause-local
returns-clause-local c =
    let bare = ap (λ f. f.has_globals) c.about.ensures ∙ c.new.ensures.local in
    let with_keep = c.in_ok-arg.ensures.globals ∙ ap₂ (λ a b. a || b) bare c.keep_word.ensures.local in
    let with_world = c.in_ok-arg-2.ensures.globals ∙ ap₂ (λ a b. a || b) with_keep c.word.ensures.local in
    IfOk-weaker c.arg-3.result _ _ (λ r h. h.globals ∙ ap₂ (λ a b. a || b) with_world c.script_words.ensures.local) c.arg-3.ensures
