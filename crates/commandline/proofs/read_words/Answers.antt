-- The line is simple, so what `clap` matched is a function of the grammar and the words.
use Rattle.std.proofs.Common.{◌≡◌, ◌∙◌, sym, ap, subst, map, string_bytes, Result, Ok, Err, IfErr, IsErrAnd}
use Rattle.std.proofs.lemmas.Result.{IfErr-weaker, IfOk-weaker}
use Rattle.clap.specs.Words.{App, app_of, is_simple, subcommand_of, takes}
use Rattle.commandline.specs.Grammar.{line_app}
use Rattle.commandline.specs.Says.{Says}
use Rattle.commandline.specs.declared.fault.LineFault.{LineFault}
use Rattle.commandline.specs.declared.fault.LineFault.TheVariants.{Words, Memory}
use Rattle.commandline.proofs.read_words.Goals as goal

pub returns-clause-ok : goal.returns-clause-ok
returns-clause-ok c =
    let app : app_of c.in_ok-line.line ≡ line_app = c.in_ok-line.ensures.app in
    let same = (c.in_ok-matches.ensures.matches (ap is_simple app)).1 ∙ ap (λ (a : App). subcommand_of a (map string_bytes c.args.words.now)) app in
    IfOk-weaker c.read_subcommand.result _ _ (λ command says. subst (λ met. Says met command) same says) c.read_subcommand.ensures.ok

pub returns-clause-refused : goal.returns-clause-refused
returns-clause-refused c =
    let app : app_of c.in_ok-line.line ≡ line_app = c.in_ok-line.ensures.app in
    let same = (c.in_ok-matches.ensures.matches (ap is_simple app)).1 ∙ ap (λ (a : App). subcommand_of a (map string_bytes c.args.words.now)) app in
    IfErr-weaker c.read_subcommand.result _ _ (λ e no words taken command says. no words command (subst (λ met. Says met command) (sym same) says)) c.read_subcommand.ensures.refused

made_weaker : {T E : Type 0} (r : Result T E) (P Q : E → Type 0) → ((e : E) → P e → Q e) → IsErrAnd r P → IfErr r Q
made_weaker (Ok x) P Q f h = tt
made_weaker (Err e) P Q f h = f e h

memory_not_words : (e : LineFault) {A : Type 0} → e ≡ Memory → e ≡ Words → A
memory_not_words e memory words = cc

pub returns-in_err-matches-clause-refused : goal.returns-in_err-matches-clause-refused
returns-in_err-matches-clause-refused c =
    let app : app_of c.in_ok-line.line ≡ line_app = c.in_ok-line.ensures.app in
    let passes = c.in_err-matches.ensures.passes in
    made_weaker c.from_residual-in_err-matches.result _ _
    (λ e made words taken command says. memory_not_words e (made.1 (passes (ap (λ (a : App). takes a (map string_bytes c.args.words.now)) app ∙ taken))) words)
    c.from_residual-in_err-matches.ensures.1
