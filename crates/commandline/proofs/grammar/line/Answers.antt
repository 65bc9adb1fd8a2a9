-- The line's subcommands, one after the other.
use Rattle.std.proofs.Common.{◌≡◌, ◌∙◌, ap, ap₂, false, Result, Ok, Err, IfOk, IsOkAnd}
use Rattle.std.proofs.lemmas.Result.{IfOk-weaker}
use Rattle.clap.specs.Words.{AddsSubcommand, App, app_of, with_subcommand}
use Rattle.clap.specs.declared.builder.command.Command.{Command}
use Rattle.clap.specs.declared.builder.command.Command.TheViews.{out-Command}
use Rattle.commandline.proofs.grammar.line.Goals as goal

-- A subcommand that was made is one more.
one_more : {E : Type 0} (made : Result Command E) (before after : Command) (a s : App) → app_of before ≡ a → IfOk made (λ c. app_of c ≡ s)
    → IfOk made (λ c. (out-Command c).has_globals ≡ false) → IsOkAnd made (λ c. AddsSubcommand before c after) → app_of after ≡ with_subcommand a s.top
one_more (Ok c) before after a s so_far is local adds = adds.shape local ∙ ap₂ with_subcommand so_far (ap (λ (b : App). b.top) is)
one_more (Err e) before after a s so_far is local adds = absurd adds

pub returns : goal.returns
returns c =
    let with_ask = one_more _ _ c.in_ok-line.line _ _ c.bare_line.ensures c.ask_line.ensures.app c.ask_line.ensures.local c.in_ok-line.ensures in
    let with_check = one_more _ _ c.in_ok-line-2.line _ _ with_ask c.file_line.ensures.app c.file_line.ensures.local c.in_ok-line-2.ensures in
    let with_dump = one_more _ _ c.in_ok-line-3.line _ _ with_check c.file_line-2.ensures.app c.file_line-2.ensures.local c.in_ok-line-3.ensures in
    let with_play = one_more _ _ c.in_ok-line-4.line _ _ with_dump c.play_line.ensures.app c.play_line.ensures.local c.in_ok-line-4.ensures in
    let with_storm = one_more _ _ c.in_ok-line-5.line _ _ with_play c.storm_line.ensures.app c.storm_line.ensures.local c.in_ok-line-5.ensures in
    let with_serve = one_more _ _ c.in_ok-line-6.line _ _ with_storm c.config_line.ensures.app c.config_line.ensures.local c.in_ok-line-6.ensures in
    let with_config = one_more _ _ c.in_ok-line-7.line _ _ with_serve c.config_line-2.ensures.app c.config_line-2.ensures.local c.in_ok-line-7.ensures in
    record {
      app = IfOk-weaker c.with_line-8.result _ _ (λ r h. one_more _ _ r _ _ with_config c.trace_line.ensures.app c.trace_line.ensures.local h) c.with_line-8.ensures;
    }
