-- The lines that the program takes, in the words of `clap`.
use Rattle.std.specs.Prelude.{Some, true, codes}
use Rattle.clap.specs.Lexer.{usize_max}
use Rattle.clap.specs.Words.{App, Rule, Text, new_app, new_rule, with_rule, with_subcommand}
use Rattle.clap.specs.declared.builder.action.ArgAction.TheVariants.{Set, Append}

-- A word that has to stand, and stands once.
abbrev pub word_rule : Text → Rule
word_rule name = record (new_rule name) { required = true; action = Some Set }

-- `ask ORIGIN FILE NAME TYPE`
abbrev pub ask_app : App
ask_app = with_rule (with_rule (with_rule (with_rule (new_app (codes "ask")) (word_rule (codes "origin"))) (word_rule (codes "file")))
    (word_rule (codes "name"))) (word_rule (codes "type"))

-- `check ORIGIN FILE`, and `dump ORIGIN FILE`
abbrev pub file_app : Text → App
file_app name = with_rule (with_rule (new_app name) (word_rule (codes "origin"))) (word_rule (codes "file"))

-- `play WORLD SCRIPT`
abbrev pub play_app : App
play_app = with_rule (with_rule (new_app (codes "play")) (word_rule (codes "world"))) (word_rule (codes "script"))

-- `--keep N`, which may be left out.
abbrev pub keep_rule : Rule
keep_rule = record (new_rule (codes "keep")) { long = Some (codes "keep"); action = Some Set }

-- `SCRIPT..`, one or more.
abbrev pub scripts_rule : Rule
scripts_rule = record (new_rule (codes "script")) { required = true; action = Some Append; range = Some (record { start_inclusive = 1; end_inclusive = usize_max }) }

-- `storm [--keep N] WORLD SCRIPT..`
abbrev pub storm_app : App
storm_app = with_rule (with_rule (with_rule (new_app (codes "storm")) keep_rule) (word_rule (codes "world"))) scripts_rule

-- `serve CONFIG`, and `check-config CONFIG`
abbrev pub config_app : Text → App
config_app name = with_rule (new_app name) (word_rule (codes "config"))

-- `trace CONFIG NAME TYPE`
abbrev pub trace_app : App
trace_app = with_rule (with_rule (config_app (codes "trace")) (word_rule (codes "name"))) (word_rule (codes "type"))

-- The line without its subcommands: one of them has to stand.
abbrev pub bare_app : App
bare_app = let a = new_app (codes "resolverd") in record a { top = record a.top { no_binary_name = true; subcommand_required = true } }

-- The line with all subcommands but the last.
abbrev pub front_app : App
front_app =
    with_subcommand
    (with_subcommand
    (with_subcommand
    (with_subcommand (with_subcommand (with_subcommand (with_subcommand bare_app ask_app.top) (file_app (codes "check")).top) (file_app (codes "dump")).top) play_app.top)
    storm_app.top)
    (config_app (codes "serve")).top)
    (config_app (codes "check-config")).top

-- The whole line.
abbrev pub line_app : App
line_app = with_subcommand front_app trace_app.top
