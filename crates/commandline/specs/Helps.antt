-- What a line that names no command asks about.
use Rattle.std.specs.Prelude.{ℕ, Bool, false, ◌||◌, cond, Option, Some, None, List, [], ◌∷◌, codes}
use Rattle.std.specs.List.{list_any}
use Rattle.std.specs.Str.{bytes_eq}
use Rattle.clap.specs.Words.{Text}
use Rattle.commandline.specs.declared.help.Topic.{Topic}
use Rattle.commandline.specs.declared.help.Topic.TheVariants.{Ask, Check, Dump, Play, Storm, Serve, CheckConfig, Trace}

-- `--version`, or `-V`, alone.
abbrev pub asks_version : List Text → Bool
asks_version [] = false
asks_version (w ∷ []) = bytes_eq w (codes "--version") || bytes_eq w (codes "-V")
asks_version (w ∷ v ∷ vs) = false

-- What is printed then.
abbrev pub version_line : Text
version_line = codes "resolverd 0.1.0\n"

-- The command that a word names.
abbrev pub topic_of_word : Text → Option Topic
topic_of_word w =
    cond (bytes_eq w (codes "ask")) (Some Ask)
    (cond (bytes_eq w (codes "check")) (Some Check)
    (cond (bytes_eq w (codes "dump")) (Some Dump)
    (cond (bytes_eq w (codes "play")) (Some Play)
    (cond (bytes_eq w (codes "storm")) (Some Storm)
    (cond (bytes_eq w (codes "serve")) (Some Serve)
    (cond (bytes_eq w (codes "check-config")) (Some CheckConfig)
    (cond (bytes_eq w (codes "trace")) (Some Trace) None)))))))

-- The word that names a command.
abbrev pub topic_word : Topic → Text
topic_word Ask = codes "ask"
topic_word Check = codes "check"
topic_word Dump = codes "dump"
topic_word Play = codes "play"
topic_word Storm = codes "storm"
topic_word Serve = codes "serve"
topic_word CheckConfig = codes "check-config"
topic_word Trace = codes "trace"

abbrev pub asks_help : Text → Bool
asks_help w = bytes_eq w (codes "--help") || bytes_eq w (codes "-h")

abbrev pub topic_of_first : List Text → Option Topic
topic_of_first [] = None
topic_of_first (w ∷ ws) = topic_of_word w

-- The command that `help COMMAND`, or a command's own line with `--help` or `-h` in it, asks help of.
abbrev pub topic_of : List Text → Option Topic
topic_of [] = None
topic_of (w ∷ ws) = cond (bytes_eq w (codes "help")) (topic_of_first ws) (cond (list_any asks_help ws) (topic_of_word w) None)
