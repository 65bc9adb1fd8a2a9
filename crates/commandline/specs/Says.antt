-- Which command a line's matches name, and which one the words of the line do.
use Rattle.std.specs.Prelude.{◌≡◌, ◌≤◌, ℕ, true, Option, Some, None, List, codes, map, string_bytes}
use Rattle.std.specs.Str.Parse.{IsNumeral, digits_value, without_leading_plus}
use Rattle.clap.specs.Words.{Row, Text, all_of, first_of, subcommand_of, takes}
use Rattle.commandline.specs.Grammar.{line_app}
use Rattle.commandline.specs.declared.subcommands.Command.{Command}
use Rattle.commandline.specs.declared.subcommands.Command.TheVariants.{Ask, Check, Dump, Play, Storm, Serve, CheckConfig, Trace}

-- The word that names a command.
abbrev pub word_of : Command → Text
word_of (Ask origin file name kind) = codes "ask"
word_of (Check origin file) = codes "check"
word_of (Dump origin file) = codes "dump"
word_of (Play world script) = codes "play"
word_of (Storm keep world scripts) = codes "storm"
word_of (Serve config) = codes "serve"
word_of (CheckConfig config) = codes "check-config"
word_of (Trace config name kind) = codes "trace"

-- How many entries are kept: the number behind `--keep`, 1 to 1,000,000, or 65,536 where none stands there.
abbrev pub IsKeep : Option Text → ℕ → Type 0
IsKeep None n = n ≡ 65536
IsKeep (Some t) n = IsNumeral 10 (without_leading_plus t) × (digits_value 10 (without_leading_plus t) ≡ n) × (1 ≤ n) × (n ≤ 1000000)

-- The rows have a command's words.
abbrev pub HaveWords : List Row → Command → Type 0
HaveWords rows (Ask origin file name kind) = (first_of (codes "origin") rows ≡ Some (string_bytes origin)) × (first_of (codes "file") rows ≡ Some (string_bytes file))
    × (first_of (codes "name") rows ≡ Some (string_bytes name)) × (first_of (codes "type") rows ≡ Some (string_bytes kind))
HaveWords rows (Check origin file) = (first_of (codes "origin") rows ≡ Some (string_bytes origin)) × (first_of (codes "file") rows ≡ Some (string_bytes file))
HaveWords rows (Dump origin file) = (first_of (codes "origin") rows ≡ Some (string_bytes origin)) × (first_of (codes "file") rows ≡ Some (string_bytes file))
HaveWords rows (Play world script) = (first_of (codes "world") rows ≡ Some (string_bytes world)) × (first_of (codes "script") rows ≡ Some (string_bytes script))
HaveWords rows (Storm keep world scripts) = IsKeep (first_of (codes "keep") rows) keep × (first_of (codes "world") rows ≡ Some (string_bytes world))
    × (all_of (codes "script") rows ≡ Some (map string_bytes scripts.items))
HaveWords rows (Serve config) = first_of (codes "config") rows ≡ Some (string_bytes config)
HaveWords rows (CheckConfig config) = first_of (codes "config") rows ≡ Some (string_bytes config)
HaveWords rows (Trace config name kind) = (first_of (codes "config") rows ≡ Some (string_bytes config)) × (first_of (codes "name") rows ≡ Some (string_bytes name))
    × (first_of (codes "type") rows ≡ Some (string_bytes kind))

-- The subcommand of this name, with these rows, is the command.
abbrev pub IsNamed : Text → List Row → Command → Type 0
IsNamed name rows command = (name ≡ word_of command) × HaveWords rows command

-- The subcommand that was met, by its name and rows, says this command.
abbrev pub Says : Option (Text × List Row) → Command → Type 0
Says met command = (rows : List Row) × (met ≡ Some (word_of command, rows)) × HaveWords rows command

-- The words after the program's name are this command.
abbrev pub Names : List Text → Command → Type 0
Names words command = Says (subcommand_of line_app words) command

-- The line's grammar does not take the words, or they are no command.
abbrev pub NamesNothing : List Text → Type 0
NamesNothing words = takes line_app words ≡ true → (command : Command) → Names words command → ⊥
