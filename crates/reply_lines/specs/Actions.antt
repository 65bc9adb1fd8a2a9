-- The lines of what a resolver does at an event.
use Rattle.std.specs.Prelude.{◌≡◌, ◌⊎◌, ℕ, List, ◌++◌, codes, decimal}
use Rattle.reply_lines.specs.Lines.{ArePrinted, AreNone}
use Rattle.reply_lines.specs.Asks.{IsAskPrinted}
use Rattle.reply_lines.specs.declared.action.Action.{Action}
use Rattle.reply_lines.specs.declared.action.Action.TheVariants.{Reply, Ask, Drop, Due, Starved}

abbrev pub drop_line : ℕ → List ℕ
drop_line client = codes "drop " ++ decimal client ++ codes "\n"

-- The lines of an action stand behind the text before; bytes that are no message have none.
abbrev pub IsPrinted : Action → List ℕ → List ℕ → Type 0
IsPrinted (Reply client bytes cause) before after = ArePrinted bytes.now client cause before after ⊎ AreNone bytes.now before after
IsPrinted (Ask number way server bytes) before after = IsAskPrinted bytes.now number way server.0 before after ⊎ AreNone bytes.now before after
IsPrinted (Drop client) before after = after ≡ before ++ drop_line client
IsPrinted Due before after = after ≡ before ++ codes "due\n"
IsPrinted Starved before after = after ≡ before ++ codes "starved\n"
