-- What is printed of a step of a network.
use Rattle.std.specs.Prelude.{◌≡◌, ◌⊎◌, ℕ, Option, Some, None, List, [], ◌∷◌, ◌++◌, codes}
use Rattle.wire.specs.declared.via.Via.{Via}
use Rattle.wire.specs.declared.via.Via.TheVariants.{Udp, Tcp}
use Rattle.network.specs.Networks.{Sent, sent_at, NetworkEvent, Client, NetworkAction, Reply, WasSent, WasAsked, MoreDue}
use Rattle.reply_lines.specs.Lines.{ArePrinted, AreNone}
use Rattle.reply_lines.specs.Asks.{IsAskPrinted}
pub use Rattle.reply_lines.specs.Actions.{drop_line}

-- The line of an ask that went out.
abbrev pub PutsAsk : Option Sent → ℕ → Via → List ℕ → List ℕ → Type 0
PutsAsk None k way before after = after ≡ before
PutsAsk (Some x) k way before after = IsAskPrinted x.bytes k way ((x.to).address).0 before after ⊎ AreNone x.bytes before after

-- The lines of an action, behind the text before. `sends`: all asks that went out.
abbrev pub Puts : List Sent → NetworkAction → List ℕ → List ℕ → Type 0
Puts sends (Reply client way bytes cause) before after = ArePrinted bytes client cause before after ⊎ AreNone bytes before after
Puts sends (WasSent k) before after = PutsAsk (sent_at sends k) k Udp before after
Puts sends (WasAsked k) before after = PutsAsk (sent_at sends k) k Tcp before after
Puts sends MoreDue before after = after ≡ before ++ codes "due\n"

abbrev pub PutsAll : List Sent → List NetworkAction → List ℕ → List ℕ → Type 0
PutsAll sends [] before after = after ≡ before
PutsAll sends (a ∷ rest) before after = (middle : List ℕ) × Puts sends a before middle × PutsAll sends rest middle after

abbrev pub client_of : NetworkEvent → Option ℕ
client_of (Client now client way bytes) = Some client
client_of _ = None

-- Bytes of a client after which nothing comes out are dropped.
abbrev pub PutsOut : List Sent → Option ℕ → List NetworkAction → List ℕ → List ℕ → Type 0
PutsOut sends (Some client) [] before after = after ≡ before ++ drop_line client
PutsOut sends (Some client) (a ∷ rest) before after = PutsAll sends (a ∷ rest) before after
PutsOut sends None out before after = PutsAll sends out before after

-- `None`: memory was wanting in the step.
abbrev pub PutsLine : List Sent → NetworkEvent → Option (List NetworkAction) → List ℕ → List ℕ → Type 0
PutsLine sends event None before after = after ≡ before ++ codes "starved\n"
PutsLine sends event (Some out) before after = PutsOut sends (client_of event) out before after
