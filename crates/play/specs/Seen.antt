-- What a player sees, as plain values, and how single steps of its code change that.
use Rattle.std.specs.Prelude.{◌≡◌, ℕ, List, [], ◌∷◌, ◌++◌, string_bytes}
use Rattle.std.specs.List.{flat_map}
use Rattle.wire.specs.declared.via.Via.{Via}
use Rattle.wire.specs.declared.via.Via.TheVariants.{Udp, Tcp}
use Rattle.network.specs.Networks.{NetworkAction, WasSent, WasAsked}
use Rattle.play.specs.Counts.{Counts, CountsAll, mark_of}
use Rattle.play.specs.Plays.{Seen, State}
use Rattle.play.specs.Shown.{Puts, PutsAll, drop_line}
use Rattle.play.specs.declared.show.Show.{Show}
use Rattle.play.specs.declared.follow.Player.{Player}

abbrev pub seen : {A : Type 0} → Show A → Seen
seen s = record { network = s.network; clients = s.clients; sends = (s.sends).marks; count = s.count; text = string_bytes s.text }

abbrev pub state_of : {A : Type 0} → Player A → State
state_of p = record { moment = p.moment; seen = seen p.show }

abbrev pub with_text : List ℕ → Seen → Seen
with_text text s = record s { text = s.text ++ text }

-- An ask goes out this way.
abbrev pub way_action : Via → ℕ → NetworkAction
way_action Udp k = WasSent k
way_action Tcp k = WasAsked k

-- An action is printed and counted.
pub record Acts (a : NetworkAction) (old new : Seen) : Type 0 where
  pub network : new.network ≡ old.network
  pub clients : new.clients ≡ old.clients
  pub sends : new.sends ≡ old.sends ++ mark_of a
  pub counts : Counts (old.network).world old.clients a old.count new.count
  pub prints : Puts (old.network).sends a old.text new.text

-- So are all that come out of a step.
pub record ActsAll (out : List NetworkAction) (old new : Seen) : Type 0 where
  pub network : new.network ≡ old.network
  pub clients : new.clients ≡ old.clients
  pub sends : new.sends ≡ old.sends ++ flat_map mark_of out
  pub counts : CountsAll (old.network).world old.clients out old.count new.count
  pub prints : PutsAll (old.network).sends out old.text new.text

-- What comes out after the bytes of a client is printed and counted; where that is nothing they are dropped.
abbrev pub Heeds : ℕ → List NetworkAction → Seen → Seen → Type 0
Heeds client [] old new = new ≡ with_text (drop_line client) old
Heeds client (a ∷ rest) old new = ActsAll (a ∷ rest) old new
