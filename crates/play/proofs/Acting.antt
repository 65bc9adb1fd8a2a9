-- An ask that went out is printed and counted.
use Rattle.std.proofs.Common.{◌≡◌, ◌⊎◌, refl, ℕ, Option, Some, List, [], ◌∷◌, ◌++◌, subst}
use Rattle.wire.specs.declared.via.Via.{Via}
use Rattle.wire.specs.declared.via.Via.TheVariants.{Udp, Tcp}
use Rattle.runs.specs.States.{Path, Endpoint}
use Rattle.network.specs.Networks.{Sent, sent_at}
use Rattle.reply_lines.specs.Lines.{AreNone}
use Rattle.reply_lines.specs.Asks.{IsAskPrinted}
use Rattle.score.specs.Sends.{left_mark}
use Rattle.score.specs.declared.sends.Mark.{Mark}
use Rattle.play.specs.Plays.{Seen}
use Rattle.play.specs.Seen.{Acts, way_action}
use Rattle.play.specs.Shown.{PutsAsk}

-- An ask that went out, of this number and this way.
module _ (old : Seen) (k : ℕ) where
  puts_ask : (way : Via) (marks : List Mark) (text : List ℕ) → marks ≡ old.sends ++ left_mark way ∷ [] → PutsAsk (sent_at (old.network).sends k) k way old.text text
      → Acts (way_action way k) old (record old { sends = marks; text = text })
  puts_ask Udp marks text pushed prints = record { network = refl; clients = refl; sends = pushed; counts = refl; prints = prints }
  puts_ask Tcp marks text pushed prints = record { network = refl; clients = refl; sends = pushed; counts = refl; prints = prints }

  pub goes_out : (way : Via) (marks : List Mark) (text : List ℕ) (x : Sent) (path : Path) (to : Endpoint) (bytes given : List ℕ) → marks ≡ old.sends ++ left_mark way ∷ []
      → record { path = path; to = to; bytes = bytes } ≡ x → given ≡ bytes → Some x ≡ sent_at (old.network).sends k
      → IsAskPrinted given k way (to.address).0 old.text text ⊎ AreNone given old.text text → Acts (way_action way k) old (record old { sends = marks; text = text })
  goes_out way marks text x path to bytes given pushed is same stands puts =
      let whole : PutsAsk (Some (record { path = path; to = to; bytes = bytes })) k way old.text text =
      subst (λ (b : List ℕ). IsAskPrinted b k way (to.address).0 old.text text ⊎ AreNone b old.text text) same puts in
      puts_ask way marks text pushed
      (subst (λ (o : Option Sent). PutsAsk o k way old.text text) stands (subst (λ (y : Sent). PutsAsk (Some y) k way old.text text) is whole))
