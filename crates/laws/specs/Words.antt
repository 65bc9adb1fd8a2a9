-- From which words of its generator a resolver takes the identifiers of its asks (RFC 5452, section 9.2).
use Rattle.std.specs.Prelude.{◌≡◌, ℕ, zero, suc, ◌⊎◌, None, List, [], ◌∷◌}
use Rattle.rand_chacha.specs.ChaCha.{ChaCha, of_seed}
use Rattle.runs.specs.States.{Action, OpenQuery, Turn, ByUdp, ByTcp, Ask, Site, State, word_of, word_taken, low_half, socket_of}
use Rattle.runs.specs.Messages.{IsSent}
use Rattle.runs.specs.Steps.{IsInUse, IsRaised}
use Rattle.runs.specs.Runs.{Run, GivesOut, asks_in}
use Rattle.laws.specs.FirstStates.{first_of}

-- The generator once so many of its words were taken.
abbrev pub drawn : ℕ → ChaCha → ChaCha
drawn zero g = g
drawn (suc n) g = word_taken (drawn n g)

-- The socket of an ask is chosen by a word's high half, and its ID is the word's low half, raised until no open
-- ask of another query is like it; an ask over TCP has the low half itself.
abbrev pub IsByWord : State → ℕ → Ask → ℕ → Type 0
IsByWord s k a w =
    ((sock : ℕ) × (sock ≡ socket_of (s.site).sockets w) × (a.path ≡ ByUdp sock) × IsRaised (IsInUse s.queries k sock a.server) (low_half w) a.id)
    ⊎ ((number : ℕ) × (a.path ≡ ByTcp number) × (a.id ≡ low_half w))

-- The words that a step takes: none where no ask goes out, and the next one for an ask; in a step that runs out of
-- memory none or one.
abbrev pub Draws : ChaCha → Site → State → Turn → ℕ → ℕ → Type 0
Draws start site old t m n =
    ((asks_in t.out ≡ 0) × ((n ≡ m) ⊎ ((t.out ≡ None) × (n ≡ suc m))))
    ⊎ ((n ≡ suc m) × ((k : ℕ) × (a : Ask) × (action : Action) × (t.served ≡ OpenQuery k) × GivesOut t.out action × IsSent site.port a action × IsByWord old k a (word_of (drawn m start))))

-- n words were taken in a run, and each ask has the first one that none before it has.
abbrev pub AreDrawn : (start : ChaCha) (site : Site) (run : List Turn) (s : State) → Run site run s → ℕ → Type 0
AreDrawn start site [] s new n = (n ≡ zero) × (s.generator ≡ start)
AreDrawn start site (t ∷ past) s (old, legal, step) n = (m : ℕ) × AreDrawn start site past old legal m × Draws start site old t m n × (s.generator ≡ drawn n start)

-- The words of the first state's stream, which is a seed's, are taken in order, from its first.
abbrev pub DrawsInOrder : (site : Site) (run : List Turn) (s : State) → Run site run s → Type 0
DrawsInOrder site run s legal = (seed : List ℕ) × ((first_of site run s legal).generator ≡ of_seed seed) × (n : ℕ) × AreDrawn (of_seed seed) site run s legal n

abbrev pub WordsInOrder : Type 0
WordsInOrder = (site : Site) (run : List Turn) (s : State) (legal : Run site run s) → DrawsInOrder site run s legal
