-- What a script orders, line by line.
use Rattle.std.specs.Prelude.{ℕ, ◌-◌, ◌^◌, Bool, true, false, Result, Ok, Err, Option, Some, None, List, [], ◌∷◌, ◌++◌}
use Rattle.dname.specs.Labels.{Name}
use Rattle.rdata.specs.declared.rtype.RType.{RType}
use Rattle.wire.specs.declared.via.Via.{Via}
use Rattle.wire.specs.declared.via.Via.TheVariants.{Udp, Tcp}
use Rattle.text_lines.specs.declared.fault.LineKind.{LineKind}
use Rattle.text_lines.specs.declared.fault.LineKind.TheVariants.{UnknownWord, WordCount}
use Rattle.text_lines.specs.declared.fault.LineError.{LineError}
use Rattle.text_lines.specs.Faults.{◌>>=◌}
use Rattle.text_lines.specs.Lines.{lines}
use Rattle.text_lines.specs.Texts.{said_from}
use Rattle.text_lines.specs.Words.{number_of, name_of, type_of, bytes_of, next, ended}
use Rattle.script.specs.declared.keyword.Keyword.{Keyword}
use Rattle.script.specs.declared.keyword.Keyword.TheVariants as the
use Rattle.script.specs.declared.mark.Mark.{Mark}
use Rattle.script.specs.declared.mark.Mark.TheVariants as mark
use Rattle.script.specs.declared.order.Order as code_order
use Rattle.script.specs.declared.order.Order.TheVariants as given
use Rattle.script.specs.declared.keyword.Scope.{Scope}
use Rattle.script.specs.declared.keyword.Scope.TheVariants.{Whole, Asks}
use Rattle.script.specs.Keywords.{keyword_in, mark_of}

-- What one line orders.
pub data Order : Type 0 where
  -- the moment of what follows
  at : ℕ → Order
  -- a client's query, how it goes, and whether recursion is desired
  ask : Name → RType → Via → Bool → Order
  -- these bytes from a client
  raw : List ℕ → Via → Order
  -- the reply to the send of this number comes, comes truncated, or never comes
  carry : ℕ → Order
  truncate : ℕ → Order
  lose : ℕ → Order
  -- replies come until no send is left
  run : Order
  tick : Order

abbrev pub order_seen : {A : Type 0} → code_order.Order A → Order
order_seen (given.At n) = at n
order_seen (given.Ask n t v r) = ask n t v r
order_seen (given.Raw bytes v) = raw bytes.items v
order_seen (given.Carry n) = carry n
order_seen (given.Truncate n) = truncate n
order_seen (given.Lose n) = lose n
order_seen given.Run = run
order_seen given.Tick = tick

-- ---- What the words behind a keyword say.

abbrev pub number_in : ℕ → List (List ℕ) → Result ℕ LineKind
number_in most ws = next (number_of 0 most) ws >>= λ n. ended n.0 n.1

-- Behind `tcp`, `norec` may stand.
abbrev pub recursion_by : Option Mark → List (List ℕ) → Result (Via × Bool) LineKind
recursion_by (Some mark.Norec) ws = ended (Tcp, false) ws
recursion_by (Some mark.Tcp) ws = Err WordCount
recursion_by None ws = Err UnknownWord

abbrev pub recursion_in : List (List ℕ) → Result (Via × Bool) LineKind
recursion_in [] = Ok (Tcp, true)
recursion_in (w ∷ ws) = recursion_by (mark_of w) ws

abbrev pub marks_by : Option Mark → List (List ℕ) → Result (Via × Bool) LineKind
marks_by (Some mark.Tcp) ws = recursion_in ws
marks_by (Some mark.Norec) ws = ended (Udp, false) ws
marks_by None ws = Err UnknownWord

-- How a query goes and whether recursion is desired: `tcp` and then `norec`, each if wanted.
abbrev pub marks_in : List (List ℕ) → Result (Via × Bool) LineKind
marks_in [] = Ok (Udp, true)
marks_in (w ∷ ws) = marks_by (mark_of w) ws

abbrev pub way_by : Option Mark → List (List ℕ) → Result Via LineKind
way_by (Some mark.Tcp) ws = ended Tcp ws
way_by (Some mark.Norec) ws = Err UnknownWord
way_by None ws = Err UnknownWord

-- How bytes go: `tcp`, if wanted.
abbrev pub way_in : List (List ℕ) → Result Via LineKind
way_in [] = Ok Udp
way_in (w ∷ ws) = way_by (mark_of w) ws

abbrev pub ask_in : List (List ℕ) → Result Order LineKind
ask_in ws = next name_of ws >>= λ n. (next type_of n.1 >>= λ t. (marks_in t.1 >>= λ m. Ok (ask n.0 t.0 m.0 m.1)))

abbrev pub raw_in : List (List ℕ) → Result Order LineKind
raw_in ws = next bytes_of ws >>= λ b. (way_in b.1 >>= λ v. Ok (raw b.0 v))

-- ---- What a line orders.

abbrev pub ordered_by : Keyword → List (List ℕ) → Result Order LineKind
ordered_by the.At ws = number_in 4611686018427387904 ws >>= λ n. Ok (at n)
ordered_by the.Ask ws = ask_in ws
ordered_by the.Raw ws = raw_in ws
ordered_by the.Carry ws = number_in (2 ^ 64 - 1) ws >>= λ n. Ok (carry n)
ordered_by the.Truncate ws = number_in (2 ^ 64 - 1) ws >>= λ n. Ok (truncate n)
ordered_by the.Lose ws = number_in (2 ^ 64 - 1) ws >>= λ n. Ok (lose n)
ordered_by the.Run ws = ended run ws
ordered_by the.Tick ws = ended tick ws

abbrev pub ordered : Option Keyword → List (List ℕ) → Result Order LineKind
ordered None ws = Err UnknownWord
ordered (Some k) ws = ordered_by k ws

-- A line without words orders nothing.
abbrev pub said : Scope → List Order → List (List ℕ) → Result (List Order) LineKind
said scope done [] = Ok done
said scope done (w ∷ ws) = ordered (keyword_in scope w) ws >>= λ o. Ok (done ++ o ∷ [])

abbrev pub orders_of : Scope → List ℕ → Result (List Order) LineError
orders_of scope text = said_from (said scope) Ok 1 [] (lines text)

abbrev pub script_of : List ℕ → Result (List Order) LineError
script_of text = orders_of Whole text

-- The same of a script that may only ask: another first word than `at` and `ask` is unknown there.
abbrev pub asks_of : List ℕ → Result (List Order) LineError
asks_of text = orders_of Asks text
