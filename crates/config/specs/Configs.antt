-- What a server's file says, line by line.
use Rattle.std.specs.Prelude.{ℕ, Bool, false, ◌||◌, cond, codes, Result, Ok, Err, Option, Some, None, List, [], ◌∷◌, ◌++◌}
use Rattle.std.specs.Str.{bytes_eq}
use Rattle.limits.specs.Limits.{max_entries, max_sockets, max_workers}
use Rattle.hex.specs.Hex.{decode_sized}
use Rattle.hex.specs.declared.error.FromHexError.{FromHexError}
use Rattle.dname.specs.Labels.{Name, same_name}
use Rattle.text_lines.specs.declared.fault.LineKind.{LineKind}
use Rattle.text_lines.specs.declared.fault.LineKind.TheVariants.{UnknownWord, WordCount, BadHex}
use Rattle.text_lines.specs.declared.fault.LineError.{LineError}
use Rattle.text_lines.specs.Faults.{◌>>=◌}
use Rattle.text_lines.specs.Lines.{lines}
use Rattle.text_lines.specs.Texts.{said_from}
use Rattle.text_lines.specs.Words.{number_of, address_of, name_of, next, ended}
use Rattle.config.specs.declared.keyword.Keyword.{Keyword}
use Rattle.config.specs.declared.keyword.Keyword.TheVariants as the
use Rattle.config.specs.Keywords.{keyword_of}
use Rattle.config.specs.declared.config.LogLevel.{LogLevel}
use Rattle.config.specs.declared.config.LogLevel.TheVariants as level

-- The most streams of clients that are open at once.
abbrev pub max_streams : ℕ
max_streams = 256

-- The most questions that one address may have under way.
abbrev pub max_clients : ℕ
max_clients = 1024

-- The most loops that take clients' datagrams.
abbrev pub max_loops : ℕ
max_loops = 16

-- Where a server listens, or serves its counters.
pub record End : Type 0 where
  pub address : List ℕ
  pub port : ℕ

-- A zone that a server serves itself, and its file.
pub record LocalZone : Type 0 where
  pub origin : Name
  pub file : List ℕ

-- What the lines of a file said up to here.
pub record Draft : Type 0 where
  pub listen : Option End
  pub port : Option ℕ
  pub hints : List (List ℕ)
  pub locals : List LocalZone
  pub cache : Option ℕ
  pub delegations : Option ℕ
  pub penalties : Option ℕ
  pub failures : Option ℕ
  pub sockets : Option ℕ
  pub workers : Option ℕ
  pub streams : Option ℕ
  pub clients : Option ℕ
  pub loops : Option ℕ
  pub metrics : Option End
  pub log : Option LogLevel
  pub seed : Option (List ℕ)

abbrev pub blank : Draft
blank = record {
  listen = None;
  port = None;
  hints = [];
  locals = [];
  cache = None;
  delegations = None;
  penalties = None;
  failures = None;
  sockets = None;
  workers = None;
  streams = None;
  clients = None;
  loops = None;
  metrics = None;
  log = None;
  seed = None;
}

-- ---- What the words behind a keyword say.

-- An address and a port, which is this one at least.
abbrev pub end_in : ℕ → List (List ℕ) → Result End LineKind
end_in low ws = next address_of ws >>= λ a. (next (number_of low 65535) a.1 >>= λ p. ended (record { address = a.0; port = p.0 }) p.1)

abbrev pub number_in : ℕ → ℕ → List (List ℕ) → Result ℕ LineKind
number_in low high ws = next (number_of low high) ws >>= λ n. ended n.0 n.1

abbrev pub hint_in : List (List ℕ) → Result (List ℕ) LineKind
hint_in ws = next address_of ws >>= λ a. ended a.0 a.1

abbrev pub zone_in : List (List ℕ) → Result LocalZone LineKind
zone_in ws = next name_of ws >>= λ o. (next Ok o.1 >>= λ f. ended (record { origin = o.0; file = f.0 }) f.1)

abbrev pub seed_read : Result (List ℕ) FromHexError → Result (List ℕ) LineKind
seed_read (Ok bytes) = Ok bytes
seed_read (Err e) = Err BadHex

-- 32 bytes in 64 hexadecimal digits.
abbrev pub seed_of : List ℕ → Result (List ℕ) LineKind
seed_of w = seed_read (decode_sized w 32)

abbrev pub seed_in : List (List ℕ) → Result (List ℕ) LineKind
seed_in ws = next seed_of ws >>= λ s. ended s.0 s.1

-- How much is logged: what goes wrong while the server runs, or its start too.
abbrev pub level_of : List ℕ → Result LogLevel LineKind
level_of w = cond (bytes_eq w (codes "warn")) (Ok level.Warn) (cond (bytes_eq w (codes "info")) (Ok level.Info) (Err UnknownWord))

abbrev pub level_in : List (List ℕ) → Result LogLevel LineKind
level_in ws = next level_of ws >>= λ l. ended l.0 l.1

-- ---- What a line says.

-- A value that one line alone may state.
abbrev pub once : {X : Type 0} → Option X → X → Result (Option X) LineKind
once None x = Ok (Some x)
once (Some y) x = Err WordCount

abbrev pub has_origin : Name → List LocalZone → Bool
has_origin n [] = false
has_origin n (z ∷ zs) = same_name z.origin n || has_origin n zs

-- An origin stands on one line alone.
abbrev pub with_zone : Draft → LocalZone → Result Draft LineKind
with_zone d z = cond (has_origin z.origin d.locals) (Err WordCount) (Ok (record d { locals = d.locals ++ z ∷ [] }))

abbrev pub said_by : Draft → Keyword → List (List ℕ) → Result Draft LineKind
said_by d the.Listen ws = end_in 0 ws >>= λ e. (once d.listen e >>= λ v. Ok (record d { listen = v }))
said_by d the.Port ws = number_in 1 65535 ws >>= λ n. (once d.port n >>= λ v. Ok (record d { port = v }))
said_by d the.Hint ws = hint_in ws >>= λ a. Ok (record d { hints = d.hints ++ a ∷ [] })
said_by d the.Local ws = zone_in ws >>= λ z. with_zone d z
said_by d the.Cache ws = number_in 1 max_entries ws >>= λ n. (once d.cache n >>= λ v. Ok (record d { cache = v }))
said_by d the.Delegations ws = number_in 1 max_entries ws >>= λ n. (once d.delegations n >>= λ v. Ok (record d { delegations = v }))
said_by d the.Penalties ws = number_in 1 max_entries ws >>= λ n. (once d.penalties n >>= λ v. Ok (record d { penalties = v }))
said_by d the.Failures ws = number_in 1 max_entries ws >>= λ n. (once d.failures n >>= λ v. Ok (record d { failures = v }))
said_by d the.Sockets ws = number_in 1 max_sockets ws >>= λ n. (once d.sockets n >>= λ v. Ok (record d { sockets = v }))
said_by d the.Workers ws = number_in 1 max_workers ws >>= λ n. (once d.workers n >>= λ v. Ok (record d { workers = v }))
said_by d the.Streams ws = number_in 1 max_streams ws >>= λ n. (once d.streams n >>= λ v. Ok (record d { streams = v }))
said_by d the.Clients ws = number_in 1 max_clients ws >>= λ n. (once d.clients n >>= λ v. Ok (record d { clients = v }))
said_by d the.Loops ws = number_in 1 max_loops ws >>= λ n. (once d.loops n >>= λ v. Ok (record d { loops = v }))
said_by d the.Metrics ws = end_in 1 ws >>= λ e. (once d.metrics e >>= λ v. Ok (record d { metrics = v }))
said_by d the.Log ws = level_in ws >>= λ l. (once d.log l >>= λ v. Ok (record d { log = v }))
said_by d the.Seed ws = seed_in ws >>= λ s. (once d.seed s >>= λ v. Ok (record d { seed = v }))

abbrev pub said_if : Draft → Option Keyword → List (List ℕ) → Result Draft LineKind
said_if d None ws = Err UnknownWord
said_if d (Some k) ws = said_by d k ws

-- A line without words says nothing.
abbrev pub said : Draft → List (List ℕ) → Result Draft LineKind
said d [] = Ok d
said d (w ∷ ws) = said_if d (keyword_of w) ws

-- ---- What a file says.

pub record Config : Type 0 where
  pub listen : End
  pub port : ℕ
  pub hints : List (List ℕ)
  pub locals : List LocalZone
  pub cache : ℕ
  pub delegations : ℕ
  pub penalties : ℕ
  pub failures : ℕ
  pub sockets : ℕ
  pub workers : ℕ
  pub streams : ℕ
  pub clients : ℕ
  pub loops : ℕ
  pub metrics : Option End
  pub log : Option LogLevel
  pub seed : Option (List ℕ)

abbrev pub stated : Option ℕ → ℕ → ℕ
stated None usual = usual
stated (Some n) usual = n

-- What no line stated is as usual; where the server listens has to be stated.
abbrev pub finished : Draft → Option End → Result Config LineKind
finished d None = Err WordCount
finished d (Some e) = Ok (record {
  listen = e;
  port = stated d.port 53;
  hints = d.hints;
  locals = d.locals;
  cache = stated d.cache 1024;
  delegations = stated d.delegations 1024;
  penalties = stated d.penalties 1024;
  failures = stated d.failures 1024;
  sockets = stated d.sockets 16;
  workers = stated d.workers 4;
  streams = stated d.streams 1;
  clients = stated d.clients 256;
  loops = stated d.loops 1;
  metrics = d.metrics;
  log = d.log;
  seed = d.seed;
})

abbrev pub whole : Draft → Result Config LineKind
whole d = finished d d.listen

abbrev pub config_of : List ℕ → Result Config LineError
config_of text = said_from said whole 1 blank (lines text)
