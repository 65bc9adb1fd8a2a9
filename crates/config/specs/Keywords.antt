-- The first words of a server's file.
use Rattle.std.specs.Prelude.{ℕ, cond, codes, List, Option, Some, None}
use Rattle.std.specs.Str.{bytes_eq}
use Rattle.config.specs.declared.keyword.Keyword.{Keyword}
use Rattle.config.specs.declared.keyword.Keyword.TheVariants.{Listen, Port, Hint, Local, Cache, Delegations, Penalties, Failures, Sockets, Workers, Streams, Clients, Loops, Metrics, Log, Seed}

-- The keyword that a word is, letters as they stand.
abbrev pub keyword_of : List ℕ → Option Keyword
keyword_of w =
    cond (bytes_eq w (codes "listen")) (Some Listen)
    (cond (bytes_eq w (codes "port")) (Some Port)
    (cond (bytes_eq w (codes "hint")) (Some Hint)
    (cond (bytes_eq w (codes "local")) (Some Local)
    (cond (bytes_eq w (codes "cache")) (Some Cache)
    (cond (bytes_eq w (codes "delegations")) (Some Delegations)
    (cond (bytes_eq w (codes "penalties")) (Some Penalties)
    (cond (bytes_eq w (codes "failures")) (Some Failures)
    (cond (bytes_eq w (codes "sockets")) (Some Sockets)
    (cond (bytes_eq w (codes "workers")) (Some Workers)
    (cond (bytes_eq w (codes "streams")) (Some Streams)
    (cond (bytes_eq w (codes "clients")) (Some Clients)
    (cond (bytes_eq w (codes "loops")) (Some Loops)
    (cond (bytes_eq w (codes "metrics")) (Some Metrics)
    (cond (bytes_eq w (codes "log")) (Some Log)
    (cond (bytes_eq w (codes "seed")) (Some Seed) None)))))))))))))))
