-- What a command leaves behind.
use Rattle.std.specs.Prelude.{◌≡◌, ℕ, Bool, cond, List, ◌⊎◌, Option, None, IfSome, IsTrue, Result, Ok, Err, string_bytes}
use Rattle.std.specs.Bool.{OnTrue}
use Rattle.std.specs.Io.KnownBytes.{Appends}
use Rattle.commandline.specs.Helps.{asks_version, version_line}
use Rattle.commandline.specs.Says.{Names, NamesNothing}
use Rattle.commandline.specs.declared.fault.LineFault.{LineFault}
use Rattle.commandline.specs.declared.fault.LineFault.TheVariants.{Words, Memory as line_memory}
use Rattle.commandline.specs.declared.subcommands.Command.{Command}
use Rattle.commandline.specs.declared.subcommands.Command.TheVariants.{Ask, Check, Dump, Play, Storm, Serve, CheckConfig, Trace}
use Rattle.commands.specs.Asks.{IsAskFault}
use Rattle.commands.specs.Checks.{Explains, IsRunInWords, PassesCheck}
use Rattle.commands.specs.Exchanges.{PrintsAnswer}
use Rattle.commands.specs.Files.{CountsRecords, PrintsRecords, IsNoZone, IsNoFile}
use Rattle.commands.specs.Scripts.{PrintsScript, IsNoScript}
use Rattle.commands.specs.Storms.{PrintsStorm, IsNoStorm}
use Rattle.commands.specs.Traces.{IsTrace, IsNoTrace}
use Rattle.commands.specs.Servers.{Prepared, PrintsAddress, IsNoServer, Starts}
use Rattle.commands.specs.declared.fault.Fault.{Fault}
use Rattle.commands.specs.declared.fault.Fault.TheVariants.{Memory}
use Rattle.commands.specs.Faults.{IsReported}

-- A text was written, and its status given, and nothing else was; 4 where it could not be.
abbrev pub IsPrinted : List ℕ → ℕ → Option (List ℕ) → Option (List ℕ) → Option (List ℕ) → Option (List ℕ) → ℕ → Type 0
IsPrinted text status out out2 err err2 n = ((n ≡ status) × Appends out out2 text × (err2 ≡ err)) ⊎ (n ≡ 4)

-- The bytes of the text that came out, if one did.
abbrev pub shown : {S : Type 0} → (S → List ℕ) → Result S Fault → Result (List ℕ) Fault
shown bytes (Ok text) = Ok (bytes text)
shown bytes (Err f) = Err f

-- A command ended with this text or this fault. Of a fault nothing is printed but its line.
abbrev pub Ended : Result (List ℕ) Fault → Option (List ℕ) → Option (List ℕ) → Option (List ℕ) → Option (List ℕ) → ℕ → Type 0
Ended (Ok text) out out2 err err2 n = IsPrinted text 0 out out2 err err2 n
Ended (Err f) out out2 err err2 n = IsReported f err err2 n × (out2 ≡ out)

-- What is done printed one of these texts, and what is not has one of these faults.
abbrev pub IsAllowed : (List ℕ → Type 0) → (Fault → Type 0) → Result (List ℕ) Fault → Type 0
IsAllowed texts faults (Ok text) = texts text
IsAllowed texts faults (Err f) = faults f

abbrev pub IsRun : (List ℕ → Type 0) → (Fault → Type 0) → Option (List ℕ) → Option (List ℕ) → Option (List ℕ) → Option (List ℕ) → ℕ → Type 0
IsRun texts faults out out2 err err2 n = (done : Result (List ℕ) Fault) × IsAllowed texts faults done × Ended done out out2 err err2 n

-- The texts that a command can print, over what is known to stand at a path.
abbrev pub texts_of : (A : Type 0) → (List ℕ → Option (Option (List ℕ))) → Command → List ℕ → Type 0
texts_of A held (Ask origin file name kind) text = PrintsAnswer A (held (string_bytes file)) (string_bytes origin) (string_bytes name) (string_bytes kind) text
texts_of A held (Check origin file) text = CountsRecords (held (string_bytes file)) (string_bytes origin) text
texts_of A held (Dump origin file) text = PrintsRecords (held (string_bytes file)) (string_bytes origin) text
texts_of A held (Play world script) text = PrintsScript (held (string_bytes world)) (held (string_bytes script)) text
texts_of A held (Storm keep world scripts) text = PrintsStorm (λ p. held (string_bytes p)) (held (string_bytes world)) scripts.items text
texts_of A held (Serve config) text = PrintsAddress (held (string_bytes config)) text
texts_of A held (CheckConfig config) text = PassesCheck held (string_bytes config) text
texts_of A held (Trace config name kind) text = IsTrace (held (string_bytes config)) (string_bytes name) (string_bytes kind) text

-- The faults of a command, over the same: those of a file are told under its path, as the command names it.
abbrev pub faults_of : (List ℕ → Option (Option (List ℕ))) → Command → Fault → Type 0
faults_of held (Ask origin file name kind) f = IsAskFault held (string_bytes file) (string_bytes origin) (string_bytes name) (string_bytes kind) f
faults_of held (Check origin file) f = IsNoZone held (string_bytes file) (string_bytes origin) f
faults_of held (Dump origin file) f = IsNoFile held (string_bytes file) (string_bytes origin) f
faults_of held (Play world script) f = IsNoScript held (string_bytes world) (string_bytes script) f
faults_of held (Storm keep world scripts) f = IsNoStorm held (string_bytes world) string_bytes scripts.items f
faults_of held (Serve config) f = IsNoServer held (string_bytes config) f
faults_of held (CheckConfig config) f = IsNoServer held (string_bytes config) f
faults_of held (Trace config name kind) f = IsNoTrace held (string_bytes config) (string_bytes name) (string_bytes kind) f

-- What comes of a command: the refusals of `check-config` alone have words.
abbrev pub IsDone : (A : Type 0) → (List ℕ → Option (Option (List ℕ))) → Command → Option (List ℕ) → Option (List ℕ) → Option (List ℕ) → Option (List ℕ) → ℕ → Type 0
IsDone A held (Ask origin file name kind) out out2 err err2 n = IsRun (texts_of A held (Ask origin file name kind)) (faults_of held (Ask origin file name kind)) out out2 err err2 n
IsDone A held (Check origin file) out out2 err err2 n = IsRun (texts_of A held (Check origin file)) (faults_of held (Check origin file)) out out2 err err2 n
IsDone A held (Dump origin file) out out2 err err2 n = IsRun (texts_of A held (Dump origin file)) (faults_of held (Dump origin file)) out out2 err err2 n
IsDone A held (Play world script) out out2 err err2 n = IsRun (texts_of A held (Play world script)) (faults_of held (Play world script)) out out2 err err2 n
IsDone A held (Storm keep world scripts) out out2 err err2 n = IsRun (texts_of A held (Storm keep world scripts)) (faults_of held (Storm keep world scripts)) out out2 err err2 n
IsDone A held (Serve config) out out2 err err2 n = IsRun (texts_of A held (Serve config)) (faults_of held (Serve config)) out out2 err err2 n
IsDone A held (Trace config name kind) out out2 err err2 n = IsRun (texts_of A held (Trace config name kind)) (faults_of held (Trace config name kind)) out out2 err err2 n
IsDone A held (CheckConfig config) out out2 err err2 n =
    IsRunInWords (texts_of A held (CheckConfig config)) (faults_of held (CheckConfig config)) (Explains held) out out2 err err2 n

-- The server that a command starts: `serve` alone starts one.
abbrev pub StartsFor : (List ℕ → Option (Option (List ℕ))) → Command → ℕ → Option Prepared → Type 0
StartsFor held (Serve config) status server = Starts held (string_bytes config) status server
StartsFor _ _ _ server = server ≡ None

-- A server is started, and by `check-config` the file of one is found well, only where its sockets are bound.
abbrev pub IsBoundFor : Command → ℕ → Option Prepared → Bool → Type 0
IsBoundFor (CheckConfig config) status server bound = status ≡ 0 → IsTrue bound
IsBoundFor _ status server bound = IfSome server (λ _. IsTrue bound)

-- The version was printed, with status 0, where the words ask for that; help, with status 2, where they do not; or no
-- memory was left for it.
abbrev pub IsExplained : List (List ℕ) → Option (List ℕ) → Option (List ℕ) → Option (List ℕ) → Option (List ℕ) → ℕ → Type 0
IsExplained words out out2 err err2 n =
    ((help : List ℕ) × OnTrue (asks_version words) (help ≡ version_line) × IsPrinted help (cond (asks_version words) 0 2) out out2 err err2 n)
    ⊎ Ended (Err Memory) out out2 err err2 n

-- Words that name no command were answered.
abbrev pub IsRefusedLine : List (List ℕ) → LineFault → Option (List ℕ) → Option (List ℕ) → Option (List ℕ) → Option (List ℕ) → ℕ → Type 0
IsRefusedLine words Words out out2 err err2 n = IsExplained words out out2 err err2 n
IsRefusedLine words line_memory out out2 err err2 n = Ended (Err Memory) out out2 err err2 n

-- The command that the words name was done, over what is known to stand at a path and whether sockets are bound; where they
-- name none the line was refused, and no server started. Running out of memory may refuse any line.
abbrev pub IsLineDone : (A : Type 0) → List (List ℕ) → (List ℕ → Option (Option (List ℕ))) → Bool → Option (List ℕ) → Option (List ℕ) → Option (List ℕ) → Option (List ℕ) → ℕ → Option Prepared → Type 0
IsLineDone A words held bound out out2 err err2 n server =
    ((command : Command) × Names words command × IsDone A held command out out2 err err2 n × StartsFor held command n server × IsBoundFor command n server bound)
    ⊎ ((fault : LineFault) × (fault ≡ Words → NamesNothing words) × IsRefusedLine words fault out out2 err err2 n × (server ≡ None))
