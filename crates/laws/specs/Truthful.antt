-- The resolver's data are true, as long as servers send only what they may. Each entry of the cache is a link of the
-- world, and the servers of each cached cut serve it. The servers of each search serve its zone, and the aliases of
-- each open query are those of its name.
use Rattle.std.specs.Prelude.{◌≡◌, ℕ, ◌<◌, ◌≤◌, List, [], ◌∷◌, length, map, Contains}
use Rattle.limits.specs.Limits.{max_aliases}
use Rattle.dname.specs.Labels.{Name}
use Rattle.rdata.specs.Records.{Record}
use Rattle.rdata.specs.Types.{type_number}
use Rattle.rdata.specs.declared.addr.Addr.{Addr}
use Rattle.zone.specs.Zones.{a_type}
use Rattle.zone.specs.Links.{Link, Found, Alias, NoData, NxDomain}
use Rattle.message_grammar.specs.Messages.{folded_question}
use Rattle.front.specs.Chains.{alias_target}
use Rattle.front.specs.Laws.{question_of}
use Rattle.cache.specs.Keys.{Key, key_for}
use Rattle.cache.specs.Cached.{Hit}
use Rattle.referral.specs.Cuts.{ServerAddress, Cut, Known}
use Rattle.frames.specs.Frames.{Frame}
use Rattle.world_truth.specs.Worlds.{Address, World, IsWorld}
use Rattle.world_truth.specs.Truths.{IsTrueLink}
use Rattle.world_truth.specs.Replies.{Once}
use Rattle.world_truth.specs.Frames.{MayAsk, IsDelegation, IsFrame, frame_at}
use Rattle.world_truth.specs.Frames as truth
use Rattle.resolution.specs.Jobs.{Stores, Taken, bytes_of, Search, Job}
use Rattle.runs.specs.States.{OpenQuery, Turn, ClientQuery, Open, Site, State}
use Rattle.runs.specs.Runs.{Run, Earlier, IsOpenAskOf, Came}
use Rattle.laws.specs.Headline.{IsHonest, IsHomeIn}

-- ---- the cache

abbrev pub IsOnce : Link → Type 0
IsOnce (Found set) = Once set
IsOnce (Alias r) = Unit {0}
IsOnce (NoData soa) = Unit {0}
IsOnce (NxDomain soa) = Unit {0}

-- The world's link of a question, each record once.
pub record IsTrueOnce (W : World) (n : Name) (t : ℕ) (l : Link) : Type 0 where
  pub is : IsTrueLink W n t l
  pub once : IsOnce l

-- A true link under its key.
abbrev pub IsTrueEntry : World → Key → Link → Type 0
IsTrueEntry W k l = (n : Name) × (t : ℕ) × (k ≡ key_for n t l) × IsTrueOnce W n t l

abbrev pub AreTrueEntries : World → List (Key × Hit) → Type 0
AreTrueEntries W es = (k : Key) (h : Hit) → Contains es (k, h) → IsTrueEntry W k h.link

-- ---- cuts and servers

abbrev pub address_bytes : ServerAddress → Address
address_bytes s = (s.address).0

abbrev pub cut_bytes : Cut → List Address
cut_bytes c = map address_bytes c.addresses

-- The servers of a cached cut are those of the world's delegation.
abbrev pub IsTrueCut : World → Cut → Type 0
IsTrueCut W c = IsDelegation W c.owner c.names (cut_bytes c)

abbrev pub AreTrueCuts : World → List (Name × Known) → Type 0
AreTrueCuts W es = (n : Name) (k : Known) → Contains es (n, k) → ((k.cut).owner ≡ n) × IsTrueCut W k.cut

abbrev pub frame_of : Frame → truth.Frame
frame_of f = frame_at f.zone f.names (map bytes_of f.addresses)

-- The servers of a frame may be asked about the name.
abbrev pub IsTrueFrame : World → Name → Frame → Type 0
IsTrueFrame W q f = IsFrame W q (frame_of f)

pub record AreTrueStores (W : World) (stores : Stores) : Type 0 where
  pub cache : AreTrueEntries W stores.cache
  pub cuts : AreTrueCuts W stores.delegations

-- ---- the work of a query

-- True aliases that lead from a name to another.
abbrev pub TrueAliasesLead : World → ℕ → Name → List Taken → Name → Type 0
TrueAliasesLead W t from [] to = to ≡ from
TrueAliasesLead W t from (l ∷ ls) to = (l.name ≡ from) × ((r : Record) × (l.link ≡ Alias r) × IsTrueOnce W from t (Alias r) × TrueAliasesLead W t (alias_target r) ls to)

-- A search for the query's own name, or for the name of a server of the search around it.
abbrev pub IsWanted : Name → ℕ → Search → List Search → Type 0
IsWanted n t s [] = (s.name ≡ n) × (s.kind ≡ t)
IsWanted n t s (around ∷ rest) = Contains (around.frame).names s.name × (s.kind ≡ a_type)

abbrev pub AreTrueSearches : World → Name → ℕ → List Search → Type 0
AreTrueSearches W n t [] = Unit {0}
AreTrueSearches W n t (s ∷ rest) = IsTrueFrame W s.name s.frame × IsWanted n t s rest × AreTrueSearches W n t rest

pub record IsTrueJob (W : World) (q : Name) (t : ℕ) (j : Job) : Type 0 where
  pub kind : j.kind ≡ t
  pub leads : TrueAliasesLead W t q j.chain j.name
  pub few : length j.chain ≤ max_aliases
  pub searches : AreTrueSearches W j.name t j.searches

-- A server that the innermost search may ask is asked its question.
pub record AsksTruly (W : World) (server : Addr) (n : Name) (k : ℕ) (job : Job) : Type 0 where
  pub search : Search
  pub rest : List Search
  pub searches : job.searches ≡ search ∷ rest
  pub name : n ≡ search.name
  pub kind : k ≡ search.kind
  pub may : MayAsk W (bytes_of server) (search.frame).zone search.name

-- An open query: its client asked it earlier, its work is true, and its open ask is of a server that may be asked.
pub record IsTrueOpen (W : World) (port : ℕ) (run : List Turn) (q : Open) : Type 0 where
  pub echo : folded_question ((q.client_query).query).echo ≡ question_of (q.client_query).query
  pub came : Earlier (Came (OpenQuery q.number) q.client_query) run
  pub only : (who : ClientQuery) → Earlier (Came (OpenQuery q.number) who) run → who ≡ q.client_query
  pub job : IsTrueJob W ((q.client_query).query).name (type_number ((q.client_query).query).kind) q.job
  pub ask : IsOpenAskOf port q.number q.ask run
  pub asks : AsksTruly W (q.ask).server (q.ask).name (q.ask).kind q.job

-- ---- all data together

pub record HoldsTruth (W : World) (port : ℕ) (run : List Turn) (s : State) : Type 0 where
  pub stores : AreTrueStores W s.stores
  pub queries : (q : Open) → Contains s.queries q → IsTrueOpen W port run q
  pub numbers : (k : ℕ) (who : ClientQuery) → Earlier (Came (OpenQuery k) who) run → k < s.opened

-- The same in each well formed world that has these local zones and hints, where servers were honest.
abbrev pub IsTrueInWorlds : Site → List Turn → State → Type 0
IsTrueInWorlds site run s = (W : World) → IsWorld W → IsHomeIn W site.home → IsHonest W site.port run → HoldsTruth W site.port run s

-- In an honest run all data of the resolver are true.
abbrev pub HeldIsTrue : Type 0
HeldIsTrue = (W : World) (site : Site) (run : List Turn) (s : State) → IsWorld W → IsHomeIn W site.home → Run site run s → IsHonest W site.port run → HoldsTruth W site.port run s
