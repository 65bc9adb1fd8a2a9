-- The zones that a server serves, by their gathered origins, and what it replies from them.
use Rattle.std.proofs.Common.{◌≡◌, ℕ, ◌+◌, ◌<◌, Bool, true, false, ◌||◌, Option, List, [], ◌∷◌, length, take, get_or, refl, sym, ◌∙◌, ap, subst}
use Rattle.std.proofs.lemmas.List.{take_more}
use Rattle.std.proofs.lemmas.List.Folds.{list_any-append}
use Rattle.std.specs.Prelude.{filter}
use Rattle.std.specs.List.{list_any}
use Rattle.dname.specs.Labels.{Name, same_name}
use Rattle.dname.specs.Laws.{same_name-exact, same_name-equal}
use Rattle.rdata.specs.Types.{type_number}
use Rattle.message_grammar.specs.Messages.{Message}
use Rattle.zone.specs.Zones.{Zone}
use Rattle.zone.specs.Look.{Local}
use Rattle.authority.specs.Catalogs.{has_origin_in, among, looked}
use Rattle.world_truth.specs.Worlds.{Address, Host, World}
use Rattle.front.specs.declared.queries.Query.{Query}
use Rattle.front.specs.declared.queries.Request.TheVariants as request
use Rattle.worlds.specs.Hosting.{served, says, IsReplyBy, IsSent, IsReplyFrom}
use Rattle.worlds.specs.Rules.{has_name, serves_at, serves}

or_false : (b : Bool) → (b || false) ≡ b
or_false true = refl
or_false false = refl

-- One server more.
pub served_more : (a : Address) (n : Name) (hs : List Host) (i : ℕ) (h : Host) (old new : Bool) → i < length hs → h ≡ get_or hs i h → old ≡ serves a n (take i hs)
    → new ≡ (old || serves_at a n h) → new ≡ serves a n (take (i + 1) hs)
served_more a n hs i h old new lt is eo en =
    let more : serves a n (take (i + 1) hs) ≡ (serves a n (take i hs) || serves_at a n (get_or hs i h)) =
    ap (serves a n) (take_more hs i h lt)
    ∙ (list_any-append (serves_at a n) (take i hs) (get_or hs i h ∷ [])
    ∙ ap (λ (b : Bool). serves a n (take i hs) || b) (or_false (serves_at a n (get_or hs i h)))) in
    en ∙ (ap (λ (b : Bool). b || serves_at a n h) eo ∙ (ap (λ (k : Host). serves a n (take i hs) || serves_at a n k) is ∙ sym more))

-- The zones of those origins are the ones that the server serves.
one_test : (b c : Bool) → (b ≡ true → c ≡ true) → (c ≡ true → b ≡ true) → b ≡ c
one_test true true f g = refl
one_test true false f g = sym (f refl)
one_test false true f g = g refl
one_test false false f g = refl

same_either : (m n : Name) → same_name m n ≡ same_name n m
same_either m n =
    one_test (same_name m n) (same_name n m) (λ e. same_name-equal n m (sym (same_name-exact m n e))) (λ e. same_name-equal m n (sym (same_name-exact n m e)))

is_named : (origins : List Name) (z : Zone) → has_origin_in origins z ≡ has_name z.origin origins
is_named origins z = ap (λ (p : Name → Bool). list_any p origins) (λ i m. same_either z.origin m i)

pub among_is : (W : World) (a : Address) (origins : List Name) → ((n : Name) → has_name n origins ≡ serves a n W.hosts) → among origins W.zones ≡ served W a
among_is W a origins h =
    let each : (z : Zone) → has_origin_in origins z ≡ serves a z.origin W.hosts = λ z. is_named origins z ∙ h z.origin in
    ap (λ (p : Zone → Bool). filter p W.zones) (λ i z. each z i)

-- What they say is what the server says.
pub said_is : (W : World) (a : Address) (zs : List Zone) (hs : List Host) (origins listed : List Name) (t : ℕ) → zs ≡ W.zones → hs ≡ W.hosts → listed ≡ origins
    → ((n : Name) → has_name n origins ≡ serves a n hs) → (λ (n : Name). looked (among listed zs) n t) ≡ says W a t
said_is W a zs hs origins listed t ez eh el h =
    let each : (n : Name) → has_name n origins ≡ serves a n W.hosts = λ n. h n ∙ ap (serves a n) eh in
    let zones : among listed zs ≡ served W a = ap (λ (ns : List Name). among ns zs) el ∙ (ap (among origins) ez ∙ among_is W a origins each) in
    let saying : List Zone → Name → Local = λ ys n. looked ys n t in
    ap saying zones

pub replied : {A : Type 0} (W : World) (a : Address) (q : Query A) (look : Name → Local) (l : Local) (m : Option Message) (sent : Option (List ℕ)) → look ≡ says W a (type_number q.kind)
    → l ≡ look q.name → IsReplyBy look q l m → IsSent m sent → IsReplyFrom W a (request.Query q) sent
replied W a q look l m sent same is by written =
    (m, subst (λ (f : Name → Local). IsReplyBy f q (f q.name) m) same (subst (λ (k : Local). IsReplyBy look q k m) is by), written)
