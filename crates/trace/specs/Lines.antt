-- The lines of a trace.
use Rattle.std.specs.Prelude.{ℕ, cond, nat_eq, length, List, [], ◌++◌, codes, decimal}
use Rattle.dname.specs.Labels.{Name}
use Rattle.dname.specs.Text.{name_text}
use Rattle.rdata.specs.Data.{Datum, Cname}
use Rattle.rdata.specs.Records.{Record}
use Rattle.rdata.specs.Types.{type_word}
use Rattle.rdata.specs.declared.rtype.RType.{RType}
use Rattle.zone.specs.Links.{Link, Found, Alias, NoData, NxDomain}
use Rattle.causes.specs.Causes.{cause_number}
use Rattle.causes.specs.declared.cause.Cause.{Cause}
use Rattle.causes.specs.declared.cause.Cause.TheVariants as cause
use Rattle.classify.specs.Classes.{Class, Answer, Referral, Truncated, Failed}
use Rattle.classify.specs.declared.class.Failure.{Failure}
use Rattle.classify.specs.declared.class.Failure.TheVariants as failure
use Rattle.trace.specs.declared.lines.Loss.{Loss}
use Rattle.trace.specs.declared.lines.Loss.TheVariants as loss

-- Two spaces for each search that waits for this one; there are three at most.
abbrev pub indent : ℕ → List ℕ
indent n = cond (nat_eq n 0) [] (cond (nat_eq n 1) (codes "  ") (cond (nat_eq n 2) (codes "    ") (codes "      ")))

-- ---- What a reply is used for.

-- The name that an alias stands for.
abbrev pub alias_text : Datum → List ℕ
alias_text (Cname target) = codes "alias to " ++ name_text target
alias_text _ = codes "alias"

-- What a zone denies.
unfoldable pub denial_text : List ℕ → Name → List ℕ
denial_text word zone = word ++ codes " of the zone " ++ name_text zone

abbrev pub link_text : Link → List ℕ
link_text (Found set) = codes "answer, " ++ decimal (length set) ++ codes " records"
link_text (Alias r) = alias_text r.value
link_text (NoData soa) = denial_text (codes "NODATA") soa.owner
link_text (NxDomain soa) = denial_text (codes "NXDOMAIN") soa.owner

-- A zone, how many servers it has, and how many addresses of them are taken.
unfoldable pub servers_text : Name → ℕ → ℕ → List ℕ
servers_text zone servers addresses =
    codes "referral to " ++ name_text zone ++ codes ", " ++ decimal servers ++ codes " servers, " ++ decimal addresses ++ codes " addresses"

abbrev pub referral_text : Name → List Record → List Record → List ℕ
referral_text at servers addresses = servers_text at (length servers) (length addresses)

-- An RCODE for which a reply is of no use.
abbrev pub code_text : ℕ → List ℕ
code_text n =
    cond (nat_eq n 1) (codes "no use: FORMERR") (cond (nat_eq n 2) (codes "no use: SERVFAIL")
    (cond (nat_eq n 3) (codes "no use: NXDOMAIN, beside records of the name") (cond (nat_eq n 4) (codes "no use: NOTIMP")
    (cond (nat_eq n 5) (codes "no use: REFUSED") (codes "no use: RCODE " ++ decimal n)))))

abbrev pub failure_text : Failure → ℕ → List ℕ
failure_text failure.BadCode rcode = code_text rcode
failure_text failure.NoAuthority rcode = codes "no use: an answer without AA, of a server that does not hold the zone"
failure_text failure.Empty rcode = codes "no use: no answer, no denial and no referral in it"
failure_text failure.Foreign rcode = codes "no use: a denial or a referral of another zone"
failure_text failure.TruncatedOverTcp rcode = codes "no use: truncated, over TCP"

abbrev pub class_text : Class → ℕ → List ℕ
class_text (Answer l) rcode = link_text l
class_text (Referral at servers addresses ttl) rcode = referral_text at servers addresses
class_text Truncated rcode = codes "truncated"
class_text (Failed f) rcode = failure_text f rcode

-- The line of a reply that came so many milliseconds after its ask.
unfoldable pub class_line : ℕ → ℕ → Class → ℕ → List ℕ
class_line depth passed c rcode = indent depth ++ codes "  " ++ decimal passed ++ codes " ms: " ++ class_text c rcode ++ codes "\n"

-- ---- Where nothing is to be classed.

abbrev pub loss_words : Loss → List ℕ
loss_words loss.Silent = codes "silent"
loss_words loss.Broken = codes "no connection, or no whole reply on it"
loss_words loss.Foreign = codes "a datagram that repeats no ID or question of the ask; it is waited for still"
loss_words loss.Barred = codes "not asked: no server stands at such an address"
loss_words loss.Unsent = codes "not sent: the system refused it"

unfoldable pub loss_line : ℕ → ℕ → Loss → List ℕ
loss_line depth passed l = indent depth ++ codes "  " ++ decimal passed ++ codes " ms: " ++ loss_words l ++ codes "\n"

-- ---- Searches, and the end.

-- A search for the address of a server begins, in the one that waits for it.
unfoldable pub search_line : ℕ → Name → RType → List ℕ
search_line depth name kind = indent depth ++ codes "look up " ++ name_text name ++ codes " " ++ type_word kind ++ codes "\n"

abbrev pub cause_words : Cause → List ℕ
cause_words cause.TooManyOpen = codes "too many queries are open"
cause_words cause.DeadlineOver = codes "its ten seconds are over"
cause_words cause.ChainTooLong = codes "more than eight aliases"
cause_words cause.TooManyAsks = codes "its forty asks are used up"
cause_words cause.NoServerLeft = codes "no server is left to ask"
cause_words cause.ReplyTooLarge = codes "the reply is too large"
cause_words cause.KnownFailure = codes "no server is left to ask, and one was passed over that failed to answer the same less than 30 seconds before"
cause_words cause.TooManyLookUps = codes "its 64 look-ups of servers' addresses are used up"

unfoldable pub cause_line : Cause → List ℕ
cause_line c = codes "cause " ++ decimal (cause_number c) ++ codes ": " ++ cause_words c ++ codes "\n"
