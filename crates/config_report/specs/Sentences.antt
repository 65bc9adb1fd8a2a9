-- What may stand where something was refused.
use Rattle.std.specs.Prelude.{ℕ, ◌==◌, Bool, false, ◌||◌, cond, List, [], ◌∷◌, codes}
use Rattle.std.specs.Str.{bytes_eq}
use Rattle.text_lines.specs.declared.fault.LineKind.{LineKind}
use Rattle.text_lines.specs.declared.fault.LineKind.TheVariants as line
use Rattle.masterfile.specs.declared.faults.FileKind.{FileKind}
use Rattle.masterfile.specs.declared.faults.FileKind.TheVariants as file
use Rattle.zone.specs.declared.fault.ZoneError.{ZoneError}
use Rattle.zone.specs.declared.fault.ZoneError.TheVariants as rule

-- How many words a line has that begins with this word.
abbrev pub word_count : List ℕ → ℕ
word_count w = cond (bytes_eq w (codes "listen") || (bytes_eq w (codes "local") || bytes_eq w (codes "metrics"))) 3 2

-- The word was meant to begin a comment: with `#`, as in other files, or with `;` behind a space.
abbrev pub begins_comment : List ℕ → Bool
begins_comment [] = false
begins_comment (c ∷ cs) = c == 35 || c == 59

-- Which words may stand where another one does, in a line that begins with this word.
abbrev pub words_of : List ℕ → List ℕ
words_of w =
    cond (bytes_eq w (codes "log")) (codes "a level is warn or info")
    (cond (begins_comment w) (codes "a comment has ; as the first byte of its line")
    (codes "a line begins with listen, port, hint, local, cache, delegations, penalties, failures, sockets, workers, streams, clients, loops, metrics, log or seed"))

-- The form of a line that begins with this word.
abbrev pub form_of : List ℕ → List ℕ
form_of w =
    cond (bytes_eq w (codes "listen")) (codes "the line is listen ADDRESS PORT")
    (cond (bytes_eq w (codes "hint")) (codes "the line is hint ADDRESS")
    (cond (bytes_eq w (codes "local")) (codes "the line is local ORIGIN FILE, and FILE has no spaces")
    (cond (bytes_eq w (codes "metrics")) (codes "the line is metrics ADDRESS PORT")
    (cond (bytes_eq w (codes "log")) (codes "the line is log LEVEL")
    (cond (bytes_eq w (codes "seed")) (codes "the line is seed HEX") (codes "a number stands behind the word, and nothing else"))))))

-- Which numbers may stand in a line that begins with this word.
abbrev pub range_of : List ℕ → List ℕ
range_of w =
    cond (bytes_eq w (codes "listen")) (codes "a port is a number from 0 to 65535")
    (cond (bytes_eq w (codes "metrics")) (codes "a port is a number from 1 to 65535")
    (cond (bytes_eq w (codes "port")) (codes "a number from 1 to 65535")
    (cond (bytes_eq w (codes "sockets") || (bytes_eq w (codes "workers") || bytes_eq w (codes "loops"))) (codes "a number from 1 to 16")
    (cond (bytes_eq w (codes "streams")) (codes "a number from 1 to 256")
    (cond (bytes_eq w (codes "clients")) (codes "a number from 1 to 1024") (codes "a number from 1 to 1000000"))))))

-- What is wrong with a line of a server's file that begins with this word, and has as many words as such a line has, or
-- not.
abbrev pub line_sentence : LineKind → List ℕ → Bool → List ℕ
line_sentence line.UnknownWord w full = words_of w
line_sentence line.BadNumber w full = range_of w
line_sentence line.BadName w full = codes "a name has labels of 1 to 63 bytes, with dots between, and 255 bytes at most"
line_sentence line.BadType w full = codes "it is refused"
line_sentence line.WordCount w full = cond full (codes "an earlier line says this already") (form_of w)
line_sentence line.BadHex w full = codes "64 hexadecimal digits"
line_sentence line.OpenBlock w full = codes "it is refused"
line_sentence line.BadAddress w full = codes "an address is four numbers from 0 to 255 with dots between, as 192.0.2.1"
line_sentence line.Memory w full = codes "no memory was left"

-- What is wrong with an entry of a zone file.
abbrev pub file_sentence : FileKind → List ℕ
file_sentence file.UnknownType = codes "the types are A, NS, CNAME, SOA, PTR, MX, TXT, AAAA and SRV, behind one TTL and one class at most"
file_sentence file.BadName = codes "a name has labels of 1 to 63 bytes, with dots between, and 255 bytes at most, its origin's among them"
file_sentence file.BadNumber = codes "a number is out of its range; a TTL is a number of seconds up to 2147483647"
file_sentence file.NoTtl = codes "a TTL stands in the entry, in one before it, or in a line $TTL before it"
file_sentence file.NoOwner = codes "the first entry begins with its owner; a line that begins with a space has the owner before it"
file_sentence file.OpenText = codes "a parenthesis or a quote lacks its other half"
file_sentence file.UnknownDirective = codes "the directives are $ORIGIN and $TTL"
file_sentence file.BadClass = codes "the class is IN"
file_sentence file.BadData = codes "data are missing, too many, too long or of another form than the type's"
file_sentence file.Memory = codes "no memory was left"

-- Which rule of zones is broken.
abbrev pub rule_sentence : ZoneError → List ℕ
rule_sentence rule.Soa = codes "a zone has exactly one SOA record, at its origin"
rule_sentence rule.NoServers = codes "a zone has an NS record at its origin"
rule_sentence rule.ForeignOwner = codes "the owner is neither the origin nor beneath it"
rule_sentence rule.CnameClash = codes "no other record stands at the name of a CNAME"
rule_sentence rule.MixedTtls = codes "all records of one name and type have one TTL"
rule_sentence rule.DataAtCut = codes "the name is delegated by an NS record at it or above it: only addresses of servers may stand there"
rule_sentence rule.InnerStar = codes "a label * is the first of its name"
rule_sentence rule.WildcardAuthority = codes "no NS or SOA stands at a name that begins with *"
rule_sentence rule.WildcardBeneathCut = codes "a name that begins with * is not beneath a delegated one"
rule_sentence rule.Memory = codes "no memory was left"
