-- What std's reader of IPv4 addresses finds.
use Rattle.std.proofs.Common.{◌≡◌, ℕ, List, [], ◌∷◌, Option, Some, None, refl, sym, ap, ◌∙◌, subst, append-nil, arith}
use Rattle.std.proofs.lemmas.Bool.Decides.{nat_tests}
use Rattle.std.specs.declared.net.ipv4_addr.Ipv4Addr.{Ipv4Addr}
use Rattle.std.specs.Net.Addr.{ipv4_octets}
use Rattle.std.specs.Net.Grammar.{IsDotted, IsIpv4Text}
use Rattle.std.specs.Net.Reader.{read_ipv4, whole_value}
use Rattle.std.proofs.NetLemmas.Ipv4.{read_ipv4_complete, read_ipv4_sound}

pub ipv4_read : (w : List ℕ) (a : Ipv4Addr) → IsIpv4Text w a → whole_value (read_ipv4 w) ≡ Some (ipv4_octets a)
ipv4_read w a h =
    let e = read_ipv4_complete w (ipv4_octets a) [] h (omega arith) in
    ap whole_value (ap read_ipv4 (sym (append-nil w)) ∙ e)

unread : (w : List ℕ) (r : Option (List ℕ × List ℕ)) → read_ipv4 w ≡ r → ((a : Ipv4Addr) → ¬ (IsIpv4Text w a)) → whole_value r ≡ None
unread w None e h = refl
unread w (Some (octets, c ∷ rest)) e h = grind (arith, nat_tests)
unread w (Some (octets, [])) e h =
    let s = read_ipv4_sound w octets [] e in
    let whole : IsDotted w octets = subst (λ (t : List ℕ). IsDotted t octets) (sym (s.1 ∙ append-nil s.0)) s.2 in
    absurd (h (record { octets = octets }) whole)

pub ipv4_unread : (w : List ℕ) → ((a : Ipv4Addr) → ¬ (IsIpv4Text w a)) → whole_value (read_ipv4 w) ≡ None
ipv4_unread w h = unread w (read_ipv4 w) refl h
