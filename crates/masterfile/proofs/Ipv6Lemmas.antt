-- What std's reader of IPv6 addresses finds.
use Rattle.std.proofs.Common.{◌≡◌, ℕ, List, [], ◌∷◌, Option, Some, None, refl, sym, ap, ◌∙◌, subst, append-nil, arith}
use Rattle.std.proofs.lemmas.Bool.Decides.{nat_tests}
use Rattle.std.specs.declared.net.ipv6_addr.Ipv6Addr.{Ipv6Addr}
use Rattle.std.specs.Net.Addr.{ipv6_segments}
use Rattle.std.specs.Net.Grammar.{IsColonHex, IsIpv6Text}
use Rattle.std.specs.Net.Reader.{read_ipv6, whole_value}
use Rattle.std.proofs.NetLemmas.Ipv6.{read_ipv6_complete, read_ipv6_sound, EndsGroups-nil}

pub ipv6_read : (w : List ℕ) (a : Ipv6Addr) → IsIpv6Text w a → whole_value (read_ipv6 w) ≡ Some (ipv6_segments a)
ipv6_read w a h =
    let e = read_ipv6_complete w (ipv6_segments a) [] h EndsGroups-nil in
    ap whole_value (ap read_ipv6 (sym (append-nil w)) ∙ e)

unread : (w : List ℕ) (r : Option (List ℕ × List ℕ)) → read_ipv6 w ≡ r → ((a : Ipv6Addr) → ¬ (IsIpv6Text w a)) → whole_value r ≡ None
unread w None e h = refl
unread w (Some (segments, c ∷ rest)) e h = grind (arith, nat_tests)
unread w (Some (segments, [])) e h =
    let s = read_ipv6_sound w segments [] e in
    let whole : IsColonHex w segments = subst (λ (t : List ℕ). IsColonHex t segments) (sym (s.1 ∙ append-nil s.0)) s.2 in
    absurd (h (record { segments = segments }) whole)

pub ipv6_unread : (w : List ℕ) → ((a : Ipv6Addr) → ¬ (IsIpv6Text w a)) → whole_value (read_ipv6 w) ≡ None
ipv6_unread w h = unread w (read_ipv6 w) refl h
