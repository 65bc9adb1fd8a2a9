use Rattle.std.proofs.Common.{ℕ, List, Ok, sym, ap, refl, subst}
use Rattle.std.specs.declared.net.ipv4_addr.Ipv4Addr.{Ipv4Addr}
use Rattle.std.specs.Net.Grammar.{IsIpv4Text}
use Rattle.text_lines.proofs.Addresses.{ipv4_read, ipv4_unread}
use Rattle.text_lines.proofs.word.address.Goals as goal

pub returns-in-Ok : goal.returns-in-Ok
returns-in-Ok c =
    rw (ipv4_read c.args.word.now c.in-Ok.address (subst (λ (w : List ℕ). IsIpv4Text w c.in-Ok.address) c.as_bytes.ensures.value c.in-Ok.ensures)) (ap Ok (sym c.octets.ensures))

pub returns-in-Err : goal.returns-in-Err
returns-in-Err c =
    rw (ipv4_unread c.args.word.now (subst (λ (w : List ℕ). (a : Ipv4Addr) → ¬ (IsIpv4Text w a)) c.as_bytes.ensures.value c.in-Err.ensures)) refl
