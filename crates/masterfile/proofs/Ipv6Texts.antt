-- The library's reader of IPv6 addresses reads the texts of RFC 4291, section 2.2, without an IPv4 address at the end.
use Rattle.std.proofs.Common.{◌≡◌, ℕ, ◌+◌, ◌-◌, ◌<◌, ◌≤◌, ◌==◌, Bool, true, false, ◌||◌, Option, Some, None, Result, Ok, Err, List, [], ◌∷◌, ◌++◌, length, codes, decimal, refl, sym, ap, ◌∙◌, subst, append-nil, append_assoc, arith, inl, inr}
use Rattle.std.proofs.lemmas.Bool.Decides.{nat_tests}
use Rattle.std.specs.declared.net.ipv6_addr.Ipv6Addr.{Ipv6Addr}
use Rattle.std.specs.Char.{digit_value}
use Rattle.std.specs.Net.Addr.{octets_of}
use Rattle.std.specs.Net.Grammar as kit
use Rattle.std.specs.Net.Reader.{read_ipv6, whole_value}
use Rattle.std.specs.Net.Text.{dotted_text}
use Rattle.std.specs.Str.Parse.{AllDigits}
use Rattle.std.proofs.NetLemmas.Ipv6.{read_ipv6_sound}
use Rattle.masterfile.specs.declared.faults.FileKind.{FileKind}
use Rattle.masterfile.specs.declared.faults.FileKind.TheVariants.{BadData}
use Rattle.masterfile.specs.Addresses.{has_dot, segments_read, ipv6_of}
use Rattle.masterfile.specs.Ipv6Text.{IsGroup, AreBehindColons, AreGroups, IsShortened, IsAddressText}
use Rattle.masterfile.proofs.Dots.{dots_append, dot_within, hex_no_dot, in_front, behind_front}
use Rattle.masterfile.proofs.Ipv6Lemmas.{ipv6_read}

-- ---- ours are the library's

group_read : (w : List ℕ) (n : ℕ) → IsGroup w n → kit.IsGroup w n
group_read w n (some, four, digits, value) = (((some, digits), value), four)

behind_read : (dotted : Bool) (w ns : List ℕ) → AreBehindColons w ns → kit.IsGroupsAfter dotted (codes ":") w ns
behind_read dotted w [] e = e
behind_read dotted w (n ∷ ns) (group, rest, e, is, more) = inl (group, rest, e, group_read group n is, behind_read dotted rest ns more)

groups_read : (dotted : Bool) (w ns : List ℕ) → AreGroups w ns → kit.IsGroups dotted w ns
groups_read dotted w [] e = e
groups_read dotted w (n ∷ ns) (group, rest, e, is, more) = inl (group, rest, e, group_read group n is, behind_read dotted rest ns more)

text_read : (w ns : List ℕ) → IsAddressText w ns → kit.IsColonHex w ns
text_read w ns (inl (groups, eight)) = inl (groups_read true w ns groups, eight)
text_read w ns (inr s) = inr (record {
  head_text = s.before;
  tail_text = s.behind;
  head = s.front;
  tail = s.back;
  spelled = s.spelled;
  head_groups = groups_read false s.before s.front s.groups.0;
  tail_groups = groups_read true s.behind s.back s.groups.1;
  room = s.missing;
  value = s.value;
})

-- ---- and have no dot

two_colons : (a b : List ℕ) → a ++ codes "::" ++ b ≡ a ++ 58 ∷ (58 ∷ b)
two_colons a b = simp append_assoc

behind_no_dot : (w ns : List ℕ) → AreBehindColons w ns → has_dot w ≡ false
behind_no_dot w [] e = ap has_dot e
behind_no_dot w (n ∷ ns) (group, rest, e, is, more) = ap has_dot e ∙ dots_append group rest (hex_no_dot group is.2) (behind_no_dot rest ns more)

groups_no_dot : (w ns : List ℕ) → AreGroups w ns → has_dot w ≡ false
groups_no_dot w [] e = ap has_dot e
groups_no_dot w (n ∷ ns) (group, rest, e, is, more) = ap has_dot e ∙ dots_append group rest (hex_no_dot group is.2) (behind_no_dot rest ns more)

text_no_dot : (w ns : List ℕ) → IsAddressText w ns → has_dot w ≡ false
text_no_dot w ns (inl (groups, eight)) = groups_no_dot w ns groups
text_no_dot w ns (inr s) = ap has_dot (s.spelled ∙ two_colons s.before s.behind) ∙ dots_append s.before (58 ∷ 58 ∷ s.behind) (groups_no_dot s.before s.front s.groups.0) (groups_no_dot s.behind s.back s.groups.1)

pub text_is_address : (w ns : List ℕ) → IsAddressText w ns → ipv6_of w ≡ Ok (octets_of ns)
text_is_address w ns h = rw (text_no_dot w ns h, ipv6_read w (record { segments = ns }) (text_read w ns h)) refl

-- ---- the library's without a dot are ours

group_is : (w : List ℕ) (n : ℕ) → kit.IsGroup w n → IsGroup w n
group_is w n (((some, digits), value), four) = (some, four, digits, value)

four_dotted : (a b c d : List ℕ) → a ++ codes "." ++ b ++ codes "." ++ c ++ codes "." ++ d ≡ a ++ 46 ∷ (b ++ 46 ∷ (c ++ 46 ∷ d))
four_dotted a b c d = simp append_assoc

dotted_has_dot : (lead : List ℕ) (last octets : List ℕ) → kit.IsDotted last octets → has_dot (lead ++ last) ≡ false → ⊥
dotted_has_dot lead last octets d none =
    let spelled = d.spelled ∙ four_dotted (decimal d.a) (decimal d.b) (decimal d.c) (decimal d.d) in
    dot_within (decimal d.a) (decimal d.b ++ 46 ∷ (decimal d.c ++ 46 ∷ decimal d.d)) (sym (ap has_dot spelled) ∙ behind_front lead last none)

behind_are : (dotted : Bool) (w ns : List ℕ) → has_dot w ≡ false → kit.IsGroupsAfter dotted (codes ":") w ns → AreBehindColons w ns
behind_are dotted w [] none e = e
behind_are dotted w (n ∷ ns) none (inl (group, rest, e, is, more)) =
    let left : has_dot (58 ∷ (group ++ rest)) ≡ false = sym (ap has_dot e) ∙ none in
    (group, rest, e, group_is group n is, behind_are dotted rest ns (behind_front group rest left) more)
behind_are dotted w (n ∷ ns) none (inr (last, octets, allowed, e, is, same)) = absurd (dotted_has_dot (58 ∷ []) last octets is (sym (ap has_dot e) ∙ none))

groups_are : (dotted : Bool) (w ns : List ℕ) → has_dot w ≡ false → kit.IsGroups dotted w ns → AreGroups w ns
groups_are dotted w [] none e = e
groups_are dotted w (n ∷ ns) none (inl (group, rest, e, is, more)) =
    let left : has_dot (group ++ rest) ≡ false = sym (ap has_dot e) ∙ none in
    (group, rest, e, group_is group n is, behind_are dotted rest ns (behind_front group rest left) more)
groups_are dotted w (n ∷ ns) none (inr (last, octets, allowed, e, is, same)) = absurd (dotted_has_dot [] last octets is (sym (ap has_dot e) ∙ none))

text_are : (w ns : List ℕ) → has_dot w ≡ false → kit.IsColonHex w ns → IsAddressText w ns
text_are w ns none (inl (groups, eight)) = inl (groups_are true w ns none groups, eight)
text_are w ns none (inr s) =
    let left : has_dot (s.head_text ++ 58 ∷ (58 ∷ s.tail_text)) ≡ false = sym (ap has_dot (s.spelled ∙ two_colons s.head_text s.tail_text)) ∙ none in
    inr (record {
      before = s.head_text;
      behind = s.tail_text;
      front = s.head;
      back = s.tail;
      spelled = s.spelled;
      groups = (groups_are false s.head_text s.head (in_front s.head_text (58 ∷ 58 ∷ s.tail_text) left) s.head_groups, groups_are true s.tail_text s.tail (behind_front s.head_text (58 ∷ 58 ∷ s.tail_text) left) s.tail_groups);
      missing = s.room;
      value = s.value;
    })

abbrev pub Written : List ℕ → List ℕ → Type 0
Written w a = (ns : List ℕ) × IsAddressText w ns × (a ≡ octets_of ns)

abbrev given : List ℕ → Result (List ℕ) FileKind
given a = Ok a

same_octets : (a b : List ℕ) → given a ≡ given b → b ≡ a
same_octets a b p = cc

no_octets : (a : List ℕ) → Err BadData ≡ Ok a → ⊥
no_octets a p = cc

written : (w a : List ℕ) (r : Option (List ℕ × List ℕ)) → has_dot w ≡ false → read_ipv6 w ≡ r → segments_read (whole_value r) ≡ Ok a → Written w a
written w a None none e h = absurd (no_octets a h)
written w a (Some (ns, c ∷ rest)) none e h =
    let left : (length (c ∷ rest) == 0) ≡ false = grind (arith, nat_tests) in
    absurd (no_octets a (rw left at h))
written w a (Some (ns, [])) none e h =
    let s = read_ipv6_sound w ns [] e in
    let whole : kit.IsColonHex w ns = subst (λ (t : List ℕ). kit.IsColonHex t ns) (sym (s.1 ∙ append-nil s.0)) s.2 in
    (ns, text_are w ns none whole, same_octets (octets_of ns) a h)

pub address_is_text : (w a : List ℕ) (b : Bool) → has_dot w ≡ b → ipv6_of w ≡ Ok a → Written w a
address_is_text w a true none h = absurd (no_octets a (rw none at h))
address_is_text w a false none h = written w a (read_ipv6 w) none refl (rw none at h)
