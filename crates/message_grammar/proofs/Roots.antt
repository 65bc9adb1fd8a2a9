-- The names of a message end with the root's label.
use Rattle.std.proofs.Common.{ℕ, ◌+◌, List, [], ◌∷◌, length, refl, ap}
use Rattle.std.specs.List.{All}
use Rattle.std.proofs.lemmas.List.Elements.{All-nil, All-cons, All-contains}
use Rattle.dname.specs.Labels.{root, folded_label, IsAtOrUnder}
use Rattle.rdata.specs.Records.{Record}
use Rattle.message_grammar.specs.Names.{Stands, root_here, label_here, pointer_here, NameAt}
use Rattle.message_grammar.specs.Messages.{Question, Message, QuestionsAt, SectionAt, none_left, kept_first, skipped_first, IsMessage}
use Rattle.message_grammar.specs.Laws.{AreUnderRoot}

labels_end : (f : List ℕ → List ℕ) (bytes : List ℕ) (start at end : ℕ) (labels : List (List ℕ)) → Stands f bytes start at labels end → IsAtOrUnder labels root
labels_end f bytes start at end labels (root_here _ _ _ z e) = ([], refl)
labels_end f bytes start at end labels (label_here _ _ _ w seen rest l s r) =
    let more = labels_end f bytes start (at + 1 + length w) end rest r in
    (seen ∷ more.0, ap (λ x. seen ∷ x) more.1)
labels_end f bytes start at end labels (pointer_here _ _ _ target past _ p less r e) = labels_end f bytes target target past labels r

pub name_ends_in_root : (bytes : List ℕ) (at : ℕ) (name : List (List ℕ)) (end : ℕ) → NameAt bytes at name end → IsAtOrUnder name root
name_ends_in_root bytes at name end h = labels_end folded_label bytes at at end name h.stands

asked_end : (bytes : List ℕ) (at : ℕ) (qs : List Question) (end : ℕ) → QuestionsAt bytes at qs end → All (λ q. IsAtOrUnder q.name root) qs
asked_end bytes at [] end h = All-nil (λ q. IsAtOrUnder q.name root)
asked_end bytes at (q ∷ qs) end (mid, first, rest) =
    All-cons (λ q. IsAtOrUnder q.name root) q qs (name_ends_in_root bytes at q.name first.behind_name first.name) (asked_end bytes mid qs end rest)

owners_end : (bytes : List ℕ) (at count : ℕ) (rs : List Record) (end : ℕ) → SectionAt bytes at count rs end → All (λ r. IsAtOrUnder r.owner root) rs
owners_end bytes at count rs end (none_left _ _ _ none e) = All-nil (λ r. IsAtOrUnder r.owner root)
owners_end bytes at count rs end (kept_first _ _ left mid _ r rest more first others) =
    All-cons (λ r. IsAtOrUnder r.owner root) r rest (name_ends_in_root bytes at r.owner first.stands.0 first.stands.1) (owners_end bytes mid left rest end others)
owners_end bytes at count rs end (skipped_first _ _ left mid _ rest more first others) = owners_end bytes mid left rs end others

pub names_end_in_root : (bytes : List ℕ) (m : Message) → IsMessage bytes m → AreUnderRoot m
names_end_in_root bytes m is = record {
  questions = λ q. All-contains (λ q. IsAtOrUnder q.name root) m.questions q (asked_end bytes 12 m.questions is.behind_questions is.questions);
  answer = λ r. All-contains (λ r. IsAtOrUnder r.owner root) m.answer r (owners_end bytes is.behind_questions is.counts.answer m.answer is.behind_answer is.answer);
  authority = λ r. All-contains (λ r. IsAtOrUnder r.owner root) m.authority r (owners_end bytes is.behind_answer is.counts.authority m.authority is.behind_authority is.authority);
  additional = λ r. All-contains (λ r. IsAtOrUnder r.owner root) m.additional r (owners_end bytes is.behind_authority is.counts.additional m.additional (length bytes) is.additional);
}
