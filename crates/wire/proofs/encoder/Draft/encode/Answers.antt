use Rattle.std.proofs.Common.{◌∙◌, ◌+◌, ◌%◌, ◌++◌, ap, subst, sym, length, refl}
use Rattle.std.specs.Prelude.{flat_map}
use Rattle.std.specs.Option.{option_copied}
use Rattle.rdata.specs.Rows.{in_set}
use Rattle.message_grammar.specs.Messages.{IsQuestion, IsRecord, IsWritable, encoding, record_pieces}
use Rattle.message_grammar.specs.Pieces.{Text, after}
use Rattle.wire.specs.Drafts.{asked_alone}
use Rattle.wire.proofs.Writing.{draft_text}
use Rattle.wire.proofs.Fitting.{all_both}
use Rattle.wire.proofs.Putting.{GivenText, four_after, text_given_out}
use Rattle.wire.proofs.encoder.Draft.encode.Given.{Over}
use Rattle.wire.proofs.encoder.Draft.encode.Goals as goal

-- What is handed out.
out : (g : Over) (c : goal.After-finish g) → GivenText (λ v. v.items) c.finish.result c.args.limit c.args.self.now
out g c =
    let d = c.self.inside in
    let first = flat_map record_pieces d.first.now in
    let second = flat_map record_pieces (in_set (option_copied d.second)) in
    let authority = flat_map record_pieces d.authority.now in
    let additional = flat_map record_pieces d.additional.now in
    let q : Text = c.put_repeated.new.writer in
    let text = draft_text d.header d.questions.now (option_copied d.echo) d.first.now (in_set (option_copied d.second)) d.authority.now d.additional.now
    c.begin_message.new.self c.put_header.new.self c.put_questions.new.self q (after q first) (after (after q first) second) (after (after (after q first) second) authority)
    (after (after (after (after q first) second) authority) additional)
    c.low_count.result c.low_count-2.result (length d.authority.now) (length d.additional.now) c.in_ok-begin_message.ensures c.in_ok-put_header.ensures.written
    (c.low_count.ensures ∙ ap (λ n. length d.questions.now % 65536 + n % 65536) c.count_of.ensures)
    (c.low_count-2.ensures ∙ ap (λ n. length d.first.now % 65536 + n % 65536) c.len_of.ensures) refl refl
    c.in_ok-put_questions.ensures.written c.in_ok-put_repeated.ensures.written refl refl refl refl in
    text_given_out (λ v. v.items) c.finish.result c.args.limit (((first ++ second) ++ authority) ++ additional) q c.put_sections.new.writer c.args.self.now c.in_ok-put_sections.ensures
    (sym (ap (λ (t : Text). t.bytes) (four_after first second authority additional q)) ∙ (text ∙ ap encoding c.self.view_is)) c.finish.ensures c.requires
    (λ f. subst IsWritable c.self.view_is (record {
      header = c.in_ok-put_header.ensures.fits;
      questions = all_both IsQuestion d.questions.now (asked_alone (option_copied d.echo)) c.in_ok-put_questions.ensures.fits c.in_ok-put_repeated.ensures.fits;
      answer = all_both IsRecord d.first.now (in_set (option_copied d.second)) f.0.0.0 f.0.0.1;
      authority = f.0.1;
      additional = f.1;
    }))

pub returns-clause-bytes : goal.returns-clause-bytes
returns-clause-bytes g c = (out g c).bytes

pub returns-clause-message : goal.returns-clause-message
returns-clause-message g c = (out g c).message

pub returns-clause-compressed : goal.returns-clause-compressed
returns-clause-compressed g c = (out g c).compressed
