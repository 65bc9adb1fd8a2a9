use Rattle.std.proofs.Common.{sym, ◌∙◌}
use Rattle.master_lexer.specs.Views.{lead_of}
use Rattle.masterfile.proofs.FileLemmas.{first_read, step_read, last_read}
use Rattle.masterfile.proofs.files.read_block.Goals as goal

pub entries-init : goal.entries-init
entries-init g c =
    first_read c.new-records.result c.new-context.result c.new-words.result (lead_of c.of_line-lead.result) c.in-Ok.own c.args.origin.now c.args.line c.args.text.now
    c.new-records.ensures c.new-context.ensures (c.in-Ok.ensures {u = tt}) c.new-words.ensures c.of_line-lead.ensures

pub entries-preserved : goal.entries-preserved
entries-preserved g c =
    let read = c.in-Ok-entry.ensures {u = tt} in
    step_read c.entries.records c.keep.new.records c.entries.context c.entry.new.self c.in-Ok-entry.found
    (record { line = c.entries.place; lead = lead_of c.entries.lead; words = c.entries.words.words }) c.entries.words.later _ _ (c.in-Ok-keep.ensures {u = tt}) read.value (sym read.later ∙ c.in-Some.ensures {u = tt}) c.entries.invariant

pub returns-in-None : goal.returns-in-None
returns-in-None g c =
    let read = c.in-Ok-entry.ensures {u = tt} in
    last_read c.entries.records c.keep.new.records c.entries.context c.entry.new.self c.in-Ok-entry.found
    (record { line = c.entries.place; lead = lead_of c.entries.lead; words = c.entries.words.words }) c.entries.words.later _ (c.in-Ok-keep.ensures {u = tt}) read.value (sym read.later ∙ (c.in-None.ensures {u = tt}).0) c.entries.invariant
