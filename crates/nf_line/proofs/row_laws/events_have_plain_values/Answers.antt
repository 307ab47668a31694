use Rattle.nf_line.proofs.EventLemmas.{AreSpelled, trace_right}
use Rattle.nf_line.proofs.row_laws.events_have_plain_values.Goals as goal

pub returns : goal.returns
returns c =
    let known : AreSpelled = record {
      bytes = c.plain_texts.ensures.bytes;
      words = c.plain_texts.ensures.words;
      within = c.printed_numbers_are_read.ensures.within;
      given = c.spellings_are_apart.ensures.words;
    } in
    trace_right known
