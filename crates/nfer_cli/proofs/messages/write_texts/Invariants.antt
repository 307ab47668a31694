use Rattle.std.proofs.Common.{◌≤◌, take}
use Rattle.std.specs.Prelude.{flat_map}
use Rattle.nf_io.specs.Bytes.{Took}
use Rattle.nfer_cli.proofs.messages.write_texts.Given as goal

-- the texts so far were taken, and the faults never fell
abbrev pub invariant-loop-text : goal.invariant-loop-text
invariant-loop-text g l =
    let sink = g.E.Sink in record {
      taken : Took (sink.tells l.fn.err).taken (sink.tells l.err).taken
          (flat_map (λ text. text.now) (take l.text-index l.texts));
      later : (sink.tells l.fn.err).faults ≤ (sink.tells l.err).faults;
    }
