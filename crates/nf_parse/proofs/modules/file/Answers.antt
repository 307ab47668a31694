use Rattle.std.proofs.Common.{◌∙◌, sym, ap, arith}
use Rattle.std.specs.Prelude.{is_some}
use Rattle.std.proofs.lemmas.Result.{err_from_is_err_and}
use Rattle.nf_grammar.specs.State.{next}
use Rattle.nf_grammar.proofs.Public.OutcomeLemmas.{stop_reads}
use Rattle.nf_parse.specs.inner.RuleReading as spec
use Rattle.nf_parse.proofs.StepLemmas.{some_kind}
use Rattle.nf_parse.proofs.RuleReaderLemmas.{limited_shorter}
use Rattle.nf_parse.proofs.PartListLemmas.{within_more}
use Rattle.nf_parse.proofs.FileLoopLemmas.{file_start, file_more, file_stops, file_ends}
use Rattle.nf_parse.proofs.modules.file.Goals as goal

pub modules-init : goal.modules-init
modules-init c = rw c.new-modules.ensures (file_start spec.limited limited_shorter c.args.reader.now, record { words = omega arith; room = omega arith })

pub returns-in_err-module : goal.returns-in_err-module
returns-in_err-module c =
    let p = err_from_is_err_and c.from_residual.result c.from_residual.ensures.1 in
    rw (p.1, p.2) (record {
      reads = stop_reads (spec.part spec.limited c.modules.reader) _ _ c.part.new.reader _
          (λ f e. file_stops spec.limited limited_shorter _ c.modules.modules c.modules.reader f c.modules.invariant.0 (sym (some_kind (next c.modules.reader)) ∙ ap is_some (sym c.next.ensures) ∙ sym c.is_some.ensures ∙ c.modules-test.true) e)
          c.in_err-module.ensures.reads;
    })

pub modules-preserved : goal.modules-preserved
modules-preserved c = rw c.in_ok-push.ensures.ok (
  file_more spec.limited limited_shorter _ c.modules.modules c.modules.reader c.part.new.reader c.in_ok-module.module c.modules.invariant.0 (sym (some_kind (next c.modules.reader)) ∙ ap is_some (sym c.next.ensures) ∙ sym c.is_some.ensures ∙ c.modules-test.true) c.in_ok-module.ensures.reads c.in_ok-module.ensures.shorter,
  within_more c.args.reader.now c.modules.reader c.part.new.reader c.modules.invariant.1 c.in_ok-module.ensures.within,
)

pub returns : goal.returns
returns c = record { reads = file_ends spec.limited limited_shorter _ c.modules.modules c.modules.reader c.modules.invariant.0 (sym (some_kind (next c.modules.reader)) ∙ ap is_some (sym c.next.ensures) ∙ sym c.is_some.ensures ∙ c.modules-test.false) }
