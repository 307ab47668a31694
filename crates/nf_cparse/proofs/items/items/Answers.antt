use Rattle.std.proofs.Common.{◌∙◌, sym, ap, refl, is_some}
use Rattle.std.proofs.lemmas.Result.{err_from_is_err_and}
use Rattle.nf_grammar.specs.State.{next}
use Rattle.nf_grammar.proofs.Public.OutcomeLemmas.{stop_reads}
use Rattle.nf_cparse.specs.inner.ItemReading as spec
use Rattle.nf_cparse.proofs.PartListLemmas.{list_start, list_more, list_stops, list_ends}
use Rattle.nf_cparse.proofs.AnswerLemmas.{some_kind}
use Rattle.nf_cparse.proofs.items.items.Goals as goal

pub items-init : goal.items-init
items-init c = rw c.new-items.ensures (list_start is_some (spec.item c.args.depth) c.args.reader.now)

pub returns-in_err-item : goal.returns-in_err-item
returns-in_err-item c =
    let p = err_from_is_err_and c.from_residual.result c.from_residual.ensures.1 in
    rw (p.1, p.2) (record {
      reads = stop_reads (spec.item c.args.depth c.items.reader) _ _ c.item.new.reader _
          (λ f e. list_stops is_some (spec.item c.args.depth) _ c.items.items c.items.reader f c.items.invariant refl (sym (some_kind (next c.items.reader)) ∙ ap is_some (sym c.next.ensures) ∙ sym c.is_some.ensures ∙ c.items-test.true) e)
          c.in_err-item.ensures.reads;
    })

pub items-preserved : goal.items-preserved
items-preserved c = rw c.in_ok-push.ensures.ok
    (list_more is_some (spec.item c.args.depth) _ c.items.items c.items.reader c.item.new.reader c.in_ok-item.item c.items.invariant
    (sym (some_kind (next c.items.reader)) ∙ ap is_some (sym c.next.ensures) ∙ sym c.is_some.ensures ∙ c.items-test.true) c.in_ok-item.ensures.reads c.in_ok-item.ensures.shorter)

pub returns : goal.returns
returns c = record {
  reads = list_ends is_some (spec.item c.args.depth) _ c.items.items c.items.reader c.items.invariant
      (sym (some_kind (next c.items.reader)) ∙ ap is_some (sym c.next.ensures) ∙ sym c.is_some.ensures ∙ c.items-test.false);
}
