-- The rules that read the name are put into the queue.
use Rattle.std.proofs.Common.{◌≡◌, ℕ, ◌<◌, List, [], length, Option, All, inl, refl, sym, subst, ◌∙◌, arith}
use Rattle.std.proofs.lemmas.List.{get_or_default}
use Rattle.nf_minimal.specs.Minimals.{Minimal}
use Rattle.nf_engine.specs.declared.parts.RulePart.{RulePart}
use Rattle.nf_engine.specs.inner.Readers.{readers_of, HasQueued}
use Rattle.nf_engine.proofs.ReaderLemmas.{readers_within}
use Rattle.nf_engine.proofs.turns.record.Goals as goal

pub queue_readers-requires-clause-numbers : goal.queue_readers-requires-clause-numbers
queue_readers-requires-clause-numbers c =
    let each : length c.args.readers.now ≡ length c.args.plan.now.names = c.requires.readers.each in
    let named : c.args.head < length c.args.plan.now.names = c.requires.head in
    let list_is : c.as_slice.result.now ≡ readers_of c.args.readers.now c.args.head =
    c.as_slice.ensures ∙ c.index-readers-head.is ∙ get_or_default c.args.readers.now c.args.head c.index-readers-head.result [] (omega arith) in
    subst (λ (ns : List ℕ). All (λ k. k < length c.args.plan.now.rules) ns) (sym list_is)
    (readers_within c.args.plan.now c.args.head (readers_of c.args.readers.now c.args.head) (c.requires.readers.rules c.args.head))

pub returns : goal.returns
returns c =
    let each : length c.args.readers.now ≡ length c.args.plan.now.names = c.requires.readers.each in
    let named : c.args.head < length c.args.plan.now.names = c.requires.head in
    let list_is : c.as_slice.result.now ≡ readers_of c.args.readers.now c.args.head =
    c.as_slice.ensures ∙ c.index-readers-head.is ∙ get_or_default c.args.readers.now c.args.head c.index-readers-head.result [] (omega arith) in
    record {
      same_names = refl {A = List Minimal};
      same_rules = refl {A = List (Option RulePart)};
      kept = inl (record {
        deltas = c.in_ok-record.ensures.deltas;
        names = c.in_ok-record.ensures.names;
        queue = subst (λ (ns : List ℕ). HasQueued c.args.plan.now ns c.args.round.now.queue c.queue_readers.new.queue) list_is c.in_ok-queue_readers.ensures;
      });
    }
