use Rattle.std.proofs.Common.{◌≡◌, ◌<◌, List, [], length, slice_set, ap, subst, sym, ◌∙◌, rules}
use Rattle.std.proofs.lemmas.List.{get_or_read}
use Rattle.nf_core.specs.Intervals.{Interval}
use Rattle.nf_core.specs.Sets.{inserted}
use Rattle.nf_model.specs.Changes.{Content, with_input, change}
use Rattle.nf_model.specs.Members.{AreOfKeys}
use Rattle.nf_model.specs.inner.Known.{ArePools}
use Rattle.nf_model.specs.Pools.{Inputs, of_name}
use Rattle.nf_model.proofs.Public.ContentLemmas.{stepped}
use Rattle.nf_model.proofs.HeadLemmas.{step_changes}
use Rattle.nf_model.proofs.scratches.ScratchInferer.step.Goals as goal

pub pools_of-requires-clause-rows : goal.pools_of-requires-clause-rows
pools_of-requires-clause-rows g c =
    subst (AreOfKeys c.self.inside.plan) (sym c.as_slice.ensures.value)
    (stepped c.args.self c.self.inside.plan c.self.inside.full c.self.inside.inputs.items c.args.name c.args.interval c.index_mut.result.now c.insert.new.self
    (c.self.view_is, c.self.invariant.content) c.requires.name c.requires.narrow c.requires.row (search rules) c.index_mut.ensures.value c.in_ok-insert.ensures.ok).rows

pub invariant_of-scratch : goal.invariant_of-scratch
invariant_of-scratch g c = record {
  content =
      stepped c.args.self c.self.inside.plan c.self.inside.full c.self.inside.inputs.items c.args.name c.args.interval c.index_mut.result.now c.insert.new.self
      (c.self.view_is, c.self.invariant.content) c.requires.name c.requires.narrow c.requires.row (search rules) c.index_mut.ensures.value c.in_ok-insert.ensures.ok;
  known = subst (λ (ins : Inputs). ArePools c.self.inside.plan c.self.inside.full ins c.in_ok-pools.pools.items) c.as_slice.ensures.value c.in_ok-pools.ensures;
}

pub returns-clause-change : goal.returns-clause-change
returns-clause-change g c =
    let content : Content = record { plan = c.self.inside.plan; full = c.self.inside.full; inputs = c.self.inside.inputs.items } in
    let named : c.args.name < length content.plan.names =
    subst (λ (s : Content). c.args.name < length s.plan.names) (sym c.self.view_is) c.requires.name in
    let within : c.args.name < length content.inputs = rw c.self.invariant.content.each named in
    let read = get_or_read content.inputs _ _ within c.index_mut.ensures.value [] in
    let set : c.insert.new.self ≡ inserted c.args.interval (of_name content.inputs c.args.name) =
    c.in_ok-insert.ensures.ok ∙ ap (inserted c.args.interval) read in
    let inputs = c.as_slice.ensures.value ∙ ap (λ (is : List Interval). slice_set content.inputs c.args.name is) set in
    let made = rw (c.as_slice-2.ensures.value, c.as_slice-3.ensures.value) at c.in_ok-change.ensures in
    subst (λ (s : Content). c.in_ok-change.change ≡ change s (with_input c.args.name c.args.interval s)) c.self.view_is
    (step_changes content c.args.name c.args.interval c.as_slice.result.now c.self.inside.pools.items c.in_ok-pools.pools.items
    c.self.invariant.known c.in_ok-pools.ensures inputs c.in_ok-change.change made)
