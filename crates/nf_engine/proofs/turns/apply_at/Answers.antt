-- The candidates are taken out, changed, and put back.
use Rattle.std.proofs.Common.{◌+◌, ◌≤◌, List, slice_set, ap, sym, subst, ◌∙◌, set-set}
use Rattle.nf_model.specs.Changes.{delta_of}
use Rattle.nf_minimal.specs.Minimals.{Minimal, held_of}
use Rattle.nf_tally.specs.Numbers.{number, often}
use Rattle.nf_engine.specs.inner.Rounds.{no_candidates}
use Rattle.nf_engine.proofs.turns.apply_at.Goals as goal

pub apply-requires : goal.apply-requires
apply-requires c = record {
  enough = λ q.
      subst (λ (m : Minimal). often c.args.gathered.gone q ≤ number m.sources q + often c.args.gathered.come q) (sym c.take_name-minimal.ensures.name)
      (c.requires.enough q);
}

pub returns : goal.returns
returns c = record {
  minimal = c.in_ok-minimal.minimal;
  set =
      c.put_name.ensures ∙ ap (λ (ns : List Minimal). slice_set ns c.args.place c.in_ok-minimal.minimal) c.take_name-minimal.ensures.rest
      ∙ set-set c.args.names.now.items c.args.place no_candidates c.in_ok-minimal.minimal;
  full = c.in_ok-minimal.ensures.full ∙ ap (λ (m : Minimal). m.full) c.take_name-minimal.ensures.name;
  counted = λ q. c.in_ok-minimal.ensures.sources q ∙ ap (λ (m : Minimal). number m.sources q + often c.args.gathered.come q) c.take_name-minimal.ensures.name;
  leads = c.in_ok-minimal.ensures.delta ∙ ap (λ (m : Minimal). delta_of (held_of m) (held_of c.in_ok-minimal.minimal)) c.take_name-minimal.ensures.name;
}
