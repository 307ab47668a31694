use Rattle.std.proofs.Common.{◌≡◌, take, flat_map}
use Rattle.nf_core.specs.Written.{names_in}
use Rattle.nf_core.specs.inner.Widths.{with_names}
use Rattle.nf_core.proofs.names.add_names.Given as goal

-- the names of the rules so far are in
abbrev pub invariant-loop-rule : goal.invariant-loop-rule
invariant-loop-rule l = l.texts ≡ with_names l.wide l.fn.texts (flat_map names_in (take l.rule-index l.rule-items))
