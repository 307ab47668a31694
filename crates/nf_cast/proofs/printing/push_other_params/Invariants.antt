use Rattle.std.proofs.Common.{◌≡◌, ◌++◌, take}
use Rattle.std.specs.Prelude.{map, codes}
use Rattle.nf_cast.specs.Text.{others_text}
use Rattle.nf_cast.proofs.printing.push_other_params.Given as goal

abbrev pub invariant-loop-param : goal.invariant-loop-param
invariant-loop-param l = l.lines ≡ l.initial.lines ++ others_text (map (λ x. codes "int64_t " ++ x) (take l.param-index l.params))
