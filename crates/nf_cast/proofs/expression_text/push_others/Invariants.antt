use Rattle.std.proofs.Common.{◌≡◌, ◌++◌, map, take}
use Rattle.nf_cast.specs.Text.{others_text, expression_text}
use Rattle.nf_cast.proofs.expression_text.push_others.Given as goal

abbrev pub invariant-loop-argument : goal.invariant-loop-argument
invariant-loop-argument l = l.lines ≡ l.initial.lines ++ others_text (map expression_text (take l.argument-index l.arguments))
