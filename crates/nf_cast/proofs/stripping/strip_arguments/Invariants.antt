use Rattle.std.proofs.Common.{◌≡◌, map, take}
use Rattle.nf_cast.specs.Placed.{strip}
use Rattle.nf_cast.proofs.stripping.strip_arguments.Given as goal

abbrev pub invariant-loop-argument : goal.invariant-loop-argument
invariant-loop-argument l = l.list ≡ map strip (take l.argument-index l.arguments)
