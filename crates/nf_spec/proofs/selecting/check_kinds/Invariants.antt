use Rattle.nf_spec.proofs.KindLemmas.{AreJudged}
use Rattle.nf_spec.proofs.selecting.check_kinds.Given as goal

-- the rules before the place were judged
abbrev pub invariant-rules : goal.invariant-rules
invariant-rules l = AreJudged l.rules l.place
