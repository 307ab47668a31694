-- The rules of each module can be written where those of all modules can.
use Rattle.std.proofs.Common.{ℕ, zero, suc, ◌<◌, List, [], ◌∷◌, ◌++◌, length, All, slice_index_or, arith}
use Rattle.std.proofs.lemmas.List.Elements.{All-nil, All-cons, All-head, All-tail}
use Rattle.nf_core.specs.Trees.{Rule, IsWritten}
use Rattle.nf_core.specs.declared.trees.Module.{Module}
use Rattle.nf_parse.specs.Answers.{rules_in}

-- of two lists of rules one after the other, each
first_written : (rules others : List Rule) → All IsWritten (rules ++ others) → All IsWritten rules
first_written [] others all = All-nil IsWritten
first_written (r ∷ rules) others all =
    All-cons IsWritten r rules (All-head IsWritten r (rules ++ others) all) (first_written rules others (All-tail IsWritten r (rules ++ others) all))

others_written : (rules others : List Rule) → All IsWritten (rules ++ others) → All IsWritten others
others_written [] others all = all
others_written (r ∷ rules) others all = others_written rules others (All-tail IsWritten r (rules ++ others) all)

pub module_written : (modules : List Module) (k : ℕ) (d : Module) → k < length modules → All IsWritten (rules_in modules) → All IsWritten (slice_index_or modules k d).rules
module_written [] k d below all = absurd (omega (arith, below))
module_written (m ∷ modules) zero d below all = first_written m.rules (rules_in modules) all
module_written (m ∷ modules) (suc k) d below all = module_written modules k d (omega (arith, below)) (others_written m.rules (rules_in modules) all)
