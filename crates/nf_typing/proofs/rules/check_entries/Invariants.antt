use Rattle.std.proofs.Common.{[]}
use Rattle.nf_typing.specs.Faults.{entries_fault}
use Rattle.nf_typing.proofs.RulePartLemmas.{IsFrom}
use Rattle.nf_typing.proofs.rules.check_entries.Given as goal

-- the first fault of all entries is that of the entries from the place on
abbrev pub invariant-entries : goal.invariant-entries
invariant-entries l = IsFrom l.rule.body l.entries (entries_fault l.rule.body [] l.entries) l.place
