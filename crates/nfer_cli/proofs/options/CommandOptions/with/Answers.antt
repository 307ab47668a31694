use Rattle.std.proofs.Common.{rules, sym}
use Rattle.nfer_cli.specs.inner.Options.{given_by}
use Rattle.nfer_cli.proofs.TakenOptionLemmas.{full_taken, full_refused, module_taken, module_alone, module_refused, module_twice, other_refused, may_name, may_not_name, names_once}
use Rattle.nfer_cli.proofs.options.CommandOptions.with.Goals as goal

pub returns-in_err-root-in-text-2-clause-taken : goal.returns-in_err-root-in-text-2-clause-taken
returns-in_err-root-in-text-2-clause-taken c = λ names among.
    rw c.from_residual.ensures (module_alone names (given_by c.args.self) c.args.name.now c.args.words.now among c.in-text-2.is c.in_err-root-in-text-2.ensures.cases)

pub returns-then-not-is_identifier-clause-taken : goal.returns-then-not-is_identifier-clause-taken
returns-then-not-is_identifier-clause-taken c = λ names among.
    let words = c.in_ok-root-in-text-2.ensures.cases.0 in
    let may_not = may_not_name c.args.self c.in_ok-root-in-text-2.root.now c.as_str-root.result.now c.as_bytes.result.now c.if-is_none.ensures c.as_str-root.ensures c.as_bytes.ensures.value (sym c.if-not-is_identifier.ensures) in
    rw words (module_refused names (given_by c.args.self) c.args.name.now c.in_ok-root-in-text-2.root.now c.in_ok-root-in-text-2.others.now among c.in-text-2.is may_not)

pub returns-in-text-clause-taken : goal.returns-in-text-clause-taken
returns-in-text-clause-taken c = λ names among. full_taken names (given_by c.args.self) c.args.name.now c.args.words.now among c.in-text.is c.if-not-self.true

pub returns-else-not-is_identifier-clause-taken : goal.returns-else-not-is_identifier-clause-taken
returns-else-not-is_identifier-clause-taken c = λ names among.
    let words = c.in_ok-root-in-text-2.ensures.cases.0 in
    let may = may_name c.args.self c.in_ok-root-in-text-2.root.now c.as_str-root.result.now c.as_bytes.result.now c.if-is_none.ensures c.as_str-root.ensures c.as_bytes.ensures.value (sym c.if-not-is_identifier.ensures) in
    rw (words, c.as_str-root.ensures) (module_taken names (given_by c.args.self) c.args.name.now c.in_ok-root-in-text-2.root.now c.in_ok-root-in-text-2.others.now among c.in-text-2.is may)

pub returns-in_default-clause-taken : goal.returns-in_default-clause-taken
returns-in_default-clause-taken c = λ names among. elim c.in_default.branch [
  | goal.in_default-via-in-text+else-not-self w ↦ full_refused names (given_by c.args.self) c.args.name.now c.args.words.now among w.in-text.is w.if-not-self.false
  | goal.in_default-via-in-text-2+else-is_none w ↦ module_twice names (given_by c.args.self) c.args.name.now c.args.words.now among w.in-text-2.is (names_once c.args.self w.if-is_none.ensures)
  | goal.in_default-via-in_default w ↦ other_refused names (given_by c.args.self) c.args.name.now c.args.words.now among (search rules) (search rules)
]
