use Rattle.std.specs.Prelude.{Err, refl}
use Rattle.nf_lex.specs.declared.fault.LexFault.TheVariants as lexical
use Rattle.nf_spec.specs.declared.fault.SpecFault.TheVariants as fault
use Rattle.nf_spec.proofs.ExistenceLemmas.{some_answer, no_answer_is_memory, no_lexical_memory}
use Rattle.nf_spec.proofs.UniquenessLemmas.{one_answer}
use Rattle.nf_spec.proofs.LimitLemmas.{is_past}
use Rattle.nf_spec.proofs.laws.every_specification_has_one_answer.Goals as goal

pub returns : goal.returns
returns c = record {
  some = some_answer c.every_source_is_answered.ensures.some c.selection_is_one.ensures.some c.one_order.ensures.some;
  one = one_answer c.one_order.ensures.same c.one_order.ensures.either c.one_order.ensures.cycle c.every_source_is_answered.ensures.one c.selection_is_one.ensures.one;
  known = λ sources root h. no_answer_is_memory c.every_source_is_answered.ensures.known sources root (Err fault.NoMemory) h refl;
  too_long = λ sources root h. is_past sources root (Err fault.TooLong) refl h;
  lexical = λ sources root place h. no_lexical_memory c.every_source_is_answered.ensures.lexical sources root (Err (fault.Lex place lexical.NoMemory)) h place refl;
}
