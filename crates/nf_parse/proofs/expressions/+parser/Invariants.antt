use Rattle.std.proofs.Common.{◌+◌, ◌*◌, length}
use Rattle.nf_parse.specs.inner.Reading as spec
use Rattle.nf_parse.proofs.OperandLoopLemmas.{operand_rank, IsChainAt}
use Rattle.nf_parse.proofs.expressions.+parser.Given as goal

abbrev pub decreases-chain : goal.decreases-chain
decreases-chain l = 20 * length l.reader.now.words + operand_rank l.level + 1

abbrev pub decreases-comparison : goal.decreases-comparison
decreases-comparison l = 20 * length l.reader.now.words + 8

abbrev pub decreases-operand : goal.decreases-operand
decreases-operand l = 20 * length l.reader.now.words + operand_rank l.level

abbrev pub decreases-paren : goal.decreases-paren
decreases-paren l = 20 * length l.reader.now.words

abbrev pub decreases-primary : goal.decreases-primary
decreases-primary l = 20 * length l.reader.now.words + 1

abbrev pub decreases-right_of : goal.decreases-right_of
decreases-right_of l = 20 * length l.reader.now.words

abbrev pub decreases-unary : goal.decreases-unary
decreases-unary l = 20 * length l.reader.now.words + 2

abbrev pub invariant-chain-operands : goal.invariant-chain-operands
invariant-chain-operands l =
    IsChainAt l.level (spec.operand (spec.paren l.depth) l.level) l.fn.reader l.left l.reader

abbrev pub decreases-chain-operands : goal.decreases-chain-operands
decreases-chain-operands l = length l.reader.words
