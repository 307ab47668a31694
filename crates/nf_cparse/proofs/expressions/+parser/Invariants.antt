use Rattle.std.proofs.Common.{◌+◌, ◌*◌, length}
use Rattle.nf_cparse.specs.inner.ExpressionReading as spec
use Rattle.nf_cparse.proofs.OperandLemmas.{operand_rank, IsChainAt}
use Rattle.nf_cparse.proofs.expressions.+parser.Given as goal

abbrev pub decreases-behind_name : goal.decreases-behind_name
decreases-behind_name l = 20 * length l.reader.now.words + 1

abbrev pub decreases-chain : goal.decreases-chain
decreases-chain l = 20 * length l.reader.now.words + operand_rank l.level + 1

abbrev pub decreases-index : goal.decreases-index
decreases-index l = 20 * length l.reader.now.words

abbrev pub decreases-name_or_cell : goal.decreases-name_or_cell
decreases-name_or_cell l = 20 * length l.reader.now.words

abbrev pub decreases-operand : goal.decreases-operand
decreases-operand l = 20 * length l.reader.now.words + operand_rank l.level

abbrev pub decreases-parens : goal.decreases-parens
decreases-parens l = 20 * length l.reader.now.words

abbrev pub decreases-primary : goal.decreases-primary
decreases-primary l = 20 * length l.reader.now.words + 1

abbrev pub decreases-right_of : goal.decreases-right_of
decreases-right_of l = 20 * length l.reader.now.words

abbrev pub decreases-unary : goal.decreases-unary
decreases-unary l = 20 * length l.reader.now.words + 2

abbrev pub invariant-chain-operands : goal.invariant-chain-operands
invariant-chain-operands l =
    IsChainAt l.level (spec.operand (spec.nest l.depth) l.level) l.fn.reader l.left l.reader

abbrev pub decreases-chain-operands : goal.decreases-chain-operands
decreases-chain-operands l = length l.reader.words
