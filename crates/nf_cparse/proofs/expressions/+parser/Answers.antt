use Rattle.std.proofs.Common.{◌≡◌, sym, ap, ◌∙◌, arith, ◌-◌, is_some, Some}
use Rattle.std.proofs.lemmas.Result.{err_from_is_err_and}
use Rattle.nf_grammar.specs.State.{next}
use Rattle.nf_grammar.specs.inner.Parsers.{in_table}
use Rattle.nf_grammar.proofs.Public.OutcomeLemmas.{stop_reads}
use Rattle.nf_cparse.specs.declared.symbol.Sym.TheVariants as kind
use Rattle.nf_cparse.specs.inner.Parsers.{kind_of_next, token}
use Rattle.nf_cparse.specs.inner.ExpressionReading as spec
use Rattle.nf_cparse.specs.inner.ExpressionReading.{op_at}
use Rattle.nf_cparse.proofs.StepLemmas.{table_at, some_word}
use Rattle.nf_cparse.proofs.OperandLemmas.{chain_start, chain_stops, chain_step, chain_stop, chain_end, right_read, right_full, right_stops, minus_sign, bang_sign, minus_full, bang_full, sign_read, sign_stops}
use Rattle.nf_cparse.proofs.NestLemmas.{stops_read, cell_read, cell_stops, name_alone, open_stops, parens_stops, close_stops, parens_read, index_refused, index_full, index_stops, bracket_stops, index_read}
use Rattle.nf_cparse.proofs.expressions.+parser.Goals as goal

pub chain-returns-in_err-left-clause-reads : goal.chain-returns-in_err-left-clause-reads
chain-returns-in_err-left-clause-reads t c =
    let p = err_from_is_err_and c.from_residual.result c.from_residual.ensures.1 in
    rw (p.1, p.2) (stop_reads (spec.operand (spec.nest c.args.depth) c.args.level c.args.reader.now) _ _ _ _
    (chain_stops c.args.level (spec.operand (spec.nest c.args.depth) c.args.level) c.args.reader.now) c.in_err-left.ensures.reads)

pub chain-operands-init : goal.chain-operands-init
chain-operands-init t c = chain_start c.args.level (spec.operand (spec.nest c.args.depth) c.args.level) c.args.reader.now _ _ c.in_ok-left.ensures.reads c.in_ok-left.ensures.within

pub chain-returns-in_err-left-2-clause-reads : goal.chain-returns-in_err-left-2-clause-reads
chain-returns-in_err-left-2-clause-reads t c =
    let p = err_from_is_err_and c.from_residual-in_err-left-2.result c.from_residual-in_err-left-2.ensures.1 in
    let h = ap (in_table (op_at c.args.level)) (sym c.next.ensures) ∙ sym c.op_at.ensures ∙ c.in-Some.is in
    rw (p.1, p.2) (stop_reads _ (spec.chain_at (spec.nest c.args.depth) c.args.level c.args.reader.now) _ _ _
    (λ f e. chain_stop c.args.level (spec.operand (spec.nest c.args.depth) c.args.level) c.args.reader.now _ _ f c.operands.invariant
    (some_word (op_at c.args.level) c.in-Some.op c.operands.reader h) (ap is_some (table_at (op_at c.args.level) (next c.operands.reader) ∙ h)) e) c.in_err-left-2.ensures.reads)

pub chain-operands-preserved : goal.chain-operands-preserved
chain-operands-preserved t c =
    let h = ap (in_table (op_at c.args.level)) (sym c.next.ensures) ∙ sym c.op_at.ensures ∙ c.in-Some.is in
    chain_step c.args.level (spec.operand (spec.nest c.args.depth) c.args.level) c.args.reader.now _ _ _ _ c.operands.invariant
    (ap is_some (table_at (op_at c.args.level) (next c.operands.reader) ∙ h)) c.in_ok-left-2.ensures.reads c.in_ok-left-2.ensures.within c.in_ok-left-2.ensures.shorter

pub chain-returns-clause-reads : goal.chain-returns-clause-reads
chain-returns-clause-reads t c =
    let h = ap (in_table (op_at c.args.level)) (sym c.next.ensures) ∙ sym c.op_at.ensures ∙ c.in_default.is in
    chain_end c.args.level (spec.operand (spec.nest c.args.depth) c.args.level) c.args.reader.now _ _ c.operands.invariant (ap is_some (table_at (op_at c.args.level) (next c.operands.reader) ∙ h))

pub right_of-returns-in_err-operator-clause-reads : goal.right_of-returns-in_err-operator-clause-reads
right_of-returns-in_err-operator-clause-reads t c =
    let p = err_from_is_err_and c.from_residual.result c.from_residual.ensures.1 in
    let full = c.in_err-operator.ensures.full in
    rw (p.1, p.2, full.1) (right_full c.args.level (spec.operand (spec.nest c.args.depth) c.args.level) c.args.op c.args.left c.args.reader.now c.requires full.0)

pub right_of-returns-in_err-right-clause-reads : goal.right_of-returns-in_err-right-clause-reads
right_of-returns-in_err-right-clause-reads t c =
    let p = err_from_is_err_and c.from_residual-in_err-right.result c.from_residual-in_err-right.ensures.1 in
    rw (p.1, p.2) (stop_reads (spec.operand (spec.nest c.args.depth) c.args.level c.operator.new.self) _ _ _ _
    (λ f e. right_stops c.args.level (spec.operand (spec.nest c.args.depth) c.args.level) c.args.op c.args.left _ c.args.reader.now c.operator.new.self f c.requires c.in_ok-operator.ensures.past e)
    c.in_err-right.ensures.reads)

pub right_of-returns-clause-reads : goal.right_of-returns-clause-reads
right_of-returns-clause-reads t c =
    let r = right_read c.args.level (spec.operand (spec.nest c.args.depth) c.args.level) c.args.op c.args.left c.in_ok-right.right _ c.args.reader.now c.operator.new.self c.operand.new.reader
    c.requires c.in_ok-operator.ensures.past c.in_ok-right.ensures.reads in
    rw (c.in_ok-new.ensures, c.in_ok-new-2.ensures) r

pub unary-returns-in_err-line-in-Some-Minus-clause-reads : goal.unary-returns-in_err-line-in-Some-Minus-clause-reads
unary-returns-in_err-line-in-Some-Minus-clause-reads t c =
    let p = err_from_is_err_and c.from_residual.result c.from_residual.ensures.1 in
    let full = c.in_err-line-in-Some-Minus.ensures.full in
    let h : kind_of_next (next c.args.reader.now) ≡ Some kind.Minus = cc in
    rw (p.1, p.2, full.1) (minus_full (spec.primary (spec.nest c.args.depth)) c.args.reader.now h full.0)

pub unary-returns-in_err-operand-in-Some-Minus-clause-reads : goal.unary-returns-in_err-operand-in-Some-Minus-clause-reads
unary-returns-in_err-operand-in-Some-Minus-clause-reads t c =
    let p = err_from_is_err_and c.from_residual-in_err-operand-in-Some-Minus.result c.from_residual-in_err-operand-in-Some-Minus.ensures.1 in
    let h : kind_of_next (next c.args.reader.now) ≡ Some kind.Minus = cc in
    let g = c.in_ok-line-in-Some-Minus.ensures.past in
    rw (p.1, p.2) (stop_reads (spec.signed_operand (spec.nest c.args.depth) c.operator.new.self) _ _ _ _
    (λ f e. sign_stops (spec.primary (spec.nest c.args.depth)) _ _ (minus_sign _ c.args.reader.now c.operator.new.self g h) c.args.reader.now c.operator.new.self g f e)
    c.in_err-operand-in-Some-Minus.ensures.reads)

pub unary-returns-in_ok-new-in-Some-Minus-clause-reads : goal.unary-returns-in_ok-new-in-Some-Minus-clause-reads
unary-returns-in_ok-new-in-Some-Minus-clause-reads t c =
    let h : kind_of_next (next c.args.reader.now) ≡ Some kind.Minus = cc in
    let g = c.in_ok-line-in-Some-Minus.ensures.past in
    let r = sign_read (spec.primary (spec.nest c.args.depth)) _ _ (minus_sign _ c.args.reader.now c.operator.new.self g h) c.args.reader.now c.operator.new.self g c.unary.new.reader c.in_ok-operand-in-Some-Minus.operand c.in_ok-operand-in-Some-Minus.ensures.reads in
    rw c.in_ok-new-in-Some-Minus.ensures r

pub unary-returns-in_err-line-in-Some-Bang-clause-reads : goal.unary-returns-in_err-line-in-Some-Bang-clause-reads
unary-returns-in_err-line-in-Some-Bang-clause-reads t c =
    let p = err_from_is_err_and c.from_residual-in_err-line-in-Some-Bang.result c.from_residual-in_err-line-in-Some-Bang.ensures.1 in
    let full = c.in_err-line-in-Some-Bang.ensures.full in
    let h : kind_of_next (next c.args.reader.now) ≡ Some kind.Bang = cc in
    rw (p.1, p.2, full.1) (bang_full (spec.primary (spec.nest c.args.depth)) c.args.reader.now h full.0)

pub unary-returns-in_err-operand-in-Some-Bang-clause-reads : goal.unary-returns-in_err-operand-in-Some-Bang-clause-reads
unary-returns-in_err-operand-in-Some-Bang-clause-reads t c =
    let p = err_from_is_err_and c.from_residual-in_err-operand-in-Some-Bang.result c.from_residual-in_err-operand-in-Some-Bang.ensures.1 in
    let h : kind_of_next (next c.args.reader.now) ≡ Some kind.Bang = cc in
    let g = c.in_ok-line-in-Some-Bang.ensures.past in
    rw (p.1, p.2) (stop_reads (spec.signed_operand (spec.nest c.args.depth) c.operator-in-Some-Bang.new.self) _ _ _ _
    (λ f e. sign_stops (spec.primary (spec.nest c.args.depth)) _ _ (bang_sign _ c.args.reader.now c.operator-in-Some-Bang.new.self g h) c.args.reader.now c.operator-in-Some-Bang.new.self g f e)
    c.in_err-operand-in-Some-Bang.ensures.reads)

pub unary-returns-in_ok-new-in-Some-Bang-clause-reads : goal.unary-returns-in_ok-new-in-Some-Bang-clause-reads
unary-returns-in_ok-new-in-Some-Bang-clause-reads t c =
    let h : kind_of_next (next c.args.reader.now) ≡ Some kind.Bang = cc in
    let g = c.in_ok-line-in-Some-Bang.ensures.past in
    let r = sign_read (spec.primary (spec.nest c.args.depth)) _ _ (bang_sign _ c.args.reader.now c.operator-in-Some-Bang.new.self g h) c.args.reader.now c.operator-in-Some-Bang.new.self g c.unary-in-Some-Bang.new.reader c.in_ok-operand-in-Some-Bang.operand c.in_ok-operand-in-Some-Bang.ensures.reads in
    rw c.in_ok-new-in-Some-Bang.ensures r

pub behind_name-returns-in_err-place-clause-reads : goal.behind_name-returns-in_err-place-clause-reads
behind_name-returns-in_err-place-clause-reads t c =
    let p = err_from_is_err_and c.from_residual.result c.from_residual.ensures.1 in
    rw (p.1, p.2) (stop_reads (spec.index_at c.args.depth c.args.reader.now) _ _ _ _
    (λ f e. cell_stops (spec.index_at c.args.depth) c.args.name c.args.reader.now f (sym c.is_at.ensures ∙ c.if-is_at.true) e)
    c.in_err-place.ensures.reads)

pub behind_name-returns-in_ok-new-clause-reads : goal.behind_name-returns-in_ok-new-clause-reads
behind_name-returns-in_ok-new-clause-reads t c =
    rw c.in_ok-new.ensures (cell_read (spec.index_at c.args.depth) c.args.name c.args.reader.now c.in_ok-place.place c.index.new.reader (sym c.is_at.ensures ∙ c.if-is_at.true) c.in_ok-place.ensures.reads)

pub behind_name-returns-else-is_at-clause-reads : goal.behind_name-returns-else-is_at-clause-reads
behind_name-returns-else-is_at-clause-reads t c = name_alone (spec.index_at c.args.depth) c.args.name c.args.reader.now (sym c.is_at.ensures ∙ c.if-is_at.false)

pub index-returns-then-not-is_at-clause-reads : goal.index-returns-then-not-is_at-clause-reads
index-returns-then-not-is_at-clause-reads t c =
    rw c.refuse.ensures (index_refused c.args.depth c.args.reader.now (omega (arith, c.if-depth-eq0.false)) (sym c.is_at.ensures ∙ c.if-not-is_at.true))

pub index-returns-in_err-operator-clause-reads : goal.index-returns-in_err-operator-clause-reads
index-returns-in_err-operator-clause-reads t c =
    let p = err_from_is_err_and c.from_residual.result c.from_residual.ensures.1 in
    let full = c.in_err-operator.ensures.full in
    rw (p.1, p.2, full.1) (index_full c.args.depth c.args.reader.now (omega (arith, c.if-depth-eq0.false)) (sym c.is_at.ensures ∙ c.if-not-is_at.false) full.0)

pub index-returns-in_err-inner-clause-reads : goal.index-returns-in_err-inner-clause-reads
index-returns-in_err-inner-clause-reads t c =
    let p = err_from_is_err_and c.from_residual-in_err-inner.result c.from_residual-in_err-inner.ensures.1 in
    rw (p.1, p.2) (stop_reads (spec.expression (spec.nest (c.args.depth - 1)) c.operator.new.self) _ _ _ _
    (λ f e. index_stops c.args.depth c.args.reader.now (omega (arith, c.if-depth-eq0.false)) _ c.operator.new.self (sym c.is_at.ensures ∙ c.if-not-is_at.false) c.in_ok-operator.ensures.past f e)
    c.in_err-inner.ensures.reads)

pub index-returns-in_err-skip-clause-reads : goal.index-returns-in_err-skip-clause-reads
index-returns-in_err-skip-clause-reads t c =
    let p = err_from_is_err_and c.from_residual-in_err-skip.result c.from_residual-in_err-skip.ensures.1 in
    rw (p.1, p.2) (stops_read (token kind.CloseBracket c.chain.new.reader) _ _ _
    (λ f e. bracket_stops c.args.depth c.args.reader.now (omega (arith, c.if-depth-eq0.false)) _ c.operator.new.self (sym c.is_at.ensures ∙ c.if-not-is_at.false) c.in_ok-operator.ensures.past c.in_ok-inner.inner c.chain.new.reader f c.in_ok-inner.ensures.reads e)
    c.in_err-skip.ensures.stops)

pub index-returns-clause-reads : goal.index-returns-clause-reads
index-returns-clause-reads t c =
    let last = c.in_ok-skip.ensures.reads in
    index_read c.args.depth c.args.reader.now (omega (arith, c.if-depth-eq0.false)) _ c.operator.new.self (sym c.is_at.ensures ∙ c.if-not-is_at.false) c.in_ok-operator.ensures.past c.in_ok-inner.inner c.chain.new.reader c.skip.new.self last.word c.in_ok-inner.ensures.reads last.is

pub parens-returns-in_err-line-clause-reads : goal.parens-returns-in_err-line-clause-reads
parens-returns-in_err-line-clause-reads t c =
    let p = err_from_is_err_and c.from_residual.result c.from_residual.ensures.1 in
    rw (p.1, p.2) (stops_read (token kind.Open c.args.reader.now) _ _ _
    (λ f e. open_stops c.args.depth c.args.reader.now (omega (arith, c.if-depth-eq0.false)) f e) c.in_err-line.ensures.stops)

pub parens-returns-in_err-inner-clause-reads : goal.parens-returns-in_err-inner-clause-reads
parens-returns-in_err-inner-clause-reads t c =
    let p = err_from_is_err_and c.from_residual-in_err-inner.result c.from_residual-in_err-inner.ensures.1 in
    rw (p.1, p.2) (stop_reads (spec.expression (spec.nest (c.args.depth - 1)) c.take.new.self) _ _ _ _
    (λ f e. parens_stops c.args.depth c.args.reader.now (omega (arith, c.if-depth-eq0.false)) _ c.take.new.self c.in_ok-line.ensures.reads f e)
    c.in_err-inner.ensures.reads)

pub parens-returns-in_err-skip-clause-reads : goal.parens-returns-in_err-skip-clause-reads
parens-returns-in_err-skip-clause-reads t c =
    let p = err_from_is_err_and c.from_residual-in_err-skip.result c.from_residual-in_err-skip.ensures.1 in
    rw (p.1, p.2) (stops_read (token kind.Close c.chain.new.reader) _ _ _
    (λ f e. close_stops c.args.depth c.args.reader.now (omega (arith, c.if-depth-eq0.false)) _ c.take.new.self c.in_ok-line.ensures.reads c.in_ok-inner.inner c.chain.new.reader f c.in_ok-inner.ensures.reads e)
    c.in_err-skip.ensures.stops)

pub parens-returns-clause-reads : goal.parens-returns-clause-reads
parens-returns-clause-reads t c =
    let last = c.in_ok-skip.ensures.reads in
    rw c.in_ok-new.ensures (parens_read c.args.depth c.args.reader.now (omega (arith, c.if-depth-eq0.false)) _ c.take.new.self c.in_ok-line.ensures.reads c.in_ok-inner.inner c.chain.new.reader c.skip.new.self last.word c.in_ok-inner.ensures.reads last.is)
