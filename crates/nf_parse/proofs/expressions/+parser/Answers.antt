use Rattle.std.proofs.Common.{◌≡◌, sym, ap, ◌∙◌, subst, is_some, Some}
use Rattle.std.proofs.lemmas.Result.{err_from_is_err_and}
use Rattle.nf_grammar.specs.State.{next}
use Rattle.nf_grammar.specs.inner.Parsers.{in_table, Reads}
use Rattle.nf_grammar.proofs.Public.OutcomeLemmas.{stop_reads}
use Rattle.nf_parse.specs.Grammar.{op_at}
use Rattle.nf_parse.specs.declared.level.Level.TheVariants as level
use Rattle.nf_parse.specs.declared.symbol.Sym.TheVariants as kind
use Rattle.nf_parse.specs.State.{kind_of_next}
use Rattle.nf_parse.specs.inner.Reading as spec
use Rattle.nf_parse.proofs.StepLemmas.{table_at, some_word}
use Rattle.nf_parse.proofs.OperandLoopLemmas.{chain_start, chain_stops, chain_step, chain_stop, chain_end, single_stops, single_alone, single_pair, right_read, right_full, right_stops, minus_sign, bang_sign, sign_read, sign_full, sign_stops}
use Rattle.nf_parse.proofs.expressions.+parser.Goals as goal

pub chain-returns-in_err-left-clause-reads : goal.chain-returns-in_err-left-clause-reads
chain-returns-in_err-left-clause-reads t c =
    let p = err_from_is_err_and c.from_residual.result c.from_residual.ensures.1 in
    rw (p.1, p.2) (stop_reads (spec.operand (spec.paren c.args.depth) c.args.level c.args.reader.now) _ _ _ _
    (chain_stops c.args.level (spec.operand (spec.paren c.args.depth) c.args.level) c.args.reader.now) c.in_err-left.ensures.reads)

pub chain-operands-init : goal.chain-operands-init
chain-operands-init t c = chain_start c.args.level (spec.operand (spec.paren c.args.depth) c.args.level) c.args.reader.now _ _ c.in_ok-left.ensures.reads c.in_ok-left.ensures.within

pub chain-returns-in_err-left-2-clause-reads : goal.chain-returns-in_err-left-2-clause-reads
chain-returns-in_err-left-2-clause-reads t c =
    let p = err_from_is_err_and c.from_residual-in_err-left-2.result c.from_residual-in_err-left-2.ensures.1 in
    let h = ap (in_table (op_at c.args.level)) (sym c.next.ensures) ∙ sym c.op_at.ensures ∙ c.in-Some.is in
    rw (p.1, p.2) (stop_reads _ (spec.chain_at (spec.paren c.args.depth) c.args.level c.args.reader.now) _ _ _
    (λ f e. chain_stop c.args.level (spec.operand (spec.paren c.args.depth) c.args.level) c.args.reader.now _ _ f c.operands.invariant
    (some_word (op_at c.args.level) c.in-Some.op c.operands.reader h) (ap is_some (table_at (op_at c.args.level) (next c.operands.reader) ∙ h)) e) c.in_err-left-2.ensures.reads)

pub chain-operands-preserved : goal.chain-operands-preserved
chain-operands-preserved t c =
    let h = ap (in_table (op_at c.args.level)) (sym c.next.ensures) ∙ sym c.op_at.ensures ∙ c.in-Some.is in
    chain_step c.args.level (spec.operand (spec.paren c.args.depth) c.args.level) c.args.reader.now _ _ _ _ c.operands.invariant
    (ap is_some (table_at (op_at c.args.level) (next c.operands.reader) ∙ h)) c.in_ok-left-2.ensures.reads c.in_ok-left-2.ensures.within c.in_ok-left-2.ensures.shorter

pub chain-returns-clause-reads : goal.chain-returns-clause-reads
chain-returns-clause-reads t c =
    let h = ap (in_table (op_at c.args.level)) (sym c.next.ensures) ∙ sym c.op_at.ensures ∙ c.in_default.is in
    chain_end c.args.level (spec.operand (spec.paren c.args.depth) c.args.level) c.args.reader.now _ _ c.operands.invariant (ap is_some (table_at (op_at c.args.level) (next c.operands.reader) ∙ h))

pub comparison-returns-in_err-left-clause-reads : goal.comparison-returns-in_err-left-clause-reads
comparison-returns-in_err-left-clause-reads t c =
    let p = err_from_is_err_and c.from_residual.result c.from_residual.ensures.1 in
    rw (p.1, p.2) (stop_reads (spec.sum (spec.paren c.args.depth) c.args.reader.now) _ _ _ _
    (single_stops level.Compare (spec.sum (spec.paren c.args.depth)) c.args.reader.now) c.in_err-left.ensures.reads)

pub comparison-returns-in-None-clause-reads : goal.comparison-returns-in-None-clause-reads
comparison-returns-in-None-clause-reads t c =
    let h = ap (in_table (op_at level.Compare)) (sym c.next.ensures) ∙ sym c.op_at.ensures ∙ c.in-None.is in
    single_alone level.Compare (spec.sum (spec.paren c.args.depth)) c.args.reader.now c.operand.new.reader c.in_ok-left.left c.in_ok-left.ensures.reads
    (ap is_some (table_at (op_at level.Compare) (next c.operand.new.reader) ∙ h))

pub comparison-returns-in-Some-clause-reads : goal.comparison-returns-in-Some-clause-reads
comparison-returns-in-Some-clause-reads t c =
    let h = ap (in_table (op_at level.Compare)) (sym c.next.ensures) ∙ sym c.op_at.ensures ∙ c.in-Some.is in
    let pair = single_pair level.Compare (spec.sum (spec.paren c.args.depth)) c.args.reader.now c.operand.new.reader c.in_ok-left.left c.in_ok-left.ensures.reads
    (ap is_some (table_at (op_at level.Compare) (next c.operand.new.reader) ∙ h)) in
    subst (λ o. Reads o c.right_of.result c.right_of.new.reader) (sym pair) c.right_of.ensures.reads

pub right_of-returns-in_err-operator-clause-reads : goal.right_of-returns-in_err-operator-clause-reads
right_of-returns-in_err-operator-clause-reads t c =
    let p = err_from_is_err_and c.from_residual.result c.from_residual.ensures.1 in
    let full = c.in_err-operator.ensures.full in
    rw (p.1, p.2, full.1) (right_full c.args.level (spec.operand (spec.paren c.args.depth) c.args.level) c.args.op c.args.left c.args.reader.now c.requires full.0)

pub right_of-returns-in_err-right-clause-reads : goal.right_of-returns-in_err-right-clause-reads
right_of-returns-in_err-right-clause-reads t c =
    let p = err_from_is_err_and c.from_residual-in_err-right.result c.from_residual-in_err-right.ensures.1 in
    rw (p.1, p.2) (stop_reads (spec.operand (spec.paren c.args.depth) c.args.level c.operator.new.self) _ _ _ _
    (λ f e. right_stops c.args.level (spec.operand (spec.paren c.args.depth) c.args.level) c.args.op c.args.left c.args.reader.now c.operator.new.self f c.requires c.in_ok-operator.ensures.past c.in_ok-operator.ensures.words e)
    c.in_err-right.ensures.reads)

pub right_of-returns-clause-reads : goal.right_of-returns-clause-reads
right_of-returns-clause-reads t c =
    let r = right_read c.args.level (spec.operand (spec.paren c.args.depth) c.args.level) c.args.op c.args.left c.in_ok-right.right c.args.reader.now c.operator.new.self c.operand.new.reader
    c.requires c.in_ok-operator.ensures.past c.in_ok-operator.ensures.words c.in_ok-right.ensures.reads in
    rw (c.in_ok-new.ensures, c.in_ok-new-2.ensures) r

pub unary-returns-in_err-operator-in-Some-Minus-clause-reads : goal.unary-returns-in_err-operator-in-Some-Minus-clause-reads
unary-returns-in_err-operator-in-Some-Minus-clause-reads t c =
    let p = err_from_is_err_and c.from_residual.result c.from_residual.ensures.1 in
    let full = c.in_err-operator-in-Some-Minus.ensures.full in
    let h : kind_of_next (next c.args.reader.now) ≡ Some kind.Minus = cc in
    rw (p.1, p.2, full.1) (sign_full (spec.primary (spec.paren c.args.depth)) kind.Minus _ minus_sign c.args.reader.now h full.0)

pub unary-returns-in_err-operand-in-Some-Minus-clause-reads : goal.unary-returns-in_err-operand-in-Some-Minus-clause-reads
unary-returns-in_err-operand-in-Some-Minus-clause-reads t c =
    let p = err_from_is_err_and c.from_residual-in_err-operand-in-Some-Minus.result c.from_residual-in_err-operand-in-Some-Minus.ensures.1 in
    let h : kind_of_next (next c.args.reader.now) ≡ Some kind.Minus = cc in
    rw (p.1, p.2) (stop_reads (spec.signed_operand (spec.paren c.args.depth) c.operator.new.self) _ _ _ _
    (λ f e. sign_stops (spec.primary (spec.paren c.args.depth)) kind.Minus _ minus_sign c.args.reader.now h c.operator.new.self f c.in_ok-operator-in-Some-Minus.ensures.past c.in_ok-operator-in-Some-Minus.ensures.words e)
    c.in_err-operand-in-Some-Minus.ensures.reads)

pub unary-returns-in_ok-new-in-Some-Minus-clause-reads : goal.unary-returns-in_ok-new-in-Some-Minus-clause-reads
unary-returns-in_ok-new-in-Some-Minus-clause-reads t c =
    let h : kind_of_next (next c.args.reader.now) ≡ Some kind.Minus = cc in
    let r = sign_read (spec.primary (spec.paren c.args.depth)) kind.Minus _ minus_sign c.args.reader.now h c.operator.new.self c.unary.new.reader c.in_ok-operand-in-Some-Minus.operand
    c.in_ok-operator-in-Some-Minus.ensures.past c.in_ok-operator-in-Some-Minus.ensures.words c.in_ok-operand-in-Some-Minus.ensures.reads in
    rw c.in_ok-new-in-Some-Minus.ensures r

pub unary-returns-in_err-operator-in-Some-Bang-clause-reads : goal.unary-returns-in_err-operator-in-Some-Bang-clause-reads
unary-returns-in_err-operator-in-Some-Bang-clause-reads t c =
    let p = err_from_is_err_and c.from_residual-in_err-operator-in-Some-Bang.result c.from_residual-in_err-operator-in-Some-Bang.ensures.1 in
    let full = c.in_err-operator-in-Some-Bang.ensures.full in
    let h : kind_of_next (next c.args.reader.now) ≡ Some kind.Bang = cc in
    rw (p.1, p.2, full.1) (sign_full (spec.primary (spec.paren c.args.depth)) kind.Bang _ bang_sign c.args.reader.now h full.0)

pub unary-returns-in_err-operand-in-Some-Bang-clause-reads : goal.unary-returns-in_err-operand-in-Some-Bang-clause-reads
unary-returns-in_err-operand-in-Some-Bang-clause-reads t c =
    let p = err_from_is_err_and c.from_residual-in_err-operand-in-Some-Bang.result c.from_residual-in_err-operand-in-Some-Bang.ensures.1 in
    let h : kind_of_next (next c.args.reader.now) ≡ Some kind.Bang = cc in
    rw (p.1, p.2) (stop_reads (spec.signed_operand (spec.paren c.args.depth) c.operator-in-Some-Bang.new.self) _ _ _ _
    (λ f e. sign_stops (spec.primary (spec.paren c.args.depth)) kind.Bang _ bang_sign c.args.reader.now h c.operator-in-Some-Bang.new.self f c.in_ok-operator-in-Some-Bang.ensures.past c.in_ok-operator-in-Some-Bang.ensures.words e)
    c.in_err-operand-in-Some-Bang.ensures.reads)

pub unary-returns-in_ok-new-in-Some-Bang-clause-reads : goal.unary-returns-in_ok-new-in-Some-Bang-clause-reads
unary-returns-in_ok-new-in-Some-Bang-clause-reads t c =
    let h : kind_of_next (next c.args.reader.now) ≡ Some kind.Bang = cc in
    let r = sign_read (spec.primary (spec.paren c.args.depth)) kind.Bang _ bang_sign c.args.reader.now h c.operator-in-Some-Bang.new.self c.unary-in-Some-Bang.new.reader c.in_ok-operand-in-Some-Bang.operand
    c.in_ok-operator-in-Some-Bang.ensures.past c.in_ok-operator-in-Some-Bang.ensures.words c.in_ok-operand-in-Some-Bang.ensures.reads in
    rw c.in_ok-new-in-Some-Bang.ensures r
