-- The readers of expressions go by the productions of expressions.
use Rattle.std.proofs.Common.{◌≡◌, ◌⊎◌, inl, inr, ℕ, zero, suc, Bool, true, false, cond, eqb, refl, sym, ap, ◌∙◌, subst, arith, Option, Some, None, is_some, true≢false}
use Rattle.std.proofs.lemmas.Bool.{eqb-true}
use denote.Enum.Bare.{sameb}
use Rattle.nf_core.specs.declared.operators.BinOp.{BinOp}
use Rattle.nf_cast.specs.Written.{c_level}
use Rattle.nf_cast.specs.declared.placed.PlacedExpr.{PlacedExpr}
use Rattle.nf_cast.specs.declared.placed.PlacedExpr.TheVariants as node
use Rattle.nf_grammar.specs.Parts as part
use Rattle.nf_grammar.specs.inner.Parsers as parser
use Rattle.nf_grammar.specs.inner.Parsers.{in_table}
use Rattle.nf_grammar.proofs.Public.ReaderLemmas.{Next, always, IsReader, IsShorter, done_reader, nowhere_reader, then_reader, choose_reader, weaken, forward}
use Rattle.nf_grammar.proofs.Public.TokenReaderLemmas.{Has, token_reader, counted_reader, counted_shorter}
use Rattle.nf_grammar.proofs.Public.RepeatedReaderLemmas.{repeated_reader}
use Rattle.nf_grammar.proofs.Public.TakingReaderLemmas.{then_shorter}
use Rattle.nf_cparse.specs.contracts.symbol.Sym.{the_type}
use Rattle.nf_cparse.specs.declared.symbol.Sym.{Sym}
use Rattle.nf_cparse.specs.declared.symbol.Sym.TheVariants as sym'
use Rattle.nf_cparse.specs.declared.level.Level.{Level}
use Rattle.nf_cparse.specs.declared.level.Level.TheVariants as level
use Rattle.nf_cparse.specs.Lexing.{Word}
use Rattle.nf_cparse.specs.Grammar as grammar
use Rattle.nf_cparse.specs.Grammar.{Production, of_kind, op_of, at_level, sign_of}
use Rattle.nf_cparse.specs.inner.Parsers.{Parser, is_kind}
use Rattle.nf_cparse.specs.inner.Parsers as named
use Rattle.nf_cparse.specs.inner.ExpressionReading as reading
use Rattle.nf_cparse.specs.inner.ExpressionReading.{number_of, op_at, op_of_word, is_operator, is_sign}
use Rattle.nf_cparse.proofs.StepLemmas.{same_is}
use Rattle.nf_cparse.proofs.FactorLemmas.{same_reader, factored}

-- the next word is of a kind
abbrev pub IsKind : Sym → Next Word
IsKind k n = is_kind k n ≡ true

-- a word of one kind is of no other
pub apart : (k j : Sym) → sameb the_type k j ≡ false → (n : Option Word) → IsKind k n
    → is_kind j n ≡ false
apart k j d None h = absurd (cc)
apart k j d (Some w) h = subst (λ z. sameb the_type z j ≡ false) (sym (same_is w.sym k h)) d

-- a word that a table of one kind has
kept : {A : Type 0} (b : Bool) (w x : A) → cond b (Some w) None ≡ Some x → b ≡ true
kept true w x e = refl
kept false w x e = absurd (cc)

has_kind : (k : Sym) (n : Option Word) → Has (of_kind k) n → IsKind k n
has_kind k None h = absurd (cc)
has_kind k (Some w) h = kept (sameb the_type w.sym k) w h.0 h.1

-- one word of a kind
pub word_reader : (k : Sym) → IsReader (named.token k) (grammar.word k) (IsKind k) always
word_reader k = weaken (has_kind k) (λ n h. h) (token_reader (of_kind k))

-- a word and then a part
pub after_reader : {A : Type 0} (k : Sym) {p : Parser A} {P : Production A} {begin stop : Next Word}
    → IsReader p P begin stop → IsReader (named.after k p) (grammar.behind k P) (IsKind k) stop
after_reader k r = then_reader (word_reader k) (λ word. r) (λ n h. tt)

-- a name
pub named_reader : IsReader reading.named grammar.named (IsKind sym'.Ident) always
unfolding reading.named
named_reader = then_reader (word_reader sym'.Ident) (λ word. done_reader (grammar.placed word) always) (λ n h. tt)

-- the next word is an operator of a level, or none
abbrev pub IsOperator : Level → Next Word
IsOperator l n = is_operator l n ≡ true

abbrev pub NoOperator : Level → Next Word
NoOperator l n = is_operator l n ≡ false

-- the next word is no bracket
abbrev pub NoBracket : Next Word
NoBracket n = is_kind sym'.OpenBracket n ≡ false

has_some : {A : Type 0} (o : Option A) (x : A) → o ≡ Some x → is_some o ≡ true
has_some o x e = ap is_some e

operator_reader : (l : Level) → IsReader (parser.counted (op_of_word l)) (grammar.operator (number_of l)) (IsOperator l) always
unfolding op_at
operator_reader l = weaken (λ n h. has_some (in_table (op_of_word l) n) h.0 h.1) (λ n h. h) (counted_reader (op_of_word l))

-- an operator with its right operand
abbrev with_operand : Level → Production PlacedExpr → Production (BinOp × PlacedExpr)
with_operand l P = part.and_then (grammar.operator (number_of l)) (λ o. part.and_then P (λ right. part.done (o, right)))

module _ (l : Level) {p : Parser PlacedExpr} {P : Production PlacedExpr} {begin stop : Next Word} (operand : IsReader p P begin stop) where
  with_operand_reader : IsReader (reading.with_operand l p) (with_operand l P) (IsOperator l) stop
  unfolding reading.with_operand
  with_operand_reader = then_reader (operator_reader l) (λ o. then_reader operand (λ right. done_reader (o, right) stop) (λ n h. h)) (λ n h. tt)

  with_operand_shorter : IsShorter (reading.with_operand l p)
  unfolding reading.with_operand
  with_operand_shorter = then_shorter (parser.counted (op_of_word l)) (λ o. parser.and_then p (λ right. parser.done (o, right))) (counted_shorter (op_of_word l))
      (λ o s. forward (then_reader operand (λ right. done_reader (o, right) stop) (λ n h. h)) s)

  module _ (again : (n : Option Word) → IsOperator l n → stop n) where
    -- where operands with operators may end
    abbrev Ends : Next Word
    Ends n = stop n × NoOperator l n

    pub chain_reader : IsReader (reading.chain l p) (grammar.chain (number_of l) P) begin Ends
    unfolding reading.chain
    chain_reader = then_reader operand
        (λ left. then_reader (repeated_reader with_operand_reader with_operand_shorter again (λ n h. h.0) (λ n h. h) (λ n h. h.1)) (λ rest. done_reader (grammar.joined left rest) Ends) (λ n h. h))
        (λ n h. elim h [ inl b ↦ again n b | inr e ↦ e.0 ])

-- readers of what opens one more parenthesis or bracket
pub record AreReaders (n : reading.Nest) (N : grammar.Nest) : Type 0 where
  pub parens : IsReader n.parens N.parens (IsKind sym'.Open) always
  pub index : IsReader n.index N.index (IsKind sym'.OpenBracket) always

-- the words with which an operand without operators begins
abbrev pub BeginsOperand : Next Word
BeginsOperand n = IsKind sym'.Lit n ⊎ (IsKind sym'.Ident n ⊎ IsKind sym'.Open n)

-- the next word is a sign, or none
abbrev pub IsSign : Next Word
IsSign n = is_sign n ≡ true

abbrev pub NoSign : Next Word
NoSign n = is_sign n ≡ false

-- the words with which an expression begins
abbrev pub BeginsExpression : Next Word
BeginsExpression n = IsSign n ⊎ BeginsOperand n

sign_reader : IsReader (parser.counted sign_of) (part.counted sign_of) IsSign always
sign_reader = weaken (λ n h. has_some (in_table sign_of n) h.0 h.1) (λ n h. h) (counted_reader sign_of)

pub no_sign : (k : Sym) → sameb the_type k sym'.Minus ≡ false → sameb the_type k sym'.Bang ≡ false → (n : Option Word) → IsKind k n → NoSign n
unfolding sign_of
no_sign k a b None h = refl
no_sign k a b (Some w) h =
    let e = same_is w.sym k h in
    let c : sameb the_type w.sym sym'.Minus ≡ false = subst (λ z. sameb the_type z sym'.Minus ≡ false) (sym e) a in
    let d : sameb the_type w.sym sym'.Bang ≡ false = subst (λ z. sameb the_type z sym'.Bang ≡ false) (sym e) b in
    rw (c, d) refl

operand_no_sign : (n : Option Word) → BeginsOperand n → NoSign n
operand_no_sign n (inl b) = no_sign sym'.Lit refl refl n b
operand_no_sign n (inr (inl b)) = no_sign sym'.Ident refl refl n b
operand_no_sign n (inr (inr b)) = no_sign sym'.Open refl refl n b

-- an operator of one level is none of another
at_apart : (a b : ℕ) (o : Option BinOp) → (a ≡ b → ⊥) → is_some (at_level a o) ≡ true → is_some (at_level b o) ≡ false
at_apart a b None d h = refl
at_apart a b (Some o) d h = go (eqb (c_level o) a) (eqb (c_level o) b) refl refl h
  where
    go : (x y : Bool) → eqb (c_level o) a ≡ x → eqb (c_level o) b ≡ y → is_some (cond x (Some o) None) ≡ true → is_some (cond y (Some o) None) ≡ false
    go x false e f h = refl
    go false true e f h = absurd (true≢false (sym h))
    go true true e f h = absurd (d (sym (eqb-true (c_level o) a e) ∙ eqb-true (c_level o) b f))

no_operator : (l m : Level) → (number_of l ≡ number_of m → ⊥) → (n : Option Word) → IsOperator l n → NoOperator m n
unfolding op_at
no_operator l m d None h = refl
no_operator l m d (Some w) h = at_apart (number_of l) (number_of m) (op_of w.sym) d h

-- and no bracket
operator_no_bracket : (l : Level) (n : Option Word) → IsOperator l n → NoBracket n
unfolding op_at op_of
operator_no_bracket l None h = refl
operator_no_bracket l (Some w) h = go (sameb the_type w.sym sym'.OpenBracket) refl
  where
    go : (b : Bool) → sameb the_type w.sym sym'.OpenBracket ≡ b → b ≡ false
    go false e = refl
    go true e = absurd (true≢false (sym h ∙ ap (λ k. is_some (op_at l k)) (same_is w.sym sym'.OpenBracket e)))

-- where a product, a sum, a relation, an equality, a conjunction and an expression may end
abbrev pub EndsProduct : Next Word
EndsProduct n = NoBracket n × NoOperator level.Product n

abbrev pub EndsSum : Next Word
EndsSum n = EndsProduct n × NoOperator level.Sum n

abbrev pub EndsRelation : Next Word
EndsRelation n = EndsSum n × NoOperator level.Relation n

abbrev pub EndsEquality : Next Word
EndsEquality n = EndsRelation n × NoOperator level.Equality n

abbrev pub EndsConjunction : Next Word
EndsConjunction n = EndsEquality n × NoOperator level.And n

abbrev pub EndsExpression : Next Word
EndsExpression n = EndsConjunction n × NoOperator level.Or n

module _ {n : reading.Nest} {N : grammar.Nest} (nest : AreReaders n N) where
  name_or_cell_reader : IsReader (reading.name_or_cell n.index)
      (part.and_then grammar.named (λ at. part.either (part.and_then N.index (λ i. part.done (node.Cell at i))) (part.done (node.Name at)))) (IsKind sym'.Ident) NoBracket
  unfolding reading.name_or_cell reading.behind_name
  name_or_cell_reader = then_reader named_reader
      (λ at. choose_reader (then_reader nest.index (λ i. done_reader (node.Cell at i) NoBracket) (λ n h. tt)) (done_reader (node.Name at) NoBracket) (λ n h. h) (λ n h. h))
      (λ n h. tt)

  primary_reader : IsReader (reading.primary n) (grammar.primary N) BeginsOperand NoBracket
  unfolding reading.primary reading.literal
  primary_reader =
      choose_reader (then_reader (word_reader sym'.Lit) (λ word. done_reader _ NoBracket) (λ n h. tt))
      (same_reader (factored grammar.named (λ at. part.done (node.Name at)) (λ at. part.and_then N.index (λ i. part.done (node.Cell at i))) N.parens)
      (choose_reader name_or_cell_reader (weaken (λ n h. h) (λ n h. tt) nest.parens) (λ n h. h) (apart sym'.Open sym'.Ident refl)))
      (λ n h. h) (λ n h. elim h [ inl b ↦ apart sym'.Ident sym'.Lit refl n b | inr b ↦ apart sym'.Open sym'.Lit refl n b ])

  unary_reader : IsReader (reading.signed_operand n) (grammar.unary N) BeginsExpression NoBracket
  unfolding reading.unary
  unary_reader = then_reader
      (repeated_reader {stop = BeginsOperand} sign_reader (counted_shorter sign_of) (λ n h. tt) (λ n h. tt) (λ n h. h) operand_no_sign)
      (λ signs. then_reader primary_reader (λ x. done_reader (grammar.signed signs x) NoBracket) (λ n h. h)) (λ n h. h)

  product_reader : IsReader (reading.product n) (grammar.product N) BeginsExpression EndsProduct
  product_reader = chain_reader level.Product unary_reader (operator_no_bracket level.Product)

  sum_reader : IsReader (reading.sum n) (grammar.sum N) BeginsExpression EndsSum
  sum_reader = chain_reader level.Sum product_reader (λ n h. (operator_no_bracket level.Sum n h, no_operator level.Sum level.Product (λ e. omega (arith, e)) n h))

  relation_reader : IsReader (reading.relation n) (grammar.relation N) BeginsExpression EndsRelation
  relation_reader = chain_reader level.Relation sum_reader
      (λ n h. ((operator_no_bracket level.Relation n h, no_operator level.Relation level.Product (λ e. omega (arith, e)) n h), no_operator level.Relation level.Sum (λ e. omega (arith, e)) n h))

  equality_reader : IsReader (reading.equality n) (grammar.equality N) BeginsExpression EndsEquality
  equality_reader = chain_reader level.Equality relation_reader
      (λ n h. (
        ((operator_no_bracket level.Equality n h, no_operator level.Equality level.Product (λ e. omega (arith, e)) n h), no_operator level.Equality level.Sum (λ e. omega (arith, e)) n h),
        no_operator level.Equality level.Relation (λ e. omega (arith, e)) n h,
      ))

  conjunction_reader : IsReader (reading.conjunction n) (grammar.conjunction N) BeginsExpression EndsConjunction
  conjunction_reader = chain_reader level.And equality_reader
      (λ n h. (
        (
          ((operator_no_bracket level.And n h, no_operator level.And level.Product (λ e. omega (arith, e)) n h), no_operator level.And level.Sum (λ e. omega (arith, e)) n h),
          no_operator level.And level.Relation (λ e. omega (arith, e)) n h,
        ),
        no_operator level.And level.Equality (λ e. omega (arith, e)) n h,
      ))

  pub expression_reader : IsReader (reading.expression n) (grammar.expression N) BeginsExpression EndsExpression
  expression_reader = chain_reader level.Or conjunction_reader
      (λ n h. (
        (
          (
            ((operator_no_bracket level.Or n h, no_operator level.Or level.Product (λ e. omega (arith, e)) n h), no_operator level.Or level.Sum (λ e. omega (arith, e)) n h),
            no_operator level.Or level.Relation (λ e. omega (arith, e)) n h,
          ),
          no_operator level.Or level.Equality (λ e. omega (arith, e)) n h,
        ),
        no_operator level.Or level.And (λ e. omega (arith, e)) n h,
      ))

-- a kind of words that are no operators and no bracket that opens
pub record EndsAt (k : Sym) : Type 0 where
  pub none : op_of k ≡ None
  pub no_bracket : sameb the_type k sym'.OpenBracket ≡ false

-- such a word ends an expression
pub ends_at : (k : Sym) → EndsAt k → (n : Option Word) → IsKind k n → EndsExpression n
unfolding op_at
ends_at k d n h = ((((((apart k sym'.OpenBracket d.no_bracket n h, go level.Product n h), go level.Sum n h), go level.Relation n h), go level.Equality n h), go level.And n h), go level.Or n h)
  where
    go : (l : Level) (n : Option Word) → IsKind k n → NoOperator l n
    go l None h = refl
    go l (Some w) h = ap (λ o. is_some (at_level (number_of l) o)) (ap op_of (same_is w.sym k h) ∙ d.none)

pub ends_at_end : EndsExpression None
ends_at_end = ((((((refl, refl), refl), refl), refl), refl), refl)

pub close_ends : EndsAt sym'.Close
unfolding op_of
close_ends = record { none = refl; no_bracket = refl }

pub bracket_ends : EndsAt sym'.CloseBracket
unfolding op_of
bracket_ends = record { none = refl; no_bracket = refl }

pub comma_ends : EndsAt sym'.Comma
unfolding op_of
comma_ends = record { none = refl; no_bracket = refl }

pub semicolon_ends : EndsAt sym'.Semicolon
unfolding op_of
semicolon_ends = record { none = refl; no_bracket = refl }

pub open_ends : EndsAt sym'.Open
unfolding op_of
open_ends = record { none = refl; no_bracket = refl }

module _ {n : reading.Nest} {N : grammar.Nest} (nest : AreReaders n N) where
  parens_reader : IsReader (reading.closed_parens (reading.expression n))
      (part.and_then (grammar.word sym'.Open) (λ open'. part.and_then (grammar.expression N) (λ a. grammar.behind sym'.Close (part.done (node.Parens open'.line a))))) (IsKind sym'.Open) always
  unfolding reading.closed_parens
  parens_reader = then_reader (word_reader sym'.Open)
      (λ open'. then_reader (expression_reader nest) (λ a. after_reader sym'.Close (done_reader (node.Parens open'.line a) always)) (ends_at sym'.Close close_ends)) (λ n h. tt)

  index_reader : IsReader (reading.closed_index (reading.expression n))
      (part.and_then (part.counted (of_kind sym'.OpenBracket)) (λ open'. part.and_then (grammar.expression N) (λ i. grammar.behind sym'.CloseBracket (part.done i)))) (IsKind sym'.OpenBracket) always
  unfolding reading.closed_index
  index_reader = then_reader (weaken (has_kind sym'.OpenBracket) (λ n h. h) (counted_reader (of_kind sym'.OpenBracket)))
      (λ open'. then_reader (expression_reader nest) (λ i. after_reader sym'.CloseBracket (done_reader i always)) (ends_at sym'.CloseBracket bracket_ends)) (λ n h. tt)

-- parentheses and brackets, of which at most so many are open at once
pub nest_readers : (d : ℕ) → AreReaders (reading.nest d) (grammar.nest d)
unfolding reading.nest grammar.nest
nest_readers zero = record {
  parens = nowhere_reader (is_kind sym'.Open) (IsKind sym'.Open) always;
  index = nowhere_reader (is_kind sym'.OpenBracket) (IsKind sym'.OpenBracket) always;
}
nest_readers (suc d) = record { parens = parens_reader (nest_readers d); index = index_reader (nest_readers d) }
