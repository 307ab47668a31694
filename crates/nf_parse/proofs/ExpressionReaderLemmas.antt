-- The readers of expressions go by the productions of expressions.
use Rattle.std.proofs.Common.{◌≡◌, ◌⊎◌, inl, inr, ℕ, zero, suc, Bool, true, false, cond, List, refl, sym, ap, subst, Option, Some, None, is_some, rules, true≢false}
use denote.Enum.Bare.{same_true, sameb}
use Rattle.nf_core.specs.declared.trees.Expr.{Expr}
use Rattle.nf_core.specs.declared.trees.Expr.TheVariants as node
use Rattle.nf_grammar.specs.Parts as part
use Rattle.nf_grammar.specs.inner.Parsers as parser
use Rattle.nf_grammar.specs.inner.Parsers.{place, in_table}
use Rattle.nf_grammar.proofs.Public.ReaderLemmas.{Next, always, IsReader, IsShorter, done_reader, nowhere_reader, then_reader, choose_reader, weaken, forward}
use Rattle.nf_grammar.proofs.Public.TokenReaderLemmas.{Has, token_reader, counted_reader, token_shorter, counted_shorter}
use Rattle.nf_grammar.proofs.Public.RepeatedReaderLemmas.{repeated_reader}
use Rattle.nf_grammar.proofs.Public.TakingReaderLemmas.{then_shorter, IsTaking, then_taking}
use Rattle.nf_parse.specs.contracts.symbol.Sym.{the_type}
use Rattle.nf_parse.specs.contracts.level.Level.{the_type as level_type}
use Rattle.nf_parse.specs.declared.symbol.Sym.{Sym}
use Rattle.nf_parse.specs.declared.symbol.Sym.TheVariants as sym
use Rattle.nf_parse.specs.declared.level.Level.{Level}
use Rattle.nf_parse.specs.declared.level.Level.TheVariants as level
use Rattle.nf_parse.specs.State.{Word, of_kind}
use Rattle.nf_parse.specs.Grammar as grammar
use Rattle.nf_parse.specs.Grammar.{Production, op_at, sign_of}
use Rattle.nf_parse.specs.inner.Parsers.{Parser, is_kind}
use Rattle.nf_parse.specs.inner.Parsers as named
use Rattle.nf_parse.specs.inner.Reading as reading
use Rattle.nf_parse.specs.inner.Reading.{op_of_word, is_operator, sign_of_word, is_sign}

-- the next word is of a kind
abbrev pub IsKind : Sym → Next Word
IsKind k n = is_kind k n ≡ true

pub same_is : (a b : Sym) → sameb the_type a b ≡ true → a ≡ b
same_is a b e = same_true the_type (search rules) a b e

-- a word of one kind is of no other
pub apart : (k j : Sym) → sameb the_type k j ≡ false → (n : Option Word) → IsKind k n
    → is_kind j n ≡ false
apart k j d None h = absurd (cc)
apart k j d (Some w) h = subst (λ z. sameb the_type z j ≡ false) (sym (same_is w.0 k h)) d

has_kind : (k : Sym) (n : Option Word) → Has (of_kind k) n → IsKind k n
has_kind k None h = absurd (cc)
has_kind k (Some w) h = go (sameb the_type w.0 k) refl h.1
  where
    go : (b : Bool) → sameb the_type w.0 k ≡ b → cond b (Some w.1) None ≡ Some h.0 → b ≡ true
    go true e f = refl
    go false e f = absurd (cc)

-- one word of a kind
pub word_reader : (k : Sym) → IsReader (named.token k) (grammar.word k) (IsKind k) always
word_reader k = weaken (has_kind k) (λ n h. h) (token_reader (of_kind k))

-- the next word is an operator of a level
abbrev pub IsOperator : Level → Next Word
IsOperator l n = is_operator l n ≡ true

abbrev pub NoOperator : Level → Next Word
NoOperator l n = is_operator l n ≡ false

has_some : {A : Type 0} (o : Option A) (x : A) → o ≡ Some x → is_some o ≡ true
has_some o x e = ap is_some e

pub word_taking : (k : Sym) → IsTaking (named.token k) (grammar.word k) (IsKind k) always
word_taking k = record { reader = word_reader k; shorter = token_shorter (of_kind k) }

-- an operator with its right operand
module _ (l : Level) {p : Parser Expr} {P : Production Expr} {begin stop : Next Word} (operand : IsReader p P begin stop) where
  pub with_operand_reader : IsReader (reading.with_operand l p) (grammar.with_operand l P) (IsOperator l) stop
  unfolding reading.with_operand
  with_operand_reader = then_reader (weaken (λ n h. has_some (in_table (op_of_word l) n) h.0 h.1) (λ n h. h) (counted_reader (op_of_word l)))
      (λ o. then_reader operand (λ right. done_reader (o, right) stop) (λ n h. h)) (λ n h. tt)

  pub with_operand_shorter : IsShorter (reading.with_operand l p)
  unfolding reading.with_operand
  with_operand_shorter = then_shorter (parser.counted (op_of_word l)) (λ o. parser.and_then p (λ right. parser.done (o, right))) (counted_shorter (op_of_word l))
      (λ o s. forward (then_reader operand (λ right. done_reader (o, right) stop) (λ n h. h)) s)

  module _ (again : (n : Option Word) → IsOperator l n → stop n) where
    -- where operands with operators may end
    abbrev Ends : Next Word
    Ends n = stop n × NoOperator l n

    pub chain_reader : IsReader (reading.chain l p) (grammar.chain l P) begin Ends
    unfolding reading.chain
    chain_reader = then_reader operand
        (λ left. then_reader (repeated_reader with_operand_reader with_operand_shorter again (λ n h. h.0) (λ n h. h) (λ n h. h.1)) (λ rest. done_reader (grammar.joined left rest) Ends) (λ n h. h))
        (λ n h. elim h [ inl b ↦ again n b | inr e ↦ e.0 ])

    pub single_reader : IsReader (reading.single l p) (grammar.single l P) begin Ends
    unfolding reading.single
    single_reader = then_reader operand
        (λ left. then_reader (choose_reader (then_reader with_operand_reader (λ x. done_reader (Some x) Ends) (λ n h. h.0)) (done_reader None Ends) (λ n h. h) (λ n h. h.1))
        (λ rest. done_reader (grammar.joined left _) Ends) (λ n h. h))
        (λ n h. elim h [ inl b ↦ again n b | inr e ↦ e.0 ])

-- a word and then a part
pub after_reader : {A : Type 0} (k : Sym) {p : Parser A} {P : Production A} {begin stop : Next Word}
    → IsReader p P begin stop → IsReader (named.after k p) (grammar.behind k P) (IsKind k) stop
after_reader k r = then_reader (word_reader k) (λ bytes. r) (λ n h. tt)

pub after_taking : {A : Type 0} (k : Sym) {p : Parser A} {P : Production A} {begin stop : Next Word}
    → IsReader p P begin stop → IsTaking (named.after k p) (grammar.behind k P) (IsKind k) stop
after_taking k r = then_taking (word_taking k) (λ bytes. r) (λ n h. tt)

-- a part between two words, with the second of which it may end
pub enclosed_reader : {A : Type 0} (opening closing : Sym) {p : Parser A} {P : Production A} {begin stop : Next Word}
    → IsReader p P begin stop → ((n : Option Word) → IsKind closing n → stop n)
    → IsReader (named.enclosed opening p closing) (grammar.enclosed opening P closing) (IsKind opening) always
enclosed_reader opening closing r ends = after_reader opening (then_reader r (λ x. after_reader closing (done_reader x always)) ends)

-- what is read under a label
pub member_reader : (label : List ℕ)
    → IsReader (reading.member label) (grammar.member label) always always
unfolding reading.member
member_reader label = weaken (λ n h. tt) (λ n h. h)
    (choose_reader (then_reader (word_reader sym.Ident) (λ key. done_reader (node.Key label key) always) (λ n h. tt))
    (choose_reader (after_reader sym.Begin (done_reader (node.Start label) always)) (after_reader sym.End (done_reader (node.Stop label) always)) (λ n h. h) (apart sym.End sym.Begin refl))
    (λ n h. h) (λ n h. elim h [ inl b ↦ apart sym.Begin sym.Ident refl n b | inr b ↦ apart sym.End sym.Ident refl n b ]))

-- a read of a key, of a begin or of an end
pub read_reader : IsReader reading.read grammar.read (IsKind sym.Ident) always
unfolding reading.read
read_reader = then_reader (word_reader sym.Ident) (λ label. after_reader sym.Dot (member_reader label)) (λ n h. tt)

-- the words with which an operand without operators begins
abbrev pub BeginsOperand : Next Word
BeginsOperand n = IsKind sym.Number n ⊎ (IsKind sym.Text n ⊎ (IsKind sym.True n ⊎ (IsKind sym.False n ⊎ (IsKind sym.Ident n ⊎ IsKind sym.Open n))))

pub primary_reader : {p : Parser Expr} {P : Production Expr} → IsReader p P (IsKind sym.Open) always
    → IsReader (reading.primary p) (grammar.primary P) BeginsOperand always
unfolding reading.primary
primary_reader r =
    choose_reader (then_reader (word_reader sym.Number) (λ bytes. done_reader _ always) (λ n h. tt))
    (choose_reader (then_reader (word_reader sym.Text) (λ bytes. done_reader _ always) (λ n h. tt))
    (choose_reader (after_reader sym.True (done_reader _ always))
    (choose_reader (after_reader sym.False (done_reader _ always))
    (choose_reader read_reader r (λ n h. h) (apart sym.Open sym.Ident refl))
    (λ n h. h) (λ n h. elim h [ inl b ↦ apart sym.Ident sym.False refl n b | inr b ↦ apart sym.Open sym.False refl n b ]))
    (λ n h. h) (λ n h. elim h [ inl b ↦ apart sym.False sym.True refl n b | inr b ↦ elim b [ inl c ↦ apart sym.Ident sym.True refl n c | inr c ↦ apart sym.Open sym.True refl n c ] ]))
    (λ n h. h) (λ n h. elim h [ inl b ↦ apart sym.True sym.Text refl n b | inr b ↦ elim b [ inl c ↦ apart sym.False sym.Text refl n c | inr c ↦ elim c [ inl d ↦ apart sym.Ident sym.Text refl n d | inr d ↦ apart sym.Open sym.Text refl n d ] ] ]))
    (λ n h. h) (λ n h. elim h [
      | inl b ↦ apart sym.Text sym.Number refl n b
      | inr b ↦ elim b [
        | inl c ↦ apart sym.True sym.Number refl n c
        | inr c ↦ elim c [
          | inl d ↦ apart sym.False sym.Number refl n d
          | inr d ↦ elim d [ inl f ↦ apart sym.Ident sym.Number refl n f | inr f ↦ apart sym.Open sym.Number refl n f ]
        ]
      ]
    ])

-- the next word is a sign, or none
abbrev pub IsSign : Next Word
IsSign n = is_sign n ≡ true

abbrev pub NoSign : Next Word
NoSign n = is_sign n ≡ false

-- a word of a kind that is no sign
no_sign : (k : Sym) → is_some (sign_of k) ≡ false → (n : Option Word) → IsKind k n → NoSign n
no_sign k d None h = refl
no_sign k d (Some w) h = subst (λ z. is_some (sign_of z) ≡ false) (sym (same_is w.0 k h)) d

operand_no_sign : (n : Option Word) → BeginsOperand n → NoSign n
unfolding sign_of
operand_no_sign n (inl b) = no_sign sym.Number refl n b
operand_no_sign n (inr (inl b)) = no_sign sym.Text refl n b
operand_no_sign n (inr (inr (inl b))) = no_sign sym.True refl n b
operand_no_sign n (inr (inr (inr (inl b)))) = no_sign sym.False refl n b
operand_no_sign n (inr (inr (inr (inr (inl b))))) = no_sign sym.Ident refl n b
operand_no_sign n (inr (inr (inr (inr (inr b))))) = no_sign sym.Open refl n b

sign_reader : IsReader (parser.counted sign_of_word) (part.counted sign_of_word) IsSign always
sign_reader = weaken (λ n h. has_some (in_table sign_of_word n) h.0 h.1) (λ n h. h) (counted_reader sign_of_word)

pub unary_reader : {p : Parser Expr} {P : Production Expr} → IsReader p P BeginsOperand always
    → IsReader (reading.unary p) (grammar.unary P) always always
unfolding reading.unary
unary_reader r = weaken (λ n h. tt) (λ n h. h) (then_reader
    (repeated_reader {stop = NoSign} sign_reader (counted_shorter sign_of_word) (λ n h. tt) (λ n h. tt) (λ n h. h) (λ n h. h))
    (λ signs. then_reader r (λ x. done_reader (grammar.signed signs x) always) (λ n h. tt)) operand_no_sign)

-- an operator of one level is none of another
level_apart : (l m : Level) (k : Sym) → sameb level_type l m ≡ false → is_some (op_at l k) ≡ true
    → is_some (op_at m k) ≡ false
unfolding op_at
level_apart level.Or level.Or k d h = absurd (true≢false d)
level_apart level.And level.And k d h = absurd (true≢false d)
level_apart level.Compare level.Compare k d h = absurd (true≢false d)
level_apart level.Sum level.Sum k d h = absurd (true≢false d)
level_apart level.Product level.Product k d h = absurd (true≢false d)
level_apart level.Or m sym.Or d h = refl
level_apart level.And m sym.And d h = refl
level_apart level.Compare m sym.Equal d h = refl
level_apart level.Compare m sym.NotEqual d h = refl
level_apart level.Compare m sym.Less d h = refl
level_apart level.Compare m sym.LessEqual d h = refl
level_apart level.Compare m sym.Greater d h = refl
level_apart level.Compare m sym.GreaterEqual d h = refl
level_apart level.Sum m sym.Plus d h = refl
level_apart level.Sum m sym.Minus d h = refl
level_apart level.Product m sym.Star d h = refl
level_apart level.Product m sym.Slash d h = refl
level_apart level.Product m sym.Percent d h = refl
level_apart l m k d h = absurd (true≢false (sym h))

no_operator : (l m : Level) → sameb level_type l m ≡ false → (n : Option Word) → IsOperator l n
    → NoOperator m n
no_operator l m d None h = refl
no_operator l m d (Some w) h = level_apart l m w.0 d h

-- where a product, a sum, a comparison, a conjunction and an expression may end
abbrev pub EndsProduct : Next Word
EndsProduct n = always n × NoOperator level.Product n

abbrev pub EndsSum : Next Word
EndsSum n = EndsProduct n × NoOperator level.Sum n

abbrev pub EndsComparison : Next Word
EndsComparison n = EndsSum n × NoOperator level.Compare n

abbrev pub EndsConjunction : Next Word
EndsConjunction n = EndsComparison n × NoOperator level.And n

abbrev pub EndsExpression : Next Word
EndsExpression n = EndsConjunction n × NoOperator level.Or n

module _ {p : Parser Expr} {P : Production Expr} (paren : IsReader p P (IsKind sym.Open) always) where
  pub unary_operand_reader : IsReader (reading.unary (reading.primary p)) (grammar.unary (grammar.primary P)) always always
  unary_operand_reader = unary_reader (primary_reader paren)

  pub product_reader : IsReader (reading.product p) (grammar.product P) always EndsProduct
  product_reader = chain_reader level.Product unary_operand_reader (λ n h. tt)

  pub sum_reader : IsReader (reading.sum p) (grammar.sum P) always EndsSum
  sum_reader = chain_reader level.Sum product_reader (λ n h. (tt, no_operator level.Sum level.Product refl n h))

  pub comparison_reader : IsReader (reading.comparison p) (grammar.comparison P) always EndsComparison
  comparison_reader = single_reader level.Compare sum_reader (λ n h. ((tt, no_operator level.Compare level.Product refl n h), no_operator level.Compare level.Sum refl n h))

  pub conjunction_reader : IsReader (reading.conjunction p) (grammar.conjunction P) always EndsConjunction
  conjunction_reader = chain_reader level.And comparison_reader
      (λ n h. (((tt, no_operator level.And level.Product refl n h), no_operator level.And level.Sum refl n h), no_operator level.And level.Compare refl n h))

  pub expression_reader : IsReader (reading.expression p) (grammar.expression P) always EndsExpression
  expression_reader = chain_reader level.Or conjunction_reader
      (λ n h. ((((tt, no_operator level.Or level.Product refl n h), no_operator level.Or level.Sum refl n h), no_operator level.Or level.Compare refl n h), no_operator level.Or level.And refl n h))

-- a kind of words that are no operators
pub record IsNoOperator (k : Sym) : Type 0 where
  pub none : (l : Level) → is_some (op_at l k) ≡ false

-- such a word ends an expression
pub ends_at : (k : Sym) → IsNoOperator k → (n : Option Word) → IsKind k n → EndsExpression n
ends_at k d n h = (((((tt, go level.Product n h), go level.Sum n h), go level.Compare n h), go level.And n h), go level.Or n h)
  where
    go : (l : Level) (n : Option Word) → IsKind k n → NoOperator l n
    go l None h = refl
    go l (Some w) h = subst (λ z. is_some (op_at l z) ≡ false) (sym (same_is w.0 k h)) (d.none l)

pub ends_at_end : EndsExpression None
ends_at_end = (((((tt, refl), refl), refl), refl), refl)

pub none_at : (k : Sym) → is_some (op_at level.Or k) ≡ false → is_some (op_at level.And k) ≡ false
    → is_some (op_at level.Compare k) ≡ false → is_some (op_at level.Sum k) ≡ false
    → is_some (op_at level.Product k) ≡ false → IsNoOperator k
none_at k a b c d f = record { none = go }
  where
    go : (l : Level) → is_some (op_at l k) ≡ false
    go level.Or = a
    go level.And = b
    go level.Compare = c
    go level.Sum = d
    go level.Product = f

pub close_is_none : IsNoOperator sym.Close
unfolding op_at
close_is_none = none_at sym.Close refl refl refl refl refl

pub comma_is_none : IsNoOperator sym.Comma
unfolding op_at
comma_is_none = none_at sym.Comma refl refl refl refl refl

pub close_brace_is_none : IsNoOperator sym.CloseBrace
unfolding op_at
close_brace_is_none = none_at sym.CloseBrace refl refl refl refl refl

-- parentheses, of which at most so many are open at once
pub paren_reader : (d : ℕ) → IsReader (reading.paren d) (grammar.paren d) (IsKind sym.Open) always
unfolding reading.paren grammar.paren
paren_reader zero = nowhere_reader (is_kind sym.Open) (IsKind sym.Open) always
paren_reader (suc d) = enclosed_reader sym.Open sym.Close (expression_reader (paren_reader d)) (ends_at sym.Close close_is_none)
