-- What readings of expressions give can be written, where the words fit.
use Rattle.std.proofs.Common.{◌≡◌, ◌≤ℤ◌, ℕ, zero, suc, pos, Bool, true, false, List, sym, subst, arith, Ok, IsTrue}
use Rattle.std.specs.Str.Parse.{digits_value}
use Rattle.std.specs.List.{All}
use Rattle.std.proofs.lemmas.List.Elements.{All-head, All-tail}
use Rattle.std.proofs.Math.Dec.{le→leb}
use Rattle.nf_core.specs.Texts.{int_greatest}
use Rattle.nf_core.specs.Identifiers.{is_identifier}
use Rattle.nf_core.specs.Trees as trees
use Rattle.nf_core.specs.Trees.{Tree, tree, IsWrittenText, IsWrittenTree}
use Rattle.nf_core.specs.declared.operators.BinOp.{BinOp}
use Rattle.nf_core.specs.declared.trees.Expr.{Expr}
use Rattle.nf_core.specs.declared.trees.Expr.TheVariants as node
use Rattle.nf_lex.specs.Faults.{body_of}
use Rattle.nf_parse.specs.declared.level.Level.TheVariants as levels
use Rattle.nf_parse.specs.declared.symbol.Sym.{Sym}
use Rattle.nf_parse.specs.declared.symbol.Sym.TheVariants as kind
use Rattle.nf_parse.specs.State.{Word, State}
use Rattle.nf_parse.specs.Grammar as grammar
use Rattle.nf_parse.specs.Grammar.{Production}
use Rattle.nf_parse.specs.inner.Reading.{expression, paren}
use Rattle.nf_parse.specs.declared.level.Level.{Level}
use Rattle.nf_parse.proofs.ExpressionReaderLemmas.{expression_reader, paren_reader}
use Rattle.nf_parse.proofs.Public.WordLemmas.{Token, Operator, Counted}
use Rattle.nf_parse.proofs.ExpressionWordLemmas as words
use Rattle.nf_parse.proofs.ExpressionWordLemmas.{IsChain, one, more, chain_cases, IsSingle, alone, pair, single_cases, IsUnary, unary_cases, IsPrimary, primary_cases}
use Rattle.nf_parse.proofs.ReadPartLemmas.{kind_word}
use Rattle.nf_parse.proofs.LimitLemmas.{IsByParts}

-- words of expressions that can be written
pub record IsWord (fits : Word → Type 0) : Type 0 where
  pub name : (bytes : List ℕ) → fits (kind.Ident, bytes) → IsTrue (is_identifier bytes)
  pub text : (bytes : List ℕ) → fits (kind.Text, bytes) → IsWrittenText (body_of bytes)
  pub number : (bytes : List ℕ) → fits (kind.Number, bytes)
      → pos (digits_value 10 bytes) ≤ℤ int_greatest

module _ (parts : IsByParts) (fits : Word → Type 0) (w : IsWord fits) where
  -- a production gives what can be written
  record IsWriting (R : Production Expr) : Type 0 where
    written : (s t : State) (x : Expr) → R.word s x t → All fits s.words
        → IsWrittenTree (tree x) × All fits t.words

  word : (k : Sym) (s t : State) (bytes : List ℕ) → Token k s bytes t → All fits s.words
      → fits (k, bytes) × All fits t.words
  word k s t bytes r h = let a = subst (All fits) r.first h in (subst fits (kind_word k r.token bytes r.gives) (All-head fits r.token t.words a), All-tail fits r.token t.words a)

  operator_rest : (l : Level) (s t : State) (o : BinOp) → Operator l s o t → All fits s.words
      → All fits t.words
  operator_rest l s t o r h = All-tail fits r.token t.words (subst (All fits) r.first h)

  sign_rest : (s t : State) → Counted s t → All fits s.words → All fits t.words
  sign_rest s t r h = All-tail fits r.token t.words (subst (All fits) r.words h)

  binary_written : (o : BinOp) (x y : Expr) → IsWrittenTree (tree x) → IsWrittenTree (tree y)
      → IsWrittenTree (tree (node.Bin o x y))
  unfolding IsWrittenTree
  binary_written o x y a b = let e : trees.Bin o (tree x) (tree y) ≡ tree (node.Bin o x y) = sym (parts.binary o x y) in subst IsWrittenTree e (a, b)

  module _ (l : Level) (R : Production Expr) (g : IsWriting R) where
    chain_writing : (s t : State) (x : Expr) → IsChain l R s x t → All fits s.words
        → IsWrittenTree (tree x) × All fits t.words
    chain_writing s t x (one r) h = g.written s t x r h
    chain_writing s v x (more {left} {right} {o} {t} {u} c q d) h =
        let a = chain_writing s t left c h in
        let b = g.written u v right d (operator_rest l t u o q a.1) in
        (binary_written o left right a.0 b.0, b.1)

    chain_written : IsWriting (grammar.chain l R)
    chain_written = record { written = λ s t x w. chain_writing s t x (chain_cases l R s t x w) }

    single_writing : (s t : State) (x : Expr) → IsSingle l R s x t → All fits s.words
        → IsWrittenTree (tree x) × All fits t.words
    single_writing s t x (alone r) h = g.written s t x r h
    single_writing s v x (pair {left} {right} {o} {t} {u} c q d) h =
        let a = g.written s t left c h in
        let b = g.written u v right d (operator_rest l t u o q a.1) in
        (binary_written o left right a.0 b.0, b.1)

    single_written : IsWriting (grammar.single l R)
    single_written = record { written = λ s t x w. single_writing s t x (single_cases l R s t x w) }

  minus_written : (x : Expr) → IsWrittenTree (tree x) → IsWrittenTree (tree (node.Neg x))
  unfolding IsWrittenTree
  minus_written x a = let e : trees.Neg (tree x) ≡ tree (node.Neg x) = sym (parts.minus x) in subst IsWrittenTree e a

  not_written : (x : Expr) → IsWrittenTree (tree x) → IsWrittenTree (tree (node.Not x))
  unfolding IsWrittenTree
  not_written x a = let e : trees.Not (tree x) ≡ tree (node.Not x) = sym (parts.inverted x) in subst IsWrittenTree e a

  unary_writing : (R : Production Expr) → IsWriting R → (s t : State) (x : Expr) → IsUnary R s x t
      → All fits s.words → IsWrittenTree (tree x) × All fits t.words
  unary_writing R g s t x (words.plain r) h = g.written s t x r h
  unary_writing R g s t x (words.minus {u} {x = y} q r) h = let a = unary_writing R g u t y r (sign_rest s u q h) in (minus_written y a.0, a.1)
  unary_writing R g s t x (words.bang {u} {x = y} q r) h = let a = unary_writing R g u t y r (sign_rest s u q h) in (not_written y a.0, a.1)

  truth_written : (b : Bool) → IsWrittenTree (tree (node.Bool b))
  unfolding IsWrittenTree
  truth_written b = let e : trees.Bool b ≡ tree (node.Bool b) = sym (parts.truth b) in subst IsWrittenTree e tt

  number_written : (n : ℕ) → pos n ≤ℤ int_greatest → IsWrittenTree (tree (node.Int (pos n)))
  unfolding IsWrittenTree
  number_written n h = let e : trees.Int (pos n) ≡ tree (node.Int (pos n)) = sym (parts.number (pos n)) in subst IsWrittenTree e (not_negative n, h)
    where
      not_negative : (n : ℕ) → pos 0 ≤ℤ pos n
      not_negative n = omega (arith, le→leb)

  text_written : (text : List ℕ) → IsWrittenText text → IsWrittenTree (tree (node.Text text))
  unfolding IsWrittenTree
  text_written text h = let e : trees.Text text ≡ tree (node.Text text) = sym (parts.text text) in subst IsWrittenTree e h

  start_written : (label : List ℕ) → IsTrue (is_identifier label)
      → IsWrittenTree (tree (node.Start label))
  unfolding IsWrittenTree
  start_written label h = let e : trees.Start label ≡ tree (node.Start label) = sym (parts.start label) in subst IsWrittenTree e h

  stop_written : (label : List ℕ) → IsTrue (is_identifier label)
      → IsWrittenTree (tree (node.Stop label))
  unfolding IsWrittenTree
  stop_written label h = let e : trees.Stop label ≡ tree (node.Stop label) = sym (parts.stop label) in subst IsWrittenTree e h

  key_written : (label key : List ℕ) → IsTrue (is_identifier label) → IsTrue (is_identifier key)
      → IsWrittenTree (tree (node.Key label key))
  unfolding IsWrittenTree
  key_written label key h k = let e : trees.Key label key ≡ tree (node.Key label key) = sym (parts.key label key) in subst IsWrittenTree e (h, k)

  primary_writing : (P : Production Expr) → IsWriting P → (s t : State) (x : Expr)
      → IsPrimary P s x t → All fits s.words → IsWrittenTree (tree x) × All fits t.words
  primary_writing P g s t x (words.number {bytes} r) h = let a = word kind.Number s t bytes r h in (number_written (digits_value 10 bytes) (w.number bytes a.0), a.1)
  primary_writing P g s t x (words.text {bytes} r) h = let a = word kind.Text s t bytes r h in (text_written (body_of bytes) (w.text bytes a.0), a.1)
  primary_writing P g s t x (words.yes {bytes} r) h = (truth_written true, (word kind.True s t bytes r h).1)
  primary_writing P g s t x (words.no {bytes} r) h = (truth_written false, (word kind.False s t bytes r h).1)
  primary_writing P g s v x (words.key {t} {u} {label} {dot} {name} a b c) h =
      let i = word kind.Ident s t label a h in
      let j = word kind.Ident u v name c (word kind.Dot t u dot b i.1).1 in
      (key_written label name (w.name label i.0) (w.name name j.0), j.1)
  primary_writing P g s v x (words.start {t} {u} {label} {dot} {word = bytes} a b c) h =
      let i = word kind.Ident s t label a h in (start_written label (w.name label i.0), (word kind.Begin u v bytes c (word kind.Dot t u dot b i.1).1).1)
  primary_writing P g s v x (words.stop {t} {u} {label} {dot} {word = bytes} a b c) h =
      let i = word kind.Ident s t label a h in (stop_written label (w.name label i.0), (word kind.End u v bytes c (word kind.Dot t u dot b i.1).1).1)
  primary_writing P g s t x (words.paren r) h = g.written s t x r h

  tower_written : (P : Production Expr) → IsWriting P → IsWriting (grammar.expression P)
  tower_written P g =
      let p : IsWriting (grammar.primary P) = record { written = λ s t x w. primary_writing P g s t x (primary_cases P s t x w) } in
      let u : IsWriting (grammar.unary (grammar.primary P)) = record { written = λ s t x w. unary_writing (grammar.primary P) p s t x (unary_cases (grammar.primary P) s t x w) } in
      let a = chain_written levels.Product (grammar.unary (grammar.primary P)) u in
      let b = chain_written levels.Sum (grammar.product P) a in
      let c = single_written levels.Compare (grammar.sum P) b in
      let d = chain_written levels.And (grammar.comparison P) c in
      chain_written levels.Or (grammar.conjunction P) d

  inner_writing : (depth : ℕ) → IsWriting (grammar.expression (grammar.paren depth))
      → (s t : State) (x : Expr) → (grammar.paren (suc depth)).word s x t → All fits s.words
      → IsWrittenTree (tree x) × All fits t.words
  unfolding grammar.paren
  inner_writing depth g s t x r h =
      let inside = r.rest in
      let closed = inside.rest in
      let a = word kind.Open s r.middle r.given r.first h in
      let b = g.written r.middle inside.middle inside.given inside.first a.1 in
      let c = word kind.Close inside.middle closed.middle closed.given closed.first b.1 in
      (subst (λ z. IsWrittenTree (tree z)) (sym closed.rest.gives) b.0, subst (λ (u : State). All fits u.words) (sym closed.rest.stays) c.1)

  paren_written : (depth : ℕ) → IsWriting (grammar.paren depth)
  unfolding grammar.paren
  paren_written zero = record { written = λ s t x r. absurd r }
  paren_written (suc depth) = record { written = inner_writing depth (tower_written (grammar.paren depth) (paren_written depth)) }

  -- what is read of such words can be written
  pub expression_written : (depth : ℕ) (s t : State) (x : Expr)
      → expression (paren depth) s ≡ Ok (x, t) → All fits s.words → IsWrittenTree (tree x)
  expression_written depth s t x e h = ((tower_written (grammar.paren depth) (paren_written depth)).written s t x ((expression_reader (paren_reader depth)).sound s t x e) h).0
