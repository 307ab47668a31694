-- Operands with operators and with signs, as the reader goes over them, and its measure.
use Rattle.std.proofs.Common.{◌≡◌, ◌≤◌, ◌<◌, ◌+◌, ℕ, zero, suc, true, false, List, [], ◌∷◌, length, refl, sym, ap, ◌∙◌, arith, Option, Some, None, is_some, Ok, Err}
use Rattle.std.specs.Prelude.{option_to_list}
use Rattle.nf_core.specs.declared.operators.BinOp.{BinOp}
use Rattle.nf_core.specs.declared.trees.Expr.{Expr}
use Rattle.nf_core.specs.declared.trees.Expr.TheVariants as node
use Rattle.nf_grammar.specs.State.{state, next, next_of}
use Rattle.nf_grammar.specs.declared.fault.Fault.{Fault}
use Rattle.nf_grammar.specs.inner.Parsers as parser
use Rattle.nf_grammar.specs.inner.Parsers.{bind, and_then, done, in_table, tail_of, in_list, repeated_from, repeated}
use Rattle.nf_grammar.proofs.Public.OutcomeLemmas.{ok_is, no_ok, no_err, err_is}
use Rattle.nf_parse.specs.declared.level.Level.{Level}
use Rattle.nf_parse.specs.declared.level.Level.TheVariants as level
use Rattle.nf_parse.specs.declared.symbol.Sym.{Sym}
use Rattle.nf_parse.specs.declared.symbol.Sym.TheVariants as kind
use Rattle.nf_parse.specs.State.{Word, State, kind_of_next}
use Rattle.nf_parse.specs.Grammar.{sign_of, joined, signed}
use Rattle.nf_parse.specs.inner.Parsers.{Outcome, Parser, IsWithin, TookWord}
use Rattle.nf_parse.specs.inner.Reading.{op_of_word, is_operator, sign_of_word, is_sign, with_operand, right_of, chain, single, unary}
use Rattle.nf_parse.proofs.StepLemmas.{counted_read, counted_full, table_at}

-- how far a function of the reader is from the words
abbrev pub operand_rank : Level → ℕ
operand_rank level.Product = 3
operand_rank level.Sum = 5
operand_rank level.Compare = 7
operand_rank level.And = 9
operand_rank level.Or = 11

module _ (l : Level) (p : Parser Expr) where
  -- an operator, and then its right operand
  pub right_read : (o : BinOp) (left x : Expr) (s m t : State)
      → in_table (op_of_word l) (next s) ≡ Some o → s.room ≡ 1 + m.room → m.words ≡ tail_of s.words
      → p m ≡ Ok (x, t) → right_of l p left s ≡ Ok (node.Bin o left x, t)
  unfolding with_operand
  right_read o left x s m t h r w e = rw (counted_read (op_of_word l) o s m h r w, e) refl

  pub right_full : (o : BinOp) (left : Expr) (s : State) → in_table (op_of_word l) (next s) ≡ Some o
      → s.room ≡ 0 → right_of l p left s ≡ parser.too_deep s
  unfolding with_operand
  right_full o left s h r = rw (counted_full (op_of_word l) o s h r) refl

  pub right_stops : (o : BinOp) (left : Expr) (s m : State) (f : Fault)
      → in_table (op_of_word l) (next s) ≡ Some o → s.room ≡ 1 + m.room → m.words ≡ tail_of s.words
      → p m ≡ Err f → right_of l p left s ≡ Err f
  unfolding with_operand
  right_stops o left s m f h r w e = rw (counted_read (op_of_word l) o s m h r w, e) refl

  -- what is left of a chain is what goes on from here
  pub record IsChainAt (start : State) (left : Expr) (now : State) : Type 0 where
    pub turns : ℕ
    pub enough : length now.words ≤ turns
    pub goes_on : bind (repeated_from (is_operator l) (with_operand l p) turns now) (λ rest. done (joined left rest)) ≡ chain l p start
    pub within : IsWithin start now

  pub chain_start : (start : State) (left : Expr) (now : State) → p start ≡ Ok (left, now)
      → IsWithin start now → IsChainAt start left now
  unfolding chain repeated
  chain_start start left now h w = record { turns = length now.words; enough = omega arith; goes_on = rw h refl; within = w }

  pub chain_stops : (start : State) (f : Fault) → p start ≡ Err f → chain l p start ≡ Err f
  unfolding chain
  chain_stops start f h = rw h refl

  -- an item in front of those that are joined
  item_first : (left : Expr) (y : BinOp × Expr) (o : Outcome (List (BinOp × Expr)))
      → bind (in_list y o) (λ rest. done (joined left rest)) ≡ bind o (λ rest. done (joined (node.Bin y.0 left y.1) rest))
  unfolding joined
  item_first left y (Ok read) = refl
  item_first left y (Err f) = refl

  -- what an operator with its operand gave
  given_by : (left x : Expr) (new : State) (o : Outcome (BinOp × Expr))
      → bind o (λ y. done (node.Bin y.0 left y.1)) ≡ Ok (x, new)
      → (y : BinOp × Expr) × (o ≡ Ok (y, new)) × (node.Bin y.0 left y.1 ≡ x)
  given_by left x new (Ok read) e =
      let r = ok_is (node.Bin read.0.0 left read.0.1, read.1) (x, new) (Ok (node.Bin read.0.0 left read.0.1, read.1)) refl e in
      (read.0, ap (λ (r : Expr × State). Ok (read.0, r.1)) r, ap (λ (r : Expr × State). r.0) r)
  given_by left x new (Err f) e = absurd (no_ok f (x, new) e)

  stopped_by : (left : Expr) (f : Fault) (o : Outcome (BinOp × Expr))
      → bind o (λ y. done (node.Bin y.0 left y.1)) ≡ Err f → o ≡ Err f
  stopped_by left f (Ok read) e = absurd (no_err f _ e)
  stopped_by left f (Err g) e = ap Err (err_is g f e)

  turn : (turns : ℕ) (now new : State) (y : BinOp × Expr) → is_operator l (next now) ≡ true
      → with_operand l p now ≡ Ok (y, new)
      → repeated_from (is_operator l) (with_operand l p) (suc turns) now ≡ in_list y (repeated_from (is_operator l) (with_operand l p) turns new)
  unfolding repeated_from
  turn turns now new y h e = rw (h, e) refl

  pub chain_step : (start : State) (left x : Expr) (now new : State) → IsChainAt start left now
      → is_operator l (next now) ≡ true → right_of l p left now ≡ Ok (x, new) → IsWithin now new
      → TookWord now new → IsChainAt start x new
  chain_step start left x now new c h e w f = go c.turns refl (given_by left x new (with_operand l p now) e)
    where
      go : (turns : ℕ) → c.turns ≡ turns
          → (y : BinOp × Expr) × (with_operand l p now ≡ Ok (y, new)) × (node.Bin y.0 left y.1 ≡ x)
          → IsChainAt start x new
      go zero i y = absurd (omega (arith, c.enough, i, f))
      go (suc turns) i y = record {
        turns = turns;
        enough = omega (arith, c.enough, i, f);
        goes_on = ap (λ z. bind (repeated_from (is_operator l) (with_operand l p) turns new) (λ rest. done (joined z rest))) (sym y.2)
            ∙ sym (item_first left y.0 (repeated_from (is_operator l) (with_operand l p) turns new))
            ∙ ap (λ o. bind o (λ rest. done (joined left rest))) (sym (turn turns now new y.0 h y.1))
            ∙ ap (λ n. bind (repeated_from (is_operator l) (with_operand l p) n now) (λ rest. done (joined left rest))) (sym i) ∙ c.goes_on;
        within = record { words = omega (arith, c.within.words, w.words); room = omega (arith, c.within.room, w.room) };
      }

  pub chain_stop : (start : State) (left : Expr) (now : State) (f : Fault)
      → IsChainAt start left now → 0 < length now.words → is_operator l (next now) ≡ true
      → right_of l p left now ≡ Err f → chain l p start ≡ Err f
  unfolding repeated_from
  chain_stop start left now f c some h e = sym c.goes_on ∙ go c.turns c.enough
    where
      go : (turns : ℕ) → length now.words ≤ turns
          → bind (repeated_from (is_operator l) (with_operand l p) turns now) (λ rest. done (joined left rest)) ≡ Err f
      go zero l = absurd (omega (arith, l, some))
      go (suc turns) k = rw (h, stopped_by left f (with_operand l p now) e) refl

  pub chain_end : (start : State) (left : Expr) (now : State) → IsChainAt start left now
      → is_operator l (next now) ≡ false → chain l p start ≡ Ok (left, now)
  unfolding repeated_from joined
  chain_end start left now c h = sym c.goes_on ∙ go c.turns
    where
      go : (turns : ℕ)
          → bind (repeated_from (is_operator l) (with_operand l p) turns now) (λ rest. done (joined left rest)) ≡ Ok (left, now)
      go zero = refl
      go (suc turns) = rw h refl

  -- one operand, or two with an operator between them
  pub single_stops : (s : State) (f : Fault) → p s ≡ Err f → single l p s ≡ Err f
  unfolding single
  single_stops s f h = rw h refl

  pub single_alone : (s m : State) (left : Expr) → p s ≡ Ok (left, m)
      → is_operator l (next m) ≡ false → single l p s ≡ Ok (left, m)
  unfolding single parser.choose joined
  single_alone s m left e h = rw (e, h) refl

  pair : (left : Expr) (o : Outcome (BinOp × Expr))
      → bind (bind o (λ y. done (Some y))) (λ rest. done (joined left (option_to_list rest))) ≡ bind o (λ y. done (node.Bin y.0 left y.1))
  unfolding joined
  pair left (Ok read) = refl
  pair left (Err f) = refl

  pub single_pair : (s m : State) (left : Expr) → p s ≡ Ok (left, m) → is_operator l (next m) ≡ true
      → single l p s ≡ right_of l p left m
  unfolding single parser.choose
  single_pair s m left e h = rw (e, h) (pair left (with_operand l p m))

-- signs
pub minus_sign : sign_of kind.Minus ≡ Some (λ x. node.Neg x)
unfolding sign_of
minus_sign = refl

pub bang_sign : sign_of kind.Bang ≡ Some (λ x. node.Not x)
unfolding sign_of
bang_sign = refl

module _ (p : Parser Expr) where
  first_sign : (f : Expr → Expr) (o : Outcome (List (Expr → Expr)))
      → bind (in_list f o) (λ signs. and_then p (λ x. done (signed signs x))) ≡ bind (bind o (λ signs. and_then p (λ x. done (signed signs x)))) (λ x. done (f x))
  unfolding signed
  first_sign f (Err g) = refl
  first_sign f (Ok read) = go (p read.1)
    where
      go : (o : Outcome Expr)
          → bind o (λ x. done (f (signed read.0 x))) ≡ bind (bind o (λ x. done (signed read.0 x))) (λ x. done (f x))
      go (Ok read) = refl
      go (Err g) = refl

  pub unary_sign : (f : Expr → Expr) (s m : State) → in_table sign_of_word (next s) ≡ Some f
      → s.room ≡ 1 + m.room → m.words ≡ tail_of s.words
      → unary p s ≡ bind (unary p m) (λ x. done (f x))
  unfolding unary repeated repeated_from
  unary_sign f s m h r w = go s.room s.words h r w
    where
      go : (n : ℕ) (words : List Word) → in_table sign_of_word (next_of words) ≡ Some f
          → n ≡ 1 + m.room → m.words ≡ tail_of words
          → bind (repeated_from is_sign (parser.counted sign_of_word) (length words) (state n words)) (λ signs. and_then p (λ x. done (signed signs x))) ≡ bind (unary p m) (λ x. done (f x))
      go n [] h r w = absurd (cc)
      go n (v ∷ ws) h r w =
          let is : m.words ≡ ws = w in
          let c = counted_read sign_of_word f (state n (v ∷ ws)) m h r w in
          let t : is_sign (Some v) ≡ true = ap is_some h in
          rw (t, c, ← is) (first_sign f (repeated_from is_sign (parser.counted sign_of_word) (length m.words) m))

  pub unary_full : (f : Expr → Expr) (s : State) → in_table sign_of_word (next s) ≡ Some f
      → s.room ≡ 0 → unary p s ≡ parser.too_deep s
  unfolding unary repeated repeated_from
  unary_full f s h r = go s.room s.words h r
    where
      go : (n : ℕ) (words : List Word) → in_table sign_of_word (next_of words) ≡ Some f → n ≡ 0
          → bind (repeated_from is_sign (parser.counted sign_of_word) (length words) (state n words)) (λ signs. and_then p (λ x. done (signed signs x))) ≡ parser.too_deep (state n words)
      go n [] h r = absurd (cc)
      go n (v ∷ ws) h r = let t : is_sign (Some v) ≡ true = ap is_some h in rw (t, counted_full sign_of_word f (state n (v ∷ ws)) h r) refl

  unary_other : (s : State) → is_sign (next s) ≡ false → unary p s ≡ p s
  unfolding unary repeated repeated_from signed
  unary_other s h = go (length s.words) (p s) refl
    where
      go : (turns : ℕ) (o : Outcome Expr) → p s ≡ o
          → bind (repeated_from is_sign (parser.counted sign_of_word) turns s) (λ signs. and_then p (λ x. done (signed signs x))) ≡ o
      go zero (Ok read) e = rw e refl
      go zero (Err f) e = rw e refl
      go (suc turns) (Ok read) e = rw (h, e) refl
      go (suc turns) (Err f) e = rw (h, e) refl

  -- by what the next word is
  sign_at : (k : Sym) (f : Expr → Expr) (s : State) → sign_of k ≡ Some f
      → kind_of_next (next s) ≡ Some k → in_table sign_of_word (next s) ≡ Some f
  sign_at k f s e h = table_at sign_of (next s) ∙ ap (in_table sign_of) h ∙ e

  module _ (k : Sym) (f : Expr → Expr) (e : sign_of k ≡ Some f) (s : State) (h : kind_of_next (next s) ≡ Some k) where
    pub sign_read : (m t : State) (x : Expr) → s.room ≡ 1 + m.room → m.words ≡ tail_of s.words
        → unary p m ≡ Ok (x, t) → unary p s ≡ Ok (f x, t)
    sign_read m t x r w g = unary_sign f s m (sign_at k f s e h) r w ∙ ap (λ o. bind o (λ x. done (f x))) g

    pub sign_stops : (m : State) (g : Fault) → s.room ≡ 1 + m.room → m.words ≡ tail_of s.words
        → unary p m ≡ Err g → unary p s ≡ Err g
    sign_stops m g r w i = unary_sign f s m (sign_at k f s e h) r w ∙ ap (λ o. bind o (λ x. done (f x))) i

    pub sign_full : s.room ≡ 0 → unary p s ≡ parser.too_deep s
    sign_full r = unary_full f s (sign_at k f s e h) r

  no_sign : (n : Option Sym) → (n ≡ Some kind.Minus → ⊥) → (n ≡ Some kind.Bang → ⊥)
      → is_some (in_table sign_of n) ≡ false
  unfolding sign_of
  no_sign None a b = refl
  no_sign (Some kind.Minus) a b = absurd (a refl)
  no_sign (Some kind.Bang) a b = absurd (b refl)
  no_sign n a b = refl

  pub other_read : (s : State) → (kind_of_next (next s) ≡ Some kind.Minus → ⊥)
      → (kind_of_next (next s) ≡ Some kind.Bang → ⊥) → unary p s ≡ p s
  other_read s a b = unary_other s (ap is_some (table_at sign_of (next s)) ∙ no_sign (kind_of_next (next s)) a b)
