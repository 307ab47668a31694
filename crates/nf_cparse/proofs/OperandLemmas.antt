-- Operands with operators and with signs, as the reader goes over them, and its measure.
use Rattle.std.proofs.Common.{◌≡◌, ◌≤◌, ◌<◌, ℕ, zero, suc, true, false, List, [], ◌∷◌, length, refl, sym, ap, ◌∙◌, subst, arith, Option, Some, None, is_some, Ok, Err}
use Rattle.nf_core.specs.declared.operators.BinOp.{BinOp}
use Rattle.nf_cast.specs.declared.placed.PlacedExpr.{PlacedExpr}
use Rattle.nf_cast.specs.declared.placed.PlacedExpr.TheVariants as node
use Rattle.nf_grammar.specs.State.{state, next, next_of}
use Rattle.nf_grammar.specs.declared.fault.Fault.{Fault}
use Rattle.nf_grammar.specs.inner.Parsers as parser
use Rattle.nf_grammar.specs.inner.Parsers.{bind, and_then, done, in_table, in_list, repeated_from, repeated}
use Rattle.nf_grammar.proofs.Public.OutcomeLemmas.{ok_is, no_ok, no_err, err_is}
use Rattle.nf_cparse.specs.declared.level.Level.{Level}
use Rattle.nf_cparse.specs.declared.level.Level.TheVariants as level
use Rattle.nf_cparse.specs.declared.symbol.Sym.{Sym}
use Rattle.nf_cparse.specs.declared.symbol.Sym.TheVariants as kind
use Rattle.nf_cparse.specs.Lexing.{Word}
use Rattle.nf_cparse.specs.Grammar.{sign_of, joined, signed}
use Rattle.nf_cparse.specs.inner.Parsers.{State, Outcome, Parser, kind_of_next, IsWithin, TookWord, CountsPast}
use Rattle.nf_cparse.specs.inner.ExpressionReading.{op_of_word, is_operator, is_sign, with_operand, right_of, chain, unary}
use Rattle.nf_cparse.proofs.StepLemmas.{counted_read, counted_full, kind_not}

-- how far a function of the reader is from the words
abbrev pub operand_rank : Level → ℕ
operand_rank level.Product = 3
operand_rank level.Sum = 5
operand_rank level.Relation = 7
operand_rank level.Equality = 9
operand_rank level.And = 11
operand_rank level.Or = 13

module _ (l : Level) (p : Parser PlacedExpr) where
  -- an operator, and then its right operand
  pub right_read : (o : BinOp) (left x : PlacedExpr) (word : Word) (s m t : State)
      → in_table (op_of_word l) (next s) ≡ Some o → CountsPast word s m
      → p m ≡ Ok (x, t) → right_of l p left s ≡ Ok (node.Bin o left x, t)
  unfolding with_operand
  right_read o left x word s m t h g e = rw (counted_read (op_of_word l) o word s m g h, e) refl

  pub right_full : (o : BinOp) (left : PlacedExpr) (s : State) → in_table (op_of_word l) (next s) ≡ Some o
      → s.room ≡ 0 → right_of l p left s ≡ parser.too_deep s
  unfolding with_operand
  right_full o left s h r = rw (counted_full (op_of_word l) o s h r) refl

  pub right_stops : (o : BinOp) (left : PlacedExpr) (word : Word) (s m : State) (f : Fault)
      → in_table (op_of_word l) (next s) ≡ Some o → CountsPast word s m
      → p m ≡ Err f → right_of l p left s ≡ Err f
  unfolding with_operand
  right_stops o left word s m f h g e = rw (counted_read (op_of_word l) o word s m g h, e) refl

  -- what is left of a chain is what goes on from here
  pub record IsChainAt (start : State) (left : PlacedExpr) (now : State) : Type 0 where
    pub turns : ℕ
    pub enough : length now.words ≤ turns
    pub goes_on : bind (repeated_from (is_operator l) (with_operand l p) turns now) (λ rest. done (joined left rest)) ≡ chain l p start
    pub within : IsWithin start now

  pub chain_start : (start : State) (left : PlacedExpr) (now : State) → p start ≡ Ok (left, now)
      → IsWithin start now → IsChainAt start left now
  unfolding chain repeated
  chain_start start left now h w = record { turns = length now.words; enough = omega arith; goes_on = rw h refl; within = w }

  pub chain_stops : (start : State) (f : Fault) → p start ≡ Err f → chain l p start ≡ Err f
  unfolding chain
  chain_stops start f h = rw h refl

  -- an item in front of those that are joined
  item_first : (left : PlacedExpr) (y : BinOp × PlacedExpr) (o : Outcome (List (BinOp × PlacedExpr)))
      → bind (in_list y o) (λ rest. done (joined left rest)) ≡ bind o (λ rest. done (joined (node.Bin y.0 left y.1) rest))
  unfolding joined
  item_first left y (Ok read) = refl
  item_first left y (Err f) = refl

  -- what an operator with its operand gave
  given_by : (left x : PlacedExpr) (new : State) (o : Outcome (BinOp × PlacedExpr))
      → bind o (λ y. done (node.Bin y.0 left y.1)) ≡ Ok (x, new)
      → (y : BinOp × PlacedExpr) × (o ≡ Ok (y, new)) × (node.Bin y.0 left y.1 ≡ x)
  given_by left x new (Ok read) e =
      let r = ok_is (node.Bin read.0.0 left read.0.1, read.1) (x, new) (Ok (node.Bin read.0.0 left read.0.1, read.1)) refl e in
      (read.0, ap (λ (r : PlacedExpr × State). Ok (read.0, r.1)) r, ap (λ (r : PlacedExpr × State). r.0) r)
  given_by left x new (Err f) e = absurd (no_ok f (x, new) e)

  stopped_by : (left : PlacedExpr) (f : Fault) (o : Outcome (BinOp × PlacedExpr))
      → bind o (λ y. done (node.Bin y.0 left y.1)) ≡ Err f → o ≡ Err f
  stopped_by left f (Ok read) e = absurd (no_err f _ e)
  stopped_by left f (Err g) e = ap Err (err_is g f e)

  turn : (turns : ℕ) (now new : State) (y : BinOp × PlacedExpr) → is_operator l (next now) ≡ true
      → with_operand l p now ≡ Ok (y, new)
      → repeated_from (is_operator l) (with_operand l p) (suc turns) now ≡ in_list y (repeated_from (is_operator l) (with_operand l p) turns new)
  unfolding repeated_from
  turn turns now new y h e = rw (h, e) refl

  pub chain_step : (start : State) (left x : PlacedExpr) (now new : State) → IsChainAt start left now
      → is_operator l (next now) ≡ true → right_of l p left now ≡ Ok (x, new) → IsWithin now new
      → TookWord now new → IsChainAt start x new
  chain_step start left x now new c h e w f = go c.turns refl (given_by left x new (with_operand l p now) e)
    where
      go : (turns : ℕ) → c.turns ≡ turns
          → (y : BinOp × PlacedExpr) × (with_operand l p now ≡ Ok (y, new)) × (node.Bin y.0 left y.1 ≡ x)
          → IsChainAt start x new
      go zero i y = absurd (omega (arith, c.enough, i, f))
      go (suc turns) i y = record {
        turns = turns;
        enough = omega (arith, c.enough, i, f);
        goes_on = ap (λ z. bind (repeated_from (is_operator l) (with_operand l p) turns new) (λ rest. done (joined z rest))) (sym y.2)
            ∙ sym (item_first left y.0 (repeated_from (is_operator l) (with_operand l p) turns new))
            ∙ ap (λ o. bind o (λ rest. done (joined left rest))) (sym (turn turns now new y.0 h y.1))
            ∙ ap (λ n. bind (repeated_from (is_operator l) (with_operand l p) n now) (λ rest. done (joined left rest))) (sym i) ∙ c.goes_on;
        within = record { words = omega (arith, c.within.words, w.words); room = omega (arith, c.within.room, w.room) };
      }

  pub chain_stop : (start : State) (left : PlacedExpr) (now : State) (f : Fault)
      → IsChainAt start left now → 0 < length now.words → is_operator l (next now) ≡ true
      → right_of l p left now ≡ Err f → chain l p start ≡ Err f
  unfolding repeated_from
  chain_stop start left now f c some h e = sym c.goes_on ∙ go c.turns c.enough
    where
      go : (turns : ℕ) → length now.words ≤ turns
          → bind (repeated_from (is_operator l) (with_operand l p) turns now) (λ rest. done (joined left rest)) ≡ Err f
      go zero l = absurd (omega (arith, l, some))
      go (suc turns) k = rw (h, stopped_by left f (with_operand l p now) e) refl

  pub chain_end : (start : State) (left : PlacedExpr) (now : State) → IsChainAt start left now
      → is_operator l (next now) ≡ false → chain l p start ≡ Ok (left, now)
  unfolding repeated_from joined
  chain_end start left now c h = sym c.goes_on ∙ go c.turns
    where
      go : (turns : ℕ)
          → bind (repeated_from (is_operator l) (with_operand l p) turns now) (λ rest. done (joined left rest)) ≡ Ok (left, now)
      go zero = refl
      go (suc turns) = rw h refl

-- signs
minus_table : (word : Word) → word.sym ≡ kind.Minus → sign_of word ≡ Some (λ x. node.Neg word.line x)
unfolding sign_of
minus_table word e = rw e refl

bang_table : (word : Word) → word.sym ≡ kind.Bang → sign_of word ≡ Some (λ x. node.Not word.line x)
unfolding sign_of
bang_table word e = rw e refl

-- the sign of a word that comes next
sign_at : (k : Sym) (f : PlacedExpr → PlacedExpr) (word : Word) (words : List Word) (s : State) → s.words ≡ word ∷ words → sign_of word ≡ Some f
    → in_table sign_of (next s) ≡ Some f
sign_at k f word words s e h = rw e h

module _ (p : Parser PlacedExpr) where
  first_sign : (f : PlacedExpr → PlacedExpr) (o : Outcome (List (PlacedExpr → PlacedExpr)))
      → bind (in_list f o) (λ signs. and_then p (λ x. done (signed signs x))) ≡ bind (bind o (λ signs. and_then p (λ x. done (signed signs x)))) (λ x. done (f x))
  unfolding signed
  first_sign f (Err g) = refl
  first_sign f (Ok read) = go (p read.1)
    where
      go : (o : Outcome PlacedExpr)
          → bind o (λ x. done (f (signed read.0 x))) ≡ bind (bind o (λ x. done (signed read.0 x))) (λ x. done (f x))
      go (Ok read) = refl
      go (Err g) = refl

  pub unary_sign : (f : PlacedExpr → PlacedExpr) (word : Word) (s m : State) → sign_of word ≡ Some f → CountsPast word s m
      → unary p s ≡ bind (unary p m) (λ x. done (f x))
  unfolding unary repeated repeated_from
  unary_sign f word s m e g =
      let h = sign_at word.sym f word m.words s g.first e in
      let c = counted_read sign_of f word s m g h in
      let t : is_sign (next s) ≡ true = ap is_some h in
      let n : length s.words ≡ suc (length m.words) = ap length g.first in
      rw (n, t, c) (first_sign f (repeated_from is_sign (parser.counted sign_of) (length m.words) m))

  pub unary_full : (f : PlacedExpr → PlacedExpr) (s : State) → in_table sign_of (next s) ≡ Some f
      → s.room ≡ 0 → unary p s ≡ parser.too_deep s
  unfolding unary repeated repeated_from
  unary_full f s h r = go s.room s.words h r
    where
      go : (n : ℕ) (words : List Word) → in_table sign_of (next_of words) ≡ Some f → n ≡ 0
          → bind (repeated_from is_sign (parser.counted sign_of) (length words) (state n words)) (λ signs. and_then p (λ x. done (signed signs x))) ≡ parser.too_deep (state n words)
      go n [] h r = absurd (cc)
      go n (v ∷ ws) h r = let t : is_sign (Some v) ≡ true = ap is_some h in rw (t, counted_full sign_of f (state n (v ∷ ws)) h r) refl

  pub unary_other : (s : State) → is_sign (next s) ≡ false → unary p s ≡ p s
  unfolding unary repeated repeated_from signed
  unary_other s h = go (length s.words) (p s) refl
    where
      go : (turns : ℕ) (o : Outcome PlacedExpr) → p s ≡ o
          → bind (repeated_from is_sign (parser.counted sign_of) turns s) (λ signs. and_then p (λ x. done (signed signs x))) ≡ o
      go zero (Ok read) e = rw e refl
      go zero (Err f) e = rw e refl
      go (suc turns) (Ok read) e = rw (h, e) refl
      go (suc turns) (Err f) e = rw (h, e) refl

  -- a sign by what the next word is
  module _ (word : Word) (f : PlacedExpr → PlacedExpr) (e : sign_of word ≡ Some f) (s m : State) (g : CountsPast word s m) where
    pub sign_read : (t : State) (x : PlacedExpr) → unary p m ≡ Ok (x, t) → unary p s ≡ Ok (f x, t)
    sign_read t x h = unary_sign f word s m e g ∙ ap (λ o. bind o (λ x. done (f x))) h

    pub sign_stops : (h : Fault) → unary p m ≡ Err h → unary p s ≡ Err h
    sign_stops h i = unary_sign f word s m e g ∙ ap (λ o. bind o (λ x. done (f x))) i

  -- the next word is a sign
  next_minus : (n : Option Word) → kind_of_next n ≡ Some kind.Minus → (word : Word) × (in_table sign_of n ≡ Some (λ x. node.Neg word.line x))
  next_minus None h = absurd (cc)
  next_minus (Some w) h = let e : w.sym ≡ kind.Minus = cc in (w, minus_table w e)

  next_bang : (n : Option Word) → kind_of_next n ≡ Some kind.Bang → (word : Word) × (in_table sign_of n ≡ Some (λ x. node.Not word.line x))
  next_bang None h = absurd (cc)
  next_bang (Some w) h = let e : w.sym ≡ kind.Bang = cc in (w, bang_table w e)

  pub minus_full : (s : State) → kind_of_next (next s) ≡ Some kind.Minus → s.room ≡ 0 → unary p s ≡ parser.too_deep s
  minus_full s h r = let n = next_minus (next s) h in unary_full (λ x. node.Neg n.0.line x) s n.1 r

  pub bang_full : (s : State) → kind_of_next (next s) ≡ Some kind.Bang → s.room ≡ 0 → unary p s ≡ parser.too_deep s
  bang_full s h r = let n = next_bang (next s) h in unary_full (λ x. node.Not n.0.line x) s n.1 r

  no_sign : (n : Option Word) → (kind_of_next n ≡ Some kind.Minus → ⊥) → (kind_of_next n ≡ Some kind.Bang → ⊥)
      → is_sign n ≡ false
  unfolding sign_of
  no_sign None a b = refl
  no_sign (Some w) a b =
      let m = kind_not (Some w) kind.Minus a in
      let n = kind_not (Some w) kind.Bang b in
      rw (m, n) refl

  pub other_read : (s : State) → (kind_of_next (next s) ≡ Some kind.Minus → ⊥)
      → (kind_of_next (next s) ≡ Some kind.Bang → ⊥) → unary p s ≡ p s
  other_read s a b = unary_other s (no_sign (next s) a b)

-- a word that was gone past has the kind that the next one had
pub past_kind : (k : Sym) (word : Word) (s m : State) → CountsPast word s m → kind_of_next (next s) ≡ Some k → word.sym ≡ k
past_kind k word s m g h = let e : Some word.sym ≡ Some k = subst (λ ws. kind_of_next (next_of ws) ≡ Some k) g.first h in cc

pub minus_sign : (word : Word) (s m : State) → CountsPast word s m → kind_of_next (next s) ≡ Some kind.Minus → sign_of word ≡ Some (λ x. node.Neg word.line x)
minus_sign word s m g h = minus_table word (past_kind kind.Minus word s m g h)

pub bang_sign : (word : Word) (s m : State) → CountsPast word s m → kind_of_next (next s) ≡ Some kind.Bang → sign_of word ≡ Some (λ x. node.Not word.line x)
bang_sign word s m g h = bang_table word (past_kind kind.Bang word s m g h)
