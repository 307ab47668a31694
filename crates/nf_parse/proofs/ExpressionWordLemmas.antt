-- The words of the productions of expressions, case by case.
use Rattle.std.proofs.Common.{◌≡◌, inl, inr, ◌⊎◌, ℕ, pos, true, false, List, sym, subst, Option, Some}
use Rattle.std.specs.Prelude.{option_to_list}
use Rattle.std.specs.Str.Parse.{digits_value}
use Rattle.nf_core.specs.declared.operators.BinOp.{BinOp}
use Rattle.nf_core.specs.declared.trees.Expr.{Expr}
use Rattle.nf_core.specs.declared.trees.Expr.TheVariants as node
use Rattle.nf_lex.specs.Faults.{body_of}
use Rattle.nf_grammar.specs.Parts.{IsThen, IsCounted, IsRepeated, done}
use Rattle.nf_grammar.specs.Parts as part
use Rattle.nf_parse.specs.declared.level.Level.{Level}
use Rattle.nf_parse.specs.declared.symbol.Sym.{Sym}
use Rattle.nf_parse.specs.declared.symbol.Sym.TheVariants as kind
use Rattle.nf_parse.specs.State.{Word, State}
use Rattle.nf_parse.specs.Grammar as grammar
use Rattle.nf_parse.specs.Grammar.{Production, sign_of, joined, signed, with_operand, member}
use Rattle.nf_parse.proofs.Public.WordLemmas.{Token, Operator, Counted}

-- a part, and then nothing, which gives something of what the part gives
pub then_done : {A B : Type 0} (p : Production A) (f : A → B) (s t : State) (x : B)
    → IsThen p (λ a. done (f a)) s x t → (a : A) × p.word s a t × (x ≡ f a)
then_done p f s t x w = (w.given, subst (λ u. p.word s w.given u) (sym w.rest.stays) w.first, w.rest.gives)

module _ (l : Level) (P : Production Expr) where
  -- operands with operators between them
  pub data IsChain (s : State) : Expr → State → Type 0 where
    one : {x : Expr} {t : State} → P.word s x t → IsChain s x t
    more : {left right : Expr} {o : BinOp} {t u v : State} → IsChain s left t → Operator l t o u
        → P.word u right v → IsChain s (node.Bin o left right) v

  operand_of : (s t : State) (x : BinOp × Expr) → (with_operand l P).word s x t
      → (o : BinOp) × (right : Expr) × (u : State) × Operator l s o u × P.word u right t × (x ≡ (o, right))
  operand_of s t x w = let r = then_done P (λ right. (w.given, right)) w.middle t x w.rest in (w.given, r.0, w.middle, w.first, r.1, r.2)

  chain_from : (s m u : State) (left : Expr) (rest : List (BinOp × Expr)) → IsChain s left m
      → IsRepeated (with_operand l P) m rest u → IsChain s (joined left rest) u
  unfolding joined
  chain_from s m _ left _ c part.none = c
  chain_from s m u left _ c (part.more {t} {x} {xs} w later) =
      let r = operand_of m t x w in
      chain_from s t u (node.Bin x.0 left x.1) xs (subst (λ (y : BinOp × Expr). IsChain s (node.Bin y.0 left y.1) t) (sym r.5) (more c r.3 r.4)) later

  pub chain_cases : (s t : State) (x : Expr) → (grammar.chain l P).word s x t → IsChain s x t
  chain_cases s t x w =
      let r = then_done (part.repeated (with_operand l P)) (λ rest. joined w.given rest) w.middle t x w.rest in
      subst (λ y. IsChain s y t) (sym r.2) (chain_from s w.middle t w.given r.0 (one w.first) r.1)

  -- an operand, or two with an operator between them
  pub data IsSingle (s : State) : Expr → State → Type 0 where
    alone : {x : Expr} {t : State} → P.word s x t → IsSingle s x t
    pair : {left right : Expr} {o : BinOp} {t u v : State} → P.word s left t → Operator l t o u
        → P.word u right v → IsSingle s (node.Bin o left right) v

  single_from : (s m t : State) (left : Expr) (rest : Option (BinOp × Expr)) → P.word s left m
      → (part.optional (with_operand l P)).word m rest t
      → IsSingle s (joined left (option_to_list rest)) t
  unfolding joined
  single_from s m t left rest p (inl w) =
      let r = then_done (with_operand l P) (λ (y : BinOp × Expr). Some y) m t rest w in
      let q = operand_of m t r.0 r.1 in
      subst (λ y. IsSingle s (joined left (option_to_list y)) t) (sym r.2) (subst (λ (y : BinOp × Expr). IsSingle s (node.Bin y.0 left y.1) t) (sym q.5) (pair p q.3 q.4))
  single_from s m t left rest p (inr d) = subst (λ y. IsSingle s (joined left (option_to_list y)) t) (sym d.gives) (subst (λ u. IsSingle s left u) (sym d.stays) (alone p))

  pub single_cases : (s t : State) (x : Expr) → (grammar.single l P).word s x t → IsSingle s x t
  single_cases s t x w =
      let r = then_done (part.optional (with_operand l P)) (λ rest. joined w.given (option_to_list rest)) w.middle t x w.rest in
      subst (λ y. IsSingle s y t) (sym r.2) (single_from s w.middle t w.given r.0 w.first r.1)

-- the two signs
sign_cases : (k : Sym) (f : Expr → Expr) → sign_of k ≡ Some f
    → (f ≡ (λ x. node.Neg x)) ⊎ (f ≡ (λ x. node.Not x))
unfolding sign_of
sign_cases kind.Minus f h = let e : (λ x. node.Neg x) ≡ f = cc in inl (sym e)
sign_cases kind.Bang f h = let e : (λ x. node.Not x) ≡ f = cc in inr (sym e)
sign_cases k f h = absurd (cc)

-- signs in front of an operand
module _ (P : Production Expr) where
  pub data IsUnary : State → Expr → State → Type 0 where
    plain : {s t : State} {x : Expr} → P.word s x t → IsUnary s x t
    minus : {s u t : State} {x : Expr} → Counted s u → IsUnary u x t → IsUnary s (node.Neg x) t
    bang : {s u t : State} {x : Expr} → Counted s u → IsUnary u x t → IsUnary s (node.Not x) t

  sign_in : (s u t : State) (f : Expr → Expr) (x : Expr)
      → IsCounted (λ (word : Word). sign_of word.0) s f u → IsUnary u x t → IsUnary s (f x) t
  sign_in s u t f x w later = go (sign_cases w.token.0 f w.gives)
    where
      go : (f ≡ (λ x. node.Neg x)) ⊎ (f ≡ (λ x. node.Not x)) → IsUnary s (f x) t
      go (inl e) = subst (λ (g : Expr → Expr). IsUnary s (g x) t) (sym e) (minus (record { token = w.token; words = w.first; room = w.room }) later)
      go (inr e) = subst (λ (g : Expr → Expr). IsUnary s (g x) t) (sym e) (bang (record { token = w.token; words = w.first; room = w.room }) later)

  unary_from : (s m t : State) (signs : List (Expr → Expr)) (x : Expr)
      → IsRepeated (part.counted (λ (word : Word). sign_of word.0)) s signs m → P.word m x t
      → IsUnary s (signed signs x) t
  unfolding signed
  unary_from s _ t _ x part.none p = plain p
  unary_from s m t _ x (part.more {t = u} {x = f} {xs} w later) p = sign_in s u t f (signed xs x) w (unary_from u m t xs x later p)

  pub unary_cases : (s t : State) (x : Expr) → (grammar.unary P).word s x t → IsUnary s x t
  unary_cases s t x w =
      let r = then_done P (λ y. signed w.given y) w.middle t x w.rest in
      subst (λ y. IsUnary s y t) (sym r.2) (unary_from s w.middle t w.given r.0 w.first r.1)

-- operands without operators
module _ (P : Production Expr) where
  pub data IsPrimary (s : State) : Expr → State → Type 0 where
    number : {bytes : List ℕ} {t : State} → Token kind.Number s bytes t
        → IsPrimary s (node.Int (pos (digits_value 10 bytes))) t
    text : {bytes : List ℕ} {t : State} → Token kind.Text s bytes t
        → IsPrimary s (node.Text (body_of bytes)) t
    yes : {bytes : List ℕ} {t : State} → Token kind.True s bytes t → IsPrimary s (node.Bool true) t
    no : {bytes : List ℕ} {t : State} → Token kind.False s bytes t → IsPrimary s (node.Bool false) t
    key : {t u v : State} {label dot name : List ℕ} → Token kind.Ident s label t
        → Token kind.Dot t dot u → Token kind.Ident u name v → IsPrimary s (node.Key label name) v
    start : {t u v : State} {label dot word : List ℕ} → Token kind.Ident s label t
        → Token kind.Dot t dot u → Token kind.Begin u word v → IsPrimary s (node.Start label) v
    stop : {t u v : State} {label dot word : List ℕ} → Token kind.Ident s label t
        → Token kind.Dot t dot u → Token kind.End u word v → IsPrimary s (node.Stop label) v
    paren : {x : Expr} {t : State} → P.word s x t → IsPrimary s x t

  member_in : (s t u v : State) (label dot : List ℕ) (x : Expr) → Token kind.Ident s label t
      → Token kind.Dot t dot u → (member label).word u x v → IsPrimary s x v
  member_in s t u v label dot x a b (inl w) = let r = then_done (grammar.word kind.Ident) (λ name. node.Key label name) u v x w in subst (λ y. IsPrimary s y v) (sym r.2) (key a b r.1)
  member_in s t u v label dot x a b (inr (inl w)) = let r = then_done (grammar.word kind.Begin) (λ word. node.Start label) u v x w in subst (λ y. IsPrimary s y v) (sym r.2) (start a b r.1)
  member_in s t u v label dot x a b (inr (inr w)) = let r = then_done (grammar.word kind.End) (λ word. node.Stop label) u v x w in subst (λ y. IsPrimary s y v) (sym r.2) (stop a b r.1)

  pub primary_cases : (s t : State) (x : Expr) → (grammar.primary P).word s x t → IsPrimary s x t
  primary_cases s t x (inl w) = let r = then_done (grammar.word kind.Number) (λ bytes. node.Int (pos (digits_value 10 bytes))) s t x w in subst (λ y. IsPrimary s y t) (sym r.2) (number r.1)
  primary_cases s t x (inr (inl w)) = let r = then_done (grammar.word kind.Text) (λ bytes. node.Text (body_of bytes)) s t x w in subst (λ y. IsPrimary s y t) (sym r.2) (text r.1)
  primary_cases s t x (inr (inr (inl w))) = let r = then_done (grammar.word kind.True) (λ bytes. node.Bool true) s t x w in subst (λ y. IsPrimary s y t) (sym r.2) (yes r.1)
  primary_cases s t x (inr (inr (inr (inl w)))) = let r = then_done (grammar.word kind.False) (λ bytes. node.Bool false) s t x w in subst (λ y. IsPrimary s y t) (sym r.2) (no r.1)
  primary_cases s t x (inr (inr (inr (inr (inl w))))) = member_in s w.middle w.rest.middle t w.given w.rest.given x w.first w.rest.first w.rest.rest
  primary_cases s t x (inr (inr (inr (inr (inr w))))) = paren w
