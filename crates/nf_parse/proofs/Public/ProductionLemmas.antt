-- Words of the productions of expressions, made of the words of their parts.
use Rattle.std.proofs.Common.{◌≡◌, inl, inr, ℕ, suc, pos, true, false, List, [], ◌∷◌, ◌++◌, refl, sym, ap, ◌∙◌, subst, Some, None}
use Rattle.std.specs.Prelude.{option_to_list}
use Rattle.std.specs.Str.Parse.{digits_value}
use Rattle.nf_core.specs.declared.operators.BinOp.{BinOp}
use Rattle.nf_core.specs.declared.trees.Expr.{Expr}
use Rattle.nf_core.specs.declared.trees.Expr.TheVariants as node
use Rattle.nf_lex.specs.Faults.{body_of}
use Rattle.nf_grammar.specs.Parts as part
use Rattle.nf_grammar.specs.Parts.{IsRepeated}
use Rattle.nf_parse.specs.declared.level.Level.{Level}
use Rattle.nf_parse.specs.declared.level.Level.TheVariants as level
use Rattle.nf_parse.specs.declared.symbol.Sym.TheVariants as kind
use Rattle.nf_parse.specs.State.{Word, State, of_kind}
use Rattle.nf_parse.specs.Grammar as grammar
use Rattle.nf_parse.specs.Grammar.{Production, sign_of, joined, signed, with_operand}
use Rattle.nf_parse.proofs.Public.WordLemmas.{Token, Operator, Counted, done_word, between_word, present, absent, repeated_push}

-- the levels of operators, which other crates can't name otherwise
abbrev pub or_level : Level
or_level = level.Or

abbrev pub and_level : Level
and_level = level.And

abbrev pub compare_level : Level
compare_level = level.Compare

abbrev pub sum_level : Level
sum_level = level.Sum

abbrev pub product_level : Level
product_level = level.Product

module _ (l : Level) (P : Production Expr) where
  pub operand_word : (s u t : State) (o : BinOp) (right : Expr) → Operator l s o u
      → P.word u right t → (with_operand l P).word s (o, right) t
  operand_word s u t o right w r = record { given = o; middle = u; first = w; rest = done_word P (λ right. (o, right)) u t right r }

  -- operands with operators between them
  pub chain_one : (s t : State) (x : Expr) → P.word s x t → (grammar.chain l P).word s x t
  unfolding joined
  chain_one s t x w = record { given = x; middle = t; first = w; rest = done_word (part.repeated (with_operand l P)) (λ rest. joined x rest) t t [] part.none }

  joined_push : (left : Expr) (rest : List (BinOp × Expr)) (o : BinOp) (right : Expr)
      → joined left (rest ++ (o, right) ∷ []) ≡ node.Bin o (joined left rest) right
  unfolding joined
  joined_push left [] o right = refl
  joined_push left (next ∷ rest) o right = joined_push (node.Bin next.0 left next.1) rest o right

  pub chain_more : (s t u v : State) (left right : Expr) (o : BinOp)
      → (grammar.chain l P).word s left t → Operator l t o u → P.word u right v
      → (grammar.chain l P).word s (node.Bin o left right) v
  chain_more s t u v left right o w q r =
      let stays : w.rest.middle ≡ t = sym w.rest.rest.stays in
      let list = subst (λ z. IsRepeated (with_operand l P) w.middle w.rest.given z) stays w.rest.first in
      let all = repeated_push (with_operand l P) w.middle t v w.rest.given (o, right) list (operand_word t u v o right q r) in
      record {
        given = w.given;
        middle = w.middle;
        first = w.first;
        rest = record {
          given = w.rest.given ++ (o, right) ∷ [];
          middle = v;
          first = all;
          rest = record { gives = ap (λ x. node.Bin o x right) w.rest.rest.gives ∙ sym (joined_push w.given w.rest.given o right); stays = refl };
        };
      }

  -- an operand, or two with an operator between them
  pub single_alone : (s t : State) (x : Expr) → P.word s x t → (grammar.single l P).word s x t
  unfolding joined
  single_alone s t x w = record { given = x; middle = t; first = w; rest = done_word (part.optional (with_operand l P)) (λ rest. joined x (option_to_list rest)) t t None (absent (with_operand l P) t) }

  pub single_pair : (s t u v : State) (left right : Expr) (o : BinOp) → P.word s left t
      → Operator l t o u → P.word u right v → (grammar.single l P).word s (node.Bin o left right) v
  unfolding joined
  single_pair s t u v left right o w q r = record {
    given = left;
    middle = t;
    first = w;
    rest = done_word (part.optional (with_operand l P)) (λ rest. joined left (option_to_list rest)) t v (Some (o, right)) (present (with_operand l P) t v (o, right) (operand_word t u v o right q r));
  }

-- signs in front of an operand
module _ (P : Production Expr) where
  pub unary_plain : (s t : State) (x : Expr) → P.word s x t → (grammar.unary P).word s x t
  unfolding signed
  unary_plain s t x w = record { given = []; middle = s; first = part.none; rest = done_word P (λ y. signed [] y) s t x w }

  sign_word : (s u t : State) (f : Expr → Expr) (x : Expr)
      → part.IsCounted (λ (word : Word). sign_of word.0) s f u → (grammar.unary P).word u x t
      → (grammar.unary P).word s (f x) t
  unfolding signed
  sign_word s u t f x c w = record {
    given = f ∷ w.given;
    middle = w.middle;
    first = part.more c w.first;
    rest = record { given = w.rest.given; middle = w.rest.middle; first = w.rest.first; rest = record { gives = ap f w.rest.rest.gives; stays = w.rest.rest.stays } };
  }

  -- a word that is a sign, and counted
  pub unary_minus : (s u t : State) (x : Expr) (c : Counted s u) → c.token.0 ≡ kind.Minus
      → (grammar.unary P).word u x t → (grammar.unary P).word s (node.Neg x) t
  unfolding sign_of
  unary_minus s u t x c k w = sign_word s u t (λ y. node.Neg y) x (record { token = c.token; first = c.words; gives = ap sign_of k; room = c.room }) w

  pub unary_bang : (s u t : State) (x : Expr) (c : Counted s u) → c.token.0 ≡ kind.Bang
      → (grammar.unary P).word u x t → (grammar.unary P).word s (node.Not x) t
  unfolding sign_of
  unary_bang s u t x c k w = sign_word s u t (λ y. node.Not y) x (record { token = c.token; first = c.words; gives = ap sign_of k; room = c.room }) w

-- operands without operators
module _ (P : Production Expr) where
  pub primary_number : (s t : State) (bytes : List ℕ) → Token kind.Number s bytes t
      → (grammar.primary P).word s (node.Int (pos (digits_value 10 bytes))) t
  primary_number s t bytes w = inl (done_word (grammar.word kind.Number) (λ bytes. node.Int (pos (digits_value 10 bytes))) s t bytes w)

  pub primary_text : (s t : State) (bytes : List ℕ) → Token kind.Text s bytes t
      → (grammar.primary P).word s (node.Text (body_of bytes)) t
  primary_text s t bytes w = inr (inl (done_word (grammar.word kind.Text) (λ bytes. node.Text (body_of bytes)) s t bytes w))

  pub primary_true : (s t : State) (bytes : List ℕ) → Token kind.True s bytes t
      → (grammar.primary P).word s (node.Bool true) t
  primary_true s t bytes w = inr (inr (inl (done_word (grammar.word kind.True) (λ bytes. node.Bool true) s t bytes w)))

  pub primary_false : (s t : State) (bytes : List ℕ) → Token kind.False s bytes t
      → (grammar.primary P).word s (node.Bool false) t
  primary_false s t bytes w = inr (inr (inr (inl (done_word (grammar.word kind.False) (λ bytes. node.Bool false) s t bytes w))))

  read_word : (s t u v : State) (label dot : List ℕ) (x : Expr) → Token kind.Ident s label t
      → Token kind.Dot t dot u → (grammar.member label).word u x v → (grammar.primary P).word s x v
  read_word s t u v label dot x a b m = inr (inr (inr (inr (inl (record { given = label; middle = t; first = a; rest = record { given = dot; middle = u; first = b; rest = m } })))))

  pub primary_key : (s t u v : State) (label dot name : List ℕ) → Token kind.Ident s label t
      → Token kind.Dot t dot u → Token kind.Ident u name v
      → (grammar.primary P).word s (node.Key label name) v
  primary_key s t u v label dot name a b c = read_word s t u v label dot (node.Key label name) a b (inl (done_word (grammar.word kind.Ident) (λ name. node.Key label name) u v name c))

  pub primary_start : (s t u v : State) (label dot word : List ℕ) → Token kind.Ident s label t
      → Token kind.Dot t dot u → Token kind.Begin u word v
      → (grammar.primary P).word s (node.Start label) v
  primary_start s t u v label dot word a b c = read_word s t u v label dot (node.Start label) a b (inr (inl (done_word (grammar.word kind.Begin) (λ word. node.Start label) u v word c)))

  pub primary_stop : (s t u v : State) (label dot word : List ℕ) → Token kind.Ident s label t
      → Token kind.Dot t dot u → Token kind.End u word v
      → (grammar.primary P).word s (node.Stop label) v
  primary_stop s t u v label dot word a b c = read_word s t u v label dot (node.Stop label) a b (inr (inr (done_word (grammar.word kind.End) (λ word. node.Stop label) u v word c)))

  pub primary_paren : (s t : State) (x : Expr) → P.word s x t → (grammar.primary P).word s x t
  primary_paren s t x w = inr (inr (inr (inr (inr w))))

-- parentheses
pub paren_word : (d : ℕ) (s m n t : State) (opening closing : List ℕ) (x : Expr)
    → Token kind.Open s opening m → (grammar.expression (grammar.paren d)).word m x n
    → Token kind.Close n closing t → (grammar.paren (suc d)).word s x t
unfolding grammar.paren
paren_word d s m n t opening closing x a w z = between_word (of_kind kind.Open) (grammar.expression (grammar.paren d)) (of_kind kind.Close) s m n t opening x closing a w z
