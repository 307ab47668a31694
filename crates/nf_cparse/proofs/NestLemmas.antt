-- Parentheses, brackets and names, as the reader goes past them.
use Rattle.std.proofs.Common.{◌≡◌, ◌<◌, ◌-◌, ◌∙◌, ℕ, true, false, refl, Ok, Err}
use Rattle.nf_cast.specs.declared.placed.PlacedName.{PlacedName}
use Rattle.nf_cast.specs.declared.placed.PlacedExpr.{PlacedExpr}
use Rattle.nf_cast.specs.declared.placed.PlacedExpr.TheVariants as node
use Rattle.nf_grammar.specs.declared.fault.Fault.{Fault}
use Rattle.nf_grammar.specs.declared.fault.Halt.{Halt}
use Rattle.nf_grammar.specs.declared.fault.Halt.TheVariants as halt
use Rattle.nf_grammar.specs.inner.Parsers.{choose, refuse, too_deep, Reads, Stops}
use Rattle.nf_cparse.specs.declared.symbol.Sym.TheVariants as kind
use Rattle.nf_cparse.specs.Lexing.{Word}
use Rattle.nf_cparse.specs.inner.Parsers.{State, Outcome, Parser, is_at, token, CountsPast}
use Rattle.nf_cparse.specs.inner.ExpressionReading.{behind_name, closed_parens, closed_index, expression, nest, parens_at, index_at}
use Rattle.nf_cparse.proofs.StepLemmas.{parens_some, index_some, at_refused, at_counted, at_full}

-- a call that stops where a parser of one word does
pub stops_read : {A B : Type 0} (o : Outcome A) (r : Outcome B) (h : Halt) (t : State)
    → ((f : Fault) → o ≡ Err f → r ≡ Err f) → Stops o h → Reads r (Err h) t
stops_read o r halt.NoMemory t g e = tt
stops_read o r (halt.At f) t g e = g f e

-- what stands behind a name
module _ (index : Parser PlacedExpr) (name : PlacedName) (s : State) where
  pub cell_read : (x : PlacedExpr) (t : State) → is_at kind.OpenBracket s ≡ true → index s ≡ Ok (x, t) → behind_name index name s ≡ Ok (node.Cell name x, t)
  unfolding behind_name choose
  cell_read x t h e = rw (h, e) refl

  pub cell_stops : (f : Fault) → is_at kind.OpenBracket s ≡ true → index s ≡ Err f → behind_name index name s ≡ Err f
  unfolding behind_name choose
  cell_stops f h e = rw (h, e) refl

  pub name_alone : is_at kind.OpenBracket s ≡ false → behind_name index name s ≡ Ok (node.Name name, s)
  unfolding behind_name choose
  name_alone h = rw h refl

-- an expression between parentheses
module _ (depth : ℕ) (s : State) (some : 0 < depth) where
  abbrev inner : Parser PlacedExpr
  inner = expression (nest (depth - 1))

  pub open_stops : (f : Fault) → token kind.Open s ≡ Err f → parens_at depth s ≡ Err f
  unfolding closed_parens
  open_stops f e = parens_some depth s some ∙ rw e refl

  module _ (word : Word) (m : State) (e : token kind.Open s ≡ Ok (word, m)) where
    pub parens_stops : (f : Fault) → inner m ≡ Err f → parens_at depth s ≡ Err f
    unfolding closed_parens
    parens_stops f g = parens_some depth s some ∙ rw (e, g) refl

    pub close_stops : (x : PlacedExpr) (u : State) (f : Fault) → inner m ≡ Ok (x, u) → token kind.Close u ≡ Err f → parens_at depth s ≡ Err f
    unfolding closed_parens
    close_stops x u f g h = parens_some depth s some ∙ rw (e, g, h) refl

    pub parens_read : (x : PlacedExpr) (u t : State) (last : Word) → inner m ≡ Ok (x, u) → token kind.Close u ≡ Ok (last, t) → parens_at depth s ≡ Ok (node.Parens word.line x, t)
    unfolding closed_parens
    parens_read x u t last g h = parens_some depth s some ∙ rw (e, g, h) refl

  -- an expression between brackets
  pub index_refused : is_at kind.OpenBracket s ≡ false → index_at depth s ≡ refuse s
  unfolding closed_index
  index_refused h = index_some depth s some ∙ rw (at_refused kind.OpenBracket s h) refl

  pub index_full : is_at kind.OpenBracket s ≡ true → s.room ≡ 0 → index_at depth s ≡ too_deep s
  unfolding closed_index
  index_full h r = index_some depth s some ∙ rw (at_full kind.OpenBracket s h r) refl

  module _ (word : Word) (m : State) (h : is_at kind.OpenBracket s ≡ true) (g : CountsPast word s m) where
    pub index_stops : (f : Fault) → inner m ≡ Err f → index_at depth s ≡ Err f
    unfolding closed_index
    index_stops f e = index_some depth s some ∙ rw (at_counted kind.OpenBracket word s m h g, e) refl

    pub bracket_stops : (x : PlacedExpr) (u : State) (f : Fault) → inner m ≡ Ok (x, u) → token kind.CloseBracket u ≡ Err f → index_at depth s ≡ Err f
    unfolding closed_index
    bracket_stops x u f e i = index_some depth s some ∙ rw (at_counted kind.OpenBracket word s m h g, e, i) refl

    pub index_read : (x : PlacedExpr) (u t : State) (last : Word) → inner m ≡ Ok (x, u) → token kind.CloseBracket u ≡ Ok (last, t) → index_at depth s ≡ Ok (x, t)
    unfolding closed_index
    index_read x u t last e i = index_some depth s some ∙ rw (at_counted kind.OpenBracket word s m h g, e, i) refl
