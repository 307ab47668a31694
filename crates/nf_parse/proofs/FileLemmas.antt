-- What is read of whole files of words that can be written, and the words that an expression takes.
use Rattle.std.proofs.Common.{◌≡◌, ℕ, List, [], ◌∷◌, ◌++◌, take, sym, ap, ◌∙◌, Ok, IsTrue}
use Rattle.std.specs.List.{All}
use Rattle.std.proofs.lemmas.List.{take-append-drop}
use Rattle.std.proofs.lemmas.List.Elements.{All-nil, All-append, All-weaker, All-head, All-tail}
use Rattle.nf_core.specs.Identifiers.{is_identifier}
use Rattle.nf_core.specs.Trees.{tree, IsWrittenTree, IsWritten}
use Rattle.nf_core.specs.declared.trees.Expr.{Expr}
use Rattle.nf_core.specs.declared.trees.Rule.{Rule}
use Rattle.nf_core.specs.declared.trees.Module.{Module}
use Rattle.nf_parse.specs.State.{Word, State}
use Rattle.nf_parse.specs.Answers.{rules_in}
use Rattle.nf_parse.specs.inner.Reading.{expression, paren}
use Rattle.nf_parse.specs.inner.RuleReading.{file}
use Rattle.nf_parse.proofs.ExpressionReaderLemmas.{expression_reader, paren_reader}
use Rattle.nf_parse.proofs.LimitLemmas.{IsByParts}
use Rattle.nf_parse.proofs.ReadPartLemmas.{IsReadingAlone}
use Rattle.nf_parse.proofs.ReadExpressionLemmas.{IsWord, expression_written}
use Rattle.nf_parse.proofs.ReadRuleLemmas.{IsGoodRule, IsWrittenModule, file_reading}

-- the words that an expression takes stand in front of those that are left
expression_before : (depth : ℕ) (s t : State) (x : Expr) → expression (paren depth) s ≡ Ok (x, t)
    → (taken : List Word) × (s.words ≡ taken ++ t.words)
expression_before depth s t x e =
    let r = expression_reader (paren_reader depth) in
    let b = r.behind s t (r.whole s t x (r.sound s t x e)) in
    (take b.count s.words, sym (take-append-drop b.count s.words) ∙ ap (λ ws. take b.count s.words ++ ws) (sym b.last))

pub alone_at : (depth : ℕ) → IsReadingAlone (λ word. Unit) (expression (paren depth)) (λ x. Unit)
alone_at depth = record { before = expression_before depth; given = λ s t x e h. tt }

-- the modules of words that can be written
module _ (parts : IsByParts) (fits : Word → Type 0) (w : IsWord fits) where
  abbrev IsName : List ℕ → Type 0
  IsName name = IsTrue (is_identifier name)

  abbrev IsWrittenExpr : Expr → Type 0
  IsWrittenExpr x = IsWrittenTree (tree x)

  written_rule : (rule : Rule) → IsGoodRule IsName IsWrittenExpr rule → IsWritten rule
  written_rule rule g = record { head = g.head; labels = g.labels; names = g.names; keys = g.keys; expressions = g.expressions }

  written_rules : (modules : List Module) → All (IsWrittenModule IsName IsWrittenExpr) modules
      → All IsWritten (rules_in modules)
  written_rules [] h = All-nil IsWritten
  written_rules (m ∷ modules) h = All-append IsWritten m.rules (rules_in modules)
      (All-weaker (IsGoodRule IsName IsWrittenExpr) IsWritten written_rule m.rules (All-head (IsWrittenModule IsName IsWrittenExpr) m modules h))
      (written_rules modules (All-tail (IsWrittenModule IsName IsWrittenExpr) m modules h))

  pub file_written : (depth : ℕ) (s t : State) (modules : List Module)
      → file (expression (paren depth)) s ≡ Ok (modules, t) → All fits s.words
      → All IsWritten (rules_in modules)
  file_written depth s t modules e h = written_rules modules ((file_reading IsName IsWrittenExpr fits w.name (expression (paren depth))
      (record { before = expression_before depth; given = λ s t x e h. expression_written parts fits w depth s t x e h })).given s t modules e h)
