-- The words of the canonical text of a rule, in front of others.
use Rattle.std.specs.Prelude as prelude
use Rattle.std.specs.Prelude.{ℕ, List, [], ◌∷◌, ◌++◌, codes, Option, Some, None, true, false}
use Rattle.std.specs.Fmt.{signed_decimal}
use Rattle.nf_core.specs.Texts.{text_eq}
use Rattle.nf_core.specs.Trees.{Tree, Bool, Int, Text, Start, Stop, Key, Neg, Not, Bin, Rule, tree, left_in_parens, right_in_parens, operand_in_parens}
use Rattle.nf_core.specs.declared.trees.Expr.{Expr}
use Rattle.nf_core.specs.declared.trees.Atom.{Atom}
use Rattle.nf_core.specs.declared.trees.Body.{Body}
use Rattle.nf_core.specs.declared.trees.Body.TheVariants as body
use Rattle.nf_core.specs.declared.trees.Entry.{Entry}
use Rattle.nf_lex.specs.declared.token.TokenKind.{TokenKind}
use Rattle.nf_lex.specs.declared.token.TokenKind.TheVariants as kind
use Rattle.nf_lex.specs.Words.{quoted}
use Rattle.nf_parse.specs.State.{Word, sym_of}
use Rattle.nf_core.specs.Spelling.{mark_of, word_of_op, word_of_xop}

-- a word of a kind
abbrev pub word : TokenKind → List ℕ → Word
word kind text = (sym_of kind text, text)

abbrev pub name : List ℕ → Word
name text = word kind.Ident text

abbrev pub keyword : List ℕ → Word
keyword text = word kind.Keyword text

abbrev pub mark : List ℕ → Word
mark text = word kind.Mark text

-- words that are put in front of others
abbrev pub Front : Type 0
Front = List Word → List Word

-- words between parentheses, where they stand in them
abbrev pub between : prelude.Bool → Front → Front
between true words rest = mark (codes "(") ∷ words (mark (codes ")") ∷ rest)
between false words rest = words rest

-- the words of an expression
unfoldable pub expression_words : Tree → Front
expression_words (Bool true) = λ rest. keyword (codes "true") ∷ rest
expression_words (Bool false) = λ rest. keyword (codes "false") ∷ rest
expression_words (Int n) = λ rest. word kind.Number (signed_decimal n) ∷ rest
expression_words (Text text) = λ rest. word kind.Text (quoted text) ∷ rest
expression_words (Start label) = λ rest. name label ∷ mark (codes ".") ∷ keyword (codes "begin") ∷ rest
expression_words (Stop label) = λ rest. name label ∷ mark (codes ".") ∷ keyword (codes "end") ∷ rest
expression_words (Key label key) = λ rest. name label ∷ mark (codes ".") ∷ name key ∷ rest
expression_words (Neg a) = λ rest. mark (codes "-") ∷ between (operand_in_parens a) (expression_words a) rest
expression_words (Not a) = λ rest. mark (codes "!") ∷ between (operand_in_parens a) (expression_words a) rest
expression_words (Bin op a b) = λ rest. between (left_in_parens op a) (expression_words a) (mark (mark_of op) ∷ between (right_in_parens op b) (expression_words b) rest)

-- the words of an atom
abbrev pub atom_at : prelude.Bool → Atom → Front
atom_at true atom rest = name atom.name ∷ rest
atom_at false atom rest = name atom.label ∷ mark (codes ":") ∷ name atom.name ∷ rest

abbrev pub atom_words : Atom → Front
atom_words atom = atom_at (text_eq atom.label atom.name) atom

-- the words of a body
abbrev pub body_words : Body → Front
body_words (body.One first) rest = atom_words first rest
body_words (body.Pair first o second) rest = atom_words first (keyword (word_of_op o) ∷ atom_words second rest)
body_words (body.Unless first x second) rest = atom_words first (keyword (codes "unless") ∷ keyword (word_of_xop x) ∷ atom_words second rest)

-- the words of a clause
abbrev pub clause_words : Word → Option Expr → Front
clause_words word None rest = rest
clause_words word (Some x) rest = word ∷ expression_words (tree x) rest

-- the words of an entry, and of others after it
abbrev pub entry_words : Entry → Front
entry_words entry rest = name entry.key ∷ mark (codes "->") ∷ expression_words (tree entry.value) rest

abbrev pub other_words : List Entry → Front
other_words [] rest = rest
other_words (entry ∷ entries) rest = mark (codes ",") ∷ entry_words entry (other_words entries rest)

-- the words of the entries
abbrev pub map_words : List Entry → Front
map_words [] rest = rest
map_words (first ∷ others) rest = keyword (codes "map") ∷ mark (codes "{") ∷ entry_words first (other_words others (mark (codes "}") ∷ rest))

-- the words of a rule
abbrev pub rule_words : Rule → List Word
rule_words rule = name rule.head ∷ mark (codes ":-") ∷ body_words rule.body (clause_words (keyword (codes "where")) rule.filter
    (map_words rule.entries (clause_words (keyword (codes "begin")) rule.start (clause_words (keyword (codes "end")) rule.stop []))))
