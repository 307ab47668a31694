-- The canonical text of a rule.
use Rattle.std.specs.Prelude as prelude
use Rattle.std.specs.Prelude.{ℕ, List, [], ◌∷◌, ◌++◌, codes, flat_map, Option, Some, None, true, false, if◌then◌else◌}
use Rattle.std.specs.Fmt.{signed_decimal}
use Rattle.nf_core.specs.Texts.{text_eq}
use Rattle.nf_core.specs.Trees.{Tree, Bool, Int, Text, Start, Stop, Key, Neg, Not, Bin, Rule, tree, left_in_parens, right_in_parens, operand_in_parens}
use Rattle.nf_core.specs.Spelling.{mark_of, word_of_op, word_of_xop}
use Rattle.nf_core.specs.declared.trees.Expr.{Expr}
use Rattle.nf_core.specs.declared.trees.Atom.{Atom}
use Rattle.nf_core.specs.declared.trees.Body.{Body}
use Rattle.nf_core.specs.declared.trees.Body.TheVariants as body
use Rattle.nf_core.specs.declared.trees.Entry.{Entry}

-- a text, between parentheses where it stands in them
abbrev pub enclosed : prelude.Bool → List ℕ → List ℕ
enclosed in_parens text = if in_parens then codes "(" ++ text ++ codes ")" else text

-- a unary `-` stands directly before its operand, except that one space follows it where its operand is a unary `-`
unfoldable pub minus_before : Tree → List ℕ
minus_before (Neg a) = codes "- "
minus_before other = codes "-"

-- the canonical text of an expression: numbers are canonical decimals, a text stands between `"`, a read is `label.key`, `label.begin` or `label.end`, and a binary operator has one space on each side
unfoldable pub expression_text : Tree → List ℕ
expression_text (Bool true) = codes "true"
expression_text (Bool false) = codes "false"
expression_text (Int n) = signed_decimal n
expression_text (Text text) = codes "\"" ++ text ++ codes "\""
expression_text (Start label) = label ++ codes ".begin"
expression_text (Stop label) = label ++ codes ".end"
expression_text (Key label key) = label ++ codes "." ++ key
expression_text (Neg a) = minus_before a ++ enclosed (operand_in_parens a) (expression_text a)
expression_text (Not a) = codes "!" ++ enclosed (operand_in_parens a) (expression_text a)
expression_text (Bin op a b) = enclosed (left_in_parens op a) (expression_text a) ++ codes " " ++ mark_of op ++ codes " " ++ enclosed (right_in_parens op b) (expression_text b)

-- an atom is its name where its label is the same, else `label:NAME`
abbrev pub atom_text : Atom → List ℕ
atom_text atom = if text_eq atom.label atom.name then atom.name else atom.label ++ codes ":" ++ atom.name

-- a body is `A`, `A op B` or `A unless xop B`
unfoldable pub body_text : Body → List ℕ
body_text (body.One first) = atom_text first
body_text (body.Pair first o second) = atom_text first ++ codes " " ++ word_of_op o ++ codes " " ++ atom_text second
body_text (body.Unless first x second) = atom_text first ++ codes " unless " ++ word_of_xop x ++ codes " " ++ atom_text second

-- a keyword between spaces and an expression, where there is one
abbrev pub clause_text : List ℕ → Option Expr → List ℕ
clause_text word None = []
clause_text word (Some x) = word ++ expression_text (tree x)

-- an entry is `k -> E`
abbrev pub entry_text : Entry → List ℕ
entry_text entry = entry.key ++ codes " -> " ++ expression_text (tree entry.value)

-- each entry after `, `
abbrev pub others_text : List Entry → List ℕ
others_text entries = flat_map (λ entry. codes ", " ++ entry_text entry) entries

-- entries are ` map { k -> E, j -> E }`, and nothing where there is none
abbrev pub map_text : List Entry → List ℕ
map_text [] = []
map_text (first ∷ others) = codes " map { " ++ entry_text first ++ others_text others ++ codes " }"

-- the canonical text of a rule is one line: `HEAD :- BODY`, then ` where E`, the entries, ` begin E` and ` end E` where present, and LF
unfoldable pub canonical : Rule → List ℕ
canonical rule = rule.head ++ codes " :- " ++ body_text rule.body
    ++ clause_text (codes " where ") rule.filter ++ map_text rule.entries
    ++ clause_text (codes " begin ") rule.start ++ clause_text (codes " end ") rule.stop ++ codes "\n"
