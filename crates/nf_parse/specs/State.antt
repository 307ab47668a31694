-- The words of a source, and where a reading stands among them.
use Rattle.std.specs.Prelude.{ℕ, List, [], ◌∷◌, map, codes, bytes_eq, unwrap_or, Option, Some, None, if◌then◌else◌}
use Rattle.std.specs.Map.{lookup}
use Rattle.nf_lex.specs.declared.token.Token.{Token}
use Rattle.nf_lex.specs.declared.token.TokenKind.{TokenKind}
use Rattle.nf_lex.specs.declared.token.TokenKind.TheVariants as kind
use Rattle.nf_lex.specs.Layout.{text_of}
use Rattle.nf_grammar.specs.State as grammar
use denote.Enum.Bare.{sameb}
use Rattle.nf_parse.specs.contracts.symbol.Sym.{the_type}
use Rattle.nf_parse.specs.declared.symbol.Sym.{Sym}
use Rattle.nf_parse.specs.declared.symbol.Sym.TheVariants as sym

-- what the keywords of nf_core are to the grammar
abbrev pub keywords : List (List ℕ × Sym)
keywords =
    (codes "module", sym.Module) ∷ (codes "import", sym.Import) ∷ (codes "where", sym.Where)
    ∷ (codes "map", sym.Map) ∷ (codes "begin", sym.Begin) ∷ (codes "end", sym.End)
    ∷ (codes "unless", sym.Unless) ∷ (codes "before", sym.Before) ∷ (codes "meet", sym.Meet)
    ∷ (codes "during", sym.During) ∷ (codes "coincide", sym.Coincide)
    ∷ (codes "start", sym.Start) ∷ (codes "finish", sym.Finish) ∷ (codes "overlap", sym.Overlap)
    ∷ (codes "slice", sym.Slice) ∷ (codes "after", sym.After) ∷ (codes "follow", sym.Follow)
    ∷ (codes "contain", sym.Contain) ∷ (codes "true", sym.True) ∷ (codes "false", sym.False) ∷ []

-- what the marks of nf_lex are to the grammar
abbrev pub marks : List (List ℕ × Sym)
marks =
    (codes ":-", sym.Defines) ∷ (codes "->", sym.Arrow) ∷ (codes "<=", sym.LessEqual)
    ∷ (codes ">=", sym.GreaterEqual) ∷ (codes "!=", sym.NotEqual) ∷ (codes "=", sym.Equal)
    ∷ (codes "<", sym.Less) ∷ (codes ">", sym.Greater) ∷ (codes "!", sym.Bang)
    ∷ (codes "&", sym.And) ∷ (codes "|", sym.Or) ∷ (codes "+", sym.Plus)
    ∷ (codes "-", sym.Minus) ∷ (codes "*", sym.Star) ∷ (codes "/", sym.Slash)
    ∷ (codes "%", sym.Percent) ∷ (codes "(", sym.Open) ∷ (codes ")", sym.Close)
    ∷ (codes "{", sym.OpenBrace) ∷ (codes "}", sym.CloseBrace) ∷ (codes ",", sym.Comma)
    ∷ (codes ";", sym.Semicolon) ∷ (codes ".", sym.Dot) ∷ (codes ":", sym.Colon) ∷ []

-- the words that a table has
abbrev pub words_in : List (List ℕ × Sym) → List (List ℕ)
words_in table = map (λ (entry : List ℕ × Sym). entry.0) table

-- what bytes are in a table of words; no keyword and no mark is missing there
abbrev pub sym_in : List (List ℕ × Sym) → List ℕ → Sym
sym_in table bytes = unwrap_or (lookup (bytes_eq bytes) table) sym.Other

-- what a token is to the grammar: an identifier, a number or a text whatever its bytes are, and each keyword and each mark by itself
unfoldable pub sym_of : TokenKind → List ℕ → Sym
sym_of kind.Ident bytes = sym.Ident
sym_of kind.Number bytes = sym.Number
sym_of kind.Text bytes = sym.Text
sym_of kind.Keyword bytes = sym_in keywords bytes
sym_of kind.Mark bytes = sym_in marks bytes

-- a word: what a token is, and its bytes
abbrev pub Word : Type 0
Word = Sym × List ℕ

-- the word of a token of a source
abbrev pub word_of : List ℕ → Token → Word
word_of source token = (sym_of token.kind (text_of source token), text_of source token)

-- the words of the tokens of a source
abbrev pub words_of : List ℕ → List Token → List Word
words_of source tokens = map (word_of source) tokens

-- where a reading stands among words: those that are left, and how many operators may still stand in the expression there
abbrev pub State : Type 0
State = grammar.State Word

-- what the next word is, if there is one
abbrev pub kind_of_next : Option Word → Option Sym
kind_of_next None = None
kind_of_next (Some word) = Some word.0

-- the bytes of a word of a kind
abbrev pub of_kind : Sym → Word → Option (List ℕ)
of_kind k word = if sameb the_type word.0 k then Some word.1 else None
