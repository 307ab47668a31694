-- The words and marks of a C text.
use Rattle.std.specs.Prelude.{ℕ, List, [], ◌∷◌, codes, bytes_eq, Option, Some, None, if◌then◌else◌}
use Rattle.std.specs.Map.{lookup}
use Rattle.nf_cast.specs.Names.{is_c_identifier}
use Rattle.nf_cparse.specs.declared.symbol.Sym.{Sym}
use Rattle.nf_cparse.specs.declared.symbol.Sym.TheVariants as sym

-- the words of the grammar
unfoldable pub c_words : List (List ℕ × Sym)
c_words =
    (codes "static", sym.Static) ∷ (codes "void", sym.Void) ∷ (codes "const", sym.Const)
    ∷ (codes "int64_t", sym.Int64) ∷ (codes "if", sym.If) ∷ (codes "else", sym.Else)
    ∷ (codes "for", sym.For) ∷ (codes "return", sym.Return) ∷ []

-- the marks of C that begin as those of the grammar do, longer ones first, each with what it is to the grammar, or None where it is no token
unfoldable pub c_marks : List (List ℕ × Option Sym)
c_marks =
    (codes "<<=", None) ∷ (codes ">>=", None)
    ∷ (codes "<=", Some sym.LessEqual) ∷ (codes ">=", Some sym.GreaterEqual)
    ∷ (codes "==", Some sym.EqualEqual) ∷ (codes "!=", Some sym.NotEqual)
    ∷ (codes "&&", Some sym.And) ∷ (codes "||", Some sym.Or)
    ∷ (codes "--", None) ∷ (codes "++", None) ∷ (codes "+=", None) ∷ (codes "-=", None)
    ∷ (codes "*=", None) ∷ (codes "/=", None) ∷ (codes "%=", None) ∷ (codes "->", None)
    ∷ (codes "<<", None) ∷ (codes ">>", None)
    ∷ (codes "&", None) ∷ (codes "|", None)
    ∷ (codes "(", Some sym.Open) ∷ (codes ")", Some sym.Close)
    ∷ (codes "{", Some sym.OpenBrace) ∷ (codes "}", Some sym.CloseBrace)
    ∷ (codes "[", Some sym.OpenBracket) ∷ (codes "]", Some sym.CloseBracket)
    ∷ (codes ",", Some sym.Comma) ∷ (codes ";", Some sym.Semicolon)
    ∷ (codes "=", Some sym.Equal) ∷ (codes "+", Some sym.Plus) ∷ (codes "-", Some sym.Minus)
    ∷ (codes "*", Some sym.Star) ∷ (codes "/", Some sym.Slash) ∷ (codes "%", Some sym.Percent)
    ∷ (codes "<", Some sym.Less) ∷ (codes ">", Some sym.Greater) ∷ (codes "!", Some sym.Bang) ∷ []

-- what a whole run of letters, digits and `_` is to the grammar, if it is a token: one of the words, or an identifier
unfoldable pub word_symbol : List ℕ → Option Sym
word_symbol run = if is_c_identifier run then Some sym.Ident else lookup (bytes_eq run) c_words
