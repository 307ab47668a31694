-- The kind of a whole text by the longest token at its front.
use Rattle.std.proofs.Common.{◌≡◌, ◌≢◌, ℕ, ◌<◌, ◌≤◌, true, false, List, [], ◌∷◌, length, subst, arith, Some, None, IsTrue, ◌↔◌}
use Rattle.std.proofs.lemmas.List.{take_all}
use Rattle.std.proofs.lemmas.Bool.{false_from_ne_true}
use Rattle.nf_core.specs.Identifiers.{is_identifier}
use Rattle.nf_lex.specs.declared.token.TokenKind.{TokenKind}
use Rattle.nf_lex.specs.declared.token.TokenKind.TheVariants.{Ident}
use Rattle.nf_lex.specs.Words.{kind_of, IsLongest, HasNone}
use Rattle.nf_lex.proofs.LongestTokenLemmas.{no_empty}

pub kind_empty : (text : List ℕ) → length text ≡ 0 → kind_of text ≡ None
kind_empty [] e = no_empty
kind_empty (b ∷ text) e = absurd (omega arith)

-- the longest token is the whole text
pub kind_whole : (text : List ℕ) (kind : TokenKind) (n : ℕ) → IsLongest kind_of text kind n → length text ≤ n → kind_of text ≡ Some kind
kind_whole text kind n longest l = subst (λ word. kind_of word ≡ Some kind) (take_all n text l) longest.front

-- the text goes on after its longest token
pub kind_longer : (text : List ℕ) (kind : TokenKind) (n : ℕ) → IsLongest kind_of text kind n → n < length text → kind_of text ≡ None
kind_longer text kind n longest l = subst (λ word. kind_of word ≡ None) (take_all (length text) text (omega arith)) (longest.longest (length text) l (omega arith))

pub kind_none : (text : List ℕ) → HasNone kind_of text → kind_of text ≡ None
kind_none text none = subst (λ word. kind_of word ≡ None) (take_all (length text) text (omega arith)) (none.none (length text) (omega arith))

abbrev IdentifierIs : Type 0
IdentifierIs = (word : List ℕ) → (kind_of word ≡ Some Ident) ↔ IsTrue (is_identifier word)

pub is_ident : IdentifierIs → (text : List ℕ) → kind_of text ≡ Some Ident → is_identifier text ≡ true
is_ident law text e = (law text).0 e

pub no_ident : IdentifierIs → (text : List ℕ) → kind_of text ≢ Some Ident → is_identifier text ≡ false
no_ident law text e = false_from_ne_true (is_identifier text) (λ h. e ((law text).1 h))
