-- The division of a source into words, and its tokens or its first fault.
use Rattle.std.specs.Prelude.{◌≡◌, ℕ, ◌+◌, ◌≤◌, List, [], ◌∷◌, length, take, drop, None, Result, Ok, Err}
use Rattle.nf_lex.specs.declared.token.TokenKind.{TokenKind}
use Rattle.nf_lex.specs.declared.token.Token.{Token}
use Rattle.nf_lex.specs.declared.fault.LexFault.{LexFault}
use Rattle.nf_lex.specs.Words as words
use Rattle.nf_lex.specs.Words.{IsWord, Gap}
use Rattle.nf_lex.specs.Faults.{fault_of, line_at, IsFault}

-- the tokens of a source, or its first fault
abbrev pub Answer : Type 0
Answer = Result (List Token) LexFault

-- a token that stands from one place up to another
abbrev pub token_at : TokenKind → ℕ → ℕ → Token
token_at kind start stop = record { kind = kind; span = record { start = start; stop = stop } }

-- an answer with a token in front, where it has tokens
abbrev pub in_front : Token → Answer → Answer
in_front token (Ok tokens) = Ok (token ∷ tokens)
in_front token (Err fault) = Err fault

-- what a source is from a place on: word after word, the longest at each place, up to the end or to the first fault; gaps leave no token
pub data Divides (source : List ℕ) : ℕ → Answer → Type 0 where
  ends : {place : ℕ} → length source ≤ place → Divides source place (Ok [])
  skips : {place n : ℕ} {answer : Answer} → IsWord (drop place source) Gap n → Divides source (place + n) answer → Divides source place answer
  takes : {place n : ℕ} {kind : TokenKind} {rest answer : Answer} → IsWord (drop place source) (words.Token kind) n
      → fault_of kind (take n (drop place source)) (line_at source place) ≡ None
      → Divides source (place + n) rest → answer ≡ in_front (token_at kind place (place + n)) rest → Divides source place answer
  fails : {place : ℕ} {fault : LexFault} → IsFault (drop place source) (line_at source place) fault → Divides source place (Err fault)
