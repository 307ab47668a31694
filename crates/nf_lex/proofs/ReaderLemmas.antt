-- The reader's way through a source.
use Rattle.std.proofs.Common.{◌≡◌, ℕ, ◌+◌, ◌≤◌, List, [], ◌∷◌, ◌++◌, length, take, drop, refl, sym, ap, subst, arith, None, Ok, Err}
use Rattle.std.proofs.lemmas.List.{append_assoc, append-nil}
use Rattle.nf_lex.specs.declared.token.TokenKind.{TokenKind}
use Rattle.nf_lex.specs.declared.token.Token.{Token}
use Rattle.nf_lex.specs.declared.fault.LexFault.{LexFault}
use Rattle.nf_lex.specs.Words as words
use Rattle.nf_lex.specs.Words.{IsWord, Gap}
use Rattle.nf_lex.specs.Faults.{fault_of, line_at, IsFault}
use Rattle.nf_lex.specs.Division.{Answer, token_at, in_front, Divides, ends, skips, takes, fails}

-- an answer behind the tokens found so far
pub after : List Token → Answer → Answer
after found (Ok tokens) = Ok (found ++ tokens)
after found (Err fault) = Err fault

-- the reader has these tokens of the source before a place: whatever the rest is, the whole is it behind them
pub record IsSoFar (source : List ℕ) (place : ℕ) (found : List Token) : Type 0 where
  pub within : place ≤ length source
  pub goes_on : (answer : Answer) → Divides source place answer → Divides source 0 (after found answer)

after_nothing : (answer : Answer) → after [] answer ≡ answer
unfolding after
after_nothing (Ok tokens) = refl
after_nothing (Err fault) = refl

after_more : (found : List Token) (token : Token) (answer : Answer) → after found (in_front token answer) ≡ after (found ++ token ∷ []) answer
unfolding after
after_more found token (Ok tokens) = ap Ok (sym (append_assoc found (token ∷ []) tokens))
after_more found token (Err fault) = refl

pub so_far_start : (source : List ℕ) → IsSoFar source 0 []
so_far_start source = record {
  within = omega arith;
  goes_on = λ answer d. subst (Divides source 0) (sym (after_nothing answer)) d;
}

pub so_far_gap : (source : List ℕ) (place n : ℕ) (found : List Token) → IsSoFar source place found → IsWord (drop place source) Gap n → place + n ≤ length source → IsSoFar source (place + n) found
so_far_gap source place n found s w l = record { within = l; goes_on = λ answer d. s.goes_on answer (skips w d) }

pub so_far_token : (source : List ℕ) (place n : ℕ) (kind : TokenKind) (found : List Token) → IsSoFar source place found → IsWord (drop place source) (words.Token kind) n
    → fault_of kind (take n (drop place source)) (line_at source place) ≡ None → place + n ≤ length source → IsSoFar source (place + n) (found ++ token_at kind place (place + n) ∷ [])
so_far_token source place n kind found s w f l = record {
  within = l;
  goes_on = λ answer d. subst (Divides source 0) (after_more found (token_at kind place (place + n)) answer) (s.goes_on (in_front (token_at kind place (place + n)) answer) (takes w f d refl));
}

pub so_far_end : (source : List ℕ) (place : ℕ) (found : List Token) → IsSoFar source place found → length source ≤ place → Divides source 0 (Ok found)
unfolding after
so_far_end source place found s l = subst (λ tokens. Divides source 0 (Ok tokens)) (append-nil found) (s.goes_on (Ok []) (ends l))

pub so_far_fault : (source : List ℕ) (place : ℕ) (found : List Token) (fault : LexFault) → IsSoFar source place found → IsFault (drop place source) (line_at source place) fault → Divides source 0 (Err fault)
unfolding after
so_far_fault source place found fault s f = s.goes_on (Err fault) (fails f)
