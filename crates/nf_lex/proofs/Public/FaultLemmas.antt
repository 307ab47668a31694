-- No source has want of memory as its answer.
use Rattle.std.proofs.Common.{◌≡◌, ℕ, ◌+◌, Bool, true, false, cond, List, Some, None, Ok, Err}
use Rattle.nf_lex.specs.declared.token.Token.{Token}
use Rattle.nf_lex.specs.declared.token.TokenKind.{TokenKind}
use Rattle.nf_lex.specs.declared.token.TokenKind.TheVariants as kind
use Rattle.nf_lex.specs.declared.fault.LexFault.{LexFault}
use Rattle.nf_lex.specs.declared.fault.LexFault.TheVariants as fault
use Rattle.nf_lex.specs.Faults.{fault_of, missing_at, IsFault, faulty, missing}
use Rattle.nf_lex.specs.Division.{Answer, Divides, ends, skips, takes, fails, in_front}

-- no word and no place has want of memory as its fault
chosen : (b : Bool) (g f : LexFault) → (g ≡ fault.NoMemory → ⊥) → cond b None (Some g) ≡ Some f → f ≡ fault.NoMemory → ⊥
chosen true g f n e i = absurd cc
chosen false g f n e i = let h : g ≡ fault.NoMemory = cc in n h

no_word_fault : (k : TokenKind) (word : List ℕ) (line : ℕ) (f : LexFault) → fault_of k word line ≡ Some f → f ≡ fault.NoMemory → ⊥
unfolding fault_of
no_word_fault kind.Ident word line f e i = absurd cc
no_word_fault kind.Keyword word line f e i = absurd cc
no_word_fault kind.Number word line f e i = chosen _ (fault.BigNumber line) f (λ h. absurd cc) e i
no_word_fault kind.Text word line f e i = chosen _ (fault.BadText line) f (λ h. absurd cc) e i
no_word_fault kind.Mark word line f e i = absurd cc

chosen_of : (b c : Bool) (line : ℕ) → cond b (fault.OpenComment line) (cond c (fault.OpenText line) (fault.BadByte line)) ≡ fault.NoMemory → ⊥
chosen_of true c line e = cc
chosen_of false true line e = cc
chosen_of false false line e = cc

no_missing : (bytes : List ℕ) (line : ℕ) → missing_at bytes line ≡ fault.NoMemory → ⊥
unfolding missing_at
no_missing bytes line e = chosen_of _ _ line e

no_fault : (bytes : List ℕ) (line : ℕ) (f : LexFault) → IsFault bytes line f → f ≡ fault.NoMemory → ⊥
no_fault bytes line f (faulty {kind = k} {n} w e) i = no_word_fault k _ line f e i
no_fault bytes line _ (missing l h) i = no_missing bytes line i

no_front : (token : Token) (rest answer : Answer) → answer ≡ in_front token rest → answer ≡ Err fault.NoMemory → rest ≡ Err fault.NoMemory
no_front token (Ok tokens) answer e i = absurd cc
no_front token (Err f) answer e i = cc

abbrev fault_answer : LexFault → Answer
fault_answer f = Err f

-- so no source has it as its answer
pub no_memory : (source : List ℕ) (place : ℕ) (answer : Answer) → Divides source place answer → answer ≡ Err fault.NoMemory → ⊥
no_memory source place _ (ends l) i = absurd cc
no_memory source place answer (skips {n} w d) i = no_memory source (place + n) answer d i
no_memory source place answer (takes {n} {rest} w f d e) i = no_memory source (place + n) rest d (no_front _ rest answer e i)
no_memory source place _ (fails {fault = f} d) i = no_fault _ _ f d (err_value f fault.NoMemory i)
  where
    err_value : (f g : LexFault) → fault_answer f ≡ fault_answer g → f ≡ g
    err_value f g e = cc
