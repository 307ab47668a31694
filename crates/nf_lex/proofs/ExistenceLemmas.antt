-- Every source has an answer.
use Rattle.std.proofs.Common.{◌≡◌, ℕ, zero, suc, ◌+◌, ◌<◌, ◌≤◌, List, [], length, take, drop, refl, ⊎_elim, ◌⊎◌, inl, inr, subst, arith, Option, Some, None, Ok, Err}
use Rattle.std.proofs.lemmas.List.{length-drop}
use Rattle.std.proofs.lemmas.Bool.{cases_lt}
use Rattle.nf_lex.specs.declared.token.TokenKind.{TokenKind}
use Rattle.nf_lex.specs.declared.fault.LexFault.{LexFault}
use Rattle.nf_lex.specs.Words as words
use Rattle.nf_lex.specs.Words.{Form, Gap, form_at, IsLongest, HasNone, IsWord, HasNoWord}
use Rattle.nf_lex.specs.Faults.{fault_of, missing_at, line_at, faulty, missing}
use Rattle.nf_lex.specs.Division.{Answer, token_at, in_front, Divides, ends, skips, takes, fails}
use Rattle.nf_lex.proofs.WordFormLemmas.{word_some}

-- bytes have a longest front with a form, or none
module _ {F : Type 0} (form_of : List ℕ → Option F) (bytes : List ℕ) where
  abbrev Found : Type 0
  Found = ((form : F) × (n : ℕ) × IsLongest form_of bytes form n) ⊎ HasNone form_of bytes

  abbrev IsClear : ℕ → Type 0
  IsClear k = (m : ℕ) → k < m → m ≤ length bytes → form_of (take m bytes) ≡ None

  -- from a length on, above which no front has a form
  at_length : (k : ℕ) → k ≤ length bytes → IsClear k → (front : Option F) → form_of (take k bytes) ≡ front → (form_of (take k bytes) ≡ None → Found) → Found
  at_length k l above (Some form) e below = inl (form, k, record { within = l; front = e; longest = above })
  at_length k l above None e below = below e

  clear_more : (k : ℕ) → IsClear (suc k) → form_of (take (suc k) bytes) ≡ None → IsClear k
  clear_more k above e m p l = ⊎_elim
      (λ q. above m q l)
      (λ q. let same : suc k ≡ m = omega arith in subst (λ n. form_of (take n bytes) ≡ None) same e)
      (cases_lt (suc k) m)

  all_clear : IsClear zero → form_of (take zero bytes) ≡ None → HasNone form_of bytes
  all_clear above e = record {
    none = λ m l. ⊎_elim (λ q. above m q l) (λ q. let same : 0 ≡ m = omega arith in subst (λ n. form_of (take n bytes) ≡ None) same e) (cases_lt 0 m);
  }

  search_down : (k : ℕ) → k ≤ length bytes → IsClear k → Found
  search_down zero l above = at_length zero l above (form_of (take zero bytes)) refl (λ e. inr (all_clear above e))
  search_down (suc k) l above = at_length (suc k) l above (form_of (take (suc k) bytes)) refl (λ e. search_down k (omega arith) (clear_more k above e))

  pub longest_or_none : Found
  longest_or_none = search_down (length bytes) (omega arith) (λ m p l. absurd (omega arith))

-- an answer from a place on
module _ (source : List ℕ) (place : ℕ) where
  abbrev Answered : ℕ → Type 0
  Answered start = (answer : Answer) × Divides source start answer

  with_token : (kind : TokenKind) (n : ℕ) → IsWord (drop place source) (words.Token kind) n → Answered (place + n) → (fault : Option LexFault) → fault_of kind (take n (drop place source)) (line_at source place) ≡ fault → Answered place
  with_token kind n w rest None e = (in_front (token_at kind place (place + n)) rest.0, takes w e rest.1 refl)
  with_token kind n w rest (Some fault) e = (Err fault, fails (faulty w e))

  with_word : (form : Form) (n : ℕ) → IsWord (drop place source) form n → Answered (place + n) → Answered place
  with_word Gap n w rest = (rest.0, skips w rest.1)
  with_word (words.Token kind) n w rest = with_token kind n w rest (fault_of kind (take n (drop place source)) (line_at source place)) refl

  with_none : place < length source → HasNoWord (drop place source) → Answered place
  with_none l h = (Err (missing_at (drop place source) (line_at source place)), fails (missing (omega (arith, length-drop place source)) h))

-- the places left bound the words left
some_answer : (source : List ℕ) (left place : ℕ) → length source ≤ place + left → (answer : Answer) × Divides source place answer
some_answer source zero place h = (Ok [], ends (omega arith))
some_answer source (suc left) place h = ⊎_elim
    (λ l. ⊎_elim
    (λ found. with_word source place found.0 found.1 found.2 (some_answer source left (place + found.1) (omega (arith, word_some (drop place source) found.0 found.1 found.2))))
    (λ none. with_none source place l none)
    (longest_or_none (form_at (drop place source)) (drop place source)))
    (λ e. (Ok [], ends e))
    (cases_lt place (length source))

pub answer_exists : (source : List ℕ) → (answer : Answer) × Divides source 0 answer
answer_exists source = some_answer source (length source) 0 (omega arith)
