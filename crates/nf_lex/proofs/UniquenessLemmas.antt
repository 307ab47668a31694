-- A source has one answer.
use Rattle.std.proofs.Common.{◌≡◌, ℕ, ◌+◌, ◌<◌, ◌≤◌, List, [], length, take, drop, refl, sym, ap, ◌∙◌, ⊎_elim, subst, arith, Some, None, Ok, Err}
use Rattle.std.proofs.lemmas.List.{length-drop}
use Rattle.std.proofs.lemmas.Bool.{cases_lt}
use Rattle.nf_lex.specs.declared.token.TokenKind.{TokenKind}
use Rattle.nf_lex.specs.declared.fault.LexFault.{LexFault}
use Rattle.nf_lex.specs.Words as words
use Rattle.nf_lex.specs.Words.{Form, IsWord, HasNoWord, Gap}
use Rattle.nf_lex.specs.Faults.{fault_of, line_at, IsFault, faulty, missing}
use Rattle.nf_lex.specs.Division.{Answer, token_at, in_front, Divides, ends, skips, takes, fails}
use Rattle.nf_lex.proofs.WordFormLemmas.{word_some}

-- two words that are the longest at one place are one
same_len : (bytes : List ℕ) (f g : Form) (m n : ℕ) → IsWord bytes f m → IsWord bytes g n → m < n → ⊥
same_len bytes f g m n v w l = let e = sym (v.longest n l w.within) ∙ w.front in cc

pub one_len : (bytes : List ℕ) (f g : Form) (m n : ℕ) → IsWord bytes f m → IsWord bytes g n → m ≡ n
one_len bytes f g m n v w = ⊎_elim (λ l. absurd (same_len bytes f g m n v w l))
    (λ k. ⊎_elim (λ l. absurd (same_len bytes g f n m w v l)) (λ j. omega arith) (cases_lt n m)) (cases_lt m n)

pub one_form : (bytes : List ℕ) (f g : Form) (m n : ℕ) → IsWord bytes f m → IsWord bytes g n → f ≡ g
one_form bytes f g m n v w =
    let e = one_len bytes f g m n v w in
    let at = subst (λ k. words.form_at bytes (take k bytes) ≡ Some f) e v.front in
    some_same f g (sym at ∙ w.front)
  where
    some_same : (f g : Form) → Some f ≡ Some g → f ≡ g
    some_same f g e = cc

pub word_or_none : (bytes : List ℕ) (f : Form) (n : ℕ) → IsWord bytes f n → HasNoWord bytes → ⊥
word_or_none bytes f n w h = let e = sym (h.none n w.within) ∙ w.front in cc

-- a word and a fault have their place before the end
word_room : (source : List ℕ) (place : ℕ) (f : Form) (n : ℕ) → IsWord (drop place source) f n → place < length source
word_room source place f n w = omega (arith, word_some (drop place source) f n w, w.within, length-drop place source)

fault_room : (bytes : List ℕ) (line : ℕ) (fault : LexFault) → IsFault bytes line fault → 0 < length bytes
fault_room bytes line _ (faulty {kind} {n} w e) = omega (arith, word_some bytes (words.Token kind) n w, w.within)
fault_room bytes line _ (missing l h) = l

token_kind : (k l : TokenKind) → words.Token k ≡ words.Token l → k ≡ l
token_kind k l e = cc

some_fault : (f g : LexFault) → Some f ≡ Some g → f ≡ g
some_fault f g e = cc

some_none : (f : LexFault) → Some f ≡ None → ⊥
some_none f e = cc

-- the fault at one place is one
one_fault : (bytes : List ℕ) (line : ℕ) (f g : LexFault) → IsFault bytes line f → IsFault bytes line g → f ≡ g
one_fault bytes line f g (faulty {kind} {n} w e) (faulty {kind = other} {n = m} v d) =
    let same = one_len bytes (words.Token kind) (words.Token other) n m w v in
    let form = one_form bytes (words.Token kind) (words.Token other) n m w v in
    some_fault f g (sym e ∙ ap (λ k. fault_of k (take n bytes) line) (token_kind kind other form) ∙ ap (λ k. fault_of other (take k bytes) line) same ∙ d)
one_fault bytes line f _ (faulty {kind} {n} w e) (missing l h) = absurd (word_or_none bytes (words.Token kind) n w h)
one_fault bytes line _ g (missing l h) (faulty {kind} {n} w e) = absurd (word_or_none bytes (words.Token kind) n w h)
one_fault bytes line _ _ (missing l h) (missing k j) = refl

gap_token : (kind : TokenKind) → Gap ≡ words.Token kind → ⊥
gap_token kind e = cc

-- what stands at a place says how the answer goes on
module _ (source : List ℕ) (place : ℕ) where
  at_end : (answer : Answer) → length source ≤ place → Divides source place answer → answer ≡ Ok []
  at_end _ l (ends k) = refl
  at_end answer l (skips {n} w d) = absurd (omega (arith, word_room source place Gap n w))
  at_end answer l (takes {n} {kind} w f d e) = absurd (omega (arith, word_room source place (words.Token kind) n w))
  at_end _ l (fails {fault} f) = absurd (omega (arith, fault_room (drop place source) (line_at source place) fault f, length-drop place source))

  pub at_gap : (n : ℕ) (answer : Answer) → IsWord (drop place source) Gap n → Divides source place answer → Divides source (place + n) answer
  at_gap n _ v (ends k) = absurd (omega (arith, word_room source place Gap n v))
  at_gap n answer v (skips {n = m} w d) = subst (λ k. Divides source (place + k) answer) (sym (one_len (drop place source) Gap Gap n m v w)) d
  at_gap n answer v (takes {n = m} {kind} w f d e) = absurd (gap_token kind (one_form (drop place source) Gap (words.Token kind) n m v w))
  at_gap n _ v (fails (faulty {kind} {n = m} w e)) = absurd (gap_token kind (one_form (drop place source) Gap (words.Token kind) n m v w))
  at_gap n _ v (fails (missing l h)) = absurd (word_or_none (drop place source) Gap n v h)

  no_gap : (fault : LexFault) (n : ℕ) → IsFault (drop place source) (line_at source place) fault → IsWord (drop place source) Gap n → ⊥
  no_gap _ n (faulty {kind} {n = m} v e) w = gap_token kind (one_form (drop place source) Gap (words.Token kind) n m w v)
  no_gap _ n (missing l h) w = word_or_none (drop place source) Gap n w h

  -- a token without fault is no fault
  sound_token : (kind : TokenKind) (n : ℕ) (fault : LexFault) → IsWord (drop place source) (words.Token kind) n → fault_of kind (take n (drop place source)) (line_at source place) ≡ None
      → IsFault (drop place source) (line_at source place) fault → ⊥
  sound_token kind n fault v g (faulty {kind = other} {n = m} w e) =
      let same = one_len (drop place source) (words.Token other) (words.Token kind) m n w v in
      let form = token_kind other kind (one_form (drop place source) (words.Token other) (words.Token kind) m n w v) in
      some_none fault (sym e ∙ ap (λ k. fault_of k (take m (drop place source)) (line_at source place)) form ∙ ap (λ k. fault_of kind (take k (drop place source)) (line_at source place)) same ∙ g)
  sound_token kind n _ v g (missing l h) = word_or_none (drop place source) (words.Token kind) n v h

  -- the answer behind a token
  pub record GoesOn (kind : TokenKind) (n : ℕ) (answer : Answer) : Type 0 where
    pub rest : Answer
    pub divides : Divides source (place + n) rest
    pub is : answer ≡ in_front (token_at kind place (place + n)) rest

  pub at_token : (kind : TokenKind) (n : ℕ) (answer : Answer) → IsWord (drop place source) (words.Token kind) n → fault_of kind (take n (drop place source)) (line_at source place) ≡ None
      → Divides source place answer → GoesOn kind n answer
  at_token kind n _ v g (ends k) = absurd (omega (arith, word_room source place (words.Token kind) n v))
  at_token kind n answer v g (skips {n = m} w d) = absurd (gap_token kind (one_form (drop place source) Gap (words.Token kind) m n w v))
  at_token kind n answer v g (takes {n = m} {kind = other} {rest} w f d e) =
      let same = one_len (drop place source) (words.Token other) (words.Token kind) m n w v in
      let form = token_kind other kind (one_form (drop place source) (words.Token other) (words.Token kind) m n w v) in
      record {
        rest = rest;
        divides = subst (λ k. Divides source (place + k) rest) same d;
        is = e ∙ ap (λ k. in_front (token_at k place (place + m)) rest) form ∙ ap (λ k. in_front (token_at kind place (place + k)) rest) same;
      }
  at_token kind n _ v g (fails {fault} f) = absurd (sound_token kind n fault v g f)

  at_fault : (fault : LexFault) (answer : Answer) → IsFault (drop place source) (line_at source place) fault → Divides source place answer → answer ≡ Err fault
  at_fault fault _ f (ends k) = absurd (omega (arith, fault_room (drop place source) (line_at source place) fault f, length-drop place source))
  at_fault fault answer f (skips {n} w d) = absurd (no_gap fault n f w)
  at_fault fault answer f (takes {n} {kind} w g d e) = absurd (sound_token kind n fault w g f)
  at_fault fault _ f (fails {fault = other} g) = ap Err (one_fault (drop place source) (line_at source place) other fault g f)

-- two answers of one source from one place are one
pub one_answer : (source : List ℕ) (place : ℕ) (a b : Answer) → Divides source place a → Divides source place b → a ≡ b
one_answer source place _ b (ends l) e = sym (at_end source place b l e)
one_answer source place a b (skips {n} w d) e = one_answer source (place + n) a b d (at_gap source place n b w e)
one_answer source place a b (takes {n} {kind} {rest} w f d is) e =
    let other = at_token source place kind n b w f e in
    is ∙ ap (in_front (token_at kind place (place + n))) (one_answer source (place + n) rest other.rest d other.divides) ∙ sym other.is
one_answer source place _ b (fails {fault} f) e = sym (at_fault source place fault b f e)
