-- Tokens that were read.
use Rattle.std.proofs.Common.{◌≡◌, ℕ, ◌+◌, ◌≤◌, List, [], ◌∷◌, ◌++◌, length, drop, refl, sym, ap, ◌∙◌, subst, Ok, Err, Bool, true, false, nat_eq, true≢false, arith, length-append}
use Rattle.std.specs.List.{starts_with}
use Rattle.std.proofs.lemmas.List.{append_assoc}
use Rattle.std.proofs.lemmas.Bool.Decides.{Decides-eqb}
use Rattle.std.proofs.lemmas.Slice.Eq.{starts_is}
use Rattle.std.proofs.Math.Seq.{drop-append_seam}
use Rattle.nf_cast.specs.Text.{include_text}
use Rattle.nf_cparse.specs.Lexing.{Word, Answer, in_front, Lexes, LexesText, text, no_include}
use Rattle.nf_cparse.specs.inner.Tokens.{Place, place, IsNext, AreTokens, words_at}
use Rattle.nf_cparse.proofs.CommentLemmas.{begins}
use Rattle.nf_cparse.proofs.LexingLemmas.{lexes_one, lexes_some, lexed_at}
use Rattle.nf_cparse.proofs.WordLemmas.{are_tokens}

-- an answer behind tokens
pub behind_words : List Word → Answer → Answer
behind_words found (Ok words) = Ok (found ++ words)
behind_words found (Err line) = Err line

-- so many tokens were read between two places: whatever stands behind the later place stands behind them
pub record IsReadSoFar (start : Place) (count : ℕ) (now : Place) : Type 0 where
  pub found : List Word
  pub counted : length found ≡ count
  pub shorter : count + length now.rest ≤ length start.rest
  pub goes_on : (answer : Answer) → Lexes now.line now.rest answer → Lexes start.line start.rest (behind_words found answer)

behind_none : (answer : Answer) → behind_words [] answer ≡ answer
unfolding behind_words
behind_none (Ok words) = refl
behind_none (Err line) = refl

behind_more : (found : List Word) (word : Word) (answer : Answer) → behind_words found (in_front word answer) ≡ behind_words (found ++ word ∷ []) answer
unfolding behind_words
behind_more found word (Ok words) = ap Ok (sym (append_assoc found (word ∷ []) words))
behind_more found word (Err line) = refl

pub read_start : (start : Place) → IsReadSoFar start 0 start
read_start start = record {
  found = [];
  counted = refl;
  shorter = omega arith;
  goes_on = λ answer l. subst (Lexes start.line start.rest) (sym (behind_none answer)) l;
}

pub read_more : (start now next : Place) (count : ℕ) (word : Word) → IsReadSoFar start count now → IsNext now word next → IsReadSoFar start (count + 1) next
read_more start now next count word s n = record {
  found = s.found ++ word ∷ [];
  counted = omega (arith, length-append s.found (word ∷ []), s.counted);
  shorter = omega (arith, s.shorter, n.shorter);
  goes_on = λ answer l. subst (Lexes start.line start.rest) (behind_more s.found word answer) (s.goes_on (in_front word answer) (n.goes_on answer l));
}

pub read_end : (start : Place) (count : ℕ) (now : Place) → IsReadSoFar start count now → Lexes now.line now.rest (Ok []) → AreTokens start.line start.rest count
unfolding behind_words
read_end start count now s e = record {
  words = s.found ++ [];
  tokens = s.goes_on (Ok []) e;
  counted = omega (arith, length-append s.found [], s.counted);
  few = omega (arith, s.shorter);
}

pub read_fault : (start : Place) (count : ℕ) (now : Place) (line : ℕ) → IsReadSoFar start count now → Lexes now.line now.rest (Err line) → Lexes start.line start.rest (Err line)
unfolding behind_words
read_fault start count now line s e = s.goes_on (Err line) e

-- the whole text
pub text_words : (line count : ℕ) (bytes rest : List ℕ) → bytes ≡ include_text ++ rest → AreTokens (line + 1) rest count → LexesText line bytes (Ok (words_at (place rest (line + 1))))
text_words line count bytes rest e t = text e (subst (Lexes (line + 1) rest) (are_tokens (place rest (line + 1)) t.words t.tokens) (lexed_at (place rest (line + 1))))

pub fault_behind : (line at : ℕ) (bytes rest : List ℕ) → bytes ≡ include_text ++ rest → Lexes (line + 1) rest (Err at) → LexesText line bytes (Err at)
fault_behind line at bytes rest e l = text e l

pub include_missing : (line : ℕ) (bytes : List ℕ) → ((rest : List ℕ) → bytes ≡ include_text ++ rest → ⊥) → LexesText line bytes (Err line)
include_missing line bytes none = no_include none

-- one answer to a text
one_rest : (bytes rest other : List ℕ) → bytes ≡ include_text ++ rest → bytes ≡ include_text ++ other → rest ≡ other
one_rest bytes rest other e f = sym (drop-append_seam include_text rest) ∙ ap (drop (length include_text)) (sym e ∙ f) ∙ drop-append_seam include_text other

pub text_one : (line : ℕ) (bytes : List ℕ) (a b : Answer) → LexesText line bytes a → LexesText line bytes b → a ≡ b
text_one line bytes a b (text {rest = r} e l) (text {rest = s} f m) = lexes_one (line + 1) s a b (subst (λ x. Lexes (line + 1) x a) (one_rest bytes r s e f) l) m
text_one line bytes a _ (text {rest = r} e l) (no_include none) = absurd (none r e)
text_one line bytes _ b (no_include none) (text {rest = r} e l) = absurd (none r e)
text_one line bytes _ _ (no_include none) (no_include other) = refl

-- where the include line stands, the bytes begin with it
no_start : (bytes rest : List ℕ) → bytes ≡ include_text ++ rest → starts_with nat_eq bytes include_text ≡ false → ⊥
no_start bytes rest f e = true≢false (sym ((starts_is Decides-eqb bytes include_text (starts_with nat_eq bytes include_text) refl).1 rest f) ∙ e)

pub text_some : (line : ℕ) (bytes : List ℕ) → (answer : Answer) × LexesText line bytes answer
text_some line bytes = by (starts_with nat_eq bytes include_text) refl
  where
    by : (b : Bool) → starts_with nat_eq bytes include_text ≡ b → (answer : Answer) × LexesText line bytes answer
    by true e =
        let rest = drop (length include_text) bytes in
        let l = lexes_some (line + 1) rest in
        (l.0, text (begins bytes include_text e) l.1)
    by false e = (Err line, no_include (λ rest f. no_start bytes rest f e))
