-- The answers to a source.
use Rattle.std.proofs.Common.{◌≡◌, ◌≢◌, ◌⊎◌, inl, inr, ℕ, List, refl, sym, ap, ◌∙◌, subst, Result, Ok, Err, IfOk, ⊎_elim}
use Rattle.nf_core.specs.declared.trees.Module.{Module}
use Rattle.nf_lex.specs.declared.token.Token.{Token}
use Rattle.nf_lex.specs.declared.fault.LexFault.{LexFault}
use Rattle.nf_lex.specs.declared.fault.LexFault.TheVariants as lex
use Rattle.nf_lex.specs.Division.{Answer as Division, Divides}
use Rattle.nf_lex.proofs.Public.FaultLemmas.{no_memory}
use Rattle.nf_grammar.specs.Places.{IsText, Answers, text, too_deep, grammar, ends}
use Rattle.nf_grammar.specs.declared.fault.Fault.{Fault}
use Rattle.nf_grammar.specs.declared.fault.Fault.TheVariants as stop
use Rattle.nf_grammar.specs.declared.fault.Halt.{Halt}
use Rattle.nf_grammar.specs.declared.fault.Halt.TheVariants as halt
use Rattle.nf_grammar.specs.inner.Parsers.{Reads}
use Rattle.nf_grammar.proofs.Public.PlaceLemmas.{result_of, answered, one_answer}
use Rattle.nf_parse.specs.declared.fault.ParseFault.{ParseFault}
use Rattle.nf_parse.specs.declared.fault.ParseFault.TheVariants as fault
use Rattle.nf_parse.specs.State.{State, Word, words_of}
use Rattle.nf_parse.specs.Grammar.{file}
use Rattle.nf_parse.specs.Answers.{Spells, limits}
use Rattle.nf_parse.specs.Parses as parses
use Rattle.nf_parse.specs.Parses.{Answer, Parses, IsRefused, fault_at}
use Rattle.nf_parse.specs.inner.Parsers.{Outcome}
use Rattle.nf_parse.specs.inner.RuleReading.{limited}
use Rattle.nf_parse.specs.inner.FileReading.{outcome_of, halted_at}
use Rattle.nf_parse.specs.inner.Lexical.{of_lexical}
use Rattle.nf_parse.proofs.LimitReaderLemmas.{file_readers}

-- want of memory, or the answer to a source
abbrev pub OrNoMemory : List ℕ → Answer → Type 0
OrNoMemory source answer = (answer ≡ Err fault.NoMemory) ⊎ Parses source answer

-- what is read is the answer to words
outcome_answers : (source : List ℕ) (found : List Token)
    → Answers file limits (words_of source found) (result_of (outcome_of source found))
unfolding outcome_of limited
outcome_answers source found = answered file_readers limits (words_of source found)

-- words with modules are a text
is_text : (words : List Word) (r : Result (List Module) Fault) (modules : List Module)
    → Answers file limits words r → r ≡ Ok modules → IsText file limits words modules
is_text words _ modules (text {x} t) e = let h : x ≡ modules = cc in subst (λ m. IsText file limits words m) h t
is_text words _ modules (too_deep g h) e = absurd (cc)
is_text words _ modules (grammar g l h) e = absurd (cc)
is_text words _ modules (ends g h) e = absurd (cc)

-- what the code reads is an answer to the source
module _ (source : List ℕ) (found : List Token) (divides : Divides source 0 (Ok found)) where
  pub modules_answer : (modules : List Module) (t : State)
      → outcome_of source found ≡ Ok (modules, t) → Parses source (Ok modules)
  modules_answer modules t e = parses.modules (record {
    tokens = found;
    divides = divides;
    text = is_text (words_of source found) (result_of (outcome_of source found)) modules (outcome_answers source found) (ap result_of e);
  })

  fault_answer : (f : Fault) → outcome_of source found ≡ Err f
      → Parses source (Err (fault_at source found f))
  fault_answer f e = parses.refused (record {
    tokens = found;
    at = f;
    divides = divides;
    answer = subst (λ o. Answers file limits (words_of source found) (result_of o)) e (outcome_answers source found);
    is = refl;
  })

  -- where the reader stops
  pub stop_answer : (h : Halt) (new : State) → Reads (outcome_of source found) (Err h) new
      → OrNoMemory source (Err (halted_at source found h))
  stop_answer halt.NoMemory new r = inl refl
  stop_answer (halt.At f) new r = inr (fault_answer f r)

  -- there is one
  some_answer : (answer : Answer) × Parses source answer
  some_answer = by (outcome_of source found) refl
    where
      by : (o : Outcome (List Module)) → outcome_of source found ≡ o
          → (answer : Answer) × Parses source answer
      by (Ok read) e = (Ok read.0, modules_answer read.0 read.1 e)
      by (Err f) e = (Err (fault_at source found f), fault_answer f e)

pub every_answer : (source : List ℕ) (division : Division) → Divides source 0 division
    → (answer : Answer) × Parses source answer
every_answer source (Ok found) d = some_answer source found d
every_answer source (Err f) d = (Err (fault.Lex f), parses.lexical d)

-- a refusal is none for want of memory, and no lexical one
fault_not_memory : (source : List ℕ) (found : List Token) (at : Fault)
    → fault_at source found at ≡ fault.NoMemory → ⊥
fault_not_memory source found (stop.Grammar n) e = cc
fault_not_memory source found (stop.TooDeep n) e = cc

fault_not_lexical : (source : List ℕ) (found : List Token) (at : Fault) (f : LexFault)
    → fault_at source found at ≡ fault.Lex f → ⊥
fault_not_lexical source found (stop.Grammar n) f e = cc
fault_not_lexical source found (stop.TooDeep n) f e = cc

fault_is : (a b : ParseFault) → ◌≡◌ {A = Answer} (Err a) (Err b) → a ≡ b
fault_is a b e = cc

-- want of memory is no answer, nor is a lexical fault that is want of memory
pub not_memory : (source : List ℕ) (answer : Answer) → Parses source answer
    → answer ≡ Err fault.NoMemory → ⊥
not_memory source _ (parses.modules v) e = cc
not_memory source _ (parses.lexical d) e = cc
not_memory source _ (parses.refused {found} w) e = fault_not_memory source w.tokens w.at (sym w.is ∙ fault_is found fault.NoMemory e)

pub lexical_divides : (source : List ℕ) (answer : Answer) (f : LexFault) → Parses source answer
    → answer ≡ Err (fault.Lex f) → Divides source 0 (Err f)
lexical_divides source _ f (parses.modules v) e = absurd (cc)
lexical_divides source _ f (parses.lexical {first} d) e = let is : first ≡ f = cc in subst (λ g. Divides source 0 (Err g)) is d
lexical_divides source _ f (parses.refused {found} w) e = absurd (fault_not_lexical source w.tokens w.at f (sym w.is ∙ fault_is found (fault.Lex f) e))

pub not_lexical_memory : (source : List ℕ) (answer : Answer) → Parses source answer
    → answer ≡ Err (fault.Lex lex.NoMemory) → ⊥
not_lexical_memory source answer v e = no_memory source 0 (Err lex.NoMemory) (lexical_divides source answer lex.NoMemory v e) refl

-- a refusal with a line
refused_with : (source : List ℕ) (answer : Answer) (f : ParseFault)
    → ((g : LexFault) → f ≡ fault.Lex g → ⊥) → Parses source answer → answer ≡ Err f
    → IsRefused source f
refused_with source _ f other (parses.modules v) e = absurd (cc)
refused_with source _ f other (parses.lexical {first} d) e = absurd (other first (sym (fault_is (fault.Lex first) f e)))
refused_with source _ f other (parses.refused {found} w) e = subst (IsRefused source) (fault_is found f e) w

-- two answers are one
abbrev pub IsOneDivision : Type 0
IsOneDivision = (source : List ℕ) (place : ℕ) (a b : Division) → Divides source place a → Divides source place b → a ≡ b

module _ (one : IsOneDivision) (source : List ℕ) where
  tokens_same : (a b : List Token) → Divides source 0 (Ok a) → Divides source 0 (Ok b) → a ≡ b
  tokens_same a b d e = value (Ok a) a b refl (one source 0 (Ok a) (Ok b) d e)
    where
      value : (o : Division) (a b : List Token) → o ≡ Ok a → o ≡ Ok b → a ≡ b
      value o a b p q = cc

  no_tokens : (a : List Token) (f : LexFault) → Divides source 0 (Ok a) → Divides source 0 (Err f)
      → ⊥
  no_tokens a f d e = apart (Ok a) f refl (one source 0 (Ok a) (Err f) d e)
    where
      apart : (o : Division) (f : LexFault) → o ≡ Ok a → o ≡ Err f → ⊥
      apart o f p q = cc

  faults_same : (f g : LexFault) → Divides source 0 (Err f) → Divides source 0 (Err g) → f ≡ g
  faults_same f g d e = value (Err f) f g refl (one source 0 (Err f) (Err g) d e)
    where
      value : (o : Division) (f g : LexFault) → o ≡ Err f → o ≡ Err g → f ≡ g
      value o f g p q = cc

  words_answer : (a b : List Token) (r q : Result (List Module) Fault) → Divides source 0 (Ok a)
      → Divides source 0 (Ok b) → Answers file limits (words_of source a) r
      → Answers file limits (words_of source b) q → r ≡ q
  words_answer a b r q d e v w = one_answer file_readers limits (words_of source b) r q (subst (λ ts. Answers file limits (words_of source ts) r) (tokens_same a b d e) v) w

  pub spelled_once : (a b : List Module) → Spells source a → Spells source b → a ≡ b
  spelled_once a b v w = value (Ok a) a b refl (words_answer v.tokens w.tokens (Ok a) (Ok b) v.divides w.divides (text v.text) (text w.text))
    where
      value : (o : Result (List Module) Fault) (a b : List Module) → o ≡ Ok a → o ≡ Ok b → a ≡ b
      value o a b p q = cc

  not_refused : (a : List Module) (f : ParseFault) → Spells source a → IsRefused source f → ⊥
  not_refused a f v w = apart (Ok a) w.at refl (words_answer v.tokens w.tokens (Ok a) (Err w.at) v.divides w.divides (text v.text) w.answer)
    where
      apart : (o : Result (List Module) Fault) (f : Fault) → o ≡ Ok a → o ≡ Err f → ⊥
      apart o f p q = cc

  pub refused_once : (f g : ParseFault) → IsRefused source f → IsRefused source g → f ≡ g
  refused_once f g v w =
      let e = value (Err v.at) v.at w.at refl (words_answer v.tokens w.tokens (Err v.at) (Err w.at) v.divides w.divides v.answer w.answer) in
      v.is ∙ ap (λ ts. fault_at source ts v.at) (tokens_same v.tokens w.tokens v.divides w.divides) ∙ ap (fault_at source w.tokens) e ∙ sym w.is
    where
      value : (o : Result (List Module) Fault) (a b : Fault) → o ≡ Err a → o ≡ Err b → a ≡ b
      value o a b p q = cc

  pub answered_once : (a b : Answer) → Parses source a → Parses source b → a ≡ b
  answered_once _ _ (parses.modules {found = m} v) (parses.modules {found = n} w) = ap Ok (spelled_once m n v w)
  answered_once _ _ (parses.modules {found = m} v) (parses.lexical {first = f} d) = absurd (no_tokens v.tokens f v.divides d)
  answered_once _ _ (parses.modules {found = m} v) (parses.refused {found = f} w) = absurd (not_refused m f v w)
  answered_once _ _ (parses.lexical {first = f} d) (parses.modules w) = absurd (no_tokens w.tokens f w.divides d)
  answered_once _ _ (parses.lexical {first = f} d) (parses.lexical {first = g} e) = ap (λ h. Err (fault.Lex h)) (faults_same f g d e)
  answered_once _ _ (parses.lexical {first = f} d) (parses.refused w) = absurd (no_tokens w.tokens f w.divides d)
  answered_once _ _ (parses.refused {found = f} v) (parses.modules {found = n} w) = absurd (not_refused n f w v)
  answered_once _ _ (parses.refused v) (parses.lexical {first = g} e) = absurd (no_tokens v.tokens g v.divides e)
  answered_once _ _ (parses.refused {found = f} v) (parses.refused {found = g} w) = ap Err (refused_once f g v w)

-- what an answer says
modules_spelled : (source : List ℕ) (r : Answer) → Parses source r → IfOk r (Spells source)
modules_spelled source _ (parses.modules v) = v
modules_spelled source _ (parses.lexical d) = tt
modules_spelled source _ (parses.refused w) = tt

pub only_given : IsOneDivision → (source : List ℕ) (result : Answer) → OrNoMemory source result
    → (answer : Answer) → Parses source answer → (result ≡ answer) ⊎ (result ≡ Err fault.NoMemory)
only_given one source result (inl e) answer w = inr e
only_given one source result (inr v) answer w = inl (answered_once one source result answer v w)

module _ (source : List ℕ) (result : Answer) (answer : OrNoMemory source result) where
  -- a refusal that isn't want of memory is an answer
  is_answer : (f : ParseFault) → (f ≡ fault.NoMemory → ⊥) → result ≡ Err f → Parses source result
  is_answer f not e = ⊎_elim (λ (n : result ≡ Err fault.NoMemory). absurd (not cc)) (λ p. p) answer

  pub modules_given : IfOk result (Spells source)
  modules_given = ⊎_elim (λ (n : result ≡ Err fault.NoMemory). subst (λ r. IfOk r (Spells source)) (sym n) tt) (modules_spelled source result) answer

  pub lexical_given : (f : LexFault) → result ≡ Err (fault.Lex f)
      → Divides source 0 (Err f) × (f ≢ lex.NoMemory)
  lexical_given f e =
      let d = lexical_divides source result f (is_answer (fault.Lex f) (λ i. cc) e) e in
      (d, λ i. no_memory source 0 (Err f) d (ap Err i))

  pub grammar_given : (line : ℕ) → result ≡ Err (fault.Grammar line)
      → IsRefused source (fault.Grammar line)
  grammar_given line e = refused_with source result (fault.Grammar line) (λ g i. cc) (is_answer (fault.Grammar line) (λ i. cc) e) e

  pub deep_given : (line : ℕ) → result ≡ Err (fault.TooDeep line)
      → IsRefused source (fault.TooDeep line)
  deep_given line e = refused_with source result (fault.TooDeep line) (λ g i. cc) (is_answer (fault.TooDeep line) (λ i. cc) e) e

-- the answer of a lexical fault
lexical_kept : (source : List ℕ) (f : LexFault) → Divides source 0 (Err f)
    → OrNoMemory source (Err (of_lexical f))
lexical_kept source lex.NoMemory d = inl refl
lexical_kept source (lex.BadByte n) d = inr (parses.lexical d)
lexical_kept source (lex.BadText n) d = inr (parses.lexical d)
lexical_kept source (lex.OpenText n) d = inr (parses.lexical d)
lexical_kept source (lex.OpenComment n) d = inr (parses.lexical d)
lexical_kept source (lex.BigNumber n) d = inr (parses.lexical d)

pub lexical_answer : (source : List ℕ) (f : LexFault)
    → (f ≡ lex.NoMemory) ⊎ Divides source 0 (Err f) → OrNoMemory source (Err (of_lexical f))
lexical_answer source f h = ⊎_elim (λ (e : f ≡ lex.NoMemory). inl (ap (λ g. Err (of_lexical g)) e)) (lexical_kept source f) h
