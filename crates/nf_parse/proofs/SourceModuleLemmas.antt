-- What the modules of a source are.
use Rattle.std.proofs.Common.{◌≡◌, ◌≤◌, ◌<◌, ◌^◌, ◌-◌, ◌↔◌, ◌≤ℤ◌, ℕ, pos, List, length, refl, subst, arith, Some, None, Result, Ok, IsTrue}
use Rattle.std.proofs.lemmas.List.{length-map}
use Rattle.std.specs.List.{All}
use Rattle.std.specs.Str.Parse.{digits_value}
use Rattle.std.proofs.Math.Dec.{le→leb}
use Rattle.std.proofs.lemmas.List.Elements.{All-map, All-weaker}
use Rattle.nf_core.specs.Texts.{int_greatest}
use Rattle.nf_core.specs.Identifiers.{is_identifier}
use Rattle.nf_core.specs.Trees.{IsWritten, IsWrittenText}
use Rattle.nf_core.specs.declared.limits.TheConstants.{MOST_OPERATORS, MOST_OPEN}
use Rattle.nf_core.specs.declared.trees.Module.{Module}
use Rattle.nf_lex.specs.declared.token.Token.{Token}
use Rattle.nf_lex.specs.declared.token.TokenKind.TheVariants as tokens
use Rattle.nf_lex.specs.Words.{kind_of}
use Rattle.nf_lex.specs.Faults.{fault_of, body_of}
use Rattle.nf_lex.specs.Layout.{IsTokenOf, AreLaidOut, end, next}
use Rattle.nf_grammar.specs.State.{state}
use Rattle.nf_grammar.specs.declared.fault.Halt.{Halt}
use Rattle.nf_grammar.specs.inner.Parsers.{Reads}
use Rattle.nf_parse.specs.State.{Word, State, words_of, word_of}
use Rattle.nf_parse.specs.Answers.{rules_in, size_of}
use Rattle.nf_parse.specs.inner.Parsers.{IsSound}
use Rattle.nf_parse.specs.inner.RuleReading.{file, limited}
use Rattle.nf_parse.specs.inner.FileReading.{outcome_of}
use Rattle.nf_parse.proofs.WordByteLemmas.{number_small, text_kind, ident_kind}
use Rattle.nf_parse.proofs.ReadExpressionLemmas.{IsWord}
use Rattle.nf_parse.proofs.LimitLemmas.{IsByParts}
use Rattle.nf_parse.proofs.FileLemmas.{file_written}
use Rattle.nf_parse.proofs.RuleCountLemmas.{file_size}

-- what a call of the reader read is the outcome of the tokens
module _ (source : List ℕ) (found : List Token) (s new : State) (at : s ≡ state MOST_OPERATORS (words_of source found)) (r : Result (List Module) Halt) (reads : Reads (file limited s) r new) where
  pub reads_source : (q : Result (List Module) Halt) → r ≡ q → Reads (outcome_of source found) q new
  unfolding outcome_of
  reads_source q e = subst (λ z. Reads (file limited z) q new) at (subst (λ q. Reads (file limited s) q new) e reads)

-- a source has at least as many bytes as tokens
few_tokens : (source : List ℕ) (place : ℕ) (found : List Token) → AreLaidOut source place found
    → length found ≤ length source - place
few_tokens source place _ (end g) = omega arith
few_tokens source place _ (next {token} {tokens = found} a b c g k l) = let h = few_tokens source token.span.stop found l in omega arith

-- the words of tokens are sound
abbrev Sound : Word → Type 0
Sound word = IsSound word.0 word.1

token_sound : (source : List ℕ) (token : Token) → IsTokenOf source token
    → Sound (word_of source token)
token_sound source token t = record { kind = token.kind; is = refl; form = t.kind; sound = t.sound }

words_sound : (source : List ℕ) (found : List Token) → All (IsTokenOf source) found
    → All Sound (words_of source found)
words_sound source found h = All-map Sound (word_of source) found (All-weaker (IsTokenOf source) (λ token. Sound (word_of source token)) (token_sound source) found h)

-- what nf_lex says of tokens
pub record IsWrittenToken : Type 0 where
  pub identifier : (word : List ℕ)
      → (kind_of word ≡ Some tokens.Ident) ↔ IsTrue (is_identifier word)
  pub text : (word : List ℕ) (line : ℕ) → kind_of word ≡ Some tokens.Text
      → fault_of tokens.Text word line ≡ None → IsWrittenText (body_of word)

small : (n : ℕ) → n < 2 ^ 63 → pos n ≤ℤ int_greatest
small n h = omega (arith, le→leb)

word_of_expression : IsWrittenToken → IsWord Sound
word_of_expression w = record {
  name = λ bytes s. (w.identifier bytes).0 (subst (λ k. kind_of bytes ≡ Some k) (ident_kind s.kind bytes s.is) s.form);
  text = λ bytes s. w.text bytes 0 (subst (λ k. kind_of bytes ≡ Some k) (text_kind s.kind bytes s.is) s.form) (subst (λ k. fault_of k bytes 0 ≡ None) (text_kind s.kind bytes s.is) (s.sound 0));
  number = λ bytes s. small (digits_value 10 bytes) (number_small bytes s);
}

module _ (parts : IsByParts) (w : IsWrittenToken) (source : List ℕ) (found : List Token) (each : All (IsTokenOf source) found) where
  pub given_written : (modules : List Module) (t : State)
      → outcome_of source found ≡ Ok (modules, t) → All IsWritten (rules_in modules)
  unfolding outcome_of limited
  given_written modules t e = file_written parts Sound (word_of_expression w) MOST_OPEN (state MOST_OPERATORS (words_of source found)) t modules e (words_sound source found each)

module _ (source : List ℕ) (found : List Token) (laid : AreLaidOut source 0 found) where
  pub given_few : (modules : List Module) (t : State) → outcome_of source found ≡ Ok (modules, t)
      → size_of modules ≤ length source
  unfolding outcome_of limited
  given_few modules t e =
      let r = file_size MOST_OPEN (state MOST_OPERATORS (words_of source found)) t modules e in
      omega (arith, few_tokens source 0 found laid, length-map found (word_of source), r)
