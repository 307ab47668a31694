-- Readers of parts that are put together, and of what comes of them in another order.
use Rattle.std.proofs.Common.{◌≡◌, ◌≤◌, ◌<◌, ◌⊎◌, inl, inr, Bool, true, false, not, ◌∷◌, length, refl, subst, arith, Option, Some, None, Ok, Err}
use denote.Enum.Bare.{sameb}
use Rattle.nf_grammar.specs.Parts as part
use Rattle.nf_grammar.specs.inner.Parsers as parser
use Rattle.nf_grammar.specs.inner.Parsers.{place, bind}
use Rattle.nf_grammar.proofs.Public.OutcomeLemmas.{no_ok}
use Rattle.nf_grammar.proofs.Public.ReaderLemmas.{Next, always, IsReader, IsShorter, done_reader, then_reader, choose_reader, forward}
use Rattle.nf_grammar.proofs.Public.TokenReaderLemmas.{token_shorter}
use Rattle.nf_grammar.proofs.Public.RepeatedReaderLemmas.{repeated_reader}
use Rattle.nf_grammar.proofs.Public.TakingReaderLemmas.{then_shorter, IsTaking, then_taking}
use Rattle.nf_grammar.proofs.Public.LimitLemmas.{IsLarger, done_larger, then_larger, choose_larger, repeated_larger}
use Rattle.nf_cparse.specs.contracts.symbol.Sym.{the_type}
use Rattle.nf_cparse.specs.declared.symbol.Sym.{Sym}
use Rattle.nf_cparse.specs.declared.symbol.Sym.TheVariants as sym
use Rattle.nf_cparse.specs.Lexing.{Word}
use Rattle.nf_cparse.specs.Grammar as grammar
use Rattle.nf_cparse.specs.Grammar.{Production, of_kind}
use Rattle.nf_cparse.specs.inner.Parsers.{State, Outcome, Parser, is_kind}
use Rattle.nf_cparse.specs.inner.Parsers as named
use Rattle.nf_cparse.proofs.ExpressionReaderLemmas.{IsKind, word_reader, after_reader, BeginsExpression, no_sign, apart}
use Rattle.nf_cparse.proofs.LimitReaderLemmas.{after_larger}

-- a word that takes itself
pub word_taking : (k : Sym) → IsTaking (named.token k) (grammar.word k) (IsKind k) always
word_taking k = record { reader = word_reader k; shorter = token_shorter (of_kind k) }

pub after_taking : {A : Type 0} (k : Sym) {p : Parser A} {P : Production A} {begin stop : Next Word}
    → IsReader p P begin stop → IsTaking (named.after k p) (grammar.behind k P) (IsKind k) stop
after_taking k r = then_taking (word_taking k) (λ word. r) (λ n h. tt)

-- a part between two words, with the second of which it may end
pub enclosed_reader : {A : Type 0} (opening closing : Sym) {p : Parser A} {P : Production A} {begin stop : Next Word}
    → IsReader p P begin stop → ((n : Option Word) → IsKind closing n → stop n)
    → IsReader (named.enclosed opening p closing) (grammar.enclosed opening P closing) (IsKind opening) always
enclosed_reader opening closing r ends = after_reader opening (then_reader r (λ x. after_reader closing (done_reader x always)) ends)

-- [ part ]
pub optional_reader : {A : Type 0} {test : Option Word → Bool} {p : Parser A} {P : Production A} {begin stop_part stop : Next Word}
    → IsReader p P begin stop_part
    → ((n : Option Word) → stop n → stop_part n) → ((n : Option Word) → begin n → test n ≡ true)
    → ((n : Option Word) → stop n → test n ≡ false)
    → IsReader (named.optional test p) (part.optional P) (λ n. begin n ⊎ stop n) stop
optional_reader {stop} r stops takes leaves = choose_reader (then_reader r (λ x. done_reader (Some x) stop) stops) (done_reader None stop) takes leaves

-- part { separator part }
pub separated_reader : {A : Type 0} (separator : Sym) {p : Parser A} {P : Production A} {begin stop_part stop : Next Word}
    → IsReader p P begin stop_part
    → ((n : Option Word) → IsKind separator n → stop_part n)
    → ((n : Option Word) → stop n → stop_part n)
    → ((n : Option Word) → stop n → is_kind separator n ≡ false)
    → IsReader (named.separated separator p) (part.separated (of_kind separator) P) begin stop
separated_reader separator {p} {stop} r again stops leaves = then_reader r
    (λ x. then_reader (repeated_reader (after_reader separator r) (then_shorter (named.token separator) (λ word. p) (token_shorter (of_kind separator)) (λ word s. forward r s)) again stops (λ n h. h) leaves)
    (λ xs. done_reader (x ∷ xs) stop) (λ n h. h)) (λ n h. elim h [ inl b ↦ again n b | inr e ↦ stops n e ])

-- what begins with a part that takes no word, perhaps, and then has one that does
pub later_shorter : {A B : Type 0} (p : Parser A) (k : A → Parser B) → ((s : State) → place (p s) ≤ length s.words)
    → ((x : A) → IsShorter (k x)) → IsShorter (parser.and_then p k)
later_shorter {A} {B} p k fore short = record { fewer = λ s t y e. go s t y (p s) refl e }
  where
    go : (s t : State) (y : B) (o : Outcome A) → p s ≡ o → bind o k ≡ Ok (y, t)
        → length t.words < length s.words
    go s t y (Ok read) e f = omega (arith, (short read.0).fewer read.1 t y f, subst (λ o. place o ≤ length s.words) e (fore s))
    go s t y (Err f) e g = absurd (no_ok f (y, t) g)

-- a parser that does the same at each state goes by the same part
pub equal_reader : {A : Type 0} {p q : Parser A} {P : Production A} {begin stop : Next Word}
    → ((s : State) → q s ≡ p s) → IsReader q P begin stop → IsReader p P begin stop
equal_reader {P} {begin} {stop} h r = subst (λ r. IsReader r P begin stop) (λ i s. h s i) r

pub equal_shorter : {A : Type 0} {p q : Parser A} → ((s : State) → q s ≡ p s) → IsShorter q → IsShorter p
equal_shorter h r = subst (λ r. IsShorter r) (λ i s. h s i) r

-- what follows an outcome, step by step
pub same : {A B : Type 0} (o : Outcome A) (k l : A → Parser B) → ((x : A) (s : State) → k x s ≡ l x s) → bind o k ≡ bind o l
same (Ok read) k l h = h read.0 read.1
same (Err f) k l h = refl

pub flat : {A B C : Type 0} (o : Outcome A) (k : A → Parser B) (l : B → Parser C) (m : A → Parser C)
    → ((x : A) (s : State) → bind (k x s) l ≡ m x s) → bind (bind o k) l ≡ bind o m
flat (Ok read) k l m h = h read.0 read.1
flat (Err f) k l m h = refl

-- an expression begins with no word of another kind
pub record BeginsNone (k : Sym) : Type 0 where
  pub no_minus : sameb the_type k sym.Minus ≡ false
  pub no_bang : sameb the_type k sym.Bang ≡ false
  pub no_literal : sameb the_type sym.Lit k ≡ false
  pub no_name : sameb the_type sym.Ident k ≡ false
  pub no_open : sameb the_type sym.Open k ≡ false

pub begins_none : (k : Sym) → BeginsNone k → (n : Option Word) → BeginsExpression n → is_kind k n ≡ false
begins_none k d n (inl sign) = go (is_kind k n) refl
  where
    go : (b : Bool) → is_kind k n ≡ b → b ≡ false
    go false e = refl
    go true e = let none = no_sign k d.no_minus d.no_bang n e in absurd (cc)
begins_none k d n (inr (inl h)) = apart sym.Lit k d.no_literal n h
begins_none k d n (inr (inr (inl h))) = apart sym.Ident k d.no_name n h
begins_none k d n (inr (inr (inr h))) = apart sym.Open k d.no_open n h

pub no_close : BeginsNone sym.Close
no_close = record { no_minus = refl; no_bang = refl; no_literal = refl; no_name = refl; no_open = refl }

pub no_semicolon : BeginsNone sym.Semicolon
no_semicolon = record { no_minus = refl; no_bang = refl; no_literal = refl; no_name = refl; no_open = refl }

pub not_false : (b : Bool) → b ≡ false → not b ≡ true
not_false b h = rw h refl

pub not_true : (b : Bool) → b ≡ true → not b ≡ false
not_true b h = rw h refl

-- within larger limits
module _ {A : Type 0} {p q : Parser A} (larger : IsLarger p q) where
  pub enclosed_larger : (opening closing : Sym) → IsLarger (named.enclosed opening p closing) (named.enclosed opening q closing)
  enclosed_larger opening closing = after_larger (then_larger larger (λ x. after_larger (done_larger x) closing)) opening

  pub optional_larger : (test : Option Word → Bool) → IsLarger (named.optional test p) (named.optional test q)
  optional_larger test = choose_larger test (then_larger larger (λ x. done_larger (Some x))) (done_larger None)

  pub separated_larger : (separator : Sym) → IsLarger (named.separated separator p) (named.separated separator q)
  separated_larger separator = then_larger larger (λ x. then_larger (repeated_larger (is_kind separator) (after_larger larger separator)) (λ xs. done_larger (x ∷ xs)))
