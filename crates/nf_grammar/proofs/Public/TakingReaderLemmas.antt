-- Readers that take a word at least.
use Rattle.std.proofs.Common.{◌≡◌, ◌≤◌, ◌<◌, ◌⊎◌, Bool, true, false, cond, length, refl, ap, arith, Option, Ok, Err}
use Rattle.nf_grammar.specs.State.{State, next}
use Rattle.nf_grammar.specs.Parts.{Part}
use Rattle.nf_grammar.specs.Parts as part
use Rattle.nf_grammar.specs.inner.Parsers.{Outcome, Parser, place, bind}
use Rattle.nf_grammar.specs.inner.Parsers as parser
use Rattle.nf_grammar.proofs.Public.OutcomeLemmas.{no_ok}
use Rattle.nf_grammar.proofs.Public.ReaderLemmas.{Next, IsReader, IsShorter, forward, then_reader, choose_reader, weaken}

-- and so does what begins with a part that does
pub then_shorter : {W A B : Type 0} (p : Parser W A) (k : A → Parser W B) → IsShorter p
    → ((x : A) (s : State W) → place (k x s) ≤ length s.words) → IsShorter (parser.and_then p k)
then_shorter {W} {A} {B} p k short fore = record { fewer = λ s t y e. go s t y (p s) refl e }
  where
    go : (s t : State W) (y : B) (o : Outcome W A) → p s ≡ o → bind o k ≡ Ok (y, t)
        → length t.words < length s.words
    go s t y (Ok read) e f = omega (arith, short.fewer s read.1 read.0 e, fore read.0 read.1, ap place f)
    go s t y (Err f) e g = absurd (no_ok f (y, t) g)

-- a reader that takes a word at least
pub record IsTaking {W A : Type 0} (p : Parser W A) (P : Part W A) (begin stop : Next W) : Type 0 where
  pub reader : IsReader p P begin stop
  pub shorter : IsShorter p

-- a part that takes a word, and then another one
module _ {W A B : Type 0} {p : Parser W A} {k : A → Parser W B} {P : Part W A} {K : A → Part W B} {begin stop begin_rest stop_rest : Next W} where
  pub then_taking : IsTaking p P begin stop → ((x : A) → IsReader (k x) (K x) begin_rest stop_rest)
      → ((n : Option W) → begin_rest n → stop n)
      → IsTaking (parser.and_then p k) (part.and_then P K) begin stop_rest
  then_taking first_part rest_of joins = record {
    reader = then_reader first_part.reader rest_of joins;
    shorter = then_shorter p k first_part.shorter (λ x s. forward (rest_of x) s);
  }

-- one part or another, each of which takes a word
module _ {W A : Type 0} {test : Option W → Bool} {p q : Parser W A} {P Q : Part W A} {begin other stop : Next W} where
  pub choose_taking : IsTaking p P begin stop → IsTaking q Q other stop
      → ((n : Option W) → begin n → test n ≡ true) → ((n : Option W) → other n → test n ≡ false)
      → IsTaking (parser.choose test p q) (part.either P Q) (λ n. begin n ⊎ other n) stop
  unfolding parser.choose
  choose_taking one two takes leaves = record {
    reader = choose_reader one.reader two.reader takes leaves;
    shorter = record { fewer = λ s t x e. go s t x (test (next s)) e };
  }
    where
      go : (s t : State W) (x : A) (b : Bool) → cond b (p s) (q s) ≡ Ok (x, t)
          → length t.words < length s.words
      go s t x true e = one.shorter.fewer s t x e
      go s t x false e = two.shorter.fewer s t x e

-- fewer places where it may stop
pub weaken_taking : {W A : Type 0} {p : Parser W A} {P : Part W A} {begin stop wider fewer : Next W}
    → ((n : Option W) → begin n → wider n) → ((n : Option W) → fewer n → stop n)
    → IsTaking p P begin stop → IsTaking p P wider fewer
weaken_taking begins stops r = record { reader = weaken begins stops r.reader; shorter = r.shorter }
