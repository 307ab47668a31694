-- Readers within larger limits: they read the same, unless a limit was passed, and then they go further.
use Rattle.std.proofs.Common.{◌≡◌, ◌≤◌, ◌<◌, ◌+◌, ℕ, zero, suc, Bool, true, false, cond, List, [], ◌∷◌, length, refl, arith, Option, Some, None, Ok, Err}
use Rattle.nf_grammar.specs.State.{State, state, next, next_of}
use Rattle.nf_grammar.specs.declared.fault.Fault.TheVariants as fault
use Rattle.nf_grammar.specs.inner.Parsers.{Outcome, Parser, place_of, place, refuse, too_deep, bind, in_table, tail_of, behind, given, use_up, counting, in_list, restored, repeated_from}
use Rattle.nf_grammar.specs.inner.Parsers as parser
use Rattle.nf_grammar.proofs.Public.OutcomeLemmas.{bind_place, choose_place, list_place, restored_place}
use Rattle.nf_grammar.proofs.Public.ReaderLemmas.{forward}
use Rattle.nf_grammar.proofs.Public.TokenReaderLemmas.{token_reader, counted_reader}

-- the state in which so many counted words more may stand
abbrev pub plus : {W : Type 0} → ℕ → State W → State W
plus m s = state (s.room + m) s.words

-- the second outcome is that of the first with more room, unless the first passed a limit; then the second goes further
unfoldable pub IsLater : {W A : Type 0} → ℕ → Outcome W A → Outcome W A → Type 0
IsLater m (Ok read) o = o ≡ Ok (read.0, plus m read.1)
IsLater m (Err (fault.Grammar n)) o = o ≡ Err (fault.Grammar n)
IsLater m (Err (fault.TooDeep n)) o = place o < n

-- the second parser reads what the first one reads with more room, unless that passed a limit, where it goes further; and it reads no way back
pub record IsLarger {W A : Type 0} (p q : Parser W A) : Type 0 where
  pub later : (m : ℕ) (s : State W) → 0 < m → IsLater m (p s) (q (plus m s))
  pub forward : (s : State W) → place (q s) ≤ length s.words

pub done_larger : {W A : Type 0} (x : A) → IsLarger {W = W} (parser.done x) (parser.done x)
unfolding IsLater
done_larger x = record { later = λ m s h. refl; forward = λ s. omega arith }

pub token_larger : {W A : Type 0} (table : W → Option A)
    → IsLarger (parser.token table) (parser.token table)
unfolding parser.token IsLater
token_larger {W} {A} table = record { later = λ m s h. go m s (in_table table (next s)); forward = λ s. forward (token_reader table) s }
  where
    go : (m : ℕ) (s : State W) (o : Option A) → IsLater m (given o s) (given o (plus m s))
    go m s None = refl
    go m s (Some x) = refl

-- where a counted word may not stand, it may with more room
counting_later : {W A : Type 0} (table : W → Option A) (m n k : ℕ) (words : List W) (o : Option A)
    → 0 < m → k ≡ n + m → in_table table (next_of words) ≡ o
    → IsLater m (counting o (state n words)) (counting o (state k words))
unfolding IsLater
counting_later table m n k words None h i e = refl
counting_later table m n k [] (Some x) h i e = absurd (cc)
counting_later table m zero zero (w ∷ ws) (Some x) h i e = absurd (omega (arith, h, i))
counting_later table m zero (suc k) (w ∷ ws) (Some x) h i e = omega arith
counting_later table m (suc n) zero (w ∷ ws) (Some x) h i e = absurd (omega (arith, i))
counting_later table m (suc n) (suc k) (w ∷ ws) (Some x) h i e = let j : k ≡ n + m = omega (arith, i) in rw j refl

pub counted_larger : {W A : Type 0} (table : W → Option A)
    → IsLarger (parser.counted table) (parser.counted table)
unfolding parser.counted
counted_larger table = record {
  later = λ m s h. counting_later table m s.room (s.room + m) s.words (in_table table (next s)) h refl refl;
  forward = λ s. forward (counted_reader table) s;
}

-- one part after another
module _ {W A B : Type 0} {p q : Parser W A} {k l : A → Parser W B} (part : IsLarger p q) (rest : (x : A) → IsLarger (k x) (l x)) where
  rest_place : (o : Outcome W A) → place (bind o l) ≤ place o
  rest_place o = bind_place o l (λ x. (rest x).forward)

  bind_later : (m : ℕ) (o r : Outcome W A) → 0 < m → IsLater m o r → IsLater m (bind o k) (bind r l)
  unfolding IsLater
  bind_later m (Ok read) r b h = rw h ((rest read.0).later m read.1 b)
  bind_later m (Err (fault.Grammar n)) r b h = rw h refl
  bind_later m (Err (fault.TooDeep n)) r b h = omega (arith, h, rest_place r)

  pub then_larger : IsLarger (parser.and_then p k) (parser.and_then q l)
  then_larger = record { later = λ m s b. bind_later m (p s) (q (plus m s)) b (part.later m s b); forward = λ s. omega (arith, rest_place (q s), part.forward s) }

-- one part or another
module _ {W A : Type 0} {p q p' q' : Parser W A} (test : Option W → Bool) (yes : IsLarger p p') (no : IsLarger q q') where
  pub choose_larger : IsLarger (parser.choose test p q) (parser.choose test p' q')
  unfolding parser.choose
  choose_larger = record { later = λ m s h. go m s h (test (next s)); forward = λ s. choose_place (test (next s)) (p' s) (q' s) (yes.forward s) (no.forward s) }
    where
      go : (m : ℕ) (s : State W) → 0 < m → (b : Bool)
          → IsLater m (cond b (p s) (q s)) (cond b (p' (plus m s)) (q' (plus m s)))
      go m s h true = yes.later m s h
      go m s h false = no.later m s h

-- { part }
list_later : {W A : Type 0} (x : A) (m : ℕ) (o r : Outcome W (List A)) → IsLater m o r
    → IsLater m (in_list x o) (in_list x r)
unfolding IsLater
list_later x m (Ok read) r h = rw h refl
list_later x m (Err (fault.Grammar n)) r h = rw h refl
list_later x m (Err (fault.TooDeep n)) (Ok read) h = h
list_later x m (Err (fault.TooDeep n)) (Err f) h = h

module _ {W A : Type 0} {p q : Parser W (List A)} (x : A) (part : IsLarger p q) where
  pub list_larger : IsLarger (λ s. in_list x (p s)) (λ s. in_list x (q s))
  list_larger = record { later = λ m s h. list_later x m (p s) (q (plus m s)) (part.later m s h); forward = λ s. omega (arith, list_place x (q s), part.forward s) }

module _ {W A : Type 0} {p q : Parser W A} (test : Option W → Bool) (part : IsLarger p q) where
  turn_larger : (turns : ℕ)
      → IsLarger (parser.choose test (parser.and_then p (λ x s. in_list x (repeated_from test p turns s))) (parser.done [])) (parser.choose test (parser.and_then q (λ x s. in_list x (repeated_from test q turns s))) (parser.done []))
      → IsLarger (repeated_from test p (suc turns)) (repeated_from test q (suc turns))
  unfolding parser.choose repeated_from
  turn_larger turns f = record { later = f.later; forward = f.forward }

  from_larger : (turns : ℕ) → IsLarger (repeated_from test p turns) (repeated_from test q turns)
  unfolding repeated_from
  from_larger zero = done_larger []
  from_larger (suc turns) = turn_larger turns (choose_larger test (then_larger part (λ x. list_larger x (from_larger turns))) (done_larger []))

  pub repeated_larger : IsLarger (parser.repeated test p) (parser.repeated test q)
  unfolding parser.repeated
  repeated_larger = record { later = λ m s. (from_larger (length s.words)).later m s; forward = λ s. (from_larger (length s.words)).forward s }

-- a part by itself
module _ {W A : Type 0} {p q : Parser W A} (part : IsLarger p q) where
  alone_later : (n m : ℕ) (o r : Outcome W A) → IsLater m o r
      → IsLater m (restored n o) (restored (n + m) r)
  unfolding IsLater
  alone_later n m (Ok read) r h = rw h refl
  alone_later n m (Err (fault.Grammar k)) r h = rw h refl
  alone_later n m (Err (fault.TooDeep k)) (Ok read) h = h
  alone_later n m (Err (fault.TooDeep k)) (Err f) h = h

  pub alone_larger : IsLarger (parser.alone p) (parser.alone q)
  unfolding parser.alone
  alone_larger = record { later = λ m s h. alone_later s.room m (p s) (q (plus m s)) (part.later m s h); forward = λ s. omega (arith, restored_place s.room (q s), part.forward s) }
