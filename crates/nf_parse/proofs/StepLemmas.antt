-- Single steps of the reader.
use Rattle.std.proofs.Common.{◌≡◌, ◌<◌, ◌-◌, ◌+◌, ℕ, suc, true, false, cond, List, [], ◌∷◌, length, refl, sym, ap, subst, arith, Option, Some, None, is_some, Ok, true≢false}
use denote.Enum.Bare.{sameb}
use Rattle.nf_grammar.specs.State.{state, next, next_of}
use Rattle.nf_grammar.specs.inner.Parsers as parser
use Rattle.nf_grammar.specs.inner.Parsers.{refuse, too_deep, in_table, tail_of, behind, given, use_up, counting}
use Rattle.nf_parse.specs.contracts.symbol.Sym.{the_type}
use Rattle.nf_parse.specs.declared.symbol.Sym.{Sym}
use Rattle.nf_parse.specs.declared.symbol.Sym.TheVariants as kind
use Rattle.nf_parse.specs.State.{Word, State, kind_of_next, of_kind}
use Rattle.nf_parse.specs.inner.Parsers.{is_at, is_kind, bytes_of, token, enclosed}
use Rattle.nf_parse.specs.inner.Reading.{expression, paren}

-- a word of a kind that comes next
pub token_read : (k : Sym) (s : State) → is_at k s ≡ true
    → token k s ≡ Ok (bytes_of s.words, behind s)
unfolding parser.token
token_read k s h = go s.room s.words h
  where
    go : (n : ℕ) (words : List Word) → is_kind k (next_of words) ≡ true
        → given (in_table (of_kind k) (next_of words)) (state n words) ≡ Ok (bytes_of words, state n (tail_of words))
    go n [] h = absurd (true≢false (sym h))
    go n (w ∷ ws) h = rw h refl

pub token_refused : (k : Sym) (s : State) → is_at k s ≡ false → token k s ≡ refuse s
unfolding parser.token
token_refused k s h = go s.room s.words h
  where
    go : (n : ℕ) (words : List Word) → is_kind k (next_of words) ≡ false
        → given (in_table (of_kind k) (next_of words)) (state n words) ≡ refuse (state n words)
    go n [] h = refl
    go n (w ∷ ws) h = rw h refl

-- whether a word of one kind is of another
pub kind_is : (n : Option Word) (k : Sym) → kind_of_next n ≡ Some k → (j : Sym)
    → is_kind j n ≡ sameb the_type k j
kind_is None k h j = absurd (cc)
kind_is (Some w) k h j = let e : w.0 ≡ k = cc in ap (λ z. sameb the_type z j) e

-- there is a next word where its kind is there
pub some_kind : (n : Option Word) → is_some (kind_of_next n) ≡ is_some n
some_kind None = refl
some_kind (Some w) = refl

-- a table of kinds over the next word
pub table_at : {A : Type 0} (table : Sym → Option A) (n : Option Word)
    → in_table (λ (word : Word). table word.0) n ≡ in_table table (kind_of_next n)
table_at table None = refl
table_at table (Some w) = refl

-- a counted word that comes next
module _ {A : Type 0} (table : Word → Option A) (x : A) where
  pub counted_read : (s t : State) → in_table table (next s) ≡ Some x → s.room ≡ 1 + t.room
      → t.words ≡ tail_of s.words → parser.counted table s ≡ Ok (x, t)
  unfolding parser.counted
  counted_read s t h r w = let e : s.room ≡ suc t.room = omega arith in rw (h, e) (ap (λ ws. Ok (x, state t.room ws)) (sym w))

  pub counted_full : (s : State) → in_table table (next s) ≡ Some x → s.room ≡ 0
      → parser.counted table s ≡ too_deep s
  unfolding parser.counted
  counted_full s h r = rw (h, r) refl

-- there is a word where a table has the next one
pub some_word : {A : Type 0} (table : Sym → Option A) (x : A) (s : State)
    → in_table table (kind_of_next (next s)) ≡ Some x → 0 < length s.words
some_word table x s h = go s.words h
  where
    go : (ws : List Word) → in_table table (kind_of_next (next_of ws)) ≡ Some x → 0 < length ws
    go [] h = absurd (cc)
    go (w ∷ ws) h = omega arith

pub paren_zero : (depth : ℕ) (s : State) → depth ≡ 0
    → paren depth s ≡ cond (is_at kind.Open s) (too_deep s) (refuse s)
unfolding paren parser.nowhere
paren_zero depth s h = rw h refl

paren_suc : (depth : ℕ) (s : State)
    → paren (suc depth) s ≡ enclosed kind.Open (expression (paren depth)) kind.Close s
unfolding paren
paren_suc depth s = refl

pub paren_some : (depth : ℕ) (s : State) → 0 < depth
    → paren depth s ≡ enclosed kind.Open (expression (paren (depth - 1))) kind.Close s
paren_some depth s h = let e : suc (depth - 1) ≡ depth = omega arith in subst (λ d. paren d s ≡ enclosed kind.Open (expression (paren (depth - 1))) kind.Close s) e (paren_suc (depth - 1) s)

-- what a word of a kind and parentheses are, by the next word
pub ruleset token_steps = (token_read, token_refused)

pub ruleset paren_steps = (paren_zero, paren_some, token_refused)
