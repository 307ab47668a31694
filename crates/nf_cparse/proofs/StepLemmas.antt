-- Single steps of the reader of words.
use Rattle.std.proofs.Common.{◌≡◌, ◌<◌, ◌-◌, ℕ, suc, Bool, true, false, cond, List, [], ◌∷◌, length, refl, sym, ap, ◌∙◌, subst, arith, rules, Option, Some, None, Ok, Err, true≢false}
use denote.Enum.Bare.{sameb, same_true}
use Rattle.nf_cast.specs.declared.placed.PlacedExpr.{PlacedExpr}
use Rattle.nf_grammar.specs.State.{state, next, next_of}
use Rattle.nf_grammar.specs.declared.fault.Fault.{Fault}
use Rattle.nf_grammar.specs.declared.fault.Fault.TheVariants as fault
use Rattle.nf_grammar.specs.inner.Parsers as parser
use Rattle.nf_grammar.specs.inner.Parsers.{refuse, too_deep, in_table, given, counting}
use Rattle.nf_cparse.specs.contracts.symbol.Sym.{the_type}
use Rattle.nf_cparse.specs.declared.symbol.Sym.{Sym}
use Rattle.nf_cparse.specs.declared.symbol.Sym.TheVariants as kind
use Rattle.nf_cparse.specs.Lexing.{Word}
use Rattle.nf_cparse.specs.Grammar.{of_kind}
use Rattle.nf_cparse.specs.inner.Parsers as reader
use Rattle.nf_cparse.specs.inner.Parsers.{is_at, is_kind, kind_of_next, fault_nowhere, token, GoesPast, CountsPast}
use Rattle.nf_cparse.specs.inner.ExpressionReading.{expression, nest, parens_at, index_at, closed_parens, closed_index}

pub same_is : (a b : Sym) → sameb the_type a b ≡ true → a ≡ b
same_is a b e = same_true the_type (search rules) a b e

-- a word of a kind that comes next
kind_first : (k : Sym) (word : Word) (s t : reader.State) → GoesPast word s t → is_at k s ≡ true → sameb the_type word.sym k ≡ true
kind_first k word s t g h = subst (λ ws. is_kind k (next_of ws) ≡ true) g.first h

pub token_read : (k : Sym) (word : Word) (s t : reader.State) → GoesPast word s t → is_at k s ≡ true → token k s ≡ Ok (word, t)
unfolding parser.token
token_read k word s t g h =
    let e = kind_first k word s t g h in
    rw (g.first, e, ← g.room) refl

pub token_kind : (k : Sym) (word : Word) (s t : reader.State) → GoesPast word s t → is_at k s ≡ true → word.sym ≡ k
token_kind k word s t g h = same_is word.sym k (kind_first k word s t g h)

pub token_refused : (k : Sym) (s : reader.State) → is_at k s ≡ false → token k s ≡ refuse s
unfolding parser.token
token_refused k s h = go s.room s.words h
  where
    go : (n : ℕ) (words : List Word) → is_kind k (next_of words) ≡ false
        → given (in_table (of_kind k) (next_of words)) (state n words) ≡ refuse (state n words)
    go n [] h = refl
    go n (w ∷ ws) h = rw h refl

-- there is a word where one of a kind comes next
pub some_at : (k : Sym) (s : reader.State) → is_at k s ≡ true → 0 < length s.words
some_at k s h = go s.words h
  where
    go : (ws : List Word) → is_kind k (next_of ws) ≡ true → 0 < length ws
    go [] h = absurd (true≢false (sym h))
    go (w ∷ ws) h = omega arith

-- whether a word of one kind is of another
pub kind_is : (n : Option Word) (k : Sym) → kind_of_next n ≡ Some k → (j : Sym)
    → is_kind j n ≡ sameb the_type k j
kind_is None k h j = absurd (cc)
kind_is (Some w) k h j = let e : w.sym ≡ k = cc in ap (λ z. sameb the_type z j) e

-- a table of kinds over the next word
pub table_at : {A : Type 0} (table : Sym → Option A) (n : Option Word)
    → in_table (λ (word : Word). table word.sym) n ≡ in_table table (kind_of_next n)
table_at table None = refl
table_at table (Some w) = refl

-- a counted word that comes next
module _ {A : Type 0} (table : Word → Option A) (x : A) where
  pub counted_read : (word : Word) (s t : reader.State) → CountsPast word s t → in_table table (next s) ≡ Some x
      → parser.counted table s ≡ Ok (x, t)
  unfolding parser.counted
  counted_read word s t g h =
      let e : table word ≡ Some x = subst (λ ws. in_table table (next_of ws) ≡ Some x) g.first h in
      let r : s.room ≡ suc t.room = omega (arith, g.room) in
      rw (g.first, e, r) refl

  pub counted_full : (s : reader.State) → in_table table (next s) ≡ Some x → s.room ≡ 0
      → parser.counted table s ≡ too_deep s
  unfolding parser.counted
  counted_full s h r = rw (h, r) refl

-- a word of a kind that comes next as one that is counted
pub at_counted : (k : Sym) (word : Word) (s t : reader.State) → is_at k s ≡ true → CountsPast word s t → parser.counted (of_kind k) s ≡ Ok (word, t)
at_counted k word s t h g =
    let e : sameb the_type word.sym k ≡ true = subst (λ ws. is_kind k (next_of ws) ≡ true) g.first h in
    let i : in_table (of_kind k) (next s) ≡ Some word = rw (g.first, e) refl in
    counted_read (of_kind k) word word s t g i

pub at_full : (k : Sym) (s : reader.State) → is_at k s ≡ true → s.room ≡ 0 → parser.counted (of_kind k) s ≡ too_deep s
at_full k s h r = go s.words refl
  where
    go : (ws : List Word) → s.words ≡ ws → parser.counted (of_kind k) s ≡ too_deep s
    go [] e = absurd (true≢false (sym h ∙ ap (λ ws. is_kind k (next_of ws)) e))
    go (w ∷ ws) e =
        let same : sameb the_type w.sym k ≡ true = subst (λ xs. is_kind k (next_of xs) ≡ true) e h in
        let i : in_table (of_kind k) (next s) ≡ Some w = rw (e, same) refl in
        counted_full (of_kind k) w s i r

pub at_refused : (k : Sym) (s : reader.State) → is_at k s ≡ false → parser.counted (of_kind k) s ≡ refuse s
unfolding parser.counted
at_refused k s h = go s.room s.words h
  where
    go : (n : ℕ) (words : List Word) → is_kind k (next_of words) ≡ false
        → counting (in_table (of_kind k) (next_of words)) (state n words) ≡ refuse (state n words)
    go n [] h = refl
    go n (w ∷ ws) h = rw h refl

-- there is a word where a table has the next one
pub some_word : {A : Type 0} (table : Sym → Option A) (x : A) (s : reader.State)
    → in_table table (kind_of_next (next s)) ≡ Some x → 0 < length s.words
some_word table x s h = go s.words h
  where
    go : (ws : List Word) → in_table table (kind_of_next (next_of ws)) ≡ Some x → 0 < length ws
    go [] h = absurd (cc)
    go (w ∷ ws) h = omega arith

-- a next word that is of no such kind
pub kind_not : (n : Option Word) (k : Sym) → (kind_of_next n ≡ Some k → ⊥) → is_kind k n ≡ false
kind_not None k h = refl
kind_not (Some w) k h = go (sameb the_type w.sym k) refl
  where
    go : (b : Bool) → sameb the_type w.sym k ≡ b → b ≡ false
    go true e = absurd (h (ap Some (same_is w.sym k e)))
    go false e = refl

-- where nothing may be nested deeper
nowhere_is : (k : Sym) (s : reader.State) (o : reader.Outcome PlacedExpr) → o ≡ parser.nowhere (is_kind k) s → o ≡ Err (fault_nowhere k s)
unfolding parser.nowhere
nowhere_is k s o e = e ∙ go (is_at k s)
  where
    at : Bool → Fault
    at b = cond b (fault.TooDeep (length s.words)) (fault.Grammar (length s.words))

    go : (b : Bool) → ◌≡◌ {A = reader.Outcome PlacedExpr} (cond b (too_deep s) (refuse s)) (Err (at b))
    go true = refl
    go false = refl

pub parens_zero : (depth : ℕ) (s : reader.State) → depth ≡ 0 → parens_at depth s ≡ Err (fault_nowhere kind.Open s)
unfolding nest
parens_zero depth s h = nowhere_is kind.Open s (parens_at depth s) (rw h refl)

pub index_zero : (depth : ℕ) (s : reader.State) → depth ≡ 0 → index_at depth s ≡ Err (fault_nowhere kind.OpenBracket s)
unfolding nest
index_zero depth s h = nowhere_is kind.OpenBracket s (index_at depth s) (rw h refl)

one_less : (depth : ℕ) → 0 < depth → suc (depth - 1) ≡ depth
one_less depth h = omega arith

parens_suc : (depth : ℕ) (s : reader.State) → parens_at (suc depth) s ≡ closed_parens (expression (nest depth)) s
unfolding nest
parens_suc depth s = refl

pub parens_some : (depth : ℕ) (s : reader.State) → 0 < depth → parens_at depth s ≡ closed_parens (expression (nest (depth - 1))) s
parens_some depth s h = subst (λ d. parens_at d s ≡ closed_parens (expression (nest (depth - 1))) s) (one_less depth h) (parens_suc (depth - 1) s)

index_suc : (depth : ℕ) (s : reader.State) → index_at (suc depth) s ≡ closed_index (expression (nest depth)) s
unfolding nest
index_suc depth s = refl

pub index_some : (depth : ℕ) (s : reader.State) → 0 < depth → index_at depth s ≡ closed_index (expression (nest (depth - 1))) s
index_some depth s h = subst (λ d. index_at d s ≡ closed_index (expression (nest (depth - 1))) s) (one_less depth h) (index_suc (depth - 1) s)

-- what a word of a kind is, by the next word
pub ruleset token_steps = (token_read, token_kind, token_refused, some_at)

pub ruleset parens_steps = (parens_zero, parens_some, token_refused)

pub ruleset index_steps = (index_zero, index_some)
