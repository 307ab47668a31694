-- The readers of rules, modules and files go by their productions.
use Rattle.std.proofs.Common.{◌≡◌, ◌⊎◌, inl, inr, ℕ, Bool, true, false, not, ◌&&◌, ◌||◌, List, [], ◌∷◌, refl, sym, ap, ◌∙◌, subst, Option, Some, None, Ok, Err, is_some, true≢false}
use Rattle.std.specs.List.{list_all}
use Rattle.std.proofs.lemmas.Bool.{and_parts, not-true}
use denote.Enum.Bare.{sameb, true_same}
use Rattle.nf_core.specs.declared.limits.TheConstants.{MOST_OPEN}
use Rattle.nf_core.specs.declared.trees.Expr.{Expr}
use Rattle.nf_core.specs.declared.trees.Atom.{Atom}
use Rattle.nf_core.specs.declared.trees.Body.TheVariants as body
use Rattle.nf_core.specs.declared.trees.Module.{Module}
use Rattle.nf_grammar.specs.State.{next, next_of}
use Rattle.nf_grammar.specs.Parts as part
use Rattle.nf_grammar.specs.inner.Parsers as parser
use Rattle.nf_grammar.specs.inner.Parsers.{place, in_table}
use Rattle.nf_grammar.proofs.Public.OutcomeLemmas.{ok_is, no_ok}
use Rattle.nf_grammar.proofs.Public.ReaderLemmas.{Next, always, IsReader, IsShorter, done_reader, then_reader, choose_reader, alone_reader, weaken, forward}
use Rattle.nf_grammar.proofs.Public.TokenReaderLemmas.{token_reader, token_shorter}
use Rattle.nf_grammar.proofs.Public.RepeatedReaderLemmas.{repeated_reader, repeated_ends}
use Rattle.nf_grammar.proofs.Public.TakingReaderLemmas.{then_shorter, IsTaking, then_taking, choose_taking, weaken_taking}
use Rattle.nf_parse.specs.contracts.symbol.Sym.{the_type}
use Rattle.nf_parse.specs.declared.symbol.Sym.{Sym}
use Rattle.nf_parse.specs.declared.symbol.Sym.TheVariants as sym
use Rattle.nf_parse.specs.declared.level.Level.TheVariants as level
use Rattle.nf_parse.specs.State.{Word, State, of_kind}
use Rattle.nf_parse.specs.Grammar as grammar
use Rattle.nf_parse.specs.Grammar.{Production, op_at, op_of, xop_of, Item}
use Rattle.nf_parse.specs.inner.Parsers.{Outcome, Parser, is_kind}
use Rattle.nf_parse.specs.inner.Parsers as named
use Rattle.nf_parse.specs.inner.RuleReading as reading
use Rattle.nf_parse.specs.inner.Reading as expressions
use Rattle.nf_parse.specs.inner.RuleReading.{op_of_word, xop_of_word, is_op, is_ident, ends_body}
use Rattle.nf_parse.proofs.ExpressionReaderLemmas.{IsKind, same_is, apart, word_reader, word_taking, after_reader, after_taking, enclosed_reader, EndsExpression, ends_at, ends_at_end, IsNoOperator, none_at, comma_is_none, close_brace_is_none, expression_reader, paren_reader}

-- [ part ]
pub optional_reader : {A : Type 0} {test : Option Word → Bool} {p : Parser A} {P : Production A} {begin stop_part stop : Next Word}
    → IsReader p P begin stop_part
    → ((n : Option Word) → stop n → stop_part n) → ((n : Option Word) → begin n → test n ≡ true)
    → ((n : Option Word) → stop n → test n ≡ false)
    → IsReader (named.optional test p) (part.optional P) (λ n. begin n ⊎ stop n) stop
optional_reader {stop} r stops takes leaves = choose_reader (then_reader r (λ x. done_reader (Some x) stop) stops) (done_reader None stop) takes leaves

-- part { separator part }
pub separated_reader : {A : Type 0} (separator : Sym) {p : Parser A} {P : Production A} {begin stop_part stop : Next Word}
    → IsReader p P begin stop_part
    → ((n : Option Word) → IsKind separator n → stop_part n)
    → ((n : Option Word) → stop n → stop_part n)
    → ((n : Option Word) → stop n → is_kind separator n ≡ false)
    → IsReader (named.separated separator p) (part.separated (of_kind separator) P) begin stop
separated_reader separator {p} {stop} r again stops leaves = then_reader r
    (λ x. then_reader (repeated_reader (after_reader separator r) (then_shorter (named.token separator) (λ bytes. p) (token_shorter (of_kind separator)) (λ bytes s. forward r s)) again stops (λ n h. h) leaves)
    (λ xs. done_reader (x ∷ xs) stop) (λ n h. h)) (λ n h. elim h [ inl b ↦ again n b | inr e ↦ stops n e ])

-- the next word is of one of some kinds
pub In : List Sym → Next Word
In [] n = ⊥
In (k ∷ ks) n = IsKind k n ⊎ In ks n

-- or there is none
pub Follows : List Sym → Next Word
Follows ks n = (n ≡ None) ⊎ In ks n

in_kinds : (ks : List Sym) (P : Sym → Type 0) (test : Sym → Bool)
    → ((k : Sym) → test k ≡ true → P k) → list_all test ks ≡ true → (w : Word) → In ks (Some w)
    → P w.0
unfolding In
in_kinds [] P test f h w i = absurd i
in_kinds (k ∷ ks) P test f h w (inl e) = subst P (sym (same_is w.0 k e)) (f k (and_parts (test k) (list_all test ks) h).0)
in_kinds (k ∷ ks) P test f h w (inr i) = in_kinds ks P test f (and_parts (test k) (list_all test ks) h).1 w i

no_in : (ks : List Sym) → In ks None → ⊥
unfolding In
no_in [] i = i
no_in (k ∷ ks) (inl e) = absurd (true≢false (sym e))
no_in (k ∷ ks) (inr i) = no_in ks i

-- words of some kinds don't pass a test of kinds
module _ (ks : List Sym) (test : Sym → Bool) (none : list_all (λ k. not (test k)) ks ≡ true) where
  pub follows_none : (n : Option Word) → Follows ks n → (passes : Option Word → Bool)
      → passes None ≡ false → ((w : Word) → passes (Some w) ≡ test w.0) → passes n ≡ false
  unfolding Follows
  follows_none None h passes e f = e
  follows_none (Some w) (inl d) passes e f = absurd (cc)
  follows_none (Some w) (inr i) passes e f = f w ∙ in_kinds ks (λ k. test k ≡ false) (λ k. not (test k)) (λ k h. not-true (test k) h) none w i

pub follows_apart : (ks : List Sym) (j : Sym) → list_all (λ k. not (sameb the_type k j)) ks ≡ true
    → (n : Option Word) → Follows ks n → is_kind j n ≡ false
follows_apart ks j none n h = follows_none ks (λ k. sameb the_type k j) none n h (is_kind j) refl (λ w. refl)

-- no operators of expressions
abbrev pub is_no_operator : Sym → Bool
is_no_operator k = not (is_some (op_at level.Or k)) && (not (is_some (op_at level.And k)) && (not (is_some (op_at level.Compare k)) && (not (is_some (op_at level.Sum k)) && not (is_some (op_at level.Product k)))))

is_none : (k : Sym) → is_no_operator k ≡ true → IsNoOperator k
is_none k h =
    let a = and_parts _ _ h in
    let b = and_parts _ _ a.1 in
    let c = and_parts _ _ b.1 in
    let d = and_parts _ _ c.1 in
    none_at k (not-true _ a.0) (not-true _ b.0) (not-true _ c.0) (not-true _ d.0) (not-true _ d.1)

kind_self : (w : Word) → IsKind w.0 (Some w)
kind_self w = true_same the_type w.0 w.0 refl

pub follows_ends : (ks : List Sym) → list_all is_no_operator ks ≡ true → (n : Option Word)
    → Follows ks n → EndsExpression n
unfolding Follows
follows_ends ks all None h = ends_at_end
follows_ends ks all (Some w) (inl d) = absurd (cc)
follows_ends ks all (Some w) (inr i) = ends_at w.0 (in_kinds ks IsNoOperator is_no_operator is_none all w i) (Some w) (kind_self w)

one_more : (k : Sym) (ks : List Sym) (n : Option Word) → IsKind k n ⊎ Follows ks n
    → Follows (k ∷ ks) n
unfolding Follows In
one_more k ks n (inl h) = inr (inl h)
one_more k ks n (inr (inl e)) = inl e
one_more k ks n (inr (inr i)) = inr (inr i)

-- atom
pub atom_reader : IsReader reading.atom grammar.atom (IsKind sym.Ident) (λ n. is_kind sym.Colon n ≡ false)
unfolding reading.atom
atom_reader = then_reader (word_reader sym.Ident)
    (λ label. then_reader (optional_reader {stop = λ n. is_kind sym.Colon n ≡ false} (after_reader sym.Colon (word_reader sym.Ident)) (λ n h. tt) (λ n h. h) (λ n h. h))
    (λ name. done_reader (grammar.atom_of label name) (λ n. is_kind sym.Colon n ≡ false)) (λ n h. h)) (λ n h. tt)

-- the words behind a body
abbrev pub behind_body : List Sym
behind_body = sym.Where ∷ sym.Map ∷ sym.Begin ∷ sym.End ∷ sym.Ident ∷ sym.Module ∷ sym.CloseBrace ∷ []

abbrev IsOp : Next Word
IsOp n = is_op n ≡ true

op_reader : IsReader (parser.token op_of_word) (part.token op_of_word) IsOp always
op_reader = weaken (λ n h. ap is_some h.1) (λ n h. h) (token_reader op_of_word)

xop_reader : IsReader (parser.token xop_of_word) (part.token xop_of_word) always always
xop_reader = weaken (λ n h. tt) (λ n h. h) (token_reader xop_of_word)

no_colon : (n : Option Word) → Follows behind_body n → is_kind sym.Colon n ≡ false
no_colon = follows_apart behind_body sym.Colon refl

pair_reader : (first : Atom)
    → IsReader (reading.pair first) (part.and_then (part.token op_of_word) (λ o. part.and_then grammar.side (λ second. part.done (body.Pair first o second)))) IsOp (Follows behind_body)
unfolding reading.pair
pair_reader first = then_reader op_reader (λ o. then_reader (weaken (λ n h. h) no_colon atom_reader) (λ second. done_reader (body.Pair first o second) (Follows behind_body)) (λ n h. h)) (λ n h. tt)

exclusive_reader : (first : Atom)
    → IsReader (reading.exclusive first) (grammar.behind sym.Unless (part.and_then (part.token xop_of_word) (λ x. part.and_then grammar.side (λ second. part.done (body.Unless first x second))))) (IsKind sym.Unless) (Follows behind_body)
unfolding reading.exclusive
exclusive_reader first = after_reader sym.Unless (then_reader xop_reader (λ x. then_reader (weaken (λ n h. h) no_colon atom_reader) (λ second. done_reader (body.Unless first x second) (Follows behind_body)) (λ n h. h)) (λ n h. tt))

-- a word that is `unless` is no operator, and a body goes on with either
unless_no_op : (n : Option Word) → IsKind sym.Unless n → is_op n ≡ false
unfolding op_of
unless_no_op None h = absurd (true≢false (sym h))
unless_no_op (Some w) h = subst (λ z. is_some (op_of z) ≡ false) (sym (same_is w.0 sym.Unless h)) refl

ends : (a b : Bool) → a ≡ false → b ≡ false → not (a || b) ≡ true
ends a b e f = rw (e, f) refl

goes_on : (n : Option Word) → IsOp n ⊎ IsKind sym.Unless n → ends_body n ≡ false
goes_on n (inl h) = rw h refl
goes_on n (inr h) = rw (h, unless_no_op n h) refl

body_ends : (n : Option Word) → Follows behind_body n → ends_body n ≡ true
unfolding op_of
body_ends n h = ends (is_op n) (is_kind sym.Unless n)
    (follows_none behind_body (λ k. is_some (op_of k)) refl n h is_op refl (λ w. refl)) (follows_apart behind_body sym.Unless refl n h)

op_is_no_colon : (k : Sym) → is_some (op_of k) ≡ true → (b : Bool) → sameb the_type k sym.Colon ≡ b
    → b ≡ false
unfolding op_of
op_is_no_colon k h true e = let f : is_some (op_of sym.Colon) ≡ true = subst (λ z. is_some (op_of z) ≡ true) (same_is k sym.Colon e) h in absurd (true≢false (sym f))
op_is_no_colon k h false e = refl

op_no_colon : (n : Option Word) → IsOp n → is_kind sym.Colon n ≡ false
op_no_colon None h = refl
op_no_colon (Some w) h = op_is_no_colon w.0 h (sameb the_type w.0 sym.Colon) refl

body_no_colon : (n : Option Word) → Follows behind_body n ⊎ (IsOp n ⊎ IsKind sym.Unless n)
    → is_kind sym.Colon n ≡ false
body_no_colon n (inl h) = no_colon n h
body_no_colon n (inr (inr h)) = apart sym.Unless sym.Colon refl n h
body_no_colon n (inr (inl h)) = op_no_colon n h

-- body
pub body_reader : IsReader reading.rule_body grammar.rule_body (IsKind sym.Ident) (Follows behind_body)
unfolding reading.rule_body
body_reader = then_reader atom_reader
    (λ first. choose_reader (done_reader (body.One first) (Follows behind_body)) (choose_reader (pair_reader first) (exclusive_reader first) (λ n h. h) unless_no_op) body_ends goes_on)
    body_no_colon

-- the words behind a rule
abbrev pub behind_rule : List Sym
behind_rule = sym.Ident ∷ sym.Module ∷ sym.CloseBrace ∷ []

-- in what follows at most so many parentheses are open at once in an expression
module _ (depth : ℕ) where
  abbrev pub limited : Parser Expr
  limited = expressions.expression (expressions.paren depth)

  pub clause_reader : (k : Sym)
      → IsReader (reading.clause limited k) (grammar.clause depth k) (IsKind k) EndsExpression
  unfolding reading.clause
  clause_reader k = after_reader k (alone_reader (expression_reader (paren_reader depth)))

  pub optional_clause_reader : (k : Sym) (ks : List Sym)
      → list_all (λ j. is_no_operator j) ks ≡ true
      → list_all (λ j. not (sameb the_type j k)) ks ≡ true
      → IsReader (named.optional (is_kind k) (reading.clause limited k)) (part.optional (grammar.clause depth k)) (Follows (k ∷ ks)) (Follows ks)
  optional_clause_reader k ks ended other = weaken (one_more k ks) (λ n h. h) (optional_reader (clause_reader k) (follows_ends ks ended) (λ n h. h) (follows_apart ks k other))

  pub entry_reader : IsReader (reading.entry limited) (grammar.entry depth) (IsKind sym.Ident) EndsExpression
  unfolding reading.entry
  entry_reader = then_reader (word_reader sym.Ident) (λ key. then_reader (clause_reader sym.Arrow) (λ value. done_reader (record { key = key; value = value }) EndsExpression) (λ n h. h)) (λ n h. tt)

  entry_list_reader : IsReader (named.separated sym.Comma (reading.entry limited)) (part.separated (of_kind sym.Comma) (grammar.entry depth)) (IsKind sym.Ident) (IsKind sym.CloseBrace)
  entry_list_reader = separated_reader sym.Comma entry_reader (ends_at sym.Comma comma_is_none) (ends_at sym.CloseBrace close_brace_is_none) (apart sym.CloseBrace sym.Comma refl)

  pub entries_reader : IsReader (reading.entries limited) (grammar.entries depth) (IsKind sym.Map) always
  unfolding reading.entries
  entries_reader = after_reader sym.Map (then_reader
      (enclosed_reader sym.OpenBrace sym.CloseBrace (optional_reader entry_list_reader (λ n h. h) (λ n h. h) (apart sym.CloseBrace sym.Ident refl)) (λ n h. h))
      (λ found. done_reader _ always) (λ n h. tt))

  pub rule_taking : IsTaking (reading.rule limited) (grammar.rule depth) (IsKind sym.Ident) (Follows behind_rule)
  unfolding reading.rule op_at
  rule_taking = then_taking (word_taking sym.Ident) (λ head. after_reader sym.Defines (then_reader body_reader (λ b.
      then_reader (optional_clause_reader sym.Where (sym.Map ∷ sym.Begin ∷ sym.End ∷ behind_rule) refl refl) (λ filter.
      then_reader (weaken (one_more sym.Map (sym.Begin ∷ sym.End ∷ behind_rule)) (λ n h. h) (optional_reader {stop = Follows (sym.Begin ∷ sym.End ∷ behind_rule)} entries_reader (λ n h. tt) (λ n h. h) (follows_apart (sym.Begin ∷ sym.End ∷ behind_rule) sym.Map refl))) (λ found.
      then_reader (optional_clause_reader sym.Begin (sym.End ∷ behind_rule) refl refl) (λ start.
      then_reader (optional_clause_reader sym.End behind_rule refl refl) (λ stop. done_reader _ (Follows behind_rule)) (λ n h. h)) (λ n h. h)) (λ n h. h)) (λ n h. h)) (λ n h. h))) (λ n h. tt)

  pub limited_rule_shorter : IsShorter (reading.rule limited)
  limited_rule_shorter = rule_taking.shorter

  -- rules one after the other
  pub rules_reader : IsReader (reading.rules limited) (part.repeated (grammar.rule depth)) (λ n. IsKind sym.Ident n ⊎ IsKind sym.CloseBrace n) (IsKind sym.CloseBrace)
  unfolding reading.rules Follows In
  rules_reader = repeated_reader rule_taking.reader rule_taking.shorter (λ n h. inr (inl h)) (λ n h. inr (inr (inr (inl h)))) (λ n h. h) (apart sym.CloseBrace sym.Ident refl)

  pub imports_reader : IsReader reading.imports (grammar.imports depth) (IsKind sym.Import) always
  unfolding reading.imports
  imports_reader = after_reader sym.Import (then_reader
      (separated_reader sym.Comma {stop = IsKind sym.Semicolon} (word_reader sym.Ident) (λ n h. tt) (λ n h. tt) (apart sym.Semicolon sym.Comma refl))
      (λ names. after_reader sym.Semicolon (done_reader names always)) (λ n h. h))

  pub module_taking : IsTaking (reading.module_word limited) (grammar.named_module depth) (IsKind sym.Module) always
  unfolding reading.module_word
  module_taking = after_taking sym.Module (then_reader (word_reader sym.Ident) (λ name. enclosed_reader sym.OpenBrace sym.CloseBrace
      (then_reader (optional_reader {stop = λ n. IsKind sym.Ident n ⊎ IsKind sym.CloseBrace n} imports_reader (λ n h. tt) (λ n h. h) (λ n h. elim h [ inl b ↦ apart sym.Ident sym.Import refl n b | inr b ↦ apart sym.CloseBrace sym.Import refl n b ]))
      (λ names. then_reader rules_reader (λ rules. done_reader _ (IsKind sym.CloseBrace)) (λ n h. h)) (λ n h. h)) (λ n h. h)) (λ n h. tt))

  -- what stands behind an item of a file
  abbrev EndsItem : Next Word
  EndsItem n = (n ≡ None) ⊎ (IsKind sym.Ident n ⊎ IsKind sym.Module n)

  item_taking : IsTaking (reading.item limited) (grammar.item depth) (λ n. IsKind sym.Ident n ⊎ IsKind sym.Module n) EndsItem
  unfolding reading.item Follows In
  item_taking = choose_taking
      (then_taking (weaken_taking (λ n h. h) ends_rule rule_taking) (λ r. done_reader (grammar.loose r) EndsItem) (λ n h. h))
      (then_taking module_taking (λ m. done_reader (grammar.named m) EndsItem) (λ n h. tt)) (λ n h. h) (apart sym.Module sym.Ident refl)
    where
      ends_rule : (n : Option Word) → EndsItem n → Follows behind_rule n
      ends_rule n (inl e) = inl e
      ends_rule n (inr (inl h)) = inr (inl h)
      ends_rule n (inr (inr h)) = inr (inr (inl h))

  abbrev AtEnd : Next Word
  AtEnd n = n ≡ None

  begun : (n : Option Word) → IsKind sym.Ident n ⊎ IsKind sym.Module n → is_some n ≡ true
  begun None (inl h) = absurd (true≢false (sym h))
  begun None (inr h) = absurd (true≢false (sym h))
  begun (Some w) h = refl

  -- a whole file
  pub file_reader : IsReader (reading.file limited) (grammar.file depth) (λ n. (IsKind sym.Ident n ⊎ IsKind sym.Module n) ⊎ AtEnd n) AtEnd
  unfolding reading.file
  file_reader = then_reader (repeated_reader item_taking.reader item_taking.shorter (λ n h. inr h) (λ n h. inl h) begun (λ n h. ap is_some h))
      (λ items. done_reader (grammar.modules_of items) AtEnd) (λ n h. h)

  -- it goes on to the end of the words
  ended : (t : State) → (is_some (next t) ≡ false) ⊎ (t.words ≡ []) → t.words ≡ []
  ended t (inr e) = e
  ended t (inl e) = go t.words e
    where
      go : (ws : List Word) → is_some (next_of ws) ≡ false → ws ≡ []
      go [] e = refl
      go (w ∷ ws) e = absurd (true≢false e)

  items_end : (s t : State) (modules : List Module) (o : Outcome (List Item))
      → parser.repeated is_some (reading.item limited) s ≡ o
      → parser.bind o (λ items. parser.done (grammar.modules_of items)) ≡ Ok (modules, t)
      → t.words ≡ []
  items_end s t modules (Ok read) e f =
      let same : read.1 ≡ t = ap (λ (r : List Module × State). r.1) (ok_is _ _ _ refl f) in
      subst (λ (u : State). u.words ≡ []) same (ended read.1 (repeated_ends is_some (reading.item limited) item_taking.shorter s read.1 read.0 e))
  items_end s t modules (Err g) e f = absurd (no_ok g (modules, t) f)

  pub file_to_end : (s t : State) (modules : List Module) → reading.file limited s ≡ Ok (modules, t)
      → t.words ≡ []
  unfolding reading.file
  file_to_end s t modules e = items_end s t modules (parser.repeated is_some (reading.item limited) s) refl e

-- a rule takes a word, within the limits of a source
pub limited_shorter : IsShorter (reading.rule reading.limited)
unfolding reading.limited
limited_shorter = limited_rule_shorter MOST_OPEN
