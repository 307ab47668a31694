-- The readers of statements and blocks go by their productions.
use Rattle.std.proofs.Common.{◌≡◌, ◌≤◌, ◌⊎◌, inl, inr, ℕ, zero, suc, Bool, true, false, cond, length, refl, sym, ap, ◌∙◌, Option, Some, None, is_some, Ok, Err}
use Rattle.std.specs.Prelude.{option_map}
use denote.Enum.Bare.{sameb}
use Rattle.nf_cast.specs.declared.placed.PlacedName.{PlacedName}
use Rattle.nf_cast.specs.declared.placed.PlacedRight.{PlacedRight}
use Rattle.nf_cast.specs.declared.placed.PlacedBound.{PlacedBound}
use Rattle.nf_cast.specs.declared.placed.PlacedBound.TheVariants as bound
use Rattle.nf_cast.specs.declared.placed.PlacedStmt.{PlacedStmt}
use Rattle.nf_cast.specs.declared.placed.PlacedStmt.TheVariants as stmt
use Rattle.nf_grammar.specs.State.{next}
use Rattle.nf_grammar.specs.Parts as part
use Rattle.nf_grammar.specs.inner.Parsers as parser
use Rattle.nf_grammar.specs.inner.Parsers.{place, bind, in_table}
use Rattle.nf_grammar.proofs.Public.ReaderLemmas.{Next, always, IsReader, done_reader, nowhere_reader, then_reader, choose_reader, weaken, forward}
use Rattle.nf_grammar.proofs.Public.TokenReaderLemmas.{token_reader}
use Rattle.nf_grammar.proofs.Public.RepeatedReaderLemmas.{repeated_reader}
use Rattle.nf_grammar.proofs.Public.TakingReaderLemmas.{IsTaking, then_taking, choose_taking, weaken_taking}
use Rattle.nf_cparse.specs.contracts.symbol.Sym.{the_type}
use Rattle.nf_cparse.specs.declared.symbol.Sym.{Sym}
use Rattle.nf_cparse.specs.declared.symbol.Sym.TheVariants as kind
use Rattle.nf_cparse.specs.Lexing.{Word}
use Rattle.nf_cparse.specs.Grammar as grammar
use Rattle.nf_cparse.specs.Grammar.{Production, Closed, of_kind, of_value, placed}
use Rattle.nf_cparse.specs.inner.Parsers.{State, Outcome, Parser, is_kind, kind_of_next}
use Rattle.nf_cparse.specs.inner.Parsers as named
use Rattle.nf_cparse.specs.inner.ExpressionReading as expressions
use Rattle.nf_cparse.specs.inner.StatementReading as reading
use Rattle.nf_cparse.specs.inner.StatementReading.{begins_local, begins_statement}
use Rattle.nf_cparse.proofs.StepLemmas.{same_is}
use Rattle.nf_cparse.proofs.FactorLemmas.{same_reader, factored}
use Rattle.nf_cparse.proofs.ExpressionReaderLemmas.{IsKind, word_reader, after_reader, named_reader, ends_at, close_ends, bracket_ends, semicolon_ends, apart}
use Rattle.nf_cparse.proofs.PartReaderLemmas.{word_taking, after_taking, enclosed_reader, optional_reader, later_shorter, equal_reader, equal_shorter, same, flat, begins_none, no_semicolon, not_false, not_true}
use Rattle.nf_cparse.proofs.RightReaderLemmas.{whole_reader, arguments_reader, right_reader}

pub declared_reader : IsReader reading.declared grammar.declared (IsKind kind.Int64) always
unfolding reading.declared
declared_reader = after_reader kind.Int64 named_reader

pub declared_taking : IsTaking reading.declared grammar.declared (IsKind kind.Int64) always
unfolding reading.declared
declared_taking = after_taking kind.Int64 named_reader

-- "const", or nothing
constant_is : {A : Type 0} (k : Bool → Parser A) (s : State)
    → parser.and_then (named.optional (is_kind kind.Const) (named.token kind.Const)) (λ c. k (is_some c)) s ≡ parser.and_then reading.constant k s
unfolding reading.constant parser.choose
constant_is k s = go (is_kind kind.Const (next s)) (named.token kind.Const s)
  where
    go : (b : Bool) (o : Outcome Word)
        → bind (cond b (bind o (λ x. parser.done (Some x))) (parser.done None s)) (λ c. k (is_some c))
        ≡ bind (cond b (bind o (λ x. parser.done true)) (parser.done false s)) k
    go true (Ok read) = refl
    go true (Err f) = refl
    go false o = refl

-- "=" right ";", and what is made of it
set_is : (depth : ℕ) (make : PlacedRight → PlacedStmt) (s : State)
    → named.after kind.Equal (parser.and_then (reading.right_of depth) (λ r. named.after kind.Semicolon (parser.done (make r)))) s
    ≡ parser.and_then (reading.set_to depth) (λ r. parser.done (make r)) s
unfolding reading.set_to
set_is depth make s = sym (flat (named.token kind.Equal s) _ _ _ (λ w t. flat (reading.right_of depth t) _ _ _ (λ r u. flat (named.token kind.Semicolon u) _ _ _ (λ v x. refl))))

module _ (depth : ℕ) where
  set_reader : (make : PlacedRight → PlacedStmt) → IsReader (parser.and_then (reading.set_to depth) (λ r. parser.done (make r)))
      (grammar.behind kind.Equal (part.and_then (grammar.right_of depth) (λ r. grammar.behind kind.Semicolon (part.done (make r))))) (IsKind kind.Equal) always
  set_reader make = equal_reader (set_is depth make)
      (after_reader kind.Equal (then_reader (right_reader depth) (λ r. after_reader kind.Semicolon (done_reader (make r) always)) (λ n h. h)))

  -- a declaration
  abbrev local_rest : Bool → Parser PlacedStmt
  local_rest fixed = parser.and_then reading.declared (λ at. parser.and_then (reading.set_to depth) (λ r. parser.done (stmt.Local fixed at r)))

  local_rest_reader : (fixed : Bool) → IsTaking (local_rest fixed)
      (part.and_then grammar.declared (λ at. grammar.behind kind.Equal (part.and_then (grammar.right_of depth) (λ r. grammar.behind kind.Semicolon (part.done (stmt.Local fixed at r))))))
      (IsKind kind.Int64) always
  local_rest_reader fixed = then_taking declared_taking (λ at. set_reader (λ r. stmt.Local fixed at r)) (λ n h. tt)

  -- the words with which a declaration begins
  abbrev pub BeginsLocal : Next Word
  BeginsLocal n = IsKind kind.Const n ⊎ IsKind kind.Int64 n

  constant_reader : IsReader (named.optional (is_kind kind.Const) (named.token kind.Const)) (part.optional (grammar.word kind.Const)) BeginsLocal (IsKind kind.Int64)
  constant_reader = optional_reader {stop = IsKind kind.Int64} (word_reader kind.Const) (λ n h. tt) (λ n h. h) (apart kind.Int64 kind.Const refl)

  local_taking : IsTaking (reading.local depth) (grammar.local depth) BeginsLocal always
  unfolding reading.local
  local_taking = record {
    reader = equal_reader (constant_is local_rest) (then_reader constant_reader (λ c. (local_rest_reader (is_some c)).reader) (λ n h. h));
    shorter = equal_shorter (constant_is local_rest) (later_shorter (named.optional (is_kind kind.Const) (named.token kind.Const)) (λ c. local_rest (is_some c)) (λ s. forward constant_reader s) (λ c. (local_rest_reader (is_some c)).shorter));
  }

  -- what begins with a name
  abbrev assign_rest : PlacedName → Production PlacedStmt
  assign_rest at = grammar.behind kind.Equal (part.and_then (grammar.right_of depth) (λ r. grammar.behind kind.Semicolon (part.done (stmt.Assign at r))))

  abbrev store_rest : PlacedName → Production PlacedStmt
  store_rest at = part.and_then (grammar.enclosed kind.OpenBracket (grammar.whole depth) kind.CloseBracket) (λ i.
      grammar.behind kind.Equal (part.and_then (grammar.whole depth) (λ a. grammar.behind kind.Semicolon (part.done (stmt.Store at i a)))))

  abbrev call_rest : PlacedName → Production PlacedStmt
  call_rest at = part.and_then (grammar.arguments depth) (λ found. grammar.behind kind.Semicolon (part.done (stmt.Call at found)))

  store_reader : (at : PlacedName) → IsReader (reading.store_behind depth at) (store_rest at) (IsKind kind.OpenBracket) always
  unfolding reading.store_behind reading.place
  store_reader at = then_reader (enclosed_reader kind.OpenBracket kind.CloseBracket (whole_reader depth) (ends_at kind.CloseBracket bracket_ends))
      (λ i. after_reader kind.Equal (then_reader (whole_reader depth) (λ a. after_reader kind.Semicolon (done_reader (stmt.Store at i a) always)) (ends_at kind.Semicolon semicolon_ends)))
      (λ n h. tt)

  call_reader : (at : PlacedName) → IsReader (reading.call_behind depth at) (call_rest at) (IsKind kind.Open) always
  unfolding reading.call_behind
  call_reader at = then_reader (arguments_reader depth) (λ found. after_reader kind.Semicolon (done_reader (stmt.Call at found) always)) (λ n h. tt)

  assign_reader : (at : PlacedName) → IsReader (reading.assign_behind depth at) (assign_rest at) (IsKind kind.Equal) always
  unfolding reading.assign_behind
  assign_reader at = set_reader (λ r. stmt.Assign at r)

  named_taking : IsTaking (reading.named_statement depth)
      (part.and_then grammar.named (λ at. part.either (call_rest at) (part.either (store_rest at) (assign_rest at)))) (IsKind kind.Ident) always
  unfolding reading.named_statement reading.behind_name expressions.named
  named_taking = then_taking (then_taking (word_taking kind.Ident) (λ word. done_reader (placed word) always) (λ n h. tt))
      (λ at. choose_reader (call_reader at)
      (choose_reader (store_reader at) (assign_reader at) (λ n h. h) (apart kind.Equal kind.OpenBracket refl))
      (λ n h. h) (λ n h. elim h [ inl b ↦ apart kind.OpenBracket kind.Open refl n b | inr b ↦ apart kind.Equal kind.Open refl n b ]))
      (λ n h. tt)

  -- a return
  exit_taking : IsTaking (reading.exit depth) (grammar.return depth) (IsKind kind.Return) always
  unfolding reading.exit
  exit_taking = then_taking (word_taking kind.Return)
      (λ word. then_reader
      (optional_reader {stop = IsKind kind.Semicolon} (whole_reader depth) (ends_at kind.Semicolon semicolon_ends)
      (λ n h. not_false (is_kind kind.Semicolon n) (begins_none kind.Semicolon no_semicolon n h)) (λ n h. not_true (is_kind kind.Semicolon n) h))
      (λ a. after_reader kind.Semicolon (done_reader (stmt.Return word.line a) always)) (λ n h. h))
      (λ n h. tt)

-- a bound
pub bound_reader : IsReader reading.bound_of grammar.bound_of (λ n. IsKind kind.Lit n ⊎ IsKind kind.Ident n) always
unfolding reading.bound_of
bound_reader = choose_reader (then_reader (word_reader kind.Lit) (λ word. done_reader _ always) (λ n h. tt))
    (then_reader named_reader (λ at. done_reader (bound.Name at) always) (λ n h. tt)) (λ n h. h) (apart kind.Ident kind.Lit refl)

-- a literal of a value
valued_reader : {A : Type 0} (v : ℕ) {p : Parser A} {P : Production A} {begin stop : Next Word} → IsReader p P begin stop
    → IsReader (parser.and_then (reading.valued v) (λ word. p)) (part.after (of_value v) P) always stop
valued_reader v r = weaken (λ n h. tt) (λ n h. h) (then_reader (token_reader (of_value v)) (λ word. r) (λ n h. tt))

-- a block is given
module _ (depth : ℕ) {b : Parser Closed} {B : Production Closed} (block : IsReader b B (IsKind kind.OpenBrace) always) where
  -- no `else` comes next
  abbrev pub NoElse : Next Word
  NoElse n = is_kind kind.Else n ≡ false

  conditional_taking : IsTaking (reading.conditional depth b) (grammar.conditional depth B) (IsKind kind.If) NoElse
  unfolding reading.conditional reading.condition
  conditional_taking = after_taking kind.If (then_reader
      (enclosed_reader kind.Open kind.Close (whole_reader depth) (ends_at kind.Close close_ends))
      (λ c. then_reader block (λ a. then_reader
      (optional_reader {stop = NoElse} (after_reader kind.Else block) (λ n h. tt) (λ n h. h) (λ n h. h))
      (λ e. done_reader (stmt.If c a.0 (option_map (λ (x : Closed). x.0) e)) NoElse) (λ n h. h)) (λ n h. tt)) (λ n h. tt))

  -- a loop, part by part
  abbrev body_of : PlacedName → PlacedName → PlacedBound → PlacedName → PlacedName → Parser PlacedStmt
  body_of at tested limit set counts = named.after kind.Close (parser.and_then b (λ body. parser.done (stmt.For at tested limit set counts body.0)))

  abbrev step_of : PlacedName → PlacedName → PlacedBound → Parser PlacedStmt
  step_of at tested limit = parser.and_then expressions.named (λ set. named.after kind.Equal (parser.and_then expressions.named (λ counts. named.after kind.Plus
      (parser.and_then (reading.valued 1) (λ word. body_of at tested limit set counts)))))

  abbrev test_of : PlacedName → Parser PlacedStmt
  test_of at = parser.and_then expressions.named (λ tested. named.after kind.Less (parser.and_then reading.bound_of (λ limit.
      named.after kind.Semicolon (step_of at tested limit))))

  abbrev header_of : Parser PlacedStmt
  header_of = parser.and_then reading.declared (λ at. named.after kind.Equal (parser.and_then (reading.valued 0) (λ word.
      named.after kind.Semicolon (test_of at))))

  step_is : (at tested : PlacedName) (limit : PlacedBound) (s : State)
      → parser.and_then reading.header_step (λ step. body_of at tested limit step.0 step.1) s ≡ step_of at tested limit s
  unfolding reading.header_step
  step_is at tested limit s = flat (expressions.named s) _ _ _ (λ set t. flat (named.token kind.Equal t) _ _ _ (λ w u. flat (expressions.named u) _ _ _ (λ counts v.
      flat (named.token kind.Plus v) _ _ _ (λ w x. flat (reading.valued 1 x) _ _ _ (λ w y. refl)))))

  test_is : (at : PlacedName) (s : State)
      → parser.and_then reading.header_test (λ test. parser.and_then reading.header_step (λ step. body_of at test.0 test.1 step.0 step.1)) s ≡ test_of at s
  unfolding reading.header_test
  test_is at s = flat (expressions.named s) _ _ _ (λ tested t. flat (named.token kind.Less t) _ _ _ (λ w u. flat (reading.bound_of u) _ _ _ (λ limit v.
      flat (named.token kind.Semicolon v) _ _ _ (λ w x. step_is at tested limit x))))

  header_is : (s : State)
      → parser.and_then reading.header_start (λ at. parser.and_then reading.header_test (λ test. parser.and_then reading.header_step (λ step. body_of at test.0 test.1 step.0 step.1))) s ≡ header_of s
  unfolding reading.header_start
  header_is s = flat (reading.declared s) _ _ _ (λ at t. flat (named.token kind.Equal t) _ _ _ (λ w u. flat (reading.valued 0 u) _ _ _ (λ w v.
      flat (named.token kind.Semicolon v) _ _ _ (λ w x. test_is at x))))

  loop_is : (s : State) → named.after kind.For (named.after kind.Open header_of) s ≡ reading.counted_loop depth b s
  unfolding reading.counted_loop
  loop_is s = sym (same (named.token kind.For s) _ _ (λ w t. same (named.token kind.Open t) _ _ (λ w u. header_is u)))

  loop_taking : IsTaking (reading.counted_loop depth b) (grammar.loop depth B) (IsKind kind.For) always
  loop_taking = record {
    reader = equal_reader loop_is flat_taking.reader;
    shorter = equal_shorter loop_is flat_taking.shorter;
  }
    where
      flat_taking : IsTaking (named.after kind.For (named.after kind.Open header_of)) (grammar.loop depth B) (IsKind kind.For) always
      flat_taking = after_taking kind.For (after_reader kind.Open (then_reader declared_reader (λ at. after_reader kind.Equal (valued_reader 0 (after_reader kind.Semicolon
          (then_reader named_reader (λ tested. after_reader kind.Less (then_reader bound_reader (λ limit. after_reader kind.Semicolon
          (then_reader named_reader (λ set. after_reader kind.Equal (then_reader named_reader (λ counts. after_reader kind.Plus (valued_reader 1 (after_reader kind.Close
          (then_reader block (λ body. done_reader (stmt.For at tested limit set counts body.0) always) (λ n h. tt))))) (λ n h. tt))) (λ n h. tt))) (λ n h. tt))) (λ n h. tt))))) (λ n h. tt)))

  -- the words with which a statement begins
  abbrev pub BeginsStatement : Next Word
  BeginsStatement n = BeginsLocal depth n ⊎ (IsKind kind.Ident n ⊎ (IsKind kind.If n ⊎ (IsKind kind.For n ⊎ IsKind kind.Return n)))

  no_local : (k : Sym) → sameb the_type k kind.Const ≡ false → sameb the_type k kind.Int64 ≡ false → (n : Option Word) → IsKind k n → begins_local n ≡ false
  no_local k c i n h = rw (apart k kind.Const c n h, apart k kind.Int64 i n h) refl

  is_local : (n : Option Word) → BeginsLocal depth n → begins_local n ≡ true
  is_local n (inl h) = rw h refl
  is_local n (inr h) = rw (apart kind.Int64 kind.Const refl n h, h) refl

  others_no_local : (n : Option Word) → IsKind kind.Ident n ⊎ (IsKind kind.If n ⊎ (IsKind kind.For n ⊎ IsKind kind.Return n)) → begins_local n ≡ false
  others_no_local n (inl h) = no_local kind.Ident refl refl n h
  others_no_local n (inr (inl h)) = no_local kind.If refl refl n h
  others_no_local n (inr (inr (inl h))) = no_local kind.For refl refl n h
  others_no_local n (inr (inr (inr h))) = no_local kind.Return refl refl n h

  others_no_name : (n : Option Word) → IsKind kind.If n ⊎ (IsKind kind.For n ⊎ IsKind kind.Return n) → is_kind kind.Ident n ≡ false
  others_no_name n (inl h) = apart kind.If kind.Ident refl n h
  others_no_name n (inr (inl h)) = apart kind.For kind.Ident refl n h
  others_no_name n (inr (inr h)) = apart kind.Return kind.Ident refl n h

  others_no_if : (n : Option Word) → IsKind kind.For n ⊎ IsKind kind.Return n → is_kind kind.If n ≡ false
  others_no_if n (inl h) = apart kind.For kind.If refl n h
  others_no_if n (inr h) = apart kind.Return kind.If refl n h

  abbrev others : Production PlacedStmt
  others = part.either (grammar.conditional depth B) (part.either (grammar.loop depth B) (grammar.return depth))

  others_taking : IsTaking (parser.choose (is_kind kind.If) (reading.conditional depth b) (parser.choose (is_kind kind.For) (reading.counted_loop depth b) (reading.exit depth)))
      others (λ n. IsKind kind.If n ⊎ (IsKind kind.For n ⊎ IsKind kind.Return n)) NoElse
  others_taking = choose_taking conditional_taking
      (choose_taking (weaken_taking (λ n h. h) (λ n h. tt) loop_taking) (weaken_taking (λ n h. h) (λ n h. tt) (exit_taking depth)) (λ n h. h) (apart kind.Return kind.For refl))
      (λ n h. h) others_no_if

  named_or_others : IsTaking (parser.choose (is_kind kind.Ident) (reading.named_statement depth) (parser.choose (is_kind kind.If) (reading.conditional depth b) (parser.choose (is_kind kind.For) (reading.counted_loop depth b) (reading.exit depth))))
      (part.either (part.and_then grammar.named (λ at. part.either (call_rest depth at) (part.either (store_rest depth at) (assign_rest depth at)))) others)
      (λ n. IsKind kind.Ident n ⊎ (IsKind kind.If n ⊎ (IsKind kind.For n ⊎ IsKind kind.Return n))) NoElse
  named_or_others = choose_taking (weaken_taking (λ n h. h) (λ n h. tt) (named_taking depth)) others_taking (λ n h. h) others_no_name

  regrouped : IsTaking (parser.choose (is_kind kind.Ident) (reading.named_statement depth) (parser.choose (is_kind kind.If) (reading.conditional depth b) (parser.choose (is_kind kind.For) (reading.counted_loop depth b) (reading.exit depth))))
      (part.either (grammar.assign depth) (part.either (grammar.store depth) (part.either (grammar.call depth) others)))
      (λ n. IsKind kind.Ident n ⊎ (IsKind kind.If n ⊎ (IsKind kind.For n ⊎ IsKind kind.Return n))) NoElse
  regrouped = record {
    reader = same_reader (factored grammar.named (assign_rest depth) (store_rest depth) (part.either (grammar.call depth) others))
        (same_reader (factored grammar.named (λ at. part.either (store_rest depth at) (assign_rest depth at)) (call_rest depth) others) named_or_others.reader);
    shorter = named_or_others.shorter;
  }

  statement_taking : IsTaking (reading.statement depth b) (grammar.statement depth B) BeginsStatement NoElse
  unfolding reading.statement
  statement_taking = choose_taking (weaken_taking (λ n h. h) (λ n h. tt) (local_taking depth)) regrouped is_local others_no_local

  -- a statement follows another one
  starts_at : (k : Sym) → reading.starts k ≡ true → (n : Option Word) → IsKind k n → begins_statement n ≡ true
  starts_at k e None h = absurd (cc)
  starts_at k e (Some w) h = ap reading.starts (same_is w.sym k h) ∙ e

  begun : (n : Option Word) → BeginsStatement n → begins_statement n ≡ true
  unfolding reading.starts
  begun n (inl (inl h)) = starts_at kind.Const refl n h
  begun n (inl (inr h)) = starts_at kind.Int64 refl n h
  begun n (inr (inl h)) = starts_at kind.Ident refl n h
  begun n (inr (inr (inl h))) = starts_at kind.If refl n h
  begun n (inr (inr (inr (inl h)))) = starts_at kind.For refl n h
  begun n (inr (inr (inr (inr h)))) = starts_at kind.Return refl n h

  begins_no_else : (n : Option Word) → BeginsStatement n → NoElse n
  begins_no_else n (inl (inl h)) = apart kind.Const kind.Else refl n h
  begins_no_else n (inl (inr h)) = apart kind.Int64 kind.Else refl n h
  begins_no_else n (inr (inl h)) = apart kind.Ident kind.Else refl n h
  begins_no_else n (inr (inr (inl h))) = apart kind.If kind.Else refl n h
  begins_no_else n (inr (inr (inr (inl h)))) = apart kind.For kind.Else refl n h
  begins_no_else n (inr (inr (inr (inr h)))) = apart kind.Return kind.Else refl n h

  brace_ends : (n : Option Word) → IsKind kind.CloseBrace n → begins_statement n ≡ false
  unfolding reading.starts
  brace_ends None h = refl
  brace_ends (Some w) h = ap reading.starts (same_is w.sym kind.CloseBrace h)

  abbrev inner : Parser Closed
  inner = parser.and_then (reading.statements depth b) (λ stmts. parser.and_then (named.token kind.CloseBrace) (λ word. parser.done (record { stmts = stmts }, word.line)))

  abbrev Inner : Production Closed
  Inner = part.and_then (part.repeated (grammar.statement depth B)) (λ stmts. part.and_then (grammar.word kind.CloseBrace) (λ word. part.done (record { stmts = stmts }, word.line)))

  inner_reader : IsReader inner Inner (λ n. BeginsStatement n ⊎ IsKind kind.CloseBrace n) always
  inner_reader = then_reader
      (repeated_reader statement_taking.reader statement_taking.shorter begins_no_else (apart kind.CloseBrace kind.Else refl) begun brace_ends)
      (λ stmts. then_reader (word_reader kind.CloseBrace) (λ word. done_reader _ always) (λ n h. tt)) (λ n h. h)

  closed_reader : IsReader (reading.closed_block depth b) (grammar.behind kind.OpenBrace Inner) (IsKind kind.OpenBrace) always
  unfolding reading.closed_block
  closed_reader = after_reader kind.OpenBrace inner_reader

-- a block, where at most so many are open at once
pub block_reader : (depth blocks : ℕ) → IsReader (reading.block depth blocks) (grammar.block depth blocks) (IsKind kind.OpenBrace) always
unfolding reading.block grammar.block
block_reader depth zero = nowhere_reader (is_kind kind.OpenBrace) (IsKind kind.OpenBrace) always
block_reader depth (suc blocks) = closed_reader depth (block_reader depth blocks)

-- behind its first brace a block reads no way back
pub behind_brace : (depth blocks : ℕ) (s : State)
    → place {A = Closed} (parser.and_then (reading.statements_at depth blocks) (λ stmts. parser.and_then (named.token kind.CloseBrace) (λ word. parser.done (record { stmts = stmts }, word.line))) s) ≤ length s.words
behind_brace depth blocks s = forward (inner_reader depth (block_reader depth blocks)) s
