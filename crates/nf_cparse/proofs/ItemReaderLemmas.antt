-- The readers of objects, of functions and of whole texts go by their productions, within all limits.
use Rattle.std.proofs.Common.{◌≡◌, ◌<◌, ◌+◌, ◌⊎◌, inl, inr, ℕ, Bool, true, false, cond, List, [], ◌∷◌, refl, sym, ap, ◌∙◌, arith, Option, Some, None, is_some, Ok, Err, true≢false}
use Rattle.std.specs.Prelude.{option_map, codes}
use Rattle.nf_cast.specs.declared.objects.CForm.{CForm}
use Rattle.nf_cast.specs.declared.objects.CForm.TheVariants as form
use Rattle.nf_cast.specs.declared.placed.PlacedName.{PlacedName}
use Rattle.nf_cast.specs.declared.placed.PlacedCells.{PlacedCells}
use Rattle.nf_cast.specs.declared.placed.PlacedItem.{PlacedItem}
use Rattle.nf_cast.specs.declared.placed.PlacedItem.TheVariants as item
use Rattle.nf_grammar.specs.State.{next, next_of}
use Rattle.nf_grammar.specs.Parts as part
use Rattle.nf_grammar.specs.inner.Parsers as parser
use Rattle.nf_grammar.specs.inner.Parsers.{place, bind}
use Rattle.nf_grammar.proofs.Public.OutcomeLemmas.{no_ok}
use Rattle.nf_grammar.proofs.Public.ReaderLemmas.{Next, always, IsReader, done_reader, then_reader, choose_reader, weaken}
use Rattle.nf_grammar.proofs.Public.TokenReaderLemmas.{token_reader}
use Rattle.nf_grammar.proofs.Public.RepeatedReaderLemmas.{repeated_reader, repeated_ends}
use Rattle.nf_grammar.proofs.Public.TakingReaderLemmas.{IsTaking, choose_taking}
use Rattle.nf_grammar.proofs.Public.LimitLemmas.{IsLarger, done_larger, token_larger, then_larger, choose_larger, repeated_larger}
use Rattle.nf_grammar.proofs.Public.PlaceLemmas.{AreReaders}
use Rattle.nf_cparse.specs.declared.symbol.Sym.{Sym}
use Rattle.nf_cparse.specs.declared.symbol.Sym.TheVariants as kind
use Rattle.nf_cparse.specs.Lexing.{Word}
use Rattle.nf_cparse.specs.Grammar as grammar
use Rattle.nf_cparse.specs.Grammar.{Production, Closed, of_kind, is_written}
use Rattle.nf_cparse.specs.inner.Parsers.{State, Outcome, Parser, is_kind}
use Rattle.nf_cparse.specs.inner.Parsers as named
use Rattle.nf_cparse.specs.inner.ItemReading as reading
use Rattle.nf_cparse.proofs.FactorLemmas.{IsSame, same_reader}
use Rattle.nf_cparse.proofs.SameLemmas.{same_as, same_back, same_then_same, same_rest, same_either, same_turned, either_then, then_either, then_then, done_then}
use Rattle.nf_cparse.proofs.ExpressionReaderLemmas.{IsKind, word_reader, after_reader, named_reader, apart}
use Rattle.nf_cparse.proofs.LimitReaderLemmas.{word_larger, after_larger, deeper}
use Rattle.nf_cparse.proofs.PartReaderLemmas.{after_taking, enclosed_reader, optional_reader, separated_reader, equal_reader, flat, enclosed_larger, optional_larger, separated_larger}
use Rattle.nf_cparse.proofs.StatementReaderLemmas.{declared_reader, block_reader}
use Rattle.nf_cparse.proofs.StatementLimitLemmas.{named_larger, declared_larger, block_larger}

-- parameters
params_reader : IsReader reading.params grammar.params (λ n. IsKind kind.Void n ⊎ IsKind kind.Int64 n) (IsKind kind.Close)
unfolding reading.params
params_reader = choose_reader (after_reader kind.Void (done_reader [] (IsKind kind.Close)))
    (separated_reader kind.Comma {stop = IsKind kind.Close} declared_reader (λ n h. tt) (λ n h. tt) (apart kind.Close kind.Comma refl))
    (λ n h. h) (apart kind.Int64 kind.Void refl)

closed_params_reader : IsReader reading.closed_params (grammar.enclosed kind.Open grammar.params kind.Close) (IsKind kind.Open) always
unfolding reading.closed_params
closed_params_reader = enclosed_reader kind.Open kind.Close params_reader (λ n h. h)

-- the cells of an array
abbrev found_cells : Option Word → Option PlacedCells
found_cells o = option_map reading.cells_of o

cells_is : {A : Type 0} (k : Option PlacedCells → Parser A) (s : State)
    → parser.and_then (named.optional (is_kind kind.OpenBracket) (named.enclosed kind.OpenBracket (named.token kind.Lit) kind.CloseBracket)) (λ o. k (found_cells o)) s
    ≡ parser.and_then reading.cells k s
unfolding parser.choose reading.size
cells_is k s = go (is_kind kind.OpenBracket (next s)) (named.token kind.OpenBracket s)
  where
    ends : (word : Word) (o : Outcome Word)
        → bind (bind (bind o (λ w. parser.done word)) (λ x. parser.done (Some x))) (λ o. k (found_cells o))
        ≡ bind (bind (bind o (λ w. parser.done (reading.cells_of word))) (λ x. parser.done (Some x))) k
    ends word (Ok read) = refl
    ends word (Err f) = refl

    inside : (o : Outcome Word)
        → bind (bind (bind o (λ word. named.after kind.CloseBracket (parser.done word))) (λ x. parser.done (Some x))) (λ o. k (found_cells o))
        ≡ bind (bind (bind o (λ word. named.after kind.CloseBracket (parser.done (reading.cells_of word)))) (λ x. parser.done (Some x))) k
    inside (Ok read) = ends read.0 (named.token kind.CloseBracket read.1)
    inside (Err f) = refl

    opened : (o : Outcome Word)
        → bind (bind (bind o (λ w. parser.and_then (named.token kind.Lit) (λ word. named.after kind.CloseBracket (parser.done word)))) (λ x. parser.done (Some x))) (λ o. k (found_cells o))
        ≡ bind (bind (bind o (λ w. parser.and_then (named.token kind.Lit) (λ word. named.after kind.CloseBracket (parser.done (reading.cells_of word))))) (λ x. parser.done (Some x))) k
    opened (Ok read) = inside (named.token kind.Lit read.1)
    opened (Err f) = refl

    go : (b : Bool) (o : Outcome Word)
        → bind (cond b (bind (bind o (λ w. parser.and_then (named.token kind.Lit) (λ word. named.after kind.CloseBracket (parser.done word)))) (λ x. parser.done (Some x))) (parser.done None s)) (λ o. k (found_cells o))
        ≡ bind (cond b (bind (bind o (λ w. parser.and_then (named.token kind.Lit) (λ word. named.after kind.CloseBracket (parser.done (reading.cells_of word))))) (λ x. parser.done (Some x))) (parser.done None s)) k
    go true o = opened o
    go false o = refl

abbrev object_of : PlacedName → Option PlacedCells → PlacedItem
object_of at cells = item.Object (record { name = at; cells = cells })

-- what stands behind the name of an object
abbrev ObjectBehind : PlacedName → Production PlacedItem
ObjectBehind at = part.and_then (part.optional (grammar.enclosed kind.OpenBracket (grammar.word kind.Lit) kind.CloseBracket)) (λ cells.
    grammar.behind kind.Semicolon (part.done (object_of at (option_map reading.cells_of cells))))

object_reader : (at : PlacedName) → IsReader (reading.object_behind at) (ObjectBehind at) (λ n. IsKind kind.OpenBracket n ⊎ IsKind kind.Semicolon n) always
unfolding reading.object_behind
object_reader at = equal_reader (cells_is (λ cells. named.after kind.Semicolon (parser.done (object_of at cells))))
    (then_reader (optional_reader {stop = IsKind kind.Semicolon} (enclosed_reader kind.OpenBracket kind.CloseBracket (word_reader kind.Lit) (λ n h. tt)) (λ n h. tt) (λ n h. h) (apart kind.Semicolon kind.OpenBracket refl))
    (λ cells. after_reader kind.Semicolon (done_reader (object_of at (found_cells cells)) always)) (λ n h. h))

module _ (depth : ℕ) where
  -- what stands behind the name of a function
  abbrev FuncBehind : CForm → PlacedName → Production PlacedItem
  FuncBehind f at = part.and_then (grammar.enclosed kind.Open grammar.params kind.Close) (λ xs. part.and_then (grammar.block depth depth) (λ body.
      part.done (item.Func (record { form = f; name = at; params = xs; body = body.0; end = body.1 }))))

  func_behind_reader : (f : CForm) (at : PlacedName) → IsReader (reading.func_behind depth f at) (FuncBehind f at) (IsKind kind.Open) always
  unfolding reading.func_behind
  func_behind_reader f at = then_reader closed_params_reader (λ xs. then_reader (block_reader depth depth) (λ body. done_reader _ always) (λ n h. tt)) (λ n h. tt)

  abbrev Func : CForm → Production PlacedItem
  Func f = part.and_then grammar.named (FuncBehind f)

  func_reader : (f : CForm) → IsReader (reading.func depth f) (Func f) (IsKind kind.Ident) always
  unfolding reading.func
  func_reader f = then_reader named_reader (func_behind_reader f) (λ n h. tt)

  -- an object or a function, by its first words
  abbrev BehindDeclared : PlacedName → Production PlacedItem
  BehindDeclared at = part.either (FuncBehind form.StaticInt at) (ObjectBehind at)

  abbrev BehindStatic : Production PlacedItem
  BehindStatic = part.either (grammar.behind kind.Void (Func form.StaticVoid)) (part.and_then grammar.declared BehindDeclared)

  abbrev Item : Production PlacedItem
  Item = part.either (grammar.behind kind.Static BehindStatic) (grammar.behind kind.Int64 (Func form.Int))

  behind_declared_reader : (at : PlacedName)
      → IsReader (reading.behind_declared depth at) (BehindDeclared at) (λ n. IsKind kind.Open n ⊎ (IsKind kind.OpenBracket n ⊎ IsKind kind.Semicolon n)) always
  unfolding reading.behind_declared
  behind_declared_reader at = choose_reader (func_behind_reader form.StaticInt at) (object_reader at) (λ n h. h)
      (λ n h. elim h [ inl b ↦ apart kind.OpenBracket kind.Open refl n b | inr b ↦ apart kind.Semicolon kind.Open refl n b ])

  behind_static_reader : IsReader (reading.behind_static depth) BehindStatic (λ n. IsKind kind.Void n ⊎ IsKind kind.Int64 n) always
  unfolding reading.behind_static
  behind_static_reader = choose_reader (after_reader kind.Void (func_reader form.StaticVoid)) (then_reader declared_reader behind_declared_reader (λ n h. tt))
      (λ n h. h) (apart kind.Int64 kind.Void refl)

  -- the forms of functions, one by one
  formed : (a b : Sym) (f : CForm) → IsSame (part.and_then (grammar.behind a (grammar.behind b (part.done f))) Func) (grammar.behind a (grammar.behind b (Func f)))
  formed a b f = same_then_same (then_then (grammar.word a) (λ word. grammar.behind b (part.done f)) Func)
      (same_rest (grammar.word a) (λ word. same_then_same (then_then (grammar.word b) (λ word. part.done f) Func)
      (same_rest (grammar.word b) (λ word. done_then f Func (func_reader f).empty))))

  formed_once : (a : Sym) (f : CForm) → IsSame (part.and_then (grammar.behind a (part.done f)) Func) (grammar.behind a (Func f))
  formed_once a f = same_then_same (then_then (grammar.word a) (λ word. part.done f) Func)
      (same_rest (grammar.word a) (λ word. done_then f Func (func_reader f).empty))

  abbrev StaticVoid : Production PlacedItem
  StaticVoid = grammar.behind kind.Static (grammar.behind kind.Void (Func form.StaticVoid))

  abbrev StaticInt : Production PlacedItem
  StaticInt = grammar.behind kind.Static (grammar.behind kind.Int64 (Func form.StaticInt))

  abbrev Int : Production PlacedItem
  Int = grammar.behind kind.Int64 (Func form.Int)

  funcs : IsSame (grammar.func depth) (part.either StaticVoid (part.either StaticInt Int))
  funcs = same_then_same (either_then (grammar.behind kind.Static (grammar.behind kind.Void (part.done form.StaticVoid)))
      (part.either (grammar.behind kind.Static (grammar.behind kind.Int64 (part.done form.StaticInt))) (grammar.behind kind.Int64 (part.done form.Int))) Func)
      (same_either (formed kind.Static kind.Void form.StaticVoid)
      (same_then_same (either_then (grammar.behind kind.Static (grammar.behind kind.Int64 (part.done form.StaticInt))) (grammar.behind kind.Int64 (part.done form.Int)) Func)
      (same_either (formed kind.Static kind.Int64 form.StaticInt) (formed_once kind.Int64 form.Int))))

  -- what begins with `static`
  behind_declared : IsSame (part.and_then grammar.declared BehindDeclared) (part.either (grammar.behind kind.Int64 (Func form.StaticInt)) (part.and_then grammar.declared ObjectBehind))
  behind_declared = same_then_same (then_either grammar.declared (FuncBehind form.StaticInt) ObjectBehind)
      (same_either (then_then (grammar.word kind.Int64) (λ word. grammar.named) (FuncBehind form.StaticInt)) (same_as (part.and_then grammar.declared ObjectBehind)))

  statics : IsSame (grammar.behind kind.Static BehindStatic) (part.either StaticVoid (part.either StaticInt (grammar.object depth)))
  statics = same_then_same (then_either (grammar.word kind.Static) (λ word. grammar.behind kind.Void (Func form.StaticVoid)) (λ word. part.and_then grammar.declared BehindDeclared))
      (same_either (same_as StaticVoid)
      (same_then_same (same_rest (grammar.word kind.Static) (λ word. behind_declared))
      (then_either (grammar.word kind.Static) (λ word. grammar.behind kind.Int64 (Func form.StaticInt)) (λ word. part.and_then grammar.declared ObjectBehind))))

  items_same : IsSame Item (part.either (grammar.object depth) (grammar.func depth))
  items_same = same_then_same (same_either statics (same_as Int))
      (same_then_same (same_back (same_turned (grammar.object depth) StaticVoid StaticInt Int))
      (same_either (same_as (grammar.object depth)) (same_back funcs)))

  abbrev BeginsItem : Next Word
  BeginsItem n = IsKind kind.Static n ⊎ IsKind kind.Int64 n

  pub item_taking : IsTaking (reading.item depth) (part.either (grammar.object depth) (grammar.func depth)) BeginsItem always
  unfolding reading.item
  item_taking = record { reader = same_reader items_same taken.reader; shorter = taken.shorter }
    where
      taken : IsTaking (parser.choose (is_kind kind.Static) (named.after kind.Static (reading.behind_static depth)) (named.after kind.Int64 (reading.func depth form.Int))) Item BeginsItem always
      taken = choose_taking (after_taking kind.Static behind_static_reader) (after_taking kind.Int64 (func_reader form.Int)) (λ n h. h) (apart kind.Int64 kind.Static refl)

  abbrev AtEnd : Next Word
  AtEnd n = n ≡ None

  begun : (n : Option Word) → BeginsItem n → is_some n ≡ true
  begun None (inl h) = absurd (true≢false (sym h))
  begun None (inr h) = absurd (true≢false (sym h))
  begun (Some w) h = refl

  items_reader : IsReader (reading.items depth) (grammar.items depth) (λ n. BeginsItem n ⊎ AtEnd n) AtEnd
  items_reader = repeated_reader item_taking.reader item_taking.shorter (λ n h. tt) (λ n h. tt) begun (λ n h. ap is_some h)

  -- the declaration of `nf_emit`, word by word
  abbrev one : List ℕ → Parser (List PlacedItem) → Parser (List PlacedItem)
  one text p = named.after kind.Int64 (parser.and_then (parser.token (is_written text)) (λ word. p))

  abbrev ended : Parser (List PlacedItem)
  ended = named.after kind.Close (named.after kind.Semicolon (reading.items depth))

  abbrev with_end : Parser (List PlacedItem)
  with_end = named.after kind.Comma (one (codes "end") ended)

  abbrev with_begin : Parser (List PlacedItem)
  with_begin = named.after kind.Comma (one (codes "begin") with_end)

  abbrev with_name : Parser (List PlacedItem)
  with_name = named.after kind.Comma (one (codes "name") with_begin)

  abbrev flat_text : Parser (List PlacedItem)
  flat_text = named.after kind.Void (parser.and_then (parser.token (is_written (codes "nf_emit"))) (λ word. named.after kind.Open (one (codes "sign") with_name)))

  parameter_is : (text : List ℕ) (p : Parser (List PlacedItem)) (s : State) → parser.and_then (reading.parameter text) (λ read. p) s ≡ one text p s
  unfolding reading.parameter
  parameter_is text p s = flat (named.token kind.Int64 s) _ _ _ (λ w t. flat (parser.token (is_written text) t) _ _ _ (λ w u. refl))

  next_is : (text : List ℕ) (p : Parser (List PlacedItem)) (s : State) → parser.and_then (reading.next_parameter text) (λ read. p) s ≡ named.after kind.Comma (one text p) s
  unfolding reading.next_parameter
  next_is text p s = flat (named.token kind.Comma s) _ _ _ (λ w t. parameter_is text p t)

  -- a parser in front of another one
  abbrev before : Parser (Unit {0}) → Parser (List PlacedItem)
  before p = parser.and_then p (λ read. reading.items depth)

  abbrev rest_end : Parser (Unit {0})
  rest_end = named.after kind.Close (named.after kind.Semicolon (parser.done tt))

  rest_is : (s : State) → before rest_end s ≡ ended s
  rest_is s = flat (named.token kind.Close s) _ _ _ (λ w t. flat (named.token kind.Semicolon t) _ _ _ (λ w u. refl))

  in_front : (text : List ℕ) (p : Parser (Unit {0})) (q : Parser (List PlacedItem)) → ((s : State) → before p s ≡ q s)
      → (s : State) → before (parser.and_then (reading.next_parameter text) (λ read. p)) s ≡ named.after kind.Comma (one text q) s
  in_front text p q h s = flat (reading.next_parameter text s) (λ read. p) (λ read. reading.items depth) (λ read. q) (λ x t. h t) ∙ next_is text q s

  abbrev rest_fourth : Parser (Unit {0})
  rest_fourth = parser.and_then (reading.next_parameter (codes "end")) (λ read. rest_end)

  abbrev rest_third : Parser (Unit {0})
  rest_third = parser.and_then (reading.next_parameter (codes "begin")) (λ read. rest_fourth)

  abbrev rest_second : Parser (Unit {0})
  rest_second = parser.and_then (reading.next_parameter (codes "name")) (λ read. rest_third)

  second_is : (s : State) → before rest_second s ≡ with_name s
  second_is = in_front (codes "name") rest_third with_begin (in_front (codes "begin") rest_fourth with_end (in_front (codes "end") rest_end ended rest_is))

  first_is : (s : State) → before (parser.and_then (reading.parameter (codes "sign")) (λ read. rest_second)) s ≡ one (codes "sign") with_name s
  first_is s = flat (reading.parameter (codes "sign") s) (λ read. rest_second) (λ read. reading.items depth) (λ read. with_name) (λ x t. second_is t) ∙ parameter_is (codes "sign") with_name s

  text_is : (s : State) → flat_text s ≡ reading.text depth s
  unfolding reading.text reading.declaration
  text_is s = sym (flat (named.token kind.Void s) _ _ _ (λ w t. flat (parser.token (is_written (codes "nf_emit")) t) _ _ _ (λ w u. flat (named.token kind.Open u) _ _ _ (λ w v. first_is v))))

  -- one of the words of the declaration
  written_reader : (text : List ℕ) {p : Parser (List PlacedItem)} {P : Production (List PlacedItem)} {begin stop : Next Word} → IsReader p P begin stop
      → IsReader (parser.and_then (parser.token (is_written text)) (λ word. p)) (grammar.written text P) always stop
  written_reader text r = weaken (λ n h. tt) (λ n h. h) (then_reader (token_reader (is_written text)) (λ word. r) (λ n h. tt))

  one_reader : (text : List ℕ) {p : Parser (List PlacedItem)} {P : Production (List PlacedItem)} {begin stop : Next Word} → IsReader p P begin stop
      → IsReader (one text p) (grammar.behind kind.Int64 (grammar.written text P)) (IsKind kind.Int64) stop
  one_reader text r = after_reader kind.Int64 (written_reader text r)

  pub text_reader : IsReader (reading.text depth) (grammar.c_text_grammar depth) (IsKind kind.Void) AtEnd
  text_reader = equal_reader text_is
      (after_reader kind.Void (written_reader (codes "nf_emit") (after_reader kind.Open (one_reader (codes "sign") (after_reader kind.Comma (one_reader (codes "name")
      (after_reader kind.Comma (one_reader (codes "begin") (after_reader kind.Comma (one_reader (codes "end") (after_reader kind.Close (after_reader kind.Semicolon items_reader))))))))))))

  -- it goes on to the end of the words
  nothing : (t : State) → (is_some (next t) ≡ false) ⊎ (t.words ≡ []) → t.words ≡ []
  nothing t (inr e) = e
  nothing t (inl e) = go t.words e
    where
      go : (ws : List Word) → is_some (next_of ws) ≡ false → ws ≡ []
      go [] e = refl
      go (w ∷ ws) e = absurd (true≢false e)

  text_end : (s t : State) (items : List PlacedItem) (o : Outcome (Unit {0})) → bind o (λ read. reading.items depth) ≡ Ok (items, t) → t.words ≡ []
  text_end s t items (Ok read) e = nothing t (repeated_ends is_some (reading.item depth) item_taking.shorter read.1 t items e)
  text_end s t items (Err f) e = absurd (no_ok f (items, t) e)

  pub text_to_end : (s t : State) (items : List PlacedItem) → reading.text depth s ≡ Ok (items, t) → t.words ≡ []
  unfolding reading.text
  text_to_end s t items e = text_end s t items (reading.declaration s) e

-- within larger limits
params_larger : IsLarger reading.closed_params reading.closed_params
unfolding reading.closed_params reading.params
params_larger = enclosed_larger (choose_larger (is_kind kind.Void) (after_larger (done_larger []) kind.Void) (separated_larger declared_larger kind.Comma)) kind.Open kind.Close

object_larger : (at : PlacedName) → IsLarger (reading.object_behind at) (reading.object_behind at)
unfolding reading.object_behind reading.size
object_larger at = then_larger (optional_larger (after_larger (then_larger (word_larger kind.Lit) (λ word. after_larger (done_larger _) kind.CloseBracket)) kind.OpenBracket) (is_kind kind.OpenBracket))
    (λ cells. after_larger (done_larger _) kind.Semicolon)

parameter_larger : (text : List ℕ) → IsLarger (reading.parameter text) (reading.parameter text)
unfolding reading.parameter
parameter_larger text = after_larger (then_larger (token_larger (is_written text)) (λ word. done_larger tt)) kind.Int64

next_larger : (text : List ℕ) → IsLarger (reading.next_parameter text) (reading.next_parameter text)
unfolding reading.next_parameter
next_larger text = after_larger (parameter_larger text) kind.Comma

declaration_larger : IsLarger reading.declaration reading.declaration
unfolding reading.declaration
declaration_larger = after_larger (then_larger (token_larger (is_written (codes "nf_emit"))) (λ word. after_larger
    (then_larger (parameter_larger (codes "sign")) (λ first. then_larger (next_larger (codes "name")) (λ second. then_larger (next_larger (codes "begin")) (λ third. then_larger (next_larger (codes "end")) (λ fourth.
    after_larger (after_larger (done_larger tt) kind.Semicolon) kind.Close))))) kind.Open)) kind.Void

module _ (d e : ℕ) (more : d < e) where
  func_behind_larger : (f : CForm) (at : PlacedName) → IsLarger (reading.func_behind d f at) (reading.func_behind e f at)
  unfolding reading.func_behind
  func_behind_larger f at = then_larger params_larger (λ xs. then_larger (block_larger d e (deeper d e more) d e more) (λ body. done_larger _))

  func_larger : (f : CForm) → IsLarger (reading.func d f) (reading.func e f)
  unfolding reading.func
  func_larger f = then_larger named_larger (func_behind_larger f)

  item_larger : IsLarger (reading.item d) (reading.item e)
  unfolding reading.item reading.behind_static reading.behind_declared
  item_larger = choose_larger (is_kind kind.Static) (after_larger (choose_larger (is_kind kind.Void) (after_larger (func_larger form.StaticVoid) kind.Void)
      (then_larger declared_larger (λ at. choose_larger (is_kind kind.Open) (func_behind_larger form.StaticInt at) (object_larger at)))) kind.Static)
      (after_larger (func_larger form.Int) kind.Int64)

  pub text_larger : IsLarger (reading.text d) (reading.text e)
  unfolding reading.text
  text_larger = then_larger declaration_larger (λ read. repeated_larger is_some item_larger)

-- whole texts are read within all limits
pub text_readers : AreReaders reading.text grammar.c_text_grammar
text_readers = record {
  begin = λ d n. IsKind kind.Void n;
  stop = λ d n. n ≡ None;
  reads = text_reader;
  at_end = λ d. refl;
  to_end = text_to_end;
  larger = λ d m h. text_larger d (d + m) (omega (arith, h));
}
