-- The readers of arguments, and of what stands to the right of `=`, go by their productions.
use Rattle.std.proofs.Common.{◌≡◌, ◌≤◌, ◌<◌, ◌⊎◌, inl, inr, ℕ, Bool, true, false, ◌&&◌, cond, List, [], ◌∷◌, length, refl, sym, ap, ◌∙◌, subst, arith, Some, None, Ok, Err, unwrap_or}
use denote.Enum.Bare.{sameb}
use Rattle.nf_cast.specs.declared.placed.PlacedName.{PlacedName}
use Rattle.nf_cast.specs.declared.placed.PlacedExpr.{PlacedExpr}
use Rattle.nf_cast.specs.declared.placed.PlacedExpr.TheVariants as node
use Rattle.nf_cast.specs.declared.placed.PlacedRight.{PlacedRight}
use Rattle.nf_cast.specs.declared.placed.PlacedRight.TheVariants as right
use Rattle.nf_grammar.specs.State.{state, next, next_of}
use Rattle.nf_grammar.specs.Parts as part
use Rattle.nf_grammar.specs.Parts.{IsThen, IsThenFront, IsToken, IsTokenFront, first, rest, none, whole}
use Rattle.nf_grammar.specs.declared.fault.Fault.{Fault}
use Rattle.nf_grammar.specs.inner.Parsers as parser
use Rattle.nf_grammar.specs.inner.Parsers.{place, place_of, bind}
use Rattle.nf_grammar.proofs.Public.OutcomeLemmas.{ok_value, choose_place}
use Rattle.nf_grammar.proofs.Public.ReaderLemmas.{always, IsReader, IsAtFront, done_reader, then_reader, alone_reader, weaken, forward}
use Rattle.nf_grammar.proofs.Public.LimitLemmas.{IsLarger, IsLater, plus, done_larger, then_larger, alone_larger}
use Rattle.nf_cparse.specs.contracts.symbol.Sym.{the_type}
use Rattle.nf_cparse.specs.declared.symbol.Sym.TheVariants as kind
use Rattle.nf_cparse.specs.declared.level.Level.{Level}
use Rattle.nf_cparse.specs.declared.level.Level.TheVariants as level
use Rattle.nf_cparse.specs.Lexing.{Word}
use Rattle.nf_cparse.specs.Grammar as grammar
use Rattle.nf_cparse.specs.Grammar.{Production, of_kind, placed}
use Rattle.nf_cparse.specs.inner.Parsers.{State, Parser, is_kind, is_at, kind_of_next}
use Rattle.nf_cparse.specs.inner.ExpressionReading as expressions
use Rattle.nf_cparse.specs.inner.ExpressionReading.{is_operator, nest}
use Rattle.nf_cparse.specs.inner.StatementReading as reading
use Rattle.nf_cparse.specs.inner.StatementReading.{begins_call, second}
use Rattle.nf_cparse.proofs.StepLemmas.{same_is}
use Rattle.nf_cparse.proofs.KindLemmas.{name_primary}
use Rattle.nf_cparse.proofs.NestLemmas.{name_alone}
use Rattle.nf_cparse.proofs.OperandLemmas.{chain_start, chain_end, unary_other}
use Rattle.nf_cparse.proofs.ExpressionReaderLemmas.{IsKind, named_reader, BeginsExpression, EndsExpression, NoOperator, no_sign, ends_at, open_ends, close_ends, comma_ends, semicolon_ends, expression_reader, nest_readers, apart}
use Rattle.nf_cparse.proofs.LimitReaderLemmas.{expression_larger, AreLarger, word_larger}
use Rattle.nf_cparse.proofs.PartReaderLemmas.{enclosed_reader, optional_reader, separated_reader, begins_none, no_close, not_false, not_true, enclosed_larger, optional_larger, separated_larger}

-- a name with which a call may begin
module _ (s v : State) where
  named_room : grammar.named.front s v → v.room ≡ s.room
  named_room (first (none e)) = ap (λ (u : State). u.room) e
  named_room (first (whole w)) = w.room
  named_room (rest w e) = ap (λ (u : State). u.room) e ∙ w.room

-- a name at the front of words
record StandsName (s t : State) (at : PlacedName) : Type 0 where
  word : Word
  words : s.words ≡ word ∷ t.words
  is_name : sameb the_type word.sym kind.Ident ≡ true
  room : t.room ≡ s.room

kept : {A : Type 0} (b : Bool) (w x : A) → cond b (Some w) None ≡ Some x → b ≡ true
kept true w x e = refl
kept false w x e = absurd (cc)

stands : (s t : State) (at : PlacedName) → grammar.named.word s at t → StandsName s t at
stands s t at w = record {
  word = w.first.token;
  words = w.first.first ∙ ap (λ (u : State). w.first.token ∷ u.words) (sym w.rest.stays);
  is_name = kept (sameb the_type w.first.token.sym kind.Ident) w.first.token w.given w.first.gives;
  room = ap (λ (u : State). u.room) w.rest.stays ∙ w.first.room;
}

-- a call comes next where a name does, and "(" behind it
calls : (s t : State) (at : PlacedName) → grammar.named.word s at t → IsKind kind.Open (next t) → begins_call s ≡ true
calls s t at w h =
    let n = stands s t at w in
    rw (n.words, n.is_name) h

both : (a b : Bool) → a && b ≡ true → (a ≡ true) × (b ≡ true)
both true b e = (refl, e)
both false b e = absurd (cc)

-- the words of a call
record StandsCall (s : State) : Type 0 where
  name : Word
  open' : Word
  words : List Word
  are : s.words ≡ name ∷ open' ∷ words
  is_name : name.sym ≡ kind.Ident
  opened : open'.sym ≡ kind.Open

stands_call : (s : State) → begins_call s ≡ true → StandsCall s
stands_call s h = go s.words refl (both (is_kind kind.Ident (next s)) (is_kind kind.Open (second s)) h)
  where
    go : (ws : List Word) → s.words ≡ ws → (is_kind kind.Ident (next s) ≡ true) × (is_kind kind.Open (second s) ≡ true) → StandsCall s
    go [] e h = let a : is_kind kind.Ident (next_of s.words) ≡ true = h.0 in let b = rw e at a in absurd (cc)
    go (a ∷ []) e h = let i : is_kind kind.Open (next_of (parser.tail_of s.words)) ≡ true = h.1 in let b = rw e at i in absurd (cc)
    go (a ∷ b ∷ ws) e h =
        let i : is_kind kind.Ident (next_of s.words) ≡ true = h.0 in
        let j : is_kind kind.Open (next_of (parser.tail_of s.words)) ≡ true = h.1 in
        record {
          name = a;
          open' = b;
          words = ws;
          are = e;
          is_name = same_is a.sym kind.Ident (rw e at i);
          opened = same_is b.sym kind.Open (rw e at j);
        }

module _ (depth : ℕ) where
  pub whole_reader : IsReader (reading.whole depth) (grammar.whole depth) BeginsExpression EndsExpression
  unfolding reading.whole
  whole_reader = alone_reader (expression_reader (nest_readers depth))

  pub arguments_reader : IsReader (reading.arguments depth) (grammar.arguments depth) (IsKind kind.Open) always
  unfolding reading.arguments
  arguments_reader = then_reader
      (enclosed_reader kind.Open kind.Close
      (optional_reader {stop = IsKind kind.Close}
      (separated_reader kind.Comma whole_reader (ends_at kind.Comma comma_ends) (ends_at kind.Close close_ends) (apart kind.Close kind.Comma refl))
      (λ n h. h) (λ n h. not_false (is_kind kind.Close n) (begins_none kind.Close no_close n h)) (λ n h. not_true (is_kind kind.Close n) h))
      (λ n h. h))
      (λ found. done_reader (unwrap_or found []) always) (λ n h. tt)

  abbrev Called : Production PlacedRight
  Called = part.and_then grammar.named (λ at. part.and_then (grammar.arguments depth) (λ found. part.done (right.Call at found)))

  abbrev Computed : Production PlacedRight
  Computed = part.and_then (grammar.whole depth) (λ a. part.done (right.Value a))

  behind_reader : (at : PlacedName) → IsReader (parser.and_then (reading.arguments depth) (λ found. parser.done (right.Call at found)))
      (part.and_then (grammar.arguments depth) (λ found. part.done (right.Call at found))) (IsKind kind.Open) always
  behind_reader at = then_reader arguments_reader (λ found. done_reader (right.Call at found) always) (λ n h. tt)

  called_reader : IsReader (reading.called depth) Called (IsKind kind.Ident) (IsKind kind.Semicolon)
  unfolding reading.called
  called_reader = weaken (λ n h. h) (λ n h. tt) (then_reader named_reader behind_reader (λ n h. tt))

  computed_reader : IsReader (reading.computed depth) Computed BeginsExpression (IsKind kind.Semicolon)
  unfolding reading.computed
  computed_reader = weaken (λ n h. h) (ends_at kind.Semicolon semicolon_ends) (then_reader whole_reader (λ a. done_reader (right.Value a) EndsExpression) (λ n h. h))

  -- a front of a call is one of an expression too, unless "(" comes behind the name
  front_of_call : (s v : State) → Called.front s v → (begins_call s ≡ true) ⊎ grammar.named.front s v
  front_of_call s v (first f) = inr f
  front_of_call s v (rest {x} {middle} w f) = elim ((behind_reader x).starts middle v f) [
    | inl e ↦ inr (subst (λ u. grammar.named.front s u) (sym e) (named_reader.whole s middle x w))
    | inr b ↦ inl (calls s middle x w b)
  ]

  as_expression : (s v : State) → grammar.named.front s v → Computed.front s v
  as_expression s v f = first (record {
    left = v.room;
    front = first (first (first (first (first (first (rest none (first (inr (inl (first f))))))))));
    room = named_room s v f;
  })

  -- a chain that is one operand
  module _ (l : Level) (p : Parser PlacedExpr) (x : PlacedExpr) (s t : State) (e : p s ≡ Ok (x, t)) (fewer : length t.words ≤ length s.words) (room : t.room ≤ s.room) where
    alone : NoOperator l (next t) → expressions.chain l p s ≡ Ok (x, t)
    alone h = chain_end l p s x t (chain_start l p s x t e (record { words = fewer; room = room })) h

  -- a name before "(" is an expression by itself
  module _ (s : State) (call : StandsCall s) where
    abbrev behind : State
    behind = state s.room (call.open' ∷ call.words)

    abbrev name : PlacedExpr
    name = node.Name (placed call.name)

    name_read : expressions.named s ≡ Ok (placed call.name, behind)
    unfolding expressions.named parser.token
    name_read = rw (call.are, call.is_name) refl

    primary_read : expressions.primary (nest depth) s ≡ Ok (name, behind)
    unfolding expressions.name_or_cell
    primary_read =
        let n : kind_of_next (next s) ≡ Some kind.Ident = rw (call.are, call.is_name) refl in
        let o : is_at kind.OpenBracket behind ≡ false = rw call.opened refl in
        name_primary (nest depth) s n ∙ rw name_read (name_alone (expressions.index_at depth) (placed call.name) behind o)

    ends : EndsExpression (next behind)
    ends = let o : IsKind kind.Open (next behind) = rw call.opened refl in ends_at kind.Open open_ends (next behind) o

    fewer : length behind.words ≤ length s.words
    fewer = omega (arith, ap length call.are)

    expression_read : expressions.expression (nest depth) s ≡ Ok (name, behind)
    expression_read =
        let i : IsKind kind.Ident (next s) = rw (call.are, call.is_name) refl in
        let k : s.room ≤ s.room = omega arith in
        let n = nest depth in
        let unary = unary_other (expressions.primary n) s (no_sign kind.Ident refl refl (next s) i) ∙ primary_read in
        let product = alone level.Product (expressions.signed_operand n) name s behind unary fewer k ends.0.0.0.0.0.1 in
        let sum = alone level.Sum (expressions.product n) name s behind product fewer k ends.0.0.0.0.1 in
        let relation = alone level.Relation (expressions.sum n) name s behind sum fewer k ends.0.0.0.1 in
        let equality = alone level.Equality (expressions.relation n) name s behind relation fewer k ends.0.0.1 in
        let conjunction = alone level.And (expressions.equality n) name s behind equality fewer k ends.0.1 in
        alone level.Or (expressions.conjunction n) name s behind conjunction fewer k ends.1

    computed_read : reading.computed depth s ≡ Ok (right.Value name, behind)
    unfolding reading.computed reading.whole parser.alone
    computed_read = rw expression_read refl

    called_further : place (reading.called depth s) ≤ length behind.words
    unfolding reading.called
    called_further = rw name_read (forward (behind_reader (placed call.name)) behind)

  -- what stands to the right
  right_sound : (s t : State) (x : PlacedRight) (b : Bool)
      → cond b (reading.called depth s) (reading.computed depth s) ≡ Ok (x, t) → (part.either Called Computed).word s x t
  right_sound s t x true e = inl (called_reader.sound s t x e)
  right_sound s t x false e = inr (computed_reader.sound s t x e)

  right_complete : (s t : State) (x : PlacedRight) → (part.either Called Computed).word s x t → IsKind kind.Semicolon (next t)
      → reading.right_of depth s ≡ Ok (x, t)
  unfolding reading.right_of
  right_complete s t x (inl w) h =
      let b = calls s w.middle w.given w.first ((behind_reader w.given).begins w.middle t x w.rest tt) in
      rw b (called_reader.complete s t x w h)
  right_complete s t x (inr w) h = go (begins_call s) refl (computed_reader.complete s t x w h)
    where
      go : (b : Bool) → begins_call s ≡ b → reading.computed depth s ≡ Ok (x, t)
          → cond b (reading.called depth s) (reading.computed depth s) ≡ Ok (x, t)
      go false i e = e
      go true i e =
          let call = stands_call s i in
          let same = ok_value (right.Value (name s call)) x (behind s call) t (sym (computed_read s call) ∙ e) in
          let semicolon : IsKind kind.Semicolon (next (behind s call)) = subst (λ (u : State). IsKind kind.Semicolon (next u)) (sym same.1) h in
          let k = rw call.opened at semicolon in
          absurd (cc)

  right_begins : (s t : State) (x : PlacedRight) → (part.either Called Computed).word s x t → IsKind kind.Semicolon (next t) → BeginsExpression (next s)
  right_begins s t x (inl w) h = inr (inr (inl (called_reader.begins s t x w h)))
  right_begins s t x (inr w) h = computed_reader.begins s t x w h

  right_whole : (s t : State) (x : PlacedRight) → (part.either Called Computed).word s x t → (part.either Called Computed).front s t
  right_whole s t x (inl w) = inl (called_reader.whole s t x w)
  right_whole s t x (inr w) = inr (computed_reader.whole s t x w)

  right_starts : (s v : State) → (part.either Called Computed).front s v → (v ≡ s) ⊎ BeginsExpression (next s)
  right_starts s v (inl f) = elim (called_reader.starts s v f) [ inl e ↦ inl e | inr b ↦ inr (inr (inr (inl b))) ]
  right_starts s v (inr f) = computed_reader.starts s v f

  reach_computed : (s v : State) → Computed.front s v → place (reading.right_of depth s) ≤ length v.words
  unfolding reading.right_of
  reach_computed s v f = go (begins_call s) refl (computed_reader.reach s v f)
    where
      go : (b : Bool) → begins_call s ≡ b → place (reading.computed depth s) ≤ length v.words
          → place (cond b (reading.called depth s) (reading.computed depth s)) ≤ length v.words
      go false i l = l
      go true i l =
          let call = stands_call s i in
          omega (arith, l, ap place (computed_read s call), called_further s call)

  right_reach : (s v : State) → (part.either Called Computed).front s v → place (reading.right_of depth s) ≤ length v.words
  unfolding reading.right_of
  right_reach s v (inr f) = reach_computed s v f
  right_reach s v (inl f) = go (front_of_call s v f)
    where
      go : (begins_call s ≡ true) ⊎ grammar.named.front s v → place (reading.right_of depth s) ≤ length v.words
      go (inl b) = rw b (called_reader.reach s v f)
      go (inr n) = reach_computed s v (as_expression s v n)

  right_at : (s : State) (f : Fault) (b : Bool) → cond b (reading.called depth s) (reading.computed depth s) ≡ Err f
      → IsAtFront (part.either Called Computed) s (place_of f)
  right_at s f true e = let a = called_reader.at s f e in record { end = a.end; front = inl a.front; here = a.here }
  right_at s f false e = let a = computed_reader.at s f e in record { end = a.end; front = inr a.front; here = a.here }

  pub right_reader : IsReader (reading.right_of depth) (grammar.right_of depth) BeginsExpression (IsKind kind.Semicolon)
  unfolding reading.right_of
  right_reader = record {
    sound = λ s t x e. right_sound s t x (begins_call s) e;
    complete = right_complete;
    begins = right_begins;
    empty = λ s. inl (called_reader.empty s);
    whole = right_whole;
    starts = right_starts;
    behind = λ s v f. elim f [ inl g ↦ called_reader.behind s v g | inr g ↦ computed_reader.behind s v g ];
    reach = right_reach;
    at = λ s f e. right_at s f (begins_call s) e;
  }

-- within larger limits
module _ (d e : ℕ) (larger : AreLarger (nest d) (nest e)) where
  pub whole_larger : IsLarger (reading.whole d) (reading.whole e)
  unfolding reading.whole
  whole_larger = alone_larger (expression_larger larger)

  pub arguments_larger : IsLarger (reading.arguments d) (reading.arguments e)
  unfolding reading.arguments
  arguments_larger = then_larger (enclosed_larger (optional_larger (separated_larger whole_larger kind.Comma) (reading.is_no kind.Close)) kind.Open kind.Close) (λ found. done_larger _)

  called_larger : IsLarger (reading.called d) (reading.called e)
  unfolding reading.called expressions.named
  called_larger = then_larger (then_larger (word_larger kind.Ident) (λ word. done_larger _)) (λ at. then_larger arguments_larger (λ found. done_larger _))

  computed_larger : IsLarger (reading.computed d) (reading.computed e)
  unfolding reading.computed
  computed_larger = then_larger whole_larger (λ a. done_larger _)

  pub right_larger : IsLarger (reading.right_of d) (reading.right_of e)
  unfolding reading.right_of
  right_larger = record {
    later = λ m s h. go m s h (begins_call s);
    forward = λ s. choose_place (begins_call s) (reading.called e s) (reading.computed e s) (called_larger.forward s) (computed_larger.forward s);
  }
    where
      go : (m : ℕ) (s : State) → 0 < m → (b : Bool)
          → IsLater m (cond b (reading.called d s) (reading.computed d s)) (cond b (reading.called e (plus m s)) (reading.computed e (plus m s)))
      go m s h true = called_larger.later m s h
      go m s h false = computed_larger.later m s h
