-- The pairs of a line's keys and values, and the row that is read of them.
use Rattle.std.proofs.Common.{◌≡◌, ◌≢◌, ℕ, suc, ◌+◌, ◌==◌, true, false, cond, List, [], ◌∷◌, ◌++◌, length, length-append, drop, map, All, Option, Some, None, refl, sym, ap, subst, ◌∙◌, append_assoc, arith, slice_get, true≢false}
use Rattle.std.proofs.Math.Seq.{drop-cons}
use Rattle.std.proofs.Math.ListN.{drop_of_length-le}
use Rattle.std.specs.List.{AllByRecursion, zip}
use Rattle.std.proofs.lemmas.Bool.{eq-eqb, ne_eqb, eqb-true}
use Rattle.std.proofs.lemmas.List.{append-nil}
use Rattle.std.proofs.lemmas.List.Splits.{length-slice_split}
use Rattle.std.proofs.lemmas.List.Elements.{All-head, All-tail, All-nil, All-push}
use Rattle.std.proofs.lemmas.Option.{get_or_from_slice_get, slice_get_within}
use Rattle.nf_core.specs.declared.values.Value.{Value}
use Rattle.nf_text.specs.Fields.{fields_of}
use Rattle.nf_model.specs.ProperRows.{IsProperCell}
use Rattle.nf_announce.specs.Announcements.{text_of_value, joined, present}
use Rattle.nf_announce.specs.inner.LineParts.{IsRowWith}
use Rattle.nf_announce.specs.inner.RowTexts.{are_as_many, pairs_in, ArePairsIn, marks_of, HasOtherKey, IsTaken, IsPrintedBy, Pushes}
use Rattle.nf_announce.proofs.Public.DistinctItemLemmas.{Apart, each_weaker}
use Rattle.nf_announce.proofs.PlainByteLemmas.{HasPlainBytes, IsFilled, IsName, value_back}
use Rattle.nf_announce.proofs.Public.LineBackLemmas.{Without, semicolons, missing}
use Rattle.nf_announce.proofs.SplitTextLemmas.{split_joined, joined_split}

-- the keys and the values of pairs
abbrev pub firsts : List (List ℕ × List ℕ) → List (List ℕ)
firsts pairs = map (λ (pair : List ℕ × List ℕ). pair.0) pairs

abbrev pub seconds : List (List ℕ × List ℕ) → List (List ℕ)
seconds pairs = map (λ (pair : List ℕ × List ℕ). pair.1) pairs

firsts_zip : (xs ys : List (List ℕ)) → length xs ≡ length ys → firsts (zip xs ys) ≡ xs
firsts_zip [] ys n = refl
firsts_zip (x ∷ xs) [] n = absurd (omega arith)
firsts_zip (x ∷ xs) (y ∷ ys) n = ap (λ rest. x ∷ rest) (firsts_zip xs ys (omega arith))

seconds_zip : (xs ys : List (List ℕ)) → length xs ≡ length ys → seconds (zip xs ys) ≡ ys
seconds_zip [] [] n = refl
seconds_zip [] (y ∷ ys) n = absurd (omega arith)
seconds_zip (x ∷ xs) [] n = absurd (omega arith)
seconds_zip (x ∷ xs) (y ∷ ys) n = ap (λ rest. y ∷ rest) (seconds_zip xs ys (omega arith))

zip_parts : (pairs : List (List ℕ × List ℕ)) → zip (firsts pairs) (seconds pairs) ≡ pairs
zip_parts [] = refl
zip_parts (pair ∷ pairs) = ap (λ rest. pair ∷ rest) (zip_parts pairs)

as_many_parts : (pairs : List (List ℕ × List ℕ)) → length (firsts pairs) ≡ length (seconds pairs)
as_many_parts [] = refl
as_many_parts (pair ∷ pairs) = ap suc (as_many_parts pairs)

fields_count : (text : List ℕ) → length (fields_of 59 text) ≡ marks_of text + 1
fields_count text = length-slice_split (λ byte. byte == 59) text

nonempty : (byte : ℕ) (text : List ℕ) → (length (byte ∷ text) == 0) ≡ false
nonempty byte text = ne_eqb (length (byte ∷ text)) 0 (λ e. omega (arith, e))

-- the texts that were read are those of their pairs
texts_of_pairs : (keys values : List ℕ) → are_as_many keys values ≡ true → (joined (firsts (pairs_in keys values)) ≡ keys) × (joined (seconds (pairs_in keys values)) ≡ values)
texts_of_pairs [] [] h = (refl, refl)
texts_of_pairs [] (byte ∷ values) h = absurd (true≢false (sym h ∙ nonempty byte values))
texts_of_pairs (byte ∷ keys) values h =
    let text : List ℕ = byte ∷ keys in
    let pairs : pairs_in text values ≡ zip (fields_of 59 text) (fields_of 59 values) = ap (λ b. cond b [] (zip (fields_of 59 text) (fields_of 59 values))) (nonempty byte keys) in
    let marks : marks_of text ≡ marks_of values =
    eqb-true (marks_of text) (marks_of values) (subst (λ b. cond b (length values == 0) (marks_of text == marks_of values) ≡ true) (nonempty byte keys) h) in
    let same : length (fields_of 59 text) ≡ length (fields_of 59 values) = fields_count text ∙ ap (λ n. n + 1) marks ∙ sym (fields_count values) in (
      ap (λ ps. joined (firsts ps)) pairs ∙ ap joined (firsts_zip (fields_of 59 text) (fields_of 59 values) same) ∙ joined_split text,
      ap (λ ps. joined (seconds ps)) pairs ∙ ap joined (seconds_zip (fields_of 59 text) (fields_of 59 values) same) ∙ joined_split values,
    )

pub pairs_text : (keys values : List ℕ) (pairs : List (List ℕ × List ℕ)) → ArePairsIn keys values pairs → (joined (firsts pairs) ≡ keys) × (joined (seconds pairs) ≡ values)
pairs_text keys values pairs h =
    let texts = texts_of_pairs keys values h.as_many in
    (ap (λ ps. joined (firsts ps)) h.pairs_are ∙ texts.0, ap (λ ps. joined (seconds ps)) h.pairs_are ∙ texts.1)

-- printed texts give their pairs
some_bytes : (text : List ℕ) (texts : List (List ℕ)) → IsFilled text → (length (joined (text ∷ texts)) == 0) ≡ false
some_bytes [] texts h = absurd h
some_bytes (byte ∷ text) [] h = nonempty byte text
some_bytes (byte ∷ text) (next ∷ texts) h = nonempty byte (text ++ 59 ∷ joined (next ∷ texts))

pub printed_pairs : (keys values : List ℕ) (pairs : List (List ℕ × List ℕ)) → AllByRecursion IsName (firsts pairs) → AllByRecursion HasPlainBytes (seconds pairs)
    → keys ≡ joined (firsts pairs) → values ≡ joined (seconds pairs) → ArePairsIn keys values pairs
printed_pairs keys values [] h k e f = rw (e, f) (record { as_many = refl; pairs_are = refl })
printed_pairs keys values (pair ∷ pairs) h k e f =
    let some : (length keys == 0) ≡ false = ap (λ text. length text == 0) e ∙ some_bytes pair.0 (firsts pairs) h.0.filled in
    let names : fields_of 59 keys ≡ firsts (pair ∷ pairs) = ap (fields_of 59) e ∙ split_joined pair.0 (firsts pairs) (each_weaker IsName (Without 59) (λ text name. semicolons text name.plain) (firsts (pair ∷ pairs)) h) in
    let texts : fields_of 59 values ≡ seconds (pair ∷ pairs) = ap (fields_of 59) f ∙ split_joined pair.1 (seconds pairs) (each_weaker HasPlainBytes (Without 59) semicolons (seconds (pair ∷ pairs)) k) in
    let counts : marks_of keys ≡ marks_of values = omega (arith, fields_count keys, fields_count values, ap length names, ap length texts, as_many_parts (pair ∷ pairs)) in
    record {
      as_many = rw some (eq-eqb (marks_of keys) (marks_of values) counts);
      pairs_are = sym (rw some (rw (names, texts) (zip_parts (pair ∷ pairs))));
    }

-- the next pair is taken where it has the next key: the cell of that key has its text, and the row behind it has the pairs that are left
pub record IsCellBefore (text : Option (List ℕ)) (keys : List (List ℕ)) (pairs : List (List ℕ × List ℕ)) (cell : Option Value) (row : List (Option Value)) : Type 0 where
  pub printed : IsPrintedBy text cell
  pub behind : IsRowWith keys pairs row

first_cell : (key : List ℕ) (keys : List (List ℕ)) (text : Option (List ℕ)) (pairs rest : List (List ℕ × List ℕ)) (cell : Option Value) (row : List (Option Value))
    → AllByRecursion (λ other. key ≢ other) keys → IsTaken key text pairs rest → IsRowWith (key ∷ keys) pairs (cell ∷ row) → IsCellBefore text keys rest cell row
first_cell key keys None pairs rest None row a t h =
    record { printed = refl; behind = record { each = omega (arith, h.each); cells = All-tail IsProperCell None row h.cells; pairs_are = h.pairs_are ∙ sym t.0 } }
first_cell key keys None pairs rest (Some x) row a t h =
    absurd (subst (HasOtherKey key) (sym h.pairs_are) t.1 refl)
first_cell key keys (Some text) pairs rest None row a t h =
    absurd (missing key keys (firsts rest) row a (ap firsts (sym (h.pairs_are ∙ t))))
first_cell key keys (Some text) pairs rest (Some x) row a t h =
    let e : (key, text_of_value x) ∷ present keys row ≡ (key, text) ∷ rest = h.pairs_are ∙ t in
    let pair : ◌≡◌ {A = List ℕ × List ℕ} (key, text_of_value x) (key, text) = cc in
    let same : text_of_value x ≡ text = ap (λ (cell : List ℕ × List ℕ). cell.1) pair in
    let later : present keys row ≡ rest = cc in
    let count : length row ≡ length keys = omega (arith, h.each) in
    record { printed = ap Some same; behind = record { each = count; cells = All-tail IsProperCell (Some x) row h.cells; pairs_are = later } }

-- what was taken, put back before the rest
taken_back : (key : List ℕ) (keys : List (List ℕ)) (text : Option (List ℕ)) (pairs rest : List (List ℕ × List ℕ)) (cell : Option Value) (row : List (Option Value))
    → IsTaken key text pairs rest → IsPrintedBy text cell → present keys row ≡ rest → present (key ∷ keys) (cell ∷ row) ≡ pairs
taken_back key keys None pairs rest None row t p e = e ∙ t.0
taken_back key keys None pairs rest (Some x) row t p e = absurd cc
taken_back key keys (Some text) pairs rest None row t p e = absurd cc
taken_back key keys (Some text) pairs rest (Some x) row t p e =
    let same : text_of_value x ≡ text = cc in
    rw same (ap (λ later. (key, text) ∷ later) e) ∙ sym t

-- two proper cells with one text are the same
same_cell : (text : Option (List ℕ)) (a b : Option Value) → IsProperCell a → IsProperCell b → IsPrintedBy text a → IsPrintedBy text b → a ≡ b
same_cell text None None p q e f = refl
same_cell text None (Some y) p q e f = absurd cc
same_cell text (Some x) None p q e f = absurd cc
same_cell text (Some x) (Some y) p q e f = let same : text_of_value x ≡ text_of_value y = cc in ap Some (value_back x y p q same)

module _ (keys : List (List ℕ)) (all : List (List ℕ × List ℕ)) where
  -- a row begins with these cells, and the ones behind them have the pairs that are left
  pub record IsBegun (place : ℕ) (row : List (Option Value)) (left : List (List ℕ × List ℕ)) (other : List (Option Value)) : Type 0 where
    pub rest : List (Option Value)
    pub is : other ≡ row ++ rest
    pub behind : IsRowWith (drop place keys) left rest

  -- the cells that were read: what is added to them for the pairs that are left makes a row of all pairs, and each such row begins with them
  pub record AreRead (place : ℕ) (row : List (Option Value)) (left : List (List ℕ × List ℕ)) : Type 0 where
    pub count : length row ≡ place
    pub cells : All IsProperCell row
    pub made : (rest : List (Option Value)) → present (drop place keys) rest ≡ left → present keys (row ++ rest) ≡ all
    pub only : (other : List (Option Value)) → IsRowWith keys all other → IsBegun place row left other

  pub none_read : AreRead 0 [] all
  none_read = record { count = refl; cells = All-nil IsProperCell; made = λ rest e. e; only = λ other h. record { rest = other; is = refl; behind = h } }

  module _ (apart : (place : ℕ) → Apart (drop place keys)) where
    module _ (place : ℕ) (row : List (Option Value)) (left : List (List ℕ × List ℕ)) (read : AreRead place row left) (key : List ℕ) (at : slice_get keys place ≡ Some key)
        (text : Option (List ℕ)) (rest : List (List ℕ × List ℕ)) (taken : IsTaken key text left rest) where
      keys_are : drop place keys ≡ key ∷ drop (suc place) keys
      keys_are = drop-cons keys place key (slice_get_within keys place key at) ∙ ap (λ x. x ∷ drop (suc place) keys) (get_or_from_slice_get keys place key key at)

      -- a row that begins so has a next cell, which has this text
      pub record HasNext (other : List (Option Value)) : Type 0 where
        pub cell : Option Value
        pub behind : List (Option Value)
        pub is : other ≡ row ++ cell ∷ behind
        pub proper : IsProperCell cell
        pub next : IsCellBefore text (drop (suc place) keys) rest cell behind

      next_of : (other cells : List (Option Value)) → other ≡ row ++ cells → IsRowWith (key ∷ drop (suc place) keys) left cells → HasNext other
      next_of other [] e h = absurd (omega (arith, h.each))
      next_of other (cell ∷ cells) e h = record {
        cell = cell;
        behind = cells;
        is = e;
        proper = All-head IsProperCell cell cells h.cells;
        next = first_cell key (drop (suc place) keys) text left rest cell cells (subst Apart keys_are (apart place)).0 taken h;
      }

      pub next_cell : (other : List (Option Value)) → IsRowWith keys all other → HasNext other
      next_cell other h =
          let begun = read.only other h in
          next_of other begun.rest begun.is (subst (λ ks. IsRowWith ks left begun.rest) keys_are begun.behind)

      -- no row has these pairs where no cell has the text
      pub none_prints : ((cell : Option Value) → IsProperCell cell → IsPrintedBy text cell → ⊥) → (other : List (Option Value)) → IsRowWith keys all other → ⊥
      none_prints none other h = let next = next_cell other h in none next.cell next.proper next.next.printed

      -- one more cell
      pub read_more : (more : List (Option Value)) → Pushes text row more → AreRead (suc place) more rest
      read_more more pushed =
          let one = λ (others : List (Option Value)). append_assoc row (pushed.cell ∷ []) others in
          record {
            count = ap length pushed.more_is ∙ omega (arith, length-append row (pushed.cell ∷ []), read.count);
            cells = subst (All IsProperCell) (sym pushed.more_is) (All-push IsProperCell row pushed.cell read.cells pushed.proper);
            made = λ others e. ap (λ r. present keys (r ++ others)) pushed.more_is ∙ ap (present keys) (one others)
                ∙ read.made (pushed.cell ∷ others) (ap (λ ks. present ks (pushed.cell ∷ others)) keys_are ∙ taken_back key (drop (suc place) keys) text left rest pushed.cell others taken pushed.printed e);
            only = λ other h.
                let next = next_cell other h in
                let same : next.cell ≡ pushed.cell = same_cell text next.cell pushed.cell next.proper pushed.proper next.next.printed pushed.printed in
                record {
                  rest = next.behind;
                  is = next.is ∙ ap (λ c. row ++ c ∷ next.behind) same ∙ sym (one next.behind) ∙ ap (λ r. r ++ next.behind) (sym pushed.more_is);
                  behind = next.next.behind;
                };
          }

  -- all cells are read, and no pair is left
  pub all_read : (row : List (Option Value)) → AreRead (length keys) row [] → IsRowWith keys all row
  all_read row read = record {
    each = read.count;
    cells = read.cells;
    pairs_are = ap (present keys) (sym (append-nil row)) ∙ read.made [] (ap (λ ks. present ks []) (drop_of_length-le keys (omega arith)));
  }

  -- all cells are read, and a pair is left
  pub pairs_left_over : (row : List (Option Value)) (left : List (List ℕ × List ℕ)) → left ≢ [] → AreRead (length keys) row left → (other : List (Option Value)) → IsRowWith keys all other → ⊥
  pairs_left_over row left some read other h =
      let begun = read.only other h in
      let ends : drop (length keys) keys ≡ [] = drop_of_length-le keys (omega arith) in
      some (sym (subst (λ ks. present ks begun.rest ≡ left) ends begun.behind.pairs_are))
