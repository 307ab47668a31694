-- The parts of a line are those of what it announces, and no others.
use Rattle.std.proofs.Common.{◌≡◌, ◌≢◌, ℕ, ℤ, ◌≤ℤ◌, ◌<◌, Bool, true, false, not, List, [], ◌∷◌, ◌++◌, length, All, Option, IsTrue, refl, sym, ap, subst, ◌∙◌, arith, rules, tests, w64, to_z, of_z}
use lib.Signed.{lt_z}
use lib.Utf8.{encode}
use Rattle.std.specs.List.{AllByRecursion, join_with_byte}
use Rattle.std.specs.Str.{IsUtf8}
use Rattle.std.specs.Fmt.{signed_decimal}
use Rattle.std.proofs.lemmas.Fmt.{signed_decimal_injective}
use Rattle.std.proofs.lemmas.Int.{to_z-of_z}
use Rattle.std.proofs.lemmas.Bool.{and_parts}
use Rattle.std.proofs.lemmas.Str.{is_utf8-from_IsUtf8, IsUtf8-from_is_utf8, IsUtf8-past_char, encode_ascii}
use Rattle.std.proofs.lemmas.List.Elements.{All-from_recursion, recursion_from_All}
use Rattle.nf_core.specs.Texts.{IsI64}
use Rattle.nf_core.specs.Plan.{Plan, IsPlan, keys_of, name_of, is_head, is_wide, has_rules}
use Rattle.nf_core.specs.declared.values.Value.{Value}
use Rattle.nf_text.specs.Fields.{fields_of}
use Rattle.nf_model.specs.Members.{IsInTime}
use Rattle.nf_model.specs.ProperRows.{IsProper, IsProperCell}
use Rattle.nf_announce.specs.Announcements.{plus, minus, announcement, unsigned_line, signed_line, data_text, joined, present}
use Rattle.nf_announce.specs.Reading.{Announces, HasTexts, sign_of}
use Rattle.nf_announce.specs.declared.read_lines.Signed.{Signed}
use Rattle.nf_announce.specs.inner.RowTexts.{ArePairsIn}
use Rattle.nf_announce.specs.inner.LineParts.{Parts, IsLineOf, IsRowWith, IsHeadNamed, IsSpelled, IsUnbarred, text_from, fields_from}
use Rattle.nf_announce.proofs.Public.DistinctItemLemmas.{each_weaker}
use Rattle.nf_announce.proofs.PlainByteLemmas.{HasPlainBytes, IsName, small, number_plain}
use Rattle.nf_announce.proofs.Public.LineBackLemmas.{Without, bars, joined_each, among, values_plain, present_keys, present_values, grouped, name_at, same_name, key_names, names_unbarred, signed_back}
use Rattle.nf_announce.proofs.LineTextLemmas.{sign_ascii, behind_byte, keys_utf8, row_utf8, line_utf8}
use Rattle.nf_core.proofs.Public.NumberLemmas.{fits_i64}
use Rattle.nf_announce.proofs.SplitTextLemmas.{one_field, first_field, fields_unmarked, fields_joined}
use Rattle.nf_announce.proofs.RowTextLemmas.{firsts, seconds, printed_pairs, pairs_text}

-- a sign is that of one of the two
signs_apart : (a b : Bool) → sign_of a ≡ sign_of b → a ≡ b
signs_apart true true e = refl
signs_apart true false e = absurd (omega (arith, e))
signs_apart false true e = absurd (omega (arith, e))
signs_apart false false e = refl

unbarred : (text : List ℕ) → IsUnbarred text → Without 124 text
unbarred text h = recursion_from_All (λ byte. byte ≢ 124) text h

late_and_not : (begin end : ℤ) → lt_z end begin ≡ true → begin ≤ℤ end → ⊥
late_and_not begin end late in_time = grind (arith, tests)

not_late : (begin end : ℤ) → lt_z end begin ≡ false → begin ≤ℤ end
not_late begin end h = search (rules, tests, arith)

barless : (text : List ℕ) → Without 124 text → IsUnbarred text
barless text h = All-from_recursion (λ byte. byte ≢ 124) text h

-- what stands behind the sign
pub text_behind : (line : List ℕ) (added : Bool) (text : List ℕ) → line ≡ sign_of added ∷ text → (other : Parts) → IsLineOf line other → text ≡ text_from other
text_behind line added text e other h =
    let whole : sign_of added ∷ text ≡ sign_of other.added ∷ text_from other = sym e ∙ h.line_is in cc

-- the fields of the text that parts make
pub fields_of_parts : (line : List ℕ) (p : Parts) → IsLineOf line p → fields_of 124 (text_from p) ≡ fields_from p
fields_of_parts line p h =
    let start = bars (signed_decimal p.start) (number_plain p.start h.start) in
    let stop = bars (signed_decimal p.stop) (number_plain p.stop h.stop) in
    let last : fields_of 124 (p.keys ++ 124 ∷ p.values) ≡ p.keys ∷ p.values ∷ [] =
    first_field 124 p.keys p.values (unbarred p.keys h.keys) ∙ ap (λ rest. p.keys ∷ rest) (one_field 124 p.values (unbarred p.values h.values)) in
    first_field 124 p.name _ (unbarred p.name h.name)
    ∙ ap (λ rest. p.name ∷ rest) (first_field 124 (signed_decimal p.start) _ start
    ∙ ap (λ rest. signed_decimal p.start ∷ rest) (first_field 124 (signed_decimal p.stop) _ stop ∙ ap (λ rest. signed_decimal p.stop ∷ rest) last))

-- one line has the same parts
pub same_parts : (line : List ℕ) (p q : Parts) → IsLineOf line p → IsLineOf line q → p ≡ q
same_parts line p q h k =
    let lines : sign_of p.added ∷ text_from p ≡ sign_of q.added ∷ text_from q = sym h.line_is ∙ k.line_is in
    let signs : sign_of p.added ≡ sign_of q.added = cc in
    let texts : text_from p ≡ text_from q = cc in
    let fields : fields_from p ≡ fields_from q = sym (fields_of_parts line p h) ∙ ap (fields_of 124) texts ∙ fields_of_parts line q k in
    let added : p.added ≡ q.added = signs_apart p.added q.added signs in
    let name : p.name ≡ q.name = cc in
    let starts : signed_decimal p.start ≡ signed_decimal q.start = cc in
    let stops : signed_decimal p.stop ≡ signed_decimal q.stop = cc in
    let keys : p.keys ≡ q.keys = cc in
    let values : p.values ≡ q.values = cc in
    let start : p.start ≡ q.start = signed_decimal_injective p.start q.start (small p.start h.start) (small q.start k.start) starts in
    let stop : p.stop ≡ q.stop = signed_decimal_injective p.stop q.stop (small p.stop h.stop) (small q.stop k.stop) stops in
    λ i. record { added = added i; name = name i; start = start i; stop = stop i; keys = keys i; values = values i }

-- a line is UTF-8 where what stands behind its sign is
sign_encoded : (added : Bool) → encode (sign_of added) ≡ sign_of added ∷ []
sign_encoded true = encode_ascii plus (omega arith)
sign_encoded false = encode_ascii minus (omega arith)

pub utf8_behind : (line : List ℕ) (p : Parts) → IsLineOf line p → IsUtf8 (text_from p)
utf8_behind line p h =
    IsUtf8-past_char line (text_from p) (sign_of p.added) (IsUtf8-from_is_utf8 line h.text) (h.line_is ∙ ap (λ sign. sign ++ text_from p) (sym (sign_encoded p.added)))

-- what is read of a line: its sign, and the text behind it
pub record IsRead (line : List ℕ) (added : Bool) (text : List ℕ) : Type 0 where
  pub line_is : line ≡ sign_of added ∷ text
  pub utf8 : IsUtf8 text

pub read_of : (line : List ℕ) (added : Bool) (bytes text : List ℕ) → line ≡ sign_of added ∷ bytes → (text ≡ bytes) × IsUtf8 bytes → IsRead line added text
read_of line added bytes text e h = record { line_is = e ∙ ap (λ t. sign_of added ∷ t) (sym h.0); utf8 = subst IsUtf8 (sym h.0) h.1 }

-- a line with parts has five fields behind its sign
pub wrong_count : (line : List ℕ) (added : Bool) (text : List ℕ) → IsRead line added text → length (fields_of 124 text) ≢ 5 → (other : Parts) → IsLineOf line other → ⊥
wrong_count line added text read wrong other h = wrong (ap (λ t. length (fields_of 124 t)) (text_behind line added text read.line_is other h) ∙ ap length (fields_of_parts line other h))

-- and the fields of that text
module _ (line : List ℕ) (added : Bool) (text : List ℕ) (read : IsRead line added text)
    (name start stop keys values : List ℕ) (fields_are : fields_of 124 text ≡ name ∷ start ∷ stop ∷ keys ∷ values ∷ []) where
  -- parts of the line make these fields
  pub fields_read : (other : Parts) → IsLineOf line other → name ∷ start ∷ stop ∷ keys ∷ values ∷ [] ≡ fields_from other
  fields_read other h = sym fields_are ∙ ap (fields_of 124) (text_behind line added text read.line_is other h) ∙ fields_of_parts line other h

  pub no_start : ((n : ℤ) → IsSpelled start n → ⊥) → (other : Parts) → IsLineOf line other → ⊥
  no_start none other h = let e = fields_read other h in none other.start (record { decimal = cc; within = h.start })

  pub no_stop : ((n : ℤ) → IsSpelled stop n → ⊥) → (other : Parts) → IsLineOf line other → ⊥
  no_stop none other h = let e = fields_read other h in none other.stop (record { decimal = cc; within = h.stop })

  same_number : (field : List ℕ) (m n : ℤ) → IsSpelled field m → IsI64 n → field ≡ signed_decimal n → m ≡ n
  same_number field m n h within e = signed_decimal_injective m n (small m h.within) (small n within) (sym h.decimal ∙ e)

  module _ (begin end : ℤ) (begins : IsSpelled start begin) (ends : IsSpelled stop end) where
    begin_kept : to_z w64 (of_z w64 begin) ≡ begin
    begin_kept = to_z-of_z w64 begin (fits_i64 begin begins.within)

    end_kept : to_z w64 (of_z w64 end) ≡ end
    end_kept = to_z-of_z w64 end (fits_i64 end ends.within)

    compared : lt_z (to_z w64 (of_z w64 end)) (to_z w64 (of_z w64 begin)) ≡ lt_z end begin
    compared i = lt_z (end_kept i) (begin_kept i)

    pub not_in_time : lt_z (to_z w64 (of_z w64 end)) (to_z w64 (of_z w64 begin)) ≡ true → (other : Parts) → IsLineOf line other → ⊥
    not_in_time late other h =
        let e = fields_read other h in
        let first : begin ≡ other.start = same_number start begin other.start begins h.start cc in
        let last : end ≡ other.stop = same_number stop end other.stop ends h.stop cc in
        late_and_not begin end (sym compared ∙ late) (subst (λ n. n ≤ℤ end) (sym first) (subst (λ n. other.start ≤ℤ n) (sym last) h.in_time))

    read_in_time : begin ≤ℤ end → IsLineOf line (record { added = added; name = name; start = begin; stop = end; keys = keys; values = values })
    read_in_time in_time =
        let unmarked : AllByRecursion (Without 124) (name ∷ start ∷ stop ∷ keys ∷ values ∷ []) = subst (AllByRecursion (Without 124)) fields_are (fields_unmarked 124 text) in
        let joined_is : name ++ 124 ∷ (start ++ 124 ∷ (stop ++ 124 ∷ (keys ++ 124 ∷ values))) ≡ text = sym (ap (join_with_byte 124) fields_are) ∙ fields_joined 124 text in
        let p : Parts = record { added = added; name = name; start = begin; stop = end; keys = keys; values = values } in
        let text_is : text ≡ text_from p = sym joined_is ∙ (λ i. name ++ 124 ∷ (begins.decimal i ++ 124 ∷ (ends.decimal i ++ 124 ∷ (keys ++ 124 ∷ values)))) in
        let whole : line ≡ sign_of added ∷ text_from p = read.line_is ∙ ap (λ t. sign_of added ∷ t) text_is in
        record {
          line_is = whole;
          text = is_utf8-from_IsUtf8 line (subst IsUtf8 (sym read.line_is) (behind_byte (sign_of added) text (sign_ascii added) read.utf8));
          start = begins.within;
          stop = ends.within;
          in_time = in_time;
          name = barless name unmarked.0;
          keys = barless keys unmarked.1.1.1.0;
          values = barless values unmarked.1.1.1.1.0;
        }

    pub parts_read : lt_z (to_z w64 (of_z w64 end)) (to_z w64 (of_z w64 begin)) ≡ false
        → IsLineOf line (record { added = added; name = name; start = to_z w64 (of_z w64 begin); stop = to_z w64 (of_z w64 end); keys = keys; values = values })
    parts_read h =
        subst (IsLineOf line) (λ i. record { added = added; name = name; start = sym begin_kept i; stop = sym end_kept i; keys = keys; values = values })
        (read_in_time (not_late begin end (sym compared ∙ h)))

-- the texts of the keys and of the values of a row
abbrev pub keys_text : List (List ℕ) → List (Option Value) → List ℕ
keys_text keys row = joined (present_keys keys row)

abbrev pub values_text : List (List ℕ) → List (Option Value) → List ℕ
values_text keys row = joined (present_values keys row)

-- the parts of the line of what is announced
abbrev pub parts_of : Plan → Signed → Parts
parts_of plan a = record {
  added = a.added;
  name = name_of plan a.item.name;
  start = a.item.interval.start;
  stop = a.item.interval.stop;
  keys = keys_text (keys_of plan a.item.name) a.item.interval.row;
  values = values_text (keys_of plan a.item.name) a.item.interval.row;
}

-- the line of an announcement is that of its parts
line_from : (plan : Plan) (a : Signed) → unsigned_line (announcement plan a.item) ≡ text_from (parts_of plan a)
line_from plan a = grouped (name_of plan a.item.name) (signed_decimal a.item.interval.start) (signed_decimal a.item.interval.stop) (data_text (keys_of plan a.item.name) a.item.interval.row)

-- a line with a feed behind it is that of an announcement where it has its bytes
without_feed : (xs ys : List ℕ) → xs ++ 10 ∷ [] ≡ ys ++ 10 ∷ [] → xs ≡ ys
without_feed [] [] e = refl
without_feed [] (y ∷ []) e = absurd cc
without_feed [] (y ∷ z ∷ ys) e = absurd cc
without_feed (x ∷ []) [] e = absurd cc
without_feed (x ∷ z ∷ xs) [] e = absurd cc
without_feed (x ∷ xs) (y ∷ ys) e =
    let first : x ≡ y = cc in
    let rest : xs ++ 10 ∷ [] ≡ ys ++ 10 ∷ [] = cc in
    let later = without_feed xs ys rest in
    λ i. first i ∷ later i

module _ (plan : Plan) (valid : IsPlan plan) where
  -- a head isn't wide
  pub narrow_head : (n : ℕ) → IsTrue (is_head plan n) → is_wide plan n ≡ false
  narrow_head n h = not_wide (is_wide plan n) (and_parts (has_rules plan n) _ h).1
    where
      not_wide : (b : Bool) → not b ≡ true → b ≡ false
      not_wide true e = absurd cc
      not_wide false e = refl

  module _ (n : ℕ) (within : n < length plan.names) (narrow : is_wide plan n ≡ false) (row : List (Option Value)) (cells : All IsProperCell row) where
    names : AllByRecursion IsName (present_keys (keys_of plan n) row)
    names = among IsName (keys_of plan n) row (key_names plan valid n within narrow)

    texts : AllByRecursion HasPlainBytes (present_values (keys_of plan n) row)
    texts = values_plain (keys_of plan n) row (recursion_from_All IsProperCell row cells)

    pub keys_unbarred : IsUnbarred (keys_text (keys_of plan n) row)
    keys_unbarred = All-from_recursion (λ byte. byte ≢ 124) (keys_text (keys_of plan n) row) (names_unbarred plan valid (present_keys (keys_of plan n) row) names)

    pub values_unbarred : IsUnbarred (values_text (keys_of plan n) row)
    values_unbarred = All-from_recursion (λ byte. byte ≢ 124) (values_text (keys_of plan n) row)
        (joined_each (λ byte. byte ≢ 124) (λ e. omega arith) (present_values (keys_of plan n) row) (each_weaker HasPlainBytes (Without 124) bars (present_values (keys_of plan n) row) texts))

    -- the texts of a row give its pairs
    pub row_pairs : ArePairsIn (keys_text (keys_of plan n) row) (values_text (keys_of plan n) row) (present (keys_of plan n) row)
    row_pairs = printed_pairs (keys_text (keys_of plan n) row) (values_text (keys_of plan n) row) (present (keys_of plan n) row) names texts refl refl

  -- a line that announces has the parts of what it announces
  pub parts_are : (line : List ℕ) (a : Signed) → Announces plan line a → IsLineOf line (parts_of plan a)
  parts_are line a h =
      let narrow = narrow_head a.item.name h.head in
      record {
        line_is = without_feed line (sign_of a.added ∷ text_from (parts_of plan a)) (h.line_is ∙ ap (λ text. sign_of a.added ∷ (text ++ 10 ∷ [])) (line_from plan a));
        text = h.text;
        start = h.proper.start;
        stop = h.proper.stop;
        in_time = h.in_time;
        name = All-from_recursion (λ byte. byte ≢ 124) (name_of plan a.item.name) (bars (name_of plan a.item.name) (name_at plan valid a.item.name h.name narrow).plain);
        keys = keys_unbarred a.item.name h.name narrow a.item.interval.row h.proper.cells;
        values = values_unbarred a.item.name h.name narrow a.item.interval.row h.proper.cells;
      }

  -- what is printed of an interval whose texts are UTF-8 announces it
  pub printed_announces : (a : Signed) (line : List ℕ) → a.item.name < length plan.names → IsTrue (is_head plan a.item.name) → IsProper (keys_of plan a.item.name) a.item.interval
      → IsInTime a.item.interval → All HasTexts a.item.interval.row → line ++ 10 ∷ [] ≡ signed_line (sign_of a.added) (announcement plan a.item) → Announces plan line a
  printed_announces a line within head proper in_time utf8 e =
      let n : ℕ = a.item.name in
      let row : List (Option Value) = a.item.interval.row in
      let narrow = narrow_head n head in
      let line_is : line ≡ sign_of a.added ∷ text_from (parts_of plan a) =
      without_feed line (sign_of a.added ∷ text_from (parts_of plan a)) (e ∙ ap (λ text. sign_of a.added ∷ (text ++ 10 ∷ [])) (line_from plan a)) in
      let whole : IsUtf8 (sign_of a.added ∷ text_from (parts_of plan a)) =
      line_utf8 (parts_of plan a) (name_at plan valid n within narrow) proper.start proper.stop (keys_utf8 (present_keys (keys_of plan n) row) (names n within narrow row proper.cells)) (row_utf8 (keys_of plan n) row proper.cells utf8) in
      record { name = within; head = head; proper = proper; in_time = in_time; text = is_utf8-from_IsUtf8 line (subst IsUtf8 (sym line_is) whole); line_is = e }

  -- a line announces one thing
  pub announced_once : (line : List ℕ) (a b : Signed) → Announces plan line a → Announces plan line b → a ≡ b
  announced_once line a b h k =
      let parts = same_parts line (parts_of plan a) (parts_of plan b) (parts_are line a h) (parts_are line b k) in
      let added : a.added ≡ b.added = ap (λ (q : Parts). q.added) parts in
      let lines : signed_line (sign_of a.added) (announcement plan a.item) ≡ signed_line (sign_of b.added) (announcement plan b.item) = sym h.line_is ∙ k.line_is in
      let item : a.item ≡ b.item = (signed_back plan valid (sign_of a.added) (sign_of b.added) a.item b.item h.name k.name (narrow_head a.item.name h.head) (narrow_head b.item.name k.head) h.proper k.proper lines).1 in
      λ i. record { added = added i; item = item i }

  module _ (line : List ℕ) (p : Parts) (is : IsLineOf line p) where
    -- what a line announces has its parts
    pub its_parts : (a : Signed) → Announces plan line a → parts_of plan a ≡ p
    its_parts a h = same_parts line (parts_of plan a) p (parts_are line a h) is

    -- no name is that of its first field
    pub no_name : ((n : ℕ) → IsHeadNamed plan p.name n → ⊥) → (a : Signed) → Announces plan line a → ⊥
    no_name none a h = none a.item.name (record { within = h.name; head = h.head; text_is = ap (λ (q : Parts). q.name) (its_parts a h) })

    -- the texts of its keys and values have the pairs of what it announces
    pub its_pairs : (a : Signed) → Announces plan line a → ArePairsIn p.keys p.values (present (keys_of plan a.item.name) a.item.interval.row)
    its_pairs a h = subst (λ (q : Parts). ArePairsIn q.keys q.values (present (keys_of plan a.item.name) a.item.interval.row)) (its_parts a h)
        (row_pairs a.item.name h.name (narrow_head a.item.name h.head) a.item.interval.row h.proper.cells)

    module _ (n : ℕ) (named : IsHeadNamed plan p.name n) where
      -- what it announces is of this name
      its_name : (a : Signed) → Announces plan line a → a.item.name ≡ n
      its_name a h = same_name plan valid a.item.name n h.name named.within (ap (λ (q : Parts). q.name) (its_parts a h) ∙ sym named.text_is)

      -- no row has its pairs
      pub no_row : (pairs : List (List ℕ × List ℕ)) → ArePairsIn p.keys p.values pairs → ((row : List (Option Value)) → IsRowWith (keys_of plan n) pairs row → ⊥) → (a : Signed) → Announces plan line a → ⊥
      no_row pairs e none a h =
          let same = its_name a h in
          let row : List (Option Value) = a.item.interval.row in
          none row (record {
            each = h.proper.each ∙ ap (λ k. length (keys_of plan k)) same;
            cells = h.proper.cells;
            pairs_are = ap (λ k. present (keys_of plan k) row) (sym same) ∙ (its_pairs a h).pairs_are ∙ sym e.pairs_are;
          })

      -- the row with its pairs makes what it announces
      announces : (pairs : List (List ℕ × List ℕ)) → ArePairsIn p.keys p.values pairs → (row : List (Option Value)) → IsRowWith (keys_of plan n) pairs row
          → Announces plan line (record { added = p.added; item = record { name = n; interval = record { start = p.start; stop = p.stop; row = row } } })
      announces pairs e row r =
          let texts = pairs_text p.keys p.values pairs e in
          let keys : keys_text (keys_of plan n) row ≡ p.keys = ap (λ ps. joined (firsts ps)) r.pairs_are ∙ texts.0 in
          let values : values_text (keys_of plan n) row ≡ p.values = ap (λ ps. joined (seconds ps)) r.pairs_are ∙ texts.1 in
          let a : Signed = record { added = p.added; item = record { name = n; interval = record { start = p.start; stop = p.stop; row = row } } } in
          let same : parts_of plan a ≡ p = λ i. record { added = p.added; name = named.text_is i; start = p.start; stop = p.stop; keys = keys i; values = values i } in
          record {
            name = named.within;
            head = named.head;
            proper = record { start = is.start; stop = is.stop; each = r.each; cells = r.cells };
            in_time = is.in_time;
            text = is.text;
            line_is = ap (λ text. text ++ 10 ∷ []) is.line_is ∙ ap (λ (q : Parts). sign_of p.added ∷ (text_from q ++ 10 ∷ [])) (sym same) ∙ ap (λ text. sign_of p.added ∷ (text ++ 10 ∷ [])) (sym (line_from plan a));
          }

      -- and so it does with its numbers as the code has them
      pub read_announces : (pairs : List (List ℕ × List ℕ)) → ArePairsIn p.keys p.values pairs → (row : List (Option Value)) → IsRowWith (keys_of plan n) pairs row
          → Announces plan line (record { added = p.added; item = record { name = n; interval = record { start = to_z w64 (of_z w64 p.start); stop = to_z w64 (of_z w64 p.stop); row = row } } })
      read_announces pairs e row r =
          let start : p.start ≡ to_z w64 (of_z w64 p.start) = sym (to_z-of_z w64 p.start (fits_i64 p.start is.start)) in
          let stop : p.stop ≡ to_z w64 (of_z w64 p.stop) = sym (to_z-of_z w64 p.stop (fits_i64 p.stop is.stop)) in
          subst (Announces plan line) (λ i. record { added = p.added; item = record { name = n; interval = record { start = start i; stop = stop i; row = row } } }) (announces pairs e row r)
