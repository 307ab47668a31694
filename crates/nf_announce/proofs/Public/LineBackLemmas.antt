-- A line gives back the name, the begin, the end and the row that it was made of.
use Rattle.std.proofs.Common.{◌≡◌, ◌≢◌, ℕ, ◌<◌, true, false, List, [], ◌∷◌, ◌++◌, length, get_or, map, Option, Some, None, refl, sym, ap, subst, ◌∙◌, append_assoc, true≢false, arith, inl, inr}
use Rattle.std.specs.List.{AllByRecursion}
use Rattle.std.specs.Cmp.Lexicographic.{nat_list_cmp_total, nat_list_eq_equiv}
use Rattle.std.specs.Fmt.{signed_decimal}
use Rattle.std.proofs.lemmas.Bool.{cases_lt}
use Rattle.std.proofs.lemmas.Fmt.{signed_decimal_injective}
use Rattle.std.proofs.lemmas.List.{length-map}
use Rattle.std.proofs.lemmas.Map.Keys.{apart_from_distinct}
use Rattle.std.proofs.lemmas.List.Elements.{recursion_from_All}
use Rattle.nf_core.specs.Texts.{text_cmp, text_eq, IsPlainByte}
use Rattle.nf_core.specs.Intervals.{Interval}
use Rattle.nf_core.specs.Plan.{Plan, IsPlan, AreKeys, keys_of, is_wide}
use Rattle.nf_core.specs.declared.intervals.Named.{Named}
use Rattle.nf_core.specs.declared.values.Value.{Value}
use Rattle.nf_model.specs.ProperRows.{IsProperCell, IsProper}
use Rattle.nf_announce.specs.Announcements.{text_of_value, joined, present, data_text, announcement, unsigned_line, signed_line}
use Rattle.nf_announce.proofs.Public.DistinctItemLemmas.{Apart, each_weaker, each_append, apart_sorted}
use Rattle.nf_announce.proofs.PlainByteLemmas.{HasPlainBytes, IsFilled, IsName, small, number_plain, identifier_name, value_plain, value_back}

-- bytes without a mark
abbrev pub Without : ℕ → List ℕ → Type 0
Without mark text = AllByRecursion (λ byte. byte ≢ mark) text

-- what stands before the first mark, and behind it
pub parted : (mark : ℕ) (xs ys r s : List ℕ) → Without mark xs → Without mark ys → xs ++ mark ∷ r ≡ ys ++ mark ∷ s → (xs ≡ ys) × (r ≡ s)
parted mark [] [] r s h k e = (refl, cc)
parted mark [] (y ∷ ys) r s h k e = let first : y ≡ mark = cc in absurd (k.0 first)
parted mark (x ∷ xs) [] r s h k e = let first : x ≡ mark = cc in absurd (h.0 first)
parted mark (x ∷ xs) (y ∷ ys) r s h k e =
    let first : x ≡ y = cc in
    let rest : xs ++ mark ∷ r ≡ ys ++ mark ∷ s = cc in
    let later = parted mark xs ys r s h.1 k.1 rest in
    ((λ i. first i ∷ later.0 i), later.1)

no_mark : (mark : ℕ) (xs ys r : List ℕ) → Without mark xs → xs ≡ ys ++ mark ∷ r → ⊥
no_mark mark [] [] r h e = absurd cc
no_mark mark [] (y ∷ ys) r h e = absurd cc
no_mark mark (x ∷ xs) [] r h e = let first : x ≡ mark = cc in h.0 first
no_mark mark (x ∷ xs) (y ∷ ys) r h e = let rest : xs ≡ ys ++ mark ∷ r = cc in no_mark mark xs ys r h.1 rest

pub bars : (text : List ℕ) → HasPlainBytes text → Without 124 text
bars = each_weaker IsPlainByte (λ byte. byte ≢ 124) (λ byte h. h.no_bar)

pub semicolons : (text : List ℕ) → HasPlainBytes text → Without 59 text
semicolons = each_weaker IsPlainByte (λ byte. byte ≢ 59) (λ byte h. h.no_semicolon)

feeds : (text : List ℕ) → HasPlainBytes text → Without 10 text
feeds = each_weaker IsPlainByte (λ byte. byte ≢ 10) (λ byte h. h.no_feed)

-- as many texts on both sides
values_back : (xs ys : List (List ℕ)) → length xs ≡ length ys → AllByRecursion HasPlainBytes xs → AllByRecursion HasPlainBytes ys → joined xs ≡ joined ys → xs ≡ ys
values_back [] [] n h k e = refl
values_back [] (y ∷ ys) n h k e = absurd (omega arith)
values_back (x ∷ xs) [] n h k e = absurd (omega arith)
values_back (x ∷ []) (y ∷ []) n h k e = ap (λ text. text ∷ []) e
values_back (x ∷ []) (y ∷ b ∷ ys) n h k e = absurd (omega arith)
values_back (x ∷ a ∷ xs) (y ∷ []) n h k e = absurd (omega arith)
values_back (x ∷ a ∷ xs) (y ∷ b ∷ ys) n h k e =
    let parts = parted 59 x y (joined (a ∷ xs)) (joined (b ∷ ys)) (semicolons x h.0) (semicolons y k.0) e in
    let later = values_back (a ∷ xs) (b ∷ ys) (omega arith) h.1 k.1 parts.1 in
    λ i. parts.0 i ∷ later i

filled_not : (y : List ℕ) → IsFilled y → [] ≡ y → ⊥
filled_not [] h e = h
filled_not (b ∷ y) h e = absurd cc

-- texts that aren't empty
keys_back : (xs ys : List (List ℕ)) → AllByRecursion IsName xs → AllByRecursion IsName ys → joined xs ≡ joined ys → xs ≡ ys
keys_back [] [] h k e = refl
keys_back [] (y ∷ []) h k e = absurd (filled_not y k.0.filled e)
keys_back [] (y ∷ b ∷ ys) h k e = absurd (no_mark 59 [] y (joined (b ∷ ys)) tt e)
keys_back (x ∷ []) [] h k e = absurd (filled_not x h.0.filled (sym e))
keys_back (x ∷ a ∷ xs) [] h k e = absurd (no_mark 59 [] x (joined (a ∷ xs)) tt (sym e))
keys_back (x ∷ []) (y ∷ []) h k e = ap (λ text. text ∷ []) e
keys_back (x ∷ []) (y ∷ b ∷ ys) h k e = absurd (no_mark 59 x y (joined (b ∷ ys)) (semicolons x h.0.plain) e)
keys_back (x ∷ a ∷ xs) (y ∷ []) h k e = absurd (no_mark 59 y x (joined (a ∷ xs)) (semicolons y k.0.plain) (sym e))
keys_back (x ∷ a ∷ xs) (y ∷ b ∷ ys) h k e =
    let parts = parted 59 x y (joined (a ∷ xs)) (joined (b ∷ ys)) (semicolons x h.0.plain) (semicolons y k.0.plain) e in
    let later = keys_back (a ∷ xs) (b ∷ ys) h.1 k.1 parts.1 in
    λ i. parts.0 i ∷ later i

-- the parts of present cells
abbrev pub present_keys : List (List ℕ) → List (Option Value) → List (List ℕ)
present_keys keys row = map (λ (cell : List ℕ × List ℕ). cell.0) (present keys row)

abbrev pub present_values : List (List ℕ) → List (Option Value) → List (List ℕ)
present_values keys row = map (λ (cell : List ℕ × List ℕ). cell.1) (present keys row)

pub among : (P : List ℕ → Type 0) (keys : List (List ℕ)) (row : List (Option Value)) → AllByRecursion P keys → AllByRecursion P (present_keys keys row)
among P [] row h = tt
among P (key ∷ keys) [] h = tt
among P (key ∷ keys) (None ∷ row) h = among P keys row h.1
among P (key ∷ keys) (Some x ∷ row) h = (h.0, among P keys row h.1)

pub values_plain : (keys : List (List ℕ)) (row : List (Option Value)) → AllByRecursion IsProperCell row → AllByRecursion HasPlainBytes (present_values keys row)
values_plain [] row h = tt
values_plain (key ∷ keys) [] h = tt
values_plain (key ∷ keys) (None ∷ row) h = values_plain keys row h.1
values_plain (key ∷ keys) (Some x ∷ row) h = (value_plain x h.0, values_plain keys row h.1)

pub missing : (key : List ℕ) (keys others : List (List ℕ)) (row : List (Option Value)) → AllByRecursion (λ other. key ≢ other) keys → key ∷ others ≡ present_keys keys row → ⊥
missing key keys others row h e = let all = subst (AllByRecursion (λ other. key ≢ other)) (sym e) (among (λ other. key ≢ other) keys row h) in all.0 refl

rows_back : (keys : List (List ℕ)) (row other : List (Option Value)) → length row ≡ length keys → length other ≡ length keys → Apart keys → AllByRecursion IsProperCell row → AllByRecursion IsProperCell other
    → present_keys keys row ≡ present_keys keys other → present_values keys row ≡ present_values keys other → row ≡ other
rows_back [] [] [] m n a h k e f = refl
rows_back [] (c ∷ row) other m n a h k e f = absurd (omega arith)
rows_back [] [] (d ∷ other) m n a h k e f = absurd (omega arith)
rows_back (key ∷ keys) [] other m n a h k e f = absurd (omega arith)
rows_back (key ∷ keys) (c ∷ row) [] m n a h k e f = absurd (omega arith)
rows_back (key ∷ keys) (None ∷ row) (None ∷ other) m n a h k e f = ap (λ cells. None ∷ cells) (rows_back keys row other (omega arith) (omega arith) a.1 h.1 k.1 e f)
rows_back (key ∷ keys) (None ∷ row) (Some y ∷ other) m n a h k e f = absurd (missing key keys (present_keys keys other) row a.0 (sym e))
rows_back (key ∷ keys) (Some x ∷ row) (None ∷ other) m n a h k e f = absurd (missing key keys (present_keys keys row) other a.0 e)
rows_back (key ∷ keys) (Some x ∷ row) (Some y ∷ other) m n a h k e f =
    let text : text_of_value x ≡ text_of_value y = cc in
    let same : x ≡ y = value_back x y h.0 k.0 text in
    let later_keys : present_keys keys row ≡ present_keys keys other = cc in
    let later_values : present_values keys row ≡ present_values keys other = cc in
    let later : row ≡ other = rows_back keys row other (omega arith) (omega arith) a.1 h.1 k.1 later_keys later_values in
    λ i. Some (same i) ∷ later i

-- the bytes of joined texts
pub joined_each : (P : ℕ → Type 0) → P 59 → (texts : List (List ℕ)) → AllByRecursion (AllByRecursion P) texts → AllByRecursion P (joined texts)
joined_each P mark [] h = tt
joined_each P mark (text ∷ []) h = h.0
joined_each P mark (text ∷ next ∷ texts) h = each_append P text (59 ∷ joined (next ∷ texts)) h.0 (mark, joined_each P mark (next ∷ texts) h.1)

pub as_many : (keys : List (List ℕ)) (row : List (Option Value)) → length (present_values keys row) ≡ length (present_keys keys row)
as_many keys row =
    length-map (present keys row) (λ (cell : List ℕ × List ℕ). cell.1) ∙ sym (length-map (present keys row) (λ (cell : List ℕ × List ℕ). cell.0))

-- the parts of a line, one behind the other
pub grouped : (a b c d : List ℕ) → ((a ++ 124 ∷ b) ++ 124 ∷ c) ++ 124 ∷ d ≡ a ++ 124 ∷ (b ++ 124 ∷ (c ++ 124 ∷ d))
grouped a b c d = append_assoc (a ++ 124 ∷ b) (124 ∷ c) (124 ∷ d) ∙ append_assoc a (124 ∷ b) (124 ∷ (c ++ 124 ∷ d))

module _ (plan : Plan) (valid : IsPlan plan) where
  pub name_at : (n : ℕ) → n < length plan.names → is_wide plan n ≡ false → IsName (get_or plan.names n [])
  name_at n within narrow = identifier_name (get_or plan.names n []) (valid.identifiers n within narrow).name

  other_name : (m n : ℕ) → m < n → n < length plan.names → get_or plan.names m [] ≡ get_or plan.names n [] → ⊥
  other_name m n less within e =
      let itself : text_eq (get_or plan.names m []) (get_or plan.names m []) ≡ true = nat_list_eq_equiv.refl (get_or plan.names m []) in
      true≢false (sym itself ∙ ap (text_eq (get_or plan.names m [])) e ∙ apart_from_distinct text_eq plan.names m n [] valid.distinct less within)

  pub same_name : (m n : ℕ) → m < length plan.names → n < length plan.names → get_or plan.names m [] ≡ get_or plan.names n [] → m ≡ n
  same_name m n mine other e = elim (cases_lt m n) [
    | inl less ↦ absurd (other_name m n less other e)
    | inr no_less ↦ elim (cases_lt n m) [
      | inl less ↦ absurd (other_name n m less mine (sym e))
      | inr as_little ↦ omega arith
    ]
  ]

  pub keys_at : (n : ℕ) → n < length plan.names → AreKeys (keys_of plan n)
  keys_at n within = valid.keys n [] (subst (λ k. n < k) (sym valid.each_keys) within)

  pub key_names : (n : ℕ) → n < length plan.names → is_wide plan n ≡ false → AllByRecursion IsName (keys_of plan n)
  key_names n within narrow = recursion_from_All IsName (keys_of plan n) (λ k d inside. identifier_name (get_or (keys_of plan n) k d) ((valid.identifiers n within narrow).keys k d inside))

  pub names_unbarred : (keys : List (List ℕ)) → AllByRecursion IsName keys → Without 124 (joined keys)
  names_unbarred keys h = joined_each (λ byte. byte ≢ 124) (λ e. omega arith) keys (each_weaker IsName (Without 124) (λ text name. bars text name.plain) keys h)

  module _ (n : ℕ) (within : n < length plan.names) (narrow : is_wide plan n ≡ false) where
    abbrev keys : List (List ℕ)
    keys = keys_of plan n

    data_back : (i j : Interval) → IsProper keys i → IsProper keys j → data_text keys i.row ≡ data_text keys j.row → i.row ≡ j.row
    data_back i j p q e =
        let names = among IsName keys i.row (key_names n within narrow) in
        let other_names = among IsName keys j.row (key_names n within narrow) in
        let cells = recursion_from_All IsProperCell i.row p.cells in
        let other_cells = recursion_from_All IsProperCell j.row q.cells in
        let parts = parted 124 (joined (present_keys keys i.row)) (joined (present_keys keys j.row)) (joined (present_values keys i.row)) (joined (present_values keys j.row))
        (names_unbarred (present_keys keys i.row) names) (names_unbarred (present_keys keys j.row) other_names) e in
        let same_keys : present_keys keys i.row ≡ present_keys keys j.row = keys_back (present_keys keys i.row) (present_keys keys j.row) names other_names parts.0 in
        let count : length (present_values keys i.row) ≡ length (present_values keys j.row) = as_many keys i.row ∙ ap length same_keys ∙ sym (as_many keys j.row) in
        let same_values : present_values keys i.row ≡ present_values keys j.row =
        values_back (present_values keys i.row) (present_values keys j.row) count (values_plain keys i.row cells) (values_plain keys j.row other_cells) parts.1 in
        rows_back keys i.row j.row p.each q.each (apart_sorted text_cmp nat_list_cmp_total keys (keys_at n within).ascending) cells other_cells same_keys same_values

    data_unfed : (i : Interval) → IsProper keys i → Without 10 (data_text keys i.row)
    data_unfed i p =
        let names = among IsName keys i.row (key_names n within narrow) in
        let cells = values_plain keys i.row (recursion_from_All IsProperCell i.row p.cells) in
        each_append (λ byte. byte ≢ 10) (joined (present_keys keys i.row)) (124 ∷ joined (present_values keys i.row))
        (joined_each (λ byte. byte ≢ 10) (λ e. omega arith) (present_keys keys i.row) (each_weaker IsName (Without 10) (λ text name. feeds text name.plain) (present_keys keys i.row) names))
        ((λ e. omega arith), joined_each (λ byte. byte ≢ 10) (λ e. omega arith) (present_values keys i.row) (each_weaker HasPlainBytes (Without 10) feeds (present_values keys i.row) cells))

    -- no LF stands in a line
    pub line_unfed : (i : Interval) → IsProper keys i → Without 10 (unsigned_line (announcement plan (record { name = n; interval = i })))
    line_unfed i p =
        each_append (λ byte. byte ≢ 10) ((get_or plan.names n [] ++ 124 ∷ signed_decimal i.start) ++ 124 ∷ signed_decimal i.stop) (124 ∷ data_text keys i.row)
        (each_append (λ byte. byte ≢ 10) (get_or plan.names n [] ++ 124 ∷ signed_decimal i.start) (124 ∷ signed_decimal i.stop)
        (each_append (λ byte. byte ≢ 10) (get_or plan.names n []) (124 ∷ signed_decimal i.start) (feeds (get_or plan.names n []) (name_at n within narrow).plain)
        ((λ e. omega arith), feeds (signed_decimal i.start) (number_plain i.start p.start)))
        ((λ e. omega arith), feeds (signed_decimal i.stop) (number_plain i.stop p.stop)))
        ((λ e. omega arith), data_unfed i p)

    same_interval : (i j : Interval) → IsProper keys i → IsProper keys j
        → signed_decimal i.start ++ 124 ∷ (signed_decimal i.stop ++ 124 ∷ data_text keys i.row) ≡ signed_decimal j.start ++ 124 ∷ (signed_decimal j.stop ++ 124 ∷ data_text keys j.row) → i ≡ j
    same_interval i j p q e =
        let starts = parted 124 (signed_decimal i.start) (signed_decimal j.start) (signed_decimal i.stop ++ 124 ∷ data_text keys i.row) (signed_decimal j.stop ++ 124 ∷ data_text keys j.row)
        (bars (signed_decimal i.start) (number_plain i.start p.start)) (bars (signed_decimal j.start) (number_plain j.start q.start)) e in
        let stops = parted 124 (signed_decimal i.stop) (signed_decimal j.stop) (data_text keys i.row) (data_text keys j.row)
        (bars (signed_decimal i.stop) (number_plain i.stop p.stop)) (bars (signed_decimal j.stop) (number_plain j.stop q.stop)) starts.1 in
        let start : i.start ≡ j.start = signed_decimal_injective i.start j.start (small i.start p.start) (small j.start q.start) starts.0 in
        let stop : i.stop ≡ j.stop = signed_decimal_injective i.stop j.stop (small i.stop p.stop) (small j.stop q.stop) stops.0 in
        let row : i.row ≡ j.row = data_back i j p q stops.1 in
        λ k. record { start = start k; stop = stop k; row = row k }

  -- a line without its sign gives back what it announces
  pub line_back : (a b : Named) → a.name < length plan.names → b.name < length plan.names → is_wide plan a.name ≡ false → is_wide plan b.name ≡ false → IsProper (keys_of plan a.name) a.interval → IsProper (keys_of plan b.name) b.interval
      → unsigned_line (announcement plan a) ≡ unsigned_line (announcement plan b) → a ≡ b
  line_back a b mine other narrow thin p q e =
      let name : List ℕ = get_or plan.names a.name [] in
      let other_text : List ℕ = get_or plan.names b.name [] in
      let parts = parted 124 name other_text
      (signed_decimal a.interval.start ++ 124 ∷ (signed_decimal a.interval.stop ++ 124 ∷ data_text (keys_of plan a.name) a.interval.row))
      (signed_decimal b.interval.start ++ 124 ∷ (signed_decimal b.interval.stop ++ 124 ∷ data_text (keys_of plan b.name) b.interval.row))
      (bars name (name_at a.name mine narrow).plain) (bars other_text (name_at b.name other thin).plain)
      (sym (grouped name (signed_decimal a.interval.start) (signed_decimal a.interval.stop) (data_text (keys_of plan a.name) a.interval.row)) ∙ e
      ∙ grouped other_text (signed_decimal b.interval.start) (signed_decimal b.interval.stop) (data_text (keys_of plan b.name) b.interval.row)) in
      let same : a.name ≡ b.name = same_name a.name b.name mine other parts.0 in
      let behind = parts.1 ∙ ap (λ k. signed_decimal b.interval.start ++ 124 ∷ (signed_decimal b.interval.stop ++ 124 ∷ data_text (keys_of plan k) b.interval.row)) (sym same) in
      let interval : a.interval ≡ b.interval = same_interval a.name mine narrow a.interval b.interval p (subst (λ k. IsProper (keys_of plan k) b.interval) (sym same) q) behind in
      λ k. record { name = same k; interval = interval k }

  -- and so does one with its sign
  pub signed_back : (sign other : ℕ) (a b : Named) → a.name < length plan.names → b.name < length plan.names → is_wide plan a.name ≡ false → is_wide plan b.name ≡ false → IsProper (keys_of plan a.name) a.interval → IsProper (keys_of plan b.name) b.interval
      → signed_line sign (announcement plan a) ≡ signed_line other (announcement plan b) → (sign ≡ other) × (a ≡ b)
  signed_back sign other a b mine its narrow thin p q e =
      let first : sign ≡ other = cc in
      let rest : unsigned_line (announcement plan a) ++ 10 ∷ [] ≡ unsigned_line (announcement plan b) ++ 10 ∷ [] = cc in
      let parts = parted 10 (unsigned_line (announcement plan a)) (unsigned_line (announcement plan b)) [] [] (line_unfed a.name mine narrow a.interval p) (line_unfed b.name its thin b.interval q) rest in
      (first, line_back a b mine its narrow thin p q parts.0)
