-- The canonical text of an expression is read as its words.
use Rattle.std.proofs.Common.{◌≡◌, ℕ, pos, negsuc, ◌^◌, ◌<◌, ◌↔◌, Bool, true, false, ◌||◌, eqb, ltb, List, [], ◌∷◌, ◌++◌, length, take, get_or, refl, sym, ap, ◌∙◌, subst, arith, codes, decimal, append_assoc}
use Rattle.std.specs.Prelude as prelude
use Rattle.std.specs.Char.{is_ascii_digit}
use Rattle.std.specs.Str.Parse.{digits_value}
use Rattle.std.specs.List.{list_all}
use Rattle.std.proofs.lemmas.Bool.{and_parts, both_ways, ne_eqb, lt-ltb}
use Rattle.std.proofs.lemmas.Bool.Decides.{nat_tests}
use Rattle.std.proofs.lemmas.Int.{ints}
use Rattle.std.proofs.lemmas.Fmt.{digits_decimal, decimal_nonempty}
use Rattle.std.proofs.lemmas.List.{get_or_append_left}
use Rattle.std.proofs.lemmas.List.Sums.{AllPass-from_list_all}
use Rattle.nf_core.specs.Texts.{IsPlain}
use Rattle.nf_core.specs.Identifiers.{is_letter, has_name_form, keywords, is_identifier}
use Rattle.nf_core.specs.Trees as trees
use Rattle.nf_core.specs.Trees.{Tree, Int, Text, Start, Stop, Key, Neg, Not, Bin, level, op_level, left_in_parens, right_in_parens, operand_in_parens, IsWrittenText, IsWrittenTree}
use Rattle.nf_core.specs.declared.operators.BinOp.{BinOp}
use Rattle.nf_core.specs.declared.operators.BinOp.TheVariants as binary
use Rattle.nf_text.specs.Value.{is_plain}
use Rattle.nf_lex.specs.declared.token.TokenKind.TheVariants as kind
use Rattle.nf_lex.specs.Words.{is_number, quoted, is_among, long_marks, opens_line, opens_block}
use Rattle.nf_lex.specs.Faults.{fault_of}
use Rattle.nf_lex.proofs.Public.QuotedTextLemmas.{quoted_is_text, body_of_quoted}
use Rattle.nf_lex.proofs.Public.NameLemmas.{name_parts}
use Rattle.nf_lex.proofs.Public.KindLemmas.{identifier_parts}
use Rattle.nf_parse.specs.State.{Word}
use Rattle.nf_core.specs.Spelling.{mark_of}
use Rattle.nf_print.specs.Canonical.{enclosed, minus_before, expression_text}
use Rattle.nf_print.proofs.WordFrontLemmas.{Front, word, name, keyword, mark, between, expression_words}
use Rattle.nf_print.proofs.LevelPartLemmas.{level_small}
use Rattle.nf_print.proofs.SpelledExpressionLemmas.{decimal_value, small_number}
use Rattle.nf_print.proofs.ReadWordLemmas.{AreRead, Reads, reads_token, is_stop, stop_inner, stop_digit, reads_blank, reads_name, reads_keyword, reads_long, reads_short}
use Rattle.nf_lemmas.proofs.ListLemmas.{has_first}
use Rattle.nf_lemmas.proofs.DigitLemmas.{digits_model}

-- the text of an operator between its sides in front of more
pub operator_parts : (x m y rest : List ℕ) → (x ++ codes " " ++ m ++ codes " " ++ y) ++ rest ≡ x ++ 32 ∷ (m ++ 32 ∷ (y ++ rest))
operator_parts x m y rest = simp append_assoc refl

decimal_number : (n : ℕ) → n < 2 ^ 63 → is_number (decimal n) ≡ true
decimal_number n h =
    let all = digits_decimal digits_model n (omega arith) in
    rw (AllPass-from_list_all is_ascii_digit (decimal n) all 0 0 (decimal_nonempty n (omega arith)), all) refl

-- how the text of an operand begins
abbrev is_first : ℕ → Bool
is_first b = is_letter b || is_ascii_digit b || eqb b 34 || eqb b 40 || eqb b 33

abbrev Begins : Tree → ℕ → Type 0
Begins (Neg a) b = b ≡ 45
Begins other b = is_first b ≡ true

letter_first : (b : ℕ) → is_letter b ≡ true → is_first b ≡ true
letter_first b h = grind (arith, nat_tests)

digit_first : (b : ℕ) → is_ascii_digit b ≡ true → is_first b ≡ true
digit_first b h = grind (arith, nat_tests)

label_first : (label more rest : List ℕ) → is_identifier label ≡ true → is_first (get_or ((label ++ more) ++ rest) 0 0) ≡ true
label_first label more rest h =
    let i = (name_parts label (identifier_parts label h).0).0 in
    let l = has_first is_letter label refl i in
    rw (append_assoc label more rest, get_or_append_left label (more ++ rest) 0 0 l) (letter_first (get_or label 0 0) i)

minus_first : (a : Tree) (xs : List ℕ) → get_or (minus_before a ++ xs) 0 0 ≡ 45
unfolding minus_before
minus_first (trees.Bool b) xs = refl
minus_first (Int n) xs = refl
minus_first (Text t) xs = refl
minus_first (Start label) xs = refl
minus_first (Stop label) xs = refl
minus_first (Key label key) xs = refl
minus_first (Neg a) xs = refl
minus_first (Not a) xs = refl
minus_first (Bin op a b) xs = refl

operand_begins : (a : Tree) → IsWrittenTree a → (rest : List ℕ) → Begins a (get_or (enclosed (operand_in_parens a) (expression_text a) ++ rest) 0 0)
unfolding expression_text level IsWrittenTree
operand_begins (trees.Bool true) w rest = refl
operand_begins (trees.Bool false) w rest = refl
operand_begins (Int (pos n)) w rest =
    let small = small_number n w.1 in
    let d = (and_parts (is_ascii_digit (get_or (decimal n) 0 0)) (list_all is_ascii_digit (decimal n)) (decimal_number n small)).0 in
    rw (get_or_append_left (decimal n) rest 0 0 (decimal_nonempty n (omega arith))) (digit_first (get_or (decimal n) 0 0) d)
operand_begins (Int (negsuc n)) w rest = absurd (omega (arith, ints, w.0))
operand_begins (Text t) w rest = refl
operand_begins (Start label) w rest = label_first label (codes ".begin") rest w
operand_begins (Stop label) w rest = label_first label (codes ".end") rest w
operand_begins (Key label key) w rest =
    subst (λ bytes. is_first (get_or (bytes ++ rest) 0 0) ≡ true) (sym (append_assoc label (codes ".") key)) (label_first label (codes "." ++ key) rest w.0)
operand_begins (Neg a) w rest =
    let x = enclosed (operand_in_parens a) (expression_text a) in
    ap (λ bytes. get_or bytes 0 0) (append_assoc (minus_before a) x rest) ∙ minus_first a (x ++ rest)
operand_begins (Not a) w rest = refl
operand_begins (Bin op a b) w rest =
    let l : ltb (op_level op) 6 ≡ true = lt-ltb (op_level op) 6 (omega (arith, level_small op)) in
    rw l refl

-- what stands behind a `-` or a `!` doesn't go on with it
first_no : (b c : ℕ) → is_first b ≡ true → is_first c ≡ false → b ≡ c → ⊥
first_no b c h n e = both_ways (is_first c) n (subst (λ d. is_first d ≡ true) e h)

minus_alone : (rest : List ℕ) → is_first (get_or rest 0 0) ≡ true → (is_among long_marks (take 2 (45 ∷ rest)) ≡ false) × (opens_line (45 ∷ rest) ≡ false) × (opens_block (45 ∷ rest) ≡ false)
minus_alone [] h = absurd cc
minus_alone (b ∷ rest) h =
    let arrow = ne_eqb 62 b (λ e. first_no b 62 h refl (sym e)) in
    let dash = ne_eqb 45 b (λ e. first_no b 45 h refl (sym e)) in
    (rw arrow refl, rw dash refl, refl)

bang_alone : (rest : List ℕ) → (get_or rest 0 0 ≡ 61 → ⊥) → is_among long_marks (take 2 (33 ∷ rest)) ≡ false
bang_alone [] h = refl
bang_alone (b ∷ rest) h = rw (ne_eqb 61 b (λ e. h (sym e))) refl

no_equals : (a : Tree) (b : ℕ) → Begins a b → b ≡ 61 → ⊥
no_equals (trees.Bool t) b h e = first_no b 61 h refl e
no_equals (Int n) b h e = first_no b 61 h refl e
no_equals (Text t) b h e = first_no b 61 h refl e
no_equals (Start label) b h e = first_no b 61 h refl e
no_equals (Stop label) b h e = first_no b 61 h refl e
no_equals (Key label key) b h e = first_no b 61 h refl e
no_equals (Neg a) b h e = omega (arith, h, e)
no_equals (Not a) b h e = first_no b 61 h refl e
no_equals (Bin op x y) b h e = first_no b 61 h refl e

module _ (laws : AreRead) (plain : (t : List ℕ) → (is_plain t ≡ true) ↔ IsPlain t) where
  reads_number : (n : ℕ) (rest : List ℕ) (ws : List Word) → n < 2 ^ 63 → is_ascii_digit (get_or rest 0 0) ≡ false → Reads rest ws → Reads (decimal n ++ rest) (word kind.Number (decimal n) ∷ ws)
  unfolding fault_of
  reads_number n rest ws h s r =
      reads_token kind.Number (length (decimal n)) (decimal n) rest ws refl (laws.number (decimal n) rest (decimal_number n h) s)
      (λ line. let l : ltb (digits_value 10 (decimal n)) (2 ^ 63) ≡ true = lt-ltb (digits_value 10 (decimal n)) (2 ^ 63) (omega (arith, decimal_value n h)) in rw l refl) r

  reads_text : (t rest : List ℕ) (ws : List Word) → IsWrittenText t → Reads rest ws → Reads (quoted t ++ rest) (word kind.Text (quoted t) ∷ ws)
  unfolding fault_of
  reads_text t rest ws h r =
      reads_token kind.Text (length (quoted t)) (quoted t) rest ws refl (laws.text (quoted t) rest (quoted_is_text t h.no_quote))
      (λ line. let e = body_of_quoted t in rw (e, h.utf8, (plain t).1 h.plain) refl) r

  -- the mark of an operator, in front of a space
  mark_read : (op : BinOp) (rest : List ℕ) (ws : List Word) → Reads rest ws → Reads (mark_of op ++ 32 ∷ rest) (mark (mark_of op) ∷ ws)
  unfolding mark_of
  mark_read binary.Or rest ws r = reads_short laws 124 (32 ∷ rest) ws refl refl refl refl (reads_blank laws 32 rest ws refl r)
  mark_read binary.And rest ws r = reads_short laws 38 (32 ∷ rest) ws refl refl refl refl (reads_blank laws 32 rest ws refl r)
  mark_read binary.Eq rest ws r = reads_short laws 61 (32 ∷ rest) ws refl refl refl refl (reads_blank laws 32 rest ws refl r)
  mark_read binary.Ne rest ws r = reads_long laws (codes "!=") (32 ∷ rest) ws refl refl (reads_blank laws 32 rest ws refl r)
  mark_read binary.Lt rest ws r = reads_short laws 60 (32 ∷ rest) ws refl refl refl refl (reads_blank laws 32 rest ws refl r)
  mark_read binary.Le rest ws r = reads_long laws (codes "<=") (32 ∷ rest) ws refl refl (reads_blank laws 32 rest ws refl r)
  mark_read binary.Gt rest ws r = reads_short laws 62 (32 ∷ rest) ws refl refl refl refl (reads_blank laws 32 rest ws refl r)
  mark_read binary.Ge rest ws r = reads_long laws (codes ">=") (32 ∷ rest) ws refl refl (reads_blank laws 32 rest ws refl r)
  mark_read binary.Add rest ws r = reads_short laws 43 (32 ∷ rest) ws refl refl refl refl (reads_blank laws 32 rest ws refl r)
  mark_read binary.Sub rest ws r = reads_short laws 45 (32 ∷ rest) ws refl refl refl refl (reads_blank laws 32 rest ws refl r)
  mark_read binary.Mul rest ws r = reads_short laws 42 (32 ∷ rest) ws refl refl refl refl (reads_blank laws 32 rest ws refl r)
  mark_read binary.Div rest ws r = reads_short laws 47 (32 ∷ rest) ws refl refl refl refl (reads_blank laws 32 rest ws refl r)
  mark_read binary.Rem rest ws r = reads_short laws 37 (32 ∷ rest) ws refl refl refl refl (reads_blank laws 32 rest ws refl r)

  -- a `-` in front of an operand
  tight_minus : (rest : List ℕ) (ws : List Word) → is_first (get_or rest 0 0) ≡ true → Reads rest ws → Reads (45 ∷ rest) (mark (codes "-") ∷ ws)
  tight_minus rest ws h r = let a = minus_alone rest h in reads_short laws 45 rest ws refl a.0 a.1 a.2 r

  minus_read : (a : Tree) (rest : List ℕ) (ws : List Word) → Begins a (get_or rest 0 0) → Reads rest ws → Reads (minus_before a ++ rest) (mark (codes "-") ∷ ws)
  unfolding minus_before
  minus_read (trees.Bool b) rest ws h r = tight_minus rest ws h r
  minus_read (Int n) rest ws h r = tight_minus rest ws h r
  minus_read (Text t) rest ws h r = tight_minus rest ws h r
  minus_read (Start label) rest ws h r = tight_minus rest ws h r
  minus_read (Stop label) rest ws h r = tight_minus rest ws h r
  minus_read (Key label key) rest ws h r = tight_minus rest ws h r
  minus_read (Neg a) rest ws h r = reads_short laws 45 (32 ∷ rest) ws refl refl refl refl (reads_blank laws 32 rest ws refl r)
  minus_read (Not a) rest ws h r = tight_minus rest ws h r
  minus_read (Bin op a b) rest ws h r = tight_minus rest ws h r

  -- a text is read as words, in front of what ends an expression
  abbrev pub IsReadAs : List ℕ → Front → Type 0
  IsReadAs text words = (rest : List ℕ) (ws : List Word) → is_stop (get_or rest 0 0) ≡ true → Reads rest ws → Reads (text ++ rest) (words ws)

  enclosed_read : (b : prelude.Bool) (text : List ℕ) (words : Front) → IsReadAs text words → IsReadAs (enclosed b text) (between b words)
  enclosed_read false text words h rest ws s r = h rest ws s r
  enclosed_read true text words h rest ws s r =
      subst (λ bytes. Reads (40 ∷ bytes) (between true words ws)) (sym (append_assoc text (codes ")") rest))
      (reads_short laws 40 (text ++ 41 ∷ rest) (words (mark (codes ")") ∷ ws)) refl refl refl refl
      (h (41 ∷ rest) (mark (codes ")") ∷ ws) refl (reads_short laws 41 rest ws refl refl refl refl r)))

  pub expression_read : (y : Tree) → IsWrittenTree y → IsReadAs (expression_text y) (expression_words y)
  unfolding expression_text expression_words IsWrittenTree has_name_form keywords
  expression_read (trees.Bool true) w rest ws s r = reads_keyword laws (codes "true") rest ws refl refl (stop_inner (get_or rest 0 0) s) r
  expression_read (trees.Bool false) w rest ws s r = reads_keyword laws (codes "false") rest ws refl refl (stop_inner (get_or rest 0 0) s) r
  expression_read (Int (pos n)) w rest ws s r = reads_number n rest ws (small_number n w.1) (stop_digit (get_or rest 0 0) s) r
  expression_read (Int (negsuc n)) w rest ws s r = absurd (omega (arith, ints, w.0))
  expression_read (Text t) w rest ws s r = reads_text t rest ws w r
  expression_read (Start label) w rest ws s r =
      subst (λ bytes. Reads bytes (expression_words (Start label) ws)) (sym (append_assoc label (codes ".begin") rest))
      (reads_name laws label (codes ".begin" ++ rest) (mark (codes ".") ∷ keyword (codes "begin") ∷ ws) w refl
      (reads_short laws 46 (codes "begin" ++ rest) (keyword (codes "begin") ∷ ws) refl refl refl refl (reads_keyword laws (codes "begin") rest ws refl refl (stop_inner (get_or rest 0 0) s) r)))
  expression_read (Stop label) w rest ws s r =
      subst (λ bytes. Reads bytes (expression_words (Stop label) ws)) (sym (append_assoc label (codes ".end") rest))
      (reads_name laws label (codes ".end" ++ rest) (mark (codes ".") ∷ keyword (codes "end") ∷ ws) w refl
      (reads_short laws 46 (codes "end" ++ rest) (keyword (codes "end") ∷ ws) refl refl refl refl (reads_keyword laws (codes "end") rest ws refl refl (stop_inner (get_or rest 0 0) s) r)))
  expression_read (Key label key) w rest ws s r =
      subst (λ bytes. Reads bytes (expression_words (Key label key) ws)) (sym (append_assoc (label ++ codes ".") key rest ∙ append_assoc label (codes ".") (key ++ rest)))
      (reads_name laws label (46 ∷ (key ++ rest)) (mark (codes ".") ∷ name key ∷ ws) w.0 refl
      (reads_short laws 46 (key ++ rest) (name key ∷ ws) refl refl refl refl (reads_name laws key rest ws w.1 (stop_inner (get_or rest 0 0) s) r)))
  expression_read (Neg a) w rest ws s r =
      let x = enclosed (operand_in_parens a) (expression_text a) in
      subst (λ bytes. Reads bytes (expression_words (Neg a) ws)) (sym (append_assoc (minus_before a) x rest))
      (minus_read a (x ++ rest) (between (operand_in_parens a) (expression_words a) ws) (operand_begins a w rest)
      (enclosed_read (operand_in_parens a) (expression_text a) (expression_words a) (expression_read a w) rest ws s r))
  expression_read (Not a) w rest ws s r =
      let x = enclosed (operand_in_parens a) (expression_text a) in
      reads_short laws 33 (x ++ rest) (between (operand_in_parens a) (expression_words a) ws) refl
      (bang_alone (x ++ rest) (no_equals a (get_or (x ++ rest) 0 0) (operand_begins a w rest))) refl refl
      (enclosed_read (operand_in_parens a) (expression_text a) (expression_words a) (expression_read a w) rest ws s r)
  expression_read (Bin op a b) w rest ws s r =
      let x = enclosed (left_in_parens op a) (expression_text a) in
      let y = enclosed (right_in_parens op b) (expression_text b) in
      let right = between (right_in_parens op b) (expression_words b) ws in
      subst (λ bytes. Reads bytes (expression_words (Bin op a b) ws))
      (sym (operator_parts x (mark_of op) y rest))
      (enclosed_read (left_in_parens op a) (expression_text a) (expression_words a) (expression_read a w.0) (32 ∷ (mark_of op ++ 32 ∷ (y ++ rest))) (mark (mark_of op) ∷ right) refl
      (reads_blank laws 32 (mark_of op ++ 32 ∷ (y ++ rest)) (mark (mark_of op) ∷ right) refl
      (mark_read op (y ++ rest) right (enclosed_read (right_in_parens op b) (expression_text b) (expression_words b) (expression_read b w.1) rest ws s r))))
