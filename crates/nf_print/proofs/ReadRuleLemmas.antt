-- The canonical line of a rule is read as its words.
use Rattle.std.proofs.Common.{◌≡◌, ℕ, ◌↔◌, take, true, false, cond, List, [], ◌∷◌, ◌++◌, get_or, refl, sym, subst, codes, append_assoc, Option, Some, None, All}
use Rattle.std.specs.Prelude as prelude
use Rattle.std.specs.Prelude.{option_to_list}
use Rattle.std.proofs.lemmas.List.Elements.{All-head, All-tail}
use Rattle.std.proofs.lemmas.Bool.{both_ways, ne_eqb}
use Rattle.nf_core.specs.Texts.{text_eq, IsPlain}
use Rattle.nf_core.specs.Identifiers.{is_letter, has_name_form, keywords, is_identifier}
use Rattle.nf_core.specs.Trees.{Rule, tree, atoms_of, IsWrittenTree}
use Rattle.nf_core.specs.declared.operators.Op.{Op}
use Rattle.nf_core.specs.declared.operators.Op.TheVariants as op
use Rattle.nf_core.specs.declared.operators.Xop.{Xop}
use Rattle.nf_core.specs.declared.operators.Xop.TheVariants as xop
use Rattle.nf_core.specs.declared.trees.Expr.{Expr}
use Rattle.nf_core.specs.declared.trees.Atom.{Atom}
use Rattle.nf_core.specs.declared.trees.Body.{Body}
use Rattle.nf_core.specs.declared.trees.Body.TheVariants as body
use Rattle.nf_core.specs.declared.trees.Entry.{Entry}
use Rattle.nf_text.specs.Value.{is_plain}
use Rattle.nf_lex.specs.declared.token.TokenKind.TheVariants as kind
use Rattle.nf_lex.specs.Words.{name_kind, is_among, long_marks}
use Rattle.nf_lex.proofs.Public.NameLemmas.{name_parts}
use Rattle.nf_lex.proofs.Public.KindLemmas.{identifier_parts}
use Rattle.nf_parse.specs.State.{Word}
use Rattle.nf_core.specs.Spelling.{word_of_op, word_of_xop}
use Rattle.nf_print.specs.Canonical.{expression_text, atom_text, body_text, clause_text, entry_text, others_text, map_text, canonical}
use Rattle.nf_print.proofs.WordFrontLemmas.{name, keyword, mark, expression_words, atom_at, atom_words, body_words, clause_words, entry_words, other_words, map_words, rule_words}
use Rattle.nf_print.proofs.ReadWordLemmas.{AreRead, Reads, is_stop, stop_inner, reads_end, reads_blank, reads_name, reads_keyword, reads_long, reads_short}
use Rattle.nf_print.proofs.ReadExpressionLemmas.{operator_parts, IsReadAs, expression_read}

-- parts in front of more
unless_parts : (a w b rest : List ℕ) → (a ++ codes " unless " ++ w ++ codes " " ++ b) ++ rest ≡ a ++ 32 ∷ (codes "unless" ++ 32 ∷ (w ++ 32 ∷ (b ++ rest)))
unless_parts a w b rest = simp append_assoc refl

label_parts : (label name rest : List ℕ) → (label ++ codes ":" ++ name) ++ rest ≡ label ++ 58 ∷ (name ++ rest)
label_parts label name rest = simp append_assoc refl

clause_parts : (w x rest : List ℕ) → ((32 ∷ (w ++ codes " ")) ++ x) ++ rest ≡ 32 ∷ (w ++ 32 ∷ (x ++ rest))
clause_parts w x rest = simp append_assoc refl

entry_parts : (key x rest : List ℕ) → (key ++ codes " -> " ++ x) ++ rest ≡ key ++ 32 ∷ (codes "->" ++ 32 ∷ (x ++ rest))
entry_parts key x rest = simp append_assoc refl

map_parts : (first others rest : List ℕ) → (codes " map { " ++ first ++ others ++ codes " }") ++ rest ≡ 32 ∷ (codes "map" ++ 32 ∷ 123 ∷ 32 ∷ (first ++ (others ++ 32 ∷ 125 ∷ rest)))
map_parts first others rest = simp append_assoc refl

line_parts : (head b filter map start stop : List ℕ) → head ++ codes " :- " ++ b ++ filter ++ map ++ start ++ stop ++ codes "\n" ≡ head ++ 32 ∷ (codes ":-" ++ 32 ∷ (b ++ (filter ++ (map ++ (start ++ (stop ++ 10 ∷ []))))))
line_parts head b filter map start stop = simp append_assoc refl

-- a `:` in front of an identifier is one by itself
colon_alone : (name rest : List ℕ) → is_identifier name ≡ true → is_among long_marks (take 2 (58 ∷ (name ++ rest))) ≡ false
colon_alone name rest h = colon name ((name_parts name (identifier_parts name h).0).0)
  where
    colon : (w : List ℕ) → is_letter (get_or w 0 0) ≡ true → is_among long_marks (take 2 (58 ∷ (w ++ rest))) ≡ false
    colon [] i = absurd cc
    colon (b ∷ w) i = rw (ne_eqb 45 b (λ e. both_ways (is_letter 45) refl (subst (λ c. is_letter c ≡ true) (sym e) i))) refl

-- an identifier as a label and as a name
pub record IsNamed (atom : Atom) : Type 0 where
  pub label : is_identifier atom.label ≡ true
  pub name : is_identifier atom.name ≡ true

-- what a rule has to have so that its line is read
pub record IsPrintable (rule : Rule) : Type 0 where
  pub head : is_identifier rule.head ≡ true
  pub atoms : All IsNamed (atoms_of rule.body)
  pub keys : All (λ (entry : Entry). is_identifier entry.key ≡ true) rule.entries
  pub filter : All (λ x. IsWrittenTree (tree x)) (option_to_list rule.filter)
  pub entries : All (λ (entry : Entry). IsWrittenTree (tree entry.value)) rule.entries
  pub start : All (λ x. IsWrittenTree (tree x)) (option_to_list rule.start)
  pub stop : All (λ x. IsWrittenTree (tree x)) (option_to_list rule.stop)

-- what stands in front of what ends an expression ends one too
clause_stop : (w : List ℕ) (c : Option Expr) (rest : List ℕ) → is_stop (get_or rest 0 0) ≡ true → is_stop (get_or (clause_text (32 ∷ w) c ++ rest) 0 0) ≡ true
clause_stop w None rest s = s
clause_stop w (Some x) rest s = refl

map_stop : (entries : List Entry) (rest : List ℕ) → is_stop (get_or rest 0 0) ≡ true → is_stop (get_or (map_text entries ++ rest) 0 0) ≡ true
map_stop [] rest s = s
map_stop (first ∷ others) rest s = refl

module _ (laws : AreRead) (plain : (t : List ℕ) → (is_plain t ≡ true) ↔ IsPlain t) where
  atom_read : (b : prelude.Bool) (atom : Atom) → IsNamed atom → IsReadAs laws plain (cond b atom.name (atom.label ++ codes ":" ++ atom.name)) (atom_at b atom)
  atom_read true atom h rest ws s r = reads_name laws atom.name rest ws h.name (stop_inner (get_or rest 0 0) s) r
  atom_read false atom h rest ws s r =
      subst (λ bytes. Reads bytes (atom_at false atom ws)) (sym (label_parts atom.label atom.name rest))
      (reads_name laws atom.label (58 ∷ (atom.name ++ rest)) (mark (codes ":") ∷ name atom.name ∷ ws) h.label refl
      (reads_short laws 58 (atom.name ++ rest) (name atom.name ∷ ws) refl (colon_alone atom.name rest h.name) refl refl
      (reads_name laws atom.name rest ws h.name (stop_inner (get_or rest 0 0) s) r)))

  op_read : (o : Op) (rest : List ℕ) (ws : List Word) → Reads rest ws → Reads (word_of_op o ++ 32 ∷ rest) (keyword (word_of_op o) ∷ ws)
  unfolding word_of_op has_name_form keywords
  op_read op.Before rest ws r = reads_keyword laws (codes "before") (32 ∷ rest) ws refl refl refl (reads_blank laws 32 rest ws refl r)
  op_read op.Meet rest ws r = reads_keyword laws (codes "meet") (32 ∷ rest) ws refl refl refl (reads_blank laws 32 rest ws refl r)
  op_read op.During rest ws r = reads_keyword laws (codes "during") (32 ∷ rest) ws refl refl refl (reads_blank laws 32 rest ws refl r)
  op_read op.Coincide rest ws r = reads_keyword laws (codes "coincide") (32 ∷ rest) ws refl refl refl (reads_blank laws 32 rest ws refl r)
  op_read op.Start rest ws r = reads_keyword laws (codes "start") (32 ∷ rest) ws refl refl refl (reads_blank laws 32 rest ws refl r)
  op_read op.Finish rest ws r = reads_keyword laws (codes "finish") (32 ∷ rest) ws refl refl refl (reads_blank laws 32 rest ws refl r)
  op_read op.Overlap rest ws r = reads_keyword laws (codes "overlap") (32 ∷ rest) ws refl refl refl (reads_blank laws 32 rest ws refl r)
  op_read op.Slice rest ws r = reads_keyword laws (codes "slice") (32 ∷ rest) ws refl refl refl (reads_blank laws 32 rest ws refl r)

  xop_read : (x : Xop) (rest : List ℕ) (ws : List Word) → Reads rest ws → Reads (word_of_xop x ++ 32 ∷ rest) (keyword (word_of_xop x) ∷ ws)
  unfolding word_of_xop has_name_form keywords
  xop_read xop.After rest ws r = reads_keyword laws (codes "after") (32 ∷ rest) ws refl refl refl (reads_blank laws 32 rest ws refl r)
  xop_read xop.Follow rest ws r = reads_keyword laws (codes "follow") (32 ∷ rest) ws refl refl refl (reads_blank laws 32 rest ws refl r)
  xop_read xop.Contain rest ws r = reads_keyword laws (codes "contain") (32 ∷ rest) ws refl refl refl (reads_blank laws 32 rest ws refl r)

  named_read : (atom : Atom) → IsNamed atom → IsReadAs laws plain (atom_text atom) (atom_words atom)
  named_read atom h = atom_read (text_eq atom.label atom.name) atom h

  body_read : (b : Body) → All IsNamed (atoms_of b) → IsReadAs laws plain (body_text b) (body_words b)
  unfolding body_text has_name_form keywords
  body_read (body.One first) h rest ws s r = named_read first (All-head IsNamed first [] h) rest ws s r
  body_read (body.Pair first o second) h rest ws s r =
      let a = atom_text first in
      let b = atom_text second in
      let more = atom_words second ws in
      subst (λ bytes. Reads bytes (body_words (body.Pair first o second) ws)) (sym (operator_parts a (word_of_op o) b rest))
      (named_read first (All-head IsNamed first (second ∷ []) h) (32 ∷ (word_of_op o ++ 32 ∷ (b ++ rest))) (keyword (word_of_op o) ∷ more) refl
      (reads_blank laws 32 (word_of_op o ++ 32 ∷ (b ++ rest)) (keyword (word_of_op o) ∷ more) refl
      (op_read o (b ++ rest) more (named_read second (All-head IsNamed second [] (All-tail IsNamed first (second ∷ []) h)) rest ws s r))))
  body_read (body.Unless first x second) h rest ws s r =
      let a = atom_text first in
      let b = atom_text second in
      let more = atom_words second ws in
      let behind = word_of_xop x ++ 32 ∷ (b ++ rest) in
      subst (λ bytes. Reads bytes (body_words (body.Unless first x second) ws)) (sym (unless_parts a (word_of_xop x) b rest))
      (named_read first (All-head IsNamed first (second ∷ []) h) (32 ∷ (codes "unless" ++ 32 ∷ behind)) (keyword (codes "unless") ∷ keyword (word_of_xop x) ∷ more) refl
      (reads_blank laws 32 (codes "unless" ++ 32 ∷ behind) (keyword (codes "unless") ∷ keyword (word_of_xop x) ∷ more) refl
      (reads_keyword laws (codes "unless") (32 ∷ behind) (keyword (word_of_xop x) ∷ more) refl refl refl
      (reads_blank laws 32 behind (keyword (word_of_xop x) ∷ more) refl
      (xop_read x (b ++ rest) more (named_read second (All-head IsNamed second [] (All-tail IsNamed first (second ∷ []) h)) rest ws s r))))))

  clause_read : (w : List ℕ) → has_name_form w ≡ true → name_kind w ≡ kind.Keyword → (c : Option Expr) → All (λ x. IsWrittenTree (tree x)) (option_to_list c)
      → IsReadAs laws plain (clause_text (32 ∷ (w ++ codes " ")) c) (clause_words (keyword w) c)
  clause_read w n k None h rest ws s r = r
  clause_read w n k (Some x) h rest ws s r =
      let text = expression_text (tree x) in
      let more = expression_words (tree x) ws in
      subst (λ bytes. Reads bytes (keyword w ∷ more)) (sym (clause_parts w text rest))
      (reads_blank laws 32 (w ++ 32 ∷ (text ++ rest)) (keyword w ∷ more) refl
      (reads_keyword laws w (32 ∷ (text ++ rest)) more n k refl
      (reads_blank laws 32 (text ++ rest) more refl (expression_read laws plain (tree x) (All-head (λ y. IsWrittenTree (tree y)) x [] h) rest ws s r))))

  entry_read : (entry : Entry) → is_identifier entry.key ≡ true → IsWrittenTree (tree entry.value) → IsReadAs laws plain (entry_text entry) (entry_words entry)
  entry_read entry k h rest ws s r =
      let text = expression_text (tree entry.value) in
      let more = expression_words (tree entry.value) ws in
      subst (λ bytes. Reads bytes (entry_words entry ws)) (sym (entry_parts entry.key text rest))
      (reads_name laws entry.key (32 ∷ (codes "->" ++ 32 ∷ (text ++ rest))) (mark (codes "->") ∷ more) k refl
      (reads_blank laws 32 (codes "->" ++ 32 ∷ (text ++ rest)) (mark (codes "->") ∷ more) refl
      (reads_long laws (codes "->") (32 ∷ (text ++ rest)) more refl refl
      (reads_blank laws 32 (text ++ rest) more refl (expression_read laws plain (tree entry.value) h rest ws s r)))))

  -- entries behind the first one
  other_stop : (others : List Entry) (rest : List ℕ) → is_stop (get_or rest 0 0) ≡ true → is_stop (get_or (others_text others ++ rest) 0 0) ≡ true
  other_stop [] rest s = s
  other_stop (entry ∷ others) rest s = refl

  others_read : (others : List Entry) → All (λ (entry : Entry). is_identifier entry.key ≡ true) others → All (λ (entry : Entry). IsWrittenTree (tree entry.value)) others
      → IsReadAs laws plain (others_text others) (other_words others)
  others_read [] k h rest ws s r = r
  others_read (entry ∷ others) k h rest ws s r =
      let text = entry_text entry in
      let behind = others_text others in
      let more = entry_words entry (other_words others ws) in
      let key = All-head (λ (e : Entry). is_identifier e.key ≡ true) entry others k in
      let value = All-head (λ (e : Entry). IsWrittenTree (tree e.value)) entry others h in
      subst (λ bytes. Reads (44 ∷ 32 ∷ bytes) (mark (codes ",") ∷ more)) (sym (append_assoc text behind rest))
      (reads_short laws 44 (32 ∷ (text ++ (behind ++ rest))) more refl refl refl refl
      (reads_blank laws 32 (text ++ (behind ++ rest)) more refl
      (entry_read entry key value (behind ++ rest) (other_words others ws) (other_stop others rest s)
      (others_read others (All-tail (λ (e : Entry). is_identifier e.key ≡ true) entry others k) (All-tail (λ (e : Entry). IsWrittenTree (tree e.value)) entry others h) rest ws s r))))

  map_read : (entries : List Entry) → All (λ (entry : Entry). is_identifier entry.key ≡ true) entries → All (λ (entry : Entry). IsWrittenTree (tree entry.value)) entries
      → IsReadAs laws plain (map_text entries) (map_words entries)
  unfolding has_name_form keywords
  map_read [] k h rest ws s r = r
  map_read (first ∷ others) k h rest ws s r =
      let text = entry_text first in
      let behind = others_text others in
      let last = mark (codes "}") ∷ ws in
      let more = entry_words first (other_words others last) in
      let key = All-head (λ (e : Entry). is_identifier e.key ≡ true) first others k in
      let value = All-head (λ (e : Entry). IsWrittenTree (tree e.value)) first others h in
      let inside = text ++ (behind ++ 32 ∷ 125 ∷ rest) in
      subst (λ bytes. Reads bytes (map_words (first ∷ others) ws)) (sym (map_parts text behind rest))
      (reads_blank laws 32 (codes "map" ++ 32 ∷ 123 ∷ 32 ∷ inside) (keyword (codes "map") ∷ mark (codes "{") ∷ more) refl
      (reads_keyword laws (codes "map") (32 ∷ 123 ∷ 32 ∷ inside) (mark (codes "{") ∷ more) refl refl refl
      (reads_blank laws 32 (123 ∷ 32 ∷ inside) (mark (codes "{") ∷ more) refl
      (reads_short laws 123 (32 ∷ inside) more refl refl refl refl
      (reads_blank laws 32 inside more refl
      (entry_read first key value (behind ++ 32 ∷ 125 ∷ rest) (other_words others last) (other_stop others (32 ∷ 125 ∷ rest) refl)
      (others_read others (All-tail (λ (e : Entry). is_identifier e.key ≡ true) first others k) (All-tail (λ (e : Entry). IsWrittenTree (tree e.value)) first others h) (32 ∷ 125 ∷ rest) last refl
      (reads_blank laws 32 (125 ∷ rest) last refl
      (reads_short laws 125 rest ws refl refl refl refl r)))))))))

  -- the line of a rule
  pub rule_read : (rule : Rule) → IsPrintable rule → Reads (canonical rule) (rule_words rule)
  unfolding canonical has_name_form keywords
  rule_read rule h =
      let filter = clause_text (codes " where ") rule.filter in
      let entries = map_text rule.entries in
      let start = clause_text (codes " begin ") rule.start in
      let stop = clause_text (codes " end ") rule.stop in
      let after_start = stop ++ 10 ∷ [] in
      let after_map = start ++ after_start in
      let after_filter = entries ++ after_map in
      let after_body = filter ++ after_filter in
      let text = body_text rule.body in
      let stops = clause_words (keyword (codes "end")) rule.stop [] in
      let starts = clause_words (keyword (codes "begin")) rule.start stops in
      let maps = map_words rule.entries starts in
      let filters = clause_words (keyword (codes "where")) rule.filter maps in
      let bodies = body_words rule.body filters in
      let s0 = clause_stop (codes "end ") rule.stop (10 ∷ []) refl in
      let s1 = clause_stop (codes "begin ") rule.start after_start s0 in
      let s2 = map_stop rule.entries after_map s1 in
      let s3 = clause_stop (codes "where ") rule.filter after_filter s2 in
      let r0 = clause_read (codes "end") refl refl rule.stop h.stop (10 ∷ []) [] refl (reads_blank laws 10 [] [] refl reads_end) in
      let r1 = clause_read (codes "begin") refl refl rule.start h.start after_start stops s0 r0 in
      let r2 = map_read rule.entries h.keys h.entries after_map starts s1 r1 in
      let r3 = clause_read (codes "where") refl refl rule.filter h.filter after_filter maps s2 r2 in
      let r4 = body_read rule.body h.atoms after_body filters s3 r3 in
      subst (λ bytes. Reads bytes (rule_words rule)) (sym (line_parts rule.head text filter entries start stop))
      (reads_name laws rule.head (32 ∷ (codes ":-" ++ 32 ∷ (text ++ after_body))) (mark (codes ":-") ∷ bodies) h.head refl
      (reads_blank laws 32 (codes ":-" ++ 32 ∷ (text ++ after_body)) (mark (codes ":-") ∷ bodies) refl
      (reads_long laws (codes ":-") (32 ∷ (text ++ after_body)) bodies refl refl
      (reads_blank laws 32 (text ++ after_body) bodies refl r4))))
