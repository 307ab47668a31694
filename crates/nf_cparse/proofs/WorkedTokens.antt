-- The definitions computed on worked cases. What is expected was worked out by hand from the rules.
use Rattle.std.proofs.Common.{◌≡◌, ℕ, List, refl, ap, true, [], ◌∷◌, ◌++◌, codes, arith}
use Rattle.std.specs.Prelude.{flat_map}
use Rattle.std.proofs.lemmas.Fmt.{decimal_digit}
use Rattle.hex.specs.Hex.{encode_with}
use Rattle.nf_cast.specs.Names.{is_c_identifier, has_small_form, ends_as_type, c_keywords}
use Rattle.nf_cast.specs.Text.{manifest_text, name_line, text_line}
use Rattle.nf_cast.specs.declared.manifests.CName.{CName}
use Rattle.nf_cparse.specs.declared.symbol.Sym.TheVariants as sym
use Rattle.nf_cparse.specs.declared.piece.Piece.TheVariants.{Gap, Token, Fault}
use Rattle.nf_cparse.specs.Symbols.{c_words, c_marks, word_symbol}
use Rattle.nf_cparse.specs.Pieces.{piece_of, comment_piece, block_piece, past_blanks, digits_at, past_digits, are_literal_digits, literal_open, literal_inside, literal_close, literal_piece, run_piece}

-- what stands at the front of some bytes
record WorkedPieces : Type 0 where
  less_equal : piece_of (codes "<=x") ≡ Token sym.LessEqual 2
  shift : piece_of (codes "<<=1") ≡ Fault 0
  less : piece_of (codes "<%") ≡ Token sym.Less 1
  percent : piece_of (codes "%:") ≡ Token sym.Percent 1
  colon : piece_of (codes ":") ≡ Fault 0
  twice_minus : piece_of (codes "--1") ≡ Fault 0
  minus : piece_of (codes "- -1") ≡ Token sym.Minus 1
  arrow : piece_of (codes "->a") ≡ Fault 0
  and : piece_of (codes "&&&") ≡ Token sym.And 2
  one_and : piece_of (codes "&b") ≡ Fault 0
  equal : piece_of (codes "===") ≡ Token sym.EqualEqual 2
  literal : piece_of (codes "INT64_C ( 12 );") ≡ Token sym.Lit 14
  zero : piece_of (codes "INT64_C(0)") ≡ Token sym.Lit 10
  leading_zero : piece_of (codes "INT64_C(012)") ≡ Fault 0
  no_digits : piece_of (codes "INT64_C()") ≡ Fault 0
  inner_comment : piece_of (codes "INT64_C(/**/1)") ≡ Fault 0
  greatest : piece_of (codes "INT64_C(9223372036854775807)") ≡ Token sym.Lit 28
  too_great : piece_of (codes "INT64_C(9223372036854775808)") ≡ Fault 0
  longer_run : piece_of (codes "INT64_C1(2)") ≡ Fault 0
  block_comment : piece_of (codes "/* a */b") ≡ Gap 7
  bad_in_comment : piece_of (codes "/* a ? */") ≡ Fault 5
  open_comment : piece_of (codes "/* a ?") ≡ Fault 0
  not_closed : piece_of (codes "/*/") ≡ Fault 0
  line_comment : piece_of (codes "// a\n") ≡ Gap 4
  last_comment : piece_of (codes "//") ≡ Gap 2
  question : piece_of (codes "?") ≡ Fault 0
  identifier : piece_of (codes "a_1(") ≡ Token sym.Ident 3
  main : piece_of (codes "main(") ≡ Fault 0
  main_more : piece_of (codes "mains") ≡ Token sym.Ident 5
  type_name : piece_of (codes "a_t") ≡ Fault 0
  int64 : piece_of (codes "int64_t x") ≡ Token sym.Int64 7
  keyword : piece_of (codes "while") ≡ Fault 0
  return_word : piece_of (codes "return;") ≡ Token sym.Return 6
  capital : piece_of (codes "Ab") ≡ Fault 0
  digit : piece_of (codes "9a") ≡ Fault 0
  blank : piece_of (codes " a") ≡ Gap 1

worked_pieces : WorkedPieces
unfolding piece_of comment_piece block_piece past_blanks digits_at past_digits are_literal_digits literal_open literal_inside literal_close literal_piece run_piece word_symbol c_words c_marks is_c_identifier has_small_form ends_as_type c_keywords
worked_pieces = record {
  less_equal = refl;
  shift = refl;
  less = refl;
  percent = refl;
  colon = refl;
  twice_minus = refl;
  minus = refl;
  arrow = refl;
  and = refl;
  one_and = refl;
  equal = refl;
  literal = refl;
  zero = refl;
  leading_zero = refl;
  no_digits = refl;
  inner_comment = refl;
  greatest = refl;
  too_great = refl;
  longer_run = refl;
  block_comment = refl;
  bad_in_comment = refl;
  open_comment = refl;
  not_closed = refl;
  line_comment = refl;
  last_comment = refl;
  question = refl;
  identifier = refl;
  main = refl;
  main_more = refl;
  type_name = refl;
  int64 = refl;
  keyword = refl;
  return_word = refl;
  capital = refl;
  digit = refl;
  blank = refl;
}

-- the manifest of the monitor that is written by hand, with a key and a text
worked_names : List CName
worked_names = record { is_head = true; name = codes "w"; keys = codes "k" ∷ [] } ∷ []

worked_texts : List (List ℕ)
worked_texts = codes "ok" ∷ []

worked_manifest : manifest_text (record { version = 1; names = worked_names; texts = worked_texts }) ≡ codes "/*nfer 1\nhead w k\ntext x6f6b\n*/\n"
unfolding worked_names worked_texts encode_with
worked_manifest = ap (λ d. codes "/*nfer " ++ d ++ codes "\n" ++ flat_map name_line worked_names ++ flat_map text_line worked_texts ++ codes "*/\n") (decimal_digit 1 (omega arith))
