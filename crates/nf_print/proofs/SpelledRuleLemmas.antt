-- The words of a rule spell it.
use Rattle.std.proofs.Common.{◌≡◌, inl, inr, ℕ, ◌-◌, true, false, List, [], ◌∷◌, refl, ap, subst, arith, codes, Option, Some, None, unwrap_or, All}
use Rattle.std.specs.Prelude as prelude
use Rattle.std.specs.Prelude.{option_to_list}
use Rattle.std.proofs.lemmas.Slice.Eq.{bytes_eq-Decides}
use Rattle.std.proofs.lemmas.List.Elements.{All-head, All-tail}
use Rattle.nf_core.specs.Texts.{text_eq}
use Rattle.nf_core.specs.Trees.{Rule, tree, expr_of, level, operators, IsWrittenTree, IsWithinLimits}
use Rattle.nf_core.specs.declared.operators.Op.{Op}
use Rattle.nf_core.specs.declared.operators.Op.TheVariants as op
use Rattle.nf_core.specs.declared.operators.Xop.{Xop}
use Rattle.nf_core.specs.declared.operators.Xop.TheVariants as xop
use Rattle.nf_core.specs.declared.trees.Expr.{Expr}
use Rattle.nf_core.specs.declared.trees.Atom.{Atom}
use Rattle.nf_core.specs.declared.trees.Body.{Body}
use Rattle.nf_core.specs.declared.trees.Body.TheVariants as body
use Rattle.nf_core.specs.declared.trees.Entry.{Entry}
use Rattle.nf_lex.specs.declared.token.TokenKind.{TokenKind}
use Rattle.nf_lex.specs.declared.token.TokenKind.TheVariants as kind
use Rattle.nf_grammar.specs.State.{state}
use Rattle.nf_grammar.specs.Parts.{IsToken, IsRepeated, none, more}
use Rattle.nf_grammar.specs.Parts as part
use Rattle.nf_grammar.specs.Places.{IsText}
use Rattle.nf_parse.specs.State.{Word, State, sym_of, of_kind}
use Rattle.nf_parse.specs.Grammar as grammar
use Rattle.nf_parse.specs.Grammar.{op_of, xop_of, loose, modules_of, unnamed}
use Rattle.nf_parse.specs.Answers.{limits}
use Rattle.nf_parse.proofs.Public.WordLemmas.{Token, separated_word, present, absent}
use Rattle.nf_core.specs.Spelling.{word_of_op, word_of_xop}
use Rattle.nf_print.proofs.WordFrontLemmas.{word, name, keyword, mark, expression_words, atom_at, atom_words, body_words, clause_words, entry_words, other_words, map_words, rule_words}
use Rattle.nf_print.proofs.LevelPartLemmas.{one_word, loosest}
use Rattle.nf_print.proofs.SpelledExpressionLemmas.{spelled}

-- the state before words outside expressions
abbrev at : List Word → State
at words = state 256 words

token : (kind : TokenKind) (bytes : List ℕ) (rest : List Word) → Token (sym_of kind bytes) (at (word kind bytes ∷ rest)) bytes (at rest)
token kind bytes rest = one_word kind 256 256 bytes rest refl

-- an expression that can be written and is within the limits
pub record IsGood (x : Expr) : Type 0 where
  pub written : IsWrittenTree (tree x)
  pub limits : IsWithinLimits (tree x)

-- the keywords of operators
op_word : (o : Op) (rest : List Word) → IsToken (λ (word : Word). op_of word.0) (at (keyword (word_of_op o) ∷ rest)) o (at rest)
unfolding op_of word_of_op sym_of
op_word op.Before rest = record { token = keyword (codes "before"); first = refl; gives = refl; room = refl }
op_word op.Meet rest = record { token = keyword (codes "meet"); first = refl; gives = refl; room = refl }
op_word op.During rest = record { token = keyword (codes "during"); first = refl; gives = refl; room = refl }
op_word op.Coincide rest = record { token = keyword (codes "coincide"); first = refl; gives = refl; room = refl }
op_word op.Start rest = record { token = keyword (codes "start"); first = refl; gives = refl; room = refl }
op_word op.Finish rest = record { token = keyword (codes "finish"); first = refl; gives = refl; room = refl }
op_word op.Overlap rest = record { token = keyword (codes "overlap"); first = refl; gives = refl; room = refl }
op_word op.Slice rest = record { token = keyword (codes "slice"); first = refl; gives = refl; room = refl }

xop_word : (x : Xop) (rest : List Word) → IsToken (λ (word : Word). xop_of word.0) (at (keyword (word_of_xop x) ∷ rest)) x (at rest)
unfolding xop_of word_of_xop sym_of
xop_word xop.After rest = record { token = keyword (codes "after"); first = refl; gives = refl; room = refl }
xop_word xop.Follow rest = record { token = keyword (codes "follow"); first = refl; gives = refl; room = refl }
xop_word xop.Contain rest = record { token = keyword (codes "contain"); first = refl; gives = refl; room = refl }

-- an atom
atom_given : (b : prelude.Bool) (atom : Atom) (rest : List Word) → (b ≡ true → atom.label ≡ atom.name) → grammar.atom.word (at (atom_at b atom rest)) atom (at rest)
unfolding sym_of
atom_given true atom rest h = record {
  given = atom.name;
  middle = at rest;
  first = token kind.Ident atom.name rest;
  rest = record { given = None; middle = at rest; first = absent (grammar.behind (mark (codes ":")).0 (grammar.word (name atom.name).0)) (at rest); rest = record { gives = ap (λ label. record { label = label; name = atom.name }) (h refl); stays = refl } };
}
atom_given false atom rest h = record {
  given = atom.label;
  middle = at (mark (codes ":") ∷ name atom.name ∷ rest);
  first = token kind.Ident atom.label (mark (codes ":") ∷ name atom.name ∷ rest);
  rest = record {
    given = Some atom.name;
    middle = at rest;
    first = present (grammar.behind (mark (codes ":")).0 (grammar.word (name atom.name).0)) _ _ _ (record { given = codes ":"; middle = at (name atom.name ∷ rest); first = token kind.Mark (codes ":") (name atom.name ∷ rest); rest = token kind.Ident atom.name rest });
    rest = record { gives = refl; stays = refl };
  };
}

atom_spelled : (atom : Atom) (rest : List Word) → grammar.atom.word (at (atom_words atom rest)) atom (at rest)
atom_spelled atom rest = atom_given (text_eq atom.label atom.name) atom rest (bytes_eq-Decides atom.label atom.name).0

-- a body
body_spelled : (b : Body) (rest : List Word) → grammar.rule_body.word (at (body_words b rest)) b (at rest)
unfolding sym_of
body_spelled (body.One first) rest = record { given = first; middle = at rest; first = atom_spelled first rest; rest = inl (record { gives = refl; stays = refl }) }
body_spelled (body.Pair first o second) rest = record {
  given = first;
  middle = at (keyword (word_of_op o) ∷ atom_words second rest);
  first = atom_spelled first (keyword (word_of_op o) ∷ atom_words second rest);
  rest = inr (inl (record {
    given = o;
    middle = at (atom_words second rest);
    first = op_word o (atom_words second rest);
    rest = record { given = second; middle = at rest; first = atom_spelled second rest; rest = record { gives = refl; stays = refl } };
  }));
}
body_spelled (body.Unless first x second) rest = record {
  given = first;
  middle = at (keyword (codes "unless") ∷ keyword (word_of_xop x) ∷ atom_words second rest);
  first = atom_spelled first (keyword (codes "unless") ∷ keyword (word_of_xop x) ∷ atom_words second rest);
  rest = inr (inr (record {
    given = codes "unless";
    middle = at (keyword (word_of_xop x) ∷ atom_words second rest);
    first = token kind.Keyword (codes "unless") (keyword (word_of_xop x) ∷ atom_words second rest);
    rest = record {
      given = x;
      middle = at (atom_words second rest);
      first = xop_word x (atom_words second rest);
      rest = record { given = second; middle = at rest; first = atom_spelled second rest; rest = record { gives = refl; stays = refl } };
    };
  }));
}

-- where an expression is that of its tree
module _ (back : (x : Expr) → expr_of (tree x) ≡ x) where
  -- an expression by itself
  whole : (x : Expr) (rest : List Word) → IsGood x → (part.alone (grammar.expression (grammar.paren 64))).word (at (expression_words (tree x) rest)) x (at rest)
  whole x rest h =
      let few = h.limits.few_operators in
      let part = spelled (tree x) h.written 64 256 (256 - operators (tree x)) rest h.limits.few_parens (omega (arith, few)) in
      record {
        left = 256 - operators (tree x);
        word = subst (λ y. (grammar.expression (grammar.paren 64)).word (at (expression_words (tree x) rest)) y (state (256 - operators (tree x)) rest)) (back x)
            (loosest (grammar.paren 64) (at (expression_words (tree x) rest)) (state (256 - operators (tree x)) rest) (expr_of (tree x)) 0 (level (tree x)) (omega arith) part);
        room = refl;
      }

  -- a clause
  clause : (bytes : List ℕ) (c : Option Expr) (rest : List Word) → All IsGood (option_to_list c) → (part.optional (grammar.clause 64 (keyword bytes).0)).word (at (clause_words (keyword bytes) c rest)) c (at rest)
  clause bytes None rest h = absent (grammar.clause 64 (keyword bytes).0) (at rest)
  clause bytes (Some x) rest h = present (grammar.clause 64 (keyword bytes).0) _ _ _ (record {
    given = bytes;
    middle = at (expression_words (tree x) rest);
    first = token kind.Keyword bytes (expression_words (tree x) rest);
    rest = whole x rest (All-head IsGood x [] h);
  })

  -- entries
  entry_spelled : (entry : Entry) (rest : List Word) → IsGood entry.value → (grammar.entry 64).word (at (entry_words entry rest)) entry (at rest)
  unfolding sym_of
  entry_spelled entry rest h = record {
    given = entry.key;
    middle = at (mark (codes "->") ∷ expression_words (tree entry.value) rest);
    first = token kind.Ident entry.key (mark (codes "->") ∷ expression_words (tree entry.value) rest);
    rest = record {
      given = entry.value;
      middle = at rest;
      first = record { given = codes "->"; middle = at (expression_words (tree entry.value) rest); first = token kind.Mark (codes "->") (expression_words (tree entry.value) rest); rest = whole entry.value rest h };
      rest = record { gives = refl; stays = refl };
    };
  }

  others_spelled : (others : List Entry) (rest : List Word) → All (λ (entry : Entry). IsGood entry.value) others
      → IsRepeated (part.after (of_kind (mark (codes ",")).0) (grammar.entry 64)) (at (other_words others rest)) others (at rest)
  others_spelled [] rest h = none
  others_spelled (second ∷ others) rest h = more
      (record {
        given = codes ",";
        middle = at (entry_words second (other_words others rest));
        first = token kind.Mark (codes ",") (entry_words second (other_words others rest));
        rest = entry_spelled second (other_words others rest) (All-head (λ (entry : Entry). IsGood entry.value) second others h);
      })
      (others_spelled others rest (All-tail (λ (entry : Entry). IsGood entry.value) second others h))

  entries_spelled : (first : Entry) (others : List Entry) (rest : List Word) → All (λ (entry : Entry). IsGood entry.value) (first ∷ others)
      → (part.separated (of_kind (mark (codes ",")).0) (grammar.entry 64)).word (at (entry_words first (other_words others rest))) (first ∷ others) (at rest)
  entries_spelled first others rest h = separated_word (of_kind (mark (codes ",")).0) (grammar.entry 64) (at (entry_words first (other_words others rest))) (at (other_words others rest)) (at rest) first others
      (entry_spelled first (other_words others rest) (All-head (λ (entry : Entry). IsGood entry.value) first others h))
      (others_spelled others rest (All-tail (λ (entry : Entry). IsGood entry.value) first others h))

  abbrev given : List Entry → Option (List Entry)
  given [] = None
  given (first ∷ others) = Some (first ∷ others)

  given_is : (entries : List Entry) → entries ≡ unwrap_or (given entries) []
  given_is [] = refl
  given_is (first ∷ others) = refl

  map_spelled : (entries : List Entry) (rest : List Word) → All (λ (entry : Entry). IsGood entry.value) entries → (part.optional (grammar.entries 64)).word (at (map_words entries rest)) (given entries) (at rest)
  unfolding sym_of
  map_spelled [] rest h = absent (grammar.entries 64) (at rest)
  map_spelled (first ∷ others) rest h =
      let inside = entry_words first (other_words others (mark (codes "}") ∷ rest)) in
      present (grammar.entries 64) _ _ _ (record {
        given = codes "map";
        middle = at (mark (codes "{") ∷ inside);
        first = token kind.Keyword (codes "map") (mark (codes "{") ∷ inside);
        rest = record {
          given = Some (first ∷ others);
          middle = at rest;
          first = record {
            given = codes "{";
            middle = at inside;
            first = token kind.Mark (codes "{") inside;
            rest = record {
              given = Some (first ∷ others);
              middle = at (mark (codes "}") ∷ rest);
              first = present (part.separated (of_kind (mark (codes ",")).0) (grammar.entry 64)) _ _ _ (entries_spelled first others (mark (codes "}") ∷ rest) h);
              rest = record { given = codes "}"; middle = at rest; first = token kind.Mark (codes "}") rest; rest = record { gives = refl; stays = refl } };
            };
          };
          rest = record { gives = refl; stays = refl };
        };
      })

  -- the expressions of a rule can be written and are within the limits
  pub record AreGood (rule : Rule) : Type 0 where
    pub filter : All IsGood (option_to_list rule.filter)
    pub entries : All (λ (entry : Entry). IsGood entry.value) rule.entries
    pub start : All IsGood (option_to_list rule.start)
    pub stop : All IsGood (option_to_list rule.stop)

  rule_spelled : (rule : Rule) → AreGood rule → (grammar.rule 64).word (at (rule_words rule)) rule (at [])
  unfolding sym_of
  rule_spelled rule h =
      let stops = clause_words (keyword (codes "end")) rule.stop [] in
      let starts = clause_words (keyword (codes "begin")) rule.start stops in
      let maps = map_words rule.entries starts in
      let filters = clause_words (keyword (codes "where")) rule.filter maps in
      let bodies = body_words rule.body filters in
      record {
        given = rule.head;
        middle = at (mark (codes ":-") ∷ bodies);
        first = token kind.Ident rule.head (mark (codes ":-") ∷ bodies);
        rest = record {
          given = codes ":-";
          middle = at bodies;
          first = token kind.Mark (codes ":-") bodies;
          rest = record {
            given = rule.body;
            middle = at filters;
            first = body_spelled rule.body filters;
            rest = record {
              given = rule.filter;
              middle = at maps;
              first = clause (codes "where") rule.filter maps h.filter;
              rest = record {
                given = given rule.entries;
                middle = at starts;
                first = map_spelled rule.entries starts h.entries;
                rest = record {
                  given = rule.start;
                  middle = at stops;
                  first = clause (codes "begin") rule.start stops h.start;
                  rest = record {
                    given = rule.stop;
                    middle = at [];
                    first = clause (codes "end") rule.stop [] h.stop;
                    rest = record {
                      gives = ap (λ entries. record { head = rule.head; body = rule.body; filter = rule.filter; entries = entries; start = rule.start; stop = rule.stop }) (given_is rule.entries);
                      stays = refl;
                    };
                  };
                };
              };
            };
          };
        };
      }

  -- the words of a rule are a file of one module without name that holds this rule alone
  pub file_spelled : (rule : Rule) → AreGood rule → IsText grammar.file limits (rule_words rule) (unnamed (rule ∷ []) ∷ [])
  unfolding modules_of
  file_spelled rule h = record {
    left = 256;
    word = record {
      given = loose rule ∷ [];
      middle = at [];
      first = more (inl (record { given = rule; middle = at []; first = rule_spelled rule h; rest = record { gives = refl; stays = refl } })) none;
      rest = record { gives = refl; stays = refl };
    };
  }
