-- What readings of rules, modules and files leave and give.
use Rattle.std.proofs.Common.{ℕ, List, [], Option, Some, None, unwrap_or}
use Rattle.std.specs.Prelude.{◌∷◌, ◌++◌, map, option_to_list, is_some}
use Rattle.std.specs.List.{All}
use Rattle.std.proofs.lemmas.List.Elements.{All-nil, All-cons, All-append, All-map, All-weaker, All-head, All-tail}
use Rattle.nf_core.specs.Trees.{atoms_of, expressions_of}
use Rattle.nf_core.specs.declared.trees.Expr.{Expr}
use Rattle.nf_core.specs.declared.trees.Atom.{Atom}
use Rattle.nf_core.specs.declared.trees.Body.{Body}
use Rattle.nf_core.specs.declared.trees.Body.TheVariants as bodies
use Rattle.nf_core.specs.declared.trees.Entry.{Entry}
use Rattle.nf_core.specs.declared.trees.Rule.{Rule}
use Rattle.nf_core.specs.declared.trees.Module.{Module}
use Rattle.nf_parse.specs.declared.symbol.Sym.{Sym}
use Rattle.nf_parse.specs.declared.symbol.Sym.TheVariants as kind
use Rattle.nf_parse.specs.State.{Word}
use Rattle.nf_grammar.specs.inner.Parsers.{and_then, done}
use Rattle.nf_parse.specs.Grammar.{atom_of, Item, loose, named, in_front, unnamed, modules_of}
use Rattle.nf_parse.specs.inner.Parsers.{Parser, is_kind, token, after, enclosed, optional}
use Rattle.nf_parse.specs.inner.RuleReading.{op_of_word, xop_of_word, atom, pair, exclusive, is_op, ends_body, rule_body, imports, is_ident, clause, entry, entries, rule, rules, module_word, item, file}
use Rattle.nf_parse.proofs.ReadPartLemmas.{OfSome, IsReading, IsReadingAlone, token_reading, table_reading, done_reading, looser, then_reading, after_reading, choose_reading, optional_reading, repeated_reading, separated_reading, alone_reading}

-- names and expressions as they are wanted
module _ (IsName : List ℕ → Type 0) (IsWrittenExpr : Expr → Type 0) where
  pub record IsWrittenAtom (atom : Atom) : Type 0 where
    pub label : IsName atom.label
    pub name : IsName atom.name

  pub record IsWrittenEntry (entry : Entry) : Type 0 where
    pub key : IsName entry.key
    pub value : IsWrittenExpr entry.value

  abbrev pub IsWrittenBody : Body → Type 0
  IsWrittenBody body = All IsWrittenAtom (atoms_of body)

  -- a rule whose names and keys are good, and whose expressions are
  pub record IsGoodRule (rule : Rule) : Type 0 where
    pub head : IsName rule.head
    pub labels : All (λ (atom : Atom). IsName atom.label) (atoms_of rule.body)
    pub names : All (λ (atom : Atom). IsName atom.name) (atoms_of rule.body)
    pub keys : All (λ (entry : Entry). IsName entry.key) rule.entries
    pub expressions : All IsWrittenExpr (expressions_of rule)

  -- a module whose rules can be written
  abbrev pub IsWrittenModule : Module → Type 0
  IsWrittenModule m = All IsGoodRule m.rules

  -- a rule of written parts can be written
  written_some : (x : Option Expr) → OfSome IsWrittenExpr x → All IsWrittenExpr (option_to_list x)
  written_some None h = All-nil IsWrittenExpr
  written_some (Some x) h = All-cons IsWrittenExpr x [] h (All-nil IsWrittenExpr)

  written_list : (x : Option (List Entry)) → OfSome (All IsWrittenEntry) x
      → All IsWrittenEntry (unwrap_or x [])
  written_list None h = All-nil IsWrittenEntry
  written_list (Some x) h = h

  module _ (head : List ℕ) (body : Body) (filter : Option Expr) (mapped : List Entry) (start stop : Option Expr) where
    abbrev rule_of : Rule
    rule_of = record { head = head; body = body; filter = filter; entries = mapped; start = start; stop = stop }

    written_rule : IsName head → IsWrittenBody body → OfSome IsWrittenExpr filter
        → All IsWrittenEntry mapped → OfSome IsWrittenExpr start → OfSome IsWrittenExpr stop
        → IsGoodRule rule_of
    written_rule h b f m s t = record {
      head = h;
      labels = All-weaker IsWrittenAtom (λ (a : Atom). IsName a.label) (λ a w. w.label) (atoms_of body) b;
      names = All-weaker IsWrittenAtom (λ (a : Atom). IsName a.name) (λ a w. w.name) (atoms_of body) b;
      keys = All-weaker IsWrittenEntry (λ (e : Entry). IsName e.key) (λ e w. w.key) mapped m;
      expressions = All-append IsWrittenExpr (option_to_list filter ++ map (λ (e : Entry). e.value) mapped ++ option_to_list start) (option_to_list stop)
          (All-append IsWrittenExpr (option_to_list filter ++ map (λ (e : Entry). e.value) mapped) (option_to_list start)
          (All-append IsWrittenExpr (option_to_list filter) (map (λ (e : Entry). e.value) mapped) (written_some filter f)
          (All-map IsWrittenExpr (λ (e : Entry). e.value) mapped (All-weaker IsWrittenEntry (λ (e : Entry). IsWrittenExpr e.value) (λ e w. w.value) mapped m))) (written_some start s)) (written_some stop t);
    }

  -- where an identifier fits, it is a name
  module _ (fits : Word → Type 0) (names : (bytes : List ℕ) → fits (kind.Ident, bytes) → IsName bytes) where
    name_reading : IsReading fits (token kind.Ident) IsName
    name_reading = looser fits names (token_reading fits kind.Ident)

    written_atom : (word : List ℕ) (name : Option (List ℕ)) → IsName word → OfSome IsName name
        → IsWrittenAtom (atom_of word name)
    written_atom word None h k = record { label = h; name = h }
    written_atom word (Some name) h k = record { label = h; name = k }

    pub atom_reading : IsReading fits atom IsWrittenAtom
    unfolding atom
    atom_reading = then_reading fits name_reading (λ word. then_reading fits (optional_reading fits (is_kind kind.Colon) (after_reading fits kind.Colon name_reading))
        (λ name. done_reading fits (atom_of word name) (λ k h. written_atom word name h k)))

    pair_reading : (first : Atom)
        → IsReading fits (pair first) (λ b. IsWrittenAtom first → IsWrittenBody b)
    unfolding pair
    pair_reading first = then_reading fits (table_reading fits op_of_word) (λ o. then_reading fits atom_reading
        (λ second. done_reading fits (bodies.Pair first o second) (λ k u h. All-cons IsWrittenAtom first (second ∷ []) h (All-cons IsWrittenAtom second [] k (All-nil IsWrittenAtom)))))

    exclusive_reading : (first : Atom)
        → IsReading fits (exclusive first) (λ b. IsWrittenAtom first → IsWrittenBody b)
    unfolding exclusive
    exclusive_reading first = after_reading fits kind.Unless (then_reading fits (table_reading fits xop_of_word) (λ x. then_reading fits atom_reading
        (λ second. done_reading fits (bodies.Unless first x second) (λ k u h. All-cons IsWrittenAtom first (second ∷ []) h (All-cons IsWrittenAtom second [] k (All-nil IsWrittenAtom))))))

    pub body_reading : IsReading fits rule_body IsWrittenBody
    unfolding rule_body
    body_reading = then_reading fits atom_reading (λ first. choose_reading fits ends_body
        (done_reading fits (bodies.One first) (λ h. All-cons IsWrittenAtom first [] h (All-nil IsWrittenAtom)))
        (choose_reading fits is_op (pair_reading first) (exclusive_reading first)))

    pub imports_reading : IsReading fits imports (λ names. Unit)
    unfolding imports
    imports_reading = after_reading fits kind.Import (then_reading fits (separated_reading fits kind.Comma name_reading)
        (λ names. after_reading fits kind.Semicolon (done_reading fits names (λ h. tt))))

    -- over a reader of expressions
    module _ (p : Parser Expr) (alone : IsReadingAlone fits p IsWrittenExpr) where
      pub clause_reading : (k : Sym) → IsReading fits (clause p k) IsWrittenExpr
      unfolding clause
      clause_reading k = after_reading fits k (alone_reading fits alone)

      pub entry_reading : IsReading fits (entry p) IsWrittenEntry
      unfolding entry
      entry_reading = then_reading fits name_reading (λ key. then_reading fits (clause_reading kind.Arrow)
          (λ value. done_reading fits (record { key = key; value = value }) (λ v k. record { key = k; value = v })))

      pub entries_reading : IsReading fits (entries p) (All IsWrittenEntry)
      unfolding entries
      entries_reading = after_reading fits kind.Map (then_reading fits
          (after_reading fits kind.OpenBrace (then_reading fits (optional_reading fits is_ident (separated_reading fits kind.Comma entry_reading))
          (λ found. after_reading fits kind.CloseBrace (done_reading fits found (λ h. h)))))
          (λ found. done_reading fits (unwrap_or found []) (λ h. written_list found h)))

      abbrev rule_rest : List ℕ → Parser Rule
      rule_rest head = after kind.Defines (and_then rule_body (λ body. and_then (optional (is_kind kind.Where) (clause p kind.Where)) (λ filter. and_then (optional (is_kind kind.Map) (entries p)) (λ mapped.
          and_then (optional (is_kind kind.Begin) (clause p kind.Begin)) (λ start. and_then (optional (is_kind kind.End) (clause p kind.End)) (λ stop. done (rule_of head body filter (unwrap_or mapped []) start stop)))))))

      rest_reading : (head : List ℕ)
          → IsReading fits (rule_rest head) (λ r. IsName head → IsGoodRule r)
      rest_reading head = after_reading fits kind.Defines (then_reading fits body_reading (λ body.
          then_reading fits (optional_reading fits (is_kind kind.Where) (clause_reading kind.Where)) (λ filter. then_reading fits (optional_reading fits (is_kind kind.Map) entries_reading) (λ mapped.
          then_reading fits (optional_reading fits (is_kind kind.Begin) (clause_reading kind.Begin)) (λ start. then_reading fits (optional_reading fits (is_kind kind.End) (clause_reading kind.End)) (λ stop.
          done_reading fits (rule_of head body filter (unwrap_or mapped []) start stop)
          (λ t s m f b h. written_rule head body filter (unwrap_or mapped []) start stop h b f (written_list mapped m) s t)))))))

      pub rule_reading : IsReading fits (rule p) IsGoodRule
      unfolding rule
      rule_reading = then_reading fits name_reading rest_reading

      pub rules_reading : IsReading fits (rules p) (All IsGoodRule)
      unfolding rules
      rules_reading = repeated_reading fits is_ident rule_reading

      abbrev module_rest : Parser Module
      module_rest = and_then (token kind.Ident) (λ name. enclosed kind.OpenBrace (and_then (optional (is_kind kind.Import) imports) (λ found. and_then (rules p) (λ rules.
          done (record { name = Some name; imports = unwrap_or found []; rules = rules })))) kind.CloseBrace)

      module_rest_reading : IsReading fits module_rest IsWrittenModule
      module_rest_reading = then_reading fits (token_reading fits kind.Ident) (λ name.
          after_reading fits kind.OpenBrace (then_reading fits (then_reading fits (optional_reading fits (is_kind kind.Import) imports_reading) (λ found. then_reading fits rules_reading
          (λ rules. done_reading fits (record { name = Some name; imports = unwrap_or found []; rules = rules }) (λ r i. r))))
          (λ m. after_reading fits kind.CloseBrace (done_reading fits m (λ r f. r)))))

      pub module_reading : IsReading fits (module_word p) IsWrittenModule
      unfolding module_word
      module_reading = after_reading fits kind.Module module_rest_reading

      -- an item of rules that can be written
      pub IsWrittenItem : Item → Type 0
      IsWrittenItem (loose r) = IsGoodRule r
      IsWrittenItem (named m) = IsWrittenModule m

      pub item_reading : IsReading fits (item p) IsWrittenItem
      unfolding item IsWrittenItem
      item_reading = choose_reading fits is_ident (then_reading fits rule_reading (λ r. done_reading fits (loose r) (λ h. h)))
          (then_reading fits module_reading (λ m. done_reading fits (named m) (λ h. h)))

      written_in_front : (rule : Rule) (modules : List Module) → IsGoodRule rule
          → All IsWrittenModule modules → All IsWrittenModule (in_front rule modules)
      written_in_front rule [] h k = All-cons IsWrittenModule (unnamed (rule ∷ [])) [] (All-cons IsGoodRule rule [] h (All-nil IsGoodRule)) (All-nil IsWrittenModule)
      written_in_front rule (m ∷ modules) h k = go m.name
        where
          go : (name : Option (List ℕ))
              → All IsWrittenModule (elim name [ None ↦ unnamed (rule ∷ m.rules) ∷ modules | Some n ↦ unnamed (rule ∷ []) ∷ m ∷ modules ])
          go None = All-cons IsWrittenModule (unnamed (rule ∷ m.rules)) modules (All-cons IsGoodRule rule m.rules h (All-head IsWrittenModule m modules k)) (All-tail IsWrittenModule m modules k)
          go (Some n) = All-cons IsWrittenModule (unnamed (rule ∷ [])) (m ∷ modules) (All-cons IsGoodRule rule [] h (All-nil IsGoodRule)) k

      written_modules : (items : List Item) → All IsWrittenItem items
          → All IsWrittenModule (modules_of items)
      unfolding modules_of IsWrittenItem
      written_modules [] h = All-nil IsWrittenModule
      written_modules (loose r ∷ items) h = written_in_front r (modules_of items) (All-head IsWrittenItem (loose r) items h) (written_modules items (All-tail IsWrittenItem (loose r) items h))
      written_modules (named m ∷ items) h = All-cons IsWrittenModule m (modules_of items) (All-head IsWrittenItem (named m) items h) (written_modules items (All-tail IsWrittenItem (named m) items h))

      pub file_reading : IsReading fits (file p) (All IsWrittenModule)
      unfolding file
      file_reading = then_reading fits (repeated_reading fits is_some item_reading) (λ items. done_reading fits (modules_of items) (λ h. written_modules items h))
