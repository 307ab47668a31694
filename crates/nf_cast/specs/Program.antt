-- A program: a manifest, and objects and functions that can be written and keep the rules.
use Rattle.std.specs.Prelude.{◌≡◌, ℕ, ◌*◌, ◌^◌, ◌<◌, ◌≤◌, max, ◌==◌, List, [], ◌∷◌, ◌++◌, map, filter, fold, flat_map, length, None, option_to_list, All, IsTrue, if◌then◌else◌}
use Rattle.std.specs.List.{IsDistinct}
use Rattle.std.specs.List.Sorted.{IsStrictlySortedBy}
use Rattle.std.specs.Str.{is_utf8}
use Rattle.nf_core.specs.Texts.{text_cmp, text_eq, IsPlain}
use Rattle.nf_core.specs.Identifiers.{AreIdentifiers}
use Rattle.nf_cast.specs.declared.limits.TheConstants.{MOST_BLOCKS, MOST_OPEN, MOST_OPERATORS}
use Rattle.nf_cast.specs.declared.expressions.CExpr.{CExpr}
use Rattle.nf_cast.specs.declared.objects.CItem.{CItem}
use Rattle.nf_cast.specs.declared.objects.CItem.TheVariants as item
use Rattle.nf_cast.specs.declared.manifests.CName.{CName}
use Rattle.nf_cast.specs.declared.manifests.CManifest.{CManifest}
use Rattle.nf_cast.specs.Names.{is_c_identifier, IsLiteral}
use Rattle.nf_cast.specs.Contents.{Leaf, name, literal, leaves_of, Contents, contents_of_block}
use Rattle.nf_cast.specs.Written.{written}
use Rattle.nf_cast.specs.Placed.{bare_item}
use Rattle.nf_cast.specs.Book.{Needs}
use Rattle.nf_cast.specs.Rules.{breach_of}

-- a program: its manifest, and its objects and functions in the order of the text
pub record Program : Type 0 where
  pub manifest : CManifest
  pub items : List CItem

-- the program of these parts
abbrev pub program_from : CManifest → List CItem → Program
program_from manifest items = record { manifest = manifest; items = items }

-- a name of a manifest: it and its keys are identifiers of a specification, and the keys ascend by bytes, each once
pub record IsManifestName (n : CName) : Type 0 where
  pub identifiers : AreIdentifiers n.name n.keys
  pub ascending : IsStrictlySortedBy text_cmp n.keys

-- a text of a manifest is UTF-8, as every text is, and plain
pub record IsManifestText (text : List ℕ) : Type 0 where
  pub utf8 : IsTrue (is_utf8 text)
  pub plain : IsPlain text

-- the form of a manifest: version 1 or 2, fewer than 2^32 names that are distinct, and distinct texts
pub record IsManifest (m : CManifest) : Type 0 where
  pub first_version : 1 ≤ m.version
  pub last_version : m.version ≤ 2
  pub few : length m.names < 2 ^ 32
  pub names : All IsManifestName m.names
  pub distinct_names : IsDistinct text_eq (map (λ (n : CName). n.name) m.names)
  pub texts : All IsManifestText m.texts
  pub distinct_texts : IsDistinct text_eq m.texts

-- a name is an identifier, and a literal is a literal's number
unfoldable pub IsLeaf : Leaf → Type 0
IsLeaf (name x) = IsTrue (is_c_identifier x)
IsLeaf (literal n) = IsLiteral n

-- the names and literals of what a block is made of
abbrev pub all_leaves : Contents → List Leaf
all_leaves contents = contents.leaves ++ flat_map leaves_of contents.expressions

-- the names and literals of an object or a function
unfoldable pub leaves_of_item : CItem → List Leaf
leaves_of_item (item.Object o) = name o.name ∷ map literal (option_to_list o.cells)
leaves_of_item (item.Func f) = name f.name ∷ map name f.params ++ all_leaves (contents_of_block f.body)

-- all names and literals have their form
abbrev pub IsSpelled : List CItem → Type 0
IsSpelled items = All IsLeaf (flat_map leaves_of_item items)

-- the limits of an expression with its parentheses: at most 32 parentheses and brackets (`MOST_OPEN`) open at once, and at most 128 operators (`MOST_OPERATORS`)
pub record IsShort (a : CExpr) : Type 0 where
  pub few_open : (written a).nesting ≤ MOST_OPEN
  pub few_operators : (written a).operators ≤ MOST_OPERATORS

-- the limits of a function: at most 32 blocks (`MOST_BLOCKS`) open at once, its body counted, and those of its expressions
pub record IsWithinLimits (contents : Contents) : Type 0 where
  pub few_blocks : contents.blocks ≤ MOST_BLOCKS
  pub expressions : All IsShort contents.expressions

-- what the functions of a text are made of
unfoldable pub contents_of_item : CItem → List Contents
contents_of_item (item.Object o) = []
contents_of_item (item.Func f) = contents_of_block f.body ∷ []

-- the limits of objects and functions: those of each function
abbrev pub KeepsLimits : List CItem → Type 0
KeepsLimits items = All IsWithinLimits (flat_map contents_of_item items)

-- the heads among some names
abbrev pub heads_of : List CName → List CName
heads_of names = filter (λ (n : CName). n.is_head) names

-- the most keys of some names, and 0 of none
abbrev pub most_keys : List CName → ℕ
most_keys names = fold max 0 (map (λ (n : CName). length n.keys) names)

-- what a manifest asks of the text: `nf_event` has two parameters in version 1 and three in version 2, and each key has two cells in `nf_in` and, where its name is a head, in `nf_out`
unfoldable pub needs_of : CManifest → Needs
needs_of m = record {
  params = if m.version == 1 then 2 else 3;
  input = 2 * most_keys m.names;
  output = 2 * most_keys (heads_of m.names);
}

-- objects and functions keep the rules: none is broken, whatever the lines and the parentheses
abbrev pub KeepsRules : Needs → List CItem → Type 0
KeepsRules needs items = breach_of needs 0 (map bare_item items) ≡ None

-- what holds of every program
pub record IsProgram (p : Program) : Type 0 where
  pub manifest : IsManifest p.manifest
  pub spelled : IsSpelled p.items
  pub limits : KeepsLimits p.items
  pub rules : KeepsRules (needs_of p.manifest) p.items
