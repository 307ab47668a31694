-- The text of a program: one statement a line, two spaces a level, and an empty line before each function.
use Rattle.std.specs.Prelude.{ℕ, ℤ, Bool, List, [], ◌∷◌, ◌++◌, map, flat_map, codes, decimal, Option, Some, None, if◌then◌else◌}
use Rattle.hex.specs.Hex.{encode_lower}
use Rattle.nf_cast.specs.declared.expressions.CExpr.{CExpr}
use Rattle.nf_cast.specs.declared.expressions.CRight.{CRight}
use Rattle.nf_cast.specs.declared.expressions.CRight.TheVariants as right
use Rattle.nf_cast.specs.declared.expressions.CBound.{CBound}
use Rattle.nf_cast.specs.declared.expressions.CBound.TheVariants as bound
use Rattle.nf_cast.specs.declared.statements.CStmt.{CStmt, CStmt-F, fold-CStmt}
use Rattle.nf_cast.specs.declared.statements.CStmt.TheOpen as s
use Rattle.nf_cast.specs.declared.statements.CBlock.{CBlock, CBlock-F, fold-CBlock}
use Rattle.nf_cast.specs.declared.objects.CItem.{CItem}
use Rattle.nf_cast.specs.declared.objects.CItem.TheVariants as item
use Rattle.nf_cast.specs.declared.objects.CObject.{CObject}
use Rattle.nf_cast.specs.declared.objects.CForm.{CForm}
use Rattle.nf_cast.specs.declared.objects.CForm.TheVariants as form
use Rattle.nf_cast.specs.declared.objects.CFunc.{CFunc}
use Rattle.nf_cast.specs.declared.manifests.CName.{CName}
use Rattle.nf_cast.specs.declared.manifests.CManifest.{CManifest}
use Rattle.nf_cast.specs.Written.{written, literal_text}

-- each text after `, `
abbrev pub others_text : List (List ℕ) → List ℕ
others_text others = flat_map (λ text. codes ", " ++ text) others

-- texts with `, ` between them
unfoldable pub listed : List (List ℕ) → List ℕ
listed [] = []
listed (first ∷ others) = first ++ others_text others

-- the text of an expression
abbrev pub expression_text : CExpr → List ℕ
expression_text a = (written a).text

-- a call is `f(a, b)`
abbrev pub call_text : List ℕ → List CExpr → List ℕ
call_text f arguments = f ++ codes "(" ++ listed (map expression_text arguments) ++ codes ")"

-- what stands to the right of `=`
unfoldable pub right_text : CRight → List ℕ
right_text (right.Call f arguments) = call_text f arguments
right_text (right.Value a) = expression_text a

-- what a loop goes up to
unfoldable pub bound_text : CBound → List ℕ
bound_text (bound.Lit n) = literal_text n
bound_text (bound.Name x) = x

-- a text by its margin, the spaces before each of its lines
abbrev pub Layout : Type 0
Layout = List ℕ → List ℕ

-- what a constant's declaration begins with
abbrev pub const_text : Bool → List ℕ
const_text constant = if constant then codes "const " else []

-- the header of a loop up to its bound
unfoldable pub header_start : List ℕ → List ℕ
header_start x = codes "for (int64_t " ++ x ++ codes " = INT64_C(0); " ++ x ++ codes " < "

-- a name plus one, and the end of a loop's header
unfoldable pub header_end : List ℕ → List ℕ
header_end x = x ++ codes " + INT64_C(1)) "

-- the header of a loop behind its bound
unfoldable pub header_step : List ℕ → List ℕ
header_step x = codes "; " ++ x ++ codes " = " ++ header_end x

-- the header of a loop counts a name from 0 up to a bound
abbrev pub header_text : List ℕ → CBound → List ℕ
header_text x b = header_start x ++ bound_text b ++ header_step x

-- a block behind `else`, where there is one
unfoldable pub else_text : Option Layout → Layout
else_text None margin = []
else_text (Some block) margin = codes " else " ++ block margin

-- what `return` gives, where it gives something
unfoldable pub return_text : Option CExpr → List ℕ
return_text None = codes "return;"
return_text (Some a) = codes "return " ++ expression_text a ++ codes ";"

-- a statement without its margin and the end of its line, given the texts of its blocks
abbrev pub stmt_layer : CStmt-F Layout Layout → Layout
stmt_layer (s.Local constant x r) margin = const_text constant ++ codes "int64_t " ++ x ++ codes " = " ++ right_text r ++ codes ";"
stmt_layer (s.Assign x r) margin = x ++ codes " = " ++ right_text r ++ codes ";"
stmt_layer (s.Store x i a) margin = x ++ codes "[" ++ expression_text i ++ codes "] = " ++ expression_text a ++ codes ";"
stmt_layer (s.Call f arguments) margin = call_text f arguments ++ codes ";"
stmt_layer (s.If c a b) margin = codes "if (" ++ expression_text c ++ codes ") " ++ a margin ++ else_text b margin
stmt_layer (s.For x b body) margin = header_text x b ++ body margin
stmt_layer (s.Return a) margin = return_text a

-- two more spaces
abbrev pub deeper : List ℕ → List ℕ
deeper margin = margin ++ codes "  "

-- a statement on its line
abbrev pub line_of : List ℕ → Layout → List ℕ
line_of margin stmt = margin ++ stmt margin ++ codes "\n"

-- a block: `{`, its statements line by line with a deeper margin, and `}` at the margin
abbrev pub block_layer : CBlock-F Layout Layout → Layout
block_layer block margin = codes "{\n" ++ flat_map (line_of (deeper margin)) block.stmts ++ margin ++ codes "}"

-- the text of a statement
unfoldable pub stmt_text : CStmt → Layout
stmt_text = fold-CStmt Layout Layout stmt_layer block_layer

-- the text of a block
unfoldable pub block_text : CBlock → Layout
block_text = fold-CBlock Layout Layout stmt_layer block_layer

-- the number of an array's cells stands in brackets
unfoldable pub cells_text : Option ℤ → List ℕ
cells_text None = []
cells_text (Some n) = codes "[" ++ literal_text n ++ codes "]"

-- what an object's declaration begins with
unfoldable pub object_start : List ℕ
object_start = codes "static int64_t "

-- an object is `static int64_t x;` or `static int64_t x[n];`
abbrev pub object_text : CObject → List ℕ
object_text o = object_start ++ o.name ++ cells_text o.cells ++ codes ";\n"

-- what stands before the name of a function
unfoldable pub form_text : CForm → List ℕ
form_text form.StaticVoid = codes "static void "
form_text form.StaticInt = codes "static int64_t "
form_text form.Int = codes "int64_t "

-- the parameters of a function, and `void` where it has none
unfoldable pub params_text : List (List ℕ) → List ℕ
params_text [] = codes "void"
params_text (first ∷ others) = listed (map (λ x. codes "int64_t " ++ x) (first ∷ others))

-- a function, after an empty line
abbrev pub func_text : CFunc → List ℕ
func_text f = codes "\n" ++ form_text f.form ++ f.name ++ codes "(" ++ params_text f.params ++ codes ") " ++ block_text f.body [] ++ codes "\n"

-- an object or a function
unfoldable pub item_text : CItem → List ℕ
item_text (item.Object o) = object_text o
item_text (item.Func f) = func_text f

-- a name's line: `name` or `head`, the name, and its keys
abbrev pub name_line : CName → List ℕ
name_line n = (if n.is_head then codes "head " else codes "name ") ++ n.name ++ flat_map (λ key. codes " " ++ key) n.keys ++ codes "\n"

-- a text's line has its bytes in hexadecimal
abbrev pub text_line : List ℕ → List ℕ
text_line text = codes "text x" ++ encode_lower text ++ codes "\n"

-- a manifest is a comment: its version, then its names, then its texts
abbrev pub manifest_text : CManifest → List ℕ
manifest_text m = codes "/*nfer " ++ decimal m.version ++ codes "\n" ++ flat_map name_line m.names ++ flat_map text_line m.texts ++ codes "*/\n"

-- the include line
unfoldable pub include_text : List ℕ
include_text = codes "#include <stdint.h>\n"

-- the declaration of `nf_emit`
unfoldable pub proto_text : List ℕ
proto_text = codes "void nf_emit(int64_t sign, int64_t name, int64_t begin, int64_t end);\n"

-- the text of a program of this manifest and these objects and functions
unfoldable pub c_text : CManifest → List CItem → List ℕ
c_text manifest items = manifest_text manifest ++ include_text ++ proto_text ++ flat_map item_text items
