-- The names and the literals of a C text.
use Rattle.std.specs.Prelude.{ℕ, ◌-◌, ℤ, pos, ◌≤ℤ◌, Bool, false, not, ◌&&◌, ◌||◌, ◌==◌, nat_le, List, [], ◌∷◌, drop, length, codes, bytes_eq}
use Rattle.std.specs.List.{list_any, list_all}
use Rattle.nf_core.specs.Texts.{int_greatest}
use Rattle.nf_core.specs.Identifiers.{is_digit}

-- `a` to `z`
abbrev pub is_small : ℕ → Bool
is_small byte = nat_le 97 byte && nat_le byte 122

-- `a` to `z`, and then `a` to `z`, digits and `_`
unfoldable pub has_small_form : List ℕ → Bool
has_small_form [] = false
has_small_form (byte ∷ bytes) = is_small byte && list_all (λ b. is_small b || is_digit b || b == 95) bytes

-- the keywords of C99
unfoldable pub c_keywords : List (List ℕ)
c_keywords = codes "auto" ∷ codes "break" ∷ codes "case" ∷ codes "char" ∷ codes "const" ∷ codes "continue" ∷ codes "default" ∷ codes "do" ∷ codes "double" ∷ codes "else" ∷ codes "enum" ∷ codes "extern"
    ∷ codes "float" ∷ codes "for" ∷ codes "goto" ∷ codes "if" ∷ codes "inline" ∷ codes "int" ∷ codes "long" ∷ codes "register" ∷ codes "restrict" ∷ codes "return" ∷ codes "short" ∷ codes "signed"
    ∷ codes "sizeof" ∷ codes "static" ∷ codes "struct" ∷ codes "switch" ∷ codes "typedef" ∷ codes "union" ∷ codes "unsigned" ∷ codes "void" ∷ codes "volatile" ∷ codes "while"
    ∷ codes "_Bool" ∷ codes "_Complex" ∷ codes "_Imaginary" ∷ []

-- a name's last two bytes are `_t`, as those of C's types are
unfoldable pub ends_as_type : List ℕ → Bool
ends_as_type name = bytes_eq (drop (length name - 2) name) (codes "_t")

-- an identifier of a C text: small letters, digits and `_` from a letter on; not `main`, no name that ends in `_t`, and no keyword of C99
unfoldable pub is_c_identifier : List ℕ → Bool
is_c_identifier name = has_small_form name && not (bytes_eq name (codes "main")) && not (ends_as_type name)
    && not (list_any (λ word. bytes_eq word name) c_keywords)

-- a literal's number: from 0 to 2^63 - 1
pub record IsLiteral (n : ℤ) : Type 0 where
  pub low : pos 0 ≤ℤ n
  pub high : n ≤ℤ int_greatest
