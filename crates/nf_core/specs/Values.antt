-- Values: truth values, whole numbers and texts, and their order.
use Rattle.std.specs.Prelude.{ℕ, ℤ, Bool, false, List, [], pos, ◌≡◌, refl}
use Rattle.std.specs.declared.cmp.Ordering.{Ordering}
use Rattle.std.specs.declared.cmp.Ordering.TheVariants.{Less, Greater}
use Rattle.std.specs.Ordering.{nat_cmp, int_cmp, bool_cmp, then_cmp, on}
use Rattle.std.specs.Cmp.{IsTotalOrder, then_total, on_total, nat_cmp_total, int_cmp_total, bool_cmp_total}
use Rattle.std.specs.Cmp.Lexicographic.{nat_list_cmp_total}
use Rattle.std.proofs.Common.{subst, rules}
use Rattle.nf_core.specs.Texts.{text_cmp}
use Rattle.nf_core.specs.declared.values.Value as value
use Rattle.nf_core.specs.declared.values.Value.TheVariants as variant

-- truth values come first, false before true, then whole numbers by size, then texts by their bytes
abbrev pub value_cmp : value.Value → value.Value → Ordering
value_cmp (variant.Bool a) (variant.Bool b) = bool_cmp a b
value_cmp (variant.Bool a) (variant.Int n) = Less
value_cmp (variant.Bool a) (variant.Text t) = Less
value_cmp (variant.Int n) (variant.Bool b) = Greater
value_cmp (variant.Int m) (variant.Int n) = int_cmp m n
value_cmp (variant.Int n) (variant.Text t) = Less
value_cmp (variant.Text s) (variant.Bool b) = Greater
value_cmp (variant.Text s) (variant.Int n) = Greater
value_cmp (variant.Text s) (variant.Text t) = text_cmp s t

kind_of : value.Value → ℕ
kind_of (variant.Bool b) = 0
kind_of (variant.Int n) = 1
kind_of (variant.Text t) = 2

bool_of : value.Value → Bool
bool_of (variant.Bool b) = b
bool_of (variant.Int n) = false
bool_of (variant.Text t) = false

int_of : value.Value → ℤ
int_of (variant.Bool b) = pos 0
int_of (variant.Int n) = n
int_of (variant.Text t) = pos 0

bytes_of : value.Value → List ℕ
bytes_of (variant.Bool b) = []
bytes_of (variant.Int n) = []
bytes_of (variant.Text t) = t

-- by kind, and then by what is of that kind
by_parts : value.Value → value.Value → Ordering
by_parts = then_cmp (on kind_of nat_cmp) (then_cmp (on bool_of bool_cmp) (then_cmp (on int_of int_cmp) (on bytes_of text_cmp)))

by_parts_total : IsTotalOrder by_parts
unfolding by_parts
by_parts_total = then_total (on_total kind_of nat_cmp_total) (then_total (on_total bool_of bool_cmp_total)
    (then_total (on_total int_of int_cmp_total) (on_total bytes_of nat_list_cmp_total)))

by_parts_is : (a b : value.Value) → by_parts a b ≡ value_cmp a b
unfolding by_parts kind_of bool_of int_of bytes_of
by_parts_is (variant.Bool a) (variant.Bool b) = search rules
by_parts_is (variant.Bool a) (variant.Int n) = refl
by_parts_is (variant.Bool a) (variant.Text t) = refl
by_parts_is (variant.Int n) (variant.Bool b) = refl
by_parts_is (variant.Int m) (variant.Int n) = search rules
by_parts_is (variant.Int n) (variant.Text t) = refl
by_parts_is (variant.Text s) (variant.Bool b) = refl
by_parts_is (variant.Text s) (variant.Int n) = refl
by_parts_is (variant.Text s) (variant.Text t) = refl

pub value_cmp_total : IsTotalOrder value_cmp
value_cmp_total = subst IsTotalOrder (λ i a b. by_parts_is a b i) by_parts_total
