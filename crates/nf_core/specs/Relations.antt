-- The two tables of relations, over the begin and end of a first interval (s1, e1) and of a second one (s2, e2).
use Rattle.std.specs.Prelude.{ℤ, Bool, ◌&&◌, int_lt, int_le, if◌then◌else◌}
use Rattle.std.specs.Ordering.{int_eq}
use Rattle.nf_core.specs.declared.operators.Op.{Op}
use Rattle.nf_core.specs.declared.operators.Op.TheVariants.{Before, Meet, During, Coincide, Start, Finish, Overlap, Slice}
use Rattle.nf_core.specs.declared.operators.Xop.{Xop}
use Rattle.nf_core.specs.declared.operators.Xop.TheVariants.{After, Follow, Contain}

-- the smaller and the greater of two whole numbers
abbrev pub int_min : ℤ → ℤ → ℤ
int_min m n = if int_le m n then m else n

abbrev pub int_max : ℤ → ℤ → ℤ
int_max m n = if int_le m n then n else m

module _ (s1 e1 s2 e2 : ℤ) where
  -- the condition of an inclusive operator
  unfoldable pub holds : Op → Bool
  holds Before = int_lt e1 s2
  holds Meet = int_eq e1 s2
  holds During = int_le s2 s1 && int_le e1 e2
  holds Coincide = int_eq s1 s2 && int_eq e1 e2
  holds Start = int_eq s1 s2
  holds Finish = int_eq e1 e2
  holds Overlap = int_lt s1 e2 && int_lt s2 e1
  holds Slice = int_lt s1 e2 && int_lt s2 e1

  -- where the result of an inclusive operator begins and ends
  unfoldable pub span : Op → ℤ × ℤ
  span Before = (s1, e2)
  span Meet = (s1, e2)
  span During = (s2, e2)
  span Coincide = (s1, e1)
  span Start = (s1, int_max e1 e2)
  span Finish = (int_min s1 s2, e1)
  span Overlap = (int_min s1 s2, int_max e1 e2)
  span Slice = (int_max s1 s2, int_min e1 e2)

  -- where the second interval blocks the first one
  unfoldable pub blocks : Xop → Bool
  blocks After = int_lt e2 s1
  blocks Follow = int_eq e2 s1
  blocks Contain = int_le s1 s2 && int_le e2 e1
