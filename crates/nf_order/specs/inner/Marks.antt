-- How far the search for levels has come: what has a level, and the path that it follows.
use Rattle.std.specs.Prelude.{◌≡◌, ◌≢◌, ℕ, suc, ◌+◌, ◌*◌, ◌<◌, ◌≤◌, nat_lt, Bool, true, false, List, length, map, slice_index_or, take, count_by, All, AllPairs, Contains, IsTrue}
use Rattle.nf_core.specs.Plan.{greatest}
use Rattle.nf_order.specs.Dependence.{Walk}
use Rattle.nf_order.specs.inner.Graph.{below_of, IsAbove}
use Rattle.nf_order.specs.declared.marks.Mark.{Mark}
use Rattle.nf_order.specs.declared.marks.Mark.TheVariants.{New, Open, Leveled, Stuck}
use Rattle.nf_order.specs.declared.leveling.Frame.{Frame}

-- the mark of a number
abbrev pub mark_of : List Mark → ℕ → Mark
mark_of marks n = slice_index_or marks n New

abbrev pub is_new : Mark → Bool
is_new New = true
is_new Open = false
is_new Stuck = false
is_new (Leveled level) = false

abbrev pub is_leveled : Mark → Bool
is_leveled New = false
is_leveled Open = false
is_leveled Stuck = false
is_leveled (Leveled level) = true

-- the level that a mark gives, and 0 where it gives none
abbrev pub level_in : Mark → ℕ
level_in New = 0
level_in Open = 0
level_in Stuck = 0
level_in (Leveled level) = level

-- whether the number has a level
abbrev pub HasLevel : List Mark → ℕ → Type 0
HasLevel marks n = IsTrue (is_leveled (mark_of marks n))

-- the level of a number, where it has one
abbrev pub level_at : List Mark → ℕ → ℕ
level_at marks n = level_in (mark_of marks n)

-- 0 where there are no numbers, else one more than their greatest level
abbrev pub level_over : List Mark → List ℕ → ℕ
level_over marks ns = greatest (map (λ m. suc (level_at marks m)) ns)

-- how many numbers have a level above 0
abbrev pub high : List Mark → ℕ
high marks = count_by (λ mark. nat_lt 0 (level_in mark)) marks

-- each number that has a level has it by the numbers below it, which have theirs; no level is above the number of those above 0
pub record AreMarks (below : List (List ℕ)) (marks : List Mark) : Type 0 where
  pub each : length marks ≡ length below
  pub leveled : (n : ℕ) → HasLevel marks n → All (HasLevel marks) (below_of below n)
  pub level : (n : ℕ) → HasLevel marks n → level_at marks n ≡ level_over marks (below_of below n)
  pub few : (n : ℕ) → level_at marks n ≤ high marks

-- the open numbers, each once, lead from one to the next
pub record IsPath (below : List (List ℕ)) (marks : List Mark) (path : List ℕ) : Type 0 where
  pub covers : (n : ℕ) → mark_of marks n ≡ Open → Contains path n
  pub all_open : All (λ n. mark_of marks n ≡ Open) path
  pub walks : AllPairs (λ a b. (a ≢ b) × Walk (IsAbove below) a b) path

-- of a number on the path the first numbers below it have their levels
abbrev pub IsFrame : List (List ℕ) → List Mark → Frame → Type 0
IsFrame below marks frame = (frame.next ≤ length (below_of below frame.number)) × All (HasLevel marks) (take frame.next (below_of below frame.number))

-- some number is on a cycle
abbrev pub HasCycle : List (List ℕ) → Type 0
HasCycle below = (n : ℕ) × Walk (IsAbove below) n n

-- the state of the search, with the path as a stack
pub record IsSearch (below : List (List ℕ)) (marks : List Mark) (stack : List Frame) : Type 0 where
  pub marks_hold : AreMarks below marks
  pub path : IsPath below marks (map (λ (frame : Frame). frame.number) stack)
  pub frames : All (IsFrame below marks) stack
  pub stuck : (n : ℕ) → mark_of marks n ≡ Stuck → HasCycle below

-- no number is open
abbrev pub IsAtRest : List Mark → Type 0
IsAtRest marks = (n : ℕ) → mark_of marks n ≢ Open

-- what isn't new stays so, and what has a level keeps one
pub record Keeps (old new : List Mark) : Type 0 where
  pub known : (n : ℕ) → mark_of old n ≢ New → mark_of new n ≢ New
  pub leveled : (n : ℕ) → HasLevel old n → HasLevel new n

-- what is left to do
abbrev pub left : List Mark → List Frame → ℕ
left marks stack = 2 * count_by is_new marks + length stack

-- every number has its level, or there is a cycle
pub record IsSettled (below : List (List ℕ)) (marks : List Mark) : Type 0 where
  pub marks_hold : AreMarks below marks
  pub rest : IsAtRest marks
  pub known : (n : ℕ) → n < length below → mark_of marks n ≢ New
  pub stuck : (n : ℕ) → mark_of marks n ≡ Stuck → HasCycle below
