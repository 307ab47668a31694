-- The rules of `drill`, as trees, and the plan of them.
use Rattle.std.specs.Prelude.{◌≡◌, ℕ, pos, List, [], ◌∷◌, codes, None, Some}
use Rattle.nf_core.specs.Plan.{Plan}
use Rattle.nf_core.specs.Trees.{Rule, rule_from}
use Rattle.nf_core.specs.Written.{Levels, AreLevels, names_of, plan_of}
use Rattle.nf_core.specs.declared.operators.BinOp.TheVariants as operator
use Rattle.nf_core.specs.declared.operators.Op.TheVariants as op
use Rattle.nf_core.specs.declared.operators.Xop.TheVariants as xop
use Rattle.nf_core.specs.declared.trees.Atom.{Atom}
use Rattle.nf_core.specs.declared.trees.Body.{Body}
use Rattle.nf_core.specs.declared.trees.Body.TheVariants as body
use Rattle.nf_core.specs.declared.trees.Expr.TheVariants as expr
use Rattle.nf_order.specs.Dependence.{leveled_names}

-- an atom without a label of its own: its label is its name
abbrev pub atom_of : List ℕ → Atom
atom_of name = record { label = name; name = name }

-- a rule of a head and a body alone
abbrev pub plain : List ℕ → Body → Rule
plain head body = rule_from head body None [] None None

-- pair :- a coincide b map { k -> b.k }
abbrev pub pair_rule : Rule
pair_rule = rule_from (codes "pair") (body.Pair (atom_of (codes "a")) op.Coincide (atom_of (codes "b"))) None
    (record { key = codes "k"; value = expr.Key (codes "b") (codes "k") } ∷ []) None None

-- lone :- a unless contain c
abbrev pub lone_rule : Rule
lone_rule = plain (codes "lone") (body.Unless (atom_of (codes "a")) xop.Contain (atom_of (codes "c")))

-- reach :- a end a.begin + 4
abbrev pub reach_rule : Rule
reach_rule = rule_from (codes "reach") (body.One (atom_of (codes "a"))) None [] None
    (Some (expr.Bin operator.Add (expr.Start (codes "a")) (expr.Int (pos 4))))

-- hit :- d during reach
abbrev pub hit_in_reach_rule : Rule
hit_in_reach_rule = plain (codes "hit") (body.Pair (atom_of (codes "d")) op.During (atom_of (codes "reach")))

-- hit :- pair
abbrev pub hit_of_pair_rule : Rule
hit_of_pair_rule = plain (codes "hit") (body.One (atom_of (codes "pair")))

-- calm :- reach unless contain hit
abbrev pub calm_rule : Rule
calm_rule = plain (codes "calm") (body.Unless (atom_of (codes "reach")) xop.Contain (atom_of (codes "hit")))

-- the six rules, in this order
abbrev pub drill_rules : List Rule
drill_rules = pair_rule ∷ lone_rule ∷ reach_rule ∷ hit_in_reach_rule ∷ hit_of_pair_rule ∷ calm_rule ∷ []

-- the plan of these rules, by the levels of their names in the order of the names' numbers
pub record IsDrillPlan (plan : Plan) : Type 0 where
  pub levels : Levels
  pub leveled : AreLevels drill_rules levels
  pub named : leveled_names levels ≡ names_of drill_rules
  pub is : plan ≡ plan_of drill_rules levels
