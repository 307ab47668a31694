-- The parts of a clause, by the node at its top.
use Rattle.std.proofs.Common.{append-nil, append_assoc, ◌≡◌, ◌≢◌, List, [], ◌∷◌, ◌++◌, flat_map, refl, sym, ap, subst, ◌∙◌}
use Rattle.std.proofs.lemmas.Grind.{flat_map-append}
use Rattle.std.specs.Prelude.{option_to_list}
use Rattle.nf_core.specs.declared.operators.BinOp.{BinOp}
use Rattle.nf_core.specs.declared.operators.BinOp.TheVariants as op
use Rattle.nf_core.specs.declared.terms.Term.{Term, Term-F, fold-Term, fold-roll-Term, map-Term, roll-Term, ind-Term, out-Term, fold_out-Term}
use Rattle.nf_core.specs.declared.terms.Term.TheOpen as node
use Rattle.nf_core.specs.declared.terms.Term.TheVariants as v
use Rattle.nf_demands.specs.declared.clauses.Demand.{Demand}
use Rattle.nf_demands.specs.Demands.{Divided, divided_at_node, parts_of, demand_of, demands_of}
use Rattle.nf_demands.specs.inner.Collected.{demands_at}

divided : Term → Divided
divided = fold-Term Divided divided_at_node

divided_rolled : (n : Term-F Term) → divided (roll-Term n) ≡ divided_at_node (map-Term Term Divided divided n)
unfolding divided
divided_rolled n = fold-roll-Term Divided divided_at_node n

abbrev IsWhole : Term → Type 0
IsWhole t = (divided t).whole ≡ t

both : (o : BinOp) (a b : Term) (x y : Term) → a ≡ x → b ≡ y → roll-Term (node.Bin o a b) ≡ roll-Term (node.Bin o x y)
both o a b x y e f = cc

binary_whole : (o : BinOp) (a b : Divided) → (divided_at_node (node.Bin o a b)).whole ≡ roll-Term (node.Bin o a.whole b.whole)
unfolding divided_at_node
binary_whole op.And a b = refl
binary_whole op.Or a b = refl
binary_whole op.Eq a b = refl
binary_whole op.Ne a b = refl
binary_whole op.Lt a b = refl
binary_whole op.Le a b = refl
binary_whole op.Gt a b = refl
binary_whole op.Ge a b = refl
binary_whole op.Add a b = refl
binary_whole op.Sub a b = refl
binary_whole op.Mul a b = refl
binary_whole op.Div a b = refl
binary_whole op.Rem a b = refl

node_whole : (y : Term-F ((x : Term) × IsWhole x)) → IsWhole (roll-Term (map-Term ((x : Term) × IsWhole x) Term (λ e. e.0) y))
unfolding divided_at_node
node_whole (node.Bool b) = rw divided_rolled
node_whole (node.Int n) = rw divided_rolled
node_whole (node.Text t) = rw divided_rolled
node_whole (node.Start m) = rw divided_rolled
node_whole (node.Stop m) = rw divided_rolled
node_whole (node.Key m place) = rw divided_rolled
node_whole (node.Neg a) = rw divided_rolled (ap (λ x. roll-Term (node.Neg x)) a.1)
node_whole (node.Not a) = rw divided_rolled (ap (λ x. roll-Term (node.Not x)) a.1)
node_whole (node.Bin o a b) = rw (divided_rolled, binary_whole) (both o _ _ _ _ a.1 b.1)

is_whole : (t : Term) → IsWhole t
is_whole = ind-Term IsWhole (λ x y e. subst (λ n. IsWhole (roll-Term n)) e (node_whole y))

-- the parts of an expression with this node at its top
unfoldable pub parts_at : Term-F Term → Term → List Term
parts_at (node.Bin op.And a b) t = parts_of a ++ parts_of b
parts_at n t = t ∷ []

one : (t x : Term) → x ≡ t → x ∷ [] ≡ t ∷ []
one t x e = cc

binary_parts : (o : BinOp) (a b t : Term) → (divided_at_node (node.Bin o (divided a) (divided b))).whole ≡ t → (divided_at_node (node.Bin o (divided a) (divided b))).parts ≡ parts_at (node.Bin o a b) t
unfolding divided_at_node parts_at parts_of divided
binary_parts op.And a b t e = refl
binary_parts op.Or a b t e = one t _ e
binary_parts op.Eq a b t e = one t _ e
binary_parts op.Ne a b t e = one t _ e
binary_parts op.Lt a b t e = one t _ e
binary_parts op.Le a b t e = one t _ e
binary_parts op.Gt a b t e = one t _ e
binary_parts op.Ge a b t e = one t _ e
binary_parts op.Add a b t e = one t _ e
binary_parts op.Sub a b t e = one t _ e
binary_parts op.Mul a b t e = one t _ e
binary_parts op.Div a b t e = one t _ e
binary_parts op.Rem a b t e = one t _ e

node_parts : (n : Term-F Term) (t : Term) → (divided_at_node (map-Term Term Divided divided n)).whole ≡ t → (divided_at_node (map-Term Term Divided divided n)).parts ≡ parts_at n t
unfolding divided_at_node parts_at
node_parts (node.Bool b) t e = one t _ e
node_parts (node.Int n) t e = one t _ e
node_parts (node.Text text) t e = one t _ e
node_parts (node.Start m) t e = one t _ e
node_parts (node.Stop m) t e = one t _ e
node_parts (node.Key m place) t e = one t _ e
node_parts (node.Neg a) t e = one t _ e
node_parts (node.Not a) t e = one t _ e
node_parts (node.Bin o a b) t e = binary_parts o a b t e

divided_by_node : (t : Term) → divided t ≡ divided_at_node (map-Term Term Divided divided (out-Term t))
unfolding divided
divided_by_node t = fold_out-Term Divided divided_at_node t

pub parts_by_node : (t : Term) → parts_of t ≡ parts_at (out-Term t) t
unfolding parts_of divided
parts_by_node t =
    let e = divided_by_node t in
    ap (λ (d : Divided). d.parts) e ∙ node_parts (out-Term t) t (sym (ap (λ (d : Divided). d.whole) e) ∙ is_whole t)

abbrev of_part : Term → List Demand
of_part t = option_to_list (demand_of t)

alone_flat : (t : Term) → flat_map of_part (t ∷ []) ≡ of_part t
alone_flat t = append-nil (of_part t)

binary_demands : (o : BinOp) (a b t : Term) → flat_map of_part (parts_at (node.Bin o a b) t) ≡ demands_at (node.Bin o a b) t
unfolding parts_at demands_at demands_of
binary_demands op.And a b t = flat_map-append of_part (parts_of a) (parts_of b)
binary_demands op.Or a b t = alone_flat t
binary_demands op.Eq a b t = alone_flat t
binary_demands op.Ne a b t = alone_flat t
binary_demands op.Lt a b t = alone_flat t
binary_demands op.Le a b t = alone_flat t
binary_demands op.Gt a b t = alone_flat t
binary_demands op.Ge a b t = alone_flat t
binary_demands op.Add a b t = alone_flat t
binary_demands op.Sub a b t = alone_flat t
binary_demands op.Mul a b t = alone_flat t
binary_demands op.Div a b t = alone_flat t
binary_demands op.Rem a b t = alone_flat t

node_demands : (n : Term-F Term) (t : Term) → flat_map of_part (parts_at n t) ≡ demands_at n t
unfolding parts_at demands_at
node_demands (node.Bool b) t = alone_flat t
node_demands (node.Int n) t = alone_flat t
node_demands (node.Text text) t = alone_flat t
node_demands (node.Start m) t = alone_flat t
node_demands (node.Stop m) t = alone_flat t
node_demands (node.Key m place) t = alone_flat t
node_demands (node.Neg a) t = alone_flat t
node_demands (node.Not a) t = alone_flat t
node_demands (node.Bin o a b) t = binary_demands o a b t

pub demands_by_node : (t : Term) → demands_of t ≡ demands_at (out-Term t) t
unfolding demands_of
demands_by_node t = ap (flat_map of_part) (parts_by_node t) ∙ node_demands (out-Term t) t

pub rolled_parts : (n : Term-F Term) → parts_of (roll-Term n) ≡ parts_at n (roll-Term n)
unfolding parts_of divided
rolled_parts n =
    let e = divided_rolled n in
    ap (λ (d : Divided). d.parts) e ∙ node_parts n (roll-Term n) (sym (ap (λ (d : Divided). d.whole) e) ∙ is_whole (roll-Term n))

rolled_demands : (n : Term-F Term) → demands_of (roll-Term n) ≡ demands_at n (roll-Term n)
unfolding demands_of
rolled_demands n = ap (flat_map of_part) (rolled_parts n) ∙ node_demands n (roll-Term n)

and_demands : (a b : Term) → demands_of (v.Bin op.And a b) ≡ demands_of a ++ demands_of b
unfolding demands_at
and_demands a b = ap demands_of (sym (v.rolls-Bin op.And a b)) ∙ rolled_demands (node.Bin op.And a b)

-- the demands of both operands of `&` behind some others are those of the whole behind them
pub both_collected : (found middle after : List Demand) (o : BinOp) (a b t : Term) → t ≡ v.Bin o a b → o ≡ op.And → middle ≡ found ++ demands_of a → after ≡ middle ++ demands_of b → after ≡ found ++ demands_of t
both_collected found middle after o a b t is was first second =
    let whole : demands_of t ≡ demands_of a ++ demands_of b = ap demands_of (is ∙ ap (λ o. v.Bin o a b) was) ∙ and_demands a b in
    second ∙ ap (λ l. l ++ demands_of b) first ∙ append_assoc found (demands_of a) (demands_of b) ∙ ap (λ l. found ++ l) (sym whole)

of_other : (o : BinOp) (a b t : Term) → o ≢ op.And → demands_at (node.Bin o a b) t ≡ of_part t
unfolding demands_at
of_other op.And a b t h = absurd (h refl)
of_other op.Or a b t h = refl
of_other op.Eq a b t h = refl
of_other op.Ne a b t h = refl
of_other op.Lt a b t h = refl
of_other op.Le a b t h = refl
of_other op.Gt a b t h = refl
of_other op.Ge a b t h = refl
of_other op.Add a b t h = refl
of_other op.Sub a b t h = refl
of_other op.Mul a b t h = refl
of_other op.Div a b t h = refl
of_other op.Rem a b t h = refl

-- the demands of another operator are those of it as a part
pub other_demands : (o : BinOp) (a b t : Term) → t ≡ v.Bin o a b → o ≢ op.And → demands_of t ≡ option_to_list (demand_of t)
other_demands o a b t is h = subst (λ x. demands_of x ≡ of_part x) (v.rolls-Bin o a b ∙ sym is) (rolled_demands (node.Bin o a b) ∙ of_other o a b _ h)
