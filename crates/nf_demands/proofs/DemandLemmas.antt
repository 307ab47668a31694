-- Every demand of a clause is met by each pair that meets the clause.
use Rattle.std.proofs.Common.{◌≡◌, Bool, true, false, List, [], ◌∷◌, All, Option, Some, None, option_map, refl}
use Rattle.std.specs.Prelude.{option_to_list}
use Rattle.std.specs.Option.{option_or}
use Rattle.std.proofs.lemmas.List.Elements.{All-nil, All-cons, All-weaker}
use Rattle.nf_lemmas.proofs.ListLemmas.{All-flat_map}
use Rattle.nf_core.specs.Intervals.{Interval}
use Rattle.nf_core.specs.Expressions.{value_of}
use Rattle.nf_core.specs.declared.values.Value.TheVariants as v
use Rattle.nf_core.specs.declared.terms.Term.{Term}
use Rattle.nf_demands.specs.declared.clauses.Demand.{Demand}
use Rattle.nf_demands.specs.declared.clauses.Demand.TheVariants as d
use Rattle.nf_demands.specs.declared.keys.SameKeys.{SameKeys}
use Rattle.nf_demands.specs.declared.bounds.Bound.{Bound}
use Rattle.nf_demands.specs.Alone.{reads}
use Rattle.nf_demands.specs.Keys.{AreSameKeys, keys_of}
use Rattle.nf_demands.specs.Bounds.{IsBoundMet, bound_of}
use Rattle.nf_demands.specs.Demands.{IsMet, alone_where, alone_of, demand_of, demands_of, parts_of}
use Rattle.nf_demands.proofs.AloneLemmas.{true_of_first, true_of_second}
use Rattle.nf_demands.proofs.KeyLemmas.{keys_met}
use Rattle.nf_demands.proofs.BoundLemmas.{bound_met}
use Rattle.nf_demands.proofs.LawLemmas.{parts_true}

module _ (i j : Interval) where
  abbrev AreMet : List Demand → Type 0
  AreMet = All (IsMet i j)

  one_met : (x : Demand) → IsMet i j x → AreMet (x ∷ [])
  one_met x h = All-cons (IsMet i j) x [] h (All-nil (IsMet i j))

  keys_or : (o : Option SameKeys) (p : Option Demand) → ((k : SameKeys) → o ≡ Some k → AreSameKeys k i j) → AreMet (option_to_list p) → AreMet (option_to_list (option_or (option_map d.SameKeys o) p))
  keys_or None p h k = k
  keys_or (Some keys) p h k = one_met (d.SameKeys keys) (h keys refl)

  bound_or : (o : Option Bound) (p : Option Demand) → ((b : Bound) → o ≡ Some b → IsBoundMet b i j) → AreMet (option_to_list p) → AreMet (option_to_list (option_or (option_map d.Bound o) p))
  bound_or None p h k = k
  bound_or (Some bound) p h k = one_met (d.Bound bound) (h bound refl)

  alone_met : (t : Term) (first second : Bool) → reads 0 t ≡ first → reads 1 t ≡ second → value_of i (Some j) t ≡ Some (v.Bool true) → AreMet (option_to_list (alone_where first second t))
  alone_met t true false p q h = one_met (d.OfFirst t) (true_of_first t i (Some j) q h)
  alone_met t false true p q h = one_met (d.OfSecond t) (true_of_second t i j p h)
  alone_met t true true p q h = All-nil (IsMet i j)
  alone_met t false false p q h = All-nil (IsMet i j)

  part_met : (t : Term) → value_of i (Some j) t ≡ Some (v.Bool true) → AreMet (option_to_list (demand_of t))
  unfolding demand_of alone_of
  part_met t h =
      keys_or (keys_of t) _ (λ k e. keys_met i j t k e h) (bound_or (bound_of t) _ (λ b e. bound_met i j t b e h) (alone_met t _ _ refl refl h))

  pub demands_met : (t : Term) → value_of i (Some j) t ≡ Some (v.Bool true) → AreMet (demands_of t)
  unfolding demands_of
  demands_met t h =
      All-flat_map (IsMet i j) (λ part. option_to_list (demand_of part)) (parts_of t)
      (All-weaker (λ part. value_of i (Some j) part ≡ Some (v.Bool true)) (λ part. AreMet (option_to_list (demand_of part))) part_met (parts_of t) (parts_true i j t h))
