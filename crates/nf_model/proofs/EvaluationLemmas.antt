-- How an evaluation comes from level to level.
use Rattle.std.proofs.Common.{◌≡◌, ◌≢◌, ℕ, ◌+◌, ◌<◌, ◌==◌, Bool, List, [], length, slice_set, ap, sym, ◌∙◌, subst, arith, inl, inr, if◌then◌else◌}
use Rattle.std.proofs.lemmas.List.{length-set, get_or-set_same, get_or-set_other}
use Rattle.std.proofs.lemmas.Bool.Decides.{eqb_tells}
use Rattle.nf_core.specs.Intervals.{Interval}
use Rattle.nf_core.specs.Plan.{Plan, IsPlan, level_of}
use Rattle.nf_model.specs.Members.{AreOfKeys}
use Rattle.nf_model.specs.Pools.{Inputs, of_name, held_over, holds_all, pool}
use Rattle.nf_model.specs.inner.Known.{AreKnownUpTo}
use Rattle.nf_model.proofs.Public.PoolLemmas.{reads_below}
use Rattle.nf_model.proofs.Public.LevelLemmas.{step-is_by_levels}
use Rattle.nf_model.proofs.Public.CellLemmas.{candidates_cells, set_cells}

module _ (plan : Plan) (full : Bool) (inputs : Inputs) where
  -- a name of the level is settled, or it is of another level and its list stays
  settled_here : (level name : ℕ) (lists : Inputs) → IsPlan plan → AreOfKeys plan inputs → name < length plan.names → AreKnownUpTo plan full inputs level name lists
      → level_of plan name ≡ level → AreKnownUpTo plan full inputs level (name + 1) (slice_set lists name (held_over plan full inputs (of_name lists) name))
  settled_here level name lists valid rows within known is_level =
      let inside : name < length lists = subst (λ (k : ℕ). name < k) (sym known.each) within in
      let new : List Interval = held_over plan full inputs (of_name lists) name in
      let is_pool : new ≡ pool plan full inputs name =
      step-is_by_levels plan (held_over plan full inputs) (reads_below plan full inputs valid) (of_name lists) name within
      (λ m below. known.below m below.name (subst (λ (n : ℕ). level_of plan m < n) is_level below.level)) in
      let other : (n : ℕ) → n ≢ name → of_name (slice_set lists name new) n ≡ of_name lists n = λ n apart. get_or-set_other lists name n new [] apart in
      let at : (n : ℕ) → n ≡ name → of_name (slice_set lists name new) n ≡ pool plan full inputs n =
      λ n is. subst (λ (m : ℕ). of_name (slice_set lists name new) m ≡ pool plan full inputs m) (sym is)
      (get_or-set_same lists name new [] inside ∙ is_pool) in
      record {
        each = length-set lists name new ∙ known.each;
        rows = set_cells plan lists name new inside known.rows (candidates_cells plan (holds_all plan full name) inputs (of_name lists) name valid rows);
        below = λ n named lower. other n (λ is. let e : level_of plan n ≡ level = ap (level_of plan) is ∙ is_level in absurd (omega arith)) ∙ known.below n named lower;
        here = λ n named before of_level.
            elim (eqb_tells n name) [
              | inl is ↦ at n is.1
              | inr apart ↦ other n apart.1 ∙ known.here n named (let e : n ≢ name = apart.1 in omega arith) of_level
            ];
      }

  settled_else : (level name : ℕ) (lists : Inputs) → AreKnownUpTo plan full inputs level name lists
      → level_of plan name ≢ level → AreKnownUpTo plan full inputs level (name + 1) lists
  settled_else level name lists known other_level = record {
    each = known.each;
    rows = known.rows;
    below = known.below;
    here = λ n named before of_level.
        known.here n named
        (elim (eqb_tells n name) [
          | inl is ↦ absurd (other_level (ap (level_of plan) (sym is.1) ∙ of_level))
          | inr apart ↦ let e : n ≢ name = apart.1 in omega arith
        ]) of_level;
  }

  pub settled : (level name : ℕ) (lists sets : Inputs) → IsPlan plan → AreOfKeys plan inputs → name < length plan.names → AreKnownUpTo plan full inputs level name lists
      → sets ≡ (if level_of plan name == level then slice_set lists name (held_over plan full inputs (of_name lists) name) else lists)
      → AreKnownUpTo plan full inputs level (name + 1) sets
  settled level name lists sets valid rows within known is =
      let P : Inputs → Type 0 = λ ls. AreKnownUpTo plan full inputs level (name + 1) ls in
      elim (eqb_tells (level_of plan name) level) [
        | inl here ↦ subst P (sym (is ∙ ap (λ (b : Bool). if b then slice_set lists name (held_over plan full inputs (of_name lists) name) else lists) here.0)) (settled_here level name lists valid rows within known here.1)
        | inr apart ↦ subst P (sym (is ∙ ap (λ (b : Bool). if b then slice_set lists name (held_over plan full inputs (of_name lists) name) else lists) apart.0)) (settled_else level name lists known apart.1)
      ]
