-- What a step leaves when no rule is due: what is kept is that of the new inputs, and the deltas of heads are the change.
use Rattle.std.proofs.Common.{◌≡◌, ℕ, suc, ◌+◌, ◌<◌, Bool, true, false, cond, nat_lt, List, [], ◌∷◌, length, refl, ap, sym, subst, ◌∙◌, arith}
use Rattle.std.proofs.lemmas.List.FromFn.{get_or-map-range_with_len, length-map-range_with_len}
use Rattle.nf_core.specs.Intervals.{Interval}
use Rattle.nf_core.specs.Sets.{IsSet, has}
use Rattle.nf_core.specs.Plan.{Plan, level_of}
use Rattle.nf_model.specs.Changes.{change_over, delta_of}
use Rattle.nf_model.specs.Levels.{Pools}
use Rattle.nf_model.specs.Pools.{Inputs, of_name, results_over}
use Rattle.nf_minimal.specs.Minimals.{Minimal, candidates_of}
use Rattle.nf_tally.specs.Numbers.{number}
use Rattle.nf_engine.specs.declared.queues.Due.{Due}
use Rattle.nf_engine.specs.declared.rounds.Round.{Round}
use Rattle.nf_engine.specs.inner.Deltas.{delta_at, change_of_heads}
use Rattle.nf_engine.specs.inner.Engines.{input_of, inputs_of, AreKept}
use Rattle.nf_engine.specs.inner.Numbered.{one_if}
use Rattle.nf_engine.specs.inner.Parts.{IsPartOf}
use Rattle.nf_engine.specs.inner.Queues.{is_due}
use Rattle.nf_engine.specs.inner.Rounds.{Passage, IsPassage, old_pools, new_pools, minimal_at, held_in, part_at, known_to, found}
use Rattle.nf_engine.specs.inner.Running.{IsEnded}
use Rattle.nf_engine.proofs.EnterLemmas.{all_are_pools}
use Rattle.nf_engine.proofs.SettledLemmas.{found_alike, known_held}
use Rattle.nf_engine.proofs.StartLemmas.{inputs_are, heads_changed}

module _ (plan : Plan) (passage : Passage) (is : IsPassage plan passage) (round : Round) (ended : IsEnded plan passage round) where
  known : (k : ℕ) → known_to plan passage round.names.items round.queue k ≡ held_in round.names.items
  known k = known_held plan passage round.names.items round.queue k (ap (λ (queue : List Due). is_due queue k) ended.nothing_due)

  pub ended_kept : AreKept plan passage.full passage.now round.names.items round.rules.items
  ended_kept = record {
    each_name = ended.between.each_name;
    each_rule = ended.between.each_rule;
    all = ended.between.full;
    sources = λ n within q.
        let counted = ended.between.sources n within q in
        let same : found plan (known_to plan passage round.names.items round.queue) n q ≡ found plan (λ k. held_in round.names.items) n q =
        found_alike plan (known_to plan passage round.names.items round.queue) (λ k. held_in round.names.items) n q (λ k rule at of_n. ap (λ (P : Pools). results_over P rule) (known k)) in
        omega (arith, counted, same);
    parts = λ k rule at. subst (λ (P : Pools). IsPartOf rule P (part_at round.rules.items k)) (known k) (ended.between.parts k rule at);
  }

  -- each name holds its new pool
  pub ended_pools : (n : ℕ) → n < length plan.names → held_in round.names.items n ≡ new_pools plan passage n
  ended_pools = all_are_pools plan passage ended.frontier round is ended.between ended.nothing_due

  -- the change of the heads
  pub ended_change : change_of_heads plan (delta_at round.changed) ≡ change_over plan (old_pools plan passage) (new_pools plan passage)
  ended_change =
      heads_changed plan (old_pools plan passage) (new_pools plan passage) (delta_at round.changed)
      (λ n within. ended.between.deltas n within ∙ ap (λ (js : List Interval). delta_of (old_pools plan passage n) js) (ended_pools n within))

-- lists with the same items are one
same_lists : (xs ys : Inputs) → length xs ≡ length ys → ((n : ℕ) → n < length xs → of_name xs n ≡ of_name ys n) → xs ≡ ys
same_lists [] [] len alike = refl
same_lists [] (y ∷ ys) len alike = absurd cc
same_lists (x ∷ xs) [] len alike = absurd cc
same_lists (x ∷ xs) (y ∷ ys) len alike =
    let first : x ≡ y = alike 0 (omega arith) in
    let rest : xs ≡ ys = same_lists xs ys (omega (arith, len)) (λ n within. alike (suc n) (omega (arith, within))) in
    cc

-- the inputs of names with rules are their sets, and those of names without rules their candidates
pub inputs_kept : (plan : Plan) (passage : Passage) (is : IsPassage plan passage) (entered : Inputs) (names : List Minimal) → length passage.now ≡ length plan.names
    → ((n : ℕ) → IsSet (of_name passage.now n))
    → ((n : ℕ) → n < length plan.names → (q : Interval) → number (minimal_at names n).sources q ≡ one_if (has (of_name passage.now n) q) + found plan (λ k. held_in names) n q)
    → ((n : ℕ) → n < length plan.names → nat_lt 0 (level_of plan n) ≡ true → of_name entered n ≡ of_name passage.now n)
    → inputs_of plan entered names ≡ passage.now
inputs_kept plan passage is entered names each sorted sources sets =
    same_lists (inputs_of plan entered names) passage.now (length-map-range_with_len (input_of plan entered names) 0 (length plan.names) ∙ sym each)
    (λ n within.
    let inside : n < length plan.names = subst (λ (m : ℕ). n < m) (length-map-range_with_len (input_of plan entered names) 0 (length plan.names)) within in
    get_or-map-range_with_len (input_of plan entered names) 0 (length plan.names) n n [] inside (omega arith) ∙ by n inside (nat_lt 0 (level_of plan n)) refl)
  where
    by : (n : ℕ) → n < length plan.names → (b : Bool) → nat_lt 0 (level_of plan n) ≡ b → input_of plan entered names n ≡ of_name passage.now n
    by n inside true e = ap (λ b. cond b (of_name entered n) (candidates_of (minimal_at names n))) e ∙ sets n inside e
    by n inside false e =
        ap (λ b. cond b (of_name entered n) (candidates_of (minimal_at names n))) e
        ∙ inputs_are plan passage.now names n is.lower (sorted n) (sources n inside) e
