-- The first place at which sources pass a limit.
use Rattle.std.proofs.Common.{◌≡◌, ◌⊎◌, inl, inr, ℕ, zero, suc, ◌+◌, ◌<◌, ◌≤◌, List, [], ◌∷◌, ◌++◌, length, take, ap, subst, arith, append_assoc, append-nil}
use Rattle.std.proofs.lemmas.Bool.{cases_lt}
use Rattle.std.proofs.lemmas.List.{take_all}
use Rattle.std.proofs.Math.Seq.{take-append_seam, take-append-add}
use Rattle.nf_spec.specs.Sources.{total, IsPassedAt}
use Rattle.nf_spec.proofs.Public.TotalLemmas.{total_cons, total_more, total_first}

-- the first of some sources have no more bytes than more of them
pub total_fewer : (sources : List (List ℕ)) (few more : ℕ) → few ≤ more → total (take few sources) ≤ total (take more sources)
total_fewer sources zero more h = omega arith
total_fewer [] (suc few) more h = omega arith
total_fewer (source ∷ sources) (suc few) zero h = absurd (omega (arith, h))
total_fewer (source ∷ sources) (suc few) (suc more) h =
    omega (arith, total_cons source (take few sources), total_cons source (take more sources), total_fewer sources few more (omega arith))

-- where the first of some sources are within a limit, it is passed at none of them
pub not_passed_before : (limit : ℕ) (sources : List (List ℕ)) (n place : ℕ) → total (take n sources) ≤ limit → IsPassedAt limit sources place → n ≤ place
not_passed_before limit sources n place within passed = elim (cases_lt place n) [
  | inl low ↦ absurd (omega (arith, within, passed.past, total_fewer sources (place + 1) n (omega arith)))
  | inr h ↦ h
]

-- a limit is passed at one place at most
pub one_place : (limit : ℕ) (sources : List (List ℕ)) (a b : ℕ) → IsPassedAt limit sources a → IsPassedAt limit sources b → a ≡ b
one_place limit sources a b at other =
    omega (arith, not_passed_before limit sources a b at.before other, not_passed_before limit sources b a other.before at)

-- a limit is passed at the place of a source
pub passed_within : (limit : ℕ) (sources : List (List ℕ)) (place : ℕ) → IsPassedAt limit sources place → place < length sources
passed_within limit sources place passed = elim (cases_lt place (length sources)) [
  | inl low ↦ low
  | inr end ↦ absurd (omega (arith, passed.before, passed.past, ap total (take_all place sources end), ap total (take_all (place + 1) sources (omega arith))))
]

-- sources that pass a limit have more bytes together
pub passed_over : (limit : ℕ) (sources : List (List ℕ)) (place : ℕ) → IsPassedAt limit sources place → limit < total sources
passed_over limit sources place passed = omega (arith, passed.past, total_first sources (place + 1))

-- sources within a limit, and one with which it is passed
pub passed_here : (limit : ℕ) (before after : List (List ℕ)) (source : List ℕ) → total before ≤ limit → limit < total before + length source → IsPassedAt limit (before ++ source ∷ after) (length before)
passed_here limit before after source within over = record {
  before = omega (arith, within, ap total (take-append_seam before (source ∷ after)));
  past = omega (arith, over, ap total (take-append-add before (source ∷ after) 1), total_more before source);
}

-- sources pass a limit at some place, or have at most so many bytes together
pub passed_or_within : (limit : ℕ) (sources : List (List ℕ)) → ((place : ℕ) × IsPassedAt limit sources place) ⊎ (total sources ≤ limit)
passed_or_within limit sources = from [] sources (omega arith)
  where
    from : (before after : List (List ℕ)) → total before ≤ limit → ((place : ℕ) × IsPassedAt limit (before ++ after) place) ⊎ (total (before ++ after) ≤ limit)
    from before [] within = inr (omega (arith, within, ap total (append-nil before)))
    from before (source ∷ after) within = elim (cases_lt limit (total before + length source)) [
      | inl over ↦ inl (length before, passed_here limit before after source within over)
      | inr fits ↦ subst (λ all. ((place : ℕ) × IsPassedAt limit all place) ⊎ (total all ≤ limit)) (append_assoc before (source ∷ []) after)
          (from (before ++ source ∷ []) after (omega (arith, fits, total_more before source)))
    ]
