-- What a blocker weighs at the interval that it blocks, and over those that are walked.
use Rattle.std.proofs.Common.{◌≡◌, ℕ, ◌+◌, ◌≤◌, Bool, true, false, cond, not, ◌&&◌, List, [], ◌∷◌, All, Some, sum_by, refl, sym, ap, ◌∙◌, true≢false, arith}
use Rattle.std.proofs.lemmas.List.Elements.{All-nil, All-cons, All-weaker}
use Rattle.nf_core.specs.Intervals.{Interval, same}
use Rattle.nf_core.specs.Sets.{IsSet, has}
use Rattle.nf_core.specs.declared.terms.PlanRule.{PlanRule}
use Rattle.nf_core.proofs.Public.SameIntervalLemmas.{same_self, same_swapped}
use Rattle.nf_core.proofs.Public.SetLemmas.{has_filter, IsSet-filter}
use Rattle.nf_index.specs.declared.relations.Which.TheVariants.{First}
use Rattle.nf_model.specs.Changes.{lacking}
use Rattle.nf_model.specs.Results.{is_met}
use Rattle.nf_model.specs.Work.{present, values, clauses}
use Rattle.nf_pairs.specs.Partners.{ArePartners, is_related}
use Rattle.nf_pairs.specs.inner.Walks.{unskipped}
use Rattle.nf_pairs.proofs.Public.PartnerLemmas.{partners_sum}
use Rattle.nf_tally.specs.Numbers.{Numbers, one_at}
use Rattle.nf_exclude.specs.Exclusions.{IsExclusive, blocks_in}
use Rattle.nf_exclude.specs.inner.Turns.{faces_in, asked, blocked_at, blocked_one, Turned}
use Rattle.nf_exclude.specs.declared.turns.Turn.{Turn}
use Rattle.nf_exclude.proofs.TurnLemmas.{turned_member, turned_absent}
use Rattle.nf_exclude.proofs.RuleLemmas.{blocker_faces, blocker_counts}
use Rattle.nf_exclude.proofs.SumLemmas.{has_first, has_later, member_once}

-- each item of a list is in it
pub members : (is : List Interval) → All (λ i. has is i ≡ true) is
members [] = All-nil (λ i. has [] i ≡ true)
members (x ∷ xs) =
    All-cons (λ i. has (x ∷ xs) i ≡ true) x xs (has_first x xs)
    (All-weaker (λ i. has xs i ≡ true) (λ i. has (x ∷ xs) i ≡ true) (λ q h. has_later x xs q h) xs (members xs))

-- `where` alone is asked at most of a pair
pub asked_once : (rule : PlanRule) (i j : Interval) → cond (faces_in rule i j) (present rule.filter) 0 ≤ asked rule i j
asked_once rule i j = by (faces_in rule i j)
  where
    by : (b : Bool) → cond b (present rule.filter) 0 ≤ cond b (clauses rule) 0
    by true = omega arith
    by false = omega arith

module _ (rule : PlanRule) (skipped : List Interval) (j : Interval) where
  -- 1 at the interval itself
  pub blocked_here : (i : Interval) → has skipped i ≡ false → blocks_in rule i j ≡ true → blocked_at rule skipped j i i ≡ 1
  blocked_here i kept blocks =
      ap (λ b. cond (not b && blocks_in rule i j) (one_at i i) 0) kept ∙ ap (λ b. cond b (one_at i i) 0) blocks ∙ ap (λ b. cond b 1 0) (same_self i)

  -- and nothing at every other one
  pub blocked_alone : (i q : Interval) → same q i ≡ false → blocked_at rule skipped j i q ≡ 0
  blocked_alone i q other = ap (λ b. cond (not (has skipped i) && blocks_in rule i j) (cond b 1 0) 0) (same_swapped i q ∙ other) ∙ nothing (not (has skipped i) && blocks_in rule i j)
    where
      nothing : (b : Bool) → ◌≡◌ {A = ℕ} (cond b 0 0) 0
      nothing true = refl
      nothing false = refl

  -- all clauses are asked at most of a pair that isn't skipped and blocks
  pub asked_here : (i : Interval) → has skipped i ≡ false → blocks_in rule i j ≡ true → unskipped skipped (λ i. asked rule i j) i ≡ present rule.filter + values rule
  asked_here i kept blocks = ap (λ b. cond b 0 (asked rule i j)) kept ∙ ap (λ b. cond b (clauses rule) 0) (blocker_faces rule i j blocks)

  -- over the partners among some intervals: 1 at each that isn't skipped and that j blocks
  pub blocked_over : (all partners : List Interval) → IsSet all → IsExclusive rule.link → ArePartners rule First j all partners
      → (q : Interval) → sum_by (λ i. blocked_at rule skipped j i q) partners ≡ blocked_one rule (lacking all skipped) q j
  blocked_over all partners sorted e are q =
      partners_sum rule j all partners First are (λ i. blocked_at rule skipped j i q) (λ i out. uncounted i (blocks_in rule i j) refl out)
      ∙ member_once (λ i. not (has skipped i) && blocks_in rule i j) all q sorted
      ∙ ap (λ b. cond b 1 0) (grouped (has all q) (not (has skipped q)) (blocks_in rule q j))
      ∙ ap (λ b. cond (b && blocks_in rule q j) 1 0) (sym (has_filter (λ i. not (has skipped i)) q all))
    where
      grouped : (a b c : Bool) → (a && (b && c)) ≡ ((a && b) && c)
      grouped true b c = refl
      grouped false b c = refl

      dropped : (b : Bool) (n : ℕ) → cond (b && false) n 0 ≡ 0
      dropped true n = refl
      dropped false n = refl

      uncounted : (i : Interval) (b : Bool) → blocks_in rule i j ≡ b → (is_related rule.link i j && is_met rule i (Some j)) ≡ false → blocked_at rule skipped j i q ≡ 0
      uncounted i true blocks out = absurd (true≢false (sym (blocker_counts rule i j e blocks) ∙ out))
      uncounted i false blocks out = ap (λ b. cond (not (has skipped i) && b) (one_at i q) 0) blocks ∙ dropped (not (has skipped i)) (one_at i q)

  -- a turn of one of some intervals, if it isn't skipped, is one of all that aren't
  pub turned_pair : (all : List Interval) (i : Interval) (turn : Turn) (old new : Numbers) (out_old out_new : List Interval) → IsSet all → has all i ≡ true
      → Turned rule (i ∷ []) turn old new out_old out_new (blocked_at rule skipped j i) → Turned rule (lacking all skipped) turn old new out_old out_new (blocked_at rule skipped j i)
  turned_pair all i turn old new out_old out_new sorted there t = by (has skipped i) refl
    where
      by : (b : Bool) → has skipped i ≡ b → Turned rule (lacking all skipped) turn old new out_old out_new (blocked_at rule skipped j i)
      by true out =
          turned_absent rule (lacking all skipped) i turn old new out_old out_new (blocked_at rule skipped j i)
          (λ q. ap (λ b. cond (not b && blocks_in rule i j) (one_at i q) 0) out) t
      by false kept =
          turned_member rule (lacking all skipped) i turn old new out_old out_new (blocked_at rule skipped j i) (IsSet-filter (λ k. not (has skipped k)) all sorted)
          (has_filter (λ k. not (has skipped k)) i all ∙ ap (λ b. b && not (has skipped i)) there ∙ ap not kept) (λ q other. blocked_alone i q other) t
