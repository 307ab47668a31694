-- How the numbers of blockers and the results move from two lists to those after their deltas.
use Rattle.std.proofs.Common.{◌≡◌, ℕ, ◌+◌, ◌≤◌, Bool, true, false, cond, not, ◌&&◌, ◌||◌, List, refl, sym, ap, ◌∙◌, true≢false, arith}
use Rattle.std.specs.List.{sum_by}
use Rattle.nf_core.specs.Intervals.{Interval}
use Rattle.nf_core.specs.Sets.{IsSet, has}
use Rattle.nf_core.specs.declared.intervals.Delta.{Delta}
use Rattle.nf_core.specs.declared.terms.PlanRule.{PlanRule}
use Rattle.nf_core.proofs.Public.SetLemmas.{has_filter}
use Rattle.nf_model.specs.Results.{results}
use Rattle.nf_pairs.specs.Deltas.{IsDelta, before}
use Rattle.nf_pairs.specs.inner.Walks.{kept}
use Rattle.nf_pairs.proofs.Public.DeltaLemmas.{has_before, absent_before, sum_now, sum_before}
use Rattle.nf_tally.specs.Numbers.{often}
use Rattle.nf_exclude.specs.Exclusions.{IsExclusive, blocks_in, blockers_among}
use Rattle.nf_exclude.specs.inner.Turns.{worth, given, blocked_one}
use Rattle.nf_exclude.proofs.SumLemmas.{sum_of_choice}
use Rattle.nf_exclude.proofs.RuleLemmas.{results_given}
use Rattle.nf_exclude.proofs.TurnLemmas.{given_alike}

-- a list before a delta and now, what went and came, and what is in both
pub record Move (old now gone come kept : List Interval) : Type 0 where
  pub sum_old : (f : Interval → ℕ) → sum_by f old ≡ sum_by f kept + sum_by f gone
  pub sum_now : (f : Interval → ℕ) → sum_by f now ≡ sum_by f kept + sum_by f come
  pub has_old : (q : Interval) → has old q ≡ (has kept q || has gone q)
  pub has_now : (q : Interval) → has now q ≡ (has kept q || has come q)
  pub gone_absent : (q : Interval) → has gone q ≡ true → has now q ≡ false
  pub come_absent : (q : Interval) → has come q ≡ true → has old q ≡ false

-- each delta makes such a move
pub move_of : (now : List Interval) (delta : Delta) → IsSet now → IsDelta now delta → Move (before delta now) now delta.gone delta.come (kept delta now)
move_of now delta sorted is = record {
  sum_old = sum_before now delta sorted is;
  sum_now = sum_now now delta sorted is;
  has_old = λ q. has_before delta now q ∙ ap (λ b. has delta.gone q || b) (sym (has_kept q)) ∙ swapped (has delta.gone q) (has (kept delta now) q);
  has_now = λ q. split (has now q) (has delta.come q) (is.come_there q) ∙ ap (λ b. b || has delta.come q) (sym (has_kept q));
  gone_absent = is.gone_absent;
  come_absent = absent_before now delta sorted is;
}
  where
    has_kept : (q : Interval) → has (kept delta now) q ≡ (has now q && not (has delta.come q))
    has_kept q = has_filter (λ i. not (has delta.come i)) q now

    swapped : (a b : Bool) → (a || b) ≡ (b || a)
    swapped true true = refl
    swapped true false = refl
    swapped false true = refl
    swapped false false = refl

    split : (n c : Bool) → (c ≡ true → n ≡ true) → n ≡ ((n && not c) || c)
    split true true h = refl
    split true false h = refl
    split false true h = h refl
    split false false h = refl

module _ {old now gone come kept : List Interval} (m : Move old now gone come kept) where
  -- what is kept neither went nor came
  pub kept_gone : (q : Interval) → has kept q ≡ true → has gone q ≡ false
  kept_gone q k = by (has gone q) refl
    where
      by : (b : Bool) → has gone q ≡ b → b ≡ false
      by false e = refl
      by true e = absurd (true≢false (sym (m.has_now q ∙ ap (λ b. b || has come q) k) ∙ m.gone_absent q e))

  pub kept_come : (q : Interval) → has kept q ≡ true → has come q ≡ false
  kept_come q k = by (has come q) refl
    where
      by : (b : Bool) → has come q ≡ b → b ≡ false
      by false e = refl
      by true e = absurd (true≢false (sym (m.has_old q ∙ ap (λ b. b || has gone q) k) ∙ m.come_absent q e))

-- the numbers of blockers and the lists of what was lost and found, step by step
pub record Course (rule : PlanRule) (firsts0 firsts seconds0 seconds gone1 come1 kept1 gone2 come2 : List Interval) : Type 0 where
  pub n0 : Interval → ℕ
  pub n1 : Interval → ℕ
  pub n2 : Interval → ℕ
  pub n3 : Interval → ℕ
  pub n4 : Interval → ℕ
  pub lost1 : List Interval
  pub lost : List Interval
  pub found2 : List Interval
  pub found : List Interval
  -- it begins with the blockers among the second ones
  pub begins : (q : Interval) → n0 q ≡ cond (has firsts0 q) (blockers_among rule seconds0 q) 0
  -- what went and wasn't blocked is lost, and has no blockers any more
  pub lost_gone : (q : Interval) → often lost1 q ≡ given rule n0 gone1 q
  pub cleared : (q : Interval) → n1 q ≡ cond (has gone1 q) 0 (n0 q)
  -- the blockers that went
  pub fell : (q : Interval) → n1 q ≡ n2 q + sum_by (blocked_one rule kept1 q) gone2
  pub found_kept : (q : Interval) → often found2 q + given rule n1 kept1 q ≡ given rule n2 kept1 q
  -- the blockers that came
  pub rose : (q : Interval) → n3 q ≡ n2 q + sum_by (blocked_one rule kept1 q) come2
  pub lost_kept : (q : Interval) → often lost q + given rule n3 kept1 q ≡ often lost1 q + given rule n2 kept1 q
  -- what came
  pub counted : (q : Interval) → n4 q ≡ cond (has come1 q) (blockers_among rule seconds q) (n3 q)
  pub found_come : (q : Interval) → often found q ≡ often found2 q + given rule n4 come1 q

module _ (rule : PlanRule) {A A' B B' g1 c1 k1 g2 c2 k2 : List Interval} (m1 : Move A A' g1 c1 k1) (m2 : Move B B' g2 c2 k2) where
  -- a kept one has at first the blockers that stay and those that go
  pub at_first : (n0 n1 : Interval → ℕ) → ((q : Interval) → n0 q ≡ cond (has A q) (blockers_among rule B q) 0) → ((q : Interval) → n1 q ≡ cond (has g1 q) 0 (n0 q))
      → (q : Interval) → has k1 q ≡ true → n1 q ≡ blockers_among rule k2 q + blockers_among rule g2 q
  at_first n0 n1 begins cleared q k =
      cleared q ∙ ap (λ b. cond b 0 (n0 q)) (kept_gone m1 q k) ∙ begins q
      ∙ ap (λ b. cond b (blockers_among rule B q) 0) (m1.has_old q ∙ ap (λ b. b || has g1 q) k)
      ∙ m2.sum_old (λ j. cond (blocks_in rule q j) 1 0)

  -- so the numbers can fall by those that go
  pub enough : (n0 n1 : Interval → ℕ) → ((q : Interval) → n0 q ≡ cond (has A q) (blockers_among rule B q) 0) → ((q : Interval) → n1 q ≡ cond (has g1 q) 0 (n0 q))
      → (q : Interval) → sum_by (blocked_one rule k1 q) g2 ≤ n1 q
  enough n0 n1 begins cleared q = by (has k1 q) refl
    where
      by : (b : Bool) → has k1 q ≡ b → sum_by (blocked_one rule k1 q) g2 ≤ n1 q
      by true k =
          let all : n1 q ≡ blockers_among rule k2 q + blockers_among rule g2 q = at_first n0 n1 begins cleared q k in
          let part : sum_by (blocked_one rule k1 q) g2 ≡ blockers_among rule g2 q = sum_of_choice (has k1 q) (blocks_in rule q) g2 ∙ ap (λ b. cond b (blockers_among rule g2 q) 0) k in
          omega (arith, all, part)
      by false k =
          let none : sum_by (blocked_one rule k1 q) g2 ≡ 0 = sum_of_choice (has k1 q) (blocks_in rule q) g2 ∙ ap (λ b. cond b (blockers_among rule g2 q) 0) k in
          omega (arith, none)

  -- those that come have no number before they are counted
  pub fresh : (n0 n1 n2 n3 : Interval → ℕ) → ((q : Interval) → n0 q ≡ cond (has A q) (blockers_among rule B q) 0) → ((q : Interval) → n1 q ≡ cond (has g1 q) 0 (n0 q))
      → ((q : Interval) → n1 q ≡ n2 q + sum_by (blocked_one rule k1 q) g2) → ((q : Interval) → n3 q ≡ n2 q + sum_by (blocked_one rule k1 q) c2)
      → (q : Interval) → has c1 q ≡ true → n3 q ≡ 0
  fresh n0 n1 n2 n3 begins cleared fell rose q come =
      let none : n0 q ≡ 0 = begins q ∙ ap (λ b. cond b (blockers_among rule B q) 0) (m1.come_absent q come) in
      let first : n1 q ≡ 0 = cleared q ∙ ap (λ n. cond (has g1 q) 0 n) none ∙ nothing (has g1 q) in
      let fewer : n1 q ≡ n2 q + sum_by (blocked_one rule k1 q) g2 = fell q in
      let more : n3 q ≡ n2 q + sum_by (blocked_one rule k1 q) c2 = rose q in
      let added : sum_by (blocked_one rule k1 q) c2 ≡ 0 =
      sum_of_choice (has k1 q) (blocks_in rule q) c2 ∙ ap (λ b. cond b (blockers_among rule c2 q) 0) (away (has k1 q) refl) in
      omega (arith, first, fewer, more, added)
    where
      nothing : (b : Bool) → ◌≡◌ {A = ℕ} (cond b 0 0) 0
      nothing true = refl
      nothing false = refl

      away : (b : Bool) → has k1 q ≡ b → has k1 q ≡ false
      away true k = absurd (true≢false (sym come ∙ kept_come m1 q k))
      away false k = k

  module _ (course : Course rule A A' B B' g1 c1 k1 g2 c2) where
    -- in the end each first interval has its blockers among the second ones
    pub ends : (q : Interval) → course.n4 q ≡ cond (has A' q) (blockers_among rule B' q) 0
    ends q = course.counted q ∙ by (has k1 q) (has c1 q) (has g1 q) refl refl refl ∙ sym (ap (λ b. cond b (blockers_among rule B' q) 0) (m1.has_now q))
      where
        gained : (js : List Interval) (b : Bool) → has k1 q ≡ b → sum_by (blocked_one rule k1 q) js ≡ cond b (blockers_among rule js q) 0
        gained js b k = sum_of_choice (has k1 q) (blocks_in rule q) js ∙ ap (λ b. cond b (blockers_among rule js q) 0) k

        by : (k c g : Bool) → has k1 q ≡ k → has c1 q ≡ c → has g1 q ≡ g
            → cond c (blockers_among rule B' q) (course.n3 q) ≡ cond (k || c) (blockers_among rule B' q) 0
        by k true g ek ec eg = by_or k
          where
            by_or : (b : Bool) → blockers_among rule B' q ≡ cond (b || true) (blockers_among rule B' q) 0
            by_or true = refl
            by_or false = refl
        by true false g ek ec eg =
            let first : course.n1 q ≡ blockers_among rule k2 q + blockers_among rule g2 q = at_first course.n0 course.n1 course.begins course.cleared q ek in
            let fell : course.n1 q ≡ course.n2 q + sum_by (blocked_one rule k1 q) g2 = course.fell q in
            let rose : course.n3 q ≡ course.n2 q + sum_by (blocked_one rule k1 q) c2 = course.rose q in
            let away : sum_by (blocked_one rule k1 q) g2 ≡ blockers_among rule g2 q = gained g2 true ek in
            let added : sum_by (blocked_one rule k1 q) c2 ≡ blockers_among rule c2 q = gained c2 true ek in
            let now : blockers_among rule B' q ≡ blockers_among rule k2 q + blockers_among rule c2 q = m2.sum_now (λ j. cond (blocks_in rule q j) 1 0) in
            omega (arith, first, fell, rose, away, added, now)
        by false false true ek ec eg =
            let first : course.n1 q ≡ 0 = course.cleared q ∙ ap (λ b. cond b 0 (course.n0 q)) eg in
            let fell : course.n1 q ≡ course.n2 q + sum_by (blocked_one rule k1 q) g2 = course.fell q in
            let rose : course.n3 q ≡ course.n2 q + sum_by (blocked_one rule k1 q) c2 = course.rose q in
            let added : sum_by (blocked_one rule k1 q) c2 ≡ 0 = gained c2 false ek in
            omega (arith, first, fell, rose, added)
        by false false false ek ec eg =
            let first : course.n1 q ≡ 0 =
            course.cleared q ∙ ap (λ b. cond b 0 (course.n0 q)) eg ∙ course.begins q
            ∙ ap (λ b. cond b (blockers_among rule B q) 0) (m1.has_old q ∙ ap (λ b. b || has g1 q) ek ∙ eg) in
            let fell : course.n1 q ≡ course.n2 q + sum_by (blocked_one rule k1 q) g2 = course.fell q in
            let rose : course.n3 q ≡ course.n2 q + sum_by (blocked_one rule k1 q) c2 = course.rose q in
            let added : sum_by (blocked_one rule k1 q) c2 ≡ 0 = gained c2 false ek in
            omega (arith, first, fell, rose, added)

    -- and the results move by what was lost and found
    pub balance : IsExclusive rule.link → (q : Interval)
        → often (results rule A B) q + often course.found q ≡ often (results rule A' B') q + often course.lost q
    balance e q =
        let old : often (results rule A B) q ≡ given rule course.n0 A q =
        results_given rule A B q e
        ∙ given_alike rule A (blockers_among rule B) course.n0 q (λ i there. sym (course.begins i ∙ ap (λ b. cond b (blockers_among rule B i) 0) there)) in
        let now : often (results rule A' B') q ≡ given rule course.n4 A' q =
        results_given rule A' B' q e
        ∙ given_alike rule A' (blockers_among rule B') course.n4 q (λ i there. sym (ends i ∙ ap (λ b. cond b (blockers_among rule B' i) 0) there)) in
        let split_old : given rule course.n0 A q ≡ given rule course.n0 k1 q + given rule course.n0 g1 q = m1.sum_old (worth rule course.n0 q) in
        let split_now : given rule course.n4 A' q ≡ given rule course.n4 k1 q + given rule course.n4 c1 q = m1.sum_now (worth rule course.n4 q) in
        let kept_old : given rule course.n0 k1 q ≡ given rule course.n1 k1 q =
        given_alike rule k1 course.n0 course.n1 q (λ i there. sym (course.cleared i ∙ ap (λ b. cond b 0 (course.n0 i)) (kept_gone m1 i there))) in
        let kept_now : given rule course.n4 k1 q ≡ given rule course.n3 k1 q =
        given_alike rule k1 course.n4 course.n3 q (λ i there. course.counted i ∙ ap (λ b. cond b (blockers_among rule B' i) (course.n3 i)) (kept_come m1 i there)) in
        let s1 = course.lost_gone q in
        let s2 = course.found_kept q in
        let s3 = course.lost_kept q in
        let s4 = course.found_come q in
        omega (arith, old, now, split_old, split_now, kept_old, kept_now, s1, s2, s3, s4)
