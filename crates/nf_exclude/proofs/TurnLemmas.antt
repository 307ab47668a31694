-- Numbers of blockers that rise or fall together, one by one.
use Rattle.std.proofs.Common.{◌≡◌, ℕ, ◌+◌, ◌<◌, ◌≤◌, true, false, cond, List, [], ◌∷◌, None, option_to_list, refl, sym, ap, ◌∙◌, arith}
use Rattle.std.proofs.lemmas.Bool.{lt-ltb}
use Rattle.nf_core.specs.Intervals.{Interval, same}
use Rattle.nf_core.specs.Sets.{IsSet, has}
use Rattle.nf_core.specs.declared.terms.PlanRule.{PlanRule}
use Rattle.nf_core.proofs.Public.SameIntervalLemmas.{same_self}
use Rattle.nf_model.specs.Results.{built_from}
use Rattle.nf_pairs.proofs.Public.SumLemmas.{sum_by_agree}
use Rattle.nf_tally.specs.Numbers.{Numbers, number, one_at, often, is_on}
use Rattle.nf_exclude.specs.declared.turns.Turn.{Turn}
use Rattle.nf_exclude.specs.declared.turns.Turn.TheVariants.{More, Fewer}
use Rattle.nf_exclude.specs.inner.Turns.{worth, given, more, fewer, Turned, Walked, CanTurn}
use Rattle.nf_exclude.proofs.SumLemmas.{sum_moved}

-- a blocked interval gives nothing, and one that isn't gives what is built from it
pub worth_blocked : (rule : PlanRule) (f : Interval → ℕ) (q i : Interval) → 0 < f i → worth rule f q i ≡ 0
unfolding worth
worth_blocked rule f q i h = ap (λ b. cond b 0 (often (option_to_list (built_from rule i None)) q)) (lt-ltb 0 (f i) h)

pub worth_free : (rule : PlanRule) (f : Interval → ℕ) (q i : Interval) → f i ≡ 0 → worth rule f q i ≡ often (option_to_list (built_from rule i None)) q
unfolding worth
worth_free rule f q i h = ap (λ n. cond (is_on n) 0 (often (option_to_list (built_from rule i None)) q)) h

-- what an interval gives goes by its own number
pub worth_alike : (rule : PlanRule) (f g : Interval → ℕ) (q i : Interval) → f i ≡ g i → worth rule f q i ≡ worth rule g q i
unfolding worth
worth_alike rule f g q i e = rw e refl

module _ (rule : PlanRule) (members : List Interval) where
  -- what some intervals give goes by their numbers
  pub given_alike : (f g : Interval → ℕ) (q : Interval) → ((i : Interval) → has members i ≡ true → f i ≡ g i) → given rule f members q ≡ given rule g members q
  given_alike f g q alike = sum_by_agree (worth rule f q) (worth rule g q) members (λ i there. worth_alike rule f g q i (alike i there))

  -- nothing moved
  pub turned_none : (turn : Turn) (old : Numbers) (out : List Interval) (gain : Interval → ℕ) → ((q : Interval) → gain q ≡ 0) → Turned rule members turn old old out out gain
  turned_none More old out gain none = record { numbers = λ q. let e = none q in omega arith; out = λ q. refl }
  turned_none Fewer old out gain none = record { numbers = λ q. let e = none q in omega arith; out = λ q. refl }

  -- a gain by another name
  pub turned_as : (turn : Turn) (old new : Numbers) (out_old out_new : List Interval) (gain own : Interval → ℕ) → ((q : Interval) → gain q ≡ own q)
      → Turned rule members turn old new out_old out_new gain → Turned rule members turn old new out_old out_new own
  turned_as turn old new out_old out_new gain own alike t = record {
    numbers = λ q. t.numbers q ∙ ap (λ n. number (fewer turn old new) q + n) (alike q);
    out = t.out;
  }

  -- one turn after another
  pub turned_both : (turn : Turn) (old mid new : Numbers) (out_old out_mid out_new : List Interval) (gain own : Interval → ℕ)
      → Turned rule members turn old mid out_old out_mid gain → Turned rule members turn mid new out_mid out_new own
      → Turned rule members turn old new out_old out_new (λ q. gain q + own q)
  turned_both More old mid new out_old out_mid out_new gain own t u = record {
    numbers = λ q. omega (arith, t.numbers q, u.numbers q);
    out = λ q. omega (arith, t.out q, u.out q);
  }
  turned_both Fewer old mid new out_old out_mid out_new gain own t u = record {
    numbers = λ q. omega (arith, t.numbers q, u.numbers q);
    out = λ q. omega (arith, t.out q, u.out q);
  }

  -- a turn of one member is one of them all
  pub turned_member : (p : Interval) (turn : Turn) (old new : Numbers) (out_old out_new : List Interval) (gain : Interval → ℕ)
      → IsSet members → has members p ≡ true → ((q : Interval) → same q p ≡ false → gain q ≡ 0)
      → Turned rule (p ∷ []) turn old new out_old out_new gain → Turned rule members turn old new out_old out_new gain
  turned_member p turn old new out_old out_new gain s there alone t = record {
    numbers = t.numbers;
    out = λ q.
        let higher : Interval → ℕ = number (more turn old new) in
        let lower : Interval → ℕ = number (fewer turn old new) in
        let one : often out_new q + (0 + worth rule higher q p) ≡ often out_old q + (0 + worth rule lower q p) = t.out q in
        let all : given rule higher members q + worth rule lower q p ≡ given rule lower members q + worth rule higher q p =
        sum_moved (worth rule higher q) (worth rule lower q) p members s there
        (λ i other. worth_alike rule higher lower q i (let e = alone i other in let f = t.numbers i in omega arith)) in
        omega (arith, one, all);
  }

module _ (rule : PlanRule) (p : Interval) (old new : Numbers) (out_old out_new : List Interval) where
  -- one blocker more
  pub turned_up : ((q : Interval) → number new q ≡ number old q + one_at p q) → ((q : Interval) → often out_new q ≡ often out_old q + worth rule (number old) q p)
      → Turned rule (p ∷ []) More old new out_old out_new (one_at p)
  turned_up numbers out = record {
    numbers = numbers;
    out = λ q.
        let at : number new p ≡ number old p + one_at p p = numbers p in
        let one : one_at p p ≡ 1 = ap (λ b. cond b 1 0) (same_self p) in
        let none : worth rule (number new) q p ≡ 0 = worth_blocked rule (number new) q p (omega (arith, at, one)) in
        let e : often out_new q ≡ often out_old q + worth rule (number old) q p = out q in
        omega (arith, none, e);
  }

  -- one blocker fewer
  pub turned_down : ((q : Interval) → number new q + one_at p q ≡ number old q) → ((q : Interval) → often out_new q ≡ often out_old q + worth rule (number new) q p)
      → Turned rule (p ∷ []) Fewer old new out_old out_new (one_at p)
  turned_down numbers out = record {
    numbers = λ q. sym (numbers q);
    out = λ q.
        let at : number new p + one_at p p ≡ number old p = numbers p in
        let one : one_at p p ≡ 1 = ap (λ b. cond b 1 0) (same_self p) in
        let none : worth rule (number old) q p ≡ 0 = worth_blocked rule (number old) q p (omega (arith, at, one)) in
        let e : often out_new q ≡ often out_old q + worth rule (number new) q p = out q in
        omega (arith, none, e);
  }

module _ (rule : PlanRule) (members : List Interval) where
  -- where no number moves, nothing does
  pub turned_absent : (p : Interval) (turn : Turn) (old new : Numbers) (out_old out_new : List Interval) (gain : Interval → ℕ) → ((q : Interval) → gain q ≡ 0)
      → Turned rule (p ∷ []) turn old new out_old out_new gain → Turned rule members turn old new out_old out_new gain
  turned_absent p turn old new out_old out_new gain none t = record {
    numbers = t.numbers;
    out = λ q.
        let higher : Interval → ℕ = number (more turn old new) in
        let lower : Interval → ℕ = number (fewer turn old new) in
        let alike : (i : Interval) → higher i ≡ lower i = λ i. (let e = t.numbers i in let f = none i in omega arith) in
        let one : often out_new q + (0 + worth rule higher q p) ≡ often out_old q + (0 + worth rule lower q p) = t.out q in
        let same_worth : worth rule higher q p ≡ worth rule lower q p = worth_alike rule higher lower q p (alike p) in
        let all : given rule higher members q ≡ given rule lower members q = given_alike rule members higher lower q (λ i there. alike i) in
        omega (arith, one, same_worth, all);
  }

-- ---- walks: a part of a total, and the rest
module _ (rule : PlanRule) (members : List Interval) (total : Interval → ℕ) where
  pub walked_start : (turn : Turn) (old : Numbers) (out : List Interval) (rest : Interval → ℕ) → ((q : Interval) → rest q ≡ total q)
      → Walked rule members turn old old out out total rest
  walked_start turn old out rest all = record {
    gained = λ q. 0;
    turned = turned_none rule members turn old out (λ q. 0) (λ q. refl);
    split = λ q. omega (arith, all q);
  }

  pub walked_step : (turn : Turn) (old mid new : Numbers) (out_old out_mid out_new : List Interval) (rest later gain : Interval → ℕ)
      → Walked rule members turn old mid out_old out_mid total rest → Turned rule members turn mid new out_mid out_new gain
      → ((q : Interval) → rest q ≡ gain q + later q) → Walked rule members turn old new out_old out_new total later
  walked_step turn old mid new out_old out_mid out_new rest later gain w t part = record {
    gained = λ q. w.gained q + gain q;
    turned = turned_both rule members turn old mid new out_old out_mid out_new w.gained gain w.turned t;
    split = λ q. omega (arith, w.split q, part q);
  }

  pub walked_end : (turn : Turn) (old new : Numbers) (out_old out_new : List Interval) (rest : Interval → ℕ)
      → Walked rule members turn old new out_old out_new total rest → ((q : Interval) → rest q ≡ 0) → Turned rule members turn old new out_old out_new total
  walked_end turn old new out_old out_new rest w none =
      turned_as rule members turn old new out_old out_new w.gained total (λ q. omega (arith, w.split q, none q)) w.turned

  -- numbers that were high enough for the total are so for what is left
  pub walked_enough : (turn : Turn) (old new : Numbers) (out_old out_new : List Interval) (rest : Interval → ℕ) (q : Interval) (gain : ℕ)
      → Walked rule members turn old new out_old out_new total rest → CanTurn turn (total q) (number old q) → gain ≤ rest q → CanTurn turn gain (number new q)
  walked_enough More old new out_old out_new rest q gain w enough part = tt
  walked_enough Fewer old new out_old out_new rest q gain w enough part = omega (arith, w.split q, w.turned.numbers q, enough, part)
