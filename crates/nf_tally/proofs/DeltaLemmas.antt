-- How a delta follows a set that an interval enters or leaves.
use Rattle.std.proofs.Common.{◌≡◌, Bool, true, false, cond, not, ◌&&◌, ◌||◌, List, [], ◌∷◌, refl, sym, ap, subst, ◌∙◌}
use Rattle.nf_core.specs.Intervals.{Interval, same}
use Rattle.nf_core.specs.Sets.{IsSet, has, inserted, removed}
use Rattle.nf_core.proofs.Public.SameIntervalLemmas.{same_is, same_swapped}
use Rattle.nf_core.proofs.Public.SetLemmas.{has_inserted, has_removed}
use Rattle.nf_tally.specs.Deltas.{Leads, Enters, Leaves}

-- ---- at one interval: b whether it moves, w, n and x whether it was, is and will be in the set
-- one that moves and is taken out of a list of the delta
struck : (b w o p g h : Bool) → (b ≡ false → p ≡ o) → (b ≡ true → (w && p) ≡ false) → g ≡ (w && o) → h ≡ cond b false g → h ≡ (w && p)
struck true w o p g h same_else gone f k = k ∙ sym (gone refl)
struck false w o p g h same_else gone f k = k ∙ f ∙ sym (ap (λ z. w && z) (same_else refl))

-- one that moves and is put into it
noted : (b w o p g h : Bool) → (b ≡ false → p ≡ o) → (b ≡ true → (w && p) ≡ true) → g ≡ (w && o) → h ≡ cond b true g → h ≡ (w && p)
noted true w o p g h same_else there f k = k ∙ sym (there refl)
noted false w o p g h same_else there f k = k ∙ f ∙ sym (ap (λ z. w && z) (same_else refl))

-- and the list that it doesn't touch
untouched : (b w o p g : Bool) → (b ≡ false → p ≡ o) → (b ≡ true → w ≡ false) → g ≡ (w && o) → g ≡ (w && p)
untouched true w o p g same_else out f = f ∙ ap (λ z. z && o) (out refl) ∙ sym (ap (λ z. z && p) (out refl))
untouched false w o p g same_else out f = f ∙ sym (ap (λ z. w && z) (same_else refl))

and_false : (b : Bool) → (b && false) ≡ false
and_false true = refl
and_false false = refl

first_true : (a b : Bool) → true ≡ (a && b) → a ≡ true
first_true true b e = refl
first_true false b e = absurd cc

not_first : (a : Bool) → false ≡ (a && true) → a ≡ false
not_first true e = absurd cc
not_first false e = refl

not_back : (a : Bool) → not a ≡ true → a ≡ false
not_back true e = absurd cc
not_back false e = refl

-- ---- the sets of an interval and another one that is the same
module _ (was now next : Interval → Bool) (i : Interval) where
  entered : (q : Interval) (b : Bool) → same i q ≡ b → Enters i now next → b ≡ true → next q ≡ true
  entered q b e step h = step.next_is q ∙ ap (λ c. c || now q) (e ∙ h)

  kept_out : (q : Interval) (b : Bool) → same i q ≡ b → Enters i now next → b ≡ false → next q ≡ now q
  kept_out q b e step h = step.next_is q ∙ ap (λ c. c || now q) (e ∙ h)

  left : (q : Interval) (b : Bool) → same i q ≡ b → Leaves i now next → b ≡ true → next q ≡ false
  left q b e step h = step.next_is q ∙ ap (λ c. not c && now q) (e ∙ h)

  kept_in : (q : Interval) (b : Bool) → same i q ≡ b → Leaves i now next → b ≡ false → next q ≡ now q
  kept_in q b e step h = step.next_is q ∙ ap (λ c. not c && now q) (e ∙ h)

  at_it : (f : Interval → Bool) (q : Interval) (v : Bool) → f i ≡ v → same i q ≡ true → f q ≡ v
  at_it f q v e h = sym (ap f (same_is i q h)) ∙ e

  -- an interval that had gone is back
  pub enters_back : (gone come gone_new : List Interval) → IsSet gone_new → ((q : Interval) → has gone_new q ≡ cond (same i q) false (has gone q))
      → has gone i ≡ true → Enters i now next → Leads was now (record { gone = gone; come = come }) → Leads was next (record { gone = gone_new; come = come })
  enters_back gone come gone_new s members had step lead =
      let was_in : was i ≡ true = first_true (was i) (not (now i)) (sym had ∙ lead.gone i) in
      record {
        gone_set = s;
        come_set = lead.come_set;
        gone = λ q. struck (same i q) (was q) (not (now q)) (not (next q)) (has gone q) (has gone_new q)
            (λ h. ap not (kept_out q (same i q) refl step h)) (λ h. ap (λ z. was q && not z) (entered q (same i q) refl step h) ∙ and_false (was q)) (lead.gone q) (members q);
        come = λ q. untouched (same i q) (not (was q)) (now q) (next q) (has come q)
            (kept_out q (same i q) refl step) (λ h. ap not (at_it was q true was_in h)) (lead.come q);
      }

  -- a new one has come
  pub enters_new : (gone gone_new come come_new : List Interval) → gone_new ≡ gone → IsSet come_new → ((q : Interval) → has come_new q ≡ cond (same i q) true (has come q))
      → has gone i ≡ false → Enters i now next → Leads was now (record { gone = gone; come = come }) → Leads was next (record { gone = gone_new; come = come_new })
  enters_new gone gone_new come come_new kept s members had step lead =
      let was_out : was i ≡ false = not_first (was i) (sym had ∙ lead.gone i ∙ ap (λ z. was i && not z) step.absent) in
      subst (λ list. Leads was next (record { gone = list; come = come_new })) (sym kept) (record {
        gone_set = lead.gone_set;
        come_set = s;
        gone = λ q. untouched (same i q) (was q) (not (now q)) (not (next q)) (has gone q)
            (λ h. ap not (kept_out q (same i q) refl step h)) (at_it was q false was_out) (lead.gone q);
        come = λ q. noted (same i q) (not (was q)) (now q) (next q) (has come q) (has come_new q)
            (kept_out q (same i q) refl step) (λ h. ap (λ z. not z && next q) (at_it was q false was_out h) ∙ entered q (same i q) refl step h) (lead.come q) (members q);
      })

  -- an interval that had come is away again
  pub leaves_again : (gone come come_new : List Interval) → IsSet come_new → ((q : Interval) → has come_new q ≡ cond (same i q) false (has come q))
      → has come i ≡ true → Leaves i now next → Leads was now (record { gone = gone; come = come }) → Leads was next (record { gone = gone; come = come_new })
  leaves_again gone come come_new s members had step lead =
      let was_out : was i ≡ false = not_back (was i) (first_true (not (was i)) (now i) (sym had ∙ lead.come i)) in
      record {
        gone_set = lead.gone_set;
        come_set = s;
        gone = λ q. untouched (same i q) (was q) (not (now q)) (not (next q)) (has gone q)
            (λ h. ap not (kept_in q (same i q) refl step h)) (at_it was q false was_out) (lead.gone q);
        come = λ q. struck (same i q) (not (was q)) (now q) (next q) (has come q) (has come_new q)
            (kept_in q (same i q) refl step) (λ h. ap (λ z. not (was q) && z) (left q (same i q) refl step h) ∙ and_false (not (was q))) (lead.come q) (members q);
      }

  -- one that was there has gone
  pub leaves_old : (gone gone_new come come_new : List Interval) → come_new ≡ come → IsSet gone_new → ((q : Interval) → has gone_new q ≡ cond (same i q) true (has gone q))
      → has come i ≡ false → Leaves i now next → Leads was now (record { gone = gone; come = come }) → Leads was next (record { gone = gone_new; come = come_new })
  leaves_old gone gone_new come come_new kept s members had step lead =
      let was_in : not (was i) ≡ false = not_first (not (was i)) (sym had ∙ lead.come i ∙ ap (λ z. not (was i) && z) step.there) in
      subst (λ list. Leads was next (record { gone = gone_new; come = list })) (sym kept) (record {
        gone_set = s;
        come_set = lead.come_set;
        gone = λ q. noted (same i q) (was q) (not (now q)) (not (next q)) (has gone q) (has gone_new q)
            (λ h. ap not (kept_in q (same i q) refl step h))
            (λ h. ap (λ z. was q && not z) (left q (same i q) refl step h) ∙ both_ways (was q) (at_it (λ z. not (was z)) q false was_in h)) (lead.gone q) (members q);
        come = λ q. untouched (same i q) (not (was q)) (now q) (next q) (has come q)
            (kept_in q (same i q) refl step) (at_it (λ z. not (was z)) q false was_in) (lead.come q);
      })
    where
      both_ways : (b : Bool) → not b ≡ false → (b && true) ≡ true
      both_ways true e = refl
      both_ways false e = absurd cc

-- ---- what a list of the delta has once an interval is put into it or taken out of it
pub has_put : (i : Interval) (is : List Interval) (q : Interval) → has (inserted i is) q ≡ cond (same i q) true (has is q)
has_put i is q = has_inserted i is q ∙ ap (λ b. b || has is q) (same_swapped q i) ∙ either (same i q) (has is q)
  where
    either : (a b : Bool) → (a || b) ≡ cond a true b
    either true b = refl
    either false b = refl

pub has_taken : (i : Interval) (is : List Interval) (q : Interval) → IsSet is → has (removed i is) q ≡ cond (same i q) false (has is q)
has_taken i is q s = has_removed i is q s ∙ ap (λ b. has is q && not b) (same_swapped q i) ∙ without (same i q) (has is q)
  where
    without : (a b : Bool) → (b && not a) ≡ cond a false b
    without true true = refl
    without true false = refl
    without false true = refl
    without false false = refl

-- an interval that isn't there leaves a list as it is
pub removed_absent : (i : Interval) (is : List Interval) → has is i ≡ false → removed i is ≡ is
removed_absent i [] e = refl
removed_absent i (x ∷ xs) e = by (same i x) e (removed_absent i xs)
  where
    by : (b : Bool) → (b || has xs i) ≡ false → (has xs i ≡ false → removed i xs ≡ xs) → cond b xs (x ∷ removed i xs) ≡ x ∷ xs
    by true f rest = absurd cc
    by false f rest = ap (λ ys. x ∷ ys) (rest f)
