-- The index of readers, as it is made rule by rule.
use Rattle.std.proofs.Common.{◌≡◌, ◌≢◌, ℕ, ◌+◌, ◌<◌, ◌==◌, Bool, true, false, ◌||◌, List, [], ◌∷◌, ◌++◌, length, slice_get, slice_set, Some, All, ◌⊎◌, refl, ap, sym, subst, ◌∙◌, inl, inr, arith, true≢false}
use Rattle.std.specs.List.{list_any}
use Rattle.std.proofs.lemmas.Bool.{cases_lt, eq-eqb}
use Rattle.std.proofs.lemmas.Bool.Decides.{eqb_tells}
use Rattle.std.proofs.lemmas.List.{length-set, get_or-set_same, get_or-set_other}
use Rattle.std.proofs.lemmas.List.Elements.{All-push, All-head, All-tail}
use Rattle.std.proofs.lemmas.List.Folds.{list_any-append}
use Rattle.std.proofs.lemmas.Option.{slice_get_within}
use Rattle.nf_core.specs.Plan.{Plan, IsPlan, IsRuleOf, second_name}
use Rattle.nf_core.specs.declared.terms.Link.{Link}
use Rattle.nf_core.specs.declared.terms.Link.TheVariants.{One, Pair, Unless}
use Rattle.nf_core.specs.declared.terms.PlanRule.{PlanRule}
use Rattle.nf_engine.specs.inner.Beginnings.{AreFirstReaders}
use Rattle.nf_engine.specs.inner.Parts.{second_number}
use Rattle.nf_engine.specs.inner.Readers.{readers_of, IsReader, AreReaders, IsIndexed}
use Rattle.nf_engine.specs.inner.Rounds.{reads}
use Rattle.nf_engine.proofs.QueueLemmas.{one_rule}
use Rattle.nf_engine.proofs.SettledLemmas.{All-at}

-- ---- which names a rule reads
module _ (plan : Plan) (first : ℕ) where
  second_within : (link : Link) → All (λ n. n < length plan.names) (first ∷ second_name link) → second_number first link < length plan.names
  second_within One h = All-head (λ n. n < length plan.names) first [] h
  second_within (Pair op n) h = All-head (λ m. m < length plan.names) n [] (All-tail (λ m. m < length plan.names) first (n ∷ []) h)
  second_within (Unless xop n) h = All-head (λ m. m < length plan.names) n [] (All-tail (λ m. m < length plan.names) first (n ∷ []) h)

-- both names of a rule of a plan are names of it
pub first_named : (plan : Plan) (k : ℕ) (rule : PlanRule) → IsPlan plan → slice_get plan.rules k ≡ Some rule → rule.first < length plan.names
first_named plan k rule valid at =
    All-head (λ n. n < length plan.names) rule.first (second_name rule.link) (All-at (IsRuleOf plan) plan.rules k rule valid.rules at).body

pub second_named : (plan : Plan) (k : ℕ) (rule : PlanRule) → IsPlan plan → slice_get plan.rules k ≡ Some rule → (second : ℕ) → second ≡ second_number rule.first rule.link
    → second < length plan.names
second_named plan k rule valid at second is =
    subst (λ (n : ℕ). n < length plan.names) (sym is) (second_within plan rule.first rule.link (All-at (IsRuleOf plan) plan.rules k rule valid.rules at).body)

read_either : (first n : ℕ) (link : Link) → list_any (λ m. m == n) (first ∷ second_name link) ≡ true → (first ≡ n) ⊎ (second_number first link ≡ n)
read_either first n One h = by (eqb_tells first n)
  where
    by : ((first == n) ≡ true) × (first ≡ n) ⊎ ((first == n) ≡ false) × (first ≢ n) → (first ≡ n) ⊎ (first ≡ n)
    by (inl is) = inl is.1
    by (inr other) = absurd (true≢false (sym h ∙ ap (λ b. b || false) other.0))
read_either first n (Pair op m) h = by (eqb_tells first n) (eqb_tells m n)
  where
    by : ((first == n) ≡ true) × (first ≡ n) ⊎ ((first == n) ≡ false) × (first ≢ n) → ((m == n) ≡ true) × (m ≡ n) ⊎ ((m == n) ≡ false) × (m ≢ n) → (first ≡ n) ⊎ (m ≡ n)
    by (inl is) o = inl is.1
    by (inr other) (inl is) = inr is.1
    by (inr other) (inr o) = absurd (true≢false (sym h ∙ ap (λ b. b || ((m == n) || false)) other.0 ∙ ap (λ b. b || false) o.0))
read_either first n (Unless xop m) h = by (eqb_tells first n) (eqb_tells m n)
  where
    by : ((first == n) ≡ true) × (first ≡ n) ⊎ ((first == n) ≡ false) × (first ≢ n) → ((m == n) ≡ true) × (m ≡ n) ⊎ ((m == n) ≡ false) × (m ≢ n) → (first ≡ n) ⊎ (m ≡ n)
    by (inl is) o = inl is.1
    by (inr other) (inl is) = inr is.1
    by (inr other) (inr o) = absurd (true≢false (sym h ∙ ap (λ b. b || ((m == n) || false)) other.0 ∙ ap (λ b. b || false) o.0))

-- ---- a number put into the list of one name
or_last : (b : Bool) → (b || (true || false)) ≡ true
or_last true = refl
or_last false = refl

module _ (plan : Plan) (k : ℕ) (n : ℕ) (reader : IsReader plan n k) (old : List (List ℕ)) (within : n < length old) where
  abbrev put : List (List ℕ)
  put = slice_set old n (readers_of old n ++ k ∷ [])

  here : readers_of put n ≡ readers_of old n ++ k ∷ []
  here = get_or-set_same old n (readers_of old n ++ k ∷ []) [] within

  put_own : list_any (λ m. m == k) (readers_of put n) ≡ true
  put_own =
      ap (λ (ns : List ℕ). list_any (λ m. m == k) ns) here ∙ list_any-append (λ m. m == k) (readers_of old n) (k ∷ [])
      ∙ ap (λ b. list_any (λ m. m == k) (readers_of old n) || (b || false)) (eq-eqb k k refl) ∙ or_last (list_any (λ m. m == k) (readers_of old n))

  put_kept : (m j : ℕ) → list_any (λ x. x == j) (readers_of old m) ≡ true → list_any (λ x. x == j) (readers_of put m) ≡ true
  put_kept m j there = by (eqb_tells m n)
    where
      by : ((m == n) ≡ true) × (m ≡ n) ⊎ ((m == n) ≡ false) × (m ≢ n) → list_any (λ x. x == j) (readers_of put m) ≡ true
      by (inl is) =
          subst (λ (i : ℕ). list_any (λ x. x == j) (readers_of put i) ≡ true) (sym is.1)
          (ap (λ (ns : List ℕ). list_any (λ x. x == j) ns) here ∙ list_any-append (λ x. x == j) (readers_of old n) (k ∷ [])
          ∙ ap (λ b. b || ((k == j) || false)) (subst (λ (i : ℕ). list_any (λ x. x == j) (readers_of old i) ≡ true) is.1 there))
      by (inr other) = ap (λ (ns : List ℕ). list_any (λ x. x == j) ns) (get_or-set_other old n m (readers_of old n ++ k ∷ []) [] other.1) ∙ there

  put_all : (m : ℕ) → All (IsReader plan m) (readers_of old m) → All (IsReader plan m) (readers_of put m)
  put_all m all = by (eqb_tells m n)
    where
      by : ((m == n) ≡ true) × (m ≡ n) ⊎ ((m == n) ≡ false) × (m ≢ n) → All (IsReader plan m) (readers_of put m)
      by (inl is) =
          subst (λ (i : ℕ). All (IsReader plan i) (readers_of put i)) (sym is.1)
          (subst (All (IsReader plan n)) (sym here)
          (All-push (IsReader plan n) (readers_of old n) k (subst (λ (i : ℕ). All (IsReader plan i) (readers_of old i)) is.1 all) reader))
      by (inr other) = subst (All (IsReader plan m)) (sym (get_or-set_other old n m (readers_of old n ++ k ∷ []) [] other.1)) all

-- and into those of both names that a rule reads
module _ (plan : Plan) (k : ℕ) (rule : PlanRule) (at : slice_get plan.rules k ≡ Some rule) (second : ℕ) (second_is : second ≡ second_number rule.first rule.link)
    (reads_one : reads rule rule.first ≡ true) (reads_other : reads rule second ≡ true) (old mid new : List (List ℕ)) (first_within : rule.first < length old) (other_within : second < length old)
    (mid_is : mid ≡ slice_set old rule.first (readers_of old rule.first ++ k ∷ [])) (new_is : new ≡ slice_set mid second (readers_of mid second ++ k ∷ [])) where
  one : IsReader plan rule.first k
  one = record { rule = rule; at = at; reads = reads_one }

  other : IsReader plan second k
  other = record { rule = rule; at = at; reads = reads_other }

  mid_each : length mid ≡ length old
  mid_each = ap (λ (ls : List (List ℕ)). length ls) mid_is ∙ length-set old rule.first (readers_of old rule.first ++ k ∷ [])

  within_mid : second < length mid
  within_mid = omega (arith, mid_each, other_within)

  kept_mid : (m j : ℕ) → list_any (λ x. x == j) (readers_of old m) ≡ true → list_any (λ x. x == j) (readers_of mid m) ≡ true
  kept_mid m j there = subst (λ (ls : List (List ℕ)). list_any (λ x. x == j) (readers_of ls m) ≡ true) (sym mid_is) (put_kept plan k rule.first one old first_within m j there)

  kept_new : (m j : ℕ) → list_any (λ x. x == j) (readers_of mid m) ≡ true → list_any (λ x. x == j) (readers_of new m) ≡ true
  kept_new m j there = subst (λ (ls : List (List ℕ)). list_any (λ x. x == j) (readers_of ls m) ≡ true) (sym new_is) (put_kept plan k second other mid within_mid m j there)

  all_mid : (m : ℕ) → All (IsReader plan m) (readers_of old m) → All (IsReader plan m) (readers_of mid m)
  all_mid m all = subst (λ (ls : List (List ℕ)). All (IsReader plan m) (readers_of ls m)) (sym mid_is) (put_all plan k rule.first one old first_within m all)

  all_new : (m : ℕ) → All (IsReader plan m) (readers_of mid m) → All (IsReader plan m) (readers_of new m)
  all_new m all = subst (λ (ls : List (List ℕ)). All (IsReader plan m) (readers_of ls m)) (sym new_is) (put_all plan k second other mid within_mid m all)

  there_first : list_any (λ m. m == k) (readers_of new rule.first) ≡ true
  there_first =
      kept_new rule.first k (subst (λ (ls : List (List ℕ)). list_any (λ x. x == k) (readers_of ls rule.first) ≡ true) (sym mid_is) (put_own plan k rule.first one old first_within))

  there_second : list_any (λ m. m == k) (readers_of new second) ≡ true
  there_second = subst (λ (ls : List (List ℕ)). list_any (λ x. x == k) (readers_of ls second) ≡ true) (sym new_is) (put_own plan k second other mid within_mid)

  pub rule_indexed : IsIndexed plan k old new
  rule_indexed = record {
    each = ap (λ (ls : List (List ℕ)). length ls) new_is ∙ length-set mid second (readers_of mid second ++ k ∷ []) ∙ mid_each;
    there = λ n r at_r reading.
        by n (read_either rule.first n rule.link (subst (λ (x : PlanRule). reads x n ≡ true) (sym (one_rule plan.rules k rule r at at_r)) reading));
    kept = λ n j there. kept_new n j (kept_mid n j there);
    all = λ n all. all_new n (all_mid n all);
  }
    where
      by : (n : ℕ) → (rule.first ≡ n) ⊎ (second_number rule.first rule.link ≡ n) → list_any (λ m. m == k) (readers_of new n) ≡ true
      by n (inl is) = subst (λ (i : ℕ). list_any (λ m. m == k) (readers_of new i) ≡ true) is there_first
      by n (inr is) = subst (λ (i : ℕ). list_any (λ m. m == k) (readers_of new i) ≡ true) (second_is ∙ is) there_second

-- ---- rule by rule
pub readers_more : (plan : Plan) (count : ℕ) (old new : List (List ℕ)) → AreFirstReaders plan count old → IsIndexed plan count old new → AreFirstReaders plan (count + 1) new
readers_more plan count old new so_far indexed = record {
  each = indexed.each ∙ so_far.each;
  rules = λ n. indexed.all n (so_far.rules n);
  complete = λ n k rule before at reading.
      elim (cases_lt k count) [
        | inl early ↦ indexed.kept n k (so_far.complete n k rule early at reading)
        | inr late ↦
            let is : k ≡ count = omega (arith, before, late) in
            subst (λ (j : ℕ). list_any (λ m. m == j) (readers_of new n) ≡ true) (sym is)
            (indexed.there n rule (subst (λ (j : ℕ). slice_get plan.rules j ≡ Some rule) is at) reading)
      ];
}

pub readers_all : (plan : Plan) (count : ℕ) (readers : List (List ℕ)) → count ≡ length plan.rules → AreFirstReaders plan count readers → AreReaders plan readers
readers_all plan count readers all are = record {
  each = are.each;
  rules = are.rules;
  complete = λ n k rule at reading. are.complete n k rule (subst (λ (m : ℕ). k < m) (sym all) (slice_get_within plan.rules k rule at)) at reading;
}
