-- Rules put into a queue.
use Rattle.std.proofs.Common.{◌≡◌, ℕ, ◌<◌, Bool, true, false, ◌||◌, ◌==◌, List, [], ◌∷◌, ◌++◌, length, All, Contains, ◌⊎◌, refl, ap, sym, subst, ◌∙◌, inl, inr}
use Rattle.std.specs.declared.cmp.Ordering.{Ordering}
use Rattle.std.specs.declared.cmp.Ordering.TheVariants.{Less, Equal, Greater}
use Rattle.std.specs.Ordering.{ordering_then, nat_cmp, match_ordering}
use Rattle.std.specs.BTreeSet.{insert_key}
use Rattle.std.specs.List.{list_any}
use Rattle.std.proofs.lemmas.List.Elements.{All-contains, All-weaker, Contains-get_or, Contains-append_left, Contains-push}
use Rattle.std.proofs.lemmas.List.Folds.{list_any-append}
use Rattle.std.proofs.lemmas.Map.Lookups.{exact_unsigned}
use Rattle.std.proofs.lemmas.Map.Views.{All-insert_key}
use Rattle.std.proofs.lemmas.Option.{slice_get_within}
use Rattle.nf_core.specs.Plan.{Plan}
use Rattle.nf_core.proofs.Public.SameIntervalLemmas.{both_equal}
use Rattle.nf_engine.specs.declared.queues.Due.{Due}
use Rattle.nf_engine.specs.inner.Queues.{due_cmp, is_due}
use Rattle.nf_engine.specs.inner.Readers.{IsReader, IsEntryFor, IsQueued, HasQueued}

or_once : (a b : Bool) → (a || b) ≡ (a || (a || b))
or_once true b = refl
or_once false b = refl

or_swapped : (a b c : Bool) → (a || (b || c)) ≡ (b || (a || c))
or_swapped true true c = refl
or_swapped true false c = refl
or_swapped false true c = refl
or_swapped false false c = refl

-- an entry put at its place
pub due_inserted : (e : Due) (queue : List Due) (j : ℕ) → is_due (insert_key due_cmp queue e) j ≡ (e.rule == j || is_due queue j)
due_inserted e [] j = refl
due_inserted e (x ∷ xs) j = by (due_cmp e x) refl (due_inserted e xs j)
  where
    by : (o : Ordering) → due_cmp e x ≡ o → is_due (insert_key due_cmp xs e) j ≡ (e.rule == j || is_due xs j)
        → is_due (match_ordering o (e ∷ x ∷ xs) (x ∷ xs) (x ∷ insert_key due_cmp xs e)) j ≡ (e.rule == j || (x.rule == j || is_due xs j))
    by Less h rest = refl
    by Equal h rest =
        let parts = both_equal (nat_cmp e.level x.level) (ordering_then (nat_cmp e.head x.head) (nat_cmp e.rule x.rule)) h in
        let last = both_equal (nat_cmp e.head x.head) (nat_cmp e.rule x.rule) parts.1 in
        let same : e.rule ≡ x.rule = exact_unsigned e.rule x.rule last.1 in
        or_once (x.rule == j) (is_due xs j) ∙ ap (λ (n : ℕ). n == j || (x.rule == j || is_due xs j)) (sym same)
    by Greater h rest = ap (λ b. x.rule == j || b) rest ∙ or_swapped (x.rule == j) (e.rule == j) (is_due xs j)

-- nothing was put
pub none_queued : (plan : Plan) (queue : List Due) → HasQueued plan [] queue queue
none_queued plan queue = record { due = λ k. refl; entries = λ d there. inl there }

-- one rule more
pub one_queued : (plan : Plan) (numbers more : List ℕ) (k : ℕ) (old now new : List Due) → more ≡ numbers ++ k ∷ [] → HasQueued plan numbers old now → IsQueued plan k now new → HasQueued plan more old new
one_queued plan numbers more k old now new next so_far put = record {
  due = λ j.
      ap (λ (queue : List Due). is_due queue j) put.queue ∙ due_inserted put.entry now j ∙ ap (λ b. put.entry.rule == j || b) (so_far.due j)
      ∙ ap (λ (n : ℕ). n == j || (list_any (λ m. m == j) numbers || is_due old j)) put.rule_is
      ∙ joined (k == j) (list_any (λ m. m == j) numbers) (is_due old j)
      ∙ ap (λ b. b || is_due old j) (sym (ap (λ (ns : List ℕ). list_any (λ m. m == j) ns) next ∙ list_any-append (λ m. m == j) numbers (k ∷ [])));
  entries = λ d there. by d (All-contains (Is) new d (all) there);
}
  where
    Is : Due → Type 0
    Is d = Contains now d ⊎ (d ≡ put.entry)

    all : All Is new
    all =
        subst (All Is) (sym put.queue)
        (All-insert_key due_cmp put.entry Is now (λ i default within. inl (Contains-get_or now i default within)) (inr refl))

    joined : (a b c : Bool) → (a || (b || c)) ≡ ((b || (a || false)) || c)
    joined true true c = refl
    joined true false c = refl
    joined false true c = refl
    joined false false c = refl

    last_there : Contains more k
    last_there = subst (λ (ns : List ℕ). Contains ns k) (sym next) (Contains-push numbers k)

    by : (d : Due) → Is d → Contains old d ⊎ (IsEntryFor plan d × Contains more d.rule)
    by d (inl there) = widen d (so_far.entries d there)
      where
        widen : (d : Due) → Contains old d ⊎ (IsEntryFor plan d × Contains numbers d.rule) → Contains old d ⊎ (IsEntryFor plan d × Contains more d.rule)
        widen d (inl o) = inl o
        widen d (inr e) = inr (e.0, subst (λ (ns : List ℕ). Contains ns d.rule) (sym next) (Contains-append_left numbers (k ∷ []) d.rule e.1))
    by d (inr is) = inr (subst (IsEntryFor plan) (sym is) put.of_plan, subst (λ (n : ℕ). Contains more n) (sym (ap (λ (e : Due). e.rule) is ∙ put.rule_is)) last_there)

-- the numbers of readers are those of rules
pub readers_within : (plan : Plan) (n : ℕ) (numbers : List ℕ) → All (IsReader plan n) numbers → All (λ k. k < length plan.rules) numbers
readers_within plan n numbers all = All-weaker (IsReader plan n) (λ k. k < length plan.rules) (λ k reader. slice_get_within plan.rules k reader.rule reader.at) numbers all
