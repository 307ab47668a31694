-- What marking places does to a search.
use Rattle.std.proofs.Common.{◌≡◌, ◌⊎◌, inl, inr, ℕ, ◌+◌, ◌<◌, Bool, true, false, not, cond, List, [], ◌∷◌, ◌++◌, length, length-append, take, get_or, set, count_by, slice_get, Option, Some, Result, Ok, Err, OnOk, Contains, refl, sym, ap, subst, ◌∙◌, arith}
use Rattle.std.proofs.lemmas.Bool.{cases_eq}
use Rattle.std.proofs.lemmas.List.{get_or-set_same, get_or-set_other, length-set, take_more}
use Rattle.std.proofs.lemmas.List.Sums.{sum_by-set}
use Rattle.std.proofs.lemmas.List.Elements.{Contains-push, Contains-append_left, Contains-push_cases}
use Rattle.nf_core.specs.declared.trees.Module.{Module}
use Rattle.nf_modules.specs.inner.Search.{IsMarked, IsPlaceOf, Marks, left_in}
use Rattle.nf_modules.specs.declared.search.Search.{Search}

-- 1 for a module that isn't marked
abbrev unmarked : Bool → ℕ
unmarked b = cond (not b) 1 0

-- one place that wasn't marked
module _ (s t : Search) (p : ℕ) (within : p < length s.reached.items) (free : get_or s.reached.items p false ≡ false)
    (marked : t.reached.items ≡ set s.reached.items p true) (opened : t.open.items ≡ s.open.items ++ p ∷ []) where
  at : (i : ℕ) → get_or t.reached.items i false ≡ get_or (set s.reached.items p true) i false
  at i = ap (λ items. get_or items i false) marked

  here : (i : ℕ) → p ≡ i → IsMarked t.reached.items i
  here i e = at i ∙ ap (λ j. get_or (set s.reached.items p true) j false) (sym e) ∙ get_or-set_same s.reached.items p true false within

  stays : (i : ℕ) → IsMarked s.reached.items i → IsMarked t.reached.items i
  stays i h = elim (cases_eq i p) [
    | inl e ↦ here i (sym e)
    | inr other ↦ at i ∙ get_or-set_other s.reached.items p i true false other ∙ h
  ]

  is_open : (i : ℕ) → p ≡ i → Contains t.open.items i
  is_open i e = subst (λ items. Contains items i) (sym opened) (subst (λ j. Contains (s.open.items ++ p ∷ []) j) e (Contains-push s.open.items p))

  is_fresh : (i : ℕ) → IsMarked t.reached.items i → IsMarked s.reached.items i ⊎ ((p ≡ i) × Contains t.open.items i)
  is_fresh i h = elim (cases_eq i p) [
    | inl e ↦ inr (sym e, is_open i (sym e))
    | inr other ↦ inl (sym (at i ∙ get_or-set_other s.reached.items p i true false other) ∙ h)
  ]

  all_left : left_in t ≡ left_in s
  all_left =
      let fewer : count_by not (set s.reached.items p true) + unmarked (get_or s.reached.items p false) ≡ count_by not s.reached.items + 0 = sum_by-set unmarked s.reached.items p true false within in
      let one : unmarked (get_or s.reached.items p false) ≡ 1 = ap unmarked free in
      let counted : count_by not t.reached.items ≡ count_by not (set s.reached.items p true) = ap (count_by not) marked in
      let longer : length t.open.items ≡ length s.open.items + 1 = ap length opened ∙ simp length-append in
      omega arith

  pub marks_place : Marks s t (λ i. p ≡ i)
  marks_place = record {
    stay = stays;
    every = here;
    fresh = is_fresh;
    waits = λ i h. subst (λ items. Contains items i) (sym opened) (Contains-append_left s.open.items (p ∷ []) i h);
    open_marked = λ i h. elim (Contains-push_cases s.open.items p i (subst (λ items. Contains items i) opened h)) [
      | inl old ↦ inl old
      | inr e ↦ inr (here i e)
    ];
    long = ap length marked ∙ length-set s.reached.items p true;
    left = all_left;
  }

-- no place
pub marks_none : (s : Search) (P : ℕ → Type 0) → ((i : ℕ) → P i → ⊥) → Marks s s P
marks_none s P none = record {
  stay = λ i h. h;
  every = λ i h. absurd (none i h);
  fresh = λ i h. inl h;
  waits = λ i h. h;
  open_marked = λ i h. inl h;
  long = refl;
  left = refl;
}

-- some places, and then others
module _ (s t u : Search) (P Q R : ℕ → Type 0) (first : Marks s t P) (second : Marks t u Q) (to : (i : ℕ) → R i → P i ⊎ Q i) (from_first : (i : ℕ) → P i → R i) (from_second : (i : ℕ) → Q i → R i) where
  both_fresh : (i : ℕ) → IsMarked u.reached.items i → IsMarked s.reached.items i ⊎ (R i × Contains u.open.items i)
  both_fresh i h = elim (second.fresh i h) [
    | inl middle ↦ elim (first.fresh i middle) [
      | inl old ↦ inl old
      | inr new ↦ inr (from_first i new.0, second.waits i new.1)
    ]
    | inr new ↦ inr (from_second i new.0, new.1)
  ]

  both_open : (i : ℕ) → Contains u.open.items i → Contains s.open.items i ⊎ IsMarked u.reached.items i
  both_open i h = elim (second.open_marked i h) [
    | inl middle ↦ elim (first.open_marked i middle) [
      | inl old ↦ inl old
      | inr new ↦ inr (second.stay i new)
    ]
    | inr new ↦ inr new
  ]

  pub marks_both : Marks s u R
  marks_both = record {
    stay = λ i h. second.stay i (first.stay i h);
    every = λ i h. elim (to i h) [
      | inl p ↦ second.stay i (first.every i p)
      | inr q ↦ second.every i q
    ];
    fresh = both_fresh;
    waits = λ i h. second.waits i (first.waits i h);
    open_marked = both_open;
    long = second.long ∙ first.long;
    left = second.left ∙ first.left;
  }

-- the places of some names, and of one more
pub marks_more : (number : List ℕ → Option ℕ) (names : List (List ℕ)) (k : ℕ) (name : List ℕ) (s t u : Search) → k < length names → name ≡ get_or names k name
    → Marks s t (IsPlaceOf number (take k names)) → Marks t u (λ i. number name ≡ Some i) → Marks s u (IsPlaceOf number (take (k + 1) names))
marks_more number names k name s t u h is first second =
    marks_both s t u (IsPlaceOf number (take k names)) (λ i. number name ≡ Some i) (IsPlaceOf number (take (k + 1) names)) first second to from_first from_second
  where
    all : take (k + 1) names ≡ take k names ++ name ∷ []
    all = take_more names k name h ∙ ap (λ n. take k names ++ n ∷ []) (sym is)

    to : (i : ℕ) → IsPlaceOf number (take (k + 1) names) i → IsPlaceOf number (take k names) i ⊎ (number name ≡ Some i)
    to i p = elim (Contains-push_cases (take k names) name p.0 (subst (λ ns. Contains ns p.0) all p.1)) [
      | inl old ↦ inl (p.0, old, p.2)
      | inr e ↦ inr (ap number e ∙ p.2)
    ]

    from_first : (i : ℕ) → IsPlaceOf number (take k names) i → IsPlaceOf number (take (k + 1) names) i
    from_first i p = (p.0, subst (λ ns. Contains ns p.0) (sym all) (Contains-append_left (take k names) (name ∷ []) p.0 p.1), p.2)

    from_second : (i : ℕ) → number name ≡ Some i → IsPlaceOf number (take (k + 1) names) i
    from_second i e = (name, subst (λ ns. Contains ns name) (sym all) (Contains-push (take k names) name), e)

-- the places of the imports of a module
pub marks_of_module : {T E : Type 0} (number : List ℕ → Option ℕ) (modules : List Module) (place : ℕ) (m : Module) (s t : Search) (r : Result T E) → slice_get modules place ≡ Some m
    → OnOk r (Marks s t (IsPlaceOf number m.imports)) → OnOk r ((n : Module) × (slice_get modules place ≡ Some n) × Marks s t (IsPlaceOf number n.imports))
marks_of_module number modules place m s t (Ok done) here marks = (m, here, marks)
marks_of_module number modules place m s t (Err e) here marks = tt
