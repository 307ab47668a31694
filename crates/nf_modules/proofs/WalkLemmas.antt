-- A search goes along the imports of reached modules, and finds them all.
use Rattle.std.proofs.Common.{◌≡◌, ◌⊎◌, inl, inr, ◌↔◌, ℕ, zero, suc, ◌<◌, Bool, true, false, List, [], ◌∷◌, ◌++◌, length, get_or, slice_get, replicate, Option, Some, None, IsTrue, IfSome, Contains, refl, sym, ap, subst, ◌∙◌, arith}
use Rattle.std.proofs.lemmas.Option.{slice_get_within}
use Rattle.std.proofs.lemmas.List.{get_or-replicate, length-replicate}
use Rattle.std.proofs.lemmas.List.Elements.{Contains-push, Contains-append_left, Contains-push_cases}
use Rattle.nf_core.specs.declared.trees.Module.{Module}
use Rattle.nf_modules.specs.Selection.{Reached, AreReached, every, asked, imported}
use Rattle.nf_modules.specs.inner.Places.{ArePlaces}
use Rattle.nf_modules.specs.inner.Search.{IsMarked, IsPlaceOf, Marks}
use Rattle.nf_modules.specs.declared.search.Search.{Search}
use Rattle.nf_modules.proofs.ListLemmas.{Contains-at, at_Contains, AllZip-at}

-- what is known of a search from the module with a name: it is marked, what is marked is reached, and what a marked module imports is marked too where the module isn't open any more
pub record IsSearched (number : List ℕ → Option ℕ) (modules : List Module) (root : List ℕ) (s : Search) : Type 0 where
  pub long : length s.reached.items ≡ length modules
  pub first : (i : ℕ) → number root ≡ Some i → IsMarked s.reached.items i
  pub sound : (i : ℕ) (m : Module) → IsMarked s.reached.items i → slice_get modules i ≡ Some m → Reached modules (Some root) m
  pub open_marked : (i : ℕ) → Contains s.open.items i → IsMarked s.reached.items i
  pub closed : (i : ℕ) (m : Module) → IsMarked s.reached.items i → slice_get modules i ≡ Some m → Contains s.open.items i ⊎ ((j : ℕ) → IsPlaceOf number m.imports j → IsMarked s.reached.items j)

-- a marked place is one of the list
pub marked_within : (items : List Bool) (i : ℕ) → IsMarked items i → i < length items
marked_within [] i h = cc
marked_within (b ∷ items) zero h = omega arith
marked_within (b ∷ items) (suc i) h = let within : i < length items = marked_within items i h in omega arith

module _ (number : List ℕ → Option ℕ) (modules : List Module) (root : List ℕ) (are : ArePlaces number modules) where
  -- the module at the place of a name has the name
  named_at : (name : List ℕ) (i : ℕ) (m : Module) → number name ≡ Some i → slice_get modules i ≡ Some m → m.name ≡ Some name
  named_at name i m e at =
      let found : (n : Module) × (slice_get modules i ≡ Some n) × (n.name ≡ Some name) = are.named name i e in
      let some : slice_get modules i ≡ Some found.0 = found.1 in
      let same : found.0 ≡ m = cc in
      ap (λ (n : Module). n.name) (sym same) ∙ found.2

  -- the start: the root alone is marked
  module _ (s t : Search) (long : length s.reached.items ≡ length modules) (none : (i : ℕ) → IsMarked s.reached.items i → ⊥) (empty : s.open.items ≡ []) (marks : Marks s t (λ i. number root ≡ Some i)) where
    no_open : (i : ℕ) → Contains s.open.items i → ⊥
    no_open i h = let within : h.0 < length s.open.items = h.1 in let zero_long : length s.open.items ≡ 0 = ap length empty in omega arith

    fresh_root : (i : ℕ) → IsMarked t.reached.items i → (number root ≡ Some i) × Contains t.open.items i
    fresh_root i h = elim (marks.fresh i h) [
      | inl old ↦ absurd (none i old)
      | inr new ↦ new
    ]

    pub searched_start : IsSearched number modules root t
    searched_start = record {
      long = marks.long ∙ long;
      first = marks.every;
      sound = λ i m h at. asked refl (named_at root i m (fresh_root i h).0 at);
      open_marked = λ i h. elim (marks.open_marked i h) [
        | inl old ↦ absurd (no_open i old)
        | inr new ↦ new
      ];
      closed = λ i m h at. inl (fresh_root i h).1;
    }

  -- a turn: the imports of an open module are marked, and it isn't open any more
  module _ (s o t : Search) (rest : List ℕ) (place : ℕ) (m : Module) (is : IsSearched number modules root s) (popped : s.open.items ≡ rest ++ place ∷ []) (same : o.reached.items ≡ s.reached.items) (left : o.open.items ≡ rest)
      (here : slice_get modules place ≡ Some m) (marks : Marks o t (IsPlaceOf number m.imports)) where
    was_open : Contains s.open.items place
    was_open = subst (λ items. Contains items place) (sym popped) (Contains-push rest place)

    to_old : (i : ℕ) → IsMarked o.reached.items i → IsMarked s.reached.items i
    to_old i h = subst (λ items. IsMarked items i) same h

    from_old : (i : ℕ) → IsMarked s.reached.items i → IsMarked t.reached.items i
    from_old i h = marks.stay i (subst (λ items. IsMarked items i) (sym same) h)

    rest_open : (i : ℕ) → Contains o.open.items i → Contains s.open.items i
    rest_open i h = subst (λ items. Contains items i) (sym popped) (Contains-append_left rest (place ∷ []) i (subst (λ items. Contains items i) left h))

    still_sound : (i : ℕ) (n : Module) → IsMarked t.reached.items i → slice_get modules i ≡ Some n → Reached modules (Some root) n
    still_sound i n h at = elim (marks.fresh i h) [
      | inl old ↦ is.sound i n (to_old i old) at
      | inr new ↦ imported (Contains-at modules m place here) (is.sound place m (is.open_marked place was_open) here) new.0.1 (named_at new.0.0 i n new.0.2 at)
    ]

    still_closed : (i : ℕ) (n : Module) → IsMarked t.reached.items i → slice_get modules i ≡ Some n → Contains t.open.items i ⊎ ((j : ℕ) → IsPlaceOf number n.imports j → IsMarked t.reached.items j)
    still_closed i n h at = elim (marks.fresh i h) [
      | inl old ↦ elim (is.closed i n (to_old i old) at) [
        | inl held ↦ elim (Contains-push_cases rest place i (subst (λ items. Contains items i) popped held)) [
          | inl waiting ↦ inl (marks.waits i (subst (λ items. Contains items i) (sym left) waiting))
          | inr e ↦
              let at_place : slice_get modules place ≡ Some n = subst (λ j. slice_get modules j ≡ Some n) (sym e) at in
              let one : m ≡ n = cc in
              inr (λ j p. marks.every j (subst (λ (k : Module). IsPlaceOf number k.imports j) (sym one) p))
        ]
        | inr done ↦ inr (λ j p. from_old j (done j p))
      ]
      | inr new ↦ inl new.1
    ]

    pub searched_more : IsSearched number modules root t
    searched_more = record {
      long = marks.long ∙ ap length same ∙ is.long;
      first = λ i e. from_old i (is.first i e);
      sound = still_sound;
      open_marked = λ i h. elim (marks.open_marked i h) [
        | inl old ↦ from_old i (is.open_marked i (rest_open i old))
        | inr new ↦ new
      ];
      closed = still_closed;
    }

  -- the end: no module is open
  module _ (s : Search) (is : IsSearched number modules root s) (empty : s.open.items ≡ []) where
    closes : (i j : ℕ) (m : Module) → IsMarked s.reached.items i → slice_get modules i ≡ Some m → IsPlaceOf number m.imports j → IsMarked s.reached.items j
    closes i j m h at p = elim (is.closed i m h at) [
      | inl held ↦ let within : held.0 < length s.open.items = held.1 in let zero_long : length s.open.items ≡ 0 = ap length empty in absurd (omega arith)
      | inr done ↦ done j p
    ]

    complete : (m : Module) → Reached modules (Some root) m → (i : ℕ) → slice_get modules i ≡ Some m → IsMarked s.reached.items i
    complete m (every none) i at = cc
    complete m (asked {name} e named) i at =
        let same : root ≡ name = cc in
        is.first i (are.every i m root at (named ∙ ap Some (sym same)))
    complete n (imported {m} {n = k} {name} among reached imports named) i at =
        let place : (j : ℕ) × (slice_get modules j ≡ Some m) = at_Contains modules m among in
        closes place.0 i m (complete m reached place.0 place.1) place.1 (name, imports, are.every i n name at named)

    pub searched_all : AreReached modules (Some root) s.reached.items
    searched_all = AllZip-at (λ m is_reached. IsTrue is_reached ↔ Reached modules (Some root) m) modules s.reached.items is.long
        (λ i m at. (λ h. is.sound i m h at, λ r. complete m r i at))

at_replicate : (items : List Bool) (n : ℕ) (b : Bool) (i : ℕ) → items ≡ replicate n b → i < length items → get_or items i false ≡ b
at_replicate items n b i e h =
    let long : length items ≡ n = ap length e ∙ length-replicate n b in
    let within : i < n = omega arith in
    ap (λ all. get_or all i false) e ∙ get_or-replicate n i b false within

pub long_replicate : (items : List Bool) (n : ℕ) (b : Bool) → items ≡ replicate n b → length items ≡ n
long_replicate items n b e = ap length e ∙ length-replicate n b

-- a list of which each item is false marks no place
pub none_marked : (items : List Bool) (n : ℕ) → items ≡ replicate n false → (i : ℕ) → IsMarked items i → ⊥
none_marked items n e i h = let no : get_or items i false ≡ false = at_replicate items n false i e (marked_within items i h) in cc

-- without a root every module is reached
pub reached_all : (modules : List Module) (items : List Bool) → items ≡ replicate (length modules) true → AreReached modules None items
reached_all modules items e = AllZip-at (λ m is_reached. IsTrue is_reached ↔ Reached modules None m) modules items (long_replicate items (length modules) true e)
    (λ i m at. (λ h. every refl, λ r. let within : i < length modules = slice_get_within modules i m at in at_replicate items (length modules) true i e (let long : length items ≡ length modules = long_replicate items (length modules) true e in omega arith)))

-- the number of a name is a place
pub numbers_within : (number : List ℕ → Option ℕ) (modules : List Module) (n : ℕ) → ArePlaces number modules → n ≡ length modules → (name : List ℕ) → IfSome (number name) (λ i. i < n)
numbers_within number modules n are long name = by (number name) refl
  where
    by : (o : Option ℕ) → number name ≡ o → IfSome o (λ i. i < n)
    by None e = tt
    by (Some i) e = let found : (m : Module) × (slice_get modules i ≡ Some m) × (m.name ≡ Some name) = are.named name i e in
        let within : i < length modules = slice_get_within modules i found.0 found.1 in omega arith

-- an open place is one of the modules
pub open_within : (number : List ℕ → Option ℕ) (modules : List Module) (root : List ℕ) (s : Search) (rest : List ℕ) (place : ℕ) → IsSearched number modules root s → s.open.items ≡ rest ++ place ∷ [] → place < length modules
open_within number modules root s rest place is popped =
    let within : place < length s.reached.items = marked_within s.reached.items place (is.open_marked place (subst (λ items. Contains items place) (sym popped) (Contains-push rest place))) in
    let long : length s.reached.items ≡ length modules = is.long in
    omega arith
