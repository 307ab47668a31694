-- The numbers of modules by their names.
use Rattle.std.proofs.Common.{◌≡◌, ◌≢◌, ◌⊎◌, inl, inr, ℕ, zero, suc, ◌+◌, ◌<◌, true, not, cond, ◌||◌, List, [], ◌∷◌, ◌++◌, length, take, drop, get_or, slice_get, Option, Some, None, is_some, option_to_list, Result, Ok, Err, IfErr, OnOk, bytes_eq, refl, sym, ap, subst, ◌∙◌, append_assoc}
use Rattle.std.specs.List.{list_any}
use Rattle.std.specs.Result.{IsErrAnd}
use Rattle.std.proofs.lemmas.Bool.{cases_Bool, or_cases}
use Rattle.std.proofs.Math.Bool.{or-true}
use Rattle.std.proofs.lemmas.List.{append-nil}
use Rattle.std.proofs.lemmas.Grind.{flat_map-append}
use Rattle.std.proofs.lemmas.Slice.Eq.{bytes_eq-Decides}
use Rattle.nf_core.specs.declared.trees.Module.{Module}
use Rattle.nf_modules.specs.Selection.{module_names, first_again, is_missing}
use Rattle.nf_modules.specs.inner.Places.{ArePlaces}
use Rattle.nf_modules.specs.declared.fault.ModuleFault.{ModuleFault}
use Rattle.nf_modules.specs.declared.fault.ModuleFault.TheVariants as fault
use Rattle.nf_modules.proofs.ListLemmas.{slice_get-kept, slice_get-last, slice_get-push, split_at}

-- the first name that stands twice, past names that don't
pub first_again-behind : (earlier xs ys : List (List ℕ)) → first_again earlier xs ≡ None → first_again earlier (xs ++ ys) ≡ first_again (earlier ++ xs) ys
first_again-behind earlier [] ys e = ap (λ all. first_again all ys) (sym (append-nil earlier))
first_again-behind earlier (x ∷ xs) ys e = elim (cases_Bool (list_any (bytes_eq x) earlier)) [
  | inl t ↦ let none : cond true (Some x) (first_again (earlier ++ x ∷ []) xs) ≡ None = subst (λ b. cond b (Some x) (first_again (earlier ++ x ∷ []) xs) ≡ None) t e in cc
  | inr f ↦ let none : first_again (earlier ++ x ∷ []) xs ≡ None = subst (λ b. cond b (Some x) (first_again (earlier ++ x ∷ []) xs) ≡ None) f e in
      subst (λ b. cond b (Some x) (first_again (earlier ++ x ∷ []) (xs ++ ys)) ≡ first_again (earlier ++ x ∷ xs) ys) (sym f) (first_again-behind (earlier ++ x ∷ []) xs ys none ∙ ap (λ all. first_again all ys) (simp append_assoc))
]

-- the names of some modules and one more
pub module_names-push : (ms : List Module) (m : Module) → module_names (ms ++ m ∷ []) ≡ module_names ms ++ option_to_list m.name
module_names-push ms m = flat_map-append (λ (n : Module). option_to_list n.name) ms (m ∷ []) ∙ ap (λ last. module_names ms ++ last) (append-nil (option_to_list m.name))

any_first : (o : Option (List ℕ)) (name : List ℕ) (rest : List (List ℕ)) → o ≡ Some name → list_any (bytes_eq name) (option_to_list o ++ rest) ≡ true
any_first None name rest e = cc
any_first (Some x) name rest e =
    let same : name ≡ x = cc in
    let yes : bytes_eq name x ≡ true = (bytes_eq-Decides name x).1 same in
    ap (λ b. b || list_any (bytes_eq name) rest) yes

any_later : (o : Option (List ℕ)) (name : List ℕ) (rest : List (List ℕ)) → list_any (bytes_eq name) rest ≡ true → list_any (bytes_eq name) (option_to_list o ++ rest) ≡ true
any_later None name rest h = h
any_later (Some x) name rest h = ap (λ b. bytes_eq name x || b) h ∙ or-true (bytes_eq name x)

any_split : (o : Option (List ℕ)) (name : List ℕ) (rest : List (List ℕ)) → list_any (bytes_eq name) (option_to_list o ++ rest) ≡ true → (o ≡ Some name) ⊎ (list_any (bytes_eq name) rest ≡ true)
any_split None name rest h = inr h
any_split (Some x) name rest h = elim (or_cases (bytes_eq name x) (list_any (bytes_eq name) rest) h) [
  | inl t ↦ inl (ap Some (sym ((bytes_eq-Decides name x).0 t)))
  | inr t ↦ inr t
]

-- where a module has a name, the name is among the names
pub named_any : (ms : List Module) (i : ℕ) (m : Module) (name : List ℕ) → slice_get ms i ≡ Some m → m.name ≡ Some name → list_any (bytes_eq name) (module_names ms) ≡ true
named_any [] i m name at is = cc
named_any (n ∷ ms) zero m name at is =
    let same : n ≡ m = cc in
    any_first n.name name (module_names ms) (ap (λ (k : Module). k.name) same ∙ is)
named_any (n ∷ ms) (suc i) m name at is = any_later n.name name (module_names ms) (named_any ms i m name at is)

-- a name that is among the names is that of a module
pub any_named : (ms : List Module) (name : List ℕ) → list_any (bytes_eq name) (module_names ms) ≡ true → (i : ℕ) × (m : Module) × (slice_get ms i ≡ Some m) × (m.name ≡ Some name)
any_named [] name h = cc
any_named (n ∷ ms) name h = elim (any_split n.name name (module_names ms) h) [
  | inl e ↦ (0, n, refl, e)
  | inr t ↦ let found : (i : ℕ) × (m : Module) × (slice_get ms i ≡ Some m) × (m.name ≡ Some name) = any_named ms name t in (suc found.0, found.1, found.2, found.3)
]

-- a name is that of a module exactly where it has a number
pub known : (number : List ℕ → Option ℕ) (ms : List Module) (name : List ℕ) → ArePlaces number ms → list_any (bytes_eq name) (module_names ms) ≡ is_some (number name)
known number ms name are = by (number name) refl
  where
    by : (o : Option ℕ) → number name ≡ o → list_any (bytes_eq name) (module_names ms) ≡ is_some o
    by None e = elim (cases_Bool (list_any (bytes_eq name) (module_names ms))) [
      | inl t ↦ let found : (i : ℕ) × (m : Module) × (slice_get ms i ≡ Some m) × (m.name ≡ Some name) = any_named ms name t in
          let some : number name ≡ Some found.0 = are.every found.0 found.1 name found.2 found.3 in cc
      | inr f ↦ f
    ]
    by (Some i) e = let found : (m : Module) × (slice_get ms i ≡ Some m) × (m.name ≡ Some name) = are.named name i e in named_any ms i found.0 name found.1 found.2

pub missing_number : (number : List ℕ → Option ℕ) (ms : List Module) (name : List ℕ) → ArePlaces number ms → is_missing ms name ≡ not (is_some (number name))
missing_number number ms name are = ap not (known number ms name are)

-- no modules
pub no_places : (number : List ℕ → Option ℕ) → ((name : List ℕ) → number name ≡ None) → ArePlaces number []
no_places number none = record {
  named = λ name i e. let h : number name ≡ None = none name in cc;
  every = λ i m name at is. cc;
  once = refl;
}

-- one more module, which has no name
pub places_unnamed : (number : List ℕ → Option ℕ) (ms : List Module) (m : Module) → m.name ≡ None → ArePlaces number ms → ArePlaces number (ms ++ m ∷ [])
places_unnamed number ms m unnamed are = record {
  named = λ name i e. let found : (n : Module) × (slice_get ms i ≡ Some n) × (n.name ≡ Some name) = are.named name i e in (found.0, slice_get-kept ms m found.0 i found.1, found.2);
  every = λ i n name at is. elim (slice_get-push ms m n i at) [
    | inl old ↦ are.every i n name old is
    | inr new ↦ let e : n.name ≡ None = ap (λ (k : Module). k.name) (sym new.1) ∙ unnamed in cc
  ];
  once = ap (first_again []) (module_names-push ms m ∙ ap (λ o. module_names ms ++ option_to_list o) unnamed ∙ append-nil (module_names ms)) ∙ are.once;
}

-- one more module, whose name is new
module _ (old new : List ℕ → Option ℕ) (ms : List Module) (m : Module) (name : List ℕ) (i : ℕ) (is : m.name ≡ Some name) (last : i ≡ length ms) (absent : old name ≡ None)
    (put : (other : List ℕ) → new other ≡ cond (bytes_eq name other) (Some i) (old other)) (are : ArePlaces old ms) where
  put_here : (other : List ℕ) → name ≡ other → new other ≡ Some i
  put_here other e = put other ∙ ap (λ b. cond b (Some i) (old other)) ((bytes_eq-Decides name other).1 e)

  put_else : (other : List ℕ) (j : ℕ) → old other ≡ Some j → new other ≡ Some j
  put_else other j e = elim (cases_Bool (bytes_eq name other)) [
    | inl t ↦ let same : name ≡ other = (bytes_eq-Decides name other).0 t in let none : old other ≡ None = subst (λ n. old n ≡ None) same absent in cc
    | inr f ↦ put other ∙ ap (λ b. cond b (Some i) (old other)) f ∙ e
  ]

  put_named : (other : List ℕ) (j : ℕ) → new other ≡ Some j → (n : Module) × (slice_get (ms ++ m ∷ []) j ≡ Some n) × (n.name ≡ Some other)
  put_named other j e = elim (cases_Bool (bytes_eq name other)) [
    | inl t ↦ let same : name ≡ other = (bytes_eq-Decides name other).0 t in
        let here : new other ≡ Some i = put_here other same in
        let j_is : j ≡ i = cc in
        (m, slice_get-last ms m j (j_is ∙ last), is ∙ ap Some same)
    | inr f ↦ let kept : old other ≡ Some j = sym (put other ∙ ap (λ b. cond b (Some i) (old other)) f) ∙ e in
        let found : (n : Module) × (slice_get ms j ≡ Some n) × (n.name ≡ Some other) = are.named other j kept in
        (found.0, slice_get-kept ms m found.0 j found.1, found.2)
  ]

  put_every : (j : ℕ) (n : Module) (other : List ℕ) → slice_get (ms ++ m ∷ []) j ≡ Some n → n.name ≡ Some other → new other ≡ Some j
  put_every j n other at named = elim (slice_get-push ms m n j at) [
    | inl kept ↦ put_else other j (are.every j n other kept named)
    | inr here ↦ let e : n.name ≡ Some name = ap (λ (k : Module). k.name) (sym here.1) ∙ is in
        let same : name ≡ other = cc in
        put_here other same ∙ ap Some (last ∙ sym here.0)
  ]

  put_once : first_again [] (module_names (ms ++ m ∷ [])) ≡ None
  put_once = ap (first_again []) (module_names-push ms m ∙ ap (λ o. module_names ms ++ option_to_list o) is)
      ∙ first_again-behind [] (module_names ms) (name ∷ []) are.once
      ∙ ap (λ b. cond b (Some name) None) (known old ms name are ∙ ap is_some absent)

  pub places_named : ArePlaces new (ms ++ m ∷ [])
  places_named = record { named = put_named; every = put_every; once = put_once }

-- a module whose name an earlier one has, behind modules of which no two have one name
pub twice : (number : List ℕ → Option ℕ) (ms later : List Module) (m : Module) (name : List ℕ) → m.name ≡ Some name → number name ≢ None → ArePlaces number ms → first_again [] (module_names (ms ++ m ∷ later)) ≡ Some name
twice number ms later m name is some are =
    ap (first_again []) (flat_map-append (λ (n : Module). option_to_list n.name) ms (m ∷ later) ∙ ap (λ o. module_names ms ++ (option_to_list o ++ module_names later)) is)
    ∙ first_again-behind [] (module_names ms) (name ∷ module_names later) are.once
    ∙ ap (λ b. cond b (Some name) (first_again (module_names ms ++ name ∷ []) (module_names later))) (known number ms name are ∙ there (number name) some)
  where
    there : (o : Option ℕ) → o ≢ None → is_some o ≡ true
    there None h = absurd (h refl)
    there (Some i) h = refl

-- what putting a module in by its name does, where the name is put in
module _ {T : Type 0} (old new : List ℕ → Option ℕ) (m : Module) (name : List ℕ) (i : ℕ) (is : m.name ≡ Some name) where
  pub added : (r : Result T ModuleFault) → OnOk r ((other : List ℕ) → new other ≡ cond (bytes_eq name other) (Some i) (old other)) → OnOk r (old name ≡ None)
      → OnOk r ((ms : List Module) → i ≡ length ms → ArePlaces old ms → ArePlaces new (ms ++ m ∷ []))
  added (Ok done) put absent = λ ms last are. places_named old new ms m name i is last absent put are
  added (Err f) put absent = tt

  pub refused : (r : Result T ModuleFault) → IfErr r (λ f. (f ≡ fault.NoMemory) ⊎ ((f ≡ fault.SameModule name) × (old name ≢ None)))
      → IfErr r (λ f. (f ≡ fault.NoMemory) ⊎ ((x : List ℕ) × (f ≡ fault.SameModule x) × ((ms later : List Module) → ArePlaces old ms → first_again [] (module_names (ms ++ m ∷ later)) ≡ Some x)))
  refused (Ok done) h = tt
  refused (Err f) h = elim h [
    | inl none ↦ inl none
    | inr same ↦ inr (name, same.0, λ ms later are. twice old ms later m name is same.1 are)
  ]

-- a fault that is handed on
pub failed : {T : Type 0} (P : ModuleFault → Type 0) (r : Result T ModuleFault) (f : ModuleFault) → IsErrAnd r (λ e. e ≡ f) → P f → IfErr r P
failed P (Ok x) f h p = tt
failed P (Err e) f h p = subst P (sym h) p

-- the fault of a module whose name stands twice, of all modules
pub refused_of_all : (number : List ℕ → Option ℕ) (ms : List Module) (i : ℕ) (m : Module) (f : ModuleFault) → i < length ms → m ≡ get_or ms i m → ArePlaces number (take i ms)
    → (f ≡ fault.NoMemory) ⊎ ((x : List ℕ) × (f ≡ fault.SameModule x) × ((before later : List Module) → ArePlaces number before → first_again [] (module_names (before ++ m ∷ later)) ≡ Some x))
    → (f ≡ fault.NoMemory) ⊎ ((x : List ℕ) × (f ≡ fault.SameModule x) × (first_again [] (module_names ms) ≡ Some x))
refused_of_all number ms i m f h is are why = elim why [
  | inl none ↦ inl none
  | inr same ↦ inr (same.0, same.1, ap (λ all. first_again [] (module_names all)) (split_at ms i m h is) ∙ same.2 (take i ms) (drop (i + 1) ms) are)
]
