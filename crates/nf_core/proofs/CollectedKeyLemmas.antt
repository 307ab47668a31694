-- The steps by which keys are collected from rules.
use Rattle.std.proofs.Common.{◌≡◌, ℕ, suc, ◌+◌, ◌<◌, Bool, true, false, List, [], ◌∷◌, ◌++◌, length, get_or, slice_set, take, map, flat_map, fold, replicate, option_to_list, cond, not, All, Contains, bytes_eq, refl, sym, ap, subst, ◌∙◌, append_assoc, arith, if◌then◌else◌, ◌⊎◌, inl, inr}
use Rattle.std.specs.List.{AllByRecursion, IsDistinct}
use Rattle.std.specs.BTreeSet.{insert_key}
use Rattle.std.specs.Cmp.Lexicographic.{nat_list_eq_equiv}
use Rattle.std.proofs.lemmas.List.{take_more, map_more, append-nil, get_or-map}
use Rattle.std.proofs.lemmas.List.Elements.{recursion_from_All}
use Rattle.std.proofs.lemmas.List.Sums.{fold-append}
use Rattle.std.proofs.lemmas.Grind.{flat_map-append}
use Rattle.nf_core.specs.Texts.{text_cmp, text_eq}
use Rattle.nf_core.specs.Trees.{atoms_of, expressions_of}
use Rattle.nf_core.specs.inner.Collected.{AreGiven}
use Rattle.nf_core.specs.Written.{keys_read_by, keys_by_rule, names_in, keys_read_in, keys_of_name, place_of, ascending}
use Rattle.nf_core.specs.declared.trees.Atom.{Atom}
use Rattle.nf_core.specs.declared.operators.Op.{Op}
use Rattle.nf_core.specs.declared.operators.Xop.{Xop}
use Rattle.nf_core.specs.declared.trees.Body.{Body}
use Rattle.nf_core.specs.declared.trees.Body.TheVariants as body
use Rattle.nf_core.specs.declared.trees.Entry.{Entry}
use Rattle.nf_core.specs.declared.trees.Expr.{Expr}
use Rattle.nf_core.specs.declared.trees.Rule.{Rule}
use Rattle.nf_core.proofs.Public.EachOnceLemmas.{same, place_of-lt, get_or-place_of}

-- what each item so far gives, and one more
pub flat_map_more : {A B : Type 0} (f : A → List B) (xs : List A) (i : ℕ) (d : A) → i < length xs → flat_map f (take (i + 1) xs) ≡ flat_map f (take i xs) ++ f (get_or xs i d)
flat_map_more f xs i d h =
    ap (flat_map f) (take_more xs i d h) ∙ flat_map-append f (take i xs) (get_or xs i d ∷ []) ∙ ap (λ last. flat_map f (take i xs) ++ last) (append-nil (f (get_or xs i d)))

-- what a fold over the images of the items so far becomes with one more
pub fold_map_more : {A B C : Type 0} (step : C → B → C) (start : C) (f : A → B) (xs : List A) (i : ℕ) (d : A) → i < length xs
    → fold step start (map f (take (i + 1) xs)) ≡ step (fold step start (map f (take i xs))) (f (get_or xs i d))
fold_map_more step start f xs i d h = ap (fold step start) (map_more f xs i d h) ∙ fold-append step start (map f (take i xs)) (f (get_or xs i d) ∷ [])

-- and a fold over what these images give
pub fold_flat_map_more : {A B C D : Type 0} (step : D → C → D) (start : D) (g : B → List C) (f : A → B) (xs : List A) (i : ℕ) (d : A) → i < length xs
    → fold step start (flat_map g (map f (take (i + 1) xs))) ≡ fold step (fold step start (flat_map g (map f (take i xs)))) (g (f (get_or xs i d)))
fold_flat_map_more step start g f xs i d h =
    ap (λ ys. fold step start (flat_map g ys)) (map_more f xs i d h)
    ∙ ap (fold step start) (flat_map-append g (map f (take i xs)) (f (get_or xs i d) ∷ []) ∙ ap (λ last. flat_map g (map f (take i xs)) ++ last) (append-nil (g (f (get_or xs i d)))))
    ∙ fold-append step start (flat_map g (map f (take i xs))) (g (f (get_or xs i d)))

module _ {X : Type 0} (f g : List ℕ → X) (t : List ℕ) (others : (n : List ℕ) → bytes_eq t n ≡ false → f n ≡ g n) where
  images_alike : (names : List (List ℕ)) → AllByRecursion (λ n. text_eq t n ≡ false) names → map f names ≡ map g names
  images_alike [] apart = refl
  images_alike (n ∷ names) apart = λ i. others n apart.0 i ∷ images_alike names apart.1 i

  -- the images of distinct names, with another image at the place of one
  image_at : (names : List (List ℕ)) → IsDistinct text_eq names → slice_set (map f names) (place_of names t) (g t) ≡ map g names
  unfolding IsDistinct
  image_at [] d = refl
  image_at (n ∷ names) d = by (bytes_eq t n) refl (image_at names d.1)
    where
      by : (b : Bool) → bytes_eq t n ≡ b → slice_set (map f names) (place_of names t) (g t) ≡ map g names → slice_set (f n ∷ map f names) (cond (not b) (1 + place_of names t) 0) (g t) ≡ g n ∷ map g names
      by true e rest =
          let is : t ≡ n = same t n e in
          λ i. g (is i) ∷ images_alike names (subst (λ s. AllByRecursion (λ m. text_eq s m ≡ false) names) (sym is) d.0) i
      by false e rest =
          let next : 1 + place_of names t ≡ suc (place_of names t) = omega arith in
          ap (λ p. slice_set (f n ∷ map f names) p (g t)) next ∙ (λ i. others n e i ∷ rest i)

module _ (names : List (List ℕ)) where
  pub given_alike : (first second : List ℕ → List (List ℕ)) (old new : List (List (List ℕ))) → ((name : List ℕ) → first name ≡ second name) → AreGiven names first old new → AreGiven names second old new
  given_alike first second old new alike given texts e = given texts e ∙ (λ i. map (λ name. ascending (texts name ++ alike name i)) names)

  -- what is given one after the other is given together
  pub given_then : (first second : List ℕ → List (List ℕ)) (old mid new : List (List (List ℕ))) → AreGiven names first old mid → AreGiven names second mid new → AreGiven names (λ name. first name ++ second name) old new
  given_then first second old mid new given more texts e =
      more (λ name. texts name ++ first name) (given texts e) ∙ (λ i. map (λ name. ascending (append_assoc (texts name) (first name) (second name) i)) names)

  -- the keys that a rule reads from its one atom, or from its two
  pub given_by_one : (rule : Rule) (first : Atom) (old new : List (List (List ℕ))) → atoms_of rule.body ≡ first ∷ [] → AreGiven names (λ name. keys_read_in name rule first) old new → AreGiven names (keys_read_by rule) old new
  given_by_one rule first old new is =
      given_alike (λ name. keys_read_in name rule first) (keys_read_by rule) old new (λ name. sym (append-nil (keys_read_in name rule first)) ∙ ap (flat_map (keys_read_in name rule)) (sym is))

  pub given_by_two : (rule : Rule) (first second : Atom) (old mid new : List (List (List ℕ))) → atoms_of rule.body ≡ first ∷ second ∷ []
      → AreGiven names (λ name. keys_read_in name rule first) old mid → AreGiven names (λ name. keys_read_in name rule second) mid new → AreGiven names (keys_read_by rule) old new
  given_by_two rule first second old mid new is one two =
      given_alike (λ name. keys_read_in name rule first ++ keys_read_in name rule second) (keys_read_by rule) old new
      (λ name. ap (λ last. keys_read_in name rule first ++ last) (sym (append-nil (keys_read_in name rule second))) ∙ ap (flat_map (keys_read_in name rule)) (sym is))
      (given_then (λ name. keys_read_in name rule first) (λ name. keys_read_in name rule second) old mid new one two)

  -- one name is given keys
  pub given_at : (t : List ℕ) (keys : List (List ℕ)) (old : List (List (List ℕ))) (n : ℕ) (d given : List (List ℕ)) → IsDistinct text_eq names → Contains names t
      → n ≡ place_of names t → given ≡ fold (insert_key text_cmp) (get_or old n d) keys
      → AreGiven names (λ name. if bytes_eq t name then keys else []) old (slice_set old n given)
  given_at t keys old n d given distinct there number now texts e =
      let before : get_or old n d ≡ ascending (texts t) =
      (λ i. get_or (e i) (number i) d) ∙ get_or-map (λ name. ascending (texts name)) names (place_of names t) [] d (place_of-lt names t there) ∙ ap (λ name. ascending (texts name)) (get_or-place_of names t there []) in
      let after : given ≡ ascending (texts t ++ (if bytes_eq t t then keys else [])) =
      now ∙ ap (λ list. fold (insert_key text_cmp) list keys) before ∙ sym (fold-append (insert_key text_cmp) [] (texts t) keys)
      ∙ ap (λ b. ascending (texts t ++ (if b then keys else []))) (sym (nat_list_eq_equiv.refl t)) in
      (λ i. slice_set (e i) (number i) (after i))
      ∙ image_at (λ name. ascending (texts name)) (λ name. ascending (texts name ++ (if bytes_eq t name then keys else []))) t
      (λ name apart. ap ascending (sym (append-nil (texts name)) ∙ ap (λ b. texts name ++ (if b then keys else [])) (sym apart))) names distinct

-- the atoms of a body with two of them
pub atoms_of-two : (b : Body) (first second : Atom) → ((op : Op) × (b ≡ body.Pair first op second)) ⊎ ((xop : Xop) × (b ≡ body.Unless first xop second)) → atoms_of b ≡ first ∷ second ∷ []
atoms_of-two b first second (inl pair) = ap atoms_of pair.1
atoms_of-two b first second (inr unless) = ap atoms_of unless.1

-- the names of a rule's atoms are among some names, where all of its names are
pub known_atoms : (names : List (List ℕ)) (rule : Rule) (atoms : List Atom) → atoms_of rule.body ≡ atoms → All (Contains names) (names_in rule) → AllByRecursion (Contains names) (map (λ (atom : Atom). atom.name) atoms)
known_atoms names rule atoms is known = subst (λ list. AllByRecursion (Contains names) (map (λ (atom : Atom). atom.name) list)) is (recursion_from_All (Contains names) (names_in rule) known).1

-- the keys that the expressions of a rule read, clause by clause
pub fold_expressions_of : {C D : Type 0} (step : D → C → D) (start : D) (read : Expr → List C) (rule : Rule)
    → fold step start (flat_map read (expressions_of rule))
    ≡ fold step (fold step (fold step (fold step start (flat_map read (option_to_list rule.filter))) (flat_map read (map (λ (entry : Entry). entry.value) rule.entries))) (flat_map read (option_to_list rule.start))) (flat_map read (option_to_list rule.stop))
fold_expressions_of {C = C} {D = D} step start read rule =
    more start (filter ++ values ++ first) last
    ∙ ap (λ s. fold step s (flat_map read last)) (more start (filter ++ values) first ∙ ap (λ s. fold step s (flat_map read first)) (more start filter values))
  where
    more : (s : D) (xs ys : List Expr) → fold step s (flat_map read (xs ++ ys)) ≡ fold step (fold step s (flat_map read xs)) (flat_map read ys)
    more s xs ys = ap (fold step s) (flat_map-append read xs ys) ∙ fold-append step s (flat_map read xs) (flat_map read ys)

    filter : List Expr
    filter = option_to_list rule.filter

    values : List Expr
    values = map (λ (entry : Entry). entry.value) rule.entries

    first : List Expr
    first = option_to_list rule.start

    last : List Expr
    last = option_to_list rule.stop

-- no keys before the first rule
pub none_collected : (names : List (List ℕ)) → replicate (length names) [] ≡ map (keys_of_name []) names
none_collected [] = refl
none_collected (n ∷ names) = ap (λ rest. [] ∷ rest) (none_collected names)

-- the keys of the rules so far, and of one more
pub collected_more : (names : List (List ℕ)) (rules : List Rule) (i : ℕ) (rule : Rule) (old new : List (List (List ℕ))) → i < length rules → rule ≡ get_or rules i rule
    → old ≡ map (keys_of_name (take i rules)) names → AreGiven names (keys_by_rule rule) old new → new ≡ map (keys_of_name (take (i + 1) rules)) names
collected_more names rules i rule old new h is so_far given =
    given (λ name. flat_map (λ r. keys_by_rule r name) (take i rules)) so_far
    ∙ sym (λ j. map (λ name. ascending ((flat_map_more (λ r. keys_by_rule r name) rules i rule h ∙ ap (λ r. flat_map (λ q. keys_by_rule q name) (take i rules) ++ keys_by_rule r name) (sym is)) j)) names)
