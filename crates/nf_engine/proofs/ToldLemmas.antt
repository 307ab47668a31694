-- What entries that ascend by their names tell of the heads is what these tell by number.
use Rattle.std.proofs.Common.{◌≡◌, ℕ, zero, suc, ◌+◌, ◌<◌, ◌≤◌, ◌==◌, Bool, true, false, cond, List, [], ◌∷◌, ◌++◌, length, filter, flat_map, Option, Some, None, is_some, unwrap_or, get_or, All, refl, ap, sym, subst, ◌∙◌, inl, inr, arith, append_assoc, if◌then◌else◌}
use Rattle.std.specs.List.{range_with_len}
use Rattle.std.specs.List.Sorted.{IsStrictlySortedBy}
use Rattle.std.specs.Map.{lookup, keys_of}
use Rattle.std.specs.Ordering.{nat_cmp}
use Rattle.std.specs.declared.cmp.Ordering.TheVariants.{Less}
use Rattle.std.proofs.lemmas.Bool.{ne_eqb, eq-eqb}
use Rattle.std.proofs.lemmas.Bool.Decides.{eqb_tells}
use Rattle.std.proofs.lemmas.List.{append-nil}
use Rattle.std.proofs.lemmas.List.Elements.{All-nil, All-cons, All-head, All-tail, All-weaker}
use Rattle.std.proofs.lemmas.List.FromFn.{get_or-range_with_len, length-range_with_len}
use Rattle.std.proofs.lemmas.Map.Keys.{sorted_tail}
use Rattle.std.proofs.lemmas.Map.Views.{All-after_first}
use Rattle.nf_core.specs.Intervals.{Interval}
use Rattle.nf_core.specs.Plan.{Plan, is_head}
use Rattle.nf_core.specs.declared.intervals.Change.{Change}
use Rattle.nf_core.specs.declared.intervals.Delta.{Delta}
use Rattle.nf_core.specs.declared.intervals.Named.{Named}
use Rattle.nf_model.specs.Changes.{heads, named}
use Rattle.nf_engine.specs.inner.Deltas.{NamedDeltas, no_change, delta_at, is_changed, change_of_heads, told, IsTold}

-- ---- which names have entries
less_than : (m n : ℕ) → nat_cmp m n ≡ Less → m < n
less_than m n h = grind (arith)

-- the names of later entries are greater
later_names : (e : ℕ × Delta) (entries : NamedDeltas) → IsStrictlySortedBy nat_cmp (keys_of (e ∷ entries)) → All (λ (x : ℕ × Delta). e.0 < x.0) entries
later_names e entries sorted = from_keys entries (All-after_first nat_cmp e.0 (keys_of entries) sorted)
  where
    from_keys : (xs : NamedDeltas) → All (λ n. nat_cmp e.0 n ≡ Less) (keys_of xs) → All (λ (x : ℕ × Delta). e.0 < x.0) xs
    from_keys [] h = All-nil (λ (x : ℕ × Delta). e.0 < x.0)
    from_keys (x ∷ xs) h =
        All-cons (λ (y : ℕ × Delta). e.0 < y.0) x xs (less_than e.0 x.0 (All-head (λ n. nat_cmp e.0 n ≡ Less) x.0 (keys_of xs) h))
        (from_keys xs (All-tail (λ n. nat_cmp e.0 n ≡ Less) x.0 (keys_of xs) h))

-- a name before all entries has none
none_before : (n : ℕ) (entries : NamedDeltas) → All (λ (e : ℕ × Delta). n < e.0) entries → lookup (λ m. n == m) entries ≡ None
none_before n [] h = refl
none_before n (e ∷ entries) h =
    let before : n < e.0 = All-head (λ (x : ℕ × Delta). n < x.0) e entries h in
    ap (λ b. cond b (Some e.1) (lookup (λ m. n == m) entries)) (ne_eqb n e.0 (λ same. absurd (omega (arith, before, same))))
    ∙ none_before n entries (All-tail (λ (x : ℕ × Delta). n < x.0) e entries h)

-- each entry's name has one
pub all_changed : (entries : NamedDeltas) → All (λ (e : ℕ × Delta). is_changed entries e.0 ≡ true) entries
all_changed [] = All-nil (λ (e : ℕ × Delta). is_changed [] e.0 ≡ true)
all_changed (e ∷ entries) =
    All-cons (λ (x : ℕ × Delta). is_changed (e ∷ entries) x.0 ≡ true) e entries
    (ap (λ b. is_some (cond b (Some e.1) (lookup (λ m. e.0 == m) entries))) (eq-eqb e.0 e.0 refl))
    (All-weaker (λ (x : ℕ × Delta). is_changed entries x.0 ≡ true) (λ (x : ℕ × Delta). is_changed (e ∷ entries) x.0 ≡ true)
    (λ x there. by x (x.0 == e.0) there) entries (all_changed entries))
  where
    by : (x : ℕ × Delta) (b : Bool) → is_changed entries x.0 ≡ true → is_some (cond b (Some e.1) (lookup (λ m. x.0 == m) entries)) ≡ true
    by x true there = refl
    by x false there = there

-- ---- what names give by number
joined_nothing : (ns : List ℕ) → flat_map (λ (n : ℕ). let none : List Named = [] in none) ns ≡ []
joined_nothing [] = refl
joined_nothing (n ∷ ns) = joined_nothing ns

-- names that give the same
pub joined_alike : (f g : ℕ → List Named) (ns : List ℕ) → All (λ n. f n ≡ g n) ns → flat_map f ns ≡ flat_map g ns
joined_alike f g [] h = refl
joined_alike f g (n ∷ ns) h =
    let here : f n ≡ g n = All-head (λ x. f x ≡ g x) n ns h in
    let rest : flat_map f ns ≡ flat_map g ns = joined_alike f g ns (All-tail (λ x. f x ≡ g x) n ns h) in
    cc

joined_filtered : (p : ℕ → Bool) (f : ℕ → List Named) (ns : List ℕ) → flat_map (λ n. if p n then f n else []) ns ≡ flat_map f (filter p ns)
joined_filtered p f [] = refl
joined_filtered p f (n ∷ ns) = by (p n) (joined_filtered p f ns)
  where
    by : (b : Bool) → flat_map (λ m. if p m then f m else []) ns ≡ flat_map f (filter p ns)
        → cond b (f n) [] ++ flat_map (λ m. if p m then f m else []) ns ≡ flat_map f (cond b (n ∷ filter p ns) (filter p ns))
    by true e = ap (λ (xs : List Named). f n ++ xs) e
    by false e = e

-- what a name gives by its delta, and nothing where it has none
abbrev given : (ℕ → Delta → List Named) → ℕ → Option Delta → List Named
given f n None = []
given f n (Some d) = f n d

module _ (f : ℕ → Delta → List Named) where
  abbrev at : NamedDeltas → ℕ → List Named
  at entries n = given f n (lookup (λ m. n == m) entries)

  past_first : (low count : ℕ) (e : ℕ × Delta) (entries : NamedDeltas) → e.0 ≡ low → flat_map (at (e ∷ entries)) (range_with_len (low + 1) count) ≡ flat_map (at entries) (range_with_len (low + 1) count)
  past_first low count e entries is =
      joined_alike (at (e ∷ entries)) (at entries) (range_with_len (low + 1) count)
      (λ k d within.
      let n : ℕ = get_or (range_with_len (low + 1) count) k d in
      let inside : k < count = subst (λ (m : ℕ). k < m) (length-range_with_len (low + 1) count) within in
      let n_is : n ≡ low + 1 + k = get_or-range_with_len (low + 1) count k d inside in
      ap (λ b. given f n (cond b (Some e.1) (lookup (λ m. n == m) entries))) (ne_eqb n e.0 (λ same. absurd (omega (arith, n_is, same, is)))))

  by_number : (count low : ℕ) (entries : NamedDeltas) → IsStrictlySortedBy nat_cmp (keys_of entries) → All (λ (e : ℕ × Delta). low ≤ e.0) entries
      → All (λ (e : ℕ × Delta). e.0 < low + count) entries → flat_map (λ (e : ℕ × Delta). f e.0 e.1) entries ≡ flat_map (at entries) (range_with_len low count)
  by_number count low [] sorted from within = sym (joined_nothing (range_with_len low count))
  by_number zero low (e ∷ entries) sorted from within =
      let least : low ≤ e.0 = All-head (λ (x : ℕ × Delta). low ≤ x.0) e entries from in
      let most : e.0 < low + 0 = All-head (λ (x : ℕ × Delta). x.0 < low + 0) e entries within in
      absurd (omega (arith, least, most))
  by_number (suc count) low (e ∷ entries) sorted from within =
      let later : All (λ (x : ℕ × Delta). e.0 < x.0) entries = later_names e entries sorted in
      let least : low ≤ e.0 = All-head (λ (x : ℕ × Delta). low ≤ x.0) e entries from in
      let inside : All (λ (x : ℕ × Delta). x.0 < low + 1 + count) (e ∷ entries) =
      All-weaker (λ (x : ℕ × Delta). x.0 < low + suc count) (λ (x : ℕ × Delta). x.0 < low + 1 + count) (λ x before. omega (arith, before)) (e ∷ entries) within in
      elim (eqb_tells e.0 low) [
        | inl is ↦
            let first : f e.0 e.1 ≡ at (e ∷ entries) low =
            ap (λ n. f n e.1) is.1 ∙ sym (ap (λ b. given f low (cond b (Some e.1) (lookup (λ m. low == m) entries))) (eq-eqb low e.0 (sym is.1))) in
            let rest : flat_map (λ (x : ℕ × Delta). f x.0 x.1) entries ≡ flat_map (at (e ∷ entries)) (range_with_len (low + 1) count) =
            by_number count (low + 1) entries (sorted_tail nat_cmp e.0 (keys_of entries) sorted)
            (All-weaker (λ (x : ℕ × Delta). e.0 < x.0) (λ (x : ℕ × Delta). low + 1 ≤ x.0) (λ x after. omega (arith, after, is.1)) entries later)
            (All-tail (λ (x : ℕ × Delta). x.0 < low + 1 + count) e entries inside)
            ∙ sym (past_first low count e entries is.1) in
            ap (λ (xs : List Named). xs ++ flat_map (λ (x : ℕ × Delta). f x.0 x.1) entries) first
            ∙ ap (λ (xs : List Named). at (e ∷ entries) low ++ xs) rest
        | inr other ↦
            let after : low < e.0 = omega (arith, least, other.1) in
            let none : at (e ∷ entries) low ≡ [] =
            ap (given f low) (none_before low (e ∷ entries)
            (All-cons (λ (x : ℕ × Delta). low < x.0) e entries after
            (All-weaker (λ (x : ℕ × Delta). e.0 < x.0) (λ (x : ℕ × Delta). low < x.0) (λ x behind. omega (arith, behind, after)) entries later))) in
            by_number count (low + 1) (e ∷ entries) sorted
            (All-cons (λ (x : ℕ × Delta). low + 1 ≤ x.0) e entries (omega (arith, after))
            (All-weaker (λ (x : ℕ × Delta). e.0 < x.0) (λ (x : ℕ × Delta). low + 1 ≤ x.0) (λ x behind. omega (arith, behind, after)) entries later))
            inside
            ∙ sym (ap (λ (xs : List Named). xs ++ flat_map (at (e ∷ entries)) (range_with_len (low + 1) count)) none)
      ]

-- ---- of heads
module _ (plan : Plan) (side : Delta → List Interval) (none : side no_change ≡ []) (entries : NamedDeltas) where
  at_name : (n : ℕ) → given (λ n d. if is_head plan n then named n (side d) else []) n (lookup (λ m. n == m) entries)
      ≡ (if is_head plan n then named n (side (delta_at entries n)) else [])
  at_name n = by (lookup (λ m. n == m) entries) (is_head plan n)
    where
      nothing : (b : Bool) → ◌≡◌ {A = List Named} [] (cond b [] [])
      nothing true = refl
      nothing false = refl

      by : (o : Option Delta) (b : Bool) → given (λ n d. if b then named n (side d) else []) n o ≡ cond b (named n (side (unwrap_or o no_change))) []
      by None b = nothing b ∙ sym (ap (λ (is : List Interval). cond b (named n is) []) none)
      by (Some d) b = refl

  pub told_by_number : IsStrictlySortedBy nat_cmp (keys_of entries) → ((n : ℕ) → is_changed entries n ≡ true → n < length plan.names)
      → told plan side entries ≡ flat_map (λ n. named n (side (delta_at entries n))) (heads plan)
  told_by_number sorted within =
      by_number (λ n d. if is_head plan n then named n (side d) else []) (length plan.names) 0 entries sorted
      (All-weaker (λ (e : ℕ × Delta). is_changed entries e.0 ≡ true) (λ (e : ℕ × Delta). 0 ≤ e.0) (λ e there. omega arith) entries (all_changed entries))
      (All-weaker (λ (e : ℕ × Delta). is_changed entries e.0 ≡ true) (λ (e : ℕ × Delta). e.0 < 0 + length plan.names)
      (λ e there. let named : e.0 < length plan.names = within e.0 there in omega (arith, named)) entries (all_changed entries))
      ∙ joined_alike (λ n. given (λ n d. if is_head plan n then named n (side d) else []) n (lookup (λ m. n == m) entries))
      (λ n. if is_head plan n then named n (side (delta_at entries n)) else []) (range_with_len 0 (length plan.names)) (λ k d inside. at_name (get_or (range_with_len 0 (length plan.names)) k d))
      ∙ joined_filtered (is_head plan) (λ n. named n (side (delta_at entries n))) (range_with_len 0 (length plan.names))

-- ---- a change, entry by entry
pub told_first : (plan : Plan) (entries : NamedDeltas) (within : (n : ℕ) → is_changed entries n ≡ true → n < length plan.names) (change : Change) → change.gone ≡ [] → change.come ≡ []
    → IsTold plan entries entries change
told_first plan entries within change gone come = record {
  gone = ap (λ (xs : List Named). xs ++ told plan (λ d. d.gone) entries) gone;
  come = ap (λ (xs : List Named). xs ++ told plan (λ d. d.come) entries) come;
  names =
      All-weaker (λ (e : ℕ × Delta). is_changed entries e.0 ≡ true) (λ (e : ℕ × Delta). e.0 < length plan.names) (λ e there. within e.0 there) entries (all_changed entries);
}

module _ (plan : Plan) (e : ℕ × Delta) (left entries : NamedDeltas) (old new : Change) (told_so : IsTold plan (e ∷ left) entries old)
    (gone : new.gone ≡ old.gone ++ (if is_head plan e.0 then named e.0 e.1.gone else []))
    (come : new.come ≡ old.come ++ (if is_head plan e.0 then named e.0 e.1.come else [])) where
  pub told_next : IsTold plan left entries new
  told_next = record {
    gone =
        ap (λ (xs : List Named). xs ++ told plan (λ d. d.gone) left) gone
        ∙ append_assoc old.gone (if is_head plan e.0 then named e.0 e.1.gone else []) (told plan (λ d. d.gone) left) ∙ told_so.gone;
    come =
        ap (λ (xs : List Named). xs ++ told plan (λ d. d.come) left) come
        ∙ append_assoc old.come (if is_head plan e.0 then named e.0 e.1.come else []) (told plan (λ d. d.come) left) ∙ told_so.come;
    names = All-tail (λ (x : ℕ × Delta). x.0 < length plan.names) e left told_so.names;
  }

-- where none is left the change is that of the heads
pub told_all : (plan : Plan) (entries : NamedDeltas) (change : Change) → IsStrictlySortedBy nat_cmp (keys_of entries)
    → ((n : ℕ) → is_changed entries n ≡ true → n < length plan.names) → IsTold plan [] entries change → change ≡ change_of_heads plan (delta_at entries)
told_all plan entries change sorted within told_so =
    let gone : change.gone ≡ flat_map (λ n. named n (delta_at entries n).gone) (heads plan) =
    sym (append-nil change.gone) ∙ told_so.gone ∙ told_by_number plan (λ d. d.gone) refl entries sorted within in
    let come : change.come ≡ flat_map (λ n. named n (delta_at entries n).come) (heads plan) =
    sym (append-nil change.come) ∙ told_so.come ∙ told_by_number plan (λ d. d.come) refl entries sorted within in
    ap (λ (xs : List Named). let made : Change = record { gone = xs; come = change.come } in made) gone
    ∙ ap (λ (xs : List Named). let made : Change = record { gone = flat_map (λ n. named n (delta_at entries n).gone) (heads plan); come = xs } in made) come
