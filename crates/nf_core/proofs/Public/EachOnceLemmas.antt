-- Texts each once in the order in which they first appear: none is missing, none stands twice, and the place of one that
-- is there leads to it.
use Rattle.std.proofs.Common.{◌≡◌, ℕ, ◌<◌, ◌≤◌, ◌==◌, Bool, true, false, List, [], ◌∷◌, ◌++◌, length, get_or, Contains, bytes_eq, refl, sym, ap, subst, ◌∙◌, ◌⊎◌, inl, inr, position, nat_lt, Some, None, true≢false, if◌then◌else◌, arith, cond, rules}
use Rattle.std.specs.List.{list_any, IsDistinct}
use Rattle.std.specs.Cmp.Lexicographic.{bytes_decides, nat_list_eq_equiv}
use Rattle.std.proofs.lemmas.Bool.{cases_lt, eq-eqb, ne_eqb, lt-ltb, cond-true}
use Rattle.std.proofs.lemmas.List.Elements.{All-nil, All-cons, All-contains, Contains-append_left, Contains-append_cases}
use Rattle.std.proofs.lemmas.List.Sums.{fails_before_first, passes_at_first, position_or_len_is}
use Rattle.std.proofs.lemmas.Map.Keys.{IsDistinct-push, apart_from_distinct}
use Rattle.indexmap.specs.IndexSet.{insert_key, insert_all}
use Rattle.indexmap.proofs.CallerLemmas.{Contains-insert_key}
use Rattle.nf_core.specs.Texts.{text_eq}
use Rattle.nf_core.specs.Written.{place_of, each_once}

pub same : (s t : List ℕ) → text_eq s t ≡ true → s ≡ t
same s t = (bytes_decides s t).0

-- a set with one more text keeps what it had
Contains-insert_key_old : (ks : List (List ℕ)) (k t : List ℕ) → Contains ks t → Contains (insert_key text_eq ks k) t
Contains-insert_key_old ks k t h = by (list_any (text_eq k) ks)
  where
    by : (b : Bool) → Contains (if b then ks else ks ++ k ∷ []) t
    by true = h
    by false = Contains-append_left ks (k ∷ []) t h

Contains-insert_all_old : (texts all : List (List ℕ)) (t : List ℕ) → Contains all t → Contains (insert_all text_eq all texts) t
Contains-insert_all_old [] all t h = h
Contains-insert_all_old (x ∷ texts) all t h = Contains-insert_all_old texts (insert_key text_eq all x) t (Contains-insert_key_old all x t h)

Contains-insert_all : (texts all : List (List ℕ)) (t : List ℕ) → Contains texts t → Contains (insert_all text_eq all texts) t
Contains-insert_all [] all t h = absurd (omega (arith, h.1))
Contains-insert_all (x ∷ texts) all t h = by (Contains-append_cases (x ∷ []) texts t h) (Contains-insert_all texts (insert_key text_eq all x) t)
  where
    by : Contains (x ∷ []) t ⊎ Contains texts t → (Contains texts t → Contains (insert_all text_eq all (x ∷ texts)) t) → Contains (insert_all text_eq all (x ∷ texts)) t
    by (inl a) rest =
        let is : t ≡ x = All-contains (λ s. s ≡ x) (x ∷ []) t (All-cons (λ s. s ≡ x) x [] refl (All-nil (λ s. s ≡ x))) a in
        Contains-insert_all_old texts (insert_key text_eq all x) t (subst (λ s. Contains (insert_key text_eq all x) s) (sym is) (Contains-insert_key text_eq same all x))
    by (inr b) rest = rest b

-- none is missing
pub Contains-each_once : (texts : List (List ℕ)) (t : List ℕ) → Contains texts t → Contains (each_once texts) t
Contains-each_once texts t h = Contains-insert_all texts [] t h

IsDistinct-insert_key : (ks : List (List ℕ)) (k : List ℕ) → IsDistinct text_eq ks → IsDistinct text_eq (insert_key text_eq ks k)
IsDistinct-insert_key ks k d = by (list_any (text_eq k) ks) refl
  where
    by : (b : Bool) → list_any (text_eq k) ks ≡ b → IsDistinct text_eq (if b then ks else ks ++ k ∷ [])
    by true e = d
    by false e = IsDistinct-push nat_list_eq_equiv ks k d e

IsDistinct-insert_all : (texts all : List (List ℕ)) → IsDistinct text_eq all → IsDistinct text_eq (insert_all text_eq all texts)
IsDistinct-insert_all [] all d = d
IsDistinct-insert_all (x ∷ texts) all d = IsDistinct-insert_all texts (insert_key text_eq all x) (IsDistinct-insert_key all x d)

-- none stands twice
pub IsDistinct-each_once : (texts : List (List ℕ)) → IsDistinct text_eq (each_once texts)
unfolding IsDistinct
IsDistinct-each_once texts = IsDistinct-insert_all texts [] tt

le_by_not_lt : (a b : ℕ) → (a < b → ⊥) → b ≤ a
le_by_not_lt a b never = elim (cases_lt a b) [ inl h ↦ absurd (never h) | inr h ↦ h ]

module _ (names : List (List ℕ)) (t : List ℕ) (there : Contains names t) where
  -- the place of a text that is there is within the list
  pub place_of-lt : place_of names t < length names
  place_of-lt =
      let passes : bytes_eq t (get_or names there.0 t) ≡ true = ap (bytes_eq t) there.2 ∙ nat_list_eq_equiv.refl t in
      let found : place_of names t ≤ there.0 = le_by_not_lt there.0 (place_of names t) (λ h. true≢false (sym passes ∙ fails_before_first (bytes_eq t) names there.0 t h)) in
      let at : there.0 < length names = there.1 in
      omega arith

  pub position-place_of : position (bytes_eq t) names ≡ Some (place_of names t)
  position-place_of = cond-true (nat_lt (place_of names t) (length names)) (Some (place_of names t)) None (lt-ltb (place_of names t) (length names) place_of-lt)

  -- and leads to it
  pub get_or-place_of : (d : List ℕ) → get_or names (place_of names t) d ≡ t
  get_or-place_of d = sym (same t _ (passes_at_first (bytes_eq t) names d place_of-lt))

  -- and no other text has it
  pub place_of-eq : IsDistinct text_eq names → (n : ℕ) → n < length names → (place_of names t == n) ≡ bytes_eq t (get_or names n [])
  place_of-eq distinct n within = by (bytes_eq t (get_or names n [])) refl
    where
      here : t ≡ get_or names n [] → place_of names t ≡ n
      here e = position_or_len_is (bytes_eq t) names n [] (omega arith) (λ k h. ap (λ s. text_eq s (get_or names k [])) e ∙ nat_list_eq_equiv.symm (get_or names n []) (get_or names k []) ∙ apart_from_distinct text_eq names k n [] distinct h within) (λ _. ap (λ s. bytes_eq t s) (sym e) ∙ nat_list_eq_equiv.refl t)

      by : (b : Bool) → bytes_eq t (get_or names n []) ≡ b → (place_of names t == n) ≡ b
      by true e = eq-eqb _ n (here (same t _ e))
      by false e = ne_eqb _ n (λ p. true≢false (sym (ap (bytes_eq t) (sym (ap (λ m. get_or names m []) p) ∙ get_or-place_of []) ∙ nat_list_eq_equiv.refl t) ∙ e))

-- the text at the place that a search finds is the one that is searched
pub text_found : (names : List (List ℕ)) (t : List ℕ) (n : ℕ) → position (bytes_eq t) names ≡ Some n → get_or names n [] ≡ t
text_found names t n is = by (nat_lt (place_of names t) (length names)) refl is
  where
    by : (b : Bool) → nat_lt (place_of names t) (length names) ≡ b → cond b (Some (place_of names t)) None ≡ Some n → get_or names n [] ≡ t
    by true e found =
        let at : place_of names t ≡ n = cc in
        let within : place_of names t < length names = search (rules, e) in
        sym (same t _ (subst (λ m. bytes_eq t (get_or names m []) ≡ true) at (passes_at_first (bytes_eq t) names [] within)))
    by false e found = absurd cc
