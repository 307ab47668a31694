-- Texts that were seen.
use Rattle.std.proofs.Common.{◌≡◌, ℕ, ◌+◌, ◌<◌, ◌≤◌, true, false, List, [], ◌∷◌, ◌++◌, length, map, take, get_or, refl, sym, ap, ◌∙◌, subst, true≢false, cond, arith}
use Rattle.std.specs.List.{list_any, IsDistinct}
use Rattle.std.specs.Cmp.Lexicographic.{nat_list_eq_equiv}
use Rattle.std.proofs.lemmas.List.{get_or-map, get_or-take, get_or_default, length-take-le, take_more, take_all}
use Rattle.std.proofs.lemmas.List.Folds.{list_any_none}
use Rattle.std.proofs.lemmas.Map.Keys.{IsDistinct-push, apart_from_distinct}
use Rattle.indexmap.specs.IndexSet.{insert_key}
use Rattle.nf_core.specs.Texts.{text_eq}
use Rattle.nf_lemmas.proofs.MapLemmas.{list_any-map, insert_key-map}
use Rattle.nf_cast.specs.declared.manifests.CName.{CName}
use Rattle.nf_cparse.specs.inner.Distinct.{AreSeen}
use denote.Ref.{Bor}

-- texts are those of borrows
pub not_in_texts : (keys : List (Bor (List ℕ))) (text : Bor (List ℕ)) → list_any (λ (key : Bor (List ℕ)). text_eq text.now key.now) keys ≡ list_any (text_eq text.now) (map (λ (key : Bor (List ℕ)). key.now) keys)
not_in_texts keys text = sym (list_any-map (λ (key : Bor (List ℕ)). key.now) (text_eq text.now) keys)

pub texts_in_more : (keys : List (Bor (List ℕ))) (text : Bor (List ℕ)) → map (λ (key : Bor (List ℕ)). key.now) (insert_key (λ (a b : Bor (List ℕ)). text_eq a.now b.now) keys text) ≡ insert_key text_eq (map (λ (key : Bor (List ℕ)). key.now) keys) text.now
texts_in_more keys text = insert_key-map (λ (key : Bor (List ℕ)). key.now) (λ (a b : Bor (List ℕ)). text_eq a.now b.now) text_eq (λ a b. refl) keys text

-- one more text is seen
module _ (seen texts : List (List ℕ)) (i : ℕ) (text d : List ℕ) (is : text ≡ get_or texts i d) (within : i < length texts) (h : AreSeen seen texts i) where
  apart_from_seen : IsDistinct text_eq texts → list_any (text_eq text) seen ≡ false
  apart_from_seen distinct = ap (list_any (text_eq text)) h.are ∙ list_any_none (text_eq text) (take i texts) (λ k e l.
      let below : k < i = omega (arith, length-take-le i texts (omega arith)) in
      ap (text_eq text) (get_or-take i texts k e below ∙ get_or_default texts k e d (omega arith))
      ∙ nat_list_eq_equiv.symm text (get_or texts k d)
      ∙ ap (λ t. text_eq (get_or texts k d) t) is
      ∙ apart_from_distinct text_eq texts k i d distinct below within)

  pub seen_twice : list_any (text_eq text) seen ≡ true → IsDistinct text_eq texts → ⊥
  seen_twice found distinct = true≢false (sym found ∙ apart_from_seen distinct)

  pub seen_more : (next : List (List ℕ)) → next ≡ insert_key text_eq seen text → list_any (text_eq text) seen ≡ false → AreSeen next texts (i + 1)
  seen_more next e absent =
      let pushed : next ≡ seen ++ text ∷ [] = e ∙ ap (λ b. cond b seen (seen ++ text ∷ [])) absent in
      record {
        are = pushed ∙ ap (λ xs. xs ++ text ∷ []) h.are ∙ ap (λ t. take i texts ++ t ∷ []) is ∙ sym (take_more texts i d within);
        distinct = subst (IsDistinct text_eq) (sym pushed) (IsDistinct-push nat_list_eq_equiv seen text h.distinct absent);
      }

pub seen_none : (texts : List (List ℕ)) → AreSeen [] texts 0
unfolding IsDistinct
seen_none texts = record { are = refl; distinct = tt }

pub seen_all : (seen texts : List (List ℕ)) (n : ℕ) → length texts ≤ n → AreSeen seen texts n → IsDistinct text_eq texts
seen_all seen texts n l h = subst (IsDistinct text_eq) (h.are ∙ take_all n texts l) h.distinct

-- the text of a name by its place
pub text_of_name : (names : List CName) (i : ℕ) (n d : CName) → n ≡ get_or names i d → i < length names → n.name ≡ get_or (map (λ (m : CName). m.name) names) i d.name
text_of_name names i n d is within = ap (λ (m : CName). m.name) is ∙ sym (get_or-map (λ (m : CName). m.name) names i d d.name within)
