-- Levels by number as levels by name.
use Rattle.std.proofs.Common.{◌≡◌, ℕ, zero, suc, ◌<◌, false, cond, List, [], ◌∷◌, length, get_or, map, Contains, bytes_eq, unwrap_or, Some, refl, sym, ap, ◌∙◌, arith}
use Rattle.std.specs.List.{IsDistinct, zip}
use Rattle.std.specs.Map.{lookup}
use Rattle.std.specs.Cmp.Lexicographic.{nat_list_eq_equiv}
use Rattle.std.proofs.lemmas.List.{length-map, get_or-map}
use Rattle.std.proofs.lemmas.List.Elements.{All-from_recursion}
use Rattle.std.proofs.lemmas.Map.Keys.{IsDistinct-head, IsDistinct-tail}
use Rattle.std.proofs.lemmas.Simd.{map-map}
use Rattle.nf_core.specs.Plan.{greatest}
use Rattle.nf_core.specs.Texts.{text_eq}
use Rattle.nf_core.specs.Trees.{Rule}
use Rattle.nf_core.specs.Written.{Levels, names_of, names_below, place_of, level_of_name, AreLevels}
use Rattle.nf_core.proofs.Public.EachOnceLemmas.{place_of-lt, get_or-place_of}
use Rattle.nf_core.proofs.Public.NameLemmas.{IsDistinct-names_of}
use Rattle.nf_order.specs.Dependence.{leveled_names}
use Rattle.nf_order.specs.inner.Graph.{graph_of, numbers_below}
use Rattle.nf_order.specs.inner.Marks.{level_in, level_at, level_over, HasLevel, AreMarks}
use Rattle.nf_order.specs.declared.marks.Mark.{Mark}
use Rattle.nf_order.specs.declared.marks.Mark.TheVariants.{New}
use Rattle.nf_order.proofs.ListLemmas.{map_alike}
use Rattle.nf_order.proofs.WalkLemmas.{reads_from_below, read_known}

zip-names : (names : List (List ℕ)) (ls : List ℕ) → length names ≡ length ls → leveled_names (zip names ls) ≡ names
zip-names [] [] e = refl
zip-names [] (l ∷ ls) e = refl
zip-names (n ∷ names) [] e = absurd (omega (arith, e))
zip-names (n ∷ names) (l ∷ ls) e = ap (λ ns. n ∷ ns) (zip-names names ls (omega (arith, e)))

-- a later name isn't the first one
pub apart : (n : List ℕ) (names : List (List ℕ)) → IsDistinct text_eq (n ∷ names) → (k : ℕ) (d : List ℕ) → k < length names → bytes_eq (get_or names k d) n ≡ false
apart n names distinct k d h =
    nat_list_eq_equiv.symm (get_or names k d) n ∙ All-from_recursion (λ l. text_eq n l ≡ false) names (IsDistinct-head text_eq n names distinct) k d h

-- the level that stands with a name is found by the name
lookup_at : (names : List (List ℕ)) (ls : List ℕ) → IsDistinct text_eq names → length names ≡ length ls → (k : ℕ) (d : List ℕ) (e : ℕ) → k < length names → lookup (bytes_eq (get_or names k d)) (zip names ls) ≡ Some (get_or ls k e)
lookup_at [] ls distinct same k d e h = absurd (omega (arith, h))
lookup_at (n ∷ names) [] distinct same k d e h = absurd (omega (arith, same))
lookup_at (n ∷ names) (l ∷ ls) distinct same zero d e h = ap (λ b. cond b (Some l) (lookup (bytes_eq n) (zip names ls))) (nat_list_eq_equiv.refl n)
lookup_at (n ∷ names) (l ∷ ls) distinct same (suc k) d e h =
    ap (λ b. cond b (Some l) (lookup (bytes_eq (get_or names k d)) (zip names ls))) (apart n names distinct k d (omega (arith, h)))
    ∙ lookup_at names ls (IsDistinct-tail text_eq n names distinct) (omega (arith, same)) k d e (omega (arith, h))

module _ (rules : List Rule) (marks : List Mark) (hold : AreMarks (graph_of rules) marks) where
  abbrev names : List (List ℕ)
  names = names_of rules

  abbrev levels : Levels
  levels = zip names (map level_in marks)

  each : length (graph_of rules) ≡ length names
  each = length-map names (numbers_below names rules)

  pub same_length : length names ≡ length (map level_in marks)
  same_length = sym each ∙ sym hold.each ∙ sym (length-map marks level_in)

  distinct : IsDistinct text_eq names
  distinct = IsDistinct-names_of rules

  level_is : (k : ℕ) (d : List ℕ) → k < length names → level_of_name levels (get_or names k d) ≡ Some (level_at marks k)
  level_is k d h =
      let within : k < length marks = omega (arith, h, each, hold.each) in
      lookup_at names (map level_in marks) distinct same_length k d 0 h ∙ ap Some (get_or-map level_in marks k New 0 within)

  of_name : (x : List ℕ) → Contains names x → level_of_name levels x ≡ Some (level_at marks (place_of names x))
  of_name x there = ap (level_of_name levels) (sym (get_or-place_of names x there [])) ∙ level_is (place_of names x) [] (place_of-lt names x there)

  pub AreLevels-marks : ((k : ℕ) → k < length (graph_of rules) → HasLevel marks k) → AreLevels rules levels
  AreLevels-marks all k d h =
      let name : List ℕ = get_or names k d in
      let ns : List (List ℕ) = names_below rules name in
      level_is k d h
      ∙ ap Some (hold.level k (all k (omega (arith, h, each))))
      ∙ ap (λ ms. Some (level_over marks ms)) (get_or-map (numbers_below names rules) names k d [] h)
      ∙ ap (λ ms. Some (greatest ms)) (
      map-map (λ m. suc (level_at marks m)) (place_of names) ns
      ∙ map_alike (λ x. suc (level_at marks (place_of names x))) (λ x. suc (unwrap_or (level_of_name levels x) 0)) ns (λ x c.
      ap (λ o. suc (unwrap_or o 0)) (sym (of_name x (read_known rules name x (reads_from_below rules name x c)).1)))
      )

  pub names-levels : leveled_names levels ≡ names
  names-levels = zip-names names (map level_in marks) same_length
