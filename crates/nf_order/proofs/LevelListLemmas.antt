-- Levels of the same names that agree name by name are one list.
use Rattle.std.proofs.Common.{◌≡◌, ℕ, suc, false, cond, List, [], ◌∷◌, length, get_or, map, All, bytes_eq, Some, refl, sym, ap, ◌∙◌, arith}
use Rattle.std.specs.List.{IsDistinct}
use Rattle.std.specs.Cmp.Lexicographic.{nat_list_eq_equiv}
use Rattle.std.proofs.lemmas.Map.Keys.{IsDistinct-tail}
use Rattle.nf_core.specs.Texts.{text_eq}
use Rattle.nf_core.specs.Trees.{Rule}
use Rattle.nf_core.specs.Written.{Levels, names_of, level_of_name, AreLevels}
use Rattle.nf_core.proofs.Public.NameLemmas.{IsDistinct-names_of}
use Rattle.nf_order.proofs.NamedLevelLemmas.{apart}
use Rattle.nf_order.proofs.WalkLemmas.{levels_agree}

abbrev name_in : List ℕ × ℕ → List ℕ
name_in l = l.0

-- the first level stands with the first name
at_first : (x : List ℕ × ℕ) (rest : Levels) (name : List ℕ) → x.0 ≡ name → level_of_name (x ∷ rest) name ≡ Some (x.1)
at_first x rest name is = ap (λ b. cond b (Some (x.1)) (level_of_name rest name)) (ap (bytes_eq name) is ∙ nat_list_eq_equiv.refl name)

-- other names have theirs after it
later : (x : List ℕ × ℕ) (rest : Levels) (first name : List ℕ) → x.0 ≡ first → bytes_eq name first ≡ false → level_of_name (x ∷ rest) name ≡ level_of_name rest name
later x rest first name is differs = ap (λ b. cond b (Some (x.1)) (level_of_name rest name)) (ap (bytes_eq name) is ∙ differs)

agreeing : (names : List (List ℕ)) (a b : Levels) → IsDistinct text_eq names → map name_in a ≡ names → map name_in b ≡ names → All (λ name. level_of_name a name ≡ level_of_name b name) names → a ≡ b
agreeing names [] [] distinct of_a of_b each = refl
agreeing names [] (y ∷ b) distinct of_a of_b each = absurd (omega (arith, ap length (of_a ∙ sym of_b)))
agreeing names (x ∷ a) [] distinct of_a of_b each = absurd (omega (arith, ap length (of_a ∙ sym of_b)))
agreeing [] (x ∷ a) (y ∷ b) distinct of_a of_b each = absurd (omega (arith, ap length of_a))
agreeing (n ∷ names) (x ∷ a) (y ∷ b) distinct of_a of_b each =
    let x_is : x.0 ≡ n = cc in
    let y_is : y.0 ≡ n = cc in
    let a_rest : map name_in a ≡ names = cc in
    let b_rest : map name_in b ≡ names = cc in
    let levels_alike : Some (x.1) ≡ Some (y.1) = sym (at_first x a n x_is) ∙ each 0 n (omega arith) ∙ at_first y b n y_is in
    let level_alike : x.1 ≡ y.1 = cc in
    let name_alike : x.0 ≡ y.0 = x_is ∙ sym y_is in
    let rest : a ≡ b = agreeing names a b (IsDistinct-tail text_eq n names distinct) a_rest b_rest (λ k d h.
    let name : List ℕ = get_or names k d in
    let differs : bytes_eq name n ≡ false = apart n names distinct k d h in
    sym (later x a n name x_is differs) ∙ each (suc k) d (omega (arith, h)) ∙ later y b n name y_is differs) in
    λ i. (name_alike i, level_alike i) ∷ rest i

-- so rules have at most one list of levels in the order of their names
pub same_levels : (rules : List Rule) (a b : Levels) → map (λ (l : List ℕ × ℕ). l.0) a ≡ names_of rules → map (λ (l : List ℕ × ℕ). l.0) b ≡ names_of rules → AreLevels rules a → AreLevels rules b → a ≡ b
same_levels rules a b of_a of_b leveled_a leveled_b = agreeing (names_of rules) a b (IsDistinct-names_of rules) of_a of_b (levels_agree rules a b leveled_a leveled_b)
