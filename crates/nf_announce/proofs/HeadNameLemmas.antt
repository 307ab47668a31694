-- The head with a text as its name.
use Rattle.std.proofs.Common.{◌≡◌, ℕ, ◌<◌, false, List, [], length, Contains, None, bytes_eq, position, sym, subst, ◌∙◌, ap, true≢false}
use Rattle.std.proofs.lemmas.List.Elements.{Contains-get_or}
use Rattle.nf_core.specs.Plan.{Plan, IsPlan, is_head, name_of}
use Rattle.nf_core.proofs.Public.EachOnceLemmas.{position-place_of}
use Rattle.nf_announce.specs.inner.LineParts.{IsHeadNamed}
use Rattle.nf_announce.proofs.Public.LineBackLemmas.{same_name}

-- a text that isn't found is no name
pub not_found : (plan : Plan) (text : List ℕ) → position (bytes_eq text) plan.names ≡ None → (n : ℕ) → IsHeadNamed plan text n → ⊥
not_found plan text none n h =
    let there : Contains plan.names text = subst (Contains plan.names) h.text_is (Contains-get_or plan.names n [] h.within) in
    let e = sym none ∙ position-place_of plan.names text there in absurd cc

-- where the name with the text is no head, no head has it
pub no_head : (plan : Plan) → IsPlan plan → (text : List ℕ) (m : ℕ) → m < length plan.names → name_of plan m ≡ text → is_head plan m ≡ false → (n : ℕ) → IsHeadNamed plan text n → ⊥
no_head plan valid text m within e other n h =
    true≢false (sym h.head ∙ ap (is_head plan) (same_name plan valid n m h.within within (h.text_is ∙ sym e)) ∙ other)
