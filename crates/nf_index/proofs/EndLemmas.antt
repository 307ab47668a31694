-- The order by end as times go in and out.
use Rattle.std.proofs.Common.{◌≡◌, Bool, true, false, cond, not, ◌&&◌, ◌||◌, List, refl, ap, ◌∙◌}
use Rattle.std.specs.BTreeSet.{insert_key}
use Rattle.std.specs.List.Sorted.{IsStrictlySortedBy}
use Rattle.nf_blocks.specs.Blocks.{removed}
use Rattle.nf_blocks.proofs.Public.HasLemmas.{has_inserted, has_removed}
use Rattle.nf_index.specs.declared.times.Times.{Times}
use Rattle.nf_index.specs.inner.Orders.{times_cmp, is_same_end, has_end}
use Rattle.nf_index.proofs.IndexLemmas.{times_cmp_total, same_end_swapped}

-- times that are put in are there, besides those that were
pub end_entered : (u : Times) (ends more : List Times) → more ≡ insert_key times_cmp ends u → (t : Times) → has_end more t ≡ cond (is_same_end u t) true (has_end ends t)
end_entered u ends more e t =
    ap (λ ts. has_end ts t) e ∙ has_inserted times_cmp_total u ends t ∙ ap (λ b. b || has_end ends t) (same_end_swapped t u) ∙ or_is (is_same_end u t) (has_end ends t)
  where
    or_is : (b c : Bool) → (b || c) ≡ cond b true c
    or_is true c = refl
    or_is false c = refl

-- times that are taken out are gone, and the others stay
pub end_left : (u : Times) (ends fewer : List Times) → IsStrictlySortedBy times_cmp ends → fewer ≡ removed times_cmp u ends → (t : Times) → has_end fewer t ≡ (has_end ends t && not (is_same_end u t))
end_left u ends fewer s e t =
    ap (λ ts. has_end ts t) e ∙ has_removed times_cmp_total u ends t s ∙ ap (λ b. has_end ends t && not b) (same_end_swapped t u)
