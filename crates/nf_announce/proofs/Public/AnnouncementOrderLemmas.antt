-- A sorted list with some announcements is these announcements in order.
use Rattle.std.proofs.Common.{◌≡◌, List, [], ◌∷◌, cond, fold, refl, ap, ◌∙◌}
use Rattle.std.specs.declared.cmp.Ordering.{Ordering}
use Rattle.std.specs.declared.cmp.Ordering.TheVariants.{Less, Equal, Greater}
use Rattle.std.specs.Ordering.{ordering_then, is_gt}
use Rattle.std.specs.List.Sorted.{IsSorted, IsPermutation}
use Rattle.std.proofs.lemmas.Map.Lookups.{exact_bytes, exact_signed}
use Rattle.nf_core.proofs.Public.SameIntervalLemmas.{both_equal}
use Rattle.nf_announce.specs.Announcements.{Announcement, announcement_cmp, placed, in_order}
use Rattle.nf_announce.specs.inner.AnnouncementOrder.{announcement_cmp_total}
use Rattle.nf_announce.proofs.Public.OrderedListLemmas.{put, sorted_is_ordered}

-- equal announcements are the same
exact : (a b : Announcement) → announcement_cmp a b ≡ Equal → a ≡ b
exact a b e =
    let by_name = both_equal _ _ e in
    let by_start = both_equal _ _ by_name.1 in
    let by_stop = both_equal _ _ by_start.1 in
    let name = exact_bytes a.name b.name by_name.0 in
    let start = exact_signed a.start b.start by_start.0 in
    let stop = exact_signed a.stop b.stop by_stop.0 in
    let rest = exact_bytes a.rest b.rest by_stop.1 in
    λ i. record { name = name i; start = start i; stop = stop i; rest = rest i }

pub placed_is : (a : Announcement) (bs : List Announcement) → put announcement_cmp a bs ≡ placed a bs
placed_is a [] = refl
placed_is a (b ∷ bs) = ap (λ rest. cond (is_gt (announcement_cmp b a)) (a ∷ b ∷ bs) (b ∷ rest)) (placed_is a bs)

pub sorted_in_order : (xs ys : List Announcement) → IsPermutation xs ys → IsSorted announcement_cmp ys → ys ≡ in_order xs
sorted_in_order xs ys p s =
    sorted_is_ordered announcement_cmp announcement_cmp_total exact xs ys p s ∙ (λ i. fold (λ bs a. placed_is a bs i) [] xs)
