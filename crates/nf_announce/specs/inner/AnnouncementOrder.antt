-- The order of announcements is total, and equal announcements are the same.
use Rattle.std.specs.Cmp.{IsTotalOrder, then_total, on_total, int_cmp_total}
use Rattle.std.specs.Cmp.Lexicographic.{nat_list_cmp_total}
use Rattle.nf_announce.specs.Announcements.{Announcement, announcement_cmp}

pub announcement_cmp_total : IsTotalOrder announcement_cmp
announcement_cmp_total = then_total (on_total (λ (a : Announcement). a.name) nat_list_cmp_total)
    (then_total (on_total (λ (a : Announcement). a.start) int_cmp_total)
    (then_total (on_total (λ (a : Announcement). a.stop) int_cmp_total)
    (on_total (λ (a : Announcement). a.rest) nat_list_cmp_total)))
