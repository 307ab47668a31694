-- The intervals that match in a store are related.
use Rattle.std.proofs.Common.{◌≡◌}
use Rattle.nf_core.specs.Intervals.{Interval}
use Rattle.nf_core.specs.declared.terms.Link.{Link}
use Rattle.nf_index.specs.Matching.{stands, matches}
use Rattle.nf_index.specs.declared.relations.Rel.{Rel}
use Rattle.nf_index.specs.declared.relations.Which.{Which}
use Rattle.nf_index.specs.declared.relations.Which.TheVariants.{First, Second}
use Rattle.nf_pairs.specs.Partners.{is_related, paired}

pub matched_is : (link : Link) (rel : Rel) → ((i j : Interval) → stands rel i.start i.stop j.start j.stop ≡ is_related link i j)
    → (which : Which) (one j : Interval) → matches rel which one.start one.stop j ≡ paired which (is_related link) one j
matched_is link rel alike First one j = alike j one
matched_is link rel alike Second one j = alike one j
