use Rattle.std.proofs.Common.{sym, ap, ◌∙◌, subst, true≢false}
use Rattle.std.specs.List.{list_any}
use Rattle.std.specs.BTreeMap.{is_at}
use Rattle.nf_core.specs.Sets.{IsSet, has}
use Rattle.nf_core.proofs.Public.SetLemmas.{IsSet-empty}
use Rattle.nf_index.specs.inner.Orders.{falls, times_cmp, has_times}
use Rattle.nf_index.proofs.store.Store.new.Goals as goal

pub invariant_of-result : goal.invariant_of-result
unfolding falls
invariant_of-result c = record {
  sorted = subst IsSet (sym c.new.ensures) IsSet-empty;
  stored = λ i there. absurd (true≢false (sym there ∙ ap (λ is. has is i) c.new.ensures));
  times = λ t. ap (list_any (is_at (times_cmp t))) c.new-2.ensures ∙ sym (ap (list_any (has_times t)) c.new.ensures);
  counted = sym (ap falls c.new.ensures);
}
