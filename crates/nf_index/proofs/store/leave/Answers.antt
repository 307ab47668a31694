use Rattle.std.proofs.Common.{not, ◌&&◌, sym, ap, ◌∙◌}
use Rattle.nf_index.specs.inner.Orders.{has_end, is_same_end}
use Rattle.nf_index.proofs.EndLemmas.{end_left}
use Rattle.nf_index.proofs.store.leave.Goals as goal

pub returns-then-goes : goal.returns-then-goes
returns-then-goes c t =
    end_left c.args.times.now c.args.ends.now c.remove.new.self c.remove.ensures.was_sorted c.remove.ensures.rest t
    ∙ ap (λ b. has_end c.args.ends.now t && not (b && is_same_end c.args.times.now t)) (sym c.if-goes.true)
