use Rattle.std.proofs.Common.{◌⊎◌, ℕ, sym, subst, arith}
use Rattle.std.proofs.lemmas.List.{length-append}
use Rattle.nf_order.specs.inner.Marks.{HasLevel}
use Rattle.nf_order.proofs.CycleLemmas.{flag_push}
use Rattle.nf_order.proofs.order.leveled_in_either.Goals as goal

pub loop-number-preserved : goal.loop-number-preserved
loop-number-preserved c =
    let P : ℕ → Type 0 = λ n. HasLevel c.args.marks.now n ⊎ HasLevel c.args.others.now n in
    rw c.in_ok-push.ensures.items (record {
      each = rw length-append (omega (arith, c.loop-number.invariant.each));
      either = flag_push P c.loop-number.flags.items c.is_either_leveled.result c.loop-number.invariant.either (λ e. subst P (sym c.loop-number.invariant.each) (c.is_either_leveled.ensures e));
    })
