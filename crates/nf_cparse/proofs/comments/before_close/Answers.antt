use Rattle.std.proofs.Common.{arith, sym, ◌∙◌, ◌≡◌, false, subst}
use Rattle.std.proofs.lemmas.List.{take_rest}
use Rattle.nf_cparse.proofs.CommentLemmas.{closes, close_more}
use Rattle.nf_cparse.proofs.comments.before_close.Goals as goal

pub loop-place-preserved : goal.loop-place-preserved
loop-place-preserved c =
    let xs = c.args.bytes.now in
    let i = c.loop-place.place in
    let open' = subst (λ b. closes b ≡ false) (take_rest xs i) (sym c.starts_with.ensures.value ∙ c.if-starts_with.false) in
    let more = close_more xs i c.loop-place-test.true open' in
    (omega arith, omega (arith, c.loop-place.invariant.1))
