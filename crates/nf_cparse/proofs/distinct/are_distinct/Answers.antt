use Rattle.std.proofs.Common.{sym, subst, map, true≢false, ◌∙◌, ℕ, List, arith}
use Rattle.std.proofs.lemmas.Bool.{not-true, not-false}
use Rattle.nf_cparse.specs.inner.Distinct.{texts_in, AreSeen}
use denote.Ref.{Bor}
use Rattle.nf_cparse.proofs.DistinctLemmas.{seen_none, seen_twice, seen_more}
use Rattle.nf_cparse.proofs.distinct.are_distinct.Goals as goal

pub loop-text-init : goal.loop-text-init
loop-text-init c = subst (λ (keys : List (Bor (List ℕ))). AreSeen (map (λ (key : Bor (List ℕ)). key.now) keys) c.args.texts.now 0) (sym c.new-seen.ensures.empty) (seen_none c.args.texts.now)

pub returns-then-not-branch : goal.returns-then-not-branch
returns-then-not-branch c =
    let found = not-false _ (sym c.in_ok-add.ensures.added ∙ c.if-not-branch.true) in (
      λ t. absurd (true≢false (sym t)),
      λ d. absurd (seen_twice (texts_in c.loop-text.seen) c.args.texts.now c.loop-text.text-index c.as_str.result.now _ (c.as_str.ensures ∙ c.text-item.is) (omega arith) c.loop-text.invariant found d),
    )

pub loop-text-preserved : goal.loop-text-preserved
loop-text-preserved c =
    seen_more (texts_in c.loop-text.seen) c.args.texts.now c.loop-text.text-index c.as_str.result.now _ (c.as_str.ensures ∙ c.text-item.is) (omega arith) c.loop-text.invariant
    (texts_in c.add.new.seen) c.in_ok-add.ensures.texts (not-true _ (sym c.in_ok-add.ensures.added ∙ c.if-not-branch.false))
