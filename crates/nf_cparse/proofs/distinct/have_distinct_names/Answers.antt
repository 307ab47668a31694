use Rattle.std.proofs.Common.{sym, subst, map, true≢false, ◌∙◌, ℕ, List, arith}
use Rattle.std.proofs.lemmas.Bool.{not-true, not-false}
use Rattle.nf_cparse.specs.inner.Distinct.{texts_in, AreSeen}
use denote.Ref.{Bor}
use Rattle.nf_cast.specs.declared.manifests.CName.{CName}
use Rattle.std.proofs.lemmas.List.{length-map}
use Rattle.nf_cparse.proofs.DistinctLemmas.{seen_none, seen_twice, seen_more, text_of_name}
use Rattle.nf_cparse.proofs.distinct.have_distinct_names.Goals as goal

pub loop-name-init : goal.loop-name-init
loop-name-init c = subst (λ (keys : List (Bor (List ℕ))). AreSeen (map (λ (key : Bor (List ℕ)). key.now) keys) (map (λ (n : CName). n.name) c.args.names.now) 0) (sym c.new-seen.ensures.empty) (seen_none (map (λ (n : CName). n.name) c.args.names.now))

pub returns-then-not-branch : goal.returns-then-not-branch
returns-then-not-branch c =
    let found = not-false _ (sym c.in_ok-add.ensures.added ∙ c.if-not-branch.true) in
    let texts = map (λ (n : CName). n.name) c.args.names.now in (
      λ t. absurd (true≢false (sym t)),
      λ d. absurd (seen_twice (texts_in c.loop-name.seen) texts c.loop-name.name-index c.as_str.result.now _ (c.as_str.ensures ∙ text_of_name c.args.names.now c.loop-name.name-index c.name-item.result _ c.name-item.is (omega arith))
          (omega (arith, length-map c.args.names.now (λ (n : CName). n.name))) c.loop-name.invariant found d),
    )

pub loop-name-preserved : goal.loop-name-preserved
loop-name-preserved c =
    let texts = map (λ (n : CName). n.name) c.args.names.now in
    seen_more (texts_in c.loop-name.seen) texts c.loop-name.name-index c.as_str.result.now _ (c.as_str.ensures ∙ text_of_name c.args.names.now c.loop-name.name-index c.name-item.result _ c.name-item.is (omega arith))
    (omega (arith, length-map c.args.names.now (λ (n : CName). n.name))) c.loop-name.invariant
    (texts_in c.add.new.seen) c.in_ok-add.ensures.texts (not-true _ (sym c.in_ok-add.ensures.added ∙ c.if-not-branch.false))
