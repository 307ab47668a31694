use Rattle.std.proofs.Common.{◌≡◌, true, ◌++◌, [], sym, subst, ◌∙◌, rules}
use Rattle.nf_index.proofs.FallLemmas.{none_in}
use Rattle.nf_index.specs.inner.Orders.{Covers}
use Rattle.nf_index.proofs.WalkLemmas.{covers_part, covers_split}
use Rattle.nf_index.proofs.plans.run.Goals as goal

pub returns-then-not-strictly : goal.returns-then-not-strictly
returns-then-not-strictly c w apart within = covers_part w _ c.args.begins.now _ c.part.ensures within

pub returns-then-is_none : goal.returns-then-is_none
returns-then-is_none c w apart within =
    covers_part w _ c.args.begins.now [] (sym (none_in c.next_in.result c.between-whole.result c.next_in.new.part c.next_in.ensures c.if-is_none.ensures) ∙ c.between-whole.ensures) within

pub returns : goal.returns
returns c w apart within =
    let on : c.args.strictly ≡ true = search (rules, c.if-not-strictly.false) in
    subst (Covers w c.args.begins.now) (λ k. sym c.between.ensures k ++ sym c.between-2.ensures k)
    (covers_split w c.args.low.now c.args.high.now c.after_times.result c.args.times.now c.args.begins.now (λ i there. c.after_times.ensures.is i (c.requires.stored i there)) within (apart on))
