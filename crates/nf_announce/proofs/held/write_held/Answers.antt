use Rattle.std.proofs.Common.{◌≡◌, ℕ, List, ◌++◌, map, ap, ◌∙◌, rules, arith}
use Rattle.nf_core.specs.Plan.{Plan, is_head}
use Rattle.nf_core.specs.declared.intervals.Named.{Named}
use Rattle.nf_model.specs.Changes.{Content, named, pool_of}
use Rattle.nf_announce.specs.Announcements.{announcement}
use Rattle.nf_announce.proofs.HeldTextLemmas.{made_more, made_same, held_lines}
use Rattle.nf_announce.proofs.held.write_held.Goals as goal
use Rattle.nf_announce.proofs.held.write_held.Goals.{then-is_head+in_ok-announce, else-is_head}

pub loop-name-preserved : goal.loop-name-preserved
loop-name-preserved g c =
    let content : Content = g.I.Inferer.content c.args.inferer.now in
    let plan : Plan = c.args.plan.now in
    let items : ℕ → List Named = λ n. named n (pool_of content n) in
    elim c.if-is_head.branch [
      | then-is_head+in_ok-announce w ↦
          let is : c.if-is_head.announced.items ≡ c.loop-name.announced.items ++ map (announcement plan) (items c.loop-name.name) =
          ap (λ (v : _). v.items) w.announced-is ∙ w.in_ok-announce.ensures ∙ ap (λ held. c.loop-name.announced.items ++ map (announcement plan) (named c.loop-name.name held)) w.held.ensures.pool in
          made_more (announcement plan) items (is_head plan) c.loop-name.name c.loop-name.announced.items c.if-is_head.announced.items (search rules) c.loop-name.invariant is
      | else-is_head w ↦
          ap (λ (v : _). v.items) w.announced-is ∙ made_same (announcement plan) items (is_head plan) c.loop-name.name c.loop-name.announced.items (search rules) c.loop-name.invariant
    ]

pub returns : goal.returns
returns g c =
    held_lines (g.I.Inferer.content c.args.inferer.now) c.args.plan.now c.requires c.loop-name.name (omega arith) c.loop-name.announced.items c.loop-name.invariant
    c.push_ordered.new.lines c.new-lines.result c.new-lines.ensures c.in_ok-push_ordered.ensures
