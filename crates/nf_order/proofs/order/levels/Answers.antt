use Rattle.std.proofs.Common.{◌≡◌, ◌<◌, ◌^◌, ℕ, List, length, get_or, map, All, IsTrue, Err, inl, refl, sym, ap, subst, ◌∙◌, true≢false, arith}
use Rattle.std.specs.List.{zip}
use Rattle.std.proofs.lemmas.List.{get_or_default}
use Rattle.nf_core.specs.Trees.{Rule}
use Rattle.nf_core.specs.Written.{AreLevels, names_of}
use Rattle.nf_order.specs.Dependence.{leveled_names}
use Rattle.nf_order.specs.inner.Graph.{graph_of}
use Rattle.nf_order.specs.inner.Marks.{is_leveled, level_in, level_at, AreMarks}
use Rattle.nf_order.specs.declared.fault.OrderFault.TheVariants as fault
use Rattle.nf_order.specs.declared.marks.Mark.{Mark}
use Rattle.nf_order.specs.declared.marks.Mark.TheVariants.{New}
use Rattle.nf_order.proofs.CountLemmas.{few_high}
use Rattle.nf_order.proofs.HeadLemmas.{few_heads}
use Rattle.nf_order.proofs.NamedLevelLemmas.{AreLevels-marks, names-levels, same_length}
use Rattle.nf_order.proofs.CycleLemmas.{all_have, cycle_without}
use Rattle.nf_order.proofs.WalkLemmas.{IsAcyclic-leveled, no_first_cycle, one_first_cycle}
use Rattle.nf_order.proofs.order.levels.Goals as goal

few : (rules : List Rule) (marks : List Mark) → AreMarks (graph_of rules) marks → length rules < 2 ^ 32 → All (λ mark. level_in mark < 2 ^ 32) marks
few rules marks hold h k d l =
    let same_level : level_in (get_or marks k d) ≡ level_at marks k = ap level_in (get_or_default marks k d New l) in
    omega (arith, hold.few k, few_high (graph_of rules) marks hold, few_heads rules, h)

pub levels_in-requires : goal.levels_in-requires
levels_in-requires c =
    let hold : AreMarks (graph_of c.args.rules.now) c.in_ok-marks.marks.items = subst (λ g. AreMarks g c.in_ok-marks.marks.items) c.in_ok-graph.ensures c.in_ok-marks.ensures.marks_hold in
    rw c.as_slice-then-are_leveled.ensures.value (few c.args.rules.now c.in_ok-marks.marks.items hold c.requires.few)

pub of_names-requires : goal.of_names-requires
of_names-requires c =
    let hold : AreMarks (graph_of c.args.rules.now) c.in_ok-marks.marks.items = subst (λ g. AreMarks g c.in_ok-marks.marks.items) c.in_ok-graph.ensures c.in_ok-marks.ensures.marks_hold in
    let found : c.in_ok-levels.levels.items ≡ map level_in c.in_ok-marks.marks.items = c.in_ok-levels.ensures ∙ ap (map level_in) c.as_slice-then-are_leveled.ensures.value in
    ap length c.in_ok-names.ensures ∙ same_length c.args.rules.now c.in_ok-marks.marks.items hold ∙ ap length (sym found)

pub returns-then-are_leveled : goal.returns-then-are_leveled
returns-then-are_leveled c =
    let hold : AreMarks (graph_of c.args.rules.now) c.in_ok-marks.marks.items = subst (λ g. AreMarks g c.in_ok-marks.marks.items) c.in_ok-graph.ensures c.in_ok-marks.ensures.marks_hold in
    let all : All (λ mark. IsTrue (is_leveled mark)) c.in_ok-marks.marks.items = rw c.as_slice.ensures.value at (c.if-are_leveled.ensures.0 refl) in
    let have = λ (k : ℕ) (h : k < length (graph_of c.args.rules.now)). all_have c.in_ok-marks.marks.items all k (omega (arith, h, hold.each)) in
    let numbers : c.in_ok-levels.levels.items ≡ map level_in c.in_ok-marks.marks.items = c.in_ok-levels.ensures ∙ ap (map level_in) c.as_slice-then-are_leveled.ensures.value in
    let found : c.of_names.result ≡ zip (names_of c.args.rules.now) (map level_in c.in_ok-marks.marks.items) = c.of_names.ensures ∙ (λ i. zip (c.in_ok-names.ensures i) (numbers i)) in
    let right : AreLevels c.args.rules.now c.of_names.result = subst (AreLevels c.args.rules.now) (sym found) (AreLevels-marks c.args.rules.now c.in_ok-marks.marks.items hold have) in
    record {
      ok = right;
      names = ap leveled_names found ∙ names-levels c.args.rules.now c.in_ok-marks.marks.items hold;
      acyclic = IsAcyclic-leveled c.args.rules.now c.of_names.result right;
      cycle = λ name e. cc;
      every_cycle = λ name first. absurd (no_first_cycle c.args.rules.now c.of_names.result right name first);
    }

pub first_cycle-requires-clause-cycle : goal.first_cycle-requires-clause-cycle
first_cycle-requires-clause-cycle c =
    cycle_without c.in_ok-graph.graph c.in_ok-marks.marks.items c.in_ok-marks.ensures (λ all. true≢false (sym (c.if-are_leveled.ensures.1 (rw c.as_slice.ensures.value all))))

pub returns-clause-every_cycle : goal.returns-clause-every_cycle
returns-clause-every_cycle c name first = inl (ap (λ n. Err (fault.Cycle n)) (one_first_cycle c.args.rules.now c.in_ok-head.head name c.in_ok-head.ensures first))
