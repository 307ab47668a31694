-- A suppressed one just goes; after a held one those that it bars arrive again.
use Rattle.std.proofs.Common.{◌≡◌, ◌+◌, List, subst, refl, sym, ap, ◌∙◌}
use Rattle.std.proofs.lemmas.Result.{on_ok_weaker}
use Rattle.nf_core.specs.Intervals.{Interval}
use Rattle.nf_core.specs.Sets.{IsSet, removed}
use Rattle.nf_core.proofs.Public.SetLemmas.{IsSet-removed}
use Rattle.nf_tally.specs.Numbers.{one_at}
use Rattle.nf_minimal.specs.inner.Judged.{IsJudged, Carries, present}
use Rattle.nf_minimal.specs.inner.Moves.{ArriveAll}
use Rattle.nf_minimal.proofs.JudgedLemmas.{suppressed_leaves}
use Rattle.nf_minimal.proofs.PresentLemmas.{fewer_suppressed}
use Rattle.nf_minimal.proofs.CarryLemmas.{carries_out}
use Rattle.nf_minimal.proofs.LeavingLemmas.{Left, was_held, left_judged, left_members, left_room}
use Rattle.nf_minimal.proofs.judging.Judging.leave.Goals as goal

pub returns-then-remove : goal.returns-then-remove
returns-then-remove c =
    let i = c.args.interval in
    let full = c.args.self.now.full in
    let held = c.args.self.now.held in
    let suppressed = c.args.self.now.suppressed in
    let out : c.remove.new.self ≡ removed i suppressed = c.remove.ensures.rest in
    let after = suppressed_leaves full i held suppressed c.requires.judged in
    record {
      full = refl;
      judged = subst (λ (is : List Interval). IsJudged full held is) (sym out) after;
      members = λ q. ap (λ (is : List Interval). present held is q + one_at i q) out ∙ fewer_suppressed full i q held suppressed c.requires.judged after (sym c.if-remove.ensures.found);
      net = λ was lead. lead;
    }

pub release-requires : goal.release-requires
release-requires c = subst IsSet (sym c.remove.ensures.rest) (IsSet-removed c.args.interval c.args.self.now.suppressed c.requires.judged.suppressed_set)

pub arrive_all-requires-clause-judged : goal.arrive_all-requires-clause-judged
arrive_all-requires-clause-judged c =
    let full = c.args.self.now.full in
    let i = c.args.interval in
    let left : Left full i c.args.self.now.held c.args.self.now.suppressed c.remove-2.new.self c.remove.new.self c.release.new.store c.in_ok-outer.outer =
    record {
      judged = c.requires.judged;
      there = c.requires.there;
      out = sym c.if-remove.ensures.found;
      held_is = c.remove-2.ensures.rest;
      stored_is = c.remove.ensures.rest;
      set = c.in_ok-outer.ensures.set;
      counts = c.in_ok-outer.ensures.counts;
      kept = c.in_ok-outer.ensures.rest;
      free = c.in_ok-outer.ensures.out;
    } in
    left_judged full i c.args.self.now.held c.args.self.now.suppressed c.remove-2.new.self c.remove.new.self c.release.new.store c.in_ok-outer.outer left

pub arrive_all-requires-clause-new : goal.arrive_all-requires-clause-new
arrive_all-requires-clause-new c =
    let full = c.args.self.now.full in
    let i = c.args.interval in
    let left : Left full i c.args.self.now.held c.args.self.now.suppressed c.remove-2.new.self c.remove.new.self c.release.new.store c.in_ok-outer.outer =
    record {
      judged = c.requires.judged;
      there = c.requires.there;
      out = sym c.if-remove.ensures.found;
      held_is = c.remove-2.ensures.rest;
      stored_is = c.remove.ensures.rest;
      set = c.in_ok-outer.ensures.set;
      counts = c.in_ok-outer.ensures.counts;
      kept = c.in_ok-outer.ensures.rest;
      free = c.in_ok-outer.ensures.out;
    } in
    left_room full i c.args.self.now.held c.args.self.now.suppressed c.remove-2.new.self c.remove.new.self c.release.new.store c.in_ok-outer.outer left

pub returns : goal.returns
returns c =
    let full = c.args.self.now.full in
    let i = c.args.interval in
    let left : Left full i c.args.self.now.held c.args.self.now.suppressed c.remove-2.new.self c.remove.new.self c.release.new.store c.in_ok-outer.outer =
    record {
      judged = c.requires.judged;
      there = c.requires.there;
      out = sym c.if-remove.ensures.found;
      held_is = c.remove-2.ensures.rest;
      stored_is = c.remove.ensures.rest;
      set = c.in_ok-outer.ensures.set;
      counts = c.in_ok-outer.ensures.counts;
      kept = c.in_ok-outer.ensures.rest;
      free = c.in_ok-outer.ensures.out;
    } in
    let held = c.args.self.now.held in
    let net : Carries held c.remove-2.new.self c.args.self.now.net c.leave.new.self =
    subst (λ (is : List Interval). Carries held is c.args.self.now.net c.leave.new.self) (sym c.remove-2.ensures.rest)
    (carries_out i i held c.args.self.now.net c.leave.new.self c.requires.judged.held_set (was_held full i c.args.self.now.held c.args.self.now.suppressed c.remove-2.new.self c.remove.new.self c.release.new.store c.in_ok-outer.outer left) refl c.in_ok-leave.ensures.ok) in
    on_ok_weaker c.arrive_all.result
    (λ (all : ArriveAll c.in_ok-outer.outer (record { full = full; held = c.remove-2.new.self; suppressed = c.release.new.store; net = c.leave.new.self }) c.arrive_all.new.self). record {
      full = all.full;
      judged = all.judged;
      members = λ q. ap (λ n. n + one_at i q) (all.members q) ∙ left_members full i c.args.self.now.held c.args.self.now.suppressed c.remove-2.new.self c.remove.new.self c.release.new.store c.in_ok-outer.outer left q;
      net = λ was lead. all.net was (net was lead);
    }) c.arrive_all.ensures
