-- A barred one is suppressed; another one is held, after those that it bars gave way.
use Rattle.std.proofs.Common.{◌≡◌, false, not, ◌&&◌, Bool, List, subst, refl, sym, ap, ◌∙◌}
use Rattle.nf_core.specs.Intervals.{Interval}
use Rattle.nf_core.specs.Sets.{has, inserted}
use Rattle.nf_minimal.specs.inner.Barred.{bars}
use Rattle.nf_minimal.specs.inner.Judged.{IsJudged, Carries, present}
use Rattle.nf_minimal.proofs.JudgedLemmas.{suppressed_arrives, held_arrives}
use Rattle.nf_minimal.proofs.PresentLemmas.{neither_has, more_suppressed, more_held}
use Rattle.nf_minimal.proofs.CarryLemmas.{carries_in}
use Rattle.nf_minimal.proofs.judging.Judging.arrive.Goals as goal

pub returns-then-is_barred : goal.returns-then-is_barred
returns-then-is_barred c =
    let i = c.args.interval in
    let full = c.args.self.now.full in
    let held = c.args.self.now.held in
    let suppressed = c.args.self.now.suppressed in
    let out = neither_has (has held i) (has suppressed i) c.requires.new in
    let put : c.insert.new.self ≡ inserted i suppressed = c.in_ok-insert.ensures.ok in
    let after = suppressed_arrives full i held suppressed c.requires.judged (sym c.is_barred.ensures ∙ c.if-is_barred.true) in
    record {
      full = refl;
      judged = subst (λ (is : List Interval). IsJudged full held is) (sym put) after;
      members = λ q. ap (λ (is : List Interval). present held is q) put ∙ more_suppressed full i q held suppressed c.requires.judged after out.1;
      net = λ was lead. lead;
    }

pub returns : goal.returns
returns c =
    let i = c.args.interval in
    let full = c.args.self.now.full in
    let held = c.args.self.now.held in
    let suppressed = c.args.self.now.suppressed in
    let way = c.in_ok-give_way.ensures in
    let rest = c.give_way.new.self.held in
    let others = c.give_way.new.self.suppressed in
    let out = neither_has (has held i) (has suppressed i) c.requires.new in
    let put : c.insert-2.new.self ≡ inserted i rest = c.in_ok-insert-2.ensures.ok in
    let after = held_arrives full i held suppressed rest others c.requires.judged (sym c.is_barred.ensures ∙ c.if-is_barred.false) way.held_set way.suppressed_set way.held way.suppressed in
    let gone : has rest i ≡ false = way.held i ∙ ap (λ b. b && not (bars full i i)) out.0 in
    record {
      full = way.full;
      judged = subst (λ (f : Bool). IsJudged f c.insert-2.new.self others) (sym way.full) (subst (λ (is : List Interval). IsJudged full is others) (sym put) after);
      members = λ q. ap (λ (is : List Interval). present is others q) put ∙ more_held full i q held suppressed c.requires.judged full rest others after gone (way.held q) (way.suppressed q);
      net = λ was lead. subst (λ (is : List Interval). Carries rest is c.give_way.new.self.net c.enter.new.self) (sym put)
          (carries_in i rest c.give_way.new.self.net c.enter.new.self gone c.in_ok-enter.ensures.ok) was (way.net was lead);
    }
