use Rattle.std.proofs.Common.{ℕ, List, take}
use Rattle.std.specs.List.{AllByRecursion}
use Rattle.std.proofs.lemmas.List.Elements.{All-take}
use Rattle.nf_line.specs.ProperEvents.{IsProperEvent}
use Rattle.nf_line.specs.Trace.{trace}
use Rattle.nf_session.proofs.ReplayedTextLemmas.{AreKnown, IsGoodEvent, good_events, replayed_is_shown, shown_is_distinct}
use Rattle.nf_session.proofs.replay_laws.replay_is_what_is_shown.Goals as goal

pub returns : goal.returns
returns c =
    let known : AreKnown = record {
      proper = c.pools_have_proper_rows.ensures.proper;
      sets = c.pools_have_proper_rows.ensures.sets;
      none = c.pools_have_proper_rows.ensures.none;
    } in
    let good : (bytes : List ℕ) (k : ℕ) → AllByRecursion IsGoodEvent (take k (trace bytes).events) = λ bytes k.
    good_events (take k (trace bytes).events) (All-take IsProperEvent k (trace bytes).events (c.events_have_plain_values.ensures bytes)) in
    λ plan full bytes k valid.
    record {
      defined = replayed_is_shown known plan full valid (take k (trace bytes).events) (good bytes k) (c.follow_text_is_one_change_after_another.ensures plan full (take k (trace bytes).events));
      once = shown_is_distinct known plan full valid (take k (trace bytes).events) (good bytes k);
    }
