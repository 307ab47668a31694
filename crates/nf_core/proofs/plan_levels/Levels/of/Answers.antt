use Rattle.std.proofs.Common.{[], ap, sym, ◌∙◌, bytes_eq, slice_get, option_and_then}
use Rattle.std.proofs.lemmas.List.Quantifiers.{position-Some}
use Rattle.std.proofs.lemmas.Option.{slice_get_read}
use Rattle.nf_core.proofs.LevelPairLemmas.{lookup-zip}
use Rattle.nf_core.proofs.plan_levels.Levels.of.Goals as goal

-- src/plan_levels.rt:75:21
pub returns-in_err-place : goal.returns-in_err-place
returns-in_err-place c =
    rw (← c.self.view_is, lookup-zip (bytes_eq c.args.name.now) c.self.inside.names c.self.inside.levels.items c.self.invariant)
    (c.from_residual.ensures ∙ ap (option_and_then (slice_get c.self.inside.levels.items)) c.in_err-place.ensures)

-- src/plan_levels.rt:72:5
pub returns : goal.returns
returns c =
    let at = position-Some (bytes_eq c.args.name.now) c.self.inside.names c.in_ok-place.place [] (sym c.in_ok-place.ensures) in
    rw (← c.self.view_is, lookup-zip (bytes_eq c.args.name.now) c.self.inside.names c.self.inside.levels.items c.self.invariant)
    (sym (slice_get_read c.self.inside.levels.items _ c.in_ok-place.place c.index.result.now c.self.invariant at.0 c.index.ensures) ∙ ap (option_and_then (slice_get c.self.inside.levels.items)) c.in_ok-place.ensures)
