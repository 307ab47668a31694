use Rattle.std.proofs.Common.{rules, ◌≡◌, ◌<◌, [], get_or, length, ap, ◌∙◌, arith}
use Rattle.std.proofs.lemmas.List.{get_or_default}
use Rattle.nf_spec.specs.Sources.{specification_limit, total}
use Rattle.nf_spec.proofs.RoomLemmas.{no_room}
use Rattle.nf_spec.proofs.sources.are_too_long.Goals as goal

pub returns-then-room-length : goal.returns-then-room-length
returns-then-room-length c =
    let low : c.sources.source-index < length c.args.sources.now = omega (arith, c.sources-test.true) in
    let at : c.source-item.result ≡ get_or c.args.sources.now c.sources.source-index [] = c.source-item.is ∙ get_or_default c.args.sources.now c.sources.source-index c.source-item.result [] low in
    let over : c.sources.room < length c.source-item.result = omega (arith, c.if-room-length.true, ap length c.as_slice-length.ensures) in
    let past : specification_limit < total c.args.sources.now = no_room c.args.sources.now c.sources.source-index c.sources.room c.source-item.result low at c.sources.invariant over in
    search rules
