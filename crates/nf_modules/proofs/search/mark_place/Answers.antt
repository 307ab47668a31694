use Rattle.std.proofs.Common.{◌≡◌, ◌<◌, rules, length, get_or, false, refl}
use Rattle.nf_modules.proofs.MarkLemmas.{marks_place}
use Rattle.nf_modules.proofs.search.mark_place.Goals as goal

pub returns-in_ok-push : goal.returns-in_ok-push
returns-in_ok-push c =
    let within : c.args.place < length c.args.search.now.reached.items = c.requires in
    let free : get_or c.args.search.now.reached.items c.args.place false ≡ false = search rules in
    marks_place c.args.search.now _ c.args.place within free refl c.in_ok-push.ensures.items
