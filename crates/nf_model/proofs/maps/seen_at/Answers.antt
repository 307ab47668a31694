use Rattle.std.specs.Option.{option_copied}
use Rattle.nf_model.specs.Members.{IsEntryOver}
use Rattle.nf_model.proofs.EntryLemmas.{found_entry}
use Rattle.nf_model.proofs.maps.seen_at.Goals as goal

pub eval-requires : goal.eval-requires
eval-requires g c =
    (found_entry (IsEntryOver c.args.first.now (option_copied c.args.second)) c.args.entries.now c.args.place c.in_ok-entry.entry.now c.requires c.in_ok-entry.ensures).places

pub returns-clause-plain : goal.returns-clause-plain
returns-clause-plain g c =
    c.eval.ensures.plain
    (found_entry (IsEntryOver c.args.first.now (option_copied c.args.second)) c.args.entries.now c.args.place c.in_ok-entry.entry.now c.requires c.in_ok-entry.ensures).plain
