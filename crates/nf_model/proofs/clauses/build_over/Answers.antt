use Rattle.std.proofs.Common.{sym, subst, All}
use Rattle.std.specs.Option.{option_copied}
use Rattle.nf_model.specs.Members.{IsEntryOver}
use Rattle.nf_model.proofs.Public.PlaceLemmas.{entries_over, start_read, stop_read}
use Rattle.nf_model.proofs.clauses.build_over.Goals as goal

pub end_point-start-requires : goal.end_point-start-requires
end_point-start-requires g c =
    start_read c.args.first.now (option_copied c.args.second) c.args.rule.now (option_copied c.as_ref.result) c.as_ref.ensures.value c.requires.places

pub end_point-stop-requires : goal.end_point-stop-requires
end_point-stop-requires g c =
    stop_read c.args.first.now (option_copied c.args.second) c.args.rule.now (option_copied c.as_ref-2.result) c.as_ref-2.ensures.value c.requires.places

pub mapped_row-requires : goal.mapped_row-requires
mapped_row-requires g c =
    subst (λ entries. All (IsEntryOver c.args.first.now (option_copied c.args.second)) entries) (sym c.as_slice.ensures)
    (entries_over c.args.first.now (option_copied c.args.second) c.args.rule.now c.requires.planned c.requires.places)
