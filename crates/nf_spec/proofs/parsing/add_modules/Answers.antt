use Rattle.std.proofs.Common.{◌≡◌, [], ◌++◌, get_or, sym, ap, ◌∙◌, subst}
use Rattle.std.proofs.lemmas.List.{get_or_default}
use Rattle.nf_spec.specs.inner.Parsing.{IsRefusal}
use Rattle.nf_core.specs.Trees.{IsWritten}
use Rattle.nf_spec.proofs.ParsedSourceLemmas.{refusal_here, parsed_here, parsed_more, few_more, written_more}
use Rattle.nf_spec.proofs.parsing.add_modules.Goals as goal

pub returns-in-Err-clause-refused : goal.returns-in-Err-clause-refused
returns-in-Err-clause-refused c =
    let at : c.as_slice.result.now ≡ get_or c.args.sources.now c.args.place [] = c.as_slice.ensures ∙ c.index-sources-place.is ∙ get_or_default c.args.sources.now c.args.place c.index-sources-place.result [] c.requires.place in
    subst (IsRefusal c.args.sources.now) (sym c.refused_at.ensures)
    (refusal_here c.args.sources.now c.args.place c.args.modules.now.items c.as_slice.result.now c.in-Err.fault c.parse.result c.requires.place at c.requires.parsed c.in-Err.is c.parse.ensures.parses)

pub returns-in_ok-append-in-Ok-clause-parsed : goal.returns-in_ok-append-in-Ok-clause-parsed
returns-in_ok-append-in-Ok-clause-parsed c =
    let at : c.as_slice.result.now ≡ get_or c.args.sources.now c.args.place [] = c.as_slice.ensures ∙ c.index-sources-place.is ∙ get_or_default c.args.sources.now c.args.place c.index-sources-place.result [] c.requires.place in
    parsed_more c.args.sources.now c.args.place c.args.modules.now.items c.in-Ok.parsed c.append.new.self.items c.as_slice.result.now c.requires.place at c.requires.parsed
    (parsed_here c.as_slice.result.now c.in-Ok.parsed c.parse.result c.in-Ok.is c.parse.ensures.parses)
    (c.in_ok-append-in-Ok.ensures.items ∙ ap (λ added. c.args.modules.now.items ++ added) c.into_vec.ensures)

pub returns-in_ok-append-in-Ok-clause-few : goal.returns-in_ok-append-in-Ok-clause-few
returns-in_ok-append-in-Ok-clause-few c =
    let at : c.as_slice.result.now ≡ get_or c.args.sources.now c.args.place [] = c.as_slice.ensures ∙ c.index-sources-place.is ∙ get_or_default c.args.sources.now c.args.place c.index-sources-place.result [] c.requires.place in
    few_more c.args.sources.now c.args.place c.args.modules.now.items c.in-Ok.parsed c.append.new.self.items c.as_slice.result.now c.requires.place at
    (c.in_ok-append-in-Ok.ensures.items ∙ ap (λ added. c.args.modules.now.items ++ added) c.into_vec.ensures) c.requires.few c.in-Ok.ensures.few

pub returns-in_ok-append-in-Ok-clause-written : goal.returns-in_ok-append-in-Ok-clause-written
returns-in_ok-append-in-Ok-clause-written c =
    written_more IsWritten c.args.modules.now.items c.in-Ok.parsed c.append.new.self.items
    (c.in_ok-append-in-Ok.ensures.items ∙ ap (λ added. c.args.modules.now.items ++ added) c.into_vec.ensures) c.requires.written c.in-Ok.ensures.written
