use Rattle.std.proofs.Common.{◌≤◌, take, All}
use Rattle.nf_core.specs.Trees.{IsWritten}
use Rattle.nf_spec.specs.inner.Parsing.{AreParsedTo}
use Rattle.nf_parse.specs.Answers.{rules_in, size_of}
use Rattle.nf_spec.specs.Sources.{total}
use Rattle.nf_spec.proofs.parsing.parse_sources.Given as goal

-- the sources before the place were parsed
abbrev pub invariant-sources : goal.invariant-sources
invariant-sources l = record {
  parsed : AreParsedTo l.sources l.place l.modules.items;
  few : size_of l.modules.items ≤ total (take l.place l.sources);
  written : All IsWritten (rules_in l.modules.items);
}
