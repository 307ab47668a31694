use Rattle.std.proofs.Common.{◌≡◌, ◌+◌, ◌≤◌, length, ap, ◌∙◌, subst, Option, IfSome, arith, length-append, [], ◌∷◌, ◌++◌, refl, rules}
use Rattle.nf_io.specs.Files.{Files}
use Rattle.nf_spec.specs.Sources.{specification_limit, total}
use Rattle.nf_spec.proofs.Public.TotalLemmas.{total_more}
use Rattle.nfer_cli.proofs.FilesReadLemmas.{nothing_total, nothing_known, nothing_asked, known_more, asked_here, ends_before}
use Rattle.nfer_cli.proofs.ShortReadLemmas.{fails_here}
use Rattle.nfer_cli.proofs.sources.read_sources.Goals as goal

pub names-init : goal.names-init
names-init g c = record {
  files = refl;
  later = omega arith;
  calm = λ some. absurd (omega arith);
  count = ap length c.new-sources.ensures;
  room = ap (λ sources. total sources + specification_limit) c.new-sources.ensures;
  fits = nothing_total c.new-sources.result c.new-sources.ensures;
  known = nothing_known (g.F.Shelf.tells c.args.shelf.now).files c.args.names.now c.new-sources.result c.new-sources.ensures;
  asks = nothing_asked (g.F.Shelf.tells c.args.shelf.now).files c.args.names.now (g.F.Shelf.tells c.args.shelf.now).asked;
  end = λ some. absurd (omega arith);
}

pub names-preserved : goal.names-preserved
names-preserved g c =
    let told = λ (P : Files → Type 0). subst (λ (t : Option Files). IfSome t P) c.names.invariant.files in
    let source = c.in_ok-source.source in
    let low : length source ≤ c.names.room = c.in_ok-source.ensures.fits in
    let pushed : c.push.new.self ≡ c.names.sources ++ source ∷ [] = c.in_ok-push.ensures.ok in
    let count : length c.push.new.self ≡ length c.names.sources + 1 = ap length pushed ∙ length-append c.names.sources (source ∷ []) in
    let bytes : total c.push.new.self ≡ total c.names.sources + length source = ap total pushed ∙ total_more c.names.sources source in
    let taken = ap length c.as_slice.ensures in
    record {
      files = c.read_source.ensures.files ∙ c.names.invariant.files;
      later = omega (arith, c.read_source.ensures.never_falls, c.names.invariant.later);
      calm = λ some. c.in_ok-source.ensures.failed;
      count = omega (arith, count, c.names.invariant.count);
      room = omega (arith, bytes, taken, low, c.names.invariant.room);
      fits = omega (arith, bytes, low, c.names.invariant.room);
      known = known_more (g.F.Shelf.tells c.args.shelf.now).files c.args.names.now c.names.place c.names.sources c.push.new.self source c.names-test.true c.names.invariant.known (told _ c.in_ok-source.ensures.bytes) pushed;
      asks = asked_here (g.F.Shelf.tells c.args.shelf.now).files c.args.names.now c.names.place _ _ c.names-test.true (told _ c.read_source.ensures.asked);
      end = λ some. ends_before (g.F.Shelf.tells c.args.shelf.now).files c.args.names.now c.names.place _ _ (told _ c.in_ok-source.ensures.end);
    }

pub returns-in_err-source-clause-fails : goal.returns-in_err-source-clause-fails
returns-in_err-source-clause-fails g c =
    let fails = fails_here c.args.names.now c.names.place c.names.room c.names.sources c.in_err-source.field-0.0
    (g.F.Shelf.tells c.args.shelf.now) (g.F.Shelf.tells c.names.shelf) (g.F.Shelf.tells c.read_source.new.shelf)
    c.names-test.true c.names.invariant.count c.names.invariant.room c.names.invariant.fits c.names.invariant.known c.names.invariant.files c.names.invariant.later c.in_err-source.ensures.fails in
    search (rules, fails)
