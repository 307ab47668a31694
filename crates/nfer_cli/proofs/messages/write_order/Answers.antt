use Rattle.std.proofs.Common.{◌≡◌, rules}
use Rattle.std.specs.Fmt.{signed_decimal}
use Rattle.nfer_cli.proofs.ReportLemmas.{same_text, order_text}
use Rattle.nfer_cli.proofs.messages.write_order.Goals as goal

pub returns-clause-order : goal.returns-clause-order
returns-clause-order g c =
    let found : c.format-2.result.now ≡ signed_decimal c.args.found = search rules in
    let kept : c.format-3.result.now ≡ signed_decimal c.args.kept = search rules in
    same_text _ _ _ _ (order_text c.args.line c.args.kept c.args.found _ _ _ c.format.ensures.text found kept) c.write_texts.ensures.texts
