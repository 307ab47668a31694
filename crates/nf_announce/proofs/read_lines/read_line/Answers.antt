use Rattle.std.proofs.Common.{◌≡◌, ℕ, Ok, refl, sym, ap, subst}
use Rattle.std.specs.Prelude.{IfSome}
use Rattle.nf_core.specs.Plan.{keys_of}
use Rattle.nf_announce.specs.inner.LineParts.{Parts, IsLineOf, IsRowWith}
use Rattle.nf_announce.proofs.LinePartLemmas.{parts_are, no_name, its_pairs, no_row, read_announces}
use Rattle.nf_announce.proofs.read_lines.read_line.Goals as goal

pub returns-in_default-clause-none : goal.returns-in_default-clause-none
returns-in_default-clause-none c e a h = c.in_default.ensures.none refl _ (parts_are c.args.plan.now c.rules.ensures.valid c.args.line.now a h)

pub returns-in_default-find_head-clause-none : goal.returns-in_default-find_head-clause-none
returns-in_default-find_head-clause-none c e a h =
    let p : Parts = record { added = c.parts.inside.added; name = c.parts.inside.name.now; start = c.parts.inside.start; stop = c.parts.inside.stop; keys = c.parts.inside.keys.now; values = c.parts.inside.values.now } in
    let is : IsLineOf c.args.line.now p = subst (IsLineOf c.args.line.now) (sym c.parts.view_is) c.in-Some.ensures.some in
    no_name c.args.plan.now c.rules.ensures.valid c.args.line.now p is (c.in_default-find_head.ensures.none refl) a h

pub returns-in_default-of-clause-none : goal.returns-in_default-of-clause-none
returns-in_default-of-clause-none c e a h =
    let p : Parts = record { added = c.parts.inside.added; name = c.parts.inside.name.now; start = c.parts.inside.start; stop = c.parts.inside.stop; keys = c.parts.inside.keys.now; values = c.parts.inside.values.now } in
    let is : IsLineOf c.args.line.now p = subst (IsLineOf c.args.line.now) (sym c.parts.view_is) c.in-Some.ensures.some in
    c.in_default-of.ensures.none refl _ (its_pairs c.args.plan.now c.rules.ensures.valid c.args.line.now p is a h)

pub returns-in_default-2-clause-none : goal.returns-in_default-2-clause-none
returns-in_default-2-clause-none c e a h =
    let p : Parts = record { added = c.parts.inside.added; name = c.parts.inside.name.now; start = c.parts.inside.start; stop = c.parts.inside.stop; keys = c.parts.inside.keys.now; values = c.parts.inside.values.now } in
    let is : IsLineOf c.args.line.now p = subst (IsLineOf c.args.line.now) (sym c.parts.view_is) c.in-Some.ensures.some in
    let name : ℕ = c.in-Some-find_head.name in
    let keys : keys_of c.of-2.result.plan.now c.of-2.result.name ≡ keys_of c.args.plan.now name = (λ i. keys_of (c.of-2.ensures.plan i) (c.of-2.ensures.name i)) in
    no_row c.args.plan.now c.rules.ensures.valid c.args.line.now p is name c.in-Some-find_head.ensures.some c.in-Some-of.pairs c.in-Some-of.ensures.some
    (λ row r. c.in_ok-row.ensures.none (ap Ok c.in_default-2.is) row (subst (λ ks. IsRowWith ks c.in-Some-of.pairs row) (sym keys) r)) a h

pub returns-clause-some : goal.returns-clause-some
returns-clause-some c =
    let p : Parts = record { added = c.parts.inside.added; name = c.parts.inside.name.now; start = c.parts.inside.start; stop = c.parts.inside.stop; keys = c.parts.inside.keys.now; values = c.parts.inside.values.now } in
    let is : IsLineOf c.args.line.now p = subst (IsLineOf c.args.line.now) (sym c.parts.view_is) c.in-Some.ensures.some in
    let name : ℕ = c.in-Some-find_head.name in
    let keys : keys_of c.of-2.result.plan.now c.of-2.result.name ≡ keys_of c.args.plan.now name = (λ i. keys_of (c.of-2.ensures.plan i) (c.of-2.ensures.name i)) in
    let row : IsRowWith (keys_of c.of-2.result.plan.now c.of-2.result.name) c.in-Some-of.pairs c.in-Some-2.row =
    subst (λ read. IfSome read (IsRowWith (keys_of c.of-2.result.plan.now c.of-2.result.name) c.in-Some-of.pairs)) c.in-Some-2.is c.in_ok-row.ensures.some in
    read_announces c.args.plan.now c.rules.ensures.valid c.args.line.now p is name c.in-Some-find_head.ensures.some c.in-Some-of.pairs c.in-Some-of.ensures.some c.in-Some-2.row
    (subst (λ ks. IsRowWith ks c.in-Some-of.pairs c.in-Some-2.row) keys row)
