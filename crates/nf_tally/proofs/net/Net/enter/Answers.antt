-- The interval had gone, and is taken out there; or it is new, and is noted as come.
use Rattle.std.proofs.Common.{ap, subst, sym, ◌∙◌}
use Rattle.nf_core.specs.Sets.{IsSet, has, inserted}
use Rattle.nf_core.proofs.Public.SetLemmas.{IsSet-inserted, IsSet-removed}
use Rattle.nf_tally.specs.Deltas.{Leads}
use Rattle.nf_tally.proofs.DeltaLemmas.{enters_back, enters_new, has_put, has_taken, removed_absent}
use Rattle.nf_tally.proofs.net.Net.enter.Goals as goal

pub returns-then-remove-clause-ok : goal.returns-then-remove-clause-ok
returns-then-remove-clause-ok c = λ was now next step lead.
    let i = c.args.interval.now in
    let gone = c.self.inside.gone in
    let known = subst (λ d. Leads was now d) (sym c.self.view_is) lead in
    enters_back was now next i gone c.self.inside.come c.remove.new.self
    (subst IsSet (sym c.remove.ensures.rest) (IsSet-removed i gone known.gone_set))
    (λ q. ap (λ is. has is q) c.remove.ensures.rest ∙ has_taken i gone q known.gone_set)
    (sym c.remove.ensures.found ∙ c.if-remove.true) step known

pub returns-clause-ok : goal.returns-clause-ok
returns-clause-ok c = λ was now next step lead.
    let i = c.args.interval.now in
    let gone = c.self.inside.gone in
    let come = c.self.inside.come in
    let known = subst (λ d. Leads was now d) (sym c.self.view_is) lead in
    let put = c.in_ok-insert.ensures.ok ∙ ap (λ j. inserted j come) c.in_ok-copy.ensures in
    let out = sym c.remove.ensures.found ∙ c.if-remove.false in
    enters_new was now next i gone c.remove.new.self come c.insert.new.self
    (c.remove.ensures.rest ∙ removed_absent i gone out)
    (subst IsSet (sym put) (IsSet-inserted i come known.come_set))
    (λ q. ap (λ is. has is q) put ∙ has_put i come q) out step known
