-- The interval had come, and is taken out there; or it is noted as gone.
use Rattle.std.proofs.Common.{ap, subst, sym, ◌∙◌}
use Rattle.nf_core.specs.Sets.{IsSet, has}
use Rattle.nf_core.proofs.Public.SetLemmas.{IsSet-inserted, IsSet-removed}
use Rattle.nf_tally.specs.Deltas.{Leads}
use Rattle.nf_tally.proofs.DeltaLemmas.{leaves_again, leaves_old, has_put, has_taken, removed_absent}
use Rattle.nf_tally.proofs.net.Net.leave.Goals as goal

pub returns-then-remove-clause-ok : goal.returns-then-remove-clause-ok
returns-then-remove-clause-ok c = λ was now next step lead.
    let i = c.args.interval in
    let come = c.self.inside.come in
    let known = subst (λ d. Leads was now d) (sym c.self.view_is) lead in
    leaves_again was now next i c.self.inside.gone come c.remove.new.self
    (subst IsSet (sym c.remove.ensures.rest) (IsSet-removed i come known.come_set))
    (λ q. ap (λ is. has is q) c.remove.ensures.rest ∙ has_taken i come q known.come_set)
    (sym c.remove.ensures.found ∙ c.if-remove.true) step known

pub returns-clause-ok : goal.returns-clause-ok
returns-clause-ok c = λ was now next step lead.
    let i = c.args.interval in
    let gone = c.self.inside.gone in
    let come = c.self.inside.come in
    let known = subst (λ d. Leads was now d) (sym c.self.view_is) lead in
    let out = sym c.remove.ensures.found ∙ c.if-remove.false in
    leaves_old was now next i gone c.insert.new.self come c.remove.new.self
    (c.remove.ensures.rest ∙ removed_absent i come out)
    (subst IsSet (sym c.in_ok-insert.ensures.ok) (IsSet-inserted i gone known.gone_set))
    (λ q. ap (λ is. has is q) c.in_ok-insert.ensures.ok ∙ has_put i gone q) out step known
