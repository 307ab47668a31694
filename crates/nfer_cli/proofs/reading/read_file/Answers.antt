use Rattle.std.proofs.Common.{rules}
use Rattle.nfer_cli.proofs.FileLemmas.{told_ended, told_passed, read_all, is_longer, stands_at_end, stands_past, stands_short, unpicked}
use Rattle.nfer_cli.proofs.reading.read_file.Goals as goal

pub returns-in_err-read_rest-clause-too_long : goal.returns-in_err-read_rest-clause-too_long
returns-in_err-read_rest-clause-too_long g c = λ e.
    is_longer _ _ _ _ _ (told_passed _ _ _ _ _ _ c.in_ok-pick.ensures.rest (λ whole h. c.read_rest.ensures.too_long (search rules) whole (search rules)))

pub returns-in_err-read_rest-clause-stopped : goal.returns-in_err-read_rest-clause-stopped
returns-in_err-read_rest-clause-stopped g c = λ e.
    stands_past _ _ _ _ _ _ c.pick.ensures.asked c.read_rest.ensures.asked (told_passed _ _ _ _ _ _ c.in_ok-pick.ensures.rest (λ whole h. c.read_rest.ensures.too_long (search rules) whole (search rules)))

pub returns-in_err-pick-clause-unread : goal.returns-in_err-pick-clause-unread
returns-in_err-pick-clause-unread g c = λ e. unpicked _ _ _ _ _ c.in_err-pick.ensures.untold

pub returns-in_err-read_rest-clause-unread : goal.returns-in_err-read_rest-clause-unread
returns-in_err-read_rest-clause-unread g c = λ e.
    stands_short _ _ _ _ _ _ _ c.pick.ensures.asked c.read_rest.ensures.asked c.in_ok-pick.ensures.rest (λ whole h. c.read_rest.ensures.unread (search rules) whole (search rules))

pub returns-clause-bytes : goal.returns-clause-bytes
returns-clause-bytes g c = read_all _ _ _ _ (told_ended _ _ _ _ _ c.in_ok-pick.ensures.rest (λ whole h. c.in_ok-read_rest.ensures.end whole (search rules)))

pub returns-clause-end : goal.returns-clause-end
returns-clause-end g c = stands_at_end _ _ _ _ _ _ c.pick.ensures.asked c.read_rest.ensures.asked (told_ended _ _ _ _ _ c.in_ok-pick.ensures.rest (λ whole h. c.in_ok-read_rest.ensures.end whole (search rules)))
