use Rattle.std.proofs.Common.{◌≡◌, ◌++◌, IsTrue, ◌+◌, ◌<◌, ◌≤◌, Err, length, take, sym, ap, ◌∙◌, subst, arith, rules}
use Rattle.std.proofs.lemmas.List.{length-take-le}
use Rattle.nf_line.specs.Trace.{trace, trace_limit, trace_so_far}
use Rattle.nf_session.specs.Followers.{Follower as FollowerOf}
use Rattle.nf_session.specs.declared.follower.Follow.{Follow}
use Rattle.nf_session.specs.Sessions.{Ends}
use Rattle.nf_session.specs.inner.Announcing.{written_by}
use Rattle.nf_session.specs.declared.fault.SessionEnd.TheVariants as session
use Rattle.nf_session.proofs.PieceReadLemmas.{lines_within, gives_now}
use Rattle.nf_session.proofs.SessionLemmas.{limit_is, goes_first, goes_more, ends_first, ends_unread, ends_in_piece, ends_in_last, ends_done, stands_done, ends_at_limit}
use Rattle.nf_session.proofs.SessionWorkLemmas.{then_within, within_all, within_piece, within_whole}
use Rattle.nf_session.proofs.session.run_session.Goals as goal

pub returns-in_err-buffer-clause-ends : goal.returns-in_err-buffer-clause-ends
returns-in_err-buffer-clause-ends g c = λ bytes told.
    let ends = ends_first c.args.plan (g.I.Inferer.content c.args.inferer).full bytes {A = Follow g.row.I.Denot} c.args.announcing _ (g.O.Sink.tells c.args.out.now).taken told in
    search (rules, ends)

pub pieces-init : goal.pieces-init
pieces-init g c = record {
  room = search rules;
  goes_on = goes_first c.args.announcing c.args.plan (g.I.Inferer.content c.args.inferer).full (g.I.Inferer.is_thrifty c.args.inferer) _ _ _ _ c.new-follower.ensures.stands
      (ap (λ (f : FollowerOf). f.thrifty) c.new-follower.ensures.new);
}

pub returns-in_err-count-clause-ends : goal.returns-in_err-count-clause-ends
returns-in_err-count-clause-ends g c = λ bytes told.
    let was = c.pieces.invariant.goes_on in
    let is : c.in_err-count.field-0.0 ≡ session.ReadFault = c.in_err-count.ensures.reads.end in
    let ends = ends_unread c.args.plan (g.I.Inferer.content c.args.inferer).full bytes {A = Follow g.row.I.Denot} c.args.announcing was.fed _ (g.F.Shelf.tells c.read_piece.new.shelf).rest _ _ (was.behind bytes told) was.stands.unrefused
    (omega (arith, limit_is, c.pieces-test.true, was.read_is)) c.in_err-count.ensures.reads.unread in
    let same = subst (λ end. Ends {A = Follow g.row.I.Denot} (written_by c.args.announcing c.args.plan (g.I.Inferer.content c.args.inferer).full bytes) bytes (Err end) (g.F.Shelf.tells c.read_piece.new.shelf).rest (g.O.Sink.tells c.args.out.now).taken (g.O.Sink.tells c.pieces.out).taken) (sym is) ends in
    search (rules, same)

pub returns-in_err-handle_last-clause-ends : goal.returns-in_err-handle_last-clause-ends
returns-in_err-handle_last-clause-ends g c = λ bytes told.
    let was = c.pieces.invariant.goes_on in
    let few : length was.fed < trace_limit = omega (arith, limit_is, c.pieces-test.true, was.read_is) in
    let took = c.in_err-handle_last.ensures.handles c.args.plan (g.I.Inferer.content c.args.inferer).full was.fed few was.stands in
    let ends = ends_in_last c.args.plan (g.I.Inferer.content c.args.inferer).full bytes c.args.announcing was.fed c.read_piece.new.buffer c.in_ok-count.count
    (g.F.Shelf.tells c.pieces.shelf).rest (g.F.Shelf.tells c.read_piece.new.shelf).rest (g.O.Sink.tells c.args.out.now).taken (g.O.Sink.tells c.pieces.out).taken (g.O.Sink.tells c.handle_last.new.out).taken
    (was.behind bytes told) was.stands.unrefused few c.in_ok-count.ensures.reads.bytes c.in_ok-count.ensures.reads.rest c.if-count-eq0.true {A = Follow g.row.I.Denot} c.in_err-handle_last.field-0.0 (λ quiet e. c.in_err-handle_last.ensures.silent quiet (ap Err e)) (λ e. c.in_err-handle_last.ensures.never_too_long (ap Err e)) took.ends took.writes in
    search (rules, ends)

pub returns-then-count-eq0-clause-ends : goal.returns-then-count-eq0-clause-ends
returns-then-count-eq0-clause-ends g c = λ bytes told.
    let was = c.pieces.invariant.goes_on in
    let few : length was.fed < trace_limit = omega (arith, limit_is, c.pieces-test.true, was.read_is) in
    let took = c.in_ok-handle_last.ensures.handles c.args.plan (g.I.Inferer.content c.args.inferer).full was.fed few was.stands in
    ends_done c.args.plan (g.I.Inferer.content c.args.inferer).full bytes c.args.announcing was.fed c.read_piece.new.buffer c.in_ok-count.count
    (g.F.Shelf.tells c.pieces.shelf).rest (g.F.Shelf.tells c.read_piece.new.shelf).rest (g.O.Sink.tells c.args.out.now).taken (g.O.Sink.tells c.pieces.out).taken (g.O.Sink.tells c.handle_last.new.out).taken
    (was.behind bytes told) was.stands.unrefused few c.in_ok-count.ensures.reads.bytes c.in_ok-count.ensures.reads.rest c.if-count-eq0.true c.in_ok-handle_last.field-0 took.ends took.writes

pub returns-then-count-eq0-clause-stands : goal.returns-then-count-eq0-clause-stands
returns-then-count-eq0-clause-stands g c = λ bytes told.
    let was = c.pieces.invariant.goes_on in
    let few : length was.fed < trace_limit = omega (arith, limit_is, c.pieces-test.true, was.read_is) in
    let took = c.in_ok-handle_last.ensures.handles c.args.plan (g.I.Inferer.content c.args.inferer).full was.fed few was.stands in
    stands_done c.args.plan (g.I.Inferer.content c.args.inferer).full bytes c.args.announcing was.fed c.read_piece.new.buffer c.in_ok-count.count
    (g.F.Shelf.tells c.pieces.shelf).rest (g.F.Shelf.tells c.read_piece.new.shelf).rest (g.O.Sink.tells c.args.out.now).taken (g.O.Sink.tells c.pieces.out).taken (g.O.Sink.tells c.handle_last.new.out).taken
    (was.behind bytes told) was.stands.unrefused few c.in_ok-count.ensures.reads.bytes c.in_ok-count.ensures.reads.rest c.if-count-eq0.true c.in_ok-handle_last.field-0 took.stands

pub handle_piece-requires : goal.handle_piece-requires
handle_piece-requires g c =
    let was = c.pieces.invariant.goes_on in
    let size : length (take c.in_ok-count.count c.deref.result.now) ≡ c.in_ok-count.count = length-take-le c.in_ok-count.count c.deref.result.now (omega (arith, c.in_ok-count.ensures.reads.one_piece, c.deref.ensures.len, c.pieces.invariant.room)) in
    record { counted = omega (arith, size, was.stands.counted, lines_within was.fed, was.read_is, c.in_ok-count.ensures.reads.within, c.pieces-test.true) }

pub returns-in_err-follower-clause-ends : goal.returns-in_err-follower-clause-ends
returns-in_err-follower-clause-ends g c = λ bytes told.
    let was = c.pieces.invariant.goes_on in
    let gives = gives_now _ c.read_piece.new.buffer _ c.deref.result.now c.in_ok-count.count (g.F.Shelf.tells c.pieces.shelf).rest c.deref.ensures.value (c.read_piece.ensures.room ∙ sym c.pieces.invariant.room) c.in_ok-count.ensures.reads.bytes in
    let size : length (take c.in_ok-count.count c.deref.result.now) ≡ c.in_ok-count.count = length-take-le c.in_ok-count.count c.deref.result.now (omega (arith, c.in_ok-count.ensures.reads.one_piece, c.deref.ensures.len, c.pieces.invariant.room)) in
    let few : length was.fed + c.in_ok-count.count ≤ trace_limit = omega (arith, limit_is, was.read_is, c.in_ok-count.ensures.reads.within, c.pieces-test.true) in
    let with_piece : length was.fed + length (take c.in_ok-count.count c.deref.result.now) ≤ trace_limit = omega (arith, few, size) in
    let took = c.in_err-follower.ensures.handles c.args.plan (g.I.Inferer.content c.args.inferer).full was.fed with_piece was.stands in
    let more : length was.fed < trace_limit = omega (arith, limit_is, c.pieces-test.true, was.read_is) in
    let laws = c.what_is_known_of_a_trace_stays.ensures in
    let ends = ends_in_piece c.args.plan (g.I.Inferer.content c.args.inferer).full bytes {A = Follow g.row.I.Denot} laws.refused laws.goes_on laws.never_too_long c.args.announcing c.in_err-follower.field-0.0 was.fed c.deref.result.now c.in_ok-count.count
    (g.F.Shelf.tells c.pieces.shelf).rest (g.F.Shelf.tells c.read_piece.new.shelf).rest (g.O.Sink.tells c.args.out.now).taken (g.O.Sink.tells c.pieces.out).taken (g.O.Sink.tells c.handle_piece.new.out).taken
    (was.behind bytes told) was.stands.unrefused more few c.in_ok-count.ensures.reads.one_piece size gives c.in_ok-count.ensures.reads.rest
    (λ quiet e. c.in_err-follower.ensures.silent quiet (ap Err e)) (λ e. c.in_err-follower.ensures.never_too_long (ap Err e)) took.ends took.writes in
    search (rules, ends)

pub pieces-preserved : goal.pieces-preserved
pieces-preserved g c =
    let was = c.pieces.invariant.goes_on in
    let gives = gives_now _ c.read_piece.new.buffer _ c.deref.result.now c.in_ok-count.count (g.F.Shelf.tells c.pieces.shelf).rest c.deref.ensures.value (c.read_piece.ensures.room ∙ sym c.pieces.invariant.room) c.in_ok-count.ensures.reads.bytes in
    let size : length (take c.in_ok-count.count c.deref.result.now) ≡ c.in_ok-count.count = length-take-le c.in_ok-count.count c.deref.result.now (omega (arith, c.in_ok-count.ensures.reads.one_piece, c.deref.ensures.len, c.pieces.invariant.room)) in
    let few : c.pieces.read + c.in_ok-count.count ≤ trace_limit = omega (arith, limit_is, c.in_ok-count.ensures.reads.within, c.pieces-test.true) in
    let with_piece : length was.fed + length (take c.in_ok-count.count c.deref.result.now) ≤ trace_limit = omega (arith, few, size, was.read_is) in
    let took = c.in_ok-follower.ensures.handles c.args.plan (g.I.Inferer.content c.args.inferer).full was.fed with_piece was.stands in
    record {
      room = search rules;
      goes_on = goes_more c.args.announcing c.args.plan (g.I.Inferer.content c.args.inferer).full (g.I.Inferer.is_thrifty c.args.inferer) c.deref.result.now c.pieces.read c.in_ok-count.count c.pieces.follower c.in_ok-follower.follower
          (g.F.Shelf.tells c.args.shelf.now) (g.F.Shelf.tells c.pieces.shelf) (g.F.Shelf.tells c.read_piece.new.shelf) (g.O.Sink.tells c.args.out.now) (g.O.Sink.tells c.pieces.out) (g.O.Sink.tells c.handle_piece.new.out)
          c.args.steps.now c.pieces.steps c.handle_piece.new.steps was few size gives
          _ _ c.in_ok-count.ensures.reads took c.handle_piece.ensures.never_falls c.in_ok-follower.ensures.thrifty
          (λ t. c.handle_piece.ensures.work (subst IsTrue (sym was.thrifty_is) t) c.args.plan (g.I.Inferer.content c.args.inferer).full was.fed with_piece was.stands);
    }

pub returns-clause-ends : goal.returns-clause-ends
returns-clause-ends g c = λ bytes told.
    let was = c.pieces.invariant.goes_on in
    ends_at_limit c.args.plan (g.I.Inferer.content c.args.inferer).full bytes c.what_is_known_of_a_trace_stays.ensures.at_limit c.args.announcing was.fed _ _ _ (was.behind bytes told) was.stands.unrefused
    (omega (arith, limit_is, c.pieces-test.false, was.few, was.read_is))

pub returns-in_err-count-clause-work : goal.returns-in_err-count-clause-work
returns-in_err-count-clause-work g c = λ thrifty bytes told.
    let was = c.pieces.invariant.goes_on in
    let laws = c.what_is_known_of_a_trace_stays.ensures in
    within_whole c.args.plan (g.I.Inferer.content c.args.inferer).full bytes laws.refused laws.goes_on laws.never_too_long c.args.steps.now c.pieces.steps was.fed (was.behind bytes told).fed_is
    (omega (arith, was.few, was.read_is)) (was.work thrifty)

pub returns-in_err-handle_last-clause-work : goal.returns-in_err-handle_last-clause-work
returns-in_err-handle_last-clause-work g c = λ thrifty bytes told.
    let was = c.pieces.invariant.goes_on in
    let laws = c.what_is_known_of_a_trace_stays.ensures in
    let plan = c.args.plan in
    let full = (g.I.Inferer.content c.args.inferer).full in
    let few : length was.fed < trace_limit = omega (arith, limit_is, c.pieces-test.true, was.read_is) in
    let kept = c.handle_last.ensures.work (subst IsTrue (sym was.thrifty_is) thrifty) plan full was.fed few was.stands in
    within_all plan full bytes laws.refused laws.goes_on laws.never_too_long c.args.steps.now c.handle_last.new.steps c.args.announcing was.fed _ _ _ (was.behind bytes told)
    c.read_piece.new.buffer c.in_ok-count.count _ c.in_ok-count.ensures.reads.bytes c.in_ok-count.ensures.reads.rest c.if-count-eq0.true
    (then_within plan full (trace_so_far was.fed).events (trace was.fed).events c.args.steps.now c.pieces.steps c.handle_last.new.steps (was.work thrifty) kept)

pub returns-then-count-eq0-clause-work : goal.returns-then-count-eq0-clause-work
returns-then-count-eq0-clause-work g c = λ thrifty bytes told.
    let was = c.pieces.invariant.goes_on in
    let laws = c.what_is_known_of_a_trace_stays.ensures in
    let plan = c.args.plan in
    let full = (g.I.Inferer.content c.args.inferer).full in
    let few : length was.fed < trace_limit = omega (arith, limit_is, c.pieces-test.true, was.read_is) in
    let kept = c.handle_last.ensures.work (subst IsTrue (sym was.thrifty_is) thrifty) plan full was.fed few was.stands in
    within_all plan full bytes laws.refused laws.goes_on laws.never_too_long c.args.steps.now c.handle_last.new.steps c.args.announcing was.fed _ _ _ (was.behind bytes told)
    c.read_piece.new.buffer c.in_ok-count.count _ c.in_ok-count.ensures.reads.bytes c.in_ok-count.ensures.reads.rest c.if-count-eq0.true
    (then_within plan full (trace_so_far was.fed).events (trace was.fed).events c.args.steps.now c.pieces.steps c.handle_last.new.steps (was.work thrifty) kept)

pub returns-in_err-follower-clause-work : goal.returns-in_err-follower-clause-work
returns-in_err-follower-clause-work g c = λ thrifty bytes told.
    let was = c.pieces.invariant.goes_on in
    let laws = c.what_is_known_of_a_trace_stays.ensures in
    let plan = c.args.plan in
    let full = (g.I.Inferer.content c.args.inferer).full in
    let gives = gives_now _ c.read_piece.new.buffer _ c.deref.result.now c.in_ok-count.count (g.F.Shelf.tells c.pieces.shelf).rest c.deref.ensures.value (c.read_piece.ensures.room ∙ sym c.pieces.invariant.room) c.in_ok-count.ensures.reads.bytes in
    let size : length (take c.in_ok-count.count c.deref.result.now) ≡ c.in_ok-count.count = length-take-le c.in_ok-count.count c.deref.result.now (omega (arith, c.in_ok-count.ensures.reads.one_piece, c.deref.ensures.len, c.pieces.invariant.room)) in
    let few : length was.fed + c.in_ok-count.count ≤ trace_limit = omega (arith, limit_is, was.read_is, c.in_ok-count.ensures.reads.within, c.pieces-test.true) in
    let with_piece : length was.fed + length (take c.in_ok-count.count c.deref.result.now) ≤ trace_limit = omega (arith, few, size) in
    let kept = c.handle_piece.ensures.work (subst IsTrue (sym was.thrifty_is) thrifty) plan full was.fed with_piece was.stands in
    within_piece plan full bytes laws.refused laws.goes_on laws.never_too_long c.args.steps.now c.handle_piece.new.steps c.args.announcing was.fed _ _ _ (was.behind bytes told)
    c.deref.result.now c.in_ok-count.count _ size gives c.in_ok-count.ensures.reads.rest few
    (then_within plan full (trace_so_far was.fed).events (trace_so_far (was.fed ++ take c.in_ok-count.count c.deref.result.now)).events c.args.steps.now c.pieces.steps c.handle_piece.new.steps (was.work thrifty) kept)

pub returns-clause-work : goal.returns-clause-work
returns-clause-work g c = λ thrifty bytes told.
    let was = c.pieces.invariant.goes_on in
    let laws = c.what_is_known_of_a_trace_stays.ensures in
    within_whole c.args.plan (g.I.Inferer.content c.args.inferer).full bytes laws.refused laws.goes_on laws.never_too_long c.args.steps.now c.pieces.steps was.fed (was.behind bytes told).fed_is
    (omega (arith, was.few, was.read_is)) (was.work thrifty)
