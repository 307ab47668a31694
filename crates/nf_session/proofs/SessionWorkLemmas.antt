-- What a session over a trace cost, from what it had cost before its last piece.
use Rattle.std.proofs.Common.{◌≡◌, ◌≤◌, ◌<◌, ℕ, ◌+◌, Bool, List, [], ◌++◌, length, take, drop, option_map, sym, ◌∙◌, ap, subst, arith, Option, IfSome, length-append}
use Rattle.std.proofs.lemmas.List.{take-append-drop}
use Rattle.nf_core.specs.Plan.{Plan}
use Rattle.nf_io.specs.Bytes.{Gives}
use Rattle.nf_line.specs.Trace.{Event, Done, trace, trace_limit, trace_so_far}
use Rattle.nf_session.specs.Costs.{KeepsToWork, work_of}
use Rattle.nf_model.specs.Changes.{no_inputs}
use Rattle.nf_session.specs.inner.Announcing.{StandsBehind, written_by}
use Rattle.nf_session.specs.declared.session.Announcing.{Announcing}
use Rattle.nf_session.proofs.PieceReadLemmas.{IsFed, fed_more, fed_whole}
use Rattle.nf_session.proofs.SessionTextLemmas.{EventsStay, LeadsOn, NeverTooLong, RefusalsStay, leads_on}
use Rattle.nf_session.proofs.WorkLemmas.{work_from-append}

-- what was spent before and then within the work of what came is within the work of all
pub then_within : (plan : Plan) (full : Bool) (entered events : List Event) (first before now : ℕ) → before ≤ first + work_of plan full entered
    → KeepsToWork plan full entered events before now → now ≤ first + work_of plan full events
then_within plan full entered events first before now spent kept = omega (arith, spent, kept)

module _ (plan : Plan) (full : Bool) (bytes : List ℕ) (refusals : RefusalsStay) (events_stay : EventsStay) (never : NeverTooLong) (first now : ℕ) where
  -- the work of the first bytes of a trace is within that of the whole
  pub within_whole : (fed : List ℕ) → fed ≡ take (length fed) bytes → length fed ≤ trace_limit
      → now ≤ first + work_of plan full (trace_so_far fed).events → now ≤ first + work_of plan full (trace bytes).events
  within_whole fed is few spent =
      let all : fed ++ drop (length fed) bytes ≡ bytes = ap (λ front. front ++ drop (length fed) bytes) is ∙ take-append-drop (length fed) bytes in
      let leads : LeadsOn (trace_so_far fed) (trace bytes) = subst (λ bs. LeadsOn (trace_so_far fed) (trace bs)) all (leads_on refusals events_stay never fed (drop (length fed) bytes) few) in
      let more = ap (work_of plan full) leads.longer ∙ work_from-append (no_inputs plan full) (trace_so_far fed).events leads.more in
      omega (arith, spent, more)

  module _ (how : Announcing) (fed : List ℕ) (rest out out_now : Option (List ℕ)) (behind : StandsBehind (written_by how plan full bytes) bytes fed rest out out_now) where
    is_fed : IsFed bytes fed rest
    is_fed = record { within = behind.within; fed_is = behind.fed_is; rest_is = behind.rest_is }

    -- handling stopped in a piece
    pub within_piece : (buffer : List ℕ) (count : ℕ) (next_rest : Option (List ℕ)) → length (take count buffer) ≡ count → IfSome rest (Gives buffer count)
        → next_rest ≡ option_map (drop count) rest → length fed + count ≤ trace_limit → now ≤ first + work_of plan full (trace_so_far (fed ++ take count buffer)).events
        → now ≤ first + work_of plan full (trace bytes).events
    within_piece buffer count next_rest size gives left few spent =
        let grown = fed_more bytes fed buffer count rest next_rest is_fed size gives left in
        within_whole (fed ++ take count buffer) grown.fed_is (omega (arith, length-append fed (take count buffer), size, few)) spent

    -- the trace was read to its end
    pub within_all : (buffer : List ℕ) (count : ℕ) (next_rest : Option (List ℕ)) → IfSome rest (Gives buffer count) → next_rest ≡ option_map (drop count) rest
        → count ≡ 0 → now ≤ first + work_of plan full (trace fed).events → now ≤ first + work_of plan full (trace bytes).events
    within_all buffer count next_rest gives left none spent =
        let all = fed_whole bytes fed buffer count rest next_rest is_fed gives left none in
        subst (λ bs. now ≤ first + work_of plan full (trace bs).events) all.fed_is spent
