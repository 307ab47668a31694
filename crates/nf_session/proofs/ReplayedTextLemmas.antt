-- Reading the announcements of a trace leaves what is shown.
use Rattle.std.proofs.Common.{◌≡◌, ◌≢◌, ℕ, ◌≤◌, ℤ, Bool, true, false, cond, List, [], ◌∷◌, ◌++◌, length, map, reverse, replicate, fold, slice_set, All, Option, Some, None, IfSome, refl, sym, ap, subst, ◌∙◌, append_assoc, arith, inl, inr, bytes_eq}
use Rattle.std.specs.Prelude.{flat_map, position}
use Rattle.std.specs.Ordering.{is_gt}
use Rattle.std.specs.Map.{lookup}
use Rattle.std.specs.List.{AllByRecursion, IsDistinct}
use Rattle.std.proofs.lemmas.Bool.{cases_lt}
use Rattle.std.proofs.lemmas.Bool.Decides.{eqb_tells}
use Rattle.std.proofs.lemmas.Grind.{reverse_onto}
use Rattle.std.proofs.lemmas.List.{length-map, get_or-set_same, get_or-set_other, set_past}
use Rattle.std.proofs.lemmas.List.Elements.{All-nil, All-map, All-filter, All-from_recursion, recursion_from_All}
use Rattle.std.proofs.lemmas.Map.Views.{All-insert_key}
use Rattle.std.proofs.lemmas.Map.Entries.{All-lookup}
use Rattle.nf_core.specs.Texts.{IsI64, text_eq}
use Rattle.nf_core.specs.Rows.{IsPlainValue}
use Rattle.nf_core.specs.Intervals.{Interval, interval_cmp}
use Rattle.nf_core.specs.Sets.{IsSet, inserted}
use Rattle.nf_core.specs.Written.{ascending}
use Rattle.nf_core.specs.Plan.{Plan, IsPlan, keys_of}
use Rattle.nf_core.specs.declared.intervals.Named.{Named}
use Rattle.nf_core.specs.declared.values.Value.{Value}
use Rattle.nf_core.specs.declared.values.Value.TheVariants as v
use Rattle.nf_core.proofs.Public.AscendingLemmas.{IsStrictlySortedBy-ascending}
use Rattle.nf_line.specs.Lines.{cut, with_last}
use Rattle.nf_line.specs.ProperEvents.{IsProperEvent}
use Rattle.nf_line.specs.Rows.{interval_of}
use Rattle.nf_line.specs.Trace.{Event}
use Rattle.nf_line.proofs.Public.{cut_line}
use Rattle.nf_model.specs.Pools.{Inputs, of_name, pool}
use Rattle.nf_model.specs.Changes.{Content, pool_of, heads, lacking, named, no_inputs}
use Rattle.nf_model.specs.ProperRows.{IsProperCell, IsProper, AreProper}
use Rattle.nf_model.proofs.Public.InputLemmas.{nothing_entered}
use Rattle.nf_announce.specs.Announcements.{Announcement, announcement_cmp, placed, in_order, announcement, unsigned_line, signed_line, lines_of, change_text, shown}
use Rattle.nf_session.specs.Replay.{replay_from, replay}
use Rattle.nf_session.specs.Follow.{entered_at, entered, content_after, follow_text, text_between, text_from}
use Rattle.nf_announce.proofs.Public.DistinctItemLemmas.{each_weaker, each_append, each_map}
use Rattle.nf_announce.proofs.Public.LineBackLemmas.{line_unfed}
use Rattle.nf_session.proofs.ReplayedLineLemmas.{times, ascending_times, same_lines, withdrawn, added, distinct_lines}
use Rattle.nf_session.proofs.ShownLineLemmas.{lines, items_of, balanced, gone_shown, IsGoodItem, items_good, shown_once}

-- an announcement whose line has no LF
abbrev IsUnfed : Announcement → Type 0
IsUnfed a = AllByRecursion (λ byte. byte ≢ 10) (unsigned_line a)

cut_lines : (sign : ℕ) → sign ≢ 10 → (items : List Announcement) → AllByRecursion IsUnfed items → (rest : List ℕ)
    → cut (flat_map (signed_line sign) items ++ rest) ≡ map (λ line. sign ∷ line) (map unsigned_line items) ++ cut rest
cut_lines sign apart [] h rest = refl
cut_lines sign apart (a ∷ items) h rest =
    let others : List ℕ = flat_map (signed_line sign) items in
    let line : List ℕ = sign ∷ unsigned_line a in
    ap cut (append_assoc (line ++ 10 ∷ []) others rest ∙ append_assoc line (10 ∷ []) (others ++ rest)) ∙ cut_line line (others ++ rest) (apart, h.0)
    ∙ ap (λ pieces. line ∷ pieces) (cut_lines sign apart items h.1 rest)

-- what holds of announcements holds of them in order
each_placed : (P : Announcement → Type 0) (a : Announcement) (bs : List Announcement) → P a → AllByRecursion P bs → AllByRecursion P (placed a bs)
each_placed P a [] h k = (h, tt)
each_placed P a (b ∷ bs) h k = at (is_gt (announcement_cmp b a)) (each_placed P a bs h k.1)
  where
    at : (t : Bool) → AllByRecursion P (placed a bs) → AllByRecursion P (cond t (a ∷ b ∷ bs) (b ∷ placed a bs))
    at true later = (h, k)
    at false later = (k.0, later)

each_all : (P : Announcement → Type 0) (items bs : List Announcement) → AllByRecursion P items → AllByRecursion P bs → AllByRecursion P (fold (λ ordered a. placed a ordered) bs items)
each_all P [] bs h k = k
each_all P (a ∷ items) bs h k = each_all P items (placed a bs) h.1 (each_placed P a bs h.0 k)

module _ (plan : Plan) (valid : IsPlan plan) where
  unfed_items : (items : List Named) → AllByRecursion (IsGoodItem plan valid) items → AllByRecursion IsUnfed (in_order (map (announcement plan) items))
  unfed_items items h =
      each_all IsUnfed (map (announcement plan) items) []
      (each_map IsUnfed (announcement plan) items (each_weaker (IsGoodItem plan valid) (λ item. IsUnfed (announcement plan item)) (λ item good. line_unfed plan valid item.name good.within good.narrow item.interval good.proper) items h)) tt

  lacking_proper : (pools others : ℕ → List Interval) → AreProper plan pools → AreProper plan (λ n. lacking (pools n) (others n))
  lacking_proper pools others h n = All-filter _ (IsProper (keys_of plan n)) (pools n) (h n)

  -- one change
  one_change : (before now : ℕ → List Interval) → ((n : ℕ) → IsSet (before n)) → ((n : ℕ) → IsSet (now n)) → AreProper plan before → AreProper plan now → (rest : List ℕ)
      → replay_from (ascending (lines plan (items_of plan before)))
      (cut ((lines_of 45 plan (items_of plan (λ n. lacking (before n) (now n))) ++ lines_of 43 plan (items_of plan (λ n. lacking (now n) (before n)))) ++ rest))
      ≡ replay_from (ascending (lines plan (items_of plan now))) (cut rest)
  one_change before now sets now_sets proper now_proper rest =
      let gone : List Named = items_of plan (λ n. lacking (before n) (now n)) in
      let come : List Named = items_of plan (λ n. lacking (now n) (before n)) in
      let old : List (List ℕ) = lines plan (items_of plan before) in
      let new : List (List ℕ) = lines plan (items_of plan now) in
      let once : (q : List ℕ) → times q old ≤ 1 = shown_once plan valid before proper sets in
      let now_once : (q : List ℕ) → times q new ≤ 1 = shown_once plan valid now now_proper now_sets in
      let left = withdrawn (lines plan gone) (ascending old) (IsStrictlySortedBy-ascending old)
      (λ q. omega (arith, ascending_times old once q, gone_shown plan before now sets now_sets q)) in
      let full = added (lines plan come) left.0 left.1.sorted
      (λ q. omega (arith, left.2 q, ascending_times old once q, balanced plan before now sets now_sets q, now_once q)) in
      let same : full.0 ≡ ascending new =
      same_lines full.0 (ascending new) full.1.sorted (IsStrictlySortedBy-ascending new)
      (λ q. omega (arith, full.2 q, left.2 q, ascending_times old once q, ascending_times new now_once q, balanced plan before now sets now_sets q)) in
      let unfed_gone = unfed_items gone (items_good plan valid (λ n. lacking (before n) (now n)) (lacking_proper before now proper)) in
      let unfed_come = unfed_items come (items_good plan valid (λ n. lacking (now n) (before n)) (lacking_proper now before now_proper)) in
      let pieces : cut ((lines_of 45 plan gone ++ lines_of 43 plan come) ++ rest) ≡ map (λ line. 45 ∷ line) (lines plan gone) ++ (map (λ line. 43 ∷ line) (lines plan come) ++ cut rest) =
      ap cut (append_assoc (lines_of 45 plan gone) (lines_of 43 plan come) rest)
      ∙ cut_lines 45 (λ e. omega arith) (in_order (map (announcement plan) gone)) unfed_gone (lines_of 43 plan come ++ rest)
      ∙ ap (λ ps. map (λ line. 45 ∷ line) (lines plan gone) ++ ps) (cut_lines 43 (λ e. omega arith) (in_order (map (announcement plan) come)) unfed_come rest) in
      ap (replay_from (ascending old)) pieces ∙ left.1.reads (map (λ line. 43 ∷ line) (lines plan come) ++ cut rest) ∙ full.1.reads (cut rest) ∙ ap (λ ls. replay_from ls (cut rest)) same

-- what an event may hold
pub record IsGoodEvent (event : Event) : Type 0 where
  pub start : IsI64 event.start
  pub stop : IsI64 event.stop
  pub pairs : AllByRecursion (λ (pair : List ℕ × Value). IsProperCell (Some pair.1)) event.pairs

each_reverse : {X : Type 0} (P : X → Type 0) (xs : List X) → AllByRecursion P xs → AllByRecursion P (reverse xs)
each_reverse P [] h = tt
each_reverse P (x ∷ xs) h = subst (AllByRecursion P) (sym (reverse_onto xs x [])) (each_append P (reverse xs) (x ∷ []) (each_reverse P xs h.1) (h.0, tt))

of_some : (o : Option Value) → IfSome o (λ x. IsProperCell (Some x)) → IsProperCell o
of_some None h = tt
of_some (Some x) h = h

event_proper : (keys : List (List ℕ)) (event : Event) → IsGoodEvent event → IsProper keys (interval_of keys event)
event_proper keys event good = record {
  start = good.start;
  stop = good.stop;
  each = length-map keys (λ key. lookup (bytes_eq key) (reverse event.pairs));
  cells = All-map IsProperCell (λ key. lookup (bytes_eq key) (reverse event.pairs)) keys (λ k d within. found _);
}
  where
    found : (key : List ℕ) → IsProperCell (lookup (bytes_eq key) (reverse event.pairs))
    found key =
        of_some (lookup (bytes_eq key) (reverse event.pairs))
        (All-lookup (λ x. IsProperCell (Some x)) (bytes_eq key) (reverse event.pairs) (All-from_recursion _ (reverse event.pairs) (each_reverse (λ (pair : List ℕ × Value). IsProperCell (Some pair.1)) event.pairs good.pairs)))

module _ (plan : Plan) where
  set_here : (inputs : Inputs) (n : ℕ) (i : Interval) → AreProper plan (of_name inputs) → IsProper (keys_of plan n) i → All (IsProper (keys_of plan n)) (of_name (slice_set inputs n (inserted i (of_name inputs n))) n)
  set_here inputs n i h p = elim (cases_lt n (length inputs)) [
    | inl within ↦ subst (All (IsProper (keys_of plan n))) (sym (get_or-set_same inputs n (inserted i (of_name inputs n)) [] within)) (All-insert_key interval_cmp i (IsProper (keys_of plan n)) (of_name inputs n) (h n) p)
    | inr past ↦ subst (λ lists. All (IsProper (keys_of plan n)) (of_name lists n)) (sym (set_past inputs n (inserted i (of_name inputs n)) past)) (h n)
  ]

  set_proper : (inputs : Inputs) (n : ℕ) (i : Interval) → AreProper plan (of_name inputs) → IsProper (keys_of plan n) i → AreProper plan (of_name (slice_set inputs n (inserted i (of_name inputs n))))
  set_proper inputs n i h p m = elim (eqb_tells m n) [
    | inl here ↦ subst (λ k. All (IsProper (keys_of plan k)) (of_name (slice_set inputs n (inserted i (of_name inputs n))) k)) (sym here.1) (set_here inputs n i h p)
    | inr apart ↦ subst (All (IsProper (keys_of plan m))) (sym (get_or-set_other inputs n m (inserted i (of_name inputs n)) [] apart.1)) (h m)
  ]

-- what is known of pools
pub record AreKnown : Type 0 where
  pub proper : (plan : Plan) (full : Bool) (inputs : Inputs) → IsPlan plan → AreProper plan (of_name inputs) → AreProper plan (pool plan full inputs)
  pub sets : (plan : Plan) (full : Bool) (inputs : Inputs) (n : ℕ) → IsSet (pool plan full inputs n)
  pub none : (plan : Plan) (full : Bool) (n : ℕ) → pool_of (no_inputs plan full) n ≡ []

module _ (known : AreKnown) (plan : Plan) (full : Bool) (valid : IsPlan plan) where
  abbrev with_inputs : Inputs → Content
  with_inputs inputs = record { plan = plan; full = full; inputs = inputs }

  step_read : (inputs next : Inputs) → AreProper plan (of_name inputs) → AreProper plan (of_name next) → (rest : List ℕ)
      → replay_from (ascending (shown (with_inputs inputs))) (cut (text_between (with_inputs inputs) (with_inputs next) ++ rest)) ≡ replay_from (ascending (shown (with_inputs next))) (cut rest)
  unfolding shown change_text text_between
  step_read inputs next h k rest =
      one_change plan valid (pool plan full inputs) (pool plan full next) (known.sets plan full inputs) (known.sets plan full next)
      (known.proper plan full inputs valid h) (known.proper plan full next valid k) rest

  record Entered (inputs : Inputs) (event : Event) : Type 0 where
    next : Inputs
    proper : AreProper plan (of_name next)
    is : entered (with_inputs inputs) event ≡ with_inputs next

  enters : (inputs : Inputs) (event : Event) → AreProper plan (of_name inputs) → IsGoodEvent event → Entered inputs event
  enters inputs event h good = at (position (bytes_eq event.name) plan.names) refl
    where
      at : (o : Option ℕ) → position (bytes_eq event.name) plan.names ≡ o → Entered inputs event
      at None e = record { next = inputs; proper = h; is = ap (entered_at (with_inputs inputs) event) e }
      at (Some n) e = record {
        next = slice_set inputs n (inserted (interval_of (keys_of plan n) event) (of_name inputs n));
        proper = set_proper plan inputs n (interval_of (keys_of plan n) event) h (event_proper (keys_of plan n) event good);
        is = ap (entered_at (with_inputs inputs) event) e;
      }

  record Reached (inputs : Inputs) (events : List Event) : Type 0 where
    last : Inputs
    proper : AreProper plan (of_name last)
    is : fold entered (with_inputs inputs) events ≡ with_inputs last
    reads : replay_from (ascending (shown (with_inputs inputs))) (cut (text_from (with_inputs inputs) events)) ≡ Some (ascending (shown (with_inputs last)))

  reached : (events : List Event) → AllByRecursion IsGoodEvent events → (inputs : Inputs) → AreProper plan (of_name inputs) → Reached inputs events
  unfolding with_last replay_from text_from
  reached [] good inputs h = record { last = inputs; proper = h; is = refl; reads = refl }
  reached (event ∷ events) good inputs h =
      let one = enters inputs event h good.0 in
      let later = reached events good.1 one.next one.proper in
      record {
        last = later.last;
        proper = later.proper;
        is = ap (λ c. fold entered c events) one.is ∙ later.is;
        reads = ap (λ c. replay_from (ascending (shown (with_inputs inputs))) (cut (text_between (with_inputs inputs) c ++ text_from c events))) one.is
            ∙ step_read inputs one.next h one.proper (text_from (with_inputs one.next) events) ∙ later.reads;
      }

  nothing_shown : shown (no_inputs plan full) ≡ []
  unfolding shown
  nothing_shown = ap (λ items. map unsigned_line (in_order (map (announcement plan) items))) (none_of (heads plan))
    where
      none_of : (ns : List ℕ) → flat_map (λ n. named n (pool_of (no_inputs plan full) n)) ns ≡ []
      none_of [] = refl
      none_of (n ∷ ns) = λ i. named n (known.none plan full n i) ++ none_of ns i

  no_inputs_proper : AreProper plan (of_name (replicate (length plan.names) []))
  no_inputs_proper n = subst (All (IsProper (keys_of plan n))) (sym (nothing_entered (length plan.names) n)) (All-nil (IsProper (keys_of plan n)))

  all_distinct : (inputs : Inputs) → AreProper plan (of_name inputs) → IsDistinct text_eq (shown (with_inputs inputs))
  unfolding shown
  all_distinct inputs h =
      distinct_lines (lines plan (items_of plan (pool plan full inputs))) (shown_once plan valid (pool plan full inputs) (known.proper plan full inputs valid h) (known.sets plan full inputs))

  module _ (events : List Event) (good : AllByRecursion IsGoodEvent events) where
    from_nothing : Reached (replicate (length plan.names) []) events
    from_nothing = reached events good (replicate (length plan.names) []) no_inputs_proper

    pub replayed_is_shown : follow_text plan full events ≡ text_from (no_inputs plan full) events → replay (follow_text plan full events) ≡ Some (ascending (shown (content_after plan full events)))
    unfolding content_after
    replayed_is_shown text =
        ap replay text ∙ ap (λ ls. replay_from ls (cut (text_from (no_inputs plan full) events))) (sym (ap ascending nothing_shown)) ∙ from_nothing.reads ∙ ap (λ c. Some (ascending (shown c))) (sym from_nothing.is)

    pub shown_is_distinct : IsDistinct text_eq (shown (content_after plan full events))
    unfolding content_after
    shown_is_distinct = subst (λ c. IsDistinct text_eq (shown c)) (sym from_nothing.is) (all_distinct from_nothing.last from_nothing.proper)

-- an event of a trace
proper_value : (x : Value) → IsPlainValue x → ((n : ℤ) → x ≡ v.Int n → IsI64 n) → IsProperCell (Some x)
proper_value (v.Bool b) h k = tt
proper_value (v.Int n) h k = k n refl
proper_value (v.Text t) h k = h

pub good_events : (events : List Event) → All IsProperEvent events → AllByRecursion IsGoodEvent events
good_events events proper =
    recursion_from_All IsGoodEvent events (λ k d within.
    let event = proper k d within in
    record {
      start = event.start;
      stop = event.stop;
      pairs = recursion_from_All (λ (pair : List ℕ × Value). IsProperCell (Some pair.1)) _ (λ j e inside. let value = event.pairs j e inside in proper_value _ value.plain value.number);
    })
