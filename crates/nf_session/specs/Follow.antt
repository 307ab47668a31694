-- What `follow` writes: the text of each line's change, every prefix of the trace computed anew.
use Rattle.std.specs.Prelude.{ℕ, ◌+◌, Bool, List, [], ◌∷◌, ◌++◌, fold, flat_map, take, length, position, bytes_eq, Option, Some, None}
use Rattle.std.specs.List.{range_with_len}
use Rattle.nf_core.specs.Plan.{Plan, keys_of}
use Rattle.nf_line.specs.Rows.{interval_of}
use Rattle.nf_line.specs.Trace.{Event, trace_so_far}
use Rattle.nf_model.specs.Changes.{Content, with_input, change, change_by, no_inputs, pool_of}
use Rattle.nf_model.specs.Levels.{Pools}
use Rattle.nf_announce.specs.Announcements.{change_text}

-- an event enters the inputs of its name, where the plan has the name
abbrev pub entered_at : Content → Event → Option ℕ → Content
entered_at content event None = content
entered_at content event (Some n) = with_input n (interval_of (keys_of content.plan n) event) content

abbrev pub entered : Content → Event → Content
entered content event = entered_at content event (position (bytes_eq event.name) content.plan.names)

-- the content after some events
unfoldable pub content_after : Plan → Bool → List Event → Content
content_after plan full events = fold entered (no_inputs plan full) events

-- the text of the change from one content to another one
unfoldable pub text_between : Content → Content → List ℕ
text_between before now = change_text before.plan (change before now)

-- the text of the change that an event makes
abbrev pub event_text : Content → Event → List ℕ
event_text content event = text_between content (entered content event)

-- the text of some events, one after the other from a content on
unfoldable pub text_from : Content → List Event → List ℕ
text_from content [] = []
text_from content (event ∷ events) = event_text content event ++ text_from (entered content event) events

-- the text of the event at a place, where a content has such pools: the change from the events before it to those with it
abbrev pub text_at : (Content → Pools) → Plan → Bool → List Event → ℕ → List ℕ
text_at pools plan full events place = change_text plan
    (change_by pools (content_after plan full (take place events)) (content_after plan full (take (place + 1) events)))

-- the text of all events, where a content has such pools
unfoldable pub follow_text_by : (Content → Pools) → Plan → Bool → List Event → List ℕ
follow_text_by pools plan full events = flat_map (text_at pools plan full events) (range_with_len 0 (length events))

-- the text of all events
abbrev pub follow_text : Plan → Bool → List Event → List ℕ
follow_text plan full events = follow_text_by pool_of plan full events

-- the text that is due where these bytes of a trace were read, while more may come: that of the lines that ended in them
abbrev pub due : Plan → Bool → List ℕ → List ℕ
due plan full bytes = follow_text plan full (trace_so_far bytes).events
