-- What a program does with one line of a trace.
use Rattle.std.specs.Prelude.{ℕ, zero, suc, ◌==◌, ℤ, pos, negsuc, Option, Some, None, Result, Ok, Err, List, [], ◌∷◌, ◌++◌, flat_map, length, drop, replicate, codes, unwrap_or, if◌then◌else◌}
use Rattle.nf_core.specs.Texts.{text_eq}
use Rattle.nf_cast.specs.declared.objects.CItem.{CItem}
use Rattle.nf_cast.specs.declared.objects.CItem.TheVariants as item
use Rattle.nf_cast.specs.declared.manifests.CManifest.{CManifest}
use Rattle.nf_cast.specs.Program.{Program}
use Rattle.nf_csemantics.specs.declared.causes.Cause.{Cause}
use Rattle.nf_csemantics.specs.declared.causes.Cause.TheVariants as cause
use Rattle.nf_csemantics.specs.declared.emissions.Cell.{Cell}
use Rattle.nf_csemantics.specs.declared.emissions.Emit.{Emit}
use Rattle.nf_csemantics.specs.States.{Objects, World, with_object}
use Rattle.nf_csemantics.specs.Statements.{Back, Calls}
use Rattle.nf_csemantics.specs.Functions.{calls_of}
use Rattle.nf_csemantics.specs.Emissions.{emitted}

-- the cells of an object at first, all 0
abbrev pub zeros_of : Option ℤ → List ℤ
zeros_of (Some (pos n)) = replicate n (pos 0)
zeros_of (Some (negsuc n)) = []
zeros_of None = pos 0 ∷ []

-- the objects of a program at first
abbrev pub first_objects : List CItem → Objects
first_objects [] x = []
first_objects (item.Object o ∷ items) x = if text_eq o.name x then zeros_of o.cells else first_objects items x
first_objects (item.Func f ∷ items) x = first_objects items x

-- the numbers of cells, of each its kind and its value
abbrev pub numbers_of : List Cell → List ℤ
numbers_of cells = flat_map (λ (cell : Cell). cell.kind ∷ cell.value ∷ []) cells

-- the cells of a line stand at the front of `nf_in`; its other cells stay
abbrev pub with_input : List Cell → Objects → Objects
with_input cells objects =
    let numbers = numbers_of cells in
    with_object objects (codes "nf_in") (numbers ++ drop (length numbers) (objects (codes "nf_in")))

-- with what `nf_event` is called: the name's number, and in version 1 the time, which is begin and end, in version 2 begin and end
abbrev pub event_arguments : ℕ → ℕ → ℤ → ℤ → List ℤ
event_arguments version name begin end = if version == 1 then pos name ∷ end ∷ [] else pos name ∷ begin ∷ end ∷ []

-- no function but `nf_emit` is known before a text
unfoldable pub first_calls : CManifest → ℤ → Calls
first_calls m texts x arguments w = if text_eq (codes "nf_emit") x then emitted m texts arguments w else Ok (record { value = None; world = w })

-- what a call answers: what the objects are then, what was emitted, and how many turns loops made; or that a buffer was full; or why it is stuck
pub data Answer : Type 0 where
  Done : Objects → List Emit → ℕ → Answer
  Overflow : Answer
  Stuck : Cause → Answer

-- the answer by what `nf_event` gives: 0 is done and 1 an overflow, and any other answer is stuck
abbrev pub answer_of : Result Back Cause → Answer
answer_of (Err why) = Stuck why
answer_of (Ok back) = by (unwrap_or back.value (pos 0))
  where
    by : ℤ → Answer
    by (pos zero) = Done back.world.objects back.world.emits back.world.turns
    by (pos (suc zero)) = Overflow
    by other = Stuck cause.Answer

-- what a program does with a line: from the objects before, with the name's number, begin, end and cells, where so many texts are known
unfoldable pub c_call : Program → Objects → ℕ → ℤ → ℤ → List Cell → ℤ → Answer
c_call p objects name begin end cells texts =
    let calls = calls_of (first_calls p.manifest texts) p.items in
    let world : World = record { objects = with_input cells objects; emits = []; turns = 0 } in
    answer_of (calls (codes "nf_event") (event_arguments p.manifest.version name begin end) world)
