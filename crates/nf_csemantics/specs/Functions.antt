-- What the functions of a program do.
use Rattle.std.specs.Prelude.{ℤ, None, Result, Ok, Err, List, [], ◌∷◌, reverse, if◌then◌else◌}
use Rattle.std.specs.List.{zip}
use Rattle.nf_core.specs.Texts.{text_eq}
use Rattle.nf_cast.specs.declared.objects.CItem.{CItem}
use Rattle.nf_cast.specs.declared.objects.CItem.TheVariants as item
use Rattle.nf_cast.specs.declared.objects.CFunc.{CFunc}
use Rattle.nf_csemantics.specs.declared.causes.Cause.{Cause}
use Rattle.nf_csemantics.specs.States.{Name, Locals, World}
use Rattle.nf_csemantics.specs.Statements.{Back, Calls, Outcome, Next, Returned, Stuck, run_of_block}

-- what a function gives back, by how its block ends; at its brace a function gives no value
abbrev pub ended : Outcome → Result Back Cause
ended (Next s) = Ok (record { value = None; world = s.world })
ended (Returned n w) = Ok (record { value = n; world = w })
ended (Stuck why) = Err why

-- the locals with which a function begins: its parameters with the arguments
abbrev pub entered : List Name → List ℤ → Locals
entered params arguments = reverse (zip params arguments)

-- what a function does, by what those do that it may call
abbrev pub call_of : Calls → CFunc → List ℤ → World → Result Back Cause
call_of calls f arguments w = ended (run_of_block calls f.body (record { world = w; locals = entered f.params arguments }))

-- calls with one more function
unfoldable pub with_function : Calls → CFunc → Calls
with_function calls f x = if text_eq f.name x then call_of calls f else calls x

-- what the functions of a text do, by what is known before it: each may call those above it
abbrev pub calls_of : Calls → List CItem → Calls
calls_of calls [] = calls
calls_of calls (item.Object o ∷ items) = calls_of calls items
calls_of calls (item.Func f ∷ items) = calls_of (with_function calls f) items
