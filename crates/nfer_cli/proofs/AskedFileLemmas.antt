-- Which files are asked for, over a whole call.
use Rattle.std.proofs.Common.{◌≡◌, ℕ, ◌<◌, List, [], ◌∷◌, ◌++◌, length, Option, Some, None, IfSome, sym, ap, ◌∙◌, subst, arith, inl, inr, ⊎_elim, Result}
use Rattle.std.specs.Prelude.{slice_index_or}
use Rattle.std.proofs.lemmas.List.{get_or_append_left, length-append}
use Rattle.std.proofs.Math.Seq.{get_or-append_seam}
use Rattle.nf_io.specs.Files.{Files, asked_of}
use Rattle.nf_io.specs.Tells.{ShelfTells}
use Rattle.nfer_cli.specs.Answers.{AsksWithin, CannotRead, CannotReadAt}
use Rattle.nf_session.specs.declared.fault.SessionEnd.{SessionEnd}
use Rattle.nfer_cli.specs.inner.Running.{AsksUnlessWanted, trace_by}
use Rattle.nfer_cli.specs.inner.Specified.{AsksOne}
use Rattle.nfer_cli.specs.declared.running.Session.{Session}

-- a file at a place is at the same place before the trace
before_trace : (names : List (List ℕ)) (trace : List ℕ) (place : ℕ) → place < length names → slice_index_or (names ++ trace ∷ []) place [] ≡ slice_index_or names place []
before_trace names trace place low = get_or_append_left names (trace ∷ []) [] place low

-- the files of a specification are files of a command that has a trace besides
asks_more : (names : List (List ℕ)) (trace : List ℕ) (files : Files) (before now : Option (List ℕ)) → AsksWithin names files before now → AsksWithin (names ++ trace ∷ []) files before now
asks_more names trace files before now asks = ⊎_elim
    (λ (same : now ≡ before). inl same)
    (λ (at : (place : ℕ) × (place < length names) × (now ≡ Some (asked_of files (slice_index_or names place [])))).
    inr (at.0, omega (arith, at.1, length-append names (trace ∷ [])), at.2 ∙ ap (λ (name : List ℕ). Some (asked_of files name)) (sym (before_trace names trace at.0 at.1))))
    asks

pub asks_before_trace : (names : List (List ℕ)) (trace : List ℕ) (before now : ShelfTells) → AsksOne names before now → AsksOne (names ++ trace ∷ []) before now
asks_before_trace names trace before now = by before.files
  where
    by : (told : Option Files) → IfSome told (λ files. AsksWithin names files before.asked now.asked) → IfSome told (λ files. AsksWithin (names ++ trace ∷ []) files before.asked now.asked)
    by None asks = tt
    by (Some files) asks = asks_more names trace files before.asked now.asked asks

-- and so is the trace behind them
pub asks_with_trace : (s : Session) (names : List (List ℕ)) (result : Result (Unit {0}) SessionEnd) (before middle now : ShelfTells) → middle.files ≡ before.files → AsksOne names before middle
    → IfSome middle.files (λ files. AsksUnlessWanted s result files middle.asked now.asked) → AsksOne (names ++ trace_by s ∷ []) before now
asks_with_trace s names result before middle now same first next = by before.files first (subst (λ (t : Option Files). IfSome t (λ files. AsksUnlessWanted s result files middle.asked now.asked)) same next)
  where
    by : (told : Option Files) → IfSome told (λ files. AsksWithin names files before.asked middle.asked) → IfSome told (λ files. AsksUnlessWanted s result files middle.asked now.asked)
        → IfSome told (λ files. AsksWithin (names ++ trace_by s ∷ []) files before.asked now.asked)
    by None first next = tt
    by (Some files) first next = ⊎_elim
        (λ (at : now.asked ≡ Some (asked_of files (trace_by s))).
        inr (length names, omega (arith, length-append names (trace_by s ∷ [])), at ∙ ap (λ (name : List ℕ). Some (asked_of files name)) (sym (get_or-append_seam names (trace_by s) [] []))))
        (λ wanted. subst (λ (last : Option (List ℕ)). AsksWithin (names ++ trace_by s ∷ []) files before.asked last) (sym wanted.1) (asks_more names (trace_by s) files before.asked middle.asked first))
        next

-- a file of a specification that couldn't be read is one of the command's
pub cannot_before_trace : (names : List (List ℕ)) (trace : List ℕ) (place : ℕ) (before now : ShelfTells) → CannotReadAt names place before now → CannotReadAt (names ++ trace ∷ []) place before now
cannot_before_trace names trace place before now h = record {
  place_is = omega (arith, h.place_is, length-append names (trace ∷ []));
  cannot = subst (λ name. CannotRead name before now) (sym (before_trace names trace place h.place_is)) h.cannot;
}

-- and so is a trace that couldn't be read
pub cannot_trace : (names : List (List ℕ)) (trace : List ℕ) (place : ℕ) (before now : ShelfTells) → place ≡ length names → CannotRead trace before now → CannotReadAt (names ++ trace ∷ []) place before now
cannot_trace names trace place before now at cannot = record {
  place_is = omega (arith, at, length-append names (trace ∷ []));
  cannot = subst (λ name. CannotRead name before now) (sym (ap (λ n. slice_index_or (names ++ trace ∷ []) n []) at ∙ get_or-append_seam names trace [] [])) cannot;
}
