-- Files read one after the other.
use Rattle.std.proofs.Common.{◌≡◌, ℕ, ◌+◌, ◌-◌, ◌<◌, ◌≤◌, List, [], ◌∷◌, ◌++◌, length, take, drop, map, get_or, Option, Some, None, IfSome, refl, sym, ap, ◌∙◌, subst, arith, inl, inr}
use Rattle.std.specs.Prelude.{slice_index_or}
use Rattle.std.proofs.lemmas.List.{take_more, take_all, drop_more, take-append-drop, map-append}
use Rattle.nf_io.specs.Files.{Files, bytes_of, asked_of}
use Rattle.nf_spec.specs.Sources.{IsPassedAt, specification_limit, total}
use Rattle.nf_spec.proofs.Public.PassedLimitLemmas.{passed_here}
use Rattle.nfer_cli.specs.Answers.{StandsPastIn, StandsAtEnd, StandsPast, AsksWithin}
use Rattle.nfer_cli.specs.Sources.{sources_of}
use Rattle.nfer_cli.proofs.AllowedLemmas.{allowed_here}

pub nothing_total : (sources : List (List ℕ)) → sources ≡ [] → total sources ≤ specification_limit
nothing_total sources none = omega (arith, ap total none)

pub nothing_known : (told : Option Files) (names sources : List (List ℕ)) → sources ≡ [] → IfSome told (λ files. sources ≡ sources_of files (take 0 names))
nothing_known None names sources none = tt
nothing_known (Some files) names sources none = none

pub nothing_asked : (told : Option Files) (names : List (List ℕ)) (last : Option (List ℕ)) → IfSome told (λ files. AsksWithin names files last last)
nothing_asked None names last = tt
nothing_asked (Some files) names last = inl refl

-- the bytes of one more file
pub known_more : (told : Option Files) (names : List (List ℕ)) (place : ℕ) (sources now : List (List ℕ)) (source : List ℕ) → place < length names
    → IfSome told (λ files. sources ≡ sources_of files (take place names)) → IfSome told (λ files. source ≡ bytes_of files (slice_index_or names place [])) → now ≡ sources ++ source ∷ []
    → IfSome told (λ files. now ≡ sources_of files (take (place + 1) names))
known_more None names place sources now source low known read is = tt
known_more (Some files) names place sources now source low known read is =
    is ∙ ap (λ (s : List ℕ). sources ++ s ∷ []) read ∙ ap (λ (ss : List (List ℕ)). ss ++ bytes_of files (get_or names place []) ∷ []) known
    ∙ sym (ap (map (bytes_of files)) (take_more names place [] low) ∙ map-append (bytes_of files) (take place names) (get_or names place [] ∷ []))

-- the file at a place is one of them
pub asked_here : (told : Option Files) (names : List (List ℕ)) (place : ℕ) (before now : Option (List ℕ)) → place < length names
    → IfSome told (λ files. now ≡ Some (asked_of files (slice_index_or names place []))) → IfSome told (λ files. AsksWithin names files before now)
asked_here None names place before now low asked = tt
asked_here (Some files) names place before now low asked = inr (place, low, asked)

-- the file before the next place was read to its end
pub ends_before : (told : Option Files) (names : List (List ℕ)) (place : ℕ) (last rest : Option (List ℕ)) → IfSome told (λ files. StandsAtEnd files (slice_index_or names place []) last rest)
    → IfSome told (λ files. StandsAtEnd files (slice_index_or names (place + 1 - 1) []) last rest)
ends_before told names place last rest h =
    let same : place ≡ place + 1 - 1 = omega arith in
    subst (λ n. IfSome told (λ files. StandsAtEnd files (slice_index_or names n []) last rest)) same h

-- the file at a place has more bytes than are left
pub past_here : (told : Option Files) (names : List (List ℕ)) (place left : ℕ) (sources : List (List ℕ)) (last rest : Option (List ℕ)) → place < length names → length sources ≡ place → total sources + left ≡ specification_limit
    → total sources ≤ specification_limit → IfSome told (λ files. sources ≡ sources_of files (take place names))
    → IfSome told (λ files. left < length (bytes_of files (slice_index_or names place []))) → IfSome told (λ files. StandsPastIn files (slice_index_or names place []) left last rest)
    → IfSome told (λ files. StandsPast names files last rest)
past_here None names place left sources last rest low count room fits known long stands = tt
past_here (Some files) names place left sources last rest low count room fits known long stands =
    let name = get_or names place [] in
    let parts : names ≡ take place names ++ name ∷ drop (place + 1) names = sym (take-append-drop place names) ∙ ap (λ (after : List (List ℕ)). take place names ++ after) (drop_more names place [] low) in
    let whole : sources_of files names ≡ sources ++ bytes_of files name ∷ sources_of files (drop (place + 1) names) =
    ap (sources_of files) parts ∙ map-append (bytes_of files) (take place names) (name ∷ drop (place + 1) names) ∙ ap (λ (ss : List (List ℕ)). ss ++ bytes_of files name ∷ sources_of files (drop (place + 1) names)) (sym known) in
    record {
      place = place;
      passes = subst (λ ss. IsPassedAt specification_limit ss place) (sym whole)
          (subst (λ n. IsPassedAt specification_limit (sources ++ bytes_of files name ∷ sources_of files (drop (place + 1) names)) n) count
          (passed_here specification_limit sources (sources_of files (drop (place + 1) names)) (bytes_of files name) fits (omega (arith, long, room))));
      stands = subst (λ n. StandsPastIn files name n last rest) (allowed_here files names place left sources low room known) stands;
    }

-- all files are read
pub known_all : (told : Option Files) (names : List (List ℕ)) (place : ℕ) (sources : List (List ℕ)) → length names ≤ place → IfSome told (λ files. sources ≡ sources_of files (take place names)) → IfSome told (λ files. sources ≡ sources_of files names)
known_all None names place sources low known = tt
known_all (Some files) names place sources low known = known ∙ ap (sources_of files) (take_all place names low)

-- the files before a place are within the limit
pub fits_before : (told : Option Files) (names : List (List ℕ)) (place : ℕ) (sources : List (List ℕ)) → total sources ≤ specification_limit → IfSome told (λ files. sources ≡ sources_of files (take place names))
    → IfSome told (λ files. total (sources_of files (take place names)) ≤ specification_limit)
fits_before None names place sources fits known = tt
fits_before (Some files) names place sources fits known = subst (λ ss. total ss ≤ specification_limit) known fits
