-- What is allowed of the file of a specification at a place.
use Rattle.std.proofs.Common.{◌≡◌, ℕ, ◌+◌, ◌<◌, List, length, take, sym, ◌∙◌, ap, arith}
use Rattle.std.proofs.lemmas.List.{take-map}
use Rattle.nf_io.specs.Files.{Files, bytes_of}
use Rattle.nf_spec.specs.Sources.{specification_limit, total}
use Rattle.nfer_cli.specs.Answers.{allowed_at}
use Rattle.nfer_cli.specs.Sources.{sources_of}

-- what is left at a place is allowed there
pub allowed_here : (files : Files) (names : List (List ℕ)) (place left : ℕ) (sources : List (List ℕ)) → place < length names → total sources + left ≡ specification_limit → sources ≡ sources_of files (take place names)
    → left ≡ allowed_at names files place
allowed_here files names place left sources low room known =
    let before : total (take place (sources_of files names)) ≡ total sources = ap total (take-map (bytes_of files) place names ∙ sym known) in
    omega arith
