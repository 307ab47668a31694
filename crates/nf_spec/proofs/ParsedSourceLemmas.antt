-- Sources parsed one after the other.
use Rattle.std.proofs.Common.{◌≡◌, ℕ, suc, ◌+◌, ◌<◌, ◌≤◌, List, [], ◌∷◌, ◌++◌, length, get_or, take, drop, All, refl, ap, sym, ◌∙◌, subst, arith, append_assoc, append-nil, Result, Ok, Err, ⊎_elim, ◌⊎◌, inl, inr}
use Rattle.std.proofs.lemmas.List.{drop_more, length-append}
use Rattle.std.proofs.Math.Seq.{drop-length}
use Rattle.std.proofs.lemmas.List.Elements.{All-append}
use Rattle.std.proofs.lemmas.Grind.{flat_map-append}
use Rattle.nf_core.specs.declared.trees.Rule.{Rule}
use Rattle.nf_core.specs.declared.trees.Module.{Module}
use Rattle.nf_parse.specs.Answers.{rules_in, entries_in, size_of}
use Rattle.nf_parse.specs.Parses.{Parses}
use Rattle.nf_parse.specs.declared.fault.ParseFault.{ParseFault}
use Rattle.nf_parse.specs.declared.fault.ParseFault.TheVariants as fault
use Rattle.nf_spec.specs.inner.Parsing.{joined, AreParsedTo, IsRefusal}
use Rattle.nf_spec.specs.Specification.{refused_at}
use Rattle.nf_spec.specs.Sources.{AreParsed, none, more, refused, later, total}
use Rattle.nf_spec.proofs.Public.TotalLemmas.{total_next}

-- the answer to some sources
abbrev Parsing : Type 0
Parsing = Result (List Module) (ℕ × ParseFault)

joined_none : (rest : Parsing) → joined [] 0 rest ≡ rest
joined_none (Ok modules) = refl
joined_none (Err e) = ap (λ place. Err (place, e.1)) (omega arith)

-- no source was parsed yet
pub parsed_none : (sources : List (List ℕ)) → AreParsedTo sources 0 []
parsed_none sources = record { leads = λ rest h. subst (AreParsed sources) (sym (joined_none rest)) h }

-- one more source was parsed
one_parsed : (source : List ℕ) (sources : List (List ℕ)) (modules : List Module) → Parses source (Ok modules) → (rest : Parsing) → AreParsed sources rest → AreParsed (source ∷ sources) (joined modules 1 rest)
one_parsed source sources modules p (Ok rest) h = more p h
one_parsed source sources modules p (Err e) h =
    let is : suc e.0 ≡ 1 + e.0 = omega arith in
    subst (λ place. AreParsed (source ∷ sources) (Err (place, e.1))) is (later {place = e.0} {fault = e.1} p h)

joined_twice : (done modules : List Module) (place : ℕ) (rest : Parsing) → joined done place (joined modules 1 rest) ≡ joined (done ++ modules) (place + 1) rest
joined_twice done modules place (Ok rest) = ap Ok (sym (append_assoc done modules rest))
joined_twice done modules place (Err e) = ap (λ at. Err (at, e.1)) (omega arith)

pub parsed_more : (sources : List (List ℕ)) (place : ℕ) (done modules now : List Module) (source : List ℕ) → place < length sources → source ≡ get_or sources place [] → AreParsedTo sources place done → Parses source (Ok modules) → now ≡ done ++ modules
    → AreParsedTo sources (place + 1) now
parsed_more sources place done modules now source low at before p is = record {
  leads = λ rest h.
      let parts : drop place sources ≡ source ∷ drop (place + 1) sources = drop_more sources place [] low ∙ ap (λ s. s ∷ drop (place + 1) sources) (sym at) in
      subst (AreParsed sources) (joined_twice done modules place rest ∙ ap (λ all. joined all (place + 1) rest) (sym is))
      (before.leads (joined modules 1 rest) (subst (λ left. AreParsed left (joined modules 1 rest)) (sym parts) (one_parsed source (drop (place + 1) sources) modules p rest h)));
}

-- all sources were parsed
pub parsed_all : (sources : List (List ℕ)) (place : ℕ) (done : List Module) → place ≡ length sources → AreParsedTo sources place done → AreParsed sources (Ok done)
parsed_all sources place done end before =
    let nothing : drop place sources ≡ [] = ap (λ n. drop n sources) end ∙ drop-length sources in
    subst (λ all. AreParsed sources (Ok all)) (append-nil done) (before.leads (Ok []) (subst (λ left. AreParsed left (Ok [])) (sym nothing) none))

-- the source at a place is refused
pub refused_here : (sources : List (List ℕ)) (place : ℕ) (done : List Module) (source : List ℕ) (why : ParseFault) → place < length sources → source ≡ get_or sources place [] → AreParsedTo sources place done → Parses source (Err why)
    → AreParsed sources (Err (place, why))
refused_here sources place done source why low at before p =
    let parts : drop place sources ≡ source ∷ drop (place + 1) sources = drop_more sources place [] low ∙ ap (λ s. s ∷ drop (place + 1) sources) (sym at) in
    let is : place + 0 ≡ place = omega arith in
    subst (λ n. AreParsed sources (Err (n, why))) is (before.leads (Err (0, why)) (subst (λ left. AreParsed left (Err (0, why))) (sym parts) (refused p)))

pub refusal_here : (sources : List (List ℕ)) (place : ℕ) (done : List Module) (source : List ℕ) (why : ParseFault) (found : Result (List Module) ParseFault) → place < length sources → source ≡ get_or sources place [] → AreParsedTo sources place done
    → found ≡ Err why → (found ≡ Err fault.NoMemory) ⊎ Parses source found → IsRefusal sources (refused_at place why)
refusal_here sources place done source why found low at before is answered = ⊎_elim
    (λ (full : found ≡ Err fault.NoMemory). inl (let no_memory : why ≡ fault.NoMemory = cc in ap (refused_at place) no_memory))
    (λ (p : Parses source found). inr (place, why, refused_here sources place done source why low at before (subst (Parses source) is p), refl))
    answered

-- the modules that a call of the parser answered
pub parsed_here : (source : List ℕ) (modules : List Module) (found : Result (List Module) ParseFault) → found ≡ Ok modules → (found ≡ Err fault.NoMemory) ⊎ Parses source found → Parses source (Ok modules)
parsed_here source modules found is answered = ⊎_elim (λ (full : found ≡ Err fault.NoMemory). absurd cc) (λ (p : Parses source found). subst (Parses source) is p) answered

-- the rules of the modules of one more source
pub rules_more : (done modules now : List Module) → now ≡ done ++ modules → rules_in now ≡ rules_in done ++ rules_in modules
rules_more done modules now is = ap rules_in is ∙ flat_map-append (λ (m : Module). m.rules) done modules

-- how much some modules have with those of one more source
size_more : (done modules now : List Module) → now ≡ done ++ modules → size_of now ≡ size_of done + size_of modules
size_more done modules now is =
    let rules = rules_more done modules now is in
    let entries : entries_in (rules_in now) ≡ entries_in (rules_in done) ++ entries_in (rules_in modules) = ap entries_in rules ∙ flat_map-append (λ (rule : Rule). rule.entries) (rules_in done) (rules_in modules) in
    let more_rules : length (rules_in now) ≡ length (rules_in done) + length (rules_in modules) = ap length rules ∙ length-append (rules_in done) (rules_in modules) in
    let more_entries : length (entries_in (rules_in now)) ≡ length (entries_in (rules_in done)) + length (entries_in (rules_in modules)) = ap length entries ∙ length-append (entries_in (rules_in done)) (entries_in (rules_in modules)) in
    omega arith

pub few_more : (sources : List (List ℕ)) (place : ℕ) (done modules now : List Module) (source : List ℕ) → place < length sources → source ≡ get_or sources place [] → now ≡ done ++ modules
    → size_of done ≤ total (take place sources) → size_of modules ≤ length source → size_of now ≤ total (take (place + 1) sources)
few_more sources place done modules now source low at is before here =
    omega (arith, size_more done modules now is, total_next sources place source low at)

pub written_more : (P : Rule → Type 0) (done modules now : List Module) → now ≡ done ++ modules → All P (rules_in done) → All P (rules_in modules) → All P (rules_in now)
written_more P done modules now is before here = subst (All P) (sym (rules_more done modules now is)) (All-append P (rules_in done) (rules_in modules) before here)
