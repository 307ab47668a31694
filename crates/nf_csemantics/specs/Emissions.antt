-- What `nf_emit` does.
use Rattle.std.specs.Prelude.{ℕ, zero, suc, ℤ, pos, int_lt, int_le, Bool, ◌&&◌, ◌||◌, Option, Some, None, Result, Ok, Err, List, [], ◌∷◌, ◌++◌, length, slice_get, codes, if◌then◌else◌}
use Rattle.std.specs.List.{list_all}
use Rattle.std.specs.Ordering.{int_eq}
use Rattle.nf_cast.specs.declared.manifests.CManifest.{CManifest}
use Rattle.nf_cast.specs.declared.manifests.CName.{CName}
use Rattle.nf_csemantics.specs.declared.causes.Cause.{Cause}
use Rattle.nf_csemantics.specs.declared.causes.Cause.TheVariants as cause
use Rattle.nf_csemantics.specs.declared.emissions.Cell.{Cell}
use Rattle.nf_csemantics.specs.declared.emissions.Emit.{Emit}
use Rattle.nf_csemantics.specs.States.{Objects, World}
use Rattle.nf_csemantics.specs.Statements.{Back}

-- whether a number is 0 or 1
abbrev pub is_bit : ℤ → Bool
is_bit n = int_eq n (pos 0) || int_eq n (pos 1)

-- whether a cell may be emitted: missing, a truth value of 0 or 1, a whole number, or a text by the number of one that is known
abbrev pub is_cell : ℤ → Cell → Bool
is_cell texts cell =
    int_eq cell.kind (pos 0) || int_eq cell.kind (pos 2)
    || int_eq cell.kind (pos 1) && is_bit cell.value
    || int_eq cell.kind (pos 3) && (int_le (pos 0) cell.value && int_lt cell.value texts)

-- so many cells from the front of an array, each a kind and a value
abbrev pub cells_from : ℕ → List ℤ → List Cell
cells_from zero numbers = []
cells_from (suc n) [] = []
cells_from (suc n) (kind ∷ []) = []
cells_from (suc n) (kind ∷ value ∷ numbers) = record { kind = kind; value = value } ∷ cells_from n numbers

-- the head that has a number, where it is a head's
abbrev pub head_at : List CName → ℕ → Option CName
head_at names n = by (slice_get names n)
  where
    by : Option CName → Option CName
    by (Some name) = if name.is_head then Some name else None
    by None = None

-- the emission of a head with its cells, which stand at the front of `nf_out`
abbrev pub emission_of : CName → ℤ → ℕ → ℤ → ℤ → Objects → Emit
emission_of head sign n begin end objects = record {
  sign = sign;
  name = n;
  start = begin;
  stop = end;
  cells = cells_from (length head.keys) (objects (codes "nf_out"));
}

-- whether an emission may be, by the number of texts that are known: its sign is 0 or 1, it doesn't begin after its end, and its cells are right
abbrev pub may_be : ℤ → Emit → Bool
may_be texts emission = is_bit emission.sign && int_le emission.start emission.stop && list_all (is_cell texts) emission.cells

-- an emission is appended where it may be, else the call is stuck
abbrev pub with_emission : ℤ → World → Emit → Result Back Cause
with_emission texts w emission = if may_be texts emission then Ok (record { value = None; world = record w { emits = w.emits ++ emission ∷ [] } }) else Err cause.Emit

-- `nf_emit` with a sign, a name's number, a begin and an end; a number that is no head's is stuck
abbrev pub emitted : CManifest → ℤ → List ℤ → World → Result Back Cause
emitted m texts (sign ∷ pos n ∷ begin ∷ end ∷ []) w = by (head_at m.names n)
  where
    by : Option CName → Result Back Cause
    by (Some head) = with_emission texts w (emission_of head sign n begin end w.objects)
    by None = Err cause.Emit
emitted m texts arguments w = Err cause.Emit
