-- Items that are printed under the names of a plan: the keys of a name one after the other, and that they can be printed.
use Rattle.std.proofs.Common.{◌≡◌, ℕ, ◌+◌, false, List, [], ◌∷◌, ◌++◌, length, take, Some, All, IsTrue, slice_get, sym, ◌∙◌, ap, subst, arith}
use Rattle.std.specs.List.Sorted.{IsStrictlySortedBy}
use Rattle.std.proofs.lemmas.List.{take_more}
use Rattle.std.proofs.lemmas.Option.{slice_get_within, get_or_from_slice_get}
use Rattle.nf_core.specs.Identifiers.{is_identifier, AreIdentifiers}
use Rattle.nf_core.specs.Plan.{Plan, IsPlan, is_wide, keys_of, name_of}
use Rattle.nf_core.specs.Texts.{text_cmp}
use Rattle.nf_announce.specs.Printed.{IsPrintable}
use Rattle.nf_announce.specs.declared.printed.Printed.{Printed}

pub next_key : (keys : List (List ℕ)) (place : ℕ) (key text : List ℕ) (some more : List (List ℕ)) → slice_get keys place ≡ Some key → text ≡ key → some ≡ take place keys → more ≡ some ++ text ∷ [] → more ≡ take (place + 1) keys
next_key keys place key text some more is t s m =
    m ∙ (λ i. s i ++ t i ∷ []) ∙ ap (λ (k : List ℕ). take place keys ++ k ∷ []) (sym (get_or_from_slice_get keys place key key is)) ∙ sym (take_more keys place key (slice_get_within keys place key is))

pub printable : (plan : Plan) (n : ℕ) (name : List ℕ) (item : Printed) → IsPlan plan → is_wide plan n ≡ false → slice_get plan.names n ≡ Some name → item.name ≡ name → item.keys ≡ keys_of plan n → length item.row ≡ length (keys_of plan n) → IsPrintable item
printable plan n name item valid narrow there named keyed wide =
    let low = slice_get_within plan.names n name there in
    let are : AreIdentifiers (name_of plan n) (keys_of plan n) = valid.identifiers n low narrow in
    let text : name_of plan n ≡ item.name = get_or_from_slice_get plan.names n name [] there ∙ sym named in
    record {
      name = subst (λ t. IsTrue (is_identifier t)) text are.name;
      keys = subst (λ (keys : List (List ℕ)). All (λ key. IsTrue (is_identifier key)) keys) (sym keyed) are.keys;
      ascending = subst (IsStrictlySortedBy text_cmp) (sym keyed) (valid.keys n [] (omega (arith, low, valid.each_keys))).ascending;
      each = wide ∙ sym (ap length keyed);
    }
