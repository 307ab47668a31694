-- Texts that a sink got one after the other.
use Rattle.std.proofs.Common.{◌≡◌, ℕ, ◌+◌, ◌<◌, ◌≤◌, List, [], ◌∷◌, ◌++◌, take, drop, get_or, Option, Some, None, sym, ◌∙◌, ap, append_assoc, subst, length}
use Rattle.std.specs.Prelude.{flat_map, ℤ, codes, decimal}
use Rattle.std.specs.Fmt.{signed_decimal}
use Rattle.std.proofs.lemmas.List.{append-nil, take-append-drop, drop_more, take_all}
use Rattle.std.proofs.lemmas.List.Concat.{flat_map-append}
use Rattle.nf_io.specs.Bytes.{Took, TookPart, TookPrefix}
use Rattle.nf_io.proofs.Public.{Took-none, TookPrefix-none, TookPrefix-whole, TookPrefix-after}
use Rattle.nf_io.specs.Causes.{Rose}
use Rattle.nf_io.specs.Tells.{SinkTells}
use Rattle.nf_io.proofs.Public.{later-then_Rose}
use Rattle.nfer_cli.specs.Messages.{Reports, at_trace_line}

-- less than the whole is a prefix
part_is_prefix : (before now : Option (List ℕ)) (text : List ℕ) → TookPart before now text → TookPrefix before now text
part_is_prefix before None text p = tt
part_is_prefix None (Some after) text p = absurd p
part_is_prefix (Some first) (Some after) text p = (p.0, p.2)

-- the whole was taken
pub reported : (before now : SinkTells) (text : List ℕ) → Took before.taken now.taken text → Reports before now text
reported before now text took = record {
  whole = λ calm. took;
  part = subst (λ t. TookPrefix before.taken now.taken t) (append-nil text) (TookPrefix-whole before.taken now.taken text [] took);
}

-- all texts were taken
pub texts_reported : {X : Type 0} (f : X → List ℕ) (before now : SinkTells) (place : ℕ) (texts : List X) → length texts ≤ place → Took before.taken now.taken (flat_map f (take place texts)) → Reports before now (flat_map f texts)
texts_reported f before now place texts all took =
    reported before now (flat_map f texts) (subst (λ ts. Took before.taken now.taken (flat_map f ts)) (take_all place texts all) took)

-- the texts before a place were taken, and of that one a part, at a fault
pub texts_stopped : {X : Type 0} (f : X → List ℕ) (first before now : SinkTells) (place : ℕ) (texts : List X) (some : X) (text : List ℕ) → place < length texts → text ≡ f (get_or texts place some)
    → Took first.taken before.taken (flat_map f (take place texts)) → TookPart before.taken now.taken text → first.faults ≤ before.faults → Rose before.faults now.faults
    → Reports first now (flat_map f texts)
texts_stopped f first before now place texts some text low is took part later rose =
    let next = get_or texts place some in
    let after = drop (place + 1) texts in
    let split : texts ≡ take place texts ++ next ∷ after = sym (take-append-drop place texts) ∙ ap (λ ts. take place texts ++ ts) (drop_more texts place some low) in
    let whole : flat_map f texts ≡ flat_map f (take place texts) ++ (text ++ flat_map f after) =
    ap (flat_map f) split ∙ flat_map-append f (take place texts) (next ∷ after) ∙ ap (λ t. flat_map f (take place texts) ++ (t ++ flat_map f after)) (sym is) in
    record {
      whole = λ calm. absurd (calm (later-then_Rose first.faults before.faults now.faults later rose));
      part = subst (λ t. TookPrefix first.taken now.taken t) (sym whole) (TookPrefix-after first.taken before.taken now.taken _ text (flat_map f after) took (part_is_prefix before.taken now.taken text part));
    }

-- nothing is to be taken
pub nothing_reported : (told : SinkTells) → Reports told told []
nothing_reported told = record { whole = λ calm. Took-none told.taken; part = TookPrefix-none told.taken [] }

-- the same text by another name
pub same_text : (before now : SinkTells) (text message : List ℕ) → text ≡ message → Reports before now text → Reports before now message
same_text before now text message same got = subst (λ t. Reports before now t) same got

-- five texts one after the other, of which the second is a number's
pub numbered_text : (before number after what end text : List ℕ) → text ≡ number → before ++ (text ++ (after ++ (what ++ (end ++ [])))) ≡ before ++ number ++ after ++ what ++ end
numbered_text before number after what end text is = rw is (simp (append_assoc, append-nil))

seven_texts : (before line after time found between kept end : List ℕ) → before ++ (line ++ ((after ++ time) ++ (found ++ (between ++ (kept ++ (end ++ [])))))) ≡ before ++ line ++ after ++ (time ++ found ++ between ++ kept) ++ end
seven_texts before line after time found between kept end = simp (append_assoc, append-nil)

-- the text of a time that falls, from its parts
pub order_text : (line : ℕ) (kept found : ℤ) (line_text found_text kept_text : List ℕ) → line_text ≡ decimal line → found_text ≡ signed_decimal found → kept_text ≡ signed_decimal kept
    → codes "nfer: line " ++ (line_text ++ (codes ": time " ++ (found_text ++ (codes " after " ++ (kept_text ++ (codes "\n" ++ [])))))) ≡ at_trace_line line (codes "time " ++ signed_decimal found ++ codes " after " ++ signed_decimal kept)
order_text line kept found line_text found_text kept_text line_is found_is kept_is =
    rw (line_is, found_is, kept_is) (seven_texts (codes "nfer: line ") (decimal line) (codes ": ") (codes "time ") (signed_decimal found) (codes " after ") (signed_decimal kept) (codes "\n"))
