-- The bytes of a trace that were read, piece by piece.
use Rattle.std.proofs.Common.{◌≡◌, ℕ, zero, suc, ◌+◌, ◌≤◌, List, [], ◌∷◌, ◌++◌, length, take, drop, option_map, sym, ap, ◌∙◌, subst, length-append, arith, Option, Some, IfSome, Ok, refl}
use Rattle.std.proofs.lemmas.List.{drop_all, drop-drop, take_all}
use Rattle.std.specs.Prelude.{◌==◌}
use Rattle.std.proofs.lemmas.List.Sums.{count_by-le-length}
use Rattle.std.proofs.Math.Seq.{take-add, take-append_seam}
use Rattle.nf_io.specs.Bytes.{Gives}
use Rattle.nf_io.specs.Tells.{ShelfTells, SinkTells}
use Rattle.nf_line.specs.Lines.{ended_lines}
use Rattle.nf_session.specs.Sessions.{HasCauses}
use Rattle.nf_session.specs.inner.Reads.{ReadsPiece}

length_drop : (read : ℕ) (bytes : List ℕ) → read ≤ length bytes → length (drop read bytes) + read ≡ length bytes
length_drop zero bytes low = omega arith
length_drop (suc read) [] low = absurd (omega arith)
length_drop (suc read) (byte ∷ bytes) low = let rest = length_drop read bytes (omega arith) in omega (arith, rest)

-- a buffer that was filled is what was put into it
same_buffer : (len : ℕ) (buffer items now : List ℕ) → now ≡ take len (buffer ++ drop (length buffer) items) → length buffer ≡ len → now ≡ buffer
same_buffer len buffer items now is all = is ∙ ap (λ n. take n (buffer ++ drop (length buffer) items)) (sym all) ∙ take-append_seam buffer (drop (length buffer) items)

pub gives_now : (len : ℕ) (buffer items now : List ℕ) (count : ℕ) (rest : Option (List ℕ)) → now ≡ take len (buffer ++ drop (length buffer) items) → length buffer ≡ len → IfSome rest (Gives buffer count)
    → IfSome rest (Gives now count)
gives_now len buffer items now count rest is all gives = subst (λ (b : List ℕ). IfSome rest (Gives b count)) (sym (same_buffer len buffer items now is all)) gives

-- the first bytes of a trace that were fed, and the others left
pub record IsFed (bytes fed : List ℕ) (rest : Option (List ℕ)) : Type 0 where
  pub within : length fed ≤ length bytes
  pub fed_is : fed ≡ take (length fed) bytes
  pub rest_is : rest ≡ Some (drop (length fed) bytes)

-- a piece more
pub fed_more : (bytes fed buffer : List ℕ) (count : ℕ) (rest next_rest : Option (List ℕ)) → IsFed bytes fed rest → length (take count buffer) ≡ count
    → IfSome rest (Gives buffer count) → next_rest ≡ option_map (drop count) rest → IsFed bytes (fed ++ take count buffer) next_rest
fed_more bytes fed buffer count rest next_rest fed_so_far size gives left =
    let given : Gives buffer count (drop (length fed) bytes) = subst (λ r. IfSome r (Gives buffer count)) fed_so_far.rest_is gives in
    let total : length (fed ++ take count buffer) ≡ length fed + count = length-append fed (take count buffer) ∙ ap (λ n. length fed + n) size in
    let whole : fed ++ take count buffer ≡ take (length fed + count) bytes =
    ap (λ piece. fed ++ piece) given.bytes ∙ ap (λ first. first ++ take count (drop (length fed) bytes)) fed_so_far.fed_is ∙ sym (take-add (length fed) count bytes) in
    record {
      within = omega (arith, given.enough, length_drop (length fed) bytes fed_so_far.within);
      fed_is = whole ∙ ap (λ n. take n bytes) (sym total);
      rest_is = left ∙ ap (option_map (drop count)) fed_so_far.rest_is ∙ ap Some (drop-drop count (length fed) bytes) ∙ ap (λ n. Some (drop n bytes)) (sym total);
    }

-- a trace that was fed to its end
pub record IsFedWhole (bytes fed : List ℕ) (rest : Option (List ℕ)) : Type 0 where
  pub fed_is : fed ≡ bytes
  pub rest_is : rest ≡ Some []

-- a piece of no bytes is the end
pub fed_whole : (bytes fed buffer : List ℕ) (count : ℕ) (rest next_rest : Option (List ℕ)) → IsFed bytes fed rest
    → IfSome rest (Gives buffer count) → next_rest ≡ option_map (drop count) rest → count ≡ 0 → IsFedWhole bytes fed next_rest
fed_whole bytes fed buffer count rest next_rest fed_so_far gives left none =
    let given : Gives buffer count (drop (length fed) bytes) = subst (λ r. IfSome r (Gives buffer count)) fed_so_far.rest_is gives in
    let nothing : drop (length fed) bytes ≡ [] = given.end.0 none in
    let all : length fed ≡ length bytes = omega (arith, length_drop (length fed) bytes fed_so_far.within, ap length nothing) in
    record {
      fed_is = fed_so_far.fed_is ∙ take_all (length fed) bytes (omega arith);
      rest_is = left ∙ ap (option_map (drop count)) fed_so_far.rest_is ∙ ap Some (drop-drop count (length fed) bytes) ∙ ap Some (drop_all (length fed + count) bytes (omega arith));
    }

-- no more lines ended in some bytes than there are bytes
pub lines_within : (bytes : List ℕ) → ended_lines bytes ≤ length bytes
lines_within bytes = count_by-le-length (λ byte. byte == 10) bytes

-- no fault came so far
pub causes_first : (shelf : ShelfTells) (out : SinkTells) → HasCauses {A = Unit {0}} (Ok tt) shelf shelf out out
causes_first shelf out = record {
  files = refl;
  asked = refl;
  read_fault = λ e. cc;
  failed = λ e. cc;
  only_failed = λ calm. calm;
  write_fault = λ e. cc;
  never_falls = omega arith;
  never_falls_out = omega arith;
}

-- no fault came while a piece was read and handled
pub causes_more : (buffer : List ℕ) (most count : ℕ) (shelf shelf_now shelf_next : ShelfTells) (out out_now out_next : SinkTells) → HasCauses {A = Unit {0}} (Ok tt) shelf shelf_now out out_now
    → ReadsPiece buffer most (Ok count) shelf_now shelf_next → out_now.faults ≤ out_next.faults → HasCauses {A = Unit {0}} (Ok tt) shelf shelf_next out out_next
causes_more buffer most count shelf shelf_now shelf_next out out_now out_next was reads later = record {
  files = reads.files ∙ was.files;
  asked = reads.asked ∙ was.asked;
  read_fault = λ e. cc;
  failed = λ e. cc;
  only_failed = λ calm. reads.failed;
  write_fault = λ e. cc;
  never_falls = omega (arith, reads.never_falls, was.never_falls);
  never_falls_out = omega (arith, later, was.never_falls_out);
}
