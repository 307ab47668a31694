-- The longest mark of the table is read.
use Rattle.std.proofs.Common.{◌≡◌, ℕ, zero, suc, ◌<◌, ◌≤◌, Bool, true, false, not, ◌&&◌, cond, leb, List, [], ◌∷◌, length, take, drop, get_or, refl, sym, ap, ◌∙◌, subst, arith, nat_eq, bytes_eq, true≢false}
use Rattle.std.specs.List.{starts_with, list_all}
use Rattle.std.proofs.lemmas.List.{take_at, get_or_default}
use Rattle.std.proofs.lemmas.List.Sums.{AllPass-from_list_all}
use Rattle.std.proofs.lemmas.Bool.{leb-true, not-true}
use Rattle.std.specs.Cmp.Lexicographic.{nat_list_eq_equiv}
use Rattle.nf_lemmas.proofs.BoolLemmas.{both}
use Rattle.nf_cparse.specs.Symbols.{c_marks}
use Rattle.nf_cparse.specs.Pieces.{token_or_fault, mark_in}
use Rattle.nf_cparse.specs.Marks.{Mark, IsLongestMark}
use Rattle.nf_cparse.proofs.CommentLemmas.{begins}

-- a later mark is no longer than an earlier one, and another one
abbrev follows : Mark → Mark → Bool
follows mark other = leb (length other.0) (length mark.0) && not (bytes_eq other.0 mark.0)

abbrev ordered : List Mark → Bool
ordered [] = true
ordered (mark ∷ marks) = list_all (follows mark) marks && ordered marks

-- two fronts of one length are one
fronts_same : (bytes : List ℕ) (m n : List ℕ) → starts_with nat_eq bytes m ≡ true → starts_with nat_eq bytes n ≡ true → length m ≡ length n → m ≡ n
fronts_same bytes m n e f l =
    sym (take_at m (drop (length m) bytes) (length m) refl) ∙ ap (take (length m)) (sym (begins bytes m e)) ∙ ap (λ k. take k bytes) l
    ∙ ap (take (length n)) (begins bytes n f) ∙ take_at n (drop (length n) bytes) (length n) refl

pub longest_in : (marks : List Mark) → ordered marks ≡ true → (bytes : List ℕ) (mark : Mark) (k : ℕ) → k < length marks → get_or marks k mark ≡ mark → starts_with nat_eq bytes mark.0 ≡ true
    → ((j : ℕ) → j < length marks → starts_with nat_eq bytes (get_or marks j mark).0 ≡ true → length (get_or marks j mark).0 ≤ length mark.0)
    → mark_in marks bytes ≡ token_or_fault mark.1 (length mark.0)
longest_in [] o bytes mark k l e s longest = absurd (omega arith)
longest_in (m ∷ marks) o bytes mark k l e s longest = by (starts_with nat_eq bytes m.0) refl k l e (λ j h f g. longest_in marks (both (list_all (follows m) marks) (ordered marks) o).1 bytes mark j h f s g)
  where
    later : (j : ℕ) → j < length marks → get_or marks j mark ≡ mark → starts_with nat_eq bytes m.0 ≡ true → ⊥
    later j h f b =
        let p = both (leb (length mark.0) (length m.0)) (not (bytes_eq mark.0 m.0)) (subst (λ n. follows m n ≡ true) f (AllPass-from_list_all (follows m) marks (both (list_all (follows m) marks) (ordered marks) o).0 j mark h)) in
        let low = leb-true (length mark.0) (length m.0) p.0 in
        let high = longest 0 (omega arith) b in
        let same = fronts_same bytes mark.0 m.0 s b (omega (arith, low, high)) in
        true≢false (sym (nat_list_eq_equiv.refl m.0) ∙ ap (λ n. bytes_eq n m.0) (sym same) ∙ not-true (bytes_eq mark.0 m.0) p.1)

    by : (b : Bool) → starts_with nat_eq bytes m.0 ≡ b → (k : ℕ) → k < length (m ∷ marks) → get_or (m ∷ marks) k mark ≡ mark
        → ((j : ℕ) → j < length marks → get_or marks j mark ≡ mark
        → ((i : ℕ) → i < length marks → starts_with nat_eq bytes (get_or marks i mark).0 ≡ true → length (get_or marks i mark).0 ≤ length mark.0) → mark_in marks bytes ≡ token_or_fault mark.1 (length mark.0))
        → cond b (token_or_fault m.1 (length m.0)) (mark_in marks bytes) ≡ token_or_fault mark.1 (length mark.0)
    by true b zero h f rest = ap (λ (n : Mark). token_or_fault n.1 (length n.0)) f
    by true b (suc j) h f rest = absurd (later j (omega arith) f b)
    by false b zero h f rest = absurd (true≢false (sym (ap (λ (n : Mark). starts_with nat_eq bytes n.0) f ∙ s) ∙ b))
    by false b (suc j) h f rest = rest j (omega arith) f (λ i g. longest (suc i) (omega arith))

marks_ordered : ordered c_marks ≡ true
unfolding c_marks
marks_ordered = refl

pub longest_mark : (bytes : List ℕ) (mark : Mark) → IsLongestMark bytes mark → mark_in c_marks bytes ≡ token_or_fault mark.1 (length mark.0)
longest_mark bytes mark h = longest_in c_marks marks_ordered bytes mark h.there.0 h.there.1 h.there.2 h.begins
    (λ j l b. h.longest (get_or c_marks j mark) (j, l, get_or_default c_marks j (get_or c_marks j mark) mark l) b)
