-- The steps of the search as the code makes them.
use Rattle.std.proofs.Common.{◌≡◌, ◌≢◌, ℕ, zero, suc, true, false, true≢false, ◌+◌, ◌<◌, ◌≤◌, ◌^◌, List, [], ◌∷◌, ◌++◌, length, get_or, take, All, Contains, IsTrue, refl, ◌⊎◌, inl, inr, sym, ap, subst, ◌∙◌, arith}
use Rattle.std.proofs.Math.ListN.{set}
use Rattle.std.proofs.Math.Seq.{take-length}
use Rattle.std.proofs.lemmas.List.{get_or-set_same}
use Rattle.std.proofs.lemmas.List.Sums.{count_by-le-length}
use Rattle.std.proofs.lemmas.List.Elements.{All-nil, All-tail, All-contains, Contains-get_or}
use Rattle.nf_order.specs.inner.Graph.{IsGraph, is_filled, below_of, IsAbove}
use Rattle.nf_order.specs.inner.Marks.{mark_of, is_new, is_leveled, level_in, HasLevel, level_at, level_over, IsFrame, IsSearch, Keeps, left, HasCycle}
use Rattle.nf_order.specs.declared.marks.Mark.{Mark}
use Rattle.nf_order.specs.declared.marks.Mark.TheVariants.{New, Open, Leveled, Stuck}
use Rattle.nf_order.specs.declared.leveling.Frame.{Frame}
use Rattle.nf_order.proofs.CountLemmas.{level_fits}
use Rattle.nf_order.proofs.SearchLemmas.{moved, opened, opened_keeps, last_open, last_within, found, done, done_keeps, done_left, entered, entered_left}

-- what is neither leveled nor new is open or stuck
open_or_stuck : (mark : Mark) → ¬ IsTrue (is_leveled mark) → false ≡ is_new mark → (mark ≡ Open) ⊎ (mark ≡ Stuck)
open_or_stuck New h g = absurd (true≢false (sym g))
open_or_stuck Open h g = inl refl
open_or_stuck (Leveled level) h g = absurd (h refl)
open_or_stuck Stuck h g = inr refl

new_is : (mark : Mark) → true ≡ is_new mark → mark ≡ New
new_is New h = refl
new_is Open h = absurd (true≢false h)
new_is (Leveled level) h = absurd (true≢false h)
new_is Stuck h = absurd (true≢false h)

-- a mark that was read is that of its name
read_mark : (marks : List Mark) (n : ℕ) (mark : Mark) → n < length marks → mark ≡ get_or marks n mark → mark_of marks n ≡ mark
read_mark [] n mark h is = absurd (omega (arith, h))
read_mark (m ∷ marks) zero mark h is = sym is
read_mark (m ∷ marks) (suc n) mark h is = read_mark marks n mark (omega (arith, h)) is

-- what holds of each item and of what stands for none holds at each place
at_each : {X : Type 0} (P : X → Type 0) (xs : List X) (n : ℕ) (d : X) → All P xs → P d → P (get_or xs n d)
at_each P [] n d all none = none
at_each P (x ∷ xs) zero d all none = all 0 d (omega arith)
at_each P (x ∷ xs) (suc n) d all none = at_each P xs n d (All-tail P x xs all) none

-- what is below a number is a number of the graph
pub below_within : (below : List (List ℕ)) → IsGraph below → (n m : ℕ) → Contains (below_of below n) m → m < length below
below_within below valid n m there = All-contains (λ k. k < length below) (below_of below n) m (at_each (All (λ k. k < length below)) below n [] valid (All-nil (λ k. k < length below))) there

module _ (below : List (List ℕ)) (marks : List Mark) (stack : List Frame) (f : Frame) (s : IsSearch below marks (stack ++ f ∷ [])) (ns : List ℕ) (at : ns ≡ below_of below f.number) where
  pub fits : length below < 2 ^ 64 → (k d : ℕ) → k < length ns → level_at marks (get_or ns k d) + 1 < 2 ^ 64
  fits few k d h =
      let there : Contains (below_of below f.number) (get_or ns k d) = subst (λ xs. Contains xs (get_or ns k d)) at (Contains-get_or ns k d h) in
      omega (arith, few, count_by-le-length is_filled below, level_fits below marks s.marks_hold f.number (get_or ns k d) (last_within below marks stack f s) (last_open below marks stack f s) there)

  leave : (mark : Mark) → is_new mark ≡ false → mark ≢ Open → (IsTrue (is_leveled mark) → All (HasLevel marks) (below_of below f.number) × (level_in mark ≡ level_over marks (below_of below f.number))) → (mark ≡ Stuck → HasCycle below)
      → IsSearch below (set marks f.number mark) stack × Keeps marks (set marks f.number mark) × (left (set marks f.number mark) stack < left marks (stack ++ f ∷ []))
  leave mark not_new not_open right stuck = (done below marks stack f s mark not_new not_open right stuck, done_keeps below marks stack f s mark not_new not_open right stuck, done_left below marks stack f s mark not_new not_open right stuck)

  pub child_within : IsGraph below → (next d : ℕ) → next < length ns → get_or ns next d < length marks
  child_within valid next d h = omega (arith, below_within below valid f.number (get_or ns next d) (subst (λ xs. Contains xs (get_or ns next d)) at (Contains-get_or ns next d h)), s.marks_hold.each)

  module _ (next : ℕ) (seen : All (HasLevel marks) (take next ns)) where
    pub finished : next ≡ length ns → (level : ℕ) → level ≡ level_over marks ns
        → IsSearch below (set marks f.number (Leveled level)) stack × Keeps marks (set marks f.number (Leveled level)) × (left (set marks f.number (Leveled level)) stack < left marks (stack ++ f ∷ []))
    finished end level is =
        let all : All (HasLevel marks) (below_of below f.number) = subst (All (HasLevel marks)) (ap (λ n. take n ns) end ∙ take-length ns ∙ at) seen in
        let own : level ≡ level_over marks (below_of below f.number) = is ∙ ap (level_over marks) at in
        leave (Leveled level) refl (λ e. cc) (λ l. (all, own)) (λ e. cc)

    pub cyclic : (d : ℕ) → next < length ns → ¬ HasLevel marks (get_or ns next d) → get_or ns next d < length marks → (mark : Mark) → mark ≡ get_or marks (get_or ns next d) mark → false ≡ is_new mark
        → IsSearch below (set marks f.number Stuck) stack × Keeps marks (set marks f.number Stuck) × (left (set marks f.number Stuck) stack < left marks (stack ++ f ∷ []))
    cyclic d h none within mark read is =
        let child : ℕ = get_or ns next d in
        let same_mark : mark_of marks child ≡ mark = read_mark marks child mark within read in
        let step : IsAbove below f.number child = subst (λ xs. Contains xs child) at (Contains-get_or ns next d h) in
        let cycle : HasCycle below = elim (open_or_stuck mark (subst (λ m. ¬ IsTrue (is_leveled m)) same_mark none) is) [
          | inl e ↦ found below marks stack f s child (same_mark ∙ e) step
          | inr e ↦ s.stuck child (same_mark ∙ e)
        ] in
        leave Stuck refl (λ e. cc) (λ l. absurd (true≢false (sym l))) (λ e. cycle)

    pub stepped : (d : ℕ) → next < length ns → get_or ns next d < length marks → (mark : Mark) → mark ≡ get_or marks (get_or ns next d) mark → true ≡ is_new mark
        → IsSearch below (set marks (get_or ns next d) Open) (stack ++ record { number = f.number; next = next } ∷ [] ++ record { number = get_or ns next d; next = 0 } ∷ []) × Keeps marks (set marks (get_or ns next d) Open)
        × (left (set marks (get_or ns next d) Open) (stack ++ record { number = f.number; next = next } ∷ [] ++ record { number = get_or ns next d; next = 0 } ∷ []) < left marks (stack ++ f ∷ []))
    stepped d h within mark read is =
        let child : ℕ = get_or ns next d in
        let was : mark_of marks child ≡ New = read_mark marks child mark within read ∙ new_is mark is in
        let frame : IsFrame below marks (record { number = f.number; next = next }) = subst (λ xs. (next ≤ length xs) × All (HasLevel marks) (take next xs)) at (omega arith, seen) in
        let step : IsAbove below f.number child = subst (λ xs. Contains xs child) at (Contains-get_or ns next d h) in (
          entered below marks stack f s next child frame step was within,
          opened_keeps below marks (stack ++ record { number = f.number; next = next } ∷ []) (moved below marks stack f s next frame) child was within,
          entered_left below marks stack f s next child frame step was within,
        )

-- the search starts with one new number
pub started : (below : List (List ℕ)) (marks : List Mark) (number : ℕ) → IsSearch below marks [] → number < length below → (mark : Mark) → mark ≡ get_or marks number mark → true ≡ is_new mark
    → IsSearch below (set marks number Open) (record { number = number; next = 0 } ∷ []) × Keeps marks (set marks number Open) × (mark_of (set marks number Open) number ≢ New)
started below marks number s within mark read is =
    let h : number < length marks = omega (arith, s.marks_hold.each) in
    let was : mark_of marks number ≡ New = read_mark marks number mark h read ∙ new_is mark is in (
      opened below marks [] s number was h (λ m there. absurd (omega (arith, there.1))),
      opened_keeps below marks [] s number was h,
      λ f. let clash : Open ≡ New = sym (get_or-set_same marks number Open New h) ∙ f in cc,
    )
