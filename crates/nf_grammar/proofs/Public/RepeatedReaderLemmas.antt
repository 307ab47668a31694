-- Readers of repeated parts: what they read, and before which word they end.
use Rattle.std.proofs.Common.{◌≡◌, ◌≤◌, ◌⊎◌, inl, inr, ⊎_elim, ℕ, zero, suc, Bool, true, false, cond, List, [], ◌∷◌, length, refl, ap, ◌∙◌, subst, arith, Option, Ok, Err}
use Rattle.nf_grammar.specs.State.{State, next}
use Rattle.nf_grammar.specs.Parts.{Part, none, whole, IsRepeated, IsRepeatedFront, more, here}
use Rattle.nf_grammar.specs.Parts as part
use Rattle.nf_grammar.specs.declared.fault.Fault.{Fault}
use Rattle.nf_grammar.specs.inner.Parsers.{Outcome, Parser, place_of, place, bind, behind, in_list, repeated_from}
use Rattle.nf_grammar.specs.inner.Parsers as parser
use Rattle.nf_grammar.proofs.Public.OutcomeLemmas.{ok_is, no_ok, no_err, err_is, bind_place, choose_place, list_place, list_err}
use Rattle.nf_grammar.proofs.Public.ReaderLemmas.{Next, IsAtFront, IsBehind, IsReader, IsShorter, IsBehind-then, same_place, forward}

-- as many parts as the next words begin
module _ {W A : Type 0} {test : Option W → Bool} {p : Parser W A} {P : Part W A} {begin stop_part stop : Next W}
    (part_of : IsReader p P begin stop_part) (short : IsShorter p) (again : (n : Option W) → begin n → stop_part n) (stops : (n : Option W) → stop n → stop_part n)
    (takes : (n : Option W) → begin n → test n ≡ true) (leaves : (n : Option W) → stop n → test n ≡ false) where
  abbrev from : ℕ → Parser W (List A)
  from = repeated_from test p

  list_sound : (s u t : State W) (x : A) (xs : List A) (o : Outcome W (List A)) → P.word s x u
      → ((ys : List A) (v : State W) → o ≡ Ok (ys, v) → IsRepeated P u ys v)
      → in_list x o ≡ Ok (xs, t) → IsRepeated P s xs t
  list_sound s u t x xs (Ok read) w later e =
      let g = ok_is (x ∷ read.0, read.1) (xs, t) (Ok (x ∷ read.0, read.1)) refl e in
      subst (λ (r : List A × State W). IsRepeated P s r.0 r.1) g (more w (later read.0 read.1 refl))
  list_sound s u t x xs (Err f) w later e = absurd (no_ok f (xs, t) e)

  none_sound : (s t : State W) (xs : List A)
      → ◌≡◌ {A = Outcome W (List A)} (Ok ([], s)) (Ok (xs, t)) → IsRepeated P s xs t
  none_sound s t xs e = subst (λ (r : List A × State W). IsRepeated P s r.0 r.1) (ok_is ([], s) (xs, t) (Ok ([], s)) refl e) none

  turn_sound : (turns : ℕ) (s t : State W) (xs : List A) (b : Bool) (o : Outcome W A) → p s ≡ o
      → ((u : State W) (ys : List A) (v : State W) → from turns u ≡ Ok (ys, v) → IsRepeated P u ys v)
      → cond b (bind o (λ x u. in_list x (from turns u))) (Ok ([], s)) ≡ Ok (xs, t)
      → IsRepeated P s xs t
  turn_sound turns s t xs true (Ok read) e later f = list_sound s read.1 t read.0 xs (from turns read.1) (part_of.sound s read.1 read.0 e) (later read.1) f
  turn_sound turns s t xs true (Err g) e later f = absurd (no_ok g (xs, t) f)
  turn_sound turns s t xs false o e later f = none_sound s t xs f

  from_sound : (turns : ℕ) (s t : State W) (xs : List A) → from turns s ≡ Ok (xs, t)
      → IsRepeated P s xs t
  unfolding repeated_from
  from_sound zero s t xs e = none_sound s t xs e
  from_sound (suc turns) s t xs e = turn_sound turns s t xs (test (next s)) (p s) refl (λ u ys v. from_sound turns u v ys) e

  repeated_begins : (s t : State W) (xs : List A) → IsRepeated P s xs t → stop (next t)
      → begin (next s) ⊎ stop (next s)
  repeated_begins s _ _ none h = inr h
  repeated_begins s t _ (more {t = u} {x} {xs} w later) h =
      inl (part_of.begins s u x w (⊎_elim (again (next u)) (stops (next u)) (repeated_begins u t xs later h)))

  from_complete : (turns : ℕ) (s t : State W) (xs : List A) → IsRepeated P s xs t → stop (next t)
      → length s.words ≤ turns → from turns s ≡ Ok (xs, t)
  unfolding repeated_from
  from_complete zero s _ _ none h l = refl
  from_complete (suc turns) s _ _ none h l = let b = leaves (next s) h in rw b refl
  from_complete zero s t _ (more {t = u} {x} {xs} w later) h l =
      let g = part_of.complete s u x w (⊎_elim (again (next u)) (stops (next u)) (repeated_begins u t xs later h)) in
      absurd (omega (arith, short.fewer s u x g))
  from_complete (suc turns) s t _ (more {t = u} {x} {xs} w later) h l =
      let stop_here = ⊎_elim (again (next u)) (stops (next u)) (repeated_begins u t xs later h) in
      let g = part_of.complete s u x w stop_here in
      let b = takes (next s) (part_of.begins s u x w stop_here) in
      rw (b, g) (ap (in_list x) (from_complete turns u t xs later h (omega (arith, short.fewer s u x g))))

  repeated_whole : (s t : State W) (xs : List A) → IsRepeated P s xs t → IsRepeatedFront P s t
  repeated_whole s _ _ none = here (part_of.empty s)
  repeated_whole s t _ (more {t = u} {x} {xs} w later) = more w (repeated_whole u t xs later)

  repeated_starts : (s v : State W) → IsRepeatedFront P s v → (v ≡ s) ⊎ begin (next s)
  repeated_starts s v (here f) = part_of.starts s v f
  repeated_starts s v (more {t = u} {x} w later) = elim (part_of.starts s u (part_of.whole s u x w)) [
    | inl e ↦ elim (repeated_starts u v later) [ inl d ↦ inl (d ∙ e) | inr b ↦ inr (subst (λ z. begin (next z)) e b) ]
    | inr b ↦ inr b
  ]

  repeated_behind : (s v : State W) → IsRepeatedFront P s v → IsBehind s v
  repeated_behind s v (here f) = part_of.behind s v f
  repeated_behind s v (more {t = u} {x} w later) = IsBehind-then s u v (part_of.behind s u (part_of.whole s u x w)) (repeated_behind u v later)

  -- a turn reads no way back, and as far as its part does where that begins
  turn_place : (turns : ℕ) → ((u : State W) → place (from turns u) ≤ length u.words)
      → (o : Outcome W A) → place (bind o (λ x u. in_list x (from turns u))) ≤ place o
  turn_place turns later o = bind_place o (λ x u. in_list x (from turns u)) (λ x u. omega (arith, list_place x (from turns u), later u))

  from_forward : (turns : ℕ) (s : State W) → place (from turns s) ≤ length s.words
  unfolding repeated_from
  from_forward zero s = omega arith
  from_forward (suc turns) s = choose_place (test (next s)) (bind (p s) (λ x u. in_list x (from turns u))) (Ok ([], s))
      (omega (arith, turn_place turns (from_forward turns) (p s), forward part_of s)) (omega arith)

  from_reach : (turns : ℕ) (s v : State W) → length s.words ≤ turns → IsRepeatedFront P s v
      → place (from turns s) ≤ length v.words
  unfolding repeated_from
  from_reach zero s v l f = omega (arith, l)
  from_reach (suc turns) s v l (here f) = go (part_of.starts s v f)
    where
      go : (v ≡ s) ⊎ begin (next s) → place (from (suc turns) s) ≤ length v.words
      go (inl e) = omega (arith, from_forward (suc turns) s, same_place s v e)
      go (inr b) = rw (takes (next s) b) (omega (arith, turn_place turns (from_forward turns) (p s), part_of.reach s v f))
  from_reach (suc turns) s v l (more {t = u} {x} w later) = go (λ l. from_reach turns u v l later) (repeated_starts u v later) (part_of.starts s u (part_of.whole s u x w))
    where
      goes_on : (length u.words ≤ turns → place (from turns u) ≤ length v.words) → begin (next u)
          → place (from (suc turns) s) ≤ length v.words
      goes_on reaches b =
          let g = part_of.complete s u x w (again (next u) b) in
          let t = takes (next s) (part_of.begins s u x w (again (next u) b)) in
          rw (t, g) (omega (arith, list_place x (from turns u), reaches (omega (arith, short.fewer s u x g, l))))

      go : (length u.words ≤ turns → place (from turns u) ≤ length v.words)
          → (v ≡ u) ⊎ begin (next u) → (u ≡ s) ⊎ begin (next s)
          → place (from (suc turns) s) ≤ length v.words
      go reaches (inr b) h = goes_on reaches b
      go reaches (inl e) (inl d) = omega (arith, from_forward (suc turns) s, same_place s v (e ∙ d))
      go reaches (inl e) (inr b) = rw (takes (next s) b) (omega (arith, turn_place turns (from_forward turns) (p s), part_of.reach s u (part_of.whole s u x w), same_place u v e))

  turn_at : (turns : ℕ) (s : State W) (f : Fault) (b : Bool) (o : Outcome W A) → p s ≡ o
      → ((u : State W) → from turns u ≡ Err f → IsAtFront (part.repeated P) u (place_of f))
      → cond {A = Outcome W (List A)} b (bind o (λ x u. in_list x (from turns u))) (Ok ([], s)) ≡ Err f
      → IsAtFront (part.repeated P) s (place_of f)
  turn_at turns s f true (Ok read) e later g =
      let a = later read.1 (list_err read.0 f (from turns read.1) g) in
      record { end = a.end; front = more (part_of.sound s read.1 read.0 e) a.front; here = a.here }
  turn_at turns s f true (Err h) e later g = let a = part_of.at s h e in record { end = a.end; front = here a.front; here = a.here ∙ ap place_of (err_is h f g) }
  turn_at turns s f false o e later g = absurd (no_err f _ g)

  from_at : (turns : ℕ) (s : State W) (f : Fault) → from turns s ≡ Err f
      → IsAtFront (part.repeated P) s (place_of f)
  unfolding repeated_from
  from_at zero s f e = absurd (no_err f _ e)
  from_at (suc turns) s f e = turn_at turns s f (test (next s)) (p s) refl (λ u. from_at turns u f) e

  pub repeated_reader : IsReader (parser.repeated test p) (part.repeated P) (λ n. begin n ⊎ stop n) stop
  unfolding parser.repeated
  repeated_reader = record {
    sound = λ s t xs e. from_sound (length s.words) s t xs e;
    complete = λ s t xs w h. from_complete (length s.words) s t xs w h (omega arith);
    begins = repeated_begins;
    empty = λ s. here (part_of.empty s);
    whole = repeated_whole;
    starts = λ s v f. elim (repeated_starts s v f) [ inl e ↦ inl e | inr b ↦ inr (inl b) ];
    behind = repeated_behind;
    reach = λ s v f. from_reach (length s.words) s v (omega arith) f;
    at = λ s f e. from_at (length s.words) s f e;
  }

-- a repetition ends before a word that begins no part, or at the end
module _ {W A : Type 0} (test : Option W → Bool) (p : Parser W A) (short : IsShorter p) where
  no_words : (ws : List W) → length ws ≤ 0 → ws ≡ []
  no_words [] l = refl
  no_words (w ∷ ws) l = absurd (omega (arith, l))

  -- what a list that is read stands before
  listed : (x : A) (o : Outcome W (List A)) (xs : List A) (t : State W) → in_list x o ≡ Ok (xs, t)
      → (ys : List A) × (o ≡ Ok (ys, t))
  listed x (Ok read) xs t e = (read.0, ap (λ (r : List A × State W). Ok (read.0, r.1)) (ok_is (x ∷ read.0, read.1) (xs, t) (Ok (x ∷ read.0, read.1)) refl e))
  listed x (Err f) xs t e = absurd (no_ok f (xs, t) e)

  turn_ends : (turns : ℕ) (s t : State W) (xs : List A) (b : Bool) (o : Outcome W A)
      → test (next s) ≡ b → p s ≡ o → length s.words ≤ suc turns
      → ((u : State W) (ys : List A) → length u.words ≤ turns → repeated_from test p turns u ≡ Ok (ys, t) → (test (next t) ≡ false) ⊎ (t.words ≡ []))
      → cond {A = Outcome W (List A)} b (bind o (λ x u. in_list x (repeated_from test p turns u))) (Ok ([], s)) ≡ Ok (xs, t)
      → (test (next t) ≡ false) ⊎ (t.words ≡ [])
  turn_ends turns s t xs true (Ok read) d e l later f = let g = listed read.0 (repeated_from test p turns read.1) xs t f in later read.1 g.0 (omega (arith, l, short.fewer s read.1 read.0 e)) g.1
  turn_ends turns s t xs true (Err g) d e l later f = absurd (no_ok g (xs, t) f)
  turn_ends turns s t xs false o d e l later f = inl (subst (λ (r : List A × State W). test (next r.1) ≡ false) (ok_is ([], s) (xs, t) (Ok ([], s)) refl f) d)

  from_ends : (turns : ℕ) (s t : State W) (xs : List A) → length s.words ≤ turns
      → repeated_from test p turns s ≡ Ok (xs, t) → (test (next t) ≡ false) ⊎ (t.words ≡ [])
  unfolding repeated_from
  from_ends zero s t xs l e = inr (subst (λ (r : List A × State W). r.1.words ≡ []) (ok_is ([], s) (xs, t) (Ok ([], s)) refl e) (no_words s.words l))
  from_ends (suc turns) s t xs l e = turn_ends turns s t xs (test (next s)) (p s) refl refl l (λ u ys k g. from_ends turns u t ys k g) e

  pub repeated_ends : (s t : State W) (xs : List A) → parser.repeated test p s ≡ Ok (xs, t)
      → (test (next t) ≡ false) ⊎ (t.words ≡ [])
  unfolding parser.repeated
  repeated_ends s t xs e = from_ends (length s.words) s t xs (omega arith) e
