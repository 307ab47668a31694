-- How the steps of a text that is written are linked with those of its bare trees, which ask the same at other lines.
use Rattle.std.proofs.Common.{◌≡◌, ℕ, Bool, true, false, not, List, length, Option, Some, None, refl, sym, ap, subst, ◌∙◌}
use Rattle.std.specs.Prelude.{is_some, nat_lt, nat_le, max, ◌+◌, ◌-◌, ◌&&◌, if◌then◌else◌}
use Rattle.nf_cast.specs.declared.limits.TheConstants.{MOST_CALLS}
use Rattle.nf_core.specs.Texts.{text_eq}
use Rattle.nf_core.proofs.Public.EachOnceLemmas.{same as same_text}
use Rattle.nf_cast.specs.declared.rules.CRule.{CRule}
use Rattle.nf_cast.specs.declared.rules.CRule.TheVariants as rule
use Rattle.nf_cast.specs.declared.rules.Breach.{Breach}
use Rattle.nf_cast.specs.declared.rules.Global.TheVariants as g
use Rattle.nf_cast.specs.declared.placed.PlacedName.{PlacedName}
use Rattle.nf_cast.specs.Rules.{Parts, of_class, whole}
use Rattle.nf_cast.specs.Book.{Book, Step, Seen, global, local, earlier, blame, demand, look, is_scalar, used, again, deepened, deepen, take_room, left, within}

-- where the first step leaves no breach there was none, and the second does the same
abbrev pub Agree : Step → Step → Type 0
Agree f h = (b : Book) → (f b).first ≡ None → (b.first ≡ None) × (f b ≡ h b)

-- one step after another
pub after : (f h later same_later : Step) → Agree f h → Agree later same_later → Agree (λ b. later (f b)) (λ b. same_later (h b))
after f h later same_later first second b none =
    let at_end = second (f b) none in
    let at_start = first b at_end.0 in
    (at_start.0, at_end.1 ∙ ap same_later at_start.1)

-- a step that leaves the breach as it is
pub quiet : (f : Step) → ((b : Book) → (f b).first ≡ b.first) → Agree f f
quiet f stays b none = (sym (stays b) ∙ none, refl)

some_is_left : (found : Option Breach) (later : Breach) → earlier found later ≡ None → ⊥
some_is_left (Some found) later e = cc
some_is_left None later e = cc

-- a demand that leaves no breach is met, and found none
pub passed : (line : ℕ) (r : CRule) (m : Bool) (b : Book) → (demand line r m b).first ≡ None → (m ≡ true) × (b.first ≡ None)
passed line r true b none = (refl, none)
passed line r false b none = absurd (some_is_left b.first (record { line = line; rule = r }) none)

-- a demand that is met does nothing
pub met : (line : ℕ) (r : CRule) (m : Bool) (b : Book) → m ≡ true → demand line r m b ≡ b
met line r true b e = refl
met line r false b e = absurd cc

-- a demand after a step, which looks at what was before
pub demanded : (line other : ℕ) (r : CRule) (m : Book → Bool) (f h : Step) → Agree f h → Agree (λ b. demand line r (m b) (f b)) (λ b. demand other r (m b) (h b))
demanded line other r m f h agree b none =
    let p = passed line r (m b) (f b) none in
    let a = agree b p.1 in
    (a.0, met line r (m b) (f b) p.0 ∙ a.1 ∙ sym (met other r (m b) (h b) p.0))

pub nothing : Agree (λ b. b) (λ b. b)
nothing b none = (none, refl)

pub within_agrees : (f h : Step) → Agree f h → Agree (within f) (within h)
within_agrees f h agree b none = let a = agree b none in (a.0, ap (left (length b.locals)) a.1)

-- a step that leaves no breach found none
abbrev pub Stays : Step → Type 0
Stays f = (b : Book) → (f b).first ≡ None → b.first ≡ None

used_agrees : (x : List ℕ) (line other : ℕ) (test : Option Seen → Bool) → Agree (used test (record { line = line; name = x })) (used test (record { line = other; name = x }))
used_agrees x line other test =
    demanded line other rule.Form (λ b. test (look b x)) (λ b. demand line rule.Unknown (is_some (look b x)) b) (λ b. demand other rule.Unknown (is_some (look b x)) b)
    (demanded line other rule.Unknown (λ b. is_some (look b x)) (λ b. b) (λ b. b) nothing)

again_agrees : (loop x : List ℕ) (line other : ℕ) → Agree (again loop (record { line = line; name = x })) (again loop (record { line = other; name = x }))
again_agrees loop x line other = demanded line other rule.Loop (λ b. text_eq loop x) (used is_scalar (record { line = line; name = x })) (used is_scalar (record { line = other; name = x })) (used_agrees x line other is_scalar)

-- a name of a loop's header is the loop's, or there is a breach
pub again_is : (loop : List ℕ) (at : PlacedName) (other : ℕ) → Agree (again loop at) (again loop (record { line = other; name = loop }))
again_is loop at other b none =
    let p = passed at.line rule.Loop (text_eq loop at.name) (used is_scalar at b) none in
    let same_name : loop ≡ at.name = same_text loop at.name p.0 in
    let a = again_agrees loop at.name at.line other b none in
    (a.0, a.1 ∙ ap (λ (x : List ℕ). again loop (record { line = other; name = x }) b) (sym same_name))

-- the other way round, where the name is the loop's
pub again_back : (loop : List ℕ) (at : PlacedName) (other : ℕ) → text_eq loop at.name ≡ true → Agree (again loop (record { line = other; name = loop })) (again loop at)
again_back loop at other is = subst (λ (x : List ℕ). Agree (again loop (record { line = other; name = x })) (again loop at)) (sym (same_text loop at.name is)) (again_agrees loop at.name other at.line)

-- a choice of two steps, of which the second leaves a breach
chosen : (m : Bool) (b c : Book) (line other : ℕ) (r : CRule) → (c.first ≡ None → b.first ≡ None) → (if m then c else blame line r b).first ≡ None → (b.first ≡ None) × ((if m then c else blame line r b) ≡ (if m then c else blame other r b))
chosen true b c line other r stays none = (stays none, refl)
chosen false b c line other r stays none = absurd (some_is_left b.first (record { line = line; rule = r }) none)

deepened_agrees : (line other : ℕ) (seen : Option Seen) → Agree (deepened line seen) (deepened other seen)
unfolding deepened
deepened_agrees line other None b none = (none, refl)
deepened_agrees line other (Some (local k)) b none = (none, refl)
deepened_agrees line other (Some (global g.Scalar)) b none = (none, refl)
deepened_agrees line other (Some (global (g.Array n))) b none = (none, refl)
deepened_agrees line other (Some (global (g.Func n v d))) b none = chosen (nat_lt d MOST_CALLS) b (record b { depth = max b.depth (d + 1) }) line other rule.Calls (λ e. e) none

pub deepen_agrees : (x : List ℕ) (line other : ℕ) → Agree (deepen (record { line = line; name = x })) (deepen (record { line = other; name = x }))
deepen_agrees x line other b none = deepened_agrees line other (look b x) b none

pub take_room_agrees : (line other n : ℕ) → Agree (take_room line n) (take_room other n)
unfolding take_room
take_room_agrees line other n b none = chosen (nat_lt 0 n && nat_le n b.room) b (record b { room = b.room - n }) line other rule.Size (λ e. e) none

-- what the class of an expression is asked for
abbrev pub fits : Bool → Bool → Bool
fits wanted condition = if wanted then condition else not condition

-- the class is asked for between the first token and the rest
pub whole_agrees : (wanted : Bool) (p q : Parts) → p.condition ≡ q.condition → Stays p.rest → Agree (λ b. p.rest (p.front b)) (λ b. q.rest (q.front b)) → Agree (whole wanted p) (whole wanted q)
whole_agrees wanted p q same_condition rest both b none =
    let there = passed p.line rule.Class (fits wanted p.condition) (p.front b) (rest (of_class wanted p (p.front b)) none) in
    let is_p = met p.line rule.Class (fits wanted p.condition) (p.front b) there.0 in
    let is_q = met q.line rule.Class (fits wanted q.condition) (q.front b) (subst (λ (condition : Bool). fits wanted condition ≡ true) same_condition there.0) in
    let agree = both b (ap (λ (c : Book). (p.rest c).first) (sym is_p) ∙ none) in
    (agree.0, ap p.rest is_p ∙ agree.1 ∙ ap q.rest (sym is_q))

pub whole_stays : (wanted : Bool) (p : Parts) → Stays p.front → Stays p.rest → Stays (whole wanted p)
whole_stays wanted p front rest b none =
    front b (passed p.line rule.Class (fits wanted p.condition) (p.front b) (rest (of_class wanted p (p.front b)) none)).1

pub class_stays : (wanted : Bool) (p : Parts) → Stays (of_class wanted p)
class_stays wanted p b none = (passed p.line rule.Class (fits wanted p.condition) b none).1

pub used_stays : (test : Option Seen → Bool) (at : PlacedName) → Stays (used test at)
used_stays test at b none = (passed at.line rule.Unknown (is_some (look b at.name)) b (passed at.line rule.Form (test (look b at.name)) (demand at.line rule.Unknown (is_some (look b at.name)) b) none).1).1

-- how the steps of a written text and those of its bare trees are linked, and what keeps the link. Where it is strict, all names of a loop's header have to be the loop's
pub record Links : Type 1 where
  pub rel : Step → Step → Type 0
  pub strict : Bool
  pub follow : (f h later same_later : Step) → rel f h → rel later same_later → rel (λ b. later (f b)) (λ b. same_later (h b))
  pub ask : (line other : ℕ) (r : CRule) (m : Book → Bool) (f h : Step) → rel f h → rel (λ b. demand line r (m b) (f b)) (λ b. demand other r (m b) (h b))
  pub keep : (f : Step) → ((b : Book) → (f b).first ≡ b.first) → rel f f
  pub inside : (f h : Step) → rel f h → rel (within f) (within h)
  pub deep : (x : List ℕ) (line other : ℕ) → rel (deepen (record { line = line; name = x })) (deepen (record { line = other; name = x }))
  pub space : (line other n : ℕ) → rel (take_room line n) (take_room other n)
  pub again_is : (loop : List ℕ) (at : PlacedName) (other : ℕ) → (strict ≡ true → text_eq loop at.name ≡ true) → rel (again loop at) (again loop (record { line = other; name = loop }))
  pub class : (wanted : Bool) (p q : Parts) → p.condition ≡ q.condition → Stays p.rest → Stays q.rest → rel (λ b. p.rest (p.front b)) (λ b. q.rest (q.front b)) → rel (whole wanted p) (whole wanted q)

-- the bare trees break no rule where the text breaks none
abbrev pub to_bare : Links
to_bare = record {
  rel = Agree;
  strict = false;
  follow = after;
  ask = demanded;
  keep = quiet;
  inside = within_agrees;
  deep = deepen_agrees;
  space = take_room_agrees;
  again_is = λ loop at other straight. again_is loop at other;
  class = λ wanted p q same_condition p_rest q_rest both. whole_agrees wanted p q same_condition p_rest both;
}

-- the text breaks no rule where the bare trees break none
abbrev pub from_bare : Links
from_bare = record {
  rel = λ f h. Agree h f;
  strict = true;
  follow = λ f h later same_later first second. after h f same_later later first second;
  ask = λ line other r m f h agree. demanded other line r m h f agree;
  keep = quiet;
  inside = λ f h agree. within_agrees h f agree;
  deep = λ x line other. deepen_agrees x other line;
  space = λ line other n. take_room_agrees other line n;
  again_is = λ loop at other straight. again_back loop at other (straight refl);
  class = λ wanted p q same_condition p_rest q_rest both. whole_agrees wanted q p (sym same_condition) q_rest both;
}
