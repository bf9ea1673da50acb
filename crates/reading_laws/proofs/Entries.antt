-- The machine's entries tell how deep the term that it leads to nests at least, and so few entries suffice.
use Prim.Native.Nat.{ℕ, suc, ◌+◌, ◌*◌, max, ◌<◌, ◌≤◌}
use mathlib.Core.Path.{◌≡◌, refl, sym}
use mathlib.Core.Bool.{Bool, true, false, not, cond, true≢false}
use Rattle.std.specs.Prelude.{Some}
use mathlib.Core.List.{List, [], ◌∷◌}
use native.Mathlib.Omega.{arith}
use lib.ListN.{length}
use Rattle.definitions.specs.declared.Style.TheVariants.{Strict}
use Rattle.definitions.specs.Utf8.{utf8}
use Rattle.definitions.specs.Name.{Name}
use Rattle.definitions.specs.Term.{ProofTerm, Ident, Pair, Unit, Sorry}
use Rattle.definitions.specs.Display.{form, function_of, argument_of, body_of, ascribed_by, within, brackets_of, is_strict, brackets, bracketed, wraps}
use Rattle.definitions.specs.TermText.{term_nesting, term_nesting_limit}
use Rattle.definitions.specs.TermReader.{Shown, standing, word, name, Start, fn_word, case_word, let_word, sorry_word, no_word, call_word, start_of, is_sorry, argument_follows, label, parameter_label, prop_levels}
use Rattle.reading_laws.specs.TermMachine.{Purpose, as_head, as_argument, as_body, Entry, in_bracket, second, function_body, case_head, case_first, case_second, let_head, let_body, State, reading, holding, giving, used, closed_for, onward, start, chain, give, turn}
use Rattle.reading_laws.proofs.TermTexts.{term_nests}
use Rattle.reading_laws.proofs.MachineReads.{Steps, done, next as turned}
use Rattle.reading_laws.proofs.TermConventions.{NameIn, gives_name, LabelIn, ParameterLabelIn, gives_label, gives_parameter_label}
use Rattle.reading_laws.proofs.Turns.{Next, next_then, next_if, next_after, next_or, next_due, next_cond, next_some}

unfoldable pub bit : Bool → ℕ
bit true = 1
bit false = 0

-- the entry on top waits for a part within a function, a case or a let: there an ascription alone stands in brackets
unfoldable pub waits_within : List Entry → Bool
waits_within [] = false
waits_within (in_bracket p ∷ k) = false
waits_within (second p a ∷ k) = false
waits_within (function_body x l ∷ k) = true
waits_within (case_head ∷ k) = true
waits_within (case_first a x ∷ k) = true
waits_within (case_second a x b y ∷ k) = true
waits_within (let_head x y ∷ k) = true
waits_within (let_body x y a ∷ k) = true

-- what a bracket at the head of a term brings: whoever has brackets is applied or ascribed, unless it is an ascription within
unfoldable pub bracket_levels : List Entry → Bool → ℕ
bracket_levels k more = cond (waits_within k) (bit more) 1

-- How deep the whole nests at least, with a term in hand that nests n, and where `more` says that it is no ascription yet.
unfoldable pub deep : List Entry → ℕ → Bool → ℕ
deep [] n more = n
deep (in_bracket as_head ∷ k) n more = deep k (n + bracket_levels k more) false
deep (in_bracket (as_argument f) ∷ k) n more = deep k (1 + max (term_nesting f) n) true
deep (in_bracket (as_body f) ∷ k) n more = deep k (1 + n) true
deep (second as_head b ∷ k) n more = deep k (1 + max (term_nesting b) n) true
deep (second (as_argument f) b ∷ k) n more = deep k (1 + max (term_nesting f) (1 + max (term_nesting b) n)) true
deep (second (as_body f) b ∷ k) n more = deep k (1 + (1 + max (term_nesting b) n)) true
deep (function_body x l ∷ k) n more = deep k (1 + n) true
deep (case_head ∷ k) n more = deep k (1 + n) true
deep (case_first a x ∷ k) n more = deep k (1 + max (term_nesting a) n) true
deep (case_second a x b y ∷ k) n more = deep k (1 + max (term_nesting a) (max (term_nesting b) n)) true
deep (let_head x y ∷ k) n more = deep k (1 + n) true
deep (let_body x y a ∷ k) n more = deep k (1 + max (term_nesting a) n) true

abbrev pub ascribes : ProofTerm Name → Bool
ascribes a = wraps Strict within a

-- with a term in hand, in brackets of its own or not
unfoldable pub deep_own : List Entry → Bool → ProofTerm Name → ℕ
deep_own k false a = deep k (term_nesting a) (not (ascribes a))
deep_own k true a = deep k (term_nesting a + cond (waits_within k) (bit (not (ascribes a))) 1) false

abbrev pub deep_with : List Entry → Shown (ProofTerm Name) → ℕ
deep_with k a = deep_own k a.own a.shown

unfoldable pub deepest : State → ℕ
deepest (reading k s) = deep k 1 false
deepest (holding k a s) = deep_with k a
deepest (giving k a s) = deep_with k a

bit_most : (b : Bool) → bit b ≤ 1
unfolding bit
bit_most true = omega arith
bit_most false = omega arith

levels_rise : (k : List Entry) (n m : ℕ) (u v : Bool) → n ≤ m → n + bit u ≤ m + bit v → n + bracket_levels k u ≤ m + bracket_levels k v
unfolding bracket_levels
levels_rise k n m u v h e = go (waits_within k)
  where
    go : (w : Bool) → n + cond w (bit u) 1 ≤ m + cond w (bit v) 1
    go true = e
    go false = omega (arith, h)

bracket_most : (k : List Entry) (u : Bool) → bracket_levels k u ≤ 1
unfolding bracket_levels
bracket_most k u = go (waits_within k)
  where
    go : (w : Bool) → cond w (bit u) 1 ≤ 1
    go true = bit_most u
    go false = omega arith

-- a deeper term in hand makes a deeper whole
rise : (k : List Entry) (n m : ℕ) (u v : Bool) → n ≤ m → n + bit u ≤ m + bit v → deep k n u ≤ deep k m v
unfolding deep
rise [] n m u v h e = h
rise (in_bracket as_head ∷ k) n m u v h e = let l = levels_rise k n m u v h e in rise k _ _ false false l (omega (arith, l))
rise (in_bracket (as_argument f) ∷ k) n m u v h e = rise k (1 + max (term_nesting f) n) (1 + max (term_nesting f) m) true true (omega (arith, h)) (omega (arith, h))
rise (in_bracket (as_body f) ∷ k) n m u v h e = rise k (1 + n) (1 + m) true true (omega (arith, h)) (omega (arith, h))
rise (second as_head b ∷ k) n m u v h e = rise k (1 + max (term_nesting b) n) (1 + max (term_nesting b) m) true true (omega (arith, h)) (omega (arith, h))
rise (second (as_argument f) b ∷ k) n m u v h e =
    rise k (1 + max (term_nesting f) (1 + max (term_nesting b) n)) (1 + max (term_nesting f) (1 + max (term_nesting b) m)) true true (omega (arith, h)) (omega (arith, h))
rise (second (as_body f) b ∷ k) n m u v h e = rise k (1 + (1 + max (term_nesting b) n)) (1 + (1 + max (term_nesting b) m)) true true (omega (arith, h)) (omega (arith, h))
rise (function_body x l ∷ k) n m u v h e = rise k (1 + n) (1 + m) true true (omega (arith, h)) (omega (arith, h))
rise (case_head ∷ k) n m u v h e = rise k (1 + n) (1 + m) true true (omega (arith, h)) (omega (arith, h))
rise (case_first a x ∷ k) n m u v h e = rise k (1 + max (term_nesting a) n) (1 + max (term_nesting a) m) true true (omega (arith, h)) (omega (arith, h))
rise (case_second a x b y ∷ k) n m u v h e =
    rise k (1 + max (term_nesting a) (max (term_nesting b) n)) (1 + max (term_nesting a) (max (term_nesting b) m)) true true (omega (arith, h)) (omega (arith, h))
rise (let_head x y ∷ k) n m u v h e = rise k (1 + n) (1 + m) true true (omega (arith, h)) (omega (arith, h))
rise (let_body x y a ∷ k) n m u v h e = rise k (1 + max (term_nesting a) n) (1 + max (term_nesting a) m) true true (omega (arith, h)) (omega (arith, h))

-- where the deeper one surely has the room
rise_by : (k : List Entry) (n m : ℕ) (u v : Bool) → n < m → deep k n u ≤ deep k m v
rise_by k n m u v h = let b = bit_most u in rise k n m u v (omega (arith, h)) (omega (arith, h, b))

rise_true : (k : List Entry) (n m : ℕ) (u : Bool) → n ≤ m → deep k n u ≤ deep k m true
unfolding bit
rise_true k n m u h = let b = bit_most u in rise k n m u true h (omega (arith, h, b))

rise_false : (k : List Entry) (n m : ℕ) (v : Bool) → n ≤ m → deep k n false ≤ deep k m v
unfolding bit
rise_false k n m v h = rise k n m false v h (omega (arith, h))

-- whoever is applied or ascribed
applied : (k : List Entry) (own : Bool) (a : ProofTerm Name) (m : ℕ) → 1 + term_nesting a ≤ m → (v : Bool) → deep_own k own a ≤ deep k m v
unfolding deep_own
applied k false a m h v = rise_by k _ m _ v (omega (arith, h))
applied k true a m h v = go (waits_within k)
  where
    go : (w : Bool) → deep k (term_nesting a + cond w (bit (not (ascribes a))) 1) false ≤ deep k m v
    go true = let b = bit_most (not (ascribes a)) in rise_false k _ m v (omega (arith, h, b))
    go false = rise_false k _ m v (omega (arith, h))

-- whoever is given to an entry within, in the brackets that are due
given_within : (e : Entry) (k : List Entry) (own : Bool) (a : ProofTerm Name) → waits_within (e ∷ k) ≡ true → own ≡ ascribes a → deep_own (e ∷ k) own a ≤ deep (e ∷ k) (term_nesting a) true
unfolding deep_own bit
given_within e k false a w d = rise_true (e ∷ k) _ _ _ (omega arith)
given_within e k true a w d = rw (w, ← d) (rise_true (e ∷ k) (term_nesting a + 0) (term_nesting a) false (omega arith))

abbrev Above : ℕ → State → Type 0
Above n τ = n ≤ deepest τ

-- how deep what is used for a purpose nests
unfoldable used_for : Purpose → ℕ → ℕ
used_for as_head n = n
used_for (as_argument f) n = 1 + max (term_nesting f) n
used_for (as_body f) n = 1 + n

module _ (least : ℕ) where
  -- a closed term that is no ascription and stands in no brackets
  above_used : (k : List Entry) (p : Purpose) (a : ProofTerm Name) (s : List ℕ) → ascribes a ≡ false → least ≤ deep k (used_for p (term_nesting a)) true
      → Next (Above least) (used k p (standing false a) s)
  unfolding Next used deepest deep_own used_for standing term_nesting wraps form bracketed brackets brackets_of is_strict
  above_used k as_head a s no_label h = rw no_label h
  above_used k (as_argument f) a s no_label h = next_due (Above least) false (wraps Strict argument_of a) _ λ d. h
  above_used k (as_body f) a s no_label h = next_due (Above least) false (wraps Strict body_of a) _ λ d. h

  above_closed : (k : List Entry) (p : Purpose) (s : List ℕ) → least ≤ deep k (used_for p 1) true → least ≤ deep (in_bracket p ∷ k) 1 false
      → Next (Above least) (closed_for k p s)
  unfolding Next closed_for deepest term_nesting wraps form bracketed brackets brackets_of is_strict
  above_closed k p s h opened =
      next_if (Above least) (NameIn s) (name s) _ _ (gives_name s) (λ x t e. above_used k p (Ident x) t refl h)
      (next_cond (Above least) (is_sorry (start_of (word s).value)) _ _ (λ b. above_used k p Sorry (word s).rest refl h)
      (λ b. next_after (Above least) (utf8 "(") s _ λ t d.
      next_or (Above least) (utf8 ")") t _ _ (λ v e. above_used k p Unit v refl h) opened))

  -- a term in brackets
  above_bracketed : (k : List Entry) (p : Purpose) (a : ProofTerm Name) (s : List ℕ) → least ≤ deep (in_bracket p ∷ k) (term_nesting a) (not (ascribes a))
      → Next (Above least) (used k p (standing true a) s)
  unfolding Next used deepest deep_own standing term_nesting wraps form bracketed brackets brackets_of is_strict deep bracket_levels
  above_bracketed k as_head a s h = h
  above_bracketed k (as_argument f) a s h = next_due (Above least) true (wraps Strict argument_of a) _ λ d. h
  above_bracketed k (as_body f) a s h = next_due (Above least) true (wraps Strict body_of a) _ λ d. h

-- With the caller's list of datatype names:
module _ (types : List Name) where
  above_head : (k : List Entry) (s : List ℕ) → Next (Above (deep k 1 false)) (closed_for k as_head s)
  unfolding deep used_for
  above_head k s = above_closed (deep k 1 false) k as_head s (rise_true k 1 1 false (omega arith)) (rise_false k 1 _ false (omega arith))

  above_start : (k : List Entry) (w : Start) (s rest : List ℕ) → Next (Above (deep k 1 false)) (start types k w s rest)
  unfolding Next start deepest deep used_for
  above_start k fn_word s rest =
      next_after (Above (deep k 1 false)) (utf8 " ") rest _ λ s₁ e₁.
      next_then (Above (deep k 1 false)) (NameIn s₁) (name s₁) _ (gives_name s₁) λ x s₂ hx.
      next_then (Above (deep k 1 false)) (ParameterLabelIn types prop_levels s₂) (parameter_label types prop_levels s₂) _ (gives_parameter_label types prop_levels s₂) λ l s₃ hl.
      next_after (Above (deep k 1 false)) (utf8 " => ") s₃ _ λ s₄ e₄. rise_by k 1 2 false true (omega arith)
  above_start k case_word s rest = next_after (Above (deep k 1 false)) (utf8 " ") rest _ λ s₁ e₁. rise_by k 1 2 false true (omega arith)
  above_start k let_word s rest =
      next_after (Above (deep k 1 false)) (utf8 " (") rest _ λ s₁ e₁.
      next_then (Above (deep k 1 false)) (NameIn s₁) (name s₁) _ (gives_name s₁) λ x s₂ hx.
      next_after (Above (deep k 1 false)) (utf8 ", ") s₂ _ λ s₃ e₃.
      next_then (Above (deep k 1 false)) (NameIn s₃) (name s₃) _ (gives_name s₃) λ y s₄ hy.
      next_after (Above (deep k 1 false)) (utf8 ") = ") s₄ _ λ s₅ e₅. rise_by k 1 2 false true (omega arith)
  above_start k (call_word g) s rest =
      next_after (Above (deep k 1 false)) (utf8 " ") rest _ λ s₁ e₁.
      above_closed (deep k 1 false) k (as_body g) s₁ (rise_by k 1 2 false true (omega arith)) (rise_by k 1 2 false true (omega arith))
  above_start k sorry_word s rest = above_head k s
  above_start k no_word s rest = above_head k s

  above_chain : (k : List Entry) (a : Shown (ProofTerm Name)) (s : List ℕ) → Next (Above (deep_with k a)) (chain types k a s)
  unfolding Next chain deepest deep used_for deep_own standing term_nesting wraps form bracketed brackets brackets_of is_strict
  above_chain k a s =
      next_cond (Above (deep_with k a)) (argument_follows s) _ _
      (λ b. next_due (Above (deep_with k a)) a.own (wraps Strict function_of a.shown) _ λ d.
      next_after (Above (deep_with k a)) (utf8 " ") s _ λ t e.
      let m = 1 + max (term_nesting a.shown) 1 in
      let h = applied k a.own a.shown m (omega arith) true in
      above_closed (deep_with k a) k (as_argument a.shown) t h h)
      (λ b. next_or (Above (deep_with k a)) (utf8 ": ") s _ _
      (λ t e. next_due (Above (deep_with k a)) a.own (wraps Strict ascribed_by a.shown) _ λ d.
      next_then (Above (deep_with k a)) (LabelIn types prop_levels t) (label types prop_levels t) _ (gives_label types prop_levels t) λ l v hl.
      applied k a.own a.shown (1 + term_nesting a.shown) (omega arith) false)
      (omega arith))

  -- what goes on from a part within is at least as deep
  onto : (e : Entry) (k : List Entry) (a : Shown (ProofTerm Name)) (n : ℕ) → waits_within (e ∷ k) ≡ true → a.own ≡ ascribes a.shown
      → deep (e ∷ k) (term_nesting a.shown) true ≤ n → deep_with (e ∷ k) a ≤ n
  onto e k a n w d h = let g = given_within e k a.own a.shown w d in omega (arith, g, h)

  -- a pair goes on after its first part
  paired : (k : List Entry) (p : Purpose) (a : ProofTerm Name) (u : Bool) → deep (in_bracket p ∷ k) (term_nesting a) u ≤ deep (second p a ∷ k) 1 false
  unfolding deep
  paired k as_head a u = let b = bracket_most k u in rise_false k _ (1 + max (term_nesting a) 1) true (omega (arith, b))
  paired k (as_argument f) a u = rise_true k (1 + max (term_nesting f) (term_nesting a)) (1 + max (term_nesting f) (1 + max (term_nesting a) 1)) true (omega arith)
  paired k (as_body f) a u = rise_true k (1 + term_nesting a) (1 + (1 + max (term_nesting a) 1)) true (omega arith)

  made : (k : List Entry) (p : Purpose) (b a : ProofTerm Name) → deep (second p b ∷ k) (term_nesting a) (not (ascribes a)) ≤ deep k (used_for p (term_nesting (Pair b a))) true
  unfolding deep used_for term_nesting
  made k as_head b a = omega arith
  made k (as_argument f) b a = omega arith
  made k (as_body f) b a = omega arith

  above_give : (k : List Entry) (e : Entry) (a : Shown (ProofTerm Name)) (s : List ℕ) → Next (Above (deep_with (e ∷ k) a)) (give types k e a s)
  unfolding Next give deepest deep deep_own used_for standing term_nesting wraps form bracketed brackets brackets_of is_strict waits_within
  above_give k (in_bracket p) a s =
      next_due (Above (deep_with (in_bracket p ∷ k) a)) a.own false _ λ d.
      next_or (Above (deep_with (in_bracket p ∷ k) a)) (utf8 ", ") s _ _ (λ t e. rw d (paired k p a.shown (not (ascribes a.shown))))
      (next_after (Above (deep_with (in_bracket p ∷ k) a)) (utf8 ")") s _ λ t e.
      above_bracketed (deep_with (in_bracket p ∷ k) a) k p a.shown t (rw d (omega arith)))
  above_give k (second p b) a s =
      next_due (Above (deep_with (second p b ∷ k) a)) a.own false _ λ d.
      next_after (Above (deep_with (second p b ∷ k) a)) (utf8 ")") s _ λ t e.
      above_used (deep_with (second p b ∷ k) a) k p (Pair b a.shown) t refl (rw d (made k p b a.shown))
  above_give k (function_body x l) a s =
      next_due (Above (deep_with (function_body x l ∷ k) a)) a.own (ascribes a.shown) _ λ d.
      onto (function_body x l) k a _ refl d (omega arith)
  above_give k case_head a s =
      next_due (Above (deep_with (case_head ∷ k) a)) a.own (ascribes a.shown) _ λ d.
      next_after (Above (deep_with (case_head ∷ k) a)) (utf8 " of inl ") s _ λ s₁ e₁.
      next_then (Above (deep_with (case_head ∷ k) a)) (NameIn s₁) (name s₁) _ (gives_name s₁) λ x s₂ hx.
      next_after (Above (deep_with (case_head ∷ k) a)) (utf8 " => ") s₂ _ λ s₃ e₃.
      onto case_head k a _ refl d (rise_true k (1 + term_nesting a.shown) (1 + max (term_nesting a.shown) 1) true (omega arith))
  above_give k (case_first h x) a s =
      next_due (Above (deep_with (case_first h x ∷ k) a)) a.own (ascribes a.shown) _ λ d.
      next_after (Above (deep_with (case_first h x ∷ k) a)) (utf8 ", inr ") s _ λ s₁ e₁.
      next_then (Above (deep_with (case_first h x ∷ k) a)) (NameIn s₁) (name s₁) _ (gives_name s₁) λ y s₂ hy.
      next_after (Above (deep_with (case_first h x ∷ k) a)) (utf8 " => ") s₂ _ λ s₃ e₃.
      onto (case_first h x) k a _ refl d
      (rise_true k (1 + max (term_nesting h) (term_nesting a.shown)) (1 + max (term_nesting h) (max (term_nesting a.shown) 1)) true (omega arith))
  above_give k (case_second h x b y) a s =
      next_due (Above (deep_with (case_second h x b y ∷ k) a)) a.own (ascribes a.shown) _ λ d.
      onto (case_second h x b y) k a _ refl d (omega arith)
  above_give k (let_head x y) a s =
      next_due (Above (deep_with (let_head x y ∷ k) a)) a.own (ascribes a.shown) _ λ d.
      next_after (Above (deep_with (let_head x y ∷ k) a)) (utf8 " in ") s _ λ t e.
      onto (let_head x y) k a _ refl d (rise_true k (1 + term_nesting a.shown) (1 + max (term_nesting a.shown) 1) true (omega arith))
  above_give k (let_body x y h) a s =
      next_due (Above (deep_with (let_body x y h ∷ k) a)) a.own (ascribes a.shown) _ λ d.
      onto (let_body x y h) k a _ refl d (omega arith)

  -- a turn never makes the whole less deep
  pub turn_deepens : (σ τ : State) → turn types σ ≡ onward (Some τ) → deepest σ ≤ deepest τ
  unfolding turn deepest
  turn_deepens (reading k s) τ e = next_some (Above (deep k 1 false)) _ τ e (above_start k (start_of (word s).value) s (word s).rest)
  turn_deepens (holding k a s) τ e = next_some (Above (deep_with k a)) _ τ e (above_chain k a s)
  turn_deepens (giving [] a s) τ e = absurd (grind arith)
  turn_deepens (giving (b ∷ k) a s) τ e = next_some (Above (deep_with (b ∷ k) a)) _ τ e (above_give k b a s)

  pub steps_deepen : {σ τ : State} → Steps types σ τ → deepest σ ≤ deepest τ
  steps_deepen done = omega arith
  steps_deepen (turned {σ = σ} {τ = τ} e w) = let h = turn_deepens σ τ e in let rest = steps_deepen w in omega (arith, h, rest)

-- Two for an entry, three for a level: what a list of entries makes of a term that nests n.
record Floors (k : List Entry) : Type 0 where
  most : (n : ℕ) → 2 * length k + 3 * n ≤ 3 * deep k n true
  least : (n : ℕ) → 2 * length k + 3 * n ≤ 3 * deep k n false + 1
  inside : waits_within k ≡ true → (n : ℕ) → 2 * length k + (3 * n + 1) ≤ 3 * deep k n false

-- every other entry than a bracket at the head of a term has a level of its own
paid : (k : List Entry) → Floors k → (n m : ℕ) → n < m → 2 * suc (length k) + (3 * n + 1) ≤ 3 * deep k m true
paid k h n m d = let e = h.most m in omega (arith, e, d)

-- a bracket at the head of a term
headed : (k : List Entry) → Floors k → Floors (in_bracket as_head ∷ k)
unfolding deep bracket_levels waits_within bit
headed k h = record { most = λ n. most (waits_within k) refl n; least = λ n. least (waits_within k) refl n; inside = λ e n. absurd (true≢false (sym e)) }
  where
    most : (w : Bool) → waits_within k ≡ w → (n : ℕ) → 2 * suc (length k) + 3 * n ≤ 3 * deep k (n + cond w 1 1) false
    most true w n = let e = h.inside w (n + 1) in omega (arith, e)
    most false w n = let e = h.least (n + 1) in omega (arith, e)

    least : (w : Bool) → waits_within k ≡ w → (n : ℕ) → 2 * suc (length k) + 3 * n ≤ 3 * deep k (n + cond w 0 1) false + 1
    least true w n = let e = h.inside w (n + 0) in omega (arith, e)
    least false w n = let e = h.least (n + 1) in omega (arith, e)

-- any other entry, which makes this of a term that nests n
other : (e : Entry) (k : List Entry) (to : ℕ → ℕ) → ((n : ℕ) → n < to n) → ((n : ℕ) (u : Bool) → deep (e ∷ k) n u ≡ deep k (to n) true) → Floors k → Floors (e ∷ k)
other e k to up is h = record {
  most = λ n. rw (is n true) (let p = paid k h n (to n) (up n) in omega (arith, p));
  least = λ n. rw (is n false) (let p = paid k h n (to n) (up n) in omega (arith, p));
  inside = λ w n. rw (is n false) (paid k h n (to n) (up n));
}

floors : (k : List Entry) → Floors k
unfolding deep waits_within
floors [] = record { most = λ n. omega arith; least = λ n. omega arith; inside = λ e n. absurd (true≢false (sym e)) }
floors (in_bracket as_head ∷ k) = headed k (floors k)
floors (in_bracket (as_argument f) ∷ k) = other (in_bracket (as_argument f)) k (λ n. 1 + max (term_nesting f) n) (λ n. omega arith) (λ n u. refl) (floors k)
floors (in_bracket (as_body f) ∷ k) = other (in_bracket (as_body f)) k (λ n. 1 + n) (λ n. omega arith) (λ n u. refl) (floors k)
floors (second as_head b ∷ k) = other (second as_head b) k (λ n. 1 + max (term_nesting b) n) (λ n. omega arith) (λ n u. refl) (floors k)
floors (second (as_argument f) b ∷ k) = other (second (as_argument f) b) k (λ n. 1 + max (term_nesting f) (1 + max (term_nesting b) n)) (λ n. omega arith) (λ n u. refl) (floors k)
floors (second (as_body f) b ∷ k) = other (second (as_body f) b) k (λ n. 1 + (1 + max (term_nesting b) n)) (λ n. omega arith) (λ n u. refl) (floors k)
floors (function_body x l ∷ k) = other (function_body x l) k (λ n. 1 + n) (λ n. omega arith) (λ n u. refl) (floors k)
floors (case_head ∷ k) = other case_head k (λ n. 1 + n) (λ n. omega arith) (λ n u. refl) (floors k)
floors (case_first a x ∷ k) = other (case_first a x) k (λ n. 1 + max (term_nesting a) n) (λ n. omega arith) (λ n u. refl) (floors k)
floors (case_second a x b y ∷ k) = other (case_second a x b y) k (λ n. 1 + max (term_nesting a) (max (term_nesting b) n)) (λ n. omega arith) (λ n u. refl) (floors k)
floors (let_head x y ∷ k) = other (let_head x y) k (λ n. 1 + n) (λ n. omega arith) (λ n u. refl) (floors k)
floors (let_body x y a ∷ k) = other (let_body x y a) k (λ n. 1 + max (term_nesting a) n) (λ n. omega arith) (λ n u. refl) (floors k)

-- what waits in a state, and the term in hand
unfoldable pub entries : State → List Entry
entries (reading k s) = k
entries (holding k a s) = k
entries (giving k a s) = k

unfoldable pub hand_nesting : State → ℕ
hand_nesting (reading k s) = 1
hand_nesting (holding k a s) = term_nesting a.shown
hand_nesting (giving k a s) = term_nesting a.shown

floor : (k : List Entry) (n : ℕ) (u : Bool) → 2 * length k + 3 * n ≤ 3 * deep k n u + 1
floor k n true = let h = (floors k).most n in omega (arith, h)
floor k n false = (floors k).least n

floor_own : (k : List Entry) (own : Bool) (a : ProofTerm Name) → 2 * length k + 3 * term_nesting a ≤ 3 * deep_own k own a + 1
unfolding deep_own
floor_own k false a = floor k (term_nesting a) (not (ascribes a))
floor_own k true a = let h = floor k (term_nesting a + cond (waits_within k) (bit (not (ascribes a))) 1) false in omega (arith, h)

entries_floor : (σ : State) → 2 * length (entries σ) + 3 * hand_nesting σ ≤ 3 * deepest σ + 1
unfolding entries hand_nesting deepest
entries_floor (reading k s) = floor k 1 false
entries_floor (holding k a s) = floor_own k a.own a.shown
entries_floor (giving k a s) = floor_own k a.own a.shown

hand_nests : (σ : State) → 1 ≤ hand_nesting σ
unfolding hand_nesting
hand_nests (reading k s) = omega arith
hand_nests (holding k a s) = term_nests a.shown
hand_nests (giving k a s) = term_nests a.shown

module _ (types : List Name) {σ : State} (t : ProofTerm Name) (rest : List ℕ) (way : Steps types σ (giving [] (standing false t) rest)) where
  to_the_term : deepest σ ≤ term_nesting t
  unfolding deepest deep_own deep standing
  to_the_term = steps_deepen types way

  -- on the way to a term the term in hand nests no deeper
  pub hand_within : hand_nesting σ ≤ term_nesting t
  hand_within = let d = to_the_term in let f = entries_floor σ in omega (arith, d, f)

  -- nor are there more entries than three for two levels
  pub entries_within : 2 * length (entries σ) + 2 ≤ 3 * term_nesting t
  entries_within = let d = to_the_term in let f = entries_floor σ in let one = hand_nests σ in omega (arith, d, f, one)

  -- so 767 entries suffice for a term that is within the limits
  pub entries_few : term_nesting t ≤ term_nesting_limit → length (entries σ) ≤ 767
  unfolding term_nesting_limit
  entries_few h = let e = entries_within in omega (arith, e, h)
