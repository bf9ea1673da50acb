-- Each turn of the machine brings it nearer to its end: so many turns suffice as the bytes left and the entries say.
use Prim.Native.Nat.{ℕ, zero, suc, ◌+◌, ◌*◌, ◌<◌, ◌≤◌}
use mathlib.Core.Path.{◌≡◌, refl, ap, ◌∙◌}
use mathlib.Core.Bool.{true, false}
use Rattle.std.specs.Prelude.{Option, None, Some}
use mathlib.Core.List.{List, [], ◌∷◌, ◌++◌}
use native.Mathlib.Omega.{arith}
use lib.ListN.{length, length-append}
use Rattle.definitions.specs.declared.Style.TheVariants.{Strict}
use Rattle.definitions.specs.Utf8.{utf8}
use Rattle.definitions.specs.Name.{Name}
use Rattle.definitions.specs.Code.{yield}
use Rattle.definitions.specs.Term.{ProofTerm, Ident, Pair, Unit, Sorry}
use Rattle.definitions.specs.Display.{display_label, display_parameter_label, function_of, argument_of, body_of, ascribed_by, within, wraps}
use Rattle.definitions.specs.TermReader.{Shown, standing, word, name, Start, fn_word, case_word, let_word, sorry_word, no_word, call_word, start_of, is_sorry, argument_follows, label, parameter_label, prop_levels}
use Rattle.reading_laws.specs.TermMachine.{Purpose, as_head, as_argument, as_body, Entry, in_bracket, second, function_body, case_head, case_first, case_second, let_head, let_body, State, reading, holding, giving, used, closed_for, onward, after_turn, start, chain, give, turn, run}
use Rattle.reading_laws.proofs.WordsRead.{some_byte}
use Rattle.reading_laws.proofs.MachineReads.{Steps, done, next as turned}
use Rattle.reading_laws.proofs.TermConventions.{NameIn, gives_name, word_is, spelled, spelled_sorry, LabelIn, ParameterLabelIn, gives_label, gives_parameter_label}
use Rattle.reading_laws.proofs.Turns.{Next, next_then, next_if, next_after, next_or, next_due, next_cond, next_some}
use Rattle.std.proofs.lemmas.Option.{same_Some}
use Rattle.std.proofs.lemmas.Option.{none-some}

-- three for a byte that is left, two for an entry, and one for a term in hand to which more may belong
unfoldable pub left : State → ℕ
left (reading k s) = 3 * length s + 2 * length k
left (holding k a s) = 3 * length s + (2 * length k + 1)
left (giving k a s) = 3 * length s + 2 * length k

abbrev Below : ℕ → State → Type 0
Below n σ = left σ < n

-- what stands in front is no longer than the whole
after_bytes : (s a t : List ℕ) → s ≡ a ++ t → length s ≡ length a + length t
after_bytes s a t e = ap length e ∙ length-append a t

module _ (n : ℕ) where
  -- a closed term for a purpose
  below_used : (k : List Entry) (p : Purpose) (a : Shown (ProofTerm Name)) (s : List ℕ) → 3 * length s + (2 * length k + 1) < n → Next (Below n) (used k p a s)
  unfolding Next used left
  below_used k as_head a s h = h
  below_used k (as_argument f) a s h = next_due (Below n) a.own (wraps Strict argument_of a.shown) _ λ d. h
  below_used k (as_body f) a s h = next_due (Below n) a.own (wraps Strict body_of a.shown) _ λ d. h

  below_closed : (k : List Entry) (p : Purpose) (s : List ℕ) → 3 * length s + 2 * length k ≤ n → Next (Below n) (closed_for k p s)
  unfolding Next closed_for left
  below_closed k p s h =
      next_if (Below n) (NameIn s) (name s) _ _ (gives_name s)
      (λ x t e. below_used k p (standing false (Ident x)) t (let l = after_bytes s x t e.1 in let one = some_byte x e.0 in omega (arith, l, one, h)))
      (next_cond (Below n) (is_sorry (start_of (word s).value)) _ _
      (λ b. let d : s ≡ utf8 "sorry" ++ (word s).rest = rw (spelled_sorry (word s).value (start_of (word s).value) b (spelled (word s).value)) at (word_is s) in
      below_used k p (standing false Sorry) (word s).rest (let l = after_bytes s (utf8 "sorry") (word s).rest d in omega (arith, l, h)))
      (λ b. next_after (Below n) (utf8 "(") s _ λ t d.
      next_or (Below n) (utf8 ")") t _ _
      (λ v e. below_used k p (standing false Unit) v (let l = after_bytes s (utf8 "(") t d in let m = after_bytes t (utf8 ")") v e in omega (arith, l, m, h)))
      (let l = after_bytes s (utf8 "(") t d in omega (arith, l, h))))

-- With the caller's list of datatype names:
module _ (types : List Name) where
  below_start : (n : ℕ) (k : List Entry) (w : Start) (s rest letters : List ℕ) → s ≡ letters ++ rest → 3 * length s + 2 * length k ≤ n → Next (Below n) (start types k w s rest)
  unfolding Next start left
  below_start n k fn_word s rest letters e h =
      next_after (Below n) (utf8 " ") rest _ λ s₁ e₁.
      next_then (Below n) (NameIn s₁) (name s₁) _ (gives_name s₁) λ x s₂ hx.
      next_then (Below n) (ParameterLabelIn types prop_levels s₂) (parameter_label types prop_levels s₂) _ (gives_parameter_label types prop_levels s₂) λ l s₃ hl.
      next_after (Below n) (utf8 " => ") s₃ _ λ s₄ e₄.
      let l₀ = after_bytes s letters rest e in
      let l₁ = after_bytes rest (utf8 " ") s₁ e₁ in
      let l₂ = after_bytes s₁ x s₂ hx.1 in
      let l₃ = after_bytes s₂ (display_parameter_label l) s₃ hl.1 in
      let l₄ = after_bytes s₃ (utf8 " => ") s₄ e₄ in
      omega (arith, l₀, l₁, l₂, l₃, l₄, h)
  below_start n k case_word s rest letters e h =
      next_after (Below n) (utf8 " ") rest _ λ s₁ e₁.
      let l₀ = after_bytes s letters rest e in
      let l₁ = after_bytes rest (utf8 " ") s₁ e₁ in
      omega (arith, l₀, l₁, h)
  below_start n k let_word s rest letters e h =
      next_after (Below n) (utf8 " (") rest _ λ s₁ e₁.
      next_then (Below n) (NameIn s₁) (name s₁) _ (gives_name s₁) λ x s₂ hx.
      next_after (Below n) (utf8 ", ") s₂ _ λ s₃ e₃.
      next_then (Below n) (NameIn s₃) (name s₃) _ (gives_name s₃) λ y s₄ hy.
      next_after (Below n) (utf8 ") = ") s₄ _ λ s₅ e₅.
      let l₀ = after_bytes s letters rest e in
      let l₁ = after_bytes rest (utf8 " (") s₁ e₁ in
      let l₂ = after_bytes s₁ x s₂ hx.1 in
      let l₃ = after_bytes s₂ (utf8 ", ") s₃ e₃ in
      let l₄ = after_bytes s₃ y s₄ hy.1 in
      let l₅ = after_bytes s₄ (utf8 ") = ") s₅ e₅ in
      omega (arith, l₀, l₁, l₂, l₃, l₄, l₅, h)
  below_start n k (call_word g) s rest letters e h =
      next_after (Below n) (utf8 " ") rest _ λ s₁ e₁.
      below_closed n k (as_body g) s₁ (let l₀ = after_bytes s letters rest e in let l₁ = after_bytes rest (utf8 " ") s₁ e₁ in omega (arith, l₀, l₁, h))
  below_start n k sorry_word s rest letters e h = below_closed n k as_head s h
  below_start n k no_word s rest letters e h = below_closed n k as_head s h

  below_chain : (n : ℕ) (k : List Entry) (a : Shown (ProofTerm Name)) (s : List ℕ) → 3 * length s + (2 * length k + 1) ≤ n → Next (Below n) (chain types k a s)
  unfolding Next chain left
  below_chain n k a s h =
      next_cond (Below n) (argument_follows s) _ _
      (λ b. next_due (Below n) a.own (wraps Strict function_of a.shown) _ λ d.
      next_after (Below n) (utf8 " ") s _ λ t e.
      below_closed n k (as_argument a.shown) t (let l = after_bytes s (utf8 " ") t e in omega (arith, l, h)))
      (λ b. next_or (Below n) (utf8 ": ") s _ _
      (λ t e. next_due (Below n) a.own (wraps Strict ascribed_by a.shown) _ λ d.
      next_then (Below n) (LabelIn types prop_levels t) (label types prop_levels t) _ (gives_label types prop_levels t) λ l v hl.
      (let l₁ = after_bytes s (utf8 ": ") t e in let l₂ = after_bytes t (display_label l) v hl.1 in omega (arith, l₁, l₂, h)))
      (omega (arith, h)))

  below_give : (n : ℕ) (k : List Entry) (e : Entry) (a : Shown (ProofTerm Name)) (s : List ℕ) → 3 * length s + 2 * (1 + length k) ≤ n → Next (Below n) (give types k e a s)
  unfolding Next give left
  below_give n k (in_bracket p) a s h =
      next_due (Below n) a.own false _ λ d.
      next_or (Below n) (utf8 ", ") s _ _ (λ t e. let l = after_bytes s (utf8 ", ") t e in omega (arith, l, h))
      (next_after (Below n) (utf8 ")") s _ λ t e. below_used n k p (standing true a.shown) t (let l = after_bytes s (utf8 ")") t e in omega (arith, l, h)))
  below_give n k (second p b) a s h =
      next_due (Below n) a.own false _ λ d.
      next_after (Below n) (utf8 ")") s _ λ t e. below_used n k p (standing false (Pair b a.shown)) t (let l = after_bytes s (utf8 ")") t e in omega (arith, l, h))
  below_give n k (function_body x l) a s h = next_due (Below n) a.own (wraps Strict within a.shown) _ λ d. omega (arith, h)
  below_give n k case_head a s h =
      next_due (Below n) a.own (wraps Strict within a.shown) _ λ d.
      next_after (Below n) (utf8 " of inl ") s _ λ s₁ e₁.
      next_then (Below n) (NameIn s₁) (name s₁) _ (gives_name s₁) λ x s₂ hx.
      next_after (Below n) (utf8 " => ") s₂ _ λ s₃ e₃.
      let l₁ = after_bytes s (utf8 " of inl ") s₁ e₁ in
      let l₂ = after_bytes s₁ x s₂ hx.1 in
      let l₃ = after_bytes s₂ (utf8 " => ") s₃ e₃ in
      omega (arith, l₁, l₂, l₃, h)
  below_give n k (case_first b x) a s h =
      next_due (Below n) a.own (wraps Strict within a.shown) _ λ d.
      next_after (Below n) (utf8 ", inr ") s _ λ s₁ e₁.
      next_then (Below n) (NameIn s₁) (name s₁) _ (gives_name s₁) λ y s₂ hy.
      next_after (Below n) (utf8 " => ") s₂ _ λ s₃ e₃.
      let l₁ = after_bytes s (utf8 ", inr ") s₁ e₁ in
      let l₂ = after_bytes s₁ y s₂ hy.1 in
      let l₃ = after_bytes s₂ (utf8 " => ") s₃ e₃ in
      omega (arith, l₁, l₂, l₃, h)
  below_give n k (case_second b x c y) a s h = next_due (Below n) a.own (wraps Strict within a.shown) _ λ d. omega (arith, h)
  below_give n k (let_head x y) a s h =
      next_due (Below n) a.own (wraps Strict within a.shown) _ λ d.
      next_after (Below n) (utf8 " in ") s _ λ t e. let l = after_bytes s (utf8 " in ") t e in omega (arith, l, h)
  below_give n k (let_body x y b) a s h = next_due (Below n) a.own (wraps Strict within a.shown) _ λ d. omega (arith, h)

  -- a turn leaves less
  pub turn_descends : (σ τ : State) → turn types σ ≡ onward (Some τ) → left τ < left σ
  unfolding turn left
  turn_descends (reading k s) τ e =
      next_some (Below (left (reading k s))) _ τ e (below_start (left (reading k s)) k (start_of (word s).value) s (word s).rest (word s).value (word_is s) (omega arith))
  turn_descends (holding k a s) τ e = next_some (Below (left (holding k a s))) _ τ e (below_chain (left (holding k a s)) k a s (omega arith))
  turn_descends (giving [] a s) τ e = absurd (grind arith)
  turn_descends (giving (b ∷ k) a s) τ e = next_some (Below (left (giving (b ∷ k) a s))) _ τ e (below_give (left (giving (b ∷ k) a s)) k b a s (omega arith))

  -- so many turns are enough
  pub run_reaches : {σ τ : State} (turns : ℕ) (a : Shown (ProofTerm Name)) (s : List ℕ) → Steps types σ τ → τ ≡ giving [] a s → left σ < turns → run types turns σ ≡ yield a s
  unfolding run turn after_turn
  run_reaches zero a s w e h = absurd (omega arith)
  run_reaches (suc turns) a s done e h = rw e
  run_reaches (suc turns) a s (turned {σ = σ} {τ = τ} f w) e h =
      let d = turn_descends σ τ f in
      rw f (run_reaches turns a s w e (omega (arith, d, h)))

  -- what comes out, turns lead to
  module _ (turns : ℕ) (a : Shown (ProofTerm Name)) (s : List ℕ) where
    comes_on : (σ : State) (x : Option State) → turn types σ ≡ onward x → ((τ : State) → run types turns τ ≡ yield a s → Steps types τ (giving [] a s))
        → after_turn (λ τ. run types turns τ) (onward x) ≡ yield a s → Steps types σ (giving [] a s)
    unfolding after_turn yield
    comes_on σ None f go e = absurd (none-some _ e)
    comes_on σ (Some τ) f go e = turned f (go τ e)

    comes_last : (b : Shown (ProofTerm Name)) (t : List ℕ) → yield b t ≡ yield a s → Steps types (giving [] b t) (giving [] a s)
    unfolding yield
    comes_last b t e =
        let same = same_Some _ _ e in
        let values : b ≡ a = ap (λ r. r.value) same in
        let rests : t ≡ s = ap (λ r. r.rest) same in
        rw (values, rests) done

  pub run_comes : (turns : ℕ) (σ : State) (a : Shown (ProofTerm Name)) (s : List ℕ) → run types turns σ ≡ yield a s → Steps types σ (giving [] a s)
  unfolding run turn after_turn yield
  run_comes zero σ a s e = absurd (none-some _ e)
  run_comes (suc turns) (reading k t) a s e = comes_on turns a s (reading k t) _ refl (λ τ f. run_comes turns τ a s f) e
  run_comes (suc turns) (holding k b t) a s e = comes_on turns a s (holding k b t) _ refl (λ τ f. run_comes turns τ a s f) e
  run_comes (suc turns) (giving [] b t) a s e = comes_last turns a s b t e
  run_comes (suc turns) (giving (n ∷ k) b t) a s e = comes_on turns a s (giving (n ∷ k) b t) _ refl (λ τ f. run_comes turns τ a s f) e
