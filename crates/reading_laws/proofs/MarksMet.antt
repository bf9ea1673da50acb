-- Each turn only adds to what was met: so on the way to a term within the limits nothing passes them.
use Prim.Native.Nat.{ℕ}
use mathlib.Core.Path.{◌≡◌, refl, sym}
use mathlib.Core.Bool.{true, false}
use Rattle.std.specs.Prelude.{Some}
use mathlib.Core.List.{List, [], ◌∷◌, ◌++◌, append_assoc, append-nil}
use native.Mathlib.Omega.{arith}
use Rattle.definitions.specs.declared.Style.TheVariants.{Strict}
use Rattle.definitions.specs.Utf8.{utf8}
use Rattle.definitions.specs.Name.{Name}
use Rattle.definitions.specs.Term.{ProofTerm, Ident, Pair, Unit, Sorry}
use Rattle.definitions.specs.Display.{function_of, argument_of, body_of, ascribed_by, within, wraps}
use Rattle.definitions.specs.TermReader.{Shown, standing, word, name, Start, fn_word, case_word, let_word, sorry_word, no_word, call_word, start_of, is_sorry, argument_follows, label, parameter_label, prop_levels}
use Rattle.reading_laws.specs.TermMachine.{Purpose, as_head, as_argument, as_body, Entry, in_bracket, second, function_body, case_head, case_first, case_second, let_head, let_body, State, reading, holding, giving, used, closed_for, onward, start, chain, give, turn}
use Rattle.reading_laws.proofs.MachineReads.{Steps, done, next as turned}
use Rattle.reading_laws.proofs.TermConventions.{NameIn, gives_name, LabelIn, ParameterLabelIn, gives_label, gives_parameter_label}
use Rattle.reading_laws.specs.Marks.{Mark, called, labelled, node, label_marks, marks, purpose_marks, entry_marks, entries_marks, met}
use Rattle.reading_laws.proofs.Turns.{Next, next_then, next_if, next_after, next_or, next_due, next_cond, next_some}

-- the first is the beginning of the second
pub record Begins (ms all : List Mark) : Type 0 where
  pub more : List Mark
  pub is : all ≡ ms ++ more

pub begins_all : (ms : List Mark) → Begins ms ms
begins_all ms = record { more = []; is = sym (append-nil ms) }

pub begins_by : {ms : List Mark} (all more : List Mark) {then : List Mark} → Begins ms all → then ≡ all ++ more → Begins ms then
begins_by {ms = ms} all more h e = record { more = h.more ++ more; is = let f = h.is in cc (append_assoc ms h.more more) }

pub begins_as : {ms all then : List Mark} → Begins ms all → then ≡ all → Begins ms then
begins_as h e = rw e h

pub begins_then : {a b c : List Mark} → Begins a b → Begins b c → Begins a c
begins_then {b = b} h k = begins_by b k.more h k.is

abbrev pub After : List Mark → State → Type 0
After ms τ = Begins ms (met τ)

module _ (ms : List Mark) where
  pub after_used : (k : List Entry) (p : Purpose) (a : Shown (ProofTerm Name)) (s : List ℕ) → Begins ms (entries_marks k ++ (purpose_marks p ++ marks a.shown))
      → Next (After ms) (used k p a s)
  unfolding Next used met purpose_marks standing marks
  after_used k as_head a s h = h
  after_used k (as_argument f) a s h =
      next_due (After ms) a.own (wraps Strict argument_of a.shown) _ λ d.
      begins_by (entries_marks k ++ (marks f ++ marks a.shown)) (node ∷ []) h
      (cc (append_assoc (entries_marks k) (marks f ++ marks a.shown) (node ∷ []), append_assoc (marks f) (marks a.shown) (node ∷ [])))
  after_used k (as_body f) a s h =
      next_due (After ms) a.own (wraps Strict body_of a.shown) _ λ d.
      begins_by (entries_marks k ++ marks a.shown) (node ∷ []) h (cc (append_assoc (entries_marks k) (marks a.shown) (node ∷ [])))

  -- a leaf
  after_leaf : (k : List Entry) (p : Purpose) (t : ProofTerm Name) (s : List ℕ) → Begins ms (entries_marks k ++ purpose_marks p) → Next (After ms) (used k p (standing false t) s)
  unfolding standing
  after_leaf k p t s h =
      after_used k p (standing false t) s (begins_by (entries_marks k ++ purpose_marks p) (marks t) h (sym (append_assoc (entries_marks k) (purpose_marks p) (marks t))))

  after_closed : (k : List Entry) (p : Purpose) (s : List ℕ) → Begins ms (entries_marks k ++ purpose_marks p) → Next (After ms) (closed_for k p s)
  unfolding Next closed_for met entries_marks entry_marks
  after_closed k p s h =
      next_if (After ms) (NameIn s) (name s) _ _ (gives_name s) (λ x t e. after_leaf k p (Ident x) t h)
      (next_cond (After ms) (is_sorry (start_of (word s).value)) _ _ (λ b. after_leaf k p Sorry (word s).rest h)
      (λ b. next_after (After ms) (utf8 "(") s _ λ t d. next_or (After ms) (utf8 ")") t _ _ (λ v e. after_leaf k p Unit v h) h))

-- With the caller's list of datatype names:
module _ (types : List Name) where
  after_start : (k : List Entry) (w : Start) (s rest : List ℕ) → Next (After (entries_marks k)) (start types k w s rest)
  unfolding Next start met entries_marks entry_marks purpose_marks
  after_start k fn_word s rest =
      next_after (After (entries_marks k)) (utf8 " ") rest _ λ s₁ e₁.
      next_then (After (entries_marks k)) (NameIn s₁) (name s₁) _ (gives_name s₁) λ x s₂ hx.
      next_then (After (entries_marks k)) (ParameterLabelIn types prop_levels s₂) (parameter_label types prop_levels s₂) _ (gives_parameter_label types prop_levels s₂) λ l s₃ hl.
      next_after (After (entries_marks k)) (utf8 " => ") s₃ _ λ s₄ e₄. record { more = called x ∷ label_marks l; is = refl }
  after_start k case_word s rest = next_after (After (entries_marks k)) (utf8 " ") rest _ λ s₁ e₁. record { more = []; is = refl }
  after_start k let_word s rest =
      next_after (After (entries_marks k)) (utf8 " (") rest _ λ s₁ e₁.
      next_then (After (entries_marks k)) (NameIn s₁) (name s₁) _ (gives_name s₁) λ x s₂ hx.
      next_after (After (entries_marks k)) (utf8 ", ") s₂ _ λ s₃ e₃.
      next_then (After (entries_marks k)) (NameIn s₃) (name s₃) _ (gives_name s₃) λ y s₄ hy.
      next_after (After (entries_marks k)) (utf8 ") = ") s₄ _ λ s₅ e₅. record { more = called x ∷ called y ∷ []; is = refl }
  after_start k (call_word g) s rest =
      next_after (After (entries_marks k)) (utf8 " ") rest _ λ s₁ e₁. after_closed (entries_marks k) k (as_body g) s₁ (record { more = []; is = refl })
  after_start k sorry_word s rest = after_closed (entries_marks k) k as_head s (record { more = []; is = refl })
  after_start k no_word s rest = after_closed (entries_marks k) k as_head s (record { more = []; is = refl })

  after_chain : (k : List Entry) (a : Shown (ProofTerm Name)) (s : List ℕ) → Next (After (entries_marks k ++ marks a.shown)) (chain types k a s)
  unfolding Next chain met purpose_marks standing marks
  after_chain k a s =
      let P = After (entries_marks k ++ marks a.shown) in
      next_cond P (argument_follows s) _ _
      (λ b. next_due P a.own (wraps Strict function_of a.shown) _ λ d.
      next_after P (utf8 " ") s _ λ t e. after_closed (entries_marks k ++ marks a.shown) k (as_argument a.shown) t (begins_all _))
      (λ b. next_or P (utf8 ": ") s _ _
      (λ t e. next_due P a.own (wraps Strict ascribed_by a.shown) _ λ d.
      next_then P (LabelIn types prop_levels t) (label types prop_levels t) _ (gives_label types prop_levels t) λ l v hl.
      record { more = labelled l ∷ node ∷ []; is = sym (append_assoc (entries_marks k) (marks a.shown) (labelled l ∷ node ∷ [])) })
      (begins_all _))

  after_give : (k : List Entry) (e : Entry) (a : Shown (ProofTerm Name)) (s : List ℕ) → Next (After ((entries_marks k ++ entry_marks e) ++ marks a.shown)) (give types k e a s)
  unfolding Next give met entries_marks entry_marks purpose_marks standing marks
  after_give k (in_bracket p) a s =
      let A = marks a.shown in
      let P = After ((entries_marks k ++ purpose_marks p) ++ A) in
      next_due P a.own false _ λ d.
      next_or P (utf8 ", ") s _ _ (λ t e. begins_as (begins_all _) (cc (append_assoc (entries_marks k) (purpose_marks p) A)))
      (next_after P (utf8 ")") s _ λ t e. after_used _ k p (standing true a.shown) t (begins_as (begins_all _) (cc (append_assoc (entries_marks k) (purpose_marks p) A))))
  after_give k (second p b) a s =
      let A = marks a.shown in
      let B = marks b in
      let P = After ((entries_marks k ++ (purpose_marks p ++ B)) ++ A) in
      next_due P a.own false _ λ d.
      next_after P (utf8 ")") s _ λ t e. after_used _ k p (standing false (Pair b a.shown)) t
      (record {
        more = node ∷ [];
        is = cc (
          append_assoc (entries_marks k) (purpose_marks p ++ B) A,
          append_assoc (purpose_marks p) B A,
          append_assoc (entries_marks k) (purpose_marks p ++ (B ++ A)) (node ∷ []),
          append_assoc (purpose_marks p) (B ++ A) (node ∷ []),
          append_assoc B A (node ∷ []),
        );
      })
  after_give k (function_body x l) a s =
      let A = marks a.shown in
      next_due (After ((entries_marks k ++ (called x ∷ label_marks l)) ++ A)) a.own (wraps Strict within a.shown) _ λ d.
      record {
        more = node ∷ [];
        is = cc (
          append_assoc (entries_marks k) (called x ∷ label_marks l) A,
          append_assoc (label_marks l) A (node ∷ []),
          append_assoc (entries_marks k) (called x ∷ (label_marks l ++ A)) (node ∷ []),
        );
      }
  after_give k case_head a s =
      let A = marks a.shown in
      let P = After ((entries_marks k ++ []) ++ A) in
      next_due P a.own (wraps Strict within a.shown) _ λ d.
      next_after P (utf8 " of inl ") s _ λ s₁ e₁.
      next_then P (NameIn s₁) (name s₁) _ (gives_name s₁) λ x s₂ hx.
      next_after P (utf8 " => ") s₂ _ λ s₃ e₃.
      record { more = called x ∷ []; is = cc (append-nil (entries_marks k), append_assoc (entries_marks k) A (called x ∷ [])) }
  after_give k (case_first h x) a s =
      let A = marks a.shown in
      let H = marks h in
      let P = After ((entries_marks k ++ (H ++ (called x ∷ []))) ++ A) in
      next_due P a.own (wraps Strict within a.shown) _ λ d.
      next_after P (utf8 ", inr ") s _ λ s₁ e₁.
      next_then P (NameIn s₁) (name s₁) _ (gives_name s₁) λ y s₂ hy.
      next_after P (utf8 " => ") s₂ _ λ s₃ e₃.
      record {
        more = called y ∷ [];
        is = cc (
          append_assoc (entries_marks k) (H ++ (called x ∷ [])) A,
          append_assoc H (called x ∷ []) A,
          append_assoc (entries_marks k) (H ++ (called x ∷ A)) (called y ∷ []),
          append_assoc H (called x ∷ A) (called y ∷ []),
        );
      }
  after_give k (case_second h x b y) a s =
      let A = marks a.shown in
      let H = marks h in
      let B = marks b in
      next_due (After ((entries_marks k ++ (H ++ (called x ∷ (B ++ (called y ∷ []))))) ++ A)) a.own (wraps Strict within a.shown) _ λ d.
      record {
        more = node ∷ [];
        is = cc (
          append_assoc (entries_marks k) (H ++ (called x ∷ (B ++ (called y ∷ [])))) A,
          append_assoc H (called x ∷ (B ++ (called y ∷ []))) A,
          append_assoc B (called y ∷ []) A,
          append_assoc (entries_marks k) (H ++ (called x ∷ (B ++ (called y ∷ A)))) (node ∷ []),
          append_assoc H (called x ∷ (B ++ (called y ∷ A))) (node ∷ []),
          append_assoc B (called y ∷ A) (node ∷ []),
        );
      }
  after_give k (let_head x y) a s =
      let A = marks a.shown in
      let P = After ((entries_marks k ++ (called x ∷ called y ∷ [])) ++ A) in
      next_due P a.own (wraps Strict within a.shown) _ λ d.
      next_after P (utf8 " in ") s _ λ t e. begins_as (begins_all _) (cc (append_assoc (entries_marks k) (called x ∷ called y ∷ []) A))
  after_give k (let_body x y h) a s =
      let A = marks a.shown in
      let H = marks h in
      next_due (After ((entries_marks k ++ (called x ∷ called y ∷ H)) ++ A)) a.own (wraps Strict within a.shown) _ λ d.
      record {
        more = node ∷ [];
        is = cc (
          append_assoc (entries_marks k) (called x ∷ called y ∷ H) A,
          append_assoc (entries_marks k) (called x ∷ called y ∷ (H ++ A)) (node ∷ []),
          append_assoc H A (node ∷ []),
        );
      }

  -- a turn adds to what was met
  pub turn_adds : (σ τ : State) → turn types σ ≡ onward (Some τ) → Begins (met σ) (met τ)
  unfolding turn met entries_marks
  turn_adds (reading k s) τ e = next_some (After (entries_marks k)) _ τ e (after_start k (start_of (word s).value) s (word s).rest)
  turn_adds (holding k a s) τ e = next_some (After (met (holding k a s))) _ τ e (after_chain k a s)
  turn_adds (giving [] a s) τ e = absurd (grind arith)
  turn_adds (giving (b ∷ k) a s) τ e = next_some (After (met (giving (b ∷ k) a s))) _ τ e (after_give k b a s)

  pub steps_add : {σ τ : State} → Steps types σ τ → Begins (met σ) (met τ)
  steps_add {σ = σ} done = begins_all (met σ)
  steps_add (turned {σ = σ} {τ = τ} e w) = begins_then (turn_adds σ τ e) (steps_add w)
