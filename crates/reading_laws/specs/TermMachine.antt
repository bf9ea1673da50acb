-- The reader of terms with a stack of its own: what is still to be finished stands in entries, so that no call nests.
use Rattle.std.specs.Prelude.{ℕ, zero, suc, ◌+◌, ◌*◌, Bool, true, false, ◌&&◌, cond, List, [], ◌∷◌, length, leb, Option, None, Some}
use Rattle.definitions.specs.declared.Style.TheVariants.{Strict}
use Rattle.definitions.specs.Utf8.{utf8}
use Rattle.definitions.specs.Outcome.{Outcome, refuse}
use Rattle.definitions.specs.Name.{Name}
use Rattle.definitions.specs.Code.{Read, yield, whole}
use Rattle.definitions.specs.Term.{Label, NamedFunction, ProofTerm, Ident, Pair, Named, Function, Application, LetIn, Case, TypeAscription, Unit, Sorry}
use Rattle.definitions.specs.Display.{function_of, argument_of, body_of, ascribed_by, within, wraps}
use Rattle.definitions.specs.TermText.{term_text_limit, all_admitted}
use Rattle.definitions.specs.TermReader.{Shown, standing, same, name, word, expect, if_read, Start, fn_word, case_word, let_word, sorry_word, no_word, call_word, start_of, is_sorry, argument_follows, label, parameter_label, prop_levels, settled}

-- what a closed term is read for: the head of a term, the argument of a function, the body of a named function
pub data Purpose : Type 0 where
  as_head : Purpose
  as_argument : ProofTerm Name → Purpose
  as_body : NamedFunction → Purpose

-- what waits for a term
pub data Entry : Type 0 where
  -- the first term after a bracket, and the second part of a pair after the first
  in_bracket : Purpose → Entry
  second : Purpose → ProofTerm Name → Entry
  function_body : Name → Option (Label Name) → Entry
  case_head : Entry
  case_first : ProofTerm Name → Name → Entry
  case_second : ProofTerm Name → Name → ProofTerm Name → Name → Entry
  let_head : Name → Name → Entry
  let_body : Name → Name → ProofTerm Name → Entry

pub data State : Type 0 where
  -- at the start of a term
  reading : List Entry → List ℕ → State
  -- after a term to which arguments and a label may still belong
  holding : List Entry → Shown (ProofTerm Name) → List ℕ → State
  -- after a whole term
  giving : List Entry → Shown (ProofTerm Name) → List ℕ → State

-- goes on after what is read, or where the brackets are those that are due
unfoldable pub and_then : {A : Type 0} → Option (Read A) → (A → List ℕ → Option State) → Option State
and_then None next = None
and_then (Some r) next = next r.value r.rest

unfoldable pub if_due : Bool → Bool → Option State → Option State
if_due own asked next = cond (same own asked) next None

unfoldable pub used : List Entry → Purpose → Shown (ProofTerm Name) → List ℕ → Option State
used k as_head a s = Some (holding k a s)
used k (as_argument f) a s = if_due a.own (wraps Strict argument_of a.shown) (Some (holding k (standing false (Application f a.shown)) s))
used k (as_body f) a s = if_due a.own (wraps Strict body_of a.shown) (Some (holding k (standing false (Named f a.shown)) s))

-- a name, sorry, unit, or a bracket that opens
unfoldable pub closed_for : List Entry → Purpose → List ℕ → Option State
closed_for k p s =
    if_read (name s) (λ x t. used k p (standing false (Ident x)) t)
    (cond (is_sorry (start_of (word s).value)) (used k p (standing false Sorry) (word s).rest)
    (and_then (expect (utf8 "(") s) (λ u t. if_read (expect (utf8 ")") t) (λ u v. used k p (standing false Unit) v) (Some (reading (in_bracket p ∷ k) t)))))

-- what was read, or the next state
pub data Turn : Type 0 where
  last : Shown (ProofTerm Name) → List ℕ → Turn
  onward : Option State → Turn

unfoldable pub after_turn : (State → Option (Read (Shown (ProofTerm Name)))) → Turn → Option (Read (Shown (ProofTerm Name)))
after_turn go (last a s) = yield a s
after_turn go (onward None) = None
after_turn go (onward (Some σ)) = go σ

-- With the caller's list of datatype names:
module _ (types : List Name) where
  unfoldable pub start : List Entry → Start → List ℕ → List ℕ → Option State
  start k fn_word s rest =
      and_then (expect (utf8 " ") rest) λ u s₁.
      and_then (name s₁) λ x s₂.
      and_then (parameter_label types prop_levels s₂) λ l s₃.
      and_then (expect (utf8 " => ") s₃) λ u s₄.
      Some (reading (function_body x l ∷ k) s₄)
  start k case_word s rest = and_then (expect (utf8 " ") rest) λ u s₁. Some (reading (case_head ∷ k) s₁)
  start k let_word s rest =
      and_then (expect (utf8 " (") rest) λ u s₁.
      and_then (name s₁) λ x s₂.
      and_then (expect (utf8 ", ") s₂) λ u s₃.
      and_then (name s₃) λ y s₄.
      and_then (expect (utf8 ") = ") s₄) λ u s₅.
      Some (reading (let_head x y ∷ k) s₅)
  start k (call_word f) s rest = and_then (expect (utf8 " ") rest) λ u s₁. closed_for k (as_body f) s₁
  start k sorry_word s rest = closed_for k as_head s
  start k no_word s rest = closed_for k as_head s

  unfoldable pub chain : List Entry → Shown (ProofTerm Name) → List ℕ → Option State
  chain k a s =
      cond (argument_follows s)
      (if_due a.own (wraps Strict function_of a.shown) (and_then (expect (utf8 " ") s) λ u t. closed_for k (as_argument a.shown) t))
      (if_read (expect (utf8 ": ") s)
      (λ u t. if_due a.own (wraps Strict ascribed_by a.shown)
      (and_then (label types prop_levels t) λ l v. Some (giving k (standing false (TypeAscription a.shown l)) v)))
      (Some (giving k a s)))

  unfoldable pub give : List Entry → Entry → Shown (ProofTerm Name) → List ℕ → Option State
  give k (in_bracket p) a s =
      if_due a.own false
      (if_read (expect (utf8 ", ") s) (λ u t. Some (reading (second p a.shown ∷ k) t))
      (and_then (expect (utf8 ")") s) λ u t. used k p (standing true a.shown) t))
  give k (second p b) a s = if_due a.own false (and_then (expect (utf8 ")") s) λ u t. used k p (standing false (Pair b a.shown)) t)
  give k (function_body x l) a s = if_due a.own (wraps Strict within a.shown) (Some (holding k (standing false (Function x l a.shown)) s))
  give k case_head a s =
      if_due a.own (wraps Strict within a.shown)
      (and_then (expect (utf8 " of inl ") s) λ u s₁. and_then (name s₁) λ x s₂. and_then (expect (utf8 " => ") s₂) λ u s₃. Some (reading (case_first a.shown x ∷ k) s₃))
  give k (case_first h x) a s =
      if_due a.own (wraps Strict within a.shown)
      (and_then (expect (utf8 ", inr ") s) λ u s₁. and_then (name s₁) λ y s₂. and_then (expect (utf8 " => ") s₂) λ u s₃. Some (reading (case_second h x a.shown y ∷ k) s₃))
  give k (case_second h x b y) a s = if_due a.own (wraps Strict within a.shown) (Some (holding k (standing false (Case h x b y a.shown)) s))
  give k (let_head x y) a s =
      if_due a.own (wraps Strict within a.shown) (and_then (expect (utf8 " in ") s) λ u t. Some (reading (let_body x y a.shown ∷ k) t))
  give k (let_body x y h) a s = if_due a.own (wraps Strict within a.shown) (Some (holding k (standing false (LetIn x y h a.shown)) s))

  unfoldable pub turn : State → Turn
  turn (reading k s) = onward (start k (start_of (word s).value) s (word s).rest)
  turn (holding k a s) = onward (chain k a s)
  turn (giving [] a s) = last a s
  turn (giving (e ∷ k) a s) = onward (give k e a s)

  unfoldable pub run : ℕ → State → Option (Read (Shown (ProofTerm Name)))
  run zero σ = None
  run (suc turns) σ = after_turn (λ τ. run turns τ) (turn σ)

  -- each turn moves in the text, or ends a chain, or takes an entry off
  unfoldable pub machine_answer : List ℕ → Outcome (ProofTerm Name)
  machine_answer text =
      let read = settled (whole (run (3 * length text + 3) (reading [] text))) in
      cond (leb (length text) term_text_limit && all_admitted types) read (refuse 20 0)
