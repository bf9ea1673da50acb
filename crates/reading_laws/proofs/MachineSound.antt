-- Whatever the machine holds is conventional, and its text stands in the text that is read.
use Prim.Native.Nat.{ℕ}
use mathlib.Core.Path.{◌≡◌, refl, ◌∙◌}
use mathlib.Core.Bool.{Bool, true, false, cond}
use Rattle.std.specs.Prelude.{Option, None, Some}
use mathlib.Core.List.{List, [], ◌∷◌, ◌++◌, append_assoc, append-nil}
use native.Mathlib.Omega.{arith}
use Rattle.definitions.specs.declared.Style.TheVariants.{Strict}
use Rattle.definitions.specs.Utf8.{utf8}
use Rattle.definitions.specs.Name.{Name}
use Rattle.definitions.specs.Code.{Read}
use Rattle.definitions.specs.Term.{ProofTerm, Ident, Pair, TypeAscription, Unit, Sorry}
use Rattle.definitions.specs.Display.{wrap, display_label, display_parameter_label, form, function_of, argument_of, body_of, ascribed_by, within, function_text, wraps, display_term}
use Rattle.definitions.specs.TermText.{Admitted, OfParameterLabel, Each, ConventionalLabel, Conventional}
use Rattle.definitions.specs.TermReader.{Shown, standing, same, word, name, expect, if_read, Start, fn_word, case_word, let_word, sorry_word, no_word, call_word, start_of, is_sorry, argument_follows, label, parameter_label, prop_levels}
use Rattle.reading_laws.specs.TermMachine.{Purpose, as_head, as_argument, as_body, Entry, in_bracket, second, function_body, case_head, case_first, case_second, let_head, let_body, State, reading, holding, giving, and_then, if_due, used, closed_for, onward, start, chain, give, turn}
use Rattle.reading_laws.proofs.MachineReads.{Steps, done, next as turned}
use Rattle.reading_laws.proofs.TermTexts.{part_bare}
use Rattle.reading_laws.proofs.TermConventions.{Gives, expected, NameIn, gives_name, word_is, call_spelled, Spelled, spelled, spelled_sorry, LabelIn, ParameterLabelIn, gives_label, gives_parameter_label}

module _ (types : List Name) where
  abbrev T : ProofTerm Name → Type 0
  T = Conventional types

  inner : ProofTerm Name → List ℕ
  inner a = wrap (wraps Strict within a) (display_term Strict a)

  -- the text before what is read for a purpose, and before what an entry waits for
  purpose_text : Purpose → List ℕ
  purpose_text as_head = []
  purpose_text (as_argument f) = wrap (wraps Strict function_of f) (display_term Strict f) ++ utf8 " "
  purpose_text (as_body f) = function_text f

  entry_text : Entry → List ℕ
  entry_text (in_bracket p) = purpose_text p ++ utf8 "("
  entry_text (second p a) = purpose_text p ++ (utf8 "(" ++ (display_term Strict a ++ utf8 ", "))
  entry_text (function_body x l) = utf8 "fn " ++ (x ++ (display_parameter_label l ++ utf8 " => "))
  entry_text case_head = utf8 "case "
  entry_text (case_first a x) = utf8 "case " ++ (inner a ++ (utf8 " of inl " ++ (x ++ utf8 " => ")))
  entry_text (case_second a x b y) =
      utf8 "case " ++ (inner a ++ (utf8 " of inl " ++ (x ++ (utf8 " => " ++ (inner b ++ (utf8 ", inr " ++ (y ++ utf8 " => ")))))))
  entry_text (let_head x y) = utf8 "let (" ++ (x ++ (utf8 ", " ++ (y ++ utf8 ") = ")))
  entry_text (let_body x y a) = utf8 "let (" ++ (x ++ (utf8 ", " ++ (y ++ (utf8 ") = " ++ (inner a ++ utf8 " in ")))))

  before : List Entry → List ℕ
  before [] = []
  before (e ∷ k) = before k ++ entry_text e

  FinePurpose : Purpose → Type 0
  FinePurpose as_head = Prim.Unit {0}
  FinePurpose (as_argument f) = T f
  FinePurpose (as_body f) = Prim.Unit {0}

  FineEntry : Entry → Type 0
  FineEntry (in_bracket p) = FinePurpose p
  FineEntry (second p a) = FinePurpose p × T a
  FineEntry (function_body x l) = Admitted x × OfParameterLabel (ConventionalLabel types) Admitted l
  FineEntry case_head = Prim.Unit {0}
  FineEntry (case_first a x) = T a × Admitted x
  FineEntry (case_second a x b y) = T a × Admitted x × T b × Admitted y
  FineEntry (let_head x y) = Admitted x × Admitted y
  FineEntry (let_body x y a) = Admitted x × Admitted y × T a

  FineEntries : List Entry → Type 0
  FineEntries [] = Prim.Unit {0}
  FineEntries (e ∷ k) = FineEntry e × FineEntries k

  module _ (whole : List ℕ) where
    -- the whole text is the text before, that of the term in hand, and the rest
    pub Fine : State → Type 0
    Fine (reading k s) = FineEntries k × (whole ≡ before k ++ s)
    Fine (holding k a s) = FineEntries k × T a.shown × (whole ≡ before k ++ (wrap a.own (display_term Strict a.shown) ++ s))
    Fine (giving k a s) = FineEntries k × T a.shown × (whole ≡ before k ++ (wrap a.own (display_term Strict a.shown) ++ s))

    FineNext : Option State → Type 0
    FineNext None = Prim.Unit {0}
    FineNext (Some σ) = Fine σ

    fine_then : {A : Type 0} (P : A → List ℕ → Type 0) (x : Option (Read A)) (next : A → List ℕ → Option State) → Gives x P
        → ((a : A) (t : List ℕ) → P a t → FineNext (next a t)) → FineNext (and_then x next)
    unfolding Gives and_then FineNext
    fine_then P None next h k = tt
    fine_then P (Some r) next h k = k r.value r.rest h

    fine_if : {A : Type 0} (P : A → List ℕ → Type 0) (x : Option (Read A)) (then : A → List ℕ → Option State) (else : Option State) → Gives x P
        → ((a : A) (t : List ℕ) → P a t → FineNext (then a t)) → FineNext else → FineNext (if_read x then else)
    unfolding Gives if_read FineNext
    fine_if P None then else h k e = e
    fine_if P (Some r) then else h k e = k r.value r.rest h

    fine_after : (bs s : List ℕ) (next : Prim.Unit {0} → List ℕ → Option State) → ((t : List ℕ) → s ≡ bs ++ t → FineNext (next tt t)) → FineNext (and_then (expect bs s) next)
    fine_after bs s next k = fine_then (λ u t. s ≡ bs ++ t) (expect bs s) next (expected bs s) (λ a t h. k t h)

    fine_next : (bs s : List ℕ) (then : Prim.Unit {0} → List ℕ → Option State) (else : Option State) → ((t : List ℕ) → s ≡ bs ++ t → FineNext (then tt t)) → FineNext else
        → FineNext (if_read (expect bs s) then else)
    fine_next bs s then else k e = fine_if (λ u t. s ≡ bs ++ t) (expect bs s) then else (expected bs s) (λ a t h. k t h) e

    fine_due : (own asked : Bool) (next : Option State) → (own ≡ asked → FineNext next) → FineNext (if_due own asked next)
    unfolding if_due same FineNext
    fine_due true true next h = h refl
    fine_due true false next h = tt
    fine_due false true next h = tt
    fine_due false false next h = h refl

    -- a closed term for a purpose
    fine_used : (k : List Entry) (p : Purpose) (a : Shown (ProofTerm Name)) (s : List ℕ) → FineEntries k → FinePurpose p → T a.shown
        → whole ≡ before k ++ (purpose_text p ++ (wrap a.own (display_term Strict a.shown) ++ s)) → FineNext (used k p a s)
    unfolding used FineNext Fine FinePurpose purpose_text standing wrap display_term Each
    fine_used k as_head a s hk hp ha e = (hk, ha, e)
    fine_used k (as_argument f) a s hk hp ha e =
        fine_due a.own (wraps Strict argument_of a.shown) _ λ d. (
          hk,
          (hp, ha),
          rw (← d) (cc (
            append_assoc (wrap (wraps Strict function_of f) (display_term Strict f)) (32 ∷ []) (wrap a.own (display_term Strict a.shown) ++ s),
            append_assoc (wrap (wraps Strict function_of f) (display_term Strict f)) (32 ∷ wrap a.own (display_term Strict a.shown)) s,
          )),
        )
    fine_used k (as_body f) a s hk hp ha e =
        fine_due a.own (wraps Strict body_of a.shown) _ λ d.
        (hk, ha, rw (← d) (cc (append_assoc (function_text f) (wrap a.own (display_term Strict a.shown)) s)))

    fine_opened : (k : List Entry) (p : Purpose) (s t : List ℕ) → FineEntries k → FinePurpose p → whole ≡ before k ++ (purpose_text p ++ s) → s ≡ 40 ∷ t
        → FineNext (Some (reading (in_bracket p ∷ k) t))
    unfolding FineNext Fine FineEntries FineEntry before entry_text
    fine_opened k p s t hk hp e d =
        ((hp, hk), cc (append_assoc (before k) (purpose_text p ++ (40 ∷ [])) t, append_assoc (purpose_text p) (40 ∷ []) t))

    fine_closed : (k : List Entry) (p : Purpose) (s : List ℕ) → FineEntries k → FinePurpose p → whole ≡ before k ++ (purpose_text p ++ s) → FineNext (closed_for k p s)
    unfolding closed_for standing wrap display_term Each
    fine_closed k p s hk hp e =
        fine_if (NameIn s) (name s) _ _ (gives_name s) (λ x t h. fine_used k p (standing false (Ident x)) t hk hp h.0 (let d = h.1 in cc))
        (sorry_or (is_sorry (start_of (word s).value)) refl)
      where
        sorry_or : (b : Bool) → is_sorry (start_of (word s).value) ≡ b
            → FineNext (cond b (used k p (standing false Sorry) (word s).rest)
            (and_then (expect (utf8 "(") s) (λ u t. if_read (expect (utf8 ")") t) (λ u v. used k p (standing false Unit) v) (Some (reading (in_bracket p ∷ k) t)))))
        sorry_or true b =
            let d : s ≡ utf8 "sorry" ++ (word s).rest = rw (spelled_sorry (word s).value (start_of (word s).value) b (spelled (word s).value)) at (word_is s) in
            fine_used k p (standing false Sorry) (word s).rest hk hp tt (cc)
        sorry_or false b =
            fine_after (utf8 "(") s _ λ t d.
            fine_next (utf8 ")") t _ _ (λ v f. fine_used k p (standing false Unit) v hk hp tt (cc))
            (fine_opened k p s t hk hp e d)

    -- At the start of a term.
    fine_start : (k : List Entry) (w : Start) (s rest letters : List ℕ) → FineEntries k → whole ≡ before k ++ s → s ≡ letters ++ rest → Spelled letters w → FineNext (start types k w s rest)
    unfolding start Spelled FineNext Fine FineEntries FineEntry FinePurpose before entry_text purpose_text
    fine_start k fn_word s rest letters hk e d f =
        fine_after (utf8 " ") rest _ λ s₁ e₁.
        fine_then (NameIn s₁) (name s₁) _ (gives_name s₁) λ x s₂ hx.
        fine_then (ParameterLabelIn types prop_levels s₂) (parameter_label types prop_levels s₂) _ (gives_parameter_label types prop_levels s₂) λ l s₃ hl.
        fine_after (utf8 " => ") s₃ _ λ s₄ e₄. (
          ((hx.0, hl.0), hk),
          (let a = hx.1 in let b = hl.1 in
              cc (
                append_assoc (before k) (utf8 "fn " ++ (x ++ (display_parameter_label l ++ utf8 " => "))) s₄,
                append_assoc x (display_parameter_label l ++ utf8 " => ") s₄,
                append_assoc (display_parameter_label l) (utf8 " => ") s₄,
              )),
        )
    fine_start k case_word s rest letters hk e d f =
        fine_after (utf8 " ") rest _ λ s₁ e₁. ((tt, hk), cc (append_assoc (before k) (utf8 "case ") s₁))
    fine_start k let_word s rest letters hk e d f =
        fine_after (utf8 " (") rest _ λ s₁ e₁.
        fine_then (NameIn s₁) (name s₁) _ (gives_name s₁) λ x s₂ hx.
        fine_after (utf8 ", ") s₂ _ λ s₃ e₃.
        fine_then (NameIn s₃) (name s₃) _ (gives_name s₃) λ y s₄ hy.
        fine_after (utf8 ") = ") s₄ _ λ s₅ e₅. (
          ((hx.0, hy.0), hk),
          (let a = hx.1 in let b = hy.1 in
              cc (
                append_assoc (before k) (utf8 "let (" ++ (x ++ (utf8 ", " ++ (y ++ utf8 ") = ")))) s₅,
                append_assoc x (utf8 ", " ++ (y ++ utf8 ") = ")) s₅,
                append_assoc y (utf8 ") = ") s₅,
              )),
        )
    fine_start k (call_word g) s rest letters hk e d f =
        fine_after (utf8 " ") rest _ λ s₁ e₁. fine_closed k (as_body g) s₁ hk tt (cc (call_spelled g s₁))
    fine_start k sorry_word s rest letters hk e d f = fine_closed k as_head s hk tt e
    fine_start k no_word s rest letters hk e d f = fine_closed k as_head s hk tt e

    -- After a term.
    fine_chain : (k : List Entry) (a : Shown (ProofTerm Name)) (s : List ℕ) → FineEntries k → T a.shown
        → whole ≡ before k ++ (wrap a.own (display_term Strict a.shown) ++ s) → FineNext (chain types k a s)
    unfolding chain FineNext Fine FinePurpose purpose_text standing display_term wrap Each
    fine_chain k a s hk ha e = follows (argument_follows s)
      where
        follows : (b : Bool) → FineNext (cond b
            (if_due a.own (wraps Strict function_of a.shown) (and_then (expect (utf8 " ") s) λ u t. closed_for k (as_argument a.shown) t))
            (if_read (expect (utf8 ": ") s)
            (λ u t. if_due a.own (wraps Strict ascribed_by a.shown)
            (and_then (label types prop_levels t) λ l v. Some (giving k (standing false (TypeAscription a.shown l)) v)))
            (Some (giving k a s))))
        follows true =
            fine_due a.own (wraps Strict function_of a.shown) _ λ d.
            fine_after (utf8 " ") s _ λ t f.
            fine_closed k (as_argument a.shown) t hk ha (rw (← d) (cc (append_assoc (wrap a.own (display_term Strict a.shown)) (32 ∷ []) t)))
        follows false =
            fine_next (utf8 ": ") s _ _
            (λ t f. fine_due a.own (wraps Strict ascribed_by a.shown) _ λ d.
            fine_then (LabelIn types prop_levels t) (label types prop_levels t) _ (gives_label types prop_levels t) λ l v hl.
            (hk, (ha, hl.0), rw (← d) (let g = hl.1 in cc (append_assoc (wrap a.own (display_term Strict a.shown)) (58 ∷ 32 ∷ display_label l) v))))
            (hk, ha, e)

    -- When a whole term is given to what waits for it.
    fine_give : (k : List Entry) (n : Entry) (a : Shown (ProofTerm Name)) (s : List ℕ) → FineEntry n → FineEntries k → T a.shown
        → whole ≡ (before k ++ entry_text n) ++ (wrap a.own (display_term Strict a.shown) ++ s) → FineNext (give types k n a s)
    unfolding give FineNext Fine FineEntries FineEntry before entry_text inner standing display_term wrap wraps Each
    fine_give k (in_bracket p) a s hn hk ha e =
        fine_due a.own false _ λ d.
        let A = display_term Strict a.shown in
        let e' : whole ≡ (before k ++ (purpose_text p ++ (40 ∷ []))) ++ (A ++ s) = rw d at e in
        fine_next (utf8 ", ") s _ _
        (λ t f. (
          ((hn, ha), hk),
          cc (
            append_assoc (before k) (purpose_text p ++ (40 ∷ [])) (A ++ s),
            append_assoc (purpose_text p) (40 ∷ []) (A ++ s),
            append_assoc (before k) (purpose_text p ++ (40 ∷ (A ++ (44 ∷ 32 ∷ [])))) t,
            append_assoc (purpose_text p) (40 ∷ (A ++ (44 ∷ 32 ∷ []))) t,
            append_assoc A (44 ∷ 32 ∷ []) t,
          ),
        ))
        (fine_after (utf8 ")") s _ λ t f. fine_used k p (standing true a.shown) t hk hn ha
        (cc (append_assoc (before k) (purpose_text p ++ (40 ∷ [])) (A ++ s), append_assoc (purpose_text p) (40 ∷ []) (A ++ s), append_assoc A (41 ∷ []) t)))
    fine_give k (second p b) a s hn hk ha e =
        fine_due a.own false _ λ d.
        let A = display_term Strict a.shown in
        let B = display_term Strict b in
        let e' : whole ≡ (before k ++ (purpose_text p ++ (40 ∷ (B ++ (44 ∷ 32 ∷ []))))) ++ (A ++ s) = rw d at e in
        fine_after (utf8 ")") s _ λ t f.
        fine_used k p (standing false (Pair b a.shown)) t hk hn.0 (hn.1, ha)
        (rw (part_bare (form b), part_bare (form a.shown))
        (cc (
          append_assoc (before k) (purpose_text p ++ (40 ∷ (B ++ (44 ∷ 32 ∷ [])))) (A ++ s),
          append_assoc (purpose_text p) (40 ∷ (B ++ (44 ∷ 32 ∷ []))) (A ++ s),
          append_assoc B (44 ∷ 32 ∷ []) (A ++ s),
          append_assoc B (44 ∷ 32 ∷ (A ++ (41 ∷ []))) t,
          append_assoc A (41 ∷ []) t,
        )))
    fine_give k (function_body x l) a s hn hk ha e =
        fine_due a.own (wraps Strict within a.shown) _ λ d.
        let A = wrap a.own (display_term Strict a.shown) in (
          hk,
          (hn.0, hn.1, ha),
          rw (← d)
              (cc (
                append_assoc (before k) (utf8 "fn " ++ (x ++ (display_parameter_label l ++ utf8 " => "))) (A ++ s),
                append_assoc x (display_parameter_label l ++ utf8 " => ") (A ++ s),
                append_assoc (display_parameter_label l) (utf8 " => ") (A ++ s),
                append_assoc x (display_parameter_label l ++ (utf8 " => " ++ A)) s,
                append_assoc (display_parameter_label l) (utf8 " => " ++ A) s,
              )),
        )
    fine_give k case_head a s hn hk ha e =
        fine_due a.own (wraps Strict within a.shown) _ λ d.
        let A = wrap a.own (display_term Strict a.shown) in
        fine_after (utf8 " of inl ") s _ λ s₁ e₁.
        fine_then (NameIn s₁) (name s₁) _ (gives_name s₁) λ x s₂ hx.
        fine_after (utf8 " => ") s₂ _ λ s₃ e₃. (
          ((ha, hx.0), hk),
          rw (← d) (let g = hx.1 in
              cc (
                append_assoc (before k) (utf8 "case ") (A ++ s),
                append_assoc (before k) (utf8 "case " ++ (A ++ (utf8 " of inl " ++ (x ++ utf8 " => ")))) s₃,
                append_assoc A (utf8 " of inl " ++ (x ++ utf8 " => ")) s₃,
                append_assoc x (utf8 " => ") s₃,
              )),
        )
    fine_give k (case_first h x) a s hn hk ha e =
        fine_due a.own (wraps Strict within a.shown) _ λ d.
        let A = wrap a.own (display_term Strict a.shown) in
        let H = wrap (wraps Strict within h) (display_term Strict h) in
        fine_after (utf8 ", inr ") s _ λ s₁ e₁.
        fine_then (NameIn s₁) (name s₁) _ (gives_name s₁) λ y s₂ hy.
        fine_after (utf8 " => ") s₂ _ λ s₃ e₃. (
          ((hn.0, hn.1, ha, hy.0), hk),
          rw (← d) (let g = hy.1 in
              cc (
                append_assoc (before k) (utf8 "case " ++ (H ++ (utf8 " of inl " ++ (x ++ utf8 " => ")))) (A ++ s),
                append_assoc H (utf8 " of inl " ++ (x ++ utf8 " => ")) (A ++ s),
                append_assoc x (utf8 " => ") (A ++ s),
                append_assoc (before k) (utf8 "case " ++ (H ++ (utf8 " of inl " ++ (x ++ (utf8 " => " ++ (A ++ (utf8 ", inr " ++ (y ++ utf8 " => ")))))))) s₃,
                append_assoc H (utf8 " of inl " ++ (x ++ (utf8 " => " ++ (A ++ (utf8 ", inr " ++ (y ++ utf8 " => ")))))) s₃,
                append_assoc x (utf8 " => " ++ (A ++ (utf8 ", inr " ++ (y ++ utf8 " => ")))) s₃,
                append_assoc A (utf8 ", inr " ++ (y ++ utf8 " => ")) s₃,
                append_assoc y (utf8 " => ") s₃,
              )),
        )
    fine_give k (case_second h x b y) a s hn hk ha e =
        fine_due a.own (wraps Strict within a.shown) _ λ d.
        let A = wrap a.own (display_term Strict a.shown) in
        let H = wrap (wraps Strict within h) (display_term Strict h) in
        let B = wrap (wraps Strict within b) (display_term Strict b) in
        let to_y = utf8 ", inr " ++ (y ++ utf8 " => ") in
        let to_a = utf8 ", inr " ++ (y ++ (utf8 " => " ++ A)) in (
          hk,
          (hn.0, hn.1, hn.2, hn.3, ha),
          rw (← d)
              (cc (
                append_assoc (before k) (utf8 "case " ++ (H ++ (utf8 " of inl " ++ (x ++ (utf8 " => " ++ (B ++ to_y)))))) (A ++ s),
                append_assoc H (utf8 " of inl " ++ (x ++ (utf8 " => " ++ (B ++ to_y)))) (A ++ s),
                append_assoc x (utf8 " => " ++ (B ++ to_y)) (A ++ s),
                append_assoc B to_y (A ++ s),
                append_assoc y (utf8 " => ") (A ++ s),
                append_assoc H (utf8 " of inl " ++ (x ++ (utf8 " => " ++ (B ++ to_a)))) s,
                append_assoc x (utf8 " => " ++ (B ++ to_a)) s,
                append_assoc B to_a s,
                append_assoc y (utf8 " => " ++ A) s,
              )),
        )
    fine_give k (let_head x y) a s hn hk ha e =
        fine_due a.own (wraps Strict within a.shown) _ λ d.
        let A = wrap a.own (display_term Strict a.shown) in
        fine_after (utf8 " in ") s _ λ t f. (
          ((hn.0, hn.1, ha), hk),
          rw (← d)
              (cc (
                append_assoc (before k) (utf8 "let (" ++ (x ++ (utf8 ", " ++ (y ++ utf8 ") = ")))) (A ++ s),
                append_assoc x (utf8 ", " ++ (y ++ utf8 ") = ")) (A ++ s),
                append_assoc y (utf8 ") = ") (A ++ s),
                append_assoc (before k) (utf8 "let (" ++ (x ++ (utf8 ", " ++ (y ++ (utf8 ") = " ++ (A ++ utf8 " in ")))))) t,
                append_assoc x (utf8 ", " ++ (y ++ (utf8 ") = " ++ (A ++ utf8 " in ")))) t,
                append_assoc y (utf8 ") = " ++ (A ++ utf8 " in ")) t,
                append_assoc A (utf8 " in ") t,
              )),
        )
    fine_give k (let_body x y h) a s hn hk ha e =
        fine_due a.own (wraps Strict within a.shown) _ λ d.
        let A = wrap a.own (display_term Strict a.shown) in
        let H = wrap (wraps Strict within h) (display_term Strict h) in (
          hk,
          (hn.0, hn.1, hn.2, ha),
          rw (← d)
              (cc (
                append_assoc (before k) (utf8 "let (" ++ (x ++ (utf8 ", " ++ (y ++ (utf8 ") = " ++ (H ++ utf8 " in ")))))) (A ++ s),
                append_assoc x (utf8 ", " ++ (y ++ (utf8 ") = " ++ (H ++ utf8 " in ")))) (A ++ s),
                append_assoc y (utf8 ") = " ++ (H ++ utf8 " in ")) (A ++ s),
                append_assoc H (utf8 " in ") (A ++ s),
                append_assoc x (utf8 ", " ++ (y ++ (utf8 ") = " ++ (H ++ (utf8 " in " ++ A))))) s,
                append_assoc y (utf8 ") = " ++ (H ++ (utf8 " in " ++ A))) s,
                append_assoc H (utf8 " in " ++ A) s,
              )),
        )

    -- A turn keeps it.
    fine_some : (x : Option State) (τ : State) → onward x ≡ onward (Some τ) → FineNext x → Fine τ
    unfolding FineNext
    fine_some None τ e h = absurd (grind arith)
    fine_some (Some σ) τ e h = let same : σ ≡ τ = cc in rw (← same) h

    fine_turn : (σ τ : State) → turn types σ ≡ onward (Some τ) → Fine σ → Fine τ
    unfolding turn Fine FineEntries before
    fine_turn (reading k s) τ e h =
        fine_some _ τ e (fine_start k (start_of (word s).value) s (word s).rest (word s).value h.0 h.1 (word_is s) (spelled (word s).value))
    fine_turn (holding k a s) τ e h = fine_some _ τ e (fine_chain k a s h.0 h.1 h.2)
    fine_turn (giving [] a s) τ e h = absurd (grind arith)
    fine_turn (giving (n ∷ k) a s) τ e h = fine_some _ τ e (fine_give k n a s h.0.0 h.0.1 h.1 h.2)

    fine_steps : {σ τ : State} → Steps types σ τ → Fine σ → Fine τ
    fine_steps done h = h
    fine_steps (turned {σ = σ} {τ = τ} e w) h = fine_steps w (fine_turn σ τ e h)

  -- what the machine gives at the end of a text is conventional, and the text is its strict text
  pub machine_sound : (text : List ℕ) (a : Shown (ProofTerm Name)) → Steps types (reading [] text) (giving [] a []) → a.own ≡ false
      → Conventional types a.shown × (text ≡ display_term Strict a.shown)
  unfolding Fine FineEntries before wrap
  machine_sound text a w bare =
      let h = fine_steps text w (tt, refl) in
      let e : text ≡ display_term Strict a.shown ++ [] = rw bare at h.2 in
      (h.1, e ∙ append-nil (display_term Strict a.shown))
