-- What may be said at a state of the machine: where its text has no term within the limits, and where the term is read.
use Prim.Native.Nat.{ℕ, ◌+◌, ◌≤◌}
use mathlib.Core.Path.{◌≡◌, refl, sym, ap, ◌∙◌}
use mathlib.Core.Bool.{Bool, true, false, ◌&&◌, cond, true≢false, and-eq-true_iff}
use Rattle.std.specs.Prelude.{Option, None, Some}
use mathlib.Core.List.{List, [], ◌∷◌, ◌++◌, append_assoc, append-nil}
use native.Mathlib.Omega.{arith}
use lib.ListN.{length}
use lib.Dec.{leb}
use borrow.Author.Tests.{le-leb}
use Rattle.definitions.specs.Outcome.{accepted, refuse}
use Rattle.definitions.specs.Name.{Name, eq_name}
use Rattle.definitions.specs.Text.{occurs, firsts_after, firsts}
use Rattle.definitions.specs.Sheet.{name_limit}
use Rattle.definitions.specs.Term.{Label, ProofTerm, Ident, Pair, Named, Function, Application, LetIn, Case, TypeAscription, Unit, Sorry}
use Rattle.definitions.specs.TermText.{nodes, term_nesting, label_names, parameter_label_names, term_names, node_limit, term_nesting_limit, term_text_limit, Limited, TermOf, reads, refuses, all_admitted}
use Rattle.definitions.specs.TermReader.{Shown, standing, is_limited_label, is_limited_parameter_label, has_limited_labels, is_limited, read_answer}
use Rattle.reading_laws.specs.TermMachine.{State, reading, holding, giving, onward, turn}
use Rattle.reading_laws.proofs.OneTerm.{the_term}
use Rattle.reading_laws.proofs.TermAnswer.{both, limits_test, answer_is}
use Rattle.reading_laws.proofs.MachineReads.{Steps, done, next as turned}
use Rattle.reading_laws.specs.Marks.{Mark, called, labelled, node, label_marks, marks, entries_marks, met, nodes_met, names_met, limited_met}
use Rattle.reading_laws.proofs.Entries.{entries, hand_nesting, hand_within, entries_few}
use Rattle.reading_laws.proofs.MarksMet.{Begins, steps_add}
use Rattle.reading_laws.proofs.MachineAnswer.{way, way_of, one_answer}

-- What was met of a term is what its limits count.

pub nodes_both : (a b : List Mark) → nodes_met (a ++ b) ≡ nodes_met a + nodes_met b
unfolding nodes_met
nodes_both [] b = omega arith
nodes_both (called x ∷ a) b = nodes_both a b
nodes_both (labelled l ∷ a) b = nodes_both a b
nodes_both (node ∷ a) b = let h = nodes_both a b in omega (arith, h)

pub names_both : (a b : List Mark) → names_met (a ++ b) ≡ names_met a ++ names_met b
unfolding names_met
names_both [] b = refl
names_both (called x ∷ a) b = ap (λ l. x ∷ l) (names_both a b)
names_both (labelled l ∷ a) b = let h = names_both a b in cc (append_assoc (label_names l) (names_met a) (names_met b))
names_both (node ∷ a) b = names_both a b

pub limited_first : (a b : List Mark) → limited_met (a ++ b) ≡ true → limited_met a ≡ true
unfolding limited_met
limited_first [] b h = refl
limited_first (called x ∷ a) b h = limited_first a b h
limited_first (labelled l ∷ a) b h = let p = (and-eq-true_iff (is_limited_label l) (limited_met (a ++ b))).0 h in both p.0 (limited_first a b p.1)
limited_first (node ∷ a) b h = limited_first a b h

pub limited_both : (a b : List Mark) → limited_met a ≡ true → limited_met b ≡ true → limited_met (a ++ b) ≡ true
unfolding limited_met
limited_both [] b h k = k
limited_both (called x ∷ a) b h k = limited_both a b h k
limited_both (labelled l ∷ a) b h k = let p = (and-eq-true_iff (is_limited_label l) (limited_met a)).0 h in both p.0 (limited_both a b p.1 k)
limited_both (node ∷ a) b h k = limited_both a b h k

limited_second : (a b : List Mark) → limited_met (a ++ b) ≡ true → limited_met b ≡ true
unfolding limited_met
limited_second [] b h = h
limited_second (called x ∷ a) b h = limited_second a b h
limited_second (labelled l ∷ a) b h = limited_second a b ((and-eq-true_iff (is_limited_label l) (limited_met (a ++ b))).0 h).1
limited_second (node ∷ a) b h = limited_second a b h

pub nodes_label : (l : Option (Label Name)) → nodes_met (label_marks l) ≡ 0
unfolding nodes_met label_marks
nodes_label None = refl
nodes_label (Some l) = refl

pub nodes_met_lem : (t : ProofTerm Name) → nodes_met (marks t) ≡ nodes t
unfolding nodes_met marks nodes
nodes_met_lem (Ident x) = refl
nodes_met_lem (Pair a b) =
    let f = nodes_both (marks a) (marks b ++ (node ∷ [])) in let g = nodes_both (marks b) (node ∷ []) in let h = nodes_met_lem a in let k = nodes_met_lem b in omega (arith, f, g, h, k)
nodes_met_lem (Named f a) = let g = nodes_both (marks a) (node ∷ []) in let h = nodes_met_lem a in omega (arith, g, h)
nodes_met_lem (Function x l a) =
    let f = nodes_both (label_marks l) (marks a ++ (node ∷ [])) in let g = nodes_both (marks a) (node ∷ []) in let h = nodes_met_lem a in let k = nodes_label l in omega (arith, f, g, h, k)
nodes_met_lem (Application a b) =
    let f = nodes_both (marks a) (marks b ++ (node ∷ [])) in let g = nodes_both (marks b) (node ∷ []) in let h = nodes_met_lem a in let k = nodes_met_lem b in omega (arith, f, g, h, k)
nodes_met_lem (LetIn x y a b) =
    let f = nodes_both (marks a) (marks b ++ (node ∷ [])) in let g = nodes_both (marks b) (node ∷ []) in let h = nodes_met_lem a in let k = nodes_met_lem b in omega (arith, f, g, h, k)
nodes_met_lem (Case a x b y c) =
    let f = nodes_both (marks a) (called x ∷ (marks b ++ (called y ∷ (marks c ++ (node ∷ []))))) in
    let g = nodes_both (marks b) (called y ∷ (marks c ++ (node ∷ []))) in
    let i = nodes_both (marks c) (node ∷ []) in
    let h = nodes_met_lem a in let k = nodes_met_lem b in let j = nodes_met_lem c in omega (arith, f, g, i, h, k, j)
nodes_met_lem (TypeAscription a l) = let g = nodes_both (marks a) (labelled l ∷ node ∷ []) in let h = nodes_met_lem a in omega (arith, g, h)
nodes_met_lem Unit = refl
nodes_met_lem Sorry = refl

pub names_label : (l : Option (Label Name)) → names_met (label_marks l) ≡ parameter_label_names l
unfolding names_met label_marks parameter_label_names
names_label None = refl
names_label (Some l) = append-nil (label_names l)

names_node : (ms : List Mark) → names_met (ms ++ (node ∷ [])) ≡ names_met ms
unfolding names_met
names_node ms = names_both ms (node ∷ []) ∙ append-nil (names_met ms)

pub names_met_lem : (t : ProofTerm Name) → names_met (marks t) ≡ term_names t
unfolding names_met marks term_names
names_met_lem (Ident x) = refl
names_met_lem (Pair a b) = rw (names_both (marks a) (marks b ++ (node ∷ [])), names_node (marks b), names_met_lem a, names_met_lem b)
names_met_lem (Named f a) = rw (names_node (marks a), names_met_lem a)
names_met_lem (Function x l a) = rw (names_both (label_marks l) (marks a ++ (node ∷ [])), names_node (marks a), names_label l, names_met_lem a)
names_met_lem (Application a b) = rw (names_both (marks a) (marks b ++ (node ∷ [])), names_node (marks b), names_met_lem a, names_met_lem b)
names_met_lem (LetIn x y a b) = rw (names_both (marks a) (marks b ++ (node ∷ [])), names_node (marks b), names_met_lem a, names_met_lem b)
names_met_lem (Case a x b y c) =
    rw (
      names_both (marks a) (called x ∷ (marks b ++ (called y ∷ (marks c ++ (node ∷ []))))),
      names_both (marks b) (called y ∷ (marks c ++ (node ∷ []))),
      names_node (marks c),
      names_met_lem a,
      names_met_lem b,
      names_met_lem c,
    )
names_met_lem (TypeAscription a l) = rw (names_both (marks a) (labelled l ∷ node ∷ []), append-nil (label_names l), names_met_lem a)
names_met_lem Unit = refl
names_met_lem Sorry = refl

limited_label : (l : Option (Label Name)) → limited_met (label_marks l) ≡ true → is_limited_parameter_label l ≡ true
unfolding limited_met label_marks is_limited_parameter_label
limited_label None h = refl
limited_label (Some l) h = ((and-eq-true_iff (is_limited_label l) true).0 h).0

pub label_limited : (l : Option (Label Name)) → is_limited_parameter_label l ≡ true → limited_met (label_marks l) ≡ true
unfolding limited_met label_marks is_limited_parameter_label
label_limited None h = refl
label_limited (Some l) h = both h refl

pub limited_met_lem : (t : ProofTerm Name) → limited_met (marks t) ≡ true → has_limited_labels t ≡ true
unfolding limited_met marks has_limited_labels
limited_met_lem (Ident x) h = refl
limited_met_lem (Pair a b) h =
    both (limited_met_lem a (limited_first (marks a) (marks b ++ (node ∷ [])) h)) (limited_met_lem b (limited_first (marks b) (node ∷ []) (limited_second (marks a) (marks b ++ (node ∷ [])) h)))
limited_met_lem (Named f a) h = limited_met_lem a (limited_first (marks a) (node ∷ []) h)
limited_met_lem (Function x l a) h =
    both (limited_label l (limited_first (label_marks l) (marks a ++ (node ∷ [])) h)) (limited_met_lem a (limited_first (marks a) (node ∷ []) (limited_second (label_marks l) (marks a ++ (node ∷ [])) h)))
limited_met_lem (Application a b) h =
    both (limited_met_lem a (limited_first (marks a) (marks b ++ (node ∷ [])) h)) (limited_met_lem b (limited_first (marks b) (node ∷ []) (limited_second (marks a) (marks b ++ (node ∷ [])) h)))
limited_met_lem (LetIn x y a b) h =
    both (limited_met_lem a (limited_first (marks a) (marks b ++ (node ∷ [])) h)) (limited_met_lem b (limited_first (marks b) (node ∷ []) (limited_second (marks a) (marks b ++ (node ∷ [])) h)))
limited_met_lem (Case a x b y c) h =
    let f = limited_second (marks a) (called x ∷ (marks b ++ (called y ∷ (marks c ++ (node ∷ []))))) h in
    let g = limited_second (marks b) (called y ∷ (marks c ++ (node ∷ []))) f in
    both (limited_met_lem a (limited_first (marks a) _ h)) (both (limited_met_lem b (limited_first (marks b) _ f)) (limited_met_lem c (limited_first (marks c) (node ∷ []) g)))
limited_met_lem (TypeAscription a l) h =
    both (limited_met_lem a (limited_first (marks a) (labelled l ∷ node ∷ []) h))
    ((and-eq-true_iff (is_limited_label l) true).0 (limited_second (marks a) (labelled l ∷ node ∷ []) h)).0
limited_met_lem Unit h = refl
limited_met_lem Sorry h = refl

pub met_limited : (t : ProofTerm Name) → has_limited_labels t ≡ true → limited_met (marks t) ≡ true
unfolding limited_met marks has_limited_labels
met_limited (Ident x) h = refl
met_limited (Pair a b) h =
    let p = (and-eq-true_iff (has_limited_labels a) (has_limited_labels b)).0 h in limited_both (marks a) _ (met_limited a p.0) (limited_both (marks b) (node ∷ []) (met_limited b p.1) refl)
met_limited (Named f a) h = limited_both (marks a) (node ∷ []) (met_limited a h) refl
met_limited (Function x l a) h =
    let p = (and-eq-true_iff (is_limited_parameter_label l) (has_limited_labels a)).0 h in
    limited_both (label_marks l) _ (label_limited l p.0) (limited_both (marks a) (node ∷ []) (met_limited a p.1) refl)
met_limited (Application a b) h =
    let p = (and-eq-true_iff (has_limited_labels a) (has_limited_labels b)).0 h in limited_both (marks a) _ (met_limited a p.0) (limited_both (marks b) (node ∷ []) (met_limited b p.1) refl)
met_limited (LetIn x y a b) h =
    let p = (and-eq-true_iff (has_limited_labels a) (has_limited_labels b)).0 h in limited_both (marks a) _ (met_limited a p.0) (limited_both (marks b) (node ∷ []) (met_limited b p.1) refl)
met_limited (Case a x b y c) h =
    let p = (and-eq-true_iff (has_limited_labels a) (has_limited_labels b && has_limited_labels c)).0 h in
    let q = (and-eq-true_iff (has_limited_labels b) (has_limited_labels c)).0 p.1 in
    limited_both (marks a) _ (met_limited a p.0) (limited_both (marks b) _ (met_limited b q.0) (limited_both (marks c) (node ∷ []) (met_limited c q.1) refl))
met_limited (TypeAscription a l) h =
    let p = (and-eq-true_iff (has_limited_labels a) (is_limited_label l)).0 h in limited_both (marks a) _ (met_limited a p.0) (both p.1 refl)
met_limited Unit h = refl
met_limited Sorry h = refl

-- more names are no fewer different ones
firsts_fewer : (seen xs ys : List Name) → length (firsts_after eq_name seen xs) ≤ length (firsts_after eq_name seen (xs ++ ys))
unfolding firsts_after
firsts_fewer seen [] ys = omega arith
firsts_fewer seen (x ∷ xs) ys = go (occurs eq_name x seen) (firsts_fewer seen xs ys) (firsts_fewer (x ∷ seen) xs ys)
  where
    go : (b : Bool) → length (firsts_after eq_name seen xs) ≤ length (firsts_after eq_name seen (xs ++ ys))
        → length (firsts_after eq_name (x ∷ seen) xs) ≤ length (firsts_after eq_name (x ∷ seen) (xs ++ ys))
        → length (cond b (firsts_after eq_name seen xs) (x ∷ firsts_after eq_name (x ∷ seen) xs))
        ≤ length (cond b (firsts_after eq_name seen (xs ++ ys)) (x ∷ firsts_after eq_name (x ∷ seen) (xs ++ ys)))
    go true h k = h
    go false h k = omega (arith, k)

-- how many different names were met
unfoldable pub different_names : List Mark → ℕ
different_names ms = length (firsts eq_name (names_met ms))

-- a state passes no limit
pub record Fits (σ : State) : Type 0 where
  pub few_entries : length (entries σ) ≤ 767
  pub shallow : hand_nesting σ ≤ term_nesting_limit
  pub few_nodes : nodes_met (met σ) ≤ node_limit
  pub few_names : different_names (met σ) ≤ name_limit
  pub small_labels : limited_met (met σ) ≡ true

few_met : (ms : List Mark) (t : ProofTerm Name) → Begins ms (marks t) → length (firsts eq_name (term_names t)) ≤ name_limit → different_names ms ≤ name_limit
unfolding different_names firsts
few_met ms t b h =
    let all : term_names t ≡ names_met ms ++ names_met b.more = sym (names_met_lem t) ∙ (ap names_met b.is ∙ names_both ms b.more) in
    let f = firsts_fewer [] (names_met ms) (names_met b.more) in
    let k : length (firsts_after eq_name [] (names_met ms ++ names_met b.more)) ≤ name_limit = rw all at h in
    omega (arith, f, k)

labels_limited : (t : ProofTerm Name) → Limited t → has_limited_labels t ≡ true
unfolding is_limited
labels_limited t h =
    let p = (and-eq-true_iff (leb (nodes t) node_limit) _).0 (limits_test t h) in
    let q = (and-eq-true_iff (leb (term_nesting t) term_nesting_limit) _).0 p.1 in
    ((and-eq-true_iff (leb (length (firsts eq_name (term_names t))) name_limit) (has_limited_labels t)).0 q.1).1

-- With the caller's list of datatype names and the text:
module _ (types : List Name) (text : List ℕ) where
  -- a state that the machine comes to
  pub record Reached (σ : State) : Type 0 where
    pub short : length text ≤ term_text_limit
    pub listed : all_admitted types ≡ true
    pub turns : Steps types (reading [] text) σ

  pub reached_first : length text ≤ term_text_limit → all_admitted types ≡ true → Reached (reading [] text)
  reached_first short listed = record { short = short; listed = listed; turns = done }

  one_more : {σ τ υ : State} → Steps types σ τ → turn types τ ≡ onward (Some υ) → Steps types σ υ
  one_more done e = turned e done
  one_more (turned f w) e = turned f (one_more w e)

  pub reached_next : {σ τ : State} → Reached σ → turn types σ ≡ onward (Some τ) → Reached τ
  reached_next h e = record { short = h.short; listed = h.listed; turns = one_more h.turns e }

  ends : (a : Shown (ProofTerm Name)) (s : List ℕ) (x : Option State) → turn types (giving [] a s) ≡ onward x → ⊥
  unfolding turn
  ends a s x e = absurd (grind arith)

  same_next : (σ τ υ : State) → turn types σ ≡ onward (Some τ) → turn types σ ≡ onward (Some υ) → τ ≡ υ
  same_next σ τ υ e f = cc

  -- the turns to the end pass every state that is reached
  onwards : {s σ υ : State} (a : Shown (ProofTerm Name)) (r : List ℕ) → Steps types s σ → Steps types s υ → υ ≡ giving [] a r → Steps types σ (giving [] a r)
  onwards a r done w e = rw (← e) w
  onwards a r (turned {σ = s} {τ = τ} f v) done e = absurd (ends a r (Some τ) (rw (← e) f))
  onwards a r (turned {σ = s} {τ = τ} f v) (turned {τ = ρ} g w) e = let q : ρ ≡ τ = same_next s ρ τ g f in onwards a r v (rw q at w) e

  stuck : {σ υ : State} (a : Shown (ProofTerm Name)) → Steps types σ υ → υ ≡ giving [] a [] → turn types σ ≡ onward None → ⊥
  stuck a done q e = ends a [] None (rw q at e)
  stuck a (turned {τ = τ} f w) q e = absurd (grind arith)

  module _ {σ : State} (h : Reached σ) where
    to_term : (t : ProofTerm Name) → TermOf types text t → Steps types σ (giving [] (standing false t) [])
    to_term t of = onwards (standing false t) [] h.turns (way types text t of) refl

    -- where the text has a term, every state that is reached passes no limit
    pub fits : (t : ProofTerm Name) → TermOf types text t → Fits σ
    unfolding met entries_marks standing
    fits t of =
        let w = to_term t of in
        let b : Begins (met σ) (marks t) = steps_add types w in
        let lim = of.limited in
        let n : nodes_met (marks t) ≡ nodes_met (met σ) + nodes_met b.more = ap nodes_met b.is ∙ nodes_both (met σ) b.more in
        let n' = nodes_met_lem t in
        record {
          few_entries = entries_few types t [] w lim.shallow;
          shallow = let d = hand_within types t [] w in omega (arith, d, lim.shallow);
          few_nodes = omega (arith, n, n', lim.few_nodes);
          few_names = few_met (met σ) t b lim.few_names;
          small_labels = limited_first (met σ) b.more (rw b.is at (met_limited t (labels_limited t lim)));
        }

    -- so 20 is the answer where a turn fails, where a limit is passed, where text is left, and where the whole stands in brackets
    none_refused : ((t : ProofTerm Name) → TermOf types text t → ⊥) → read_answer types text ≡ refuse 20 0
    none_refused no_term = one_answer types text (answer_is types text) (refuses (λ t r. no_term t r.the_term.one))

    pub unfit_refused : (Fits σ → ⊥) → read_answer types text ≡ refuse 20 0
    unfit_refused no-fit = none_refused (λ t of. no-fit (fits t of))

    pub stuck_refused : turn types σ ≡ onward None → read_answer types text ≡ refuse 20 0
    stuck_refused e = none_refused (λ t of. stuck (standing false t) (to_term t of) refl e)

  -- the end that is reached is the end of the way
  last_is : (a : Shown (ProofTerm Name)) (s : List ℕ) (t : ProofTerm Name) → Reached (giving [] a s) → TermOf types text t → giving [] a s ≡ giving [] (standing false t) []
  last_is a s t h of = only (to_term h t of)
    where
      only : {υ : State} → Steps types (giving [] a s) υ → giving [] a s ≡ υ
      only done = refl
      only (turned {τ = τ} f w) = absurd (ends a s (Some τ) f)

  unfoldable left : State → List ℕ
  left (reading k s) = s
  left (holding k a s) = s
  left (giving k a s) = s

  unfoldable owned : State → Bool
  owned (reading k s) = false
  owned (holding k a s) = a.own
  owned (giving k a s) = a.own

  pub rest_refused : (a : Shown (ProofTerm Name)) (s : List ℕ) → Reached (giving [] a s) → 1 ≤ length s → read_answer types text ≡ refuse 20 0
  unfolding left
  rest_refused a s h some_left = none_refused h (λ t of. let e : s ≡ [] = ap left (last_is a s t h of) in let n : length s ≡ 0 = ap length e in absurd (omega (arith, n, some_left)))

  pub own_refused : (a : Shown (ProofTerm Name)) (s : List ℕ) → Reached (giving [] a s) → a.own ≡ true → read_answer types text ≡ refuse 20 0
  unfolding owned standing
  own_refused a s h own = none_refused h (λ t of. let e : a.own ≡ false = ap owned (last_is a s t h of) in absurd (true≢false (sym own ∙ e)))

  -- and the term in hand is the answer where neither is and it passes no limit
  pub last_accepted : (a : Shown (ProofTerm Name)) → Reached (giving [] a []) → a.own ≡ false → Fits (giving [] a []) → read_answer types text ≡ accepted a.shown
  unfolding is_limited met entries_marks hand_nesting different_names
  last_accepted a h bare f =
      let n = nodes_met_lem a.shown in
      let few : length (firsts eq_name (term_names a.shown)) ≤ name_limit = rw (names_met_lem a.shown) at f.few_names in
      let limits : is_limited a.shown ≡ true =
      both (le-leb (nodes a.shown) node_limit (omega (arith, n, f.few_nodes)))
      (both (le-leb _ _ f.shallow) (both (le-leb _ _ few) (limited_met_lem a.shown f.small_labels))) in
      let of = way_of types text a h.turns bare limits in
      one_answer types text (answer_is types text) (reads a.shown (record { short = h.short; listed = h.listed; the_term = the_term types text a.shown of }))

  -- 20 also where a turn leads on to nothing but a state that passes a limit
  pub unturned_refused : {σ : State} → Reached σ → (x : Option State) → turn types σ ≡ onward x → ((τ : State) → turn types σ ≡ onward (Some τ) → Fits τ → ⊥)
      → read_answer types text ≡ refuse 20 0
  unturned_refused h None e no-fit = stuck_refused h e
  unturned_refused h (Some τ) e no-fit = unfit_refused (reached_next h e) (λ f. no-fit τ e f)
